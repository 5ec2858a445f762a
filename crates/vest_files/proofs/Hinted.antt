-- A hint is a start of the flow, and so a member where an instruction stands.
use Rattle.std.proofs.Common.{◌≡◌, ℕ, nat_eq, Bool, true, false, ◌||◌, List, ◌++◌, map, Option, Some, None, refl, ◌∙◌}
use Rattle.std.specs.Prelude.{is_some}
use Rattle.std.specs.Option.{option_map_or}
use Rattle.std.proofs.lemmas.List.Folds.{list_any-append}
use Rattle.vax_form.specs.Targets.{has}
use Rattle.vax_form.specs.declared.instr.Instr.{Instr}
use Rattle.flow_discovery.specs.Mapped.{has_block}
use Rattle.flow_discovery.specs.Reach.{instruction_at, start}
use Rattle.flow_discovery.specs.Starts.{starts}
use Rattle.image_file.specs.Values.{ImageValue}
use Rattle.image_file.specs.declared.image.Start.{Start}
use Rattle.vest_files.specs.Hinted.{HintsAreMapped}

or_right : (a b : Bool) → b ≡ true → (a || b) ≡ true
or_right true b h = refl
or_right false b h = h

has_behind : (addresses hints : List ℕ) (address : ℕ) → has hints address ≡ true → has (addresses ++ hints) address ≡ true
has_behind addresses hints address h = list_any-append (nat_eq address) addresses hints ∙ or_right (has addresses address) (has hints address) h

is_start : (image : ImageValue) (hints : List ℕ) (address : ℕ) → has hints address ≡ true → has (starts image hints) address ≡ true
is_start image hints address h =
    has_behind (map (λ (thread : Start). thread.pc) image.threads ++ image.entries) hints address h

stands : (o : Option Instr) (test : Instr → Bool) → option_map_or test o false ≡ true → is_some o ≡ true
stands None test h = absurd (cc h)
stands (Some instr) test h = refl

pub hints_are_mapped : HintsAreMapped
hints_are_mapped target image hints code address is hinted built =
    (is.mapped address).1 (record {
      member = start address (is_start image hints address hinted) (stands (instruction_at image.pages address) (λ instr. has_block instr image.pages) built);
      built = built;
    })
