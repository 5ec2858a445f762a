-- Memory can make what a processor asks: the access of a reference that fits its page, and that of a step of Alpha code.
use Rattle.std.proofs.Common.{◌≡◌, ℕ, ◌+◌, ◌-◌, ◌*◌, ◌/◌, ◌%◌, ◌^◌, ◌<◌, ◌≤◌, ◌==◌, ◌&&◌, ◌||◌, not, Bool, true, false, if◌then◌else◌, Option, Some, None, refl, ap, ◌∙◌, subst, arith, lit<}
use Rattle.std.specs.List.{list_any}
use Rattle.std.specs.Prelude.{ℤ}
use Rattle.std.proofs.lemmas.Bool.{and_parts, eqb-true}
use Rattle.std.proofs.lemmas.Nat.{pow_pos, pow-add}
use Rattle.std.proofs.Math.Nat.{mod-lt, mul-lt-mul_of_pos_right}
use Rattle.std.proofs.Math.Pow.{pow_mono, pow-sub-lt}
use Rattle.vt_words.specs.Quad.{IsCount}
use Rattle.alpha_encode.specs.declared.instr.AlphaInstr.{AlphaInstr}
use Rattle.alpha_encode.specs.declared.instr.AlphaInstr.TheVariants.{Memory, Branch, Operate, Jump, Pal}
use Rattle.alpha_encode.specs.declared.instr.MemoryOp.{MemoryOp}
use Rattle.alpha_meaning.specs.Act.{Does, Goes, Calls, act, memory_act_by}
use Rattle.alpha_meaning.specs.Act as acts
use Rattle.alpha_meaning.specs.Memory.{bytes_of, kind_of, stores}
use Rattle.alpha_meaning.specs.Pieces.{quad_of}
use Rattle.alpha_meaning.specs.State.{Alpha}
use Rattle.alpha_meaning.proofs.Rows.{bytes_count, count_within}
use Rattle.alpha_meaning.specs.declared.access.AlphaAccess.{AlphaAccess}
use Rattle.alpha_meaning.specs.declared.access.AlphaKind.{AlphaKind}
use Rattle.alpha_meaning.specs.declared.access.AlphaKind.TheVariants as alpha
use Rattle.block_law.specs.Follows.{Call, Probe, LookUp, Serve, Raise, Arithmetic, Switch, Other, call_of}
use Rattle.block_law.specs.Placements.{target}
use Rattle.block_law.specs.Translations.{fetch_of}
use Rattle.exception_records.specs.Points.{point_at, raised_at}
use Rattle.exception_records.specs.declared.points.Point.{Point}
use Rattle.exception_records.specs.declared.rules.Rules.{Rules}
use Rattle.memory_core.specs.Changes.{IsInRange}
use Rattle.memory_core.specs.Requests.{CanMake}
use Rattle.memory_core.specs.declared.entry.Change.TheVariants.{Nothing, Byte}
use Rattle.memory_core.specs.declared.entry.Kind.TheVariants as kinds
use Rattle.memory_core.specs.declared.entry.Request.{Request}
use Rattle.memory_core.specs.declared.entry.SetUp.{SetUp}
use Rattle.vax_form.specs.Pages.{is_allowed}
use Rattle.vax_form.specs.PageTable.{has_page}
use Rattle.vax_form.specs.Ranges.{FitsPage}
use Rattle.vax_form.specs.State.{with_pending}
use Rattle.vax_form.specs.Tree.{Finish, Exit}
use Rattle.vax_form.specs.declared.pages.PageRange.{PageRange}
use Rattle.vax_form.specs.declared.pages.Pages.{Pages}
use Rattle.vax_form.specs.declared.state.Exception.{Exception}
use Rattle.vax_form.specs.declared.state.Pending.TheVariants.{Resume}
use Rattle.vax_form.specs.declared.state.RefKind.{RefKind}
use Rattle.vax_form.specs.declared.state.RefKind.TheVariants.{Read, Write, Add, SetBit, ClearBit, Put, Get}
use Rattle.system_model.specs.Laws.{ReferencesCanBeMade, StepsCanBeMade}
use Rattle.system_model.specs.Processors.{request_of}
use Rattle.system_model.specs.Quadwords.{stored}
use Rattle.system_model.specs.Settings.{Setting}
use Rattle.system_model.specs.Steps.{Comes, Place, Leaves, Next, Moves, Wants, Stuck, Moment, state_at, behind, with_r0, is_defined, accesses, request_for, raised, exchanged, served, called, does, next_by, next}

-- ---- changes

-- so many bytes of a value, from a byte of a quadword on
stored_range : (place count value : ℕ) → place + count ≤ 8 → value < 2 ^ (8 * count) → IsInRange (stored place count value)
stored_range place count value fits small = (mask, bytes)
  where
    mask : 2 ^ (place + count) - 2 ^ place < 2 ^ 8
    mask = omega (arith, pow-sub-lt (place + count) (pow_pos place), pow_mono {i = place + count} {j = 8} fits)

    bytes : value * 2 ^ (8 * place) < 2 ^ 64
    bytes =
        let less : value * 2 ^ (8 * place) < 2 ^ (8 * count) * 2 ^ (8 * place) = mul-lt-mul_of_pos_right small (pow_pos (8 * place)) in
        let few : 8 * count + 8 * place ≤ 64 = omega arith in
        omega (arith, less, pow-add 2 (8 * count) (8 * place), pow_mono {i = 8 * count + 8 * place} {j = 64} few)

-- ---- references

-- a quadword lies in one page
page_of : (address : ℕ) → (address - address % 8) / 512 ≡ address / 512
page_of address = omega arith

same_page : (pages : Pages) (write : Bool) (a b : ℕ) → a / 512 ≡ b / 512 → is_allowed pages b write ≡ true → is_allowed pages a write ≡ true
same_page pages write a b same may = ap (λ (page : ℕ). list_any (λ (r : PageRange). has_page page r && (not write || r.writable)) pages.ranges) same ∙ may

quad_aligned : (address : ℕ) → (address - address % 8) % 8 ≡ 0
quad_aligned address = omega arith

bit_range : (address bit : ℕ) → bit < 8 → 8 * (address % 8) + bit < 64
bit_range address bit small = omega arith

word_range : (address : ℕ) → address % 2 ≡ 0 → (address % 8) % 2 ≡ 0
word_range address even = omega arith

can_by : (kind : RefKind) (set_up : SetUp) (thread retired address count : ℕ) → FitsPage set_up.image.pages (record { address = address; count = count; kind = kind })
    → CanMake set_up (request_of thread retired (record { address = address; count = count; kind = kind }))
can_by Read set_up thread retired address count fits = record {
  aligned = λ _. quad_aligned address;
  page = λ _. same_page set_up.image.pages false (address - address % 8) address (page_of address) fits.allowed;
  change = record { fits = refl; range = tt };
}
can_by (Write value) set_up thread retired address count fits = record {
  aligned = λ _. quad_aligned address;
  page = λ _. same_page set_up.image.pages true (address - address % 8) address (page_of address) fits.allowed;
  change = record { fits = refl; range = stored_range (address % 8) count value (fits.quadword).within fits.value };
}
can_by (Add value) set_up thread retired address count fits = record {
  aligned = λ _. quad_aligned address;
  page = λ _. same_page set_up.image.pages true (address - address % 8) address (page_of address) fits.allowed;
  change = record { fits = refl; range = (mod-lt address (lit< tt), word_range address (fits.value).0, (fits.value).1) };
}
can_by (SetBit bit) set_up thread retired address count fits = record {
  aligned = λ _. quad_aligned address;
  page = λ _. same_page set_up.image.pages true (address - address % 8) address (page_of address) fits.allowed;
  change = record { fits = refl; range = bit_range address bit (fits.quadword).bit };
}
can_by (ClearBit bit) set_up thread retired address count fits = record {
  aligned = λ _. quad_aligned address;
  page = λ _. same_page set_up.image.pages true (address - address % 8) address (page_of address) fits.allowed;
  change = record { fits = refl; range = bit_range address bit (fits.quadword).bit };
}
can_by (Put byte) set_up thread retired address count fits = record {
  aligned = λ memory. absurd (cc memory);
  page = λ memory. absurd (cc memory);
  change = record { fits = refl; range = fits.value };
}
can_by Get set_up thread retired address count fits = record {
  aligned = λ memory. absurd (cc memory);
  page = λ memory. absurd (cc memory);
  change = record { fits = refl; range = tt };
}

pub references_can_be_made : ReferencesCanBeMade
references_can_be_made set_up thread retired reference fits = can_by reference.kind set_up thread retired reference.address reference.count fits

-- ---- accesses of Alpha code

record FitsBytes (a : AlphaAccess) : Type 0 where
  count : IsCount a.bytes
  value : a.value < 2 ^ (8 * a.bytes)

AllFit : Does → Type 0
AllFit (Goes c) = Unit {0}
AllFit (acts.Asks a) = FitsBytes a
AllFit (Calls number) = Unit {0}

value_below : (b : Bool) (register bytes : ℕ) → (if b then register % 2 ^ (8 * bytes) else 0) < 2 ^ (8 * bytes)
value_below true register bytes = mod-lt register (pow_pos (8 * bytes))
value_below false register bytes = pow_pos (8 * bytes)

memory_fits : (kind : Option AlphaKind) (op : MemoryOp) (ra rb : ℕ) (disp : ℤ) (c : Alpha) → AllFit (memory_act_by kind op ra rb disp c)
unfolding AllFit
memory_fits None op ra rb disp c = tt
memory_fits (Some kind) op ra rb disp c = record { count = bytes_count op; value = value_below (stores kind) (c.regs ra) (bytes_of op) }

act_fits : (i : AlphaInstr) (c : Alpha) → AllFit (act i c)
unfolding AllFit
act_fits (Memory op ra rb disp) c = memory_fits (kind_of op) op ra rb disp c
act_fits (Branch op ra disp) c = tt
act_fits (Operate op ra rb rc) c = tt
act_fits (Jump ra rb) c = tt
act_fits (Pal n) c = tt

eighth : (address : ℕ) → address / 8 * 8 % 8 ≡ 0
eighth address = omega arith

access_by : (kind : AlphaKind) (setting : Setting) (set_up : SetUp) (m : Moment) (address bytes value : ℕ) → setting.meaning.pages ≡ set_up.image.pages
    → FitsBytes (record { kind = kind; address = address; bytes = bytes; value = value }) → address % bytes ≡ 0 → is_allowed setting.meaning.pages (address / 8 * 8) (stores kind) ≡ true
    → CanMake set_up (request_for m (record { kind = kind; address = address; bytes = bytes; value = value }))
access_by alpha.Load setting set_up m address bytes value pages fits aligned may = record {
  aligned = λ _. eighth address;
  page = λ _. subst (λ (p : Pages). is_allowed p (address / 8 * 8) false ≡ true) pages may;
  change = record { fits = refl; range = tt };
}
access_by alpha.LoadLocked setting set_up m address bytes value pages fits aligned may = record {
  aligned = λ _. eighth address;
  page = λ _. subst (λ (p : Pages). is_allowed p (address / 8 * 8) false ≡ true) pages may;
  change = record { fits = refl; range = tt };
}
access_by alpha.Store setting set_up m address bytes value pages fits aligned may = record {
  aligned = λ _. eighth address;
  page = λ _. subst (λ (p : Pages). is_allowed p (address / 8 * 8) true ≡ true) pages may;
  change = record { fits = refl; range = stored_range (address % 8) bytes value (count_within fits.count address aligned) fits.value };
}
access_by alpha.StoreConditional setting set_up m address bytes value pages fits aligned may = record {
  aligned = λ _. eighth address;
  page = λ _. subst (λ (p : Pages). is_allowed p (address / 8 * 8) true ≡ true) pages may;
  change = record { fits = refl; range = stored_range (address % 8) bytes value (count_within fits.count address aligned) fits.value };
}

-- ---- steps of Alpha code

-- memory can make what the step wants
abbrev CanNext : SetUp → Next → Type 0
CanNext set_up (Moves place) = Unit {0}
CanNext set_up (Wants request on) = CanMake set_up request
CanNext set_up Stuck = Unit {0}

module _ (setting : Setting) (set_up : SetUp) (pages : setting.meaning.pages ≡ set_up.image.pages) (m : Moment) where
  can_access : (b : Bool) (i : AlphaInstr) (a : AlphaAccess) (c : Alpha) → is_defined setting a ≡ b → FitsBytes a → CanNext set_up (accesses b setting m i a c)
  can_access true i a c defined fits =
      let tests = and_parts (a.address % a.bytes == 0) (is_allowed setting.meaning.pages (quad_of a) (stores a.kind)) defined in
      access_by a.kind setting set_up m a.address a.bytes a.value pages fits (eqb-true (a.address % a.bytes) 0 tests.0) tests.1
  can_access false i a c defined fits = tt

  can_raise : (o : Option Exception) → CanNext set_up (raised o)
  can_raise None = tt
  can_raise (Some x) = tt

  can_choose : (first second third fourth fifth sixth : Bool) (exit : Place) (put get : Request) (stays : Place) (gets : ℕ → Bool → Place) (tells swaps resumes none : Place)
      → CanMake set_up put → CanMake set_up get
      → CanNext set_up (if first then Moves exit else if second then Wants put (λ before success. stays) else if third then Wants get gets else if fourth then Moves tells else if fifth then Moves swaps else if sixth then Moves resumes else Moves none)
  can_choose true b c d e f exit put get stays gets tells swaps resumes none p g = tt
  can_choose false true c d e f exit put get stays gets tells swaps resumes none p g = p
  can_choose false false true d e f exit put get stays gets tells swaps resumes none p g = g
  can_choose false false false true e f exit put get stays gets tells swaps resumes none p g = tt
  can_choose false false false false true f exit put get stays gets tells swaps resumes none p g = tt
  can_choose false false false false false true exit put get stays gets tells swaps resumes none p g = tt
  can_choose false false false false false false exit put get stays gets tells swaps resumes none p g = tt

  put_request : (byte : ℕ) → Request
  put_request byte = record { processor = m.thread; retired = m.retired; kind = kinds.Put; quad = 0; change = Byte (byte % 256) }

  get_request : Request
  get_request = record { processor = m.thread; retired = m.retired; kind = kinds.Get; quad = 0; change = Nothing }

  can_put : (byte : ℕ) → CanMake set_up (put_request byte)
  unfolding put_request
  can_put byte = record { aligned = λ memory. absurd (cc memory); page = λ memory. absurd (cc memory); change = record { fits = refl; range = mod-lt byte (lit< tt) } }

  can_get : CanMake set_up get_request
  unfolding get_request
  can_get = record { aligned = λ memory. absurd (cc memory); page = λ memory. absurd (cc memory); change = record { fits = refl; range = tt } }

  can_serve : (code : ℕ) (rules : Rules) (c : Alpha) → CanNext set_up (served setting m code rules c)
  unfolding put_request get_request
  can_serve code rules c =
      can_choose (code == 1) (code == 2) (code == 3) (code == 4) (code == 5) (code == 6) (Leaves (Comes (Exit (state_at m.boundary c.regs (target c.regs) rules m.held))))
      (put_request (c.regs 0)) get_request
      (behind setting m c c.regs) (λ before success. behind setting m c (with_r0 c.regs before)) (behind setting m c (with_r0 c.regs m.thread))
      (Leaves (Comes (Finish (exchanged (state_at m.boundary c.regs (target c.regs) rules m.held)))))
      (Leaves (Comes (Finish (with_pending Resume (state_at m.boundary c.regs (target c.regs) rules m.held)))))
      (behind setting m c (with_r0 c.regs 0)) (can_put (c.regs 0)) can_get

  can_call : (call : Call) (point : Option Point) (c : Alpha) → CanNext set_up (called setting m call point c)
  can_call Probe (Some point) c = tt
  can_call Probe None c = tt
  can_call Serve (Some point) c = can_serve (c.regs 21 % 2 ^ 16) point.rules c
  can_call Serve None c = tt
  can_call Raise (Some point) c = can_raise (raised_at point.raises)
  can_call Raise None c = tt
  can_call Arithmetic (Some point) c = tt
  can_call Arithmetic None c = tt
  can_call LookUp point c = tt
  can_call Switch point c = tt
  can_call Other point c = tt

  can_do : (i : AlphaInstr) (what : Does) (c : Alpha) → AllFit what → CanNext set_up (does setting m i what c)
  unfolding AllFit
  can_do i (Goes d) c fits = tt
  can_do i (acts.Asks a) c fits = can_access (is_defined setting a) i a c refl fits
  can_do i (Calls number) c fits = can_call (call_of number) (point_at setting.code.points c.pc) c

  can_go : (o : Option AlphaInstr) (c : Alpha) → CanNext set_up (next_by setting m o c)
  can_go None c = tt
  can_go (Some i) c = can_do i (act i c) c (act_fits i c)

  can_next : (c : Alpha) → CanNext set_up (next setting m c)
  unfolding next
  can_next c = can_go (fetch_of setting.code.words c.pc) c

pub steps_can_be_made : StepsCanBeMade
steps_can_be_made setting set_up m c request on pages wants = subst (CanNext set_up) wants (can_next setting set_up pages m c)
