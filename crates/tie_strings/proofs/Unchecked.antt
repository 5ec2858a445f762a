-- A comparison and a search whose next byte is not yet checked.
use Rattle.std.proofs.Common.{◌≡◌, ℕ, zero, suc, ◌<◌, ◌-◌, ◌==◌, false, refl, ap, ◌∙◌, arith}
use Rattle.std.proofs.lemmas.Bool.{ne_eqb}
use Rattle.vax_form.specs.Script.{Script, ◌>>=◌, pure, when◌then◌else◌}
use Rattle.vax_form.specs.Tree.{Tree, tree_of, ends_with}
use Rattle.vax_form.specs.declared.pages.Pages.{Pages}
use Rattle.vax_form.specs.declared.state.VaxState.{VaxState}
use Rattle.vax_long.specs.Strings.{beside, compare_bytes, scan_bytes, stops_at}
use Rattle.tie_strings.specs.Bytes.{next_byte}
use Rattle.tie_strings.specs.Compares.{compare_on, comparing_end}
use Rattle.tie_strings.specs.Scans.{scan_on, scanning_end}
use Rattle.tie_strings.specs.declared.comparing.Compared.{Compared}
use Rattle.tie_strings.specs.declared.comparing.Pair.TheVariants.{First}
use Rattle.tie_strings.specs.declared.scanning.Scanned.{Scanned}

-- a script of a comparison, with what comes behind it
abbrev pub compared_by : Pages → VaxState → Compared → Script ℕ → Tree
compared_by pages state compared script = tree_of pages script state (λ left after. tree_of pages (comparing_end compared left) after ends_with)

-- and one of a search
abbrev pub scanned_by : Pages → VaxState → Scanned → Script ℕ → Tree
scanned_by pages state scanned script = tree_of pages script state (λ left after. tree_of pages (scanning_end scanned left) after ends_with)

pub some_left : (left : ℕ) → 0 < left → (left == 0) ≡ false
some_left left h = ne_eqb left 0 (λ none. omega (arith, h, none))

pub compared_from : (pages : Pages) (state : VaxState) (compared : Compared) (left first second : ℕ)
    → compared_by pages state compared (compare_on false First left first second) ≡ compared_by pages state compared (compare_bytes left first second)
unfolding compare_on compare_bytes next_byte
compared_from pages state compared zero first second = refl
compared_from pages state compared (suc rest) first second =
    let some : (suc rest == 0) ≡ false = some_left (suc rest) (omega arith) in
    let less : suc rest - 1 ≡ rest = omega arith in
    rw (some, less) refl

-- the next byte is checked and read, and what is behind it searched
abbrev scan_next : Scanned → (left less address : ℕ) → Script ℕ
scan_next scanned left less address = do
  byte ← next_byte false address
  when stops_at scanned.locates scanned.character byte
      then pure left
      else scan_bytes scanned.locates scanned.character less (beside false address)

pub scanned_from : (pages : Pages) (state : VaxState) (scanned : Scanned) (left address : ℕ)
    → scanned_by pages state scanned (scan_on false false left address scanned) ≡ scanned_by pages state scanned (scan_bytes scanned.locates scanned.character left address)
unfolding scan_on scan_bytes next_byte
scanned_from pages state scanned zero address = refl
scanned_from pages state scanned (suc rest) address =
    let some : (suc rest == 0) ≡ false = some_left (suc rest) (omega arith) in
    let less : suc rest - 1 ≡ rest = omega arith in
    ap (λ b. scanned_by pages state scanned (when b then pure 0 else scan_next scanned (suc rest) (suc rest - 1) address)) some
    ∙ ap (λ n. scanned_by pages state scanned (scan_next scanned (suc rest) n address)) less
