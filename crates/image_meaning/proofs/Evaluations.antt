-- Evaluated operands: each is in a register or at an address.
use Rattle.std.proofs.Common.{◌≡◌, ℕ, zero, suc, ◌+◌, ◌-◌, ◌<◌, ◌≤◌, List, [], ◌∷◌, lit<, length, subst, sym, ◌∙◌, inl, inr, refl, arith, Bool, false}
use Rattle.std.specs.Prelude.{slice_set, slice_index_or}
use Rattle.std.proofs.Common.{◌≢◌}
use Rattle.std.proofs.lemmas.Bool.{cases_lt}
use Rattle.std.proofs.lemmas.List.{length-set, get_or-set_same, get_or-set_other}
use Rattle.vax_form.specs.Size.{bytes_of}
use Rattle.vax_form.specs.declared.row.Row.{Row}
use Rattle.vax_form.specs.declared.instr.Access.{Access}
use Rattle.vax_form.specs.declared.instr.Access.TheVariants.{Read, Write, Modify, Address, Field, Branch}
use Rattle.vax_form.specs.declared.instr.Size.{Size}
use Rattle.vax_form.specs.declared.instr.Size.TheVariants.{Byte}
use Rattle.vax_form.specs.declared.instr.Operand.{Operand}
use Rattle.vax_form.specs.declared.instr.Operand.TheVariants.{Unused, Value, Register, Place, Target}
use Rattle.vax_form.specs.declared.instr.Instr.{Instr}
use Rattle.vax_meaning.specs.declared.operands.Location.{Location}
use Rattle.vax_meaning.specs.declared.operands.Location.TheVariants.{InMemory, InRegister}
use Rattle.vax_meaning.specs.declared.evaluation.Evaluated.{Evaluated}
use Rattle.vax_meaning.specs.Evaluation.{operand, nothings, nothing, find, read_found, field_registers, obtain, evaluate, operands_from, location_of_place}
use Rattle.vax_form.specs.declared.pages.Pages.{Pages}
use Rattle.image_meaning.proofs.Keeping.{Keeps, Any, keep_pure, keep_bind, keep_get}
use Rattle.image_meaning.proofs.Memory.{keep_fetch}
use Rattle.vax_form.proofs.GrammarLengths.{bytes_of-most}
use Rattle.image_meaning.proofs.Operands.{FitsOperand, FitsLocation, Writable, bytes_least, keep_locate, keep_modify_at}

-- what is modified may be written where it is
abbrev pub IfModified : Access → Type 0 → Type 0
IfModified Read P = Unit {0}
IfModified Write P = Unit {0}
IfModified Modify P = P
IfModified Address P = Unit {0}
IfModified Field P = Unit {0}
IfModified Branch P = Unit {0}

abbrev pub FitsEvaluated : Pages → Access → Size → Evaluated → Type 0
FitsEvaluated pages access size evaluated = FitsLocation evaluated.location × IfModified access (Writable pages evaluated.location size)

abbrev pub FitsValues : List Evaluated → Type 0
FitsValues values = (place : ℕ) → FitsLocation (location_of_place values place)

-- of the operands before a place, those that the row modifies may be written
abbrev pub FitsRow : Pages → Row → (before : ℕ) → List Evaluated → Type 0
FitsRow pages row before values = (place : ℕ) → place < before
    → IfModified (slice_index_or row.access place Read) (Writable pages (location_of_place values place) (slice_index_or row.size place Byte))

abbrev pub FitsOperands : Instr → Type 0
FitsOperands instr = (place : ℕ) → FitsOperand (operand instr place)

pub nothings_fit : FitsValues nothings
nothings_fit zero = lit< tt
nothings_fit (suc zero) = lit< tt
nothings_fit (suc (suc zero)) = lit< tt
nothings_fit (suc (suc (suc zero))) = lit< tt
nothings_fit (suc (suc (suc (suc zero)))) = lit< tt
nothings_fit (suc (suc (suc (suc (suc zero))))) = lit< tt
nothings_fit (suc (suc (suc (suc (suc (suc place)))))) = lit< tt

set_fits : (values : List Evaluated) (i : ℕ) (value : Evaluated) → FitsLocation value.location → FitsValues values → FitsValues (slice_set values i value)
set_fits [] i value fits all place = all place
set_fits (v ∷ values) zero value fits all zero = fits
set_fits (v ∷ values) zero value fits all (suc place) = all (suc place)
set_fits (v ∷ values) (suc i) value fits all zero = all zero
set_fits (v ∷ values) (suc i) value fits all (suc place) = set_fits values i value fits (λ p. all (suc p)) place

keep_find : {pages : Pages} {w : Bool} (access : Access) (size : Size) (from : Operand) → FitsOperand from → Keeps pages w w FitsLocation (find access size from)
unfolding find
keep_find Read size from fits = keep_locate from size fits
keep_find Write size from fits = keep_locate from size fits
keep_find Modify size from fits = keep_locate from size fits
keep_find Address size from fits = keep_locate from size fits
keep_find Field size from fits = keep_locate from size fits
keep_find Branch size from fits = keep_pure (lit< tt)

keep_read_found : {pages : Pages} {w : Bool} (from : Operand) (at : Location) (size : Size) → FitsLocation at → Keeps pages w w Any (read_found from at size)
unfolding read_found
keep_read_found (Value value) at size fits = keep_pure tt
keep_read_found (Register n) at size fits = keep_get (λ state is. tt)
keep_read_found (Place base index) (InMemory address) size fits = keep_bind (keep_fetch address (bytes_of size) fits (bytes_least size) (bytes_of-most size)) (λ value _. keep_pure tt)
keep_read_found (Place base index) (InRegister n) size fits = keep_pure tt
keep_read_found Unused at size fits = keep_pure tt
keep_read_found (Target address) at size fits = keep_pure tt

keep_field_registers : {pages : Pages} {w : Bool} (at : Location) → Keeps pages w w Any (field_registers at)
keep_field_registers (InRegister n) = keep_get (λ state is. tt)
keep_field_registers (InMemory address) = keep_pure tt

keep_obtain : {pages : Pages} (access : Access) (size : Size) (from : Operand) (at : Location) → FitsLocation at → Keeps pages false false (FitsEvaluated pages access size) (obtain access size from at)
unfolding obtain
keep_obtain Read size from at fits = keep_bind (keep_read_found from at size fits) (λ value _. keep_pure (lit< tt, tt))
keep_obtain Write size from at fits = keep_pure (fits, tt)
keep_obtain Modify size from at fits = keep_bind (keep_modify_at at size fits) (λ value may. keep_pure (fits, may))
keep_obtain Address size from at fits = keep_pure (fits, tt)
keep_obtain Field size from at fits = keep_bind (keep_field_registers at) (λ value _. keep_pure (fits, tt))
keep_obtain Branch size from at fits = keep_pure (lit< tt, tt)

keep_evaluate : {pages : Pages} (access : Access) (size : Size) (from : Operand) → FitsOperand from → Keeps pages false false (FitsEvaluated pages access size) (evaluate access size from)
keep_evaluate access size from fits = keep_bind (keep_find access size from fits) (λ at there. keep_obtain access size from at there)

-- the evaluated operands: as many as there are places, at addresses that fit, and those that the row modifies may be
-- written
pub record AreFit (pages : Pages) (row : Row) (before : ℕ) (values : List Evaluated) : Type 0 where
  pub six : length values ≡ 6
  pub fits : FitsValues values
  pub modified : FitsRow pages row before values

pub nothings_are_fit : {pages : Pages} (row : Row) → AreFit pages row 0 nothings
nothings_are_fit row = record { six = refl; fits = nothings_fit; modified = λ place few. absurd (omega arith) }

abbrev IsFitAt : Pages → Row → (place : ℕ) → Evaluated → Type 0
IsFitAt pages row place value =
    IfModified (slice_index_or row.access place Read) (Writable pages value.location (slice_index_or row.size place Byte))

one_more : (pages : Pages) (row : Row) (i : ℕ) (values : List Evaluated) (value : Evaluated) → AreFit pages row i values → i < 6
    → FitsEvaluated pages (slice_index_or row.access i Read) (slice_index_or row.size i Byte) value → AreFit pages row (i + 1) (slice_set values i value)
one_more pages row i values value are few fits = record {
  six = length-set values i value ∙ are.six;
  fits = set_fits values i value fits.0 are.fits;
  modified = λ place before. elim (cases_lt place i) [
    | inl less ↦
        let other : place ≢ i = omega arith in
        subst (IsFitAt pages row place) (sym (get_or-set_other values i place value nothing other)) (are.modified place less)
    | inr more ↦
        let same : i ≡ place = omega arith in
        let within : i < length values = omega (arith, are.six) in
        subst (λ (p : ℕ). IsFitAt pages row p (slice_index_or (slice_set values i value) p nothing)) same
        (subst (IsFitAt pages row i) (sym (get_or-set_same values i value nothing within)) fits.1)
  ];
}

pub keep_operands_from : {pages : Pages} (left : ℕ) (row : Row) (instr : Instr) (values : List Evaluated) → FitsOperands instr → left ≤ 6
    → AreFit pages row (6 - left) values → Keeps pages false false (AreFit pages row 6) (operands_from left row instr values)
unfolding operands_from
keep_operands_from zero row instr values operands few are = keep_pure are
keep_operands_from {pages = pages} (suc left) row instr values operands few are =
    let place : 6 - suc left ≡ 5 - left = omega arith in
    let here : AreFit pages row (5 - left) values = subst (λ (i : ℕ). AreFit pages row i values) place are in
    let next : 5 - left + 1 ≡ 6 - left = omega arith in
    keep_bind (keep_evaluate (slice_index_or row.access (5 - left) Read) (slice_index_or row.size (5 - left) Byte) (operand instr (5 - left)) (operands (5 - left)))
    (λ value fits.
    keep_operands_from left row instr (slice_set values (5 - left) value) operands (omega arith)
    (subst (λ (i : ℕ). AreFit pages row i (slice_set values (5 - left) value)) next (one_more pages row (5 - left) values value here (omega arith) fits)))
