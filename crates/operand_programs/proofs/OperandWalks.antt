-- Operands fit behind whatever changed nothing.
use Rattle.std.proofs.Common.{◌≡◌, ℕ, ◌+◌, ◌<◌, eqb, Bool, true, false, List, [], ◌∷◌, get_or, Option, Some, None, refl, sym, ap, subst, ◌∙◌, arith, inl, inr, lit<, lit≤}
use Rattle.std.specs.Prelude.{min}
use Rattle.std.proofs.lemmas.Bool.{eqb-false, ne_eqb, cases_lt}
use Rattle.vax_form.specs.Size.{bytes_of}
use Rattle.vax_form.specs.Grammar.{HasRegister}
use Rattle.vax_form.specs.declared.instr.Access.{Access}
use Rattle.vax_form.specs.declared.instr.Access.TheVariants as accesses
use Rattle.vax_form.specs.declared.instr.Base.{Base}
use Rattle.vax_form.specs.declared.instr.Base.TheVariants.{Deferred, Decrement, Increment, IncrementDeferred, Offset, Fixed}
use Rattle.vax_form.specs.declared.instr.Operand.{Operand}
use Rattle.vax_form.specs.declared.instr.Operand.TheVariants.{Unused, Value, Register, Place, Target}
use Rattle.vax_form.specs.declared.instr.Size.{Size}
use Rattle.vax_form.specs.declared.instr.Size.TheVariants.{Byte, Word, Long, Quad}
use Rattle.micro_ops.specs.Fits.{holding_of}
use Rattle.micro_ops.specs.Known.{held, forgotten, behind_write}
use Rattle.micro_ops.specs.Uses.{leaves_longword}
use Rattle.micro_ops.specs.declared.codes.CodeSources.{CodeSources}
use Rattle.micro_ops.specs.declared.known.Checked.{Checked}
use Rattle.micro_ops.specs.declared.known.Checked.TheVariants.{Nowhere, At}
use Rattle.micro_ops.specs.declared.known.Holding.TheVariants.{Wide, Longword}
use Rattle.micro_ops.specs.declared.known.Known.{Known}
use Rattle.micro_ops.specs.declared.program.Arg.TheVariants.{Temp, Const}
use Rattle.micro_ops.specs.declared.program.Arg.TheVariants as arguments
use Rattle.std.proofs.lemmas.Bool.Decides.{eqb_tells}
use Rattle.micro_ops.specs.declared.program.Micro.TheVariants.{Compute, Probe, Read}
use Rattle.micro_ops.specs.declared.program.MicroOp.TheVariants as ops
use Rattle.micro_ops.proofs.Held.{held_same, held_other, held_behind, lost_behind}
use Rattle.operand_programs.specs.Specifiers.{sum_into, address_program, index_program, place_program, pointer_of, steps_behind, upper_half_program, low_bytes_program, register_program}
use Rattle.operand_programs.specs.Operands.{access_program, operand_program, steps_behind_specifier, IsFor}
use Rattle.operand_programs.specs.InOrder.{operands_program}
use Rattle.operand_programs.specs.Registers.{BaseIsNamed, IndexIsNamed, NamesRegisters}
use Rattle.operand_programs.specs.Knowing.{KnowsMore, FitsBetween}
use Rattle.operand_programs.specs.Behind.{is_in_memory, value_holding, behind_access_of, before_access, behind_operand, behind_operands, lasting, IsFit, AreFit, OperandFits, OperandsFit}
use Rattle.operand_programs.specs.declared.operands.Specifier.{Specifier}
use Rattle.operand_programs.specs.declared.specifiers.Pointer.{Pointer}
use Rattle.operand_programs.proofs.More.{no_more, most, knows_itself, covers_write, covers_checked, more_write, fits_joined, knowing_less, knowing_more}
use Rattle.operand_programs.proofs.Walking.{IsOpen, IsSettled, opens, open_write, open_checked, settled_write, lasting_settled, nothing_fits, computes, holds_it, register_fits as reads_register, sums, is_size_count, checked_at, checks, reads}

pointer_named : (base : Base) (size : ℕ) (steps : List ℕ) → BaseIsNamed base → IndexIsNamed (pointer_of base size steps).register
pointer_named (Deferred n) size steps named = named
pointer_named (Decrement n) size steps named = named
pointer_named (Increment n) size steps named = named
pointer_named (IncrementDeferred n) size steps named = named
pointer_named (Offset n offset deferred) size steps named = named
pointer_named (Fixed address deferred) size steps named = tt

in_range : (n : ℕ) (size : Size) → HasRegister size n → n < 15
in_range n Byte named = named
in_range n Word named = named
in_range n Long named = named
in_range n Quad named = omega (arith, named)

-- behind what is known of the temporaries 0 to 3 alone, where no check is counted on
module _ (codes : CodeSources) (known : Known) (s : IsSettled known) (nowhere : known.checked ≡ Nowhere) where
  -- the temporary holds a longword
  abbrev with_long : ℕ → Known
  with_long temp = behind_write temp Longword known

  covers_long : (temp : ℕ) → temp < 6 → KnowsMore known (with_long temp)
  covers_long temp low = covers_write known known (knows_itself known) temp Longword low (most (held known temp)) nowhere

  covers_long_checked : (temp : ℕ) (checked : Checked) → temp < 6 → KnowsMore known (record (with_long temp) { checked = checked })
  covers_long_checked temp checked low = covers_checked known (with_long temp) (covers_long temp low) checked nowhere

  pointer_fits : (pointer : Pointer) (place spare : ℕ) → place < 4 → spare < 4 → (eqb place spare) ≡ false → IndexIsNamed pointer.register
      → FitsBetween codes known (address_program pointer place spare) (with_long place)
  pointer_fits pointer place spare p q ne named = by pointer.register pointer.offset pointer.deferred named
    where
      by : (from : Option ℕ) (offset : ℕ) (deferred : Bool) → IndexIsNamed from
          → FitsBetween codes known (address_program (record { register = from; offset = offset; deferred = deferred }) place spare) (with_long place)
      by from offset false named = sums codes known place from offset s.is_open (omega (arith, p)) named
      by from offset true named =
          let first = sums codes known spare from offset s.is_open (omega (arith, q)) named in
          let settled = settled_write known spare Longword q s in
          let at : held (with_long spare) spare ≡ Longword = held_same Longword known spare (omega (arith, q)) in
          let check = checks codes (with_long spare) spare 4 false settled refl at in
          let read = reads codes (with_long spare) place spare 4 false settled refl at p q ne in
          knowing_less codes (sum_into spare from offset ∷ Probe spare 4 false ∷ Read place spare 4 ∷ []) known _ (with_long place)
          (more_write known (checked_at spare 4 false (with_long spare)) (covers_long_checked spare (At spare 4 false) (omega (arith, q))) place Longword)
          (fits_joined codes (sum_into spare from offset ∷ []) (Probe spare 4 false ∷ Read place spare 4 ∷ []) known (with_long spare) _ first
          (fits_joined codes (Probe spare 4 false ∷ []) (Read place spare 4 ∷ []) (with_long spare) _ _ check read))

  -- an index in temporary 4
  abbrev with_index : ℕ → Known
  with_index place = behind_write 4 Longword (with_long place)

  covers_index : (place : ℕ) → place < 4 → KnowsMore known (with_index place)
  covers_index place p = covers_write known (with_long place) (covers_long place (omega (arith, p))) 4 Longword (lit< tt) (most (held known 4)) nowhere

  -- which counts bytes
  abbrev with_scaled : ℕ → Known
  with_scaled place = behind_write 4 Wide (with_index place)

  covers_scaled : (place : ℕ) → place < 4 → KnowsMore known (with_scaled place)
  covers_scaled place p = covers_write known (with_index place) (covers_index place p) 4 Wide (lit< tt) (rw (s.lost 4 (lit≤ tt)) tt) nowhere

  open_index : (place : ℕ) → IsOpen (with_index place)
  open_index place = open_write (with_long place) 4 Longword (open_write known place Longword s.is_open)

  place_indexed : (place : ℕ) → place < 4 → held (with_index place) place ≡ Longword
  place_indexed place p = held_other Longword (with_long place) 4 place (λ e. omega (arith, e, p)) ∙ held_same Longword known place (omega (arith, p))

  place_scaled : (place : ℕ) → place < 4 → held (with_scaled place) place ≡ Longword
  place_scaled place p = held_other Wide (with_index place) 4 place (λ e. omega (arith, e, p)) ∙ place_indexed place p

  adds_index : (place : ℕ) → place < 4 → FitsBetween codes (with_index place) (Compute place ops.Add Long (Temp place) (Temp 4) ∷ []) (with_long place)
  adds_index place p =
      knowing_less codes (Compute place ops.Add Long (Temp place) (Temp 4) ∷ []) (with_index place) _ (with_long place) (more_write known (with_index place) (covers_index place p) place Longword)
      (computes codes (with_index place) place ops.Add Long (Temp place) (Temp 4) (open_index place).goes_on (omega (arith, p)) (holds_it (with_index place) place Longword (place_indexed place p) refl) refl refl)

  adds_scaled : (place : ℕ) → place < 4 → FitsBetween codes (with_scaled place) (Compute place ops.Add Long (Temp place) (Temp 4) ∷ []) (with_long place)
  adds_scaled place p =
      knowing_less codes (Compute place ops.Add Long (Temp place) (Temp 4) ∷ []) (with_scaled place) _ (with_long place) (more_write known (with_scaled place) (covers_scaled place p) place Longword)
      (computes codes (with_scaled place) place ops.Add Long (Temp place) (Temp 4) (open_write (with_index place) 4 Wide (open_index place)).goes_on (omega (arith, p)) (holds_it (with_scaled place) place Longword (place_scaled place p) refl) refl refl)

  scales : (place count : ℕ) → FitsBetween codes (with_index place) (Compute 4 ops.Mul Quad (Temp 4) (Const count) ∷ []) (with_scaled place)
  scales place count = computes codes (with_index place) 4 ops.Mul Quad (Temp 4) (Const count) (open_index place).goes_on (lit< tt) refl refl refl

  index_fits : (index : Option ℕ) (size : Size) (steps : List ℕ) (place : ℕ) → place < 4 → IndexIsNamed index → FitsBetween codes (with_long place) (index_program index size steps place) (with_long place)
  index_fits None size steps place p named = nothing_fits codes (with_long place)
  index_fits (Some x) size steps place p named = by size
    where
      first : FitsBetween codes (with_long place) (sum_into 4 (Some x) (get_or steps x 0) ∷ []) (with_index place)
      first = sums codes (with_long place) 4 (Some x) (get_or steps x 0) (open_write known place Longword s.is_open) (lit< tt) named

      scaled_by : (count : ℕ) → FitsBetween codes (with_long place) (sum_into 4 (Some x) (get_or steps x 0) ∷ Compute 4 ops.Mul Quad (Temp 4) (Const count) ∷ Compute place ops.Add Long (Temp place) (Temp 4) ∷ []) (with_long place)
      scaled_by count =
          fits_joined codes (sum_into 4 (Some x) (get_or steps x 0) ∷ []) (Compute 4 ops.Mul Quad (Temp 4) (Const count) ∷ Compute place ops.Add Long (Temp place) (Temp 4) ∷ []) (with_long place) (with_index place) (with_long place) first
          (fits_joined codes (Compute 4 ops.Mul Quad (Temp 4) (Const count) ∷ []) (Compute place ops.Add Long (Temp place) (Temp 4) ∷ []) (with_index place) (with_scaled place) (with_long place) (scales place count) (adds_scaled place p))

      by : (size : Size) → FitsBetween codes (with_long place) (index_program (Some x) size steps place) (with_long place)
      by Byte = fits_joined codes (sum_into 4 (Some x) (get_or steps x 0) ∷ []) (Compute place ops.Add Long (Temp place) (Temp 4) ∷ []) (with_long place) (with_index place) (with_long place) first (adds_index place p)
      by Word = scaled_by 2
      by Long = scaled_by 4
      by Quad = scaled_by 8

  place_fits : (base : Base) (index : Option ℕ) (size : Size) (steps : List ℕ) (place spare : ℕ) → place < 4 → spare < 4 → (eqb place spare) ≡ false → BaseIsNamed base → IndexIsNamed index
      → FitsBetween codes known (place_program base index size steps place spare) (with_long place)
  place_fits base index size steps place spare p q ne named index_named =
      fits_joined codes (address_program (pointer_of base (bytes_of size) steps) place spare) (index_program index size (steps_behind base (bytes_of size) steps) place) known (with_long place) (with_long place)
      (pointer_fits (pointer_of base (bytes_of size) steps) place spare p q ne (pointer_named base (bytes_of size) steps named))
      (index_fits index size (steps_behind base (bytes_of size) steps) place p index_named)

  -- ---- registers
  abbrev with_value : (temp : ℕ) → Size → Known
  with_value temp size = behind_write temp (value_holding size) known

  holds_long : (temp : ℕ) → temp < 4 → held (with_long temp) temp ≡ Longword
  holds_long temp low = held_same Longword known temp (omega (arith, low))

  first_half : (n : ℕ) (steps : List ℕ) (to : ℕ) → to < 4 → n < 15 → FitsBetween codes known (sum_into to (Some n) (get_or steps n 0) ∷ []) (with_long to)
  first_half n steps to t named = sums codes known to (Some n) (get_or steps n 0) s.is_open (omega (arith, t)) named

  extends : (to : ℕ) (size : Size) → to < 4 → holding_of (leaves_longword (Compute to ops.ZeroExtend size (Temp to) (Const 0))) ≡ Longword
      → FitsBetween codes (with_long to) (Compute to ops.ZeroExtend size (Temp to) (Const 0) ∷ []) (with_long to)
  extends to size t is =
      let holding = holding_of (leaves_longword (Compute to ops.ZeroExtend size (Temp to) (Const 0))) in
      let made = computes codes (with_long to) to ops.ZeroExtend size (Temp to) (Const 0) (open_write known to Longword s.is_open).goes_on (omega (arith, t)) (holds_it (with_long to) to Longword (holds_long to t) refl) refl refl in
      knowing_less codes (Compute to ops.ZeroExtend size (Temp to) (Const 0) ∷ []) (with_long to) (behind_write to holding (with_long to)) (with_long to)
      (subst (λ h. KnowsMore (with_long to) (behind_write to h (with_long to))) (sym is) (more_write known (with_long to) (covers_long to (omega (arith, t))) to Longword)) made

  upper_half : (n : ℕ) (steps : List ℕ) (to : ℕ) → to < 4 → n < 15 → FitsBetween codes (with_long to) (upper_half_program n steps to) (with_value to Quad)
  upper_half n steps to t named =
      fits_joined codes (sum_into 4 (Some n) (get_or steps n 0) ∷ []) (Compute 4 ops.Mul Quad (Temp 4) (Const 0x1_0000_0000) ∷ Compute to ops.Add Quad (Temp to) (Temp 4) ∷ []) (with_long to) (with_index to) (with_value to Quad)
      (sums codes (with_long to) 4 (Some n) (get_or steps n 0) (open_write known to Longword s.is_open) (lit< tt) named)
      (fits_joined codes (Compute 4 ops.Mul Quad (Temp 4) (Const 0x1_0000_0000) ∷ []) (Compute to ops.Add Quad (Temp to) (Temp 4) ∷ []) (with_index to) (with_scaled to) (with_value to Quad) (scales to 0x1_0000_0000)
      (knowing_less codes (Compute to ops.Add Quad (Temp to) (Temp 4) ∷ []) (with_scaled to) _ (with_value to Quad) (more_write known (with_scaled to) (covers_scaled to t) to Wide)
      (computes codes (with_scaled to) to ops.Add Quad (Temp to) (Temp 4) (open_write (with_index to) 4 Wide (open_index to)).goes_on (omega (arith, t)) (holds_it (with_scaled to) to Longword (place_scaled to t) refl) refl refl)))

  bytes_fit : (n : ℕ) (size : Size) (offset to : ℕ) → to < 4 → n < 15 → holding_of (leaves_longword (Compute to ops.ZeroExtend size (Temp to) (Const 0))) ≡ Longword
      → holding_of (leaves_longword (Compute to ops.ZeroExtend size (arguments.Register n) (Const 0))) ≡ Longword → FitsBetween codes known (low_bytes_program n size offset to) (with_long to)
  bytes_fit n size offset to t named is is' = elim (eqb_tells offset 0) [
    | inl none ↦ rw none.0 (subst (λ h. FitsBetween codes known (Compute to ops.ZeroExtend size (arguments.Register n) (Const 0) ∷ []) (behind_write to h known)) is'
        (computes codes known to ops.ZeroExtend size (arguments.Register n) (Const 0) s.is_open.goes_on (omega (arith, t)) (reads_register known n named (s.is_open.uncommitted n)) refl refl))
    | inr some ↦ rw some.0 (fits_joined codes (Compute to ops.Add Long (arguments.Register n) (Const offset) ∷ []) (Compute to ops.ZeroExtend size (Temp to) (Const 0) ∷ []) known (with_long to) (with_long to)
        (computes codes known to ops.Add Long (arguments.Register n) (Const offset) s.is_open.goes_on (omega (arith, t)) (reads_register known n named (s.is_open.uncommitted n)) refl refl) (extends to size t is))
  ]

  register_fits : (n : ℕ) (size : Size) (steps : List ℕ) (to : ℕ) → to < 4 → HasRegister size n → FitsBetween codes known (register_program n size steps to) (with_value to size)
  register_fits n Byte steps to t named = bytes_fit n Byte (get_or steps n 0) to t named refl refl
  register_fits n Word steps to t named = bytes_fit n Word (get_or steps n 0) to t named refl refl
  register_fits n Long steps to t named = first_half n steps to t named
  register_fits n Quad steps to t named =
      fits_joined codes (sum_into to (Some n) (get_or steps n 0) ∷ []) (upper_half_program (min (n + 1) 255) steps to) known (with_long to) (with_value to Quad)
      (first_half n steps to t (omega (arith, named))) (upper_half (min (n + 1) 255) steps to t (omega (arith, named)))

  value_fits : (value : ℕ) (size : Size) (to : ℕ) → to < 4 → FitsBetween codes known (Compute to ops.Move size (Const value) (Const 0) ∷ []) (with_value to size)
  value_fits value Byte to t = computes codes known to ops.Move Byte (Const value) (Const 0) s.is_open.goes_on (omega (arith, t)) refl refl refl
  value_fits value Word to t = computes codes known to ops.Move Word (Const value) (Const 0) s.is_open.goes_on (omega (arith, t)) refl refl refl
  value_fits value Long to t = computes codes known to ops.Move Long (Const value) (Const 0) s.is_open.goes_on (omega (arith, t)) refl refl refl
  value_fits value Quad to t = computes codes known to ops.Move Quad (Const value) (Const 0) s.is_open.goes_on (omega (arith, t)) refl refl refl

  -- ---- accesses
  -- what is at the place is checked and read
  fetches : (size : Size) (to place : ℕ) (write : Bool) → to < 4 → place < 4 → (eqb to place) ≡ false
      → FitsBetween codes (with_long place) (Probe place (bytes_of size) write ∷ Read to place (bytes_of size) ∷ []) (behind_write to (value_holding size) (checked_at place (bytes_of size) write (with_long place)))
  fetches size to place write t p ne =
      let settled = settled_write known place Longword p s in
      fits_joined codes (Probe place (bytes_of size) write ∷ []) (Read to place (bytes_of size) ∷ []) (with_long place) (checked_at place (bytes_of size) write (with_long place)) _
      (checks codes (with_long place) place (bytes_of size) write settled (is_size_count size) (holds_long place p))
      (reads codes (with_long place) to place (bytes_of size) write settled (is_size_count size) (holds_long place p) t p ne)

  access_fits : (access : Access) (operand : Operand) (size : Size) (steps : List ℕ) (to place : ℕ) → IsFor access operand → NamesRegisters operand size
      → to < 4 → place < 4 → (eqb to place) ≡ false → (eqb place to) ≡ false
      → FitsBetween codes known (access_program access operand size steps to place) (behind_access_of access (is_in_memory operand) size to place known)
  access_fits accesses.Read (Place base index) size steps to place is named t p ne en =
      knowing_less codes (access_program accesses.Read (Place base index) size steps to place) known _ (with_value to size)
      (more_write known (checked_at place (bytes_of size) false (with_long place)) (covers_long_checked place (At place (bytes_of size) false) (omega (arith, p))) to (value_holding size))
      (fits_joined codes (place_program base index size steps place to) (Probe place (bytes_of size) false ∷ Read to place (bytes_of size) ∷ []) known (with_long place) _ (place_fits base index size steps place to p t en named.0 named.1) (fetches size to place false t p ne))
  access_fits accesses.Read (Register n) size steps to place is named t p ne en = register_fits n size steps to t named
  access_fits accesses.Read (Value value) size steps to place is named t p ne en = value_fits value size to t
  access_fits accesses.Read Unused size steps to place is named t p ne en = absurd is
  access_fits accesses.Read (Target address) size steps to place is named t p ne en = absurd is
  access_fits accesses.Modify (Place base index) size steps to place is named t p ne en =
      fits_joined codes (place_program base index size steps place to) (Probe place (bytes_of size) true ∷ Read to place (bytes_of size) ∷ []) known (with_long place) _ (place_fits base index size steps place to p t en named.0 named.1) (fetches size to place true t p ne)
  access_fits accesses.Modify (Register n) size steps to place is named t p ne en = register_fits n size steps to t named
  access_fits accesses.Modify (Value value) size steps to place is named t p ne en = absurd is
  access_fits accesses.Modify Unused size steps to place is named t p ne en = absurd is
  access_fits accesses.Modify (Target address) size steps to place is named t p ne en = absurd is
  access_fits accesses.Write (Place base index) size steps to place is named t p ne en = place_fits base index size steps place to p t en named.0 named.1
  access_fits accesses.Write (Register n) size steps to place is named t p ne en = nothing_fits codes known
  access_fits accesses.Write (Value value) size steps to place is named t p ne en = absurd is
  access_fits accesses.Write Unused size steps to place is named t p ne en = absurd is
  access_fits accesses.Write (Target address) size steps to place is named t p ne en = absurd is
  access_fits accesses.Address (Place base index) size steps to place is named t p ne en = place_fits base index size steps to place t p ne named.0 named.1
  access_fits accesses.Address (Register n) size steps to place is named t p ne en = absurd is
  access_fits accesses.Address (Value value) size steps to place is named t p ne en = absurd is
  access_fits accesses.Address Unused size steps to place is named t p ne en = absurd is
  access_fits accesses.Address (Target address) size steps to place is named t p ne en = absurd is
  access_fits accesses.Field (Place base index) size steps to place is named t p ne en = place_fits base index size steps place to p t en named.0 named.1
  access_fits accesses.Field (Register n) size steps to place is named t p ne en = register_fits n Long steps to t (in_range n size named)
  access_fits accesses.Field (Value value) size steps to place is named t p ne en = absurd is
  access_fits accesses.Field Unused size steps to place is named t p ne en = absurd is
  access_fits accesses.Field (Target address) size steps to place is named t p ne en = absurd is
  access_fits accesses.Branch operand size steps to place is named t p ne en = nothing_fits codes known

-- ---- operands in order
open_behind : (access : Access) (in_memory : Bool) (size : Size) (to place : ℕ) (known : Known) → IsOpen known → IsOpen (behind_access_of access in_memory size to place known)
open_behind accesses.Read in_memory size to place known o = open_write known to (value_holding size) o
open_behind accesses.Write true size to place known o = open_write known place Longword o
open_behind accesses.Write false size to place known o = o
open_behind accesses.Modify true size to place known o = open_write _ to (value_holding size) (open_checked (behind_write place Longword known) _ (open_write known place Longword o))
open_behind accesses.Modify false size to place known o = open_write known to (value_holding size) o
open_behind accesses.Address in_memory size to place known o = open_write known to Longword o
open_behind accesses.Field true size to place known o = open_write known place Longword o
open_behind accesses.Field false size to place known o = open_write known to Longword o
open_behind accesses.Branch in_memory size to place known o = o

-- the temporaries 0 to 3 are among what is known
covers_lasting : (known : Known) → IsOpen known → KnowsMore (lasting known) known
covers_lasting known o = record {
  temps = λ temp. elim (cases_lt temp 4) [ inl low ↦ rw (held_behind known temp low) (no_more (held known temp)) | inr high ↦ rw (lost_behind known temp high) tt ];
  high = sym o.high;
  checked = tt;
  changed = λ e. e;
  committed = λ number e. e;
  registers = refl;
  codes = refl;
  psw = refl;
  ended = refl;
}

module _ (codes : CodeSources) (specifier : Specifier) (steps : List ℕ) (known : Known) (fit : IsFit specifier) (o : IsOpen known) where
  -- behind what lasts of what is known
  lasting_fits : FitsBetween codes known (operand_program specifier steps) (behind_access_of specifier.access (is_in_memory specifier.operand) specifier.size specifier.to specifier.place (lasting known))
  lasting_fits =
      let placed = fit.placed in
      knowing_more codes (operand_program specifier steps) (lasting known) known _ (covers_lasting known o)
      (access_fits codes (lasting known) (lasting_settled known o) refl specifier.access specifier.operand specifier.size steps specifier.to specifier.place placed.operand fit.registers
      placed.to placed.place placed.apart (ne_eqb specifier.place specifier.to (λ e. eqb-false specifier.to specifier.place placed.apart (sym e))))

one_fits_by : (codes : CodeSources) (access : Access) (size : Size) (operand : Operand) (to place : ℕ) (steps : List ℕ) (known : Known) →
    (let specifier : Specifier = record { access = access; size = size; operand = operand; to = to; place = place } in
    IsFit specifier → IsOpen known → FitsBetween codes known (operand_program specifier steps) (behind_operand specifier known))
one_fits_by codes accesses.Read size operand to place steps known fit o = lasting_fits codes _ steps known fit o
one_fits_by codes accesses.Write size operand to place steps known fit o = lasting_fits codes _ steps known fit o
one_fits_by codes accesses.Modify size operand to place steps known fit o = lasting_fits codes _ steps known fit o
one_fits_by codes accesses.Address size operand to place steps known fit o = lasting_fits codes _ steps known fit o
one_fits_by codes accesses.Field size operand to place steps known fit o = lasting_fits codes _ steps known fit o
one_fits_by codes accesses.Branch size operand to place steps known fit o = nothing_fits codes known

one_fits : (codes : CodeSources) (specifier : Specifier) (steps : List ℕ) (known : Known) → IsFit specifier → IsOpen known → FitsBetween codes known (operand_program specifier steps) (behind_operand specifier known)
one_fits codes specifier steps known fit o = one_fits_by codes specifier.access specifier.size specifier.operand specifier.to specifier.place steps known fit o

open_before : (access : Access) (known : Known) → IsOpen known → IsOpen (before_access access known)
open_before accesses.Read known o = (lasting_settled known o).is_open
open_before accesses.Write known o = (lasting_settled known o).is_open
open_before accesses.Modify known o = (lasting_settled known o).is_open
open_before accesses.Address known o = (lasting_settled known o).is_open
open_before accesses.Field known o = (lasting_settled known o).is_open
open_before accesses.Branch known o = o

all_fit : (codes : CodeSources) (specifiers : List Specifier) (steps : List ℕ) (known : Known) → AreFit specifiers → IsOpen known → FitsBetween codes known (operands_program specifiers steps) (behind_operands specifiers known)
all_fit codes [] steps known fit o = nothing_fits codes known
all_fit codes (specifier ∷ specifiers) steps known fit o =
    fits_joined codes (operand_program specifier steps) (operands_program specifiers (steps_behind_specifier specifier steps)) known (behind_operand specifier known) _
    (one_fits codes specifier steps known fit.0 o)
    (all_fit codes specifiers (steps_behind_specifier specifier steps) (behind_operand specifier known) fit.1
    (open_behind specifier.access (is_in_memory specifier.operand) specifier.size specifier.to specifier.place (before_access specifier.access known) (open_before specifier.access known o)))

pub operand_fits : OperandFits
operand_fits codes specifier steps known fit is = one_fits codes specifier steps known fit (opens known is)

pub operands_fit : OperandsFit
operands_fit codes specifiers steps known fit is = all_fit codes specifiers steps known fit (opens known is)
