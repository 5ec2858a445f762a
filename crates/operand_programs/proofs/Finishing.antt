-- At the end each register has what the specifiers added, or the result.
use Rattle.std.proofs.Common.{◌≡◌, ℕ, ◌+◌, ◌*◌, ◌/◌, ◌%◌, ◌^◌, ◌<◌, eqb, false, List, [], ◌++◌, length, get_or, set, refl, sym, ap, ◌∙◌, subst, append_assoc, arith, inl, inr, lit<, zero-add}
use Rattle.std.specs.Prelude.{◌≢◌, min}
use Rattle.std.specs.Int.RustNames.{bit_and, bit_or}
use Rattle.std.specs.Int.Bits.{or_zero_r}
use Rattle.std.proofs.Math.Nat.{min-eq_left}
use Rattle.std.proofs.lemmas.Bool.Decides.{eqb_tells}
use Rattle.std.proofs.lemmas.Grind.{and_high_numeral}
use Rattle.std.proofs.lemmas.List.{length-set}
use Rattle.std.proofs.lemmas.Nat.{mod_below, or_block, pow_pos}
use Rattle.vax_form.specs.State.{register}
use Rattle.vax_form.specs.Tree.{Tree}
use Rattle.vax_form.specs.declared.instr.Operand.{Operand}
use Rattle.vax_form.specs.declared.instr.Operand.TheVariants.{Unused, Value, Register, Place, Target}
use Rattle.vax_form.specs.declared.instr.Size.{Size}
use Rattle.vax_form.specs.declared.instr.Size.TheVariants.{Byte, Word, Long, Quad}
use Rattle.vax_form.specs.declared.state.VaxState.{VaxState}
use Rattle.vax_meaning.specs.Operands.{with_low}
use Rattle.vax_meaning.specs.declared.operands.Location.{Location}
use Rattle.vax_meaning.specs.declared.operands.Location.TheVariants.{InRegister}
use Rattle.micro_ops.specs.Leaving.{CodesComeFrom}
use Rattle.micro_ops.specs.Meaning.{Left, Temps, Found, Standing, with_temp, course_of}
use Rattle.micro_ops.specs.Values.{value_from}
use Rattle.micro_ops.specs.declared.program.Micro.{Micro}
use Rattle.operand_programs.specs.Specifiers.{stepped, stepped_registers, commit_program}
use Rattle.operand_programs.specs.Pieces.{Agrees, leaving}
use Rattle.operand_programs.specs.Results.{given, give_program, finish_program, with_registers_of, KeptBut5, AreLongwords, IsGivable, Finishes, CommitsSteps}
use Rattle.operand_programs.specs.Operands.{IsOfSize}
use Rattle.operand_programs.proofs.Commits.{with_r, commits_agree}
use Rattle.operand_programs.proofs.Stepped.{register_stepped, stepped_set, stepped_set_two}

pub commits_steps : (steps : List ℕ) → CommitsSteps steps (commit_program 0 steps)
commits_steps steps sources start pages thread program found standing tree same r longwords goes =
    commits_agree (CodesComeFrom sources start) (leaving pages thread) program tree found [] found.state.r steps 0 standing refl same r longwords (λ i. ap (λ n. get_or found.state.r n 0) (zero-add i)) goes

upper_of_byte : (x : ℕ) → x < 4294967296 → bit_and x 4294967040 ≡ x / 256 * 256
upper_of_byte x lt = let kept : bit_and x 4294967040 + x % 256 ≡ x = and_high_numeral x 4294967039 refl lt in omega (arith, kept)

upper_of_word : (x : ℕ) → x < 4294967296 → bit_and x 4294901760 ≡ x / 65536 * 65536
upper_of_word x lt = let kept : bit_and x 4294901760 + x % 65536 ≡ x = and_high_numeral x 4294901759 refl lt in omega (arith, kept)

joined_bits : (k h v : ℕ) → v < 2 ^ k → bit_or (h * 2 ^ k) v ≡ h * 2 ^ k + v
joined_bits k h v lt =
    let below : h * 2 ^ k ≡ h * 2 ^ k + 0 = omega arith in
    let above : v ≡ 0 * 2 ^ k + v = omega arith in
    ap (λ n. bit_or n v) below
    ∙ ap (λ n. bit_or (h * 2 ^ k + 0) n) above
    ∙ or_block k h 0 0 v (pow_pos k) lt
    ∙ ap (λ n. n * 2 ^ k + v) (or_zero_r h)

byte_joined : (y whole v : ℕ) → y ≡ whole % 4294967296 → v < 256 → bit_or (bit_and y 4294967040 % 18446744073709551616) (v % 18446744073709551616) % 4294967296 ≡ whole % 4294967296 / 256 * 256 + v % 256
byte_joined y whole v is lt =
    let x = whole % 4294967296 in
    let longword : x < 4294967296 = mod_below whole 4294967296 (lit< tt) in
    let upper : x / 256 * 256 % 18446744073709551616 ≡ x / 256 * 256 = omega (arith, longword) in
    let value : v % 18446744073709551616 ≡ v = omega (arith, lt) in
    let sum : (x / 256 * 256 + v) % 4294967296 ≡ x / 256 * 256 + v % 256 = omega (arith, longword, lt) in
    rw (is, upper_of_byte x longword, upper, value, joined_bits 8 (x / 256) v lt) sum

word_joined : (y whole v : ℕ) → y ≡ whole % 4294967296 → v < 65536 → bit_or (bit_and y 4294901760 % 18446744073709551616) (v % 18446744073709551616) % 4294967296 ≡ whole % 4294967296 / 65536 * 65536 + v % 65536
word_joined y whole v is lt =
    let x = whole % 4294967296 in
    let longword : x < 4294967296 = mod_below whole 4294967296 (lit< tt) in
    let upper : x / 65536 * 65536 % 18446744073709551616 ≡ x / 65536 * 65536 = omega (arith, longword) in
    let value : v % 18446744073709551616 ≡ v = omega (arith, lt) in
    let sum : (x / 65536 * 65536 + v) % 4294967296 ≡ x / 65536 * 65536 + v % 65536 = omega (arith, longword, lt) in
    rw (is, upper_of_word x longword, upper, value, joined_bits 16 (x / 65536) v lt) sum

-- a register with its step, and one that has none
unstepped : (x step : ℕ) → step ≡ 0 → x % 4294967296 ≡ (x + step) % 4294967296
unstepped x step is = omega (arith, is)

with_its_step : (x step : ℕ) → (x % 4294967296 + step % 4294967296) % 4294967296 % 4294967296 ≡ (x + step) % 4294967296
with_its_step x step = omega arith

upper_half : (v : ℕ) → v < 18446744073709551616 → v % 18446744073709551616 / 4294967296 % 4294967296 ≡ v / 4294967296
upper_half v lt = omega (arith, lt)

not_5 : (from : ℕ) → from < 4 → eqb from 5 ≡ false
not_5 from lt = elim (eqb_tells from 5) [ inl is ↦ absurd (omega (arith, lt, is.1)) | inr not ↦ not.0 ]

module _ (P : Left → Type 0) (end : Left → Tree) (program : List Micro) (found : Found) (standing : Standing) (steps : List ℕ) (from : ℕ) (tree : Tree)
    (same : length steps ≡ length found.state.r) (r : standing.state.r ≡ found.state.r) (longwords : AreLongwords found.state.r) (low : from < 4) where
  -- what goes on behind the registers of a state
  abbrev pub GoesOnFrom : VaxState → Type 0
  GoesOnFrom state = (temps : Temps) → KeptBut5 standing.temps temps → Agrees P end (course_of program found (with_registers_of state temps standing)) tree

  -- behind the commits of other steps of the same registers
  behind : (left : List ℕ) (give : List Micro) → length left ≡ length found.state.r
      → ((temps : Temps) → KeptBut5 standing.temps temps → Agrees P end (course_of (give ++ program) found (with_r temps (stepped_registers found.state.r left) standing)) tree)
      → Agrees P end (course_of ((commit_program 0 left ++ give) ++ program) found standing) tree
  behind left give same_left goes =
      rw append_assoc (commits_agree P end (give ++ program) tree found [] found.state.r left 0 standing refl same_left r longwords (λ i. ap (λ n. get_or found.state.r n 0) (zero-add i)) goes)

  -- the registers of both ends are the same
  ends_as : (state : VaxState) (registers : List ℕ) (temps : Temps) → registers ≡ state.r → KeptBut5 standing.temps temps → GoesOnFrom state
      → Agrees P end (course_of program found (with_r temps registers standing)) tree
  ends_as state registers temps is kept goes =
      subst (λ (rs : List ℕ). Agrees P end (course_of program found (with_r temps rs standing)) tree) (sym is) (goes temps kept)

  pub gives_long : (n : ℕ) → GoesOnFrom (given (InRegister n) Long (standing.temps from) (stepped steps found.state))
      → Agrees P end (course_of (finish_program (Register n) Long steps from ++ program) found standing) tree
  gives_long n goes =
      behind (set steps n 0) (give_program (Register n) Long steps from) (length-set steps n 0 ∙ same)
      (λ temps kept. ends_as (given (InRegister n) Long (standing.temps from) (stepped steps found.state)) _ temps
      (ap (λ v. set (stepped_registers found.state.r (set steps n 0)) n (v % 2 ^ 32)) (kept from (not_5 from low)) ∙ stepped_set found.state.r steps n 0 (standing.temps from % 2 ^ 32)) kept goes)

  pub gives_quad : (n : ℕ) → n < 255 → IsOfSize Quad (standing.temps from) → GoesOnFrom (given (InRegister n) Quad (standing.temps from) (stepped steps found.state))
      → Agrees P end (course_of (finish_program (Register n) Quad steps from ++ program) found standing) tree
  unfolding value_from
  gives_quad n next fits goes =
      let m = min (n + 1) 255 in
      let m_is : m ≡ n + 1 = min-eq_left (omega (arith, next)) in
      let other : n ≢ m = λ e. omega (arith, e, m_is) in
      let v = standing.temps from in
      behind (set (set steps n 0) m 0) (give_program (Register n) Quad steps from) (length-set (set steps n 0) m 0 ∙ length-set steps n 0 ∙ same)
      (λ temps kept. rw (kept from (not_5 from low), upper_half v fits)
      (ends_as (given (InRegister n) Quad v (stepped steps found.state)) _ (with_temp 5 (v % 18446744073709551616 / 4294967296) temps)
      (stepped_set_two found.state.r steps n m (v % 2 ^ 32) (v / 2 ^ 32) other) (λ temp a. rw a (kept temp a)) goes))

  -- the result outlasts what goes through temporary 5
  through_one : (first : ℕ) (temps : Temps) → KeptBut5 standing.temps temps → with_temp 5 first temps from ≡ standing.temps from
  through_one first temps kept = rw (not_5 from low) (kept from (not_5 from low))

  through : (first second : ℕ) (temps : Temps) → KeptBut5 standing.temps temps → with_temp 5 second (with_temp 5 first temps) from ≡ standing.temps from
  through first second temps kept = rw (not_5 from low) (kept from (not_5 from low))

  pub gives_byte : (n : ℕ) → IsOfSize Byte (standing.temps from) → GoesOnFrom (given (InRegister n) Byte (standing.temps from) (stepped steps found.state))
      → Agrees P end (course_of (finish_program (Register n) Byte steps from ++ program) found standing) tree
  unfolding value_from
  gives_byte n fits goes =
      let x = register n found.state in
      let step = get_or steps n 0 in
      let v = standing.temps from in
      let state = given (InRegister n) Byte v (stepped steps found.state) in
      let left = stepped_registers found.state.r (set steps n 0) in
      let made : (y : ℕ) → y ≡ (x + step) % 2 ^ 32 → bit_or (bit_and y 4294967040 % 2 ^ 64) (v % 2 ^ 64) % 2 ^ 32 ≡ with_low Byte (register n (stepped steps found.state)) v =
      λ y is. byte_joined y (x + step) v is fits ∙ ap (λ old. old / 256 * 256 + v % 256) (sym (register_stepped found.state steps n same)) in
      let ended : (y w : ℕ) → y ≡ (x + step) % 2 ^ 32 → w ≡ v → set left n (bit_or (bit_and y 4294967040 % 2 ^ 64) (w % 2 ^ 64) % 2 ^ 32) ≡ state.r =
      λ y w is same_value. ap (λ w. set left n (bit_or (bit_and y 4294967040 % 2 ^ 64) (w % 2 ^ 64) % 2 ^ 32)) same_value ∙ ap (λ word. set left n word) (made y is) ∙ stepped_set found.state.r steps n 0 _ in
      behind (set steps n 0) (give_program (Register n) Byte steps from) (length-set steps n 0 ∙ same)
      (λ temps kept. elim (eqb_tells step 0) [
        | inl is ↦ rw is.0 (ends_as state _ _ (ended (x % 2 ^ 32) _ (unstepped x step is.1) (through_one _ temps kept)) (λ temp a. rw a (kept temp a)) goes)
        | inr not ↦ rw not.0 (ends_as state _ _ (ended ((x % 2 ^ 32 + step % 2 ^ 32) % 2 ^ 32 % 2 ^ 32) _ (with_its_step x step) (through _ _ temps kept)) (λ temp a. rw a (kept temp a)) goes)
      ])

  pub gives_word : (n : ℕ) → IsOfSize Word (standing.temps from) → GoesOnFrom (given (InRegister n) Word (standing.temps from) (stepped steps found.state))
      → Agrees P end (course_of (finish_program (Register n) Word steps from ++ program) found standing) tree
  unfolding value_from
  gives_word n fits goes =
      let x = register n found.state in
      let step = get_or steps n 0 in
      let v = standing.temps from in
      let state = given (InRegister n) Word v (stepped steps found.state) in
      let left = stepped_registers found.state.r (set steps n 0) in
      let made : (y : ℕ) → y ≡ (x + step) % 2 ^ 32 → bit_or (bit_and y 4294901760 % 2 ^ 64) (v % 2 ^ 64) % 2 ^ 32 ≡ with_low Word (register n (stepped steps found.state)) v =
      λ y is. word_joined y (x + step) v is fits ∙ ap (λ old. old / 65536 * 65536 + v % 65536) (sym (register_stepped found.state steps n same)) in
      let ended : (y w : ℕ) → y ≡ (x + step) % 2 ^ 32 → w ≡ v → set left n (bit_or (bit_and y 4294901760 % 2 ^ 64) (w % 2 ^ 64) % 2 ^ 32) ≡ state.r =
      λ y w is same_value. ap (λ w. set left n (bit_or (bit_and y 4294901760 % 2 ^ 64) (w % 2 ^ 64) % 2 ^ 32)) same_value ∙ ap (λ word. set left n word) (made y is) ∙ stepped_set found.state.r steps n 0 _ in
      behind (set steps n 0) (give_program (Register n) Word steps from) (length-set steps n 0 ∙ same)
      (λ temps kept. elim (eqb_tells step 0) [
        | inl is ↦ rw is.0 (ends_as state _ _ (ended (x % 2 ^ 32) _ (unstepped x step is.1) (through_one _ temps kept)) (λ temp a. rw a (kept temp a)) goes)
        | inr not ↦ rw not.0 (ends_as state _ _ (ended ((x % 2 ^ 32 + step % 2 ^ 32) % 2 ^ 32 % 2 ^ 32) _ (with_its_step x step) (through _ _ temps kept)) (λ temp a. rw a (kept temp a)) goes)
      ])

  pub gives : (n : ℕ) (size : Size) → IsGivable (Register n) size → IsOfSize size (standing.temps from) → GoesOnFrom (given (InRegister n) size (standing.temps from) (stepped steps found.state))
      → Agrees P end (course_of (finish_program (Register n) size steps from ++ program) found standing) tree
  gives n Byte givable fits goes = gives_byte n fits goes
  gives n Word givable fits goes = gives_word n fits goes
  gives n Long givable fits goes = gives_long n goes
  gives n Quad givable fits goes = gives_quad n givable fits goes

  -- an operand in memory takes no register
  pub gives_none : GoesOnFrom (stepped steps found.state) → Agrees P end (course_of ((commit_program 0 steps ++ []) ++ program) found standing) tree
  gives_none goes = behind steps [] same (λ temps kept. goes temps kept)

pub finishes : (operand : Operand) (size : Size) (steps : List ℕ) (from : ℕ) → from < 4 → IsGivable operand size → Finishes operand size steps from (finish_program operand size steps from)
finishes (Register n) size steps from low givable sources start pages thread program found standing location address tree same r longwords at fits goes =
    let P = CodesComeFrom sources start in
    let end = leaving pages thread in
    gives P end program found standing steps from tree same r longwords low n size givable fits
    (subst (λ (l : Location). GoesOnFrom P end program found standing steps from tree same r longwords low (given l size (standing.temps from) (stepped steps found.state))) at goes)
finishes (Place base index) size steps from low givable sources start pages thread program found standing location address tree same r longwords at fits goes =
    let P = CodesComeFrom sources start in
    let end = leaving pages thread in
    gives_none P end program found standing steps from tree same r longwords low
    (subst (λ (l : Location). GoesOnFrom P end program found standing steps from tree same r longwords low (given l size (standing.temps from) (stepped steps found.state))) at.0 goes)
finishes Unused size steps from low givable sources start pages thread program found standing location address tree same r longwords at fits goes = absurd at
finishes (Value value) size steps from low givable sources start pages thread program found standing location address tree same r longwords at fits goes = absurd at
finishes (Target address) size steps from low givable sources start pages thread program found standing location address' tree same r longwords at fits goes = absurd at
