-- Computations whose arguments stand in registers: what their words leave, how many they are, and their encodings.
use Rattle.std.proofs.Common.{◌≡◌, ℕ, ◌+◌, ◌<◌, ◌≤◌, refl, arith, [], ◌∷◌, ◌++◌, length, Bool, true, false, lit<}
use Rattle.std.specs.Prelude.{pos, All, ◌&&◌, ◌||◌, if◌then◌else◌}
use Rattle.std.specs.List.{list_all}
use Rattle.std.proofs.lemmas.List.{length-append}
use Rattle.vax_form.specs.declared.instr.Size.{Size}
use Rattle.vax_form.specs.declared.instr.Size.TheVariants.{Byte, Word, Long, Quad}
use Rattle.alpha_encode.specs.declared.instr.AlphaInstr.{AlphaInstr}
use Rattle.alpha_encode.specs.declared.instr.AlphaInstr.TheVariants.{Branch, Operate}
use Rattle.alpha_encode.specs.declared.instr.BranchOp.TheVariants.{Beq}
use Rattle.alpha_encode.specs.declared.instr.OperateOp.TheVariants as row
use Rattle.alpha_encode.specs.declared.instr.Second.TheVariants.{Register}
use Rattle.alpha_encode.specs.Words.{IsEncodable}
use Rattle.micro_ops.specs.declared.program.Arg.{Arg}
use Rattle.micro_ops.specs.declared.program.Micro.TheVariants.{Compute}
use Rattle.micro_ops.specs.declared.program.MicroOp.{MicroOp}
use Rattle.micro_ops.specs.declared.program.MicroOp.TheVariants.{Move, SignExtend, ZeroExtend, SelectNonzero}
use Rattle.micro_ops.specs.Uses.{is_unary}
use Rattle.micro_ops.specs.Values.{value_from}
use Rattle.micro_ops.specs.WordCounts.{operation_words, argument_words, has_literal, is_literal, words_of}
use Rattle.compute_sequences.specs.Registers.{IsTarget, IsArgument, register_at, is_loaded, may_change}
use Rattle.compute_sequences.specs.Words.{narrow, load_code, first_register, second_target, second_register, binary_code, chosen, select_code, behind_first, register_code}
use Rattle.compute_sequences.specs.Promises.{IsComputed, LeavesComputed, changes_only}
use Rattle.compute_sequences.proofs.Straight.{Fine, Each, each_append, each_map, all_of, all_writes, fine_writes, straight}
use Rattle.compute_sequences.proofs.ConstantLaws.{target_fits, may_target}
use Rattle.compute_sequences.proofs.FineLaws.{fine_narrow, load_length, unary_length, binary_length, scratch_may}
use Rattle.compute_sequences.proofs.Placing.{first_fits}
use Rattle.compute_sequences.proofs.ComputeLaws.{first_fine, unary_words_fine, narrowed, extends, two_fine, two_leave}
use Rattle.compute_sequences.proofs.SelectLaws.{short_leaves, quad_leaves, chosen_encodable, chosen_writes}

-- ---- what they leave
module _ (a b : Arg) (to : ℕ) (a_is : IsArgument a) (is : IsTarget to) where
  pub leaves_by_registers : (op : MicroOp) (size : Size) → (is_unary op ≡ false → IsArgument b) → LeavesComputed op size a b to (register_code op size a b to)
  unfolding value_from
  leaves_by_registers Move size b_is f may = straight (IsComputed Move size a b to f) to (register_code Move size a b to) f (unary_words_fine size a to is a_is Move) (narrowed size a to is a_is f may.zero may.first)
  leaves_by_registers ZeroExtend size b_is f may = straight (IsComputed ZeroExtend size a b to f) to (register_code ZeroExtend size a b to) f (unary_words_fine size a to is a_is ZeroExtend) (narrowed size a to is a_is f may.zero may.first)
  leaves_by_registers SignExtend size b_is f may = straight (IsComputed SignExtend size a b to f) to (register_code SignExtend size a b to) f (unary_words_fine size a to is a_is SignExtend) (extends size a to is a_is f may.zero may.first)
  leaves_by_registers SelectNonzero Byte b_is f may = short_leaves Byte a b to is a_is (b_is refl) f may.zero may.first (may.second refl)
  leaves_by_registers SelectNonzero Word b_is f may = short_leaves Word a b to is a_is (b_is refl) f may.zero may.first (may.second refl)
  leaves_by_registers SelectNonzero Long b_is f may = short_leaves Long a b to is a_is (b_is refl) f may.zero may.first (may.second refl)
  leaves_by_registers SelectNonzero Quad b_is f may = quad_leaves a b to is a_is (b_is refl) f may.zero may.first (may.second refl) (may.held refl)
  leaves_by_registers op size b_is f may = two_leave size a to is a_is b (b_is refl) op refl f may.zero may.first (may.second refl)

-- ---- how many they are
chosen_length : (size : Size) (r : ℕ) (b : Arg) (to : ℕ) → length (chosen size r b to) ≤ 1 + argument_words b size
chosen_length size r b to = by (is_loaded size b)
  where
    by : (l : Bool) → length (if l then Branch Beq r (pos (length (load_code size b to))) ∷ load_code size b to else Operate row.Cmovne r (Register (register_at b)) to ∷ []) ≤ 1 + argument_words b size
    by true = let le = load_length size b to in omega arith
    by false = omega arith

select_length : (size : Size) (x : ℕ) (b : Arg) (to : ℕ) → length (select_code size x b to) ≤ operation_words SelectNonzero size + argument_words b size
select_length Quad x b to = chosen_length Quad x b to
select_length Byte x b to = let le = chosen_length Byte 27 b to in let e = length-append (chosen Byte 27 b to) (narrow Byte to to ∷ []) in omega arith
select_length Word x b to = let le = chosen_length Word 27 b to in let e = length-append (chosen Word 27 b to) (narrow Word to to ∷ []) in omega arith
select_length Long x b to = let le = chosen_length Long 27 b to in let e = length-append (chosen Long 27 b to) (narrow Long to to ∷ []) in omega arith

two_length : (op : MicroOp) (size : Size) (b : Arg) (target x y to : ℕ) → length (load_code size b target ++ binary_code op size x y to) ≤ operation_words op size + argument_words b size
two_length op size b target x y to =
    let load = load_length size b target in
    let operation = binary_length op size x y to in
    let e = length-append (load_code size b target) (binary_code op size x y to) in
    omega arith

behind_length : (op : MicroOp) (size : Size) (a b : Arg) (to : ℕ) → length (behind_first op size a b to) ≤ operation_words op size + (if is_unary op then 0 else argument_words b size)
behind_length Move size a b to = let le = unary_length Move size (first_register size a) to in omega arith
behind_length ZeroExtend size a b to = let le = unary_length ZeroExtend size (first_register size a) to in omega arith
behind_length SignExtend size a b to = let le = unary_length SignExtend size (first_register size a) to in omega arith
behind_length SelectNonzero size a b to = select_length size (first_register size a) b to
behind_length op size a b to = two_length op size b (second_target size a to) (first_register size a) (second_register size a b to) to

or_none : (a b : Bool) → b ≡ false → (a || b) ≡ a
or_none true b e = refl
or_none false b e = e

-- where no literal counts nothing
pub registers_length : (op : MicroOp) (size : Size) (a b : Arg) (to : ℕ) → (has_literal op && is_literal b) ≡ false → length (register_code op size a b to) ≤ words_of (Compute to op size a b)
registers_length op size a b to none =
    let load = load_length size a 27 in
    let behind = behind_length op size a b to in
    let e = length-append (load_code size a 27) (behind_first op size a b to) in
    rw (or_none (is_unary op) (has_literal op && is_literal b) none) (omega (arith, load, behind, e))

-- ---- their encodings, and what they write
module _ (a b : Arg) (to : ℕ) (a_is : IsArgument a) (is : IsTarget to) where
  first_narrow : (size : Size) (x : ℕ) → x < 32 → Fine (may_change to) (narrow size x 27)
  first_narrow size x fits = fine_narrow (may_change to) size x 27 fits (lit< tt) (scratch_may to 0 is)

  last_narrow : (size : Size) → Fine (may_change to) (narrow size to to)
  last_narrow size = fine_narrow (may_change to) size to to (target_fits to is) (target_fits to is) (may_target to)

  -- by any property of instructions that those which run one after another have
  select_each : (P : AlphaInstr → Type 0) → ((i : AlphaInstr) → Fine (may_change to) i → P i) → ((size : Size) (r : ℕ) → r < 32 → Each P (chosen size r b to)) → (size : Size) (x : ℕ) → x < 32 → Each P (select_code size x b to)
  select_each P of chosen_each Quad x fits = chosen_each Quad x fits
  select_each P of chosen_each size x fits =
      (of (narrow size x 27) (first_narrow size x fits), each_append P (chosen size 27 b to) (narrow size to to ∷ []) (chosen_each size 27 (lit< tt)) (of (narrow size to to) (last_narrow size), tt))

  computed_each : (P : AlphaInstr → Type 0) → ((i : AlphaInstr) → Fine (may_change to) i → P i) → (IsArgument b → (size : Size) (r : ℕ) → r < 32 → Each P (chosen size r b to))
      → (op : MicroOp) (size : Size) → (is_unary op ≡ false → IsArgument b) → Each P (register_code op size a b to)
  computed_each P of chosen_each Move size b_is = each_map (Fine (may_change to)) P of (register_code Move size a b to) (unary_words_fine size a to is a_is Move)
  computed_each P of chosen_each ZeroExtend size b_is = each_map (Fine (may_change to)) P of (register_code ZeroExtend size a b to) (unary_words_fine size a to is a_is ZeroExtend)
  computed_each P of chosen_each SignExtend size b_is = each_map (Fine (may_change to)) P of (register_code SignExtend size a b to) (unary_words_fine size a to is a_is SignExtend)
  computed_each P of chosen_each SelectNonzero size b_is =
      each_append P (load_code size a 27) (select_code size (first_register size a) b to)
      (each_map (Fine (may_change to)) P of (load_code size a 27) (first_fine size a to is a_is))
      (select_each P of (chosen_each (b_is refl)) size (first_register size a) (first_fits size a a to is (λ n. 0) refl a_is (lit< tt)))
  computed_each P of chosen_each op size b_is = each_map (Fine (may_change to)) P of (register_code op size a b to) (two_fine size a to is a_is b (b_is refl) op)

  pub registers_encodable : (op : MicroOp) (size : Size) → (is_unary op ≡ false → IsArgument b) → All IsEncodable (register_code op size a b to)
  registers_encodable op size b_is =
      all_of IsEncodable (register_code op size a b to) (computed_each IsEncodable (λ i fine. fine.encodable) (λ is_b size r fits. chosen_encodable size a b to is a_is is_b r fits) op size b_is)

  pub registers_writes : (op : MicroOp) (size : Size) → (is_unary op ≡ false → IsArgument b) → list_all (changes_only (may_change to)) (register_code op size a b to) ≡ true
  registers_writes op size b_is =
      all_writes (may_change to) (register_code op size a b to) (computed_each (λ i. changes_only (may_change to) i ≡ true) (λ i fine. fine_writes (may_change to) i fine.local fine.target) (λ is_b size r fits. chosen_writes size a b to is a_is is_b r) op size b_is)
