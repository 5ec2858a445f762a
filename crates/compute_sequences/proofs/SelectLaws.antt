-- A choice: what its words leave, with and without words of the second argument.
use Rattle.std.proofs.Common.{◌≡◌, ℕ, ◌-◌, ◌^◌, ◌<◌, ◌≤◌, refl, sym, ap, ◌∙◌, subst, arith, List, [], ◌∷◌, ◌++◌, append_assoc, length, Bool, true, false, eqb, lit<, lit≤, rules}
use Rattle.std.specs.Prelude.{pos, ◌==◌, nat_lt, if◌then◌else◌, negsuc, ◌≤ℤ◌, ◌<ℤ◌}
use Rattle.std.proofs.lemmas.List.{append-nil}
use Rattle.vax_form.specs.declared.instr.Size.{Size}
use Rattle.vax_form.specs.declared.instr.Size.TheVariants.{Byte, Word, Long, Quad}
use Rattle.alpha_encode.specs.declared.instr.AlphaInstr.{AlphaInstr}
use Rattle.alpha_encode.specs.declared.instr.AlphaInstr.TheVariants.{Branch, Operate}
use Rattle.alpha_encode.specs.declared.instr.BranchOp.TheVariants.{Beq}
use Rattle.alpha_encode.specs.declared.instr.OperateOp.TheVariants as row
use Rattle.alpha_encode.specs.declared.instr.Second.TheVariants.{Register}
use Rattle.alpha_encode.specs.Words.{IsEncodable}
use Rattle.alpha_meaning.specs.State.{Regs, put}
use Rattle.alpha_meaning.specs.Result.{result_of}
use Rattle.alpha_meaning.proofs.Registers.{eqb_self}
use Rattle.micro_ops.specs.declared.program.Arg.{Arg}
use Rattle.micro_ops.specs.declared.program.Arg.TheVariants as arguments
use Rattle.micro_ops.specs.Values.{low}
use Rattle.micro_ops.specs.WordCounts.{argument_words}
use Rattle.compute_sequences.specs.Registers.{IsTarget, IsArgument, register_at, value_at, is_loaded, may_change}
use Rattle.compute_sequences.specs.Words.{mask_of, narrow, load_code, first_register, chosen}
use Rattle.compute_sequences.specs.Promises.{LeavesAt, changes_only}
use Rattle.compute_sequences.proofs.Straight.{Fine, Each, each_append, each_encodable, each_writes, afters, afters_append, straight}
use Rattle.compute_sequences.proofs.Numbers.{zapped, low_quad}
use Rattle.compute_sequences.proofs.ConstantLaws.{target_real, target_fits, may_target}
use Rattle.compute_sequences.proofs.FineLaws.{fine_two, fine_narrow, load_fine, load_length, scratch_may}
use Rattle.compute_sequences.proofs.Choosing.{branched}
use Rattle.compute_sequences.proofs.Placing.{Holds, only_first, first_placed, first_fits, argument_fits, not_scratch, value_kept, loaded, in_place, to_not_27}
use Rattle.compute_sequences.proofs.ComputeLaws.{first_fine}

most_words : (b : Arg) (size : Size) → argument_words b size ≤ 5
most_words (arguments.Temp temp) size = lit≤ tt
most_words (arguments.Register number) Byte = lit≤ tt
most_words (arguments.Register number) Word = lit≤ tt
most_words (arguments.Register number) Long = lit≤ tt
most_words (arguments.Register number) Quad = lit≤ tt
most_words (arguments.Flag flag) size = by (nat_lt flag 4)
  where
    by : (b : Bool) → (if b then 0 else 2) ≤ 5
    by true = lit≤ tt
    by false = lit≤ tt
most_words (arguments.Const value) Byte = lit≤ tt
most_words (arguments.Const value) Word = lit≤ tt
most_words (arguments.Const value) Long = lit≤ tt
most_words (arguments.Const value) Quad = lit≤ tt

-- behind R27 is written
only_scratch : (f g : Regs) (v : ℕ) → ((n : ℕ) → eqb n 27 ≡ false → g n ≡ f n) → (n : ℕ) → eqb n 27 ≡ false → put g 27 v n ≡ f n
only_scratch f g v only n out = rw out (only n out)

module _ (size : Size) (a b : Arg) (to : ℕ) (is : IsTarget to) (a_is : IsArgument a) (b_is : IsArgument b) where
  abbrev x : ℕ
  x = first_register size a

  abbrev rb : ℕ
  rb = register_at b

  abbrev first : List AlphaInstr
  first = load_code size a 27

  abbrev second : List AlphaInstr
  second = load_code size b to

  abbrev last : List AlphaInstr
  last = narrow size to to ∷ []

  abbrev over : (x : ℕ) → AlphaInstr
  over x = Branch Beq x (pos (length second))

  abbrev move : (x : ℕ) → AlphaInstr
  move x = Operate row.Cmovne x (Register rb) to

  x_fits : x < 32
  x_fits = first_fits size a a to is (λ n. 0) refl a_is (lit< tt)

  real : eqb to 31 ≡ false
  real = target_real to is

  first_is_fine : Each (Fine (may_change to)) first
  first_is_fine = first_fine size a to is a_is

  second_is_fine : Each (Fine (may_change to)) second
  second_is_fine = load_fine (may_change to) size b to b_is (target_fits to is) (may_target to)

  last_is_fine : Each (Fine (may_change to)) last
  last_is_fine = (fine_narrow (may_change to) size to to (target_fits to is) (target_fits to is) (may_target to), tt)

  narrow_is_fine : Fine (may_change to) (narrow size x 27)
  narrow_is_fine = fine_narrow (may_change to) size x 27 x_fits (lit< tt) (scratch_may to 0 is)

  move_is_fine : (r : ℕ) → r < 32 → Fine (may_change to) (move r)
  move_is_fine r fits = fine_two (may_change to) row.Cmovne r rb to fits (argument_fits b b_is) (target_fits to is) (may_target to)

  few : (n : ℕ) → n ≤ 5 → (negsuc (2 ^ 20 - 1) ≤ℤ pos n) × (pos n <ℤ pos (2 ^ 20))
  few n le = (search rules, search rules)

  argument_most : length second ≤ 5
  argument_most = let le = load_length size b to in let most = most_words b size in omega (arith, le, most)

  module _ (f : Regs) (zero : f 31 ≡ 0) (a_fits : f (register_at a) < 2 ^ 64) (b_fits : f rb < 2 ^ 64) where
    abbrev g : Regs
    g = afters first f

    abbrev wanted : ℕ
    wanted = if low size (value_at f a) == 0 then low size (f to) else low size (value_at f b)

    abbrev Is : ℕ → Type 0
    Is number = number ≡ wanted

    placed : Holds size (value_at f a) (g x)
    placed = first_placed size a a to is f zero a_is a_fits

    kept_by_first : (n : ℕ) → eqb n 27 ≡ false → g n ≡ f n
    kept_by_first = only_first size a a to is f zero a_is a_fits

    -- the second argument in its register
    b_in_place : is_loaded size b ≡ false → low size (f rb) ≡ low size (value_at f b)
    b_in_place e = let held = in_place f size b e b_fits in held.low_bytes

    by_test : (t : Bool) (c : ℕ) → (c == 0) ≡ t → c ≡ low size (value_at f a) → wanted ≡ (if t then low size (f to) else low size (value_at f b))
    by_test t c e same = ap (λ n. if n == 0 then low size (f to) else low size (value_at f b)) (sym same) ∙ ap (λ t. if t then low size (f to) else low size (value_at f b)) e

    -- ---- below a quadword
    abbrev narrowed : Regs
    narrowed = afters (narrow size x 27 ∷ []) g

    test_is : narrowed 27 ≡ low size (value_at f a)
    test_is = zapped size (g x) (g 27) ∙ placed.low_bytes

    narrowed_kept : (n : ℕ) → eqb n 27 ≡ false → narrowed n ≡ f n
    narrowed_kept = only_scratch f g (result_of row.Zapnot (g x) (mask_of size) (g 27)) kept_by_first

    last_is : (h : Regs) → afters last h to ≡ low size (h to)
    last_is h = rw (real, eqb_self to) (zapped size (h to) (h to))

    moved_is : is_loaded size b ≡ false → afters (move 27 ∷ last) narrowed to ≡ wanted
    moved_is e =
        last_is (afters (move 27 ∷ []) narrowed)
        ∙ (ap (low size) moved ∙ (by (narrowed 27 == 0) ∙ sym (by_test (narrowed 27 == 0) (narrowed 27) refl test_is)))
      where
        moved : afters (move 27 ∷ []) narrowed to ≡ (if narrowed 27 == 0 then narrowed to else narrowed rb)
        moved = rw (real, eqb_self to) refl

        by : (t : Bool) → low size (if t then narrowed to else narrowed rb) ≡ (if t then low size (f to) else low size (value_at f b))
        by true = ap (low size) (narrowed_kept to (to_not_27 to is))
        by false = ap (low size) (narrowed_kept rb (not_scratch b b_is)) ∙ b_in_place e

    skipped_is : (narrowed 27 == 0) ≡ true → afters last narrowed to ≡ wanted
    skipped_is e = last_is narrowed ∙ (ap (low size) (narrowed_kept to (to_not_27 to is)) ∙ sym (by_test true (narrowed 27) e test_is))

    taken_is : is_loaded size b ≡ true → (narrowed 27 == 0) ≡ false → afters last (afters second narrowed) to ≡ wanted
    taken_is l e =
        let held = loaded to real narrowed (narrowed_kept 31 refl ∙ zero) size b b_is l in
        last_is (afters second narrowed) ∙ (held.low_bytes ∙ (ap (low size) (value_kept f narrowed b b_is narrowed_kept) ∙ sym (by_test false (narrowed 27) e test_is)))

    both_are : afters (first ++ (narrow size x 27 ∷ [])) f ≡ narrowed
    both_are = afters_append first (narrow size x 27 ∷ []) f

    pub short_leaves : LeavesAt Is to (first ++ (narrow size x 27 ∷ (chosen size 27 b to ++ last))) f
    short_leaves = by (is_loaded size b) refl
      where
        by : (l : Bool) → is_loaded size b ≡ l → LeavesAt Is to (first ++ (narrow size x 27 ∷ ((if l then over 27 ∷ second else move 27 ∷ []) ++ last))) f
        by false e =
            straight Is to (first ++ (narrow size x 27 ∷ move 27 ∷ last)) f
            (each_append (Fine (may_change to)) first (narrow size x 27 ∷ move 27 ∷ last) first_is_fine (narrow_is_fine, (move_is_fine 27 (lit< tt), last_is_fine)))
            (ap (λ (h : Regs). h to) (afters_append first (narrow size x 27 ∷ move 27 ∷ last) f) ∙ moved_is e)
        by true e =
            subst (λ w. LeavesAt Is to w f) (append_assoc first (narrow size x 27 ∷ []) (over 27 ∷ (second ++ last)))
            (branched Is to 27 (first ++ (narrow size x 27 ∷ [])) second last f
            (each_append (Fine (may_change to)) first (narrow size x 27 ∷ []) first_is_fine (narrow_is_fine, tt)) second_is_fine last_is_fine
            (λ t. subst (λ (h : Regs). Is (afters last h to)) (sym both_are) (skipped_is (subst (λ (h : Regs). (h 27 == 0) ≡ true) both_are t)))
            (λ t. subst (λ (h : Regs). Is (afters last (afters second h) to)) (sym both_are) (taken_is e (subst (λ (h : Regs). (h 27 == 0) ≡ false) both_are t))))

  -- ---- the words' shape
  pub chosen_encodable : (r : ℕ) → r < 32 → Each IsEncodable (chosen size r b to)
  chosen_encodable r fits = by (is_loaded size b)
    where
      by : (l : Bool) → Each IsEncodable (if l then over r ∷ second else move r ∷ [])
      by true = ((fits, (few (length second) argument_most).0, (few (length second) argument_most).1), each_encodable (may_change to) second second_is_fine)
      by false = ((fits, argument_fits b b_is, target_fits to is), tt)

  pub chosen_writes : (r : ℕ) → Each (λ i. changes_only (may_change to) i ≡ true) (chosen size r b to)
  chosen_writes r = by (is_loaded size b)
    where
      by : (l : Bool) → Each (λ i. changes_only (may_change to) i ≡ true) (if l then over r ∷ second else move r ∷ [])
      by true = (refl, each_writes (may_change to) second second_is_fine)
      by false = (may_target to, tt)

-- ---- quadwords
module _ (a b : Arg) (to : ℕ) (is : IsTarget to) (a_is : IsArgument a) (b_is : IsArgument b) (f : Regs) (zero : f 31 ≡ 0) (a_fits : f (register_at a) < 2 ^ 64) (b_fits : f (register_at b) < 2 ^ 64) (held : f to < 2 ^ 64) where
  abbrev start : Regs
  start = afters (load_code Quad a 27) f

  abbrev xq : ℕ
  xq = first_register Quad a

  abbrev result : ℕ
  result = if low Quad (value_at f a) == 0 then low Quad (f to) else low Quad (value_at f b)

  abbrev IsResult : ℕ → Type 0
  IsResult number = number ≡ result

  start_kept : (n : ℕ) → eqb n 27 ≡ false → start n ≡ f n
  start_kept = only_first Quad a a to is f zero a_is a_fits

  start_test : start xq ≡ low Quad (value_at f a)
  start_test = let placed = first_placed Quad a a to is f zero a_is a_fits in sym (low_quad (start xq) placed.fits) ∙ placed.low_bytes

  result_by : (t : Bool) → (start xq == 0) ≡ t → result ≡ (if t then low Quad (f to) else low Quad (value_at f b))
  result_by t e = ap (λ n. if n == 0 then low Quad (f to) else low Quad (value_at f b)) (sym start_test) ∙ ap (λ c. if c then low Quad (f to) else low Quad (value_at f b)) e

  as_held : start to ≡ low Quad (f to)
  as_held = start_kept to (to_not_27 to is) ∙ sym (low_quad (f to) held)

  quad_moved : is_loaded Quad b ≡ false → afters (Operate row.Cmovne xq (Register (register_at b)) to ∷ []) start to ≡ result
  quad_moved e = rw (target_real to is, eqb_self to) (by (start xq == 0) ∙ sym (result_by (start xq == 0) refl))
    where
      by : (t : Bool) → (if t then start to else start (register_at b)) ≡ (if t then low Quad (f to) else low Quad (value_at f b))
      by true = as_held
      by false = let place = in_place f Quad b e b_fits in start_kept (register_at b) (not_scratch b b_is) ∙ (sym (low_quad (f (register_at b)) b_fits) ∙ place.low_bytes)

  quad_taken : is_loaded Quad b ≡ true → (start xq == 0) ≡ false → afters (load_code Quad b to) start to ≡ result
  quad_taken l e =
      let place = loaded to (target_real to is) start (start_kept 31 refl ∙ zero) Quad b b_is l in
      sym (low_quad (afters (load_code Quad b to) start to) place.fits) ∙ (place.low_bytes ∙ (ap (low Quad) (value_kept f start b b_is start_kept) ∙ sym (result_by false e)))

  abbrev jump : AlphaInstr
  jump = Branch Beq xq (pos (length (load_code Quad b to)))

  pub quad_leaves : LeavesAt IsResult to (load_code Quad a 27 ++ chosen Quad xq b to) f
  quad_leaves = by (is_loaded Quad b) refl
    where
      by : (l : Bool) → is_loaded Quad b ≡ l → LeavesAt IsResult to (load_code Quad a 27 ++ (if l then jump ∷ load_code Quad b to else Operate row.Cmovne xq (Register (register_at b)) to ∷ [])) f
      by false e =
          straight IsResult to (load_code Quad a 27 ++ (Operate row.Cmovne xq (Register (register_at b)) to ∷ [])) f
          (each_append (Fine (may_change to)) (load_code Quad a 27) (Operate row.Cmovne xq (Register (register_at b)) to ∷ []) (first_is_fine Quad a b to is a_is b_is)
          (move_is_fine Quad a b to is a_is b_is xq (x_fits Quad a b to is a_is b_is), tt))
          (ap (λ (h : Regs). h to) (afters_append (load_code Quad a 27) (Operate row.Cmovne xq (Register (register_at b)) to ∷ []) f) ∙ quad_moved e)
      by true e =
          subst (λ w. LeavesAt IsResult to (load_code Quad a 27 ++ (jump ∷ w)) f) (append-nil (load_code Quad b to))
          (branched IsResult to xq (load_code Quad a 27) (load_code Quad b to) [] f (first_is_fine Quad a b to is a_is b_is) (second_is_fine Quad a b to is a_is b_is) tt
          (λ t. as_held ∙ sym (result_by true t))
          (λ t. quad_taken e t))
