-- A block that is laid out is the block of its instruction, where it follows the tree of that.
use Rattle.std.proofs.Common.{◌≡◌, ℕ, zero, suc, ◌+◌, ◌-◌, ◌<◌, ◌≤◌, refl, sym, ◌∙◌, ap, subst, arith, add-zero, List, [], ◌∷◌, length, get_or, Bool, true, false, Some}
use Rattle.std.specs.Prelude.{slice_get, ◌&&◌, ◌==◌, not}
use Rattle.std.proofs.lemmas.Bool.{eqb-true}
use Rattle.std.proofs.lemmas.Option.{slice_get-get_or}
use Rattle.std.specs.List.{list_any}
use Rattle.vax_form.specs.State.{IsState}
use Rattle.vax_form.specs.declared.state.Flags.{Flags}
use Rattle.vax_form.specs.declared.state.VaxState.{VaxState}
use Rattle.alpha_encode.specs.NoOperation.{nop}
use Rattle.alpha_encode.specs.declared.instr.AlphaInstr.{AlphaInstr}
use Rattle.alpha_encode.specs.declared.instr.AlphaInstr.TheVariants.{Memory, Branch, Operate, Jump, Pal}
use Rattle.alpha_meaning.specs.State.{Regs, at_place}
use Rattle.alpha_meaning.specs.Pieces.{Fetch, HasAt, Plain}
use Rattle.exception_records.specs.Blocks.{BlockValue}
use Rattle.exception_records.specs.Points.{point_at}
use Rattle.exception_records.specs.Shown.{Shows}
use Rattle.exception_records.specs.declared.points.Point.{Point}
use Rattle.block_law.specs.Placements.{InForm}
use Rattle.block_law.specs.Rounds.{block_steps, new_round}
use Rattle.block_law.specs.Follows.{Follows}
use Rattle.block_law.specs.Tidy.{is_kept, register_written, may_raise, may_fault, interprets, keeps_to, keeps_until, IsTidy}
use Rattle.block_law.specs.Blocks.{is_exit_word, is_quiet, IsBlockOf, IsLike, IsLaid}
use Rattle.block_law.specs.Translations.{Meaning, Permit, Code, IsBlock, placed, has_loop, fetch_of, end_of, done_at}

-- the word at each place
pub has_each : (fetch : Fetch) (pc : ℕ) (is : List AlphaInstr) → HasAt fetch pc is → (j : ℕ) (i : AlphaInstr) → slice_get is j ≡ Some i → fetch (pc + j) ≡ Some i
has_each fetch pc [] h j i e = cc
has_each fetch pc (k ∷ is) h zero i e = let same : k ≡ i = cc in let here : pc ≡ pc + 0 = omega arith in subst (λ x. fetch x ≡ Some i) here (h.0 ∙ ap (λ (x : AlphaInstr). Some x) same)
has_each fetch pc (k ∷ is) h (suc j) i e = let there : pc + 1 + j ≡ pc + suc j = omega arith in subst (λ x. fetch x ≡ Some i) there (has_each fetch (pc + 1) is h.1 j i e)

-- ---- a block whose exits were filled in is as tidy as before
-- two instructions are the same to the rules of a block
record AreAlike (i j : AlphaInstr) : Type 0 where
  kept : is_kept (register_written i) ≡ is_kept (register_written j)
  raise : may_raise i ≡ may_raise j
  fault : may_fault i ≡ may_fault j
  interpreted : interprets i ≡ interprets j
  done : done_at (Some i) ≡ done_at (Some j)

raises_no_more : (i : AlphaInstr) → may_fault i ≡ false → may_raise i ≡ false
raises_no_more (Memory op ra rb disp) e = refl
raises_no_more (Branch op ra disp) e = refl
raises_no_more (Operate op ra rb rc) e = refl
raises_no_more (Jump ra rb) e = refl
raises_no_more (Pal number) e = e

four_true : (a b c d : Bool) → (not a && not b && not c && d) ≡ true → (a ≡ false) × (b ≡ false) × (c ≡ false) × (d ≡ true)
four_true false false false true e = (refl, refl, refl, refl)
four_true true b c d e = cc
four_true false true c d e = cc
four_true false false true d e = cc
four_true false false false false e = cc

quiet_alike : (i j : AlphaInstr) → is_quiet i ≡ true → is_quiet j ≡ true → AreAlike i j
quiet_alike i j p q =
    let a = four_true (is_kept (register_written i)) (may_fault i) (interprets i) (done_at (Some i) == 0) p in
    let b = four_true (is_kept (register_written j)) (may_fault j) (interprets j) (done_at (Some j) == 0) q in
    record {
      kept = a.0 ∙ sym b.0;
      raise = raises_no_more i a.1 ∙ sym (raises_no_more j b.1);
      fault = a.1 ∙ sym b.1;
      interpreted = a.2 ∙ sym b.2;
      done = eqb-true (done_at (Some i)) 0 a.3 ∙ sym (eqb-true (done_at (Some j)) 0 b.3);
    }

-- instructions alike, place by place
abbrev AllAlike : (is js : List AlphaInstr) → Type 0
AllAlike is js = (k : ℕ) (i j : AlphaInstr) → slice_get is k ≡ Some i → slice_get js k ≡ Some j → AreAlike i j

keeps_alike : (loops : Bool) (i j : AlphaInstr) → AreAlike i j → keeps_to loops i ≡ keeps_to loops j
keeps_alike true i j a = a.raise
keeps_alike false i j a = a.fault

any_alike : (test : AlphaInstr → Bool) → ((i j : AlphaInstr) → AreAlike i j → test i ≡ test j) → (is js : List AlphaInstr) → length is ≡ length js → AllAlike is js → list_any test is ≡ list_any test js
any_alike test same [] [] count h = refl
any_alike test same [] (j ∷ js) count h = absurd (omega arith)
any_alike test same (i ∷ is) [] count h = absurd (omega arith)
any_alike test same (i ∷ is) (j ∷ js) count h = rw (same i j (h 0 i j refl refl), any_alike test same is js (omega arith) (λ k. h (suc k))) refl

until_alike : (loops : Bool) (is js : List AlphaInstr) → length is ≡ length js → AllAlike is js → keeps_until (keeps_to loops) is ≡ keeps_until (keeps_to loops) js
until_alike loops [] [] count h = refl
until_alike loops [] (j ∷ js) count h = absurd (omega arith)
until_alike loops (i ∷ is) [] count h = absurd (omega arith)
until_alike loops (i ∷ is) (j ∷ js) count h =
    rw ((h 0 i j refl refl).kept, any_alike (keeps_to loops) (keeps_alike loops) is js (omega arith) (λ k. h (suc k)), until_alike loops is js (omega arith) (λ k. h (suc k))) refl

module _ (loops : Bool) (address : ℕ) (block : BlockValue) (words : List AlphaInstr) (of : IsBlockOf loops address block) (like : IsLike block words) where
  like_alike : AllAlike words block.words
  like_alike k i j at at' = by (is_exit_word block.exits k) refl
    where
      by : (b : Bool) → is_exit_word block.exits k ≡ b → AreAlike i j
      by true e = quiet_alike i j (like.quiet k i e at) (of.exits_quiet k j e at')
      by false e =
          let found = like.same k e in
          let same : i ≡ j = cc in
          subst (AreAlike i) same (record { kept = refl; raise = refl; fault = refl; interpreted = refl; done = refl })

  like_tidy : IsTidy loops words
  like_tidy =
      let count = like.count in
      let tidy = of.tidy in
      let some = tidy.some in
      let few = tidy.few in
      record {
        some = omega arith;
        few = omega arith;
        keeps = until_alike loops words block.words count like_alike ∙ tidy.keeps;
        translated = any_alike interprets (λ i j a. a.interpreted) words block.words count like_alike ∙ tidy.translated;
      }

-- ---- a block in its place
module _ (meaning : Meaning) (permit : Permit) (code : Code) (address : ℕ) (block : BlockValue) (shape : IsBlockOf (has_loop permit address) address block) (laid : IsLaid code address block) where
  pub first_point : point_at code.points laid.first ≡ Some shape.first
  first_point =
      let some = shape.tidy.some in
      let count = laid.stands.like.count in
      subst (λ w. point_at code.points w ≡ Some shape.first) (add-zero laid.first) (laid.stands.points 0 (omega arith) ∙ shape.has_first)

  -- the point of a word is the instruction's
  its_point : (word : ℕ) (point : Point) → word < length laid.stands.words → point_at code.points (laid.first + word) ≡ Some point
      → (point.vax_pc ≡ address) × (point.done ≡ done_at (fetch_of code.words (laid.first + word)))
  its_point word point lt has =
      let stands = laid.stands in
      let own = shape.points word point (sym (stands.points word lt) ∙ has) in
      let it = get_or stands.words word nop in
      let here : slice_get stands.words word ≡ Some it = slice_get-get_or stands.words word nop lt in
      let there = has_each (fetch_of code.words) laid.first stands.words stands.stand word it here in
      let before = get_or block.words word nop in
      let was : slice_get block.words word ≡ Some before = slice_get-get_or block.words word nop own.within in
      let alike = like_alike (has_loop permit address) address block stands.words shape stands.like word it before here was in
      (own.its, own.done ∙ ap done_at was ∙ sym alike.done ∙ ap done_at (sym there))

  pub is_block : ((thread n : ℕ) (state : VaxState) (held : Flags) (regs : Regs) → thread < 256 → IsState state → state.pc ≡ address → InForm regs → Shows regs address shape.first.rules held state
      → Follows (placed meaning permit code thread state held laid.first) n Plain block_steps new_round (at_place regs laid.first) (meaning.tree thread state))
      → IsBlock meaning permit code address laid.first
  is_block follows =
      let stands = laid.stands in
      record {
        point = shape.first;
        has_point = first_point;
        its_points = inside;
        words = stands.words;
        ends = stands.ends;
        within = stands.within;
        stand = stands.stand;
        tidy = like_tidy (has_loop permit address) address block stands.words shape stands.like;
        follows = follows;
      }
    where
      inside : (word : ℕ) (q : Point) → laid.first ≤ word → word < end_of code laid.first → point_at code.points word ≡ Some q → (q.vax_pc ≡ address) × (q.done ≡ done_at (fetch_of code.words word))
      inside word q low high has =
          let end = laid.stands.ends in
          let there : laid.first + (word - laid.first) ≡ word = omega arith in
          subst (λ w. (q.vax_pc ≡ address) × (q.done ≡ done_at (fetch_of code.words w))) there
          (its_point (word - laid.first) q (omega arith) (subst (λ w. point_at code.points w ≡ Some q) (sym there) has))
