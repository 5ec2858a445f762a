-- Each end of a block: an exit, or a branch with an exit.
use Rattle.std.proofs.Common.{◌≡◌, ℕ, zero, suc, ◌+◌, ◌-◌, ◌^◌, ◌<◌, ◌≤◌, refl, sym, ◌∙◌, ap, subst, arith, add-zero, eqb-true, ltb-true, List, [], ◌∷◌, length, take, Bool, true, false, Option, Some, None}
use Rattle.std.specs.Prelude.{ℤ, ◌==◌, ◌&&◌, ◌||◌, not, nat_lt, nat_le, slice_get, unwrap_or}
use Rattle.std.proofs.lemmas.Int.{ints}
use Rattle.std.proofs.lemmas.Bool.{and_parts}
use Rattle.std.proofs.lemmas.Bool.Decides.{nat_tests}
use Rattle.vax_form.specs.Tree.{Tree}
use Rattle.vax_form.specs.declared.state.Flags.{Flags}
use Rattle.vax_form.specs.declared.state.VaxState.{VaxState}
use Rattle.alpha_encode.specs.declared.instr.AlphaInstr.{AlphaInstr}
use Rattle.alpha_encode.specs.declared.instr.AlphaInstr.TheVariants.{Branch}
use Rattle.alpha_encode.specs.declared.instr.BranchOp.{BranchOp}
use Rattle.alpha_meaning.specs.Act.{links, taken, target_of}
use Rattle.alpha_meaning.specs.Pieces.{HasAt, Phase}
use Rattle.alpha_meaning.specs.State.{Regs, at_place}
use Rattle.address_map.specs.Pairs.{Pair, word_at}
use Rattle.exception_records.specs.Blocks.{BlockValue}
use Rattle.exception_records.specs.Points.{point_at}
use Rattle.exception_records.specs.declared.rules.Rules.{Rules}
use Rattle.block_law.specs.Placements.{Placement}
use Rattle.block_law.specs.Rounds.{Round, round_after}
use Rattle.block_law.specs.Laws.{Ever}
use Rattle.block_law.specs.Follows.{LeadsTo}
use Rattle.block_law.specs.Tidy.{is_kept, register_written, may_fault, interprets}
use Rattle.block_law.specs.Blocks.{Exit, IsBlockOf, IsExitOf, RulesAt, RulesMeet, is_exit_word, is_quiet}
use Rattle.block_law.specs.Translations.{Meaning, Permit, Code, IsBlock, done_at, fetch_of, has_loop, placed}
use Rattle.branch_layout.specs.Exits.{displacement}
use Rattle.branch_layout.specs.Ends.{ended_words, fork_to, form_code, form_of, form_words, is_near_block, keeps, may_end_at, may_fall, none_behind, word_to}
use Rattle.branch_layout.specs.Layouts.{FollowsAnywhere}
use Rattle.branch_layout.specs.declared.ends.End.{End}
use Rattle.branch_layout.specs.declared.ends.Form.{Form}
use Rattle.branch_layout.specs.declared.ends.Form.TheVariants.{Behind, Near, Whole}
use Rattle.branch_layout.proofs.Comes.{Comes, lands_here, leads_here, Shown, landed_by, led, fork_follows}
use Rattle.branch_layout.proofs.Ending.{EndIs, exit_is, fork_is, Way, straight, over, turned_links, turned_taken}
use Rattle.branch_layout.proofs.Filling.{All_at, some_same}
use Rattle.branch_layout.proofs.InPlace.{Cut, FollowsThere, FormIs, IsEnd, IsSet, branch_quiet, comes_by, exit_shown, form_is, form_most, has_front, is_behind, is_block, last_word, leads_by, long, quiet_parts, rules_of, same, size}
use Rattle.branch_layout.proofs.Shorter.{AtCut, lands_there, goes_there, target_moved}
use Rattle.branch_layout.proofs.Virtual.{AreLast, fetched_alone, inside_alone, opens, slow_front}

first_length : {X : Type 0} (n : ℕ) (xs : List X) → n ≤ length xs → length (take n xs) ≡ n
first_length zero xs le = refl
first_length (suc n) [] le = absurd (omega arith)
first_length (suc n) (x ∷ xs) le = ap suc (first_length n xs (omega arith))

module _ (meaning : Meaning) (permit : Permit) (code : Code) (small : Bool) (mapped : List Pair) (next : Option ℕ) (address first : ℕ) (block : BlockValue) (shape : IsBlockOf (has_loop permit address) address block) (behind : Rules) (meet : RulesMeet code block.exits behind) where
  -- each exit's address is a longword
  fits_at : (place : ℕ) (exit : Exit) → slice_get block.exits place ≡ Some exit → exit.1 < 2 ^ 32
  fits_at place exit at = (All_at (IsExitOf block) block.exits place exit shape.exits at).1

  -- an exit's first word is quiet
  exit_word_quiet : (place : ℕ) (exit : Exit) (i : AlphaInstr) → slice_get block.exits place ≡ Some exit → slice_get block.words exit.0 ≡ Some i → done_at (Some i) ≡ 0
  exit_word_quiet place exit i at is =
      let q = shape.exits_quiet exit.0 i (its_word block.exits place exit at) is in
      eqb-true (done_at (Some i)) 0 (quiet_parts (is_kept (register_written i)) (may_fault i) (interprets i) (done_at (Some i) == 0) q).3
    where
      first_word : (w : ℕ) → (nat_le w w && nat_lt w (w + 3)) ≡ true
      first_word w = let a : nat_le w w ≡ true = grind (arith, nat_tests) in let b : nat_lt w (w + 3) ≡ true = grind (arith, nat_tests) in rw (a, b) refl

      or_true : (a b : Bool) → b ≡ true → (a || b) ≡ true
      or_true true b e = refl
      or_true false b e = e

      its_word : (exits : List Exit) (place : ℕ) (exit : Exit) → slice_get exits place ≡ Some exit → is_exit_word exits exit.0 ≡ true
      its_word [] place exit at = absurd (cc at)
      its_word (x ∷ exits) zero exit at = let same : x ≡ exit = some_same at in subst (λ (x : Exit). is_exit_word (x ∷ exits) exit.0 ≡ true) (sym same) (rw (first_word exit.0) refl)
      its_word (x ∷ exits) (suc place) exit at = or_true _ (is_exit_word exits exit.0) (its_word exits place exit at)

  -- ---- one exit
  module _ (exit : Exit) (are : block.exits ≡ exit ∷ []) (last : exit.0 + 3 ≡ length block.words) (kept : keeps exit.0 block ≡ true) (form : Form) (is_form : FormIs (may_fall exit.0 block) small mapped next exit.1 form) where
    abbrev one_end : End
    one_end = record { start = exit.0; fork = None; address = exit.1; form = form }

    at_zero : slice_get block.exits 0 ≡ Some exit
    at_zero = ap (λ (es : List Exit). slice_get es 0) are

    form_falls : (form : Form) → FormIs (may_fall exit.0 block) small mapped next exit.1 form → 0 + form_words form ≡ 0 → may_fall exit.0 block ≡ true
    form_falls Behind (is_behind falls is) z = falls
    form_falls Near is z = absurd (omega arith)
    form_falls Whole is z = absurd (omega arith)

    form_some : (form : Form) → FormIs (may_fall exit.0 block) small mapped next exit.1 form → 1 ≤ exit.0 + (0 + form_words form)
    form_some Behind (is_behind falls is) =
        let some = ltb-true 0 exit.0 (and_parts (nat_lt 0 exit.0) (may_end_at (slice_get block.words (exit.0 - 1))) (and_parts (nat_lt 0 exit.0 && may_end_at (slice_get block.words (exit.0 - 1))) (none_behind (exit.0 - 1) block.points) falls).0).0 in
        omega arith
    form_some Near is = omega arith
    form_some Whole is = omega arith

    module _ (set : IsSet code small mapped next address first block (ended_words code.map first block one_end)) where
      one_is : IsEnd meaning permit code small mapped next address first block shape one_end set behind meet
      one_is =
          let most = form_most form in
          record {
            exits_at = exit.0;
            tail = subst (AreLast exit.0 (length block.words)) (sym are) (refl, last);
            below = omega arith;
            at_most = omega arith;
            room = omega arith;
            kept = kept;
            count = omega arith;
            some = form_some form is_form;
            fork_calm = λ j i e. absurd (cc e);
            quiet_there = λ i e. exit_word_quiet 0 exit i at_zero e;
            falls = form_falls form is_form;
          }

      one_cut : (thread : ℕ) (state : VaxState) (held : Flags) → Cut meaning permit code small mapped next address first block shape one_end set behind meet one_is thread state held
      one_cut thread state held = (λ some. at_cut some (form_words form == 0) refl, there)
        where
          long' : Code
          long' = long meaning permit code small mapped next address first block shape one_end set behind meet one_is thread state held

          now' : Placement
          now' = placed meaning permit code thread state held first

          count : length (ended_words code.map first block one_end) ≡ exit.0 + (0 + form_words form)
          count = size meaning permit code small mapped next address first block shape one_end set behind meet one_is

          stand : HasAt (fetch_of code.words) (first + exit.0) (form_code code.map (first + exit.0 + 0) form exit.1)
          stand =
              let room : exit.0 ≤ length block.words = omega arith in
              let front_length : length (take exit.0 block.words) ≡ exit.0 = first_length exit.0 block.words room in
              subst (λ n. HasAt (fetch_of code.words) (first + n) (form_code code.map (first + exit.0 + 0) form exit.1)) front_length (has_front (fetch_of code.words) first (take exit.0 block.words) (form_code code.map (first + exit.0 + 0) form exit.1) set.stand).1

          stand_there : HasAt (fetch_of code.words) (first + exit.0) (form_code code.map (first + exit.0) form exit.1)
          stand_there = subst (λ n. HasAt (fetch_of code.words) (first + exit.0) (form_code code.map n form exit.1)) (add-zero (first + exit.0)) stand

          rules : RulesAt code (word_at code.map exit.1) behind
          rules = meet 0 exit at_zero

          leads : (form_words form ≡ 0 → ⊥) → LeadsTo now' (first + exit.0) exit.1 behind 3
          leads some = leads_by meaning permit thread state held code small mapped next address first block (ended_words code.map first block one_end) set behind (first + exit.0) exit.1 (may_fall exit.0 block) (omega arith) (fits_at 0 exit at_zero) rules form is_form (let c = count in omega arith) some stand_there

          there' : (form_words form ≡ 0 → ⊥) → FollowsThere meaning permit code small mapped next address first block shape one_end set behind meet one_is thread state held
          there' some n phase spare round regs t h =
              let x = exit_shown meaning permit code small mapped next address first block shape one_end set behind meet one_is thread state held 0 exit at_zero phase spare round regs t h in
              led now' (first + exit.0) exit.1 behind regs n phase spare round t (leads some) x.0 x.1

          there : exit.0 ≡ 0 → FollowsThere meaning permit code small mapped next address first block shape one_end set behind meet one_is thread state held
          there zero_is = there' (λ none. let some = form_some form is_form in absurd (omega arith))

          at_cut : 0 < exit.0 → (b : Bool) → (form_words form == 0) ≡ b → AtCut meaning permit thread state held first long' code exit.0 (same meaning permit code small mapped next address first block shape one_end set behind meet one_is thread state held)
          at_cut some true none =
              let zero_words = eqb-true (form_words form) 0 none in
              let falls = form_falls form is_form (omega arith) in
              by falls (comes_by meaning permit thread state held code small mapped next address first block (ended_words code.map first block one_end) set behind (first + exit.0) exit.1 (may_fall exit.0 block) (omega arith) (fits_at 0 exit at_zero) rules form is_form (omega arith) (let c = count in omega arith) stand_there)
            where
              by : may_fall exit.0 block ≡ true → Comes now' (first + exit.0) exit.1 behind → AtCut meaning permit thread state held first long' code exit.0 (same meaning permit code small mapped next address first block shape one_end set behind meet one_is thread state held)
              by falls (lands_here point stops has rules_same) =
                  lands_there exit.1 stops
                  (λ phase spare round regs t h. landed_by now' exit.1 behind point regs phase t (point_at code.points (first + exit.0)) has rules_same (exit_shown meaning permit code small mapped next address first block shape one_end set behind meet one_is thread state held 0 exit at_zero phase spare round regs t h).1)
                  (λ place lt is. last_word meaning permit code small mapped next address first block shape one_end set behind meet one_is thread state held place lt is falls)
              by falls (leads_here none' to) = goes_there none' (λ n phase spare round regs t h.
                  let x = exit_shown meaning permit code small mapped next address first block shape one_end set behind meet one_is thread state held 0 exit at_zero phase spare round regs t h in
                  led now' (first + exit.0) exit.1 behind regs n phase spare round t to x.0 x.1)
          at_cut some false more =
              let words_some : form_words form ≡ 0 → ⊥ = λ none. absurd (cc (sym more ∙ eqb-zero none)) in
              goes_there (set.alone exit.0 some (let c = count in let m = nonzero words_some in omega arith)) (there' words_some)
            where
              eqb-zero : form_words form ≡ 0 → (form_words form == 0) ≡ true
              eqb-zero e = rw e refl

              nonzero : (form_words form ≡ 0 → ⊥) → 0 < form_words form
              nonzero f = by_form form f
                where
                  by_form : (form : Form) → (form_words form ≡ 0 → ⊥) → 0 < form_words form
                  by_form Behind f = absurd (f refl)
                  by_form Near f = omega arith
                  by_form Whole f = omega arith

      one_block : FollowsAnywhere meaning permit address block shape.first.rules behind → IsBlock meaning permit code address first
      one_block anywhere = is_block meaning permit code small mapped next address first block shape one_end set behind meet one_is one_cut anywhere

  -- ---- a branch, and an exit
  module _ (near_exit far_exit : Exit) (op op' : BranchOp) (ra : ℕ) (disp : ℤ) (to other : ℕ) (are : block.exits ≡ near_exit ∷ far_exit ∷ []) (adjacent : near_exit.0 + 3 ≡ far_exit.0) (last : far_exit.0 + 3 ≡ length block.words) (some : 0 < near_exit.0) (kept : keeps (near_exit.0 - 1) block ≡ true)
      (word : slice_get block.words (near_exit.0 - 1) ≡ Some (Branch op ra disp)) (conditional : links op ≡ false) (goes_over : target_of (near_exit.0 - 1) disp ≡ far_exit.0) (near : is_near_block small mapped to ≡ true) (way : Way op near_exit.1 far_exit.1 op' to other) (form : Form) (is_form : FormIs true small mapped next other form) where
    abbrev start : ℕ
    start = near_exit.0 - 1

    abbrev fork_end : End
    fork_end = fork_to start op' ra to other form

    at_first : slice_get block.exits 0 ≡ Some near_exit
    at_first = ap (λ (es : List Exit). slice_get es 0) are

    at_second : slice_get block.exits 1 ≡ Some far_exit
    at_second = ap (λ (es : List Exit). slice_get es 1) are

    op'_conditional : links op' ≡ false
    op'_conditional = by way
      where
        by : {op' : BranchOp} {to other : ℕ} → Way op near_exit.1 far_exit.1 op' to other → links op' ≡ false
        by straight = conditional
        by over = turned_links op conditional

    module _ (set : IsSet code small mapped next address first block (ended_words code.map first block fork_end)) where
      fork_is_end : IsEnd meaning permit code small mapped next address first block shape fork_end set behind meet
      fork_is_end =
          let most = form_most form in
          let ends : near_exit.0 + 3 + 3 ≡ length block.words = omega arith in
          record {
            exits_at = near_exit.0;
            tail = subst (AreLast near_exit.0 (length block.words)) (sym are) (refl, (sym adjacent, ends));
            below = omega arith;
            at_most = omega arith;
            room = omega arith;
            kept = kept;
            count = omega arith;
            some = omega arith;
            fork_calm = λ j i e. branch_is j i e;
            quiet_there = λ i e. let same : Branch op ra disp ≡ i = some_same (sym word ∙ e) in subst (λ (i : AlphaInstr). done_at (Some i) ≡ 0) same refl;
            falls = λ none. absurd (omega arith);
          }
        where
          branch_is : (j : ℕ) (i : AlphaInstr) → slice_get (Branch op' ra (displacement (first + start) (word_to code.map to)) ∷ []) j ≡ Some i → is_quiet i ≡ true
          branch_is zero i e = let same : Branch op' ra (displacement (first + start) (word_to code.map to)) ≡ i = some_same e in subst (λ (i : AlphaInstr). is_quiet i ≡ true) same (branch_quiet op' ra (displacement (first + start) (word_to code.map to)) op'_conditional)
          branch_is (suc j) i e = absurd (cc e)

      module _ (thread : ℕ) (state : VaxState) (held : Flags) where
        abbrev fork_long : Code
        fork_long = long meaning permit code small mapped next address first block shape fork_end set behind meet fork_is_end thread state held

        abbrev fork_whole : Placement
        fork_whole = placed meaning permit fork_long thread state held first

        abbrev fork_now : Placement
        fork_now = placed meaning permit code thread state held first

        fork_count : length (ended_words code.map first block fork_end) ≡ start + (1 + form_words form)
        fork_count = size meaning permit code small mapped next address first block shape fork_end set behind meet fork_is_end

        -- the branch and the exit stand there
        fork_stands : HasAt (fetch_of code.words) (first + start) (Branch op' ra (displacement (first + start) (word_to code.map to)) ∷ form_code code.map (first + start + 1) form other)
        fork_stands =
            let room : start ≤ length block.words = omega arith in
            subst (λ n. HasAt (fetch_of code.words) (first + n) (Branch op' ra (displacement (first + start) (word_to code.map to)) ∷ form_code code.map (first + start + 1) form other)) (first_length start block.words room)
            (has_front (fetch_of code.words) first (take start block.words) (Branch op' ra (displacement (first + start) (word_to code.map to)) ∷ form_code code.map (first + start + 1) form other) set.stand).1

        small_words : first + length block.words < 2 ^ 31
        small_words = let most = set.whole in omega arith

        -- in the block alone the branch stands as it was, and goes to either exit
        fork_shown : (phase : Phase) (spare : ℕ) (round : Round) (regs : Regs) (t : Tree) → Ever fork_whole phase spare round (at_place regs (first + start)) t
            → (4 ≤ spare) × (taken op (regs ra) ≡ true → Shown fork_now far_exit.1 behind regs phase t) × (taken op (regs ra) ≡ false → Shown fork_now near_exit.1 behind regs phase t)
        unfolding fork_is_end
        fork_shown phase spare round regs t h = by (taken op (regs ra)) refl
          where
            at : fork_whole.fetch (first + start) ≡ Some (Branch op ra disp)
            at = fetched_alone (has_loop permit address) address first block shape behind near_exit.0 fork_is_end.tail start (Branch op ra disp) (slow_front (has_loop permit address) address first block shape behind near_exit.0 fork_is_end.tail start (omega arith) ∙ word)

            inside : (w : ℕ) → first < w → w < first + length block.words → fork_whole.stops w ≡ None
            inside w low high = inside_alone (has_loop permit address) address first block shape behind near_exit.0 fork_is_end.tail meaning permit thread state held set.whole w low high

            by : (b : Bool) → taken op (regs ra) ≡ b → (4 ≤ spare) × (b ≡ true → Shown fork_now far_exit.1 behind regs phase t) × (b ≡ false → Shown fork_now near_exit.1 behind regs phase t)
            by true e =
                let few = small_words in
                let there : target_of (first + start) disp ≡ first + far_exit.0 = target_moved first start disp (rw goes_over (omega arith)) ∙ ap (λ n. first + n) goes_over in
                let x = opens fork_whole phase spare round (first + start) (first + far_exit.0) regs t (Branch op ra disp) at (rw (conditional, e, there) refl) (omega arith) h (inside (first + far_exit.0) (omega arith) (omega arith)) in
                let y = exit_shown meaning permit code small mapped next address first block shape fork_end set behind meet fork_is_end thread state held 1 far_exit at_second phase (spare - 1) (round_after phase round (first + start) (first + far_exit.0)) regs t x.1 in
                let a = x.0 in
                let b = y.0 in
                (omega arith, λ _. y.1, λ f. absurd (cc f))
            by false e =
                let few = small_words in
                let there : first + start + 1 ≡ first + near_exit.0 = omega arith in
                let x = opens fork_whole phase spare round (first + start) (first + near_exit.0) regs t (Branch op ra disp) at (rw (conditional, e, there) refl) (omega arith) h (inside (first + near_exit.0) (omega arith) (omega arith)) in
                let y = exit_shown meaning permit code small mapped next address first block shape fork_end set behind meet fork_is_end thread state held 0 near_exit at_first phase (spare - 1) (round_after phase round (first + start) (first + near_exit.0)) regs t x.1 in
                let a = x.0 in
                let b = y.0 in
                (omega arith, λ f. absurd (cc f), λ _. y.1)

        -- in the code it is taken where the state is shown at its address
        by_way : (regs : Regs) (phase : Phase) (t : Tree) → (taken op (regs ra) ≡ true → Shown fork_now far_exit.1 behind regs phase t) → (taken op (regs ra) ≡ false → Shown fork_now near_exit.1 behind regs phase t)
            → (taken op' (regs ra) ≡ true → Shown fork_now to behind regs phase t) × (taken op' (regs ra) ≡ false → Shown fork_now other behind regs phase t)
        by_way regs phase t f g = by way
          where
            untrue : (b : Bool) → not b ≡ true → b ≡ false
            untrue true e = absurd (cc e)
            untrue false e = refl

            unfalse : (b : Bool) → not b ≡ false → b ≡ true
            unfalse true e = refl
            unfalse false e = absurd (cc e)

            by : {op' : BranchOp} {to other : ℕ} → Way op near_exit.1 far_exit.1 op' to other → (taken op' (regs ra) ≡ true → Shown fork_now to behind regs phase t) × (taken op' (regs ra) ≡ false → Shown fork_now other behind regs phase t)
            by straight = (f, g)
            by over =
                let turn = turned_taken op (regs ra) conditional in
                ((λ e. g (untrue (taken op (regs ra)) (sym turn ∙ e))), (λ e. f (unfalse (taken op (regs ra)) (sym turn ∙ e))))

        -- the rules at either address, and that it is a longword
        abbrev Rules_at : ℕ → Type 0
        Rules_at address' = RulesAt code (word_at code.map address') behind × (address' < 2 ^ 32)

        rules_both : Rules_at to × Rules_at other
        rules_both = by way
          where
            by : {op' : BranchOp} {to other : ℕ} → Way op near_exit.1 far_exit.1 op' to other → Rules_at to × Rules_at other
            by straight = ((meet 1 far_exit at_second, fits_at 1 far_exit at_second), (meet 0 near_exit at_first, fits_at 0 near_exit at_first))
            by over = ((meet 0 near_exit at_first, fits_at 0 near_exit at_first), (meet 1 far_exit at_second, fits_at 1 far_exit at_second))

        fork_there : FollowsThere meaning permit code small mapped next address first block shape fork_end set behind meet fork_is_end thread state held
        fork_there n phase spare round regs t h =
            let count = fork_count in
            let few = small_words in
            let ends = set.ends in
            let most = set.few in
            let target = set.near to near in
            let there = set.targets to target.0 target.1 in
            let below = there.below in
            let shown_at = fork_shown phase spare round regs t h in
            let either = by_way regs phase t shown_at.1 shown_at.2 in
            let rules = rules_both in
            fork_follows fork_now (first + start) target.0 op' ra (displacement (first + start) (word_to code.map to)) to other behind
            (record { is = fork_stands.0; low = omega arith; high = omega arith }) op'_conditional
            (ap (λ w. target_of (first + start) (displacement (first + start) w)) (ap (λ o. unwrap_or o 0) target.1) ∙ goes_straight (first + start) target.0 (omega arith) (omega arith)) there.point there.begins there.has_point
            (rules_of meaning permit thread state held code small mapped next address first block (ended_words code.map first block fork_end) set behind to target.0 target.1 rules.0.0)
            (comes_by meaning permit thread state held code small mapped next address first block (ended_words code.map first block fork_end) set behind (first + start + 1) other true (omega arith) rules.1.1 rules.1.0 form is_form (omega arith) (omega arith) fork_stands.1)
            n phase spare round regs t shown_at.0 either.0 either.1
          where
            goes_straight : (word target : ℕ) → word < 2 ^ 31 → target < 2 ^ 31 → target_of word (displacement word target) ≡ target
            goes_straight word target low high = omega (arith, ints)

        fork_cut : Cut meaning permit code small mapped next address first block shape fork_end set behind meet fork_is_end thread state held
        fork_cut = (λ some_words. goes_there (set.alone start some_words (let count = fork_count in omega arith)) fork_there, λ _. fork_there)

      fork_block : FollowsAnywhere meaning permit address block shape.first.rules behind → IsBlock meaning permit code address first
      fork_block anywhere = is_block meaning permit code small mapped next address first block shape fork_end set behind meet fork_is_end fork_cut anywhere

  -- ---- either
  pub ended_block : (end : End) → EndIs small mapped next block end → (set : IsSet code small mapped next address first block (ended_words code.map first block end)) → FollowsAnywhere meaning permit address block shape.first.rules behind → IsBlock meaning permit code address first
  ended_block end (exit_is exit are last kept) set anywhere =
      one_block exit are last kept (form_of (may_fall exit.0 block) small mapped next exit.1) (form_is (may_fall exit.0 block) small mapped next exit.1) set anywhere
  ended_block end (fork_is near_exit far_exit op op' ra disp to other are adjacent last some kept word conditional goes_over near way) set anywhere =
      fork_block near_exit far_exit op op' ra disp to other are adjacent last some kept word conditional goes_over near way (form_of true small mapped next other) (form_is true small mapped next other) set anywhere
