-- The lines of a program whose operands are used where they stand, by themselves.
use Rattle.std.proofs.Common.{◌≡◌, ℕ, ◌+◌, ◌-◌, ◌^◌, ◌<◌, ◌≤◌, refl, sym, ap, ap₂, ◌∙◌, subst, arith, List, [], ◌∷◌, ◌++◌, length, map, Option, Some, None, Bool, true, false, lit<, lit≤, length-append, inl, inr, append_assoc}
use Rattle.std.specs.Prelude.{◌⊎◌, pos, ◌==◌, ◌&&◌, ◌||◌, not, nat_lt, All, option_and_then, option_map, if◌then◌else◌, unwrap_or, nat_le, is_none}
use Rattle.std.specs.List.{list_all, list_any}
use Rattle.std.proofs.lemmas.Bool.Decides.{nat_tests}
use Rattle.std.proofs.lemmas.Bool.{ltb-true, and_from, and_parts}
use Rattle.std.proofs.lemmas.List.{append-nil}
use Rattle.std.proofs.lemmas.List.Elements.{All-append, All-cons, All-head, All-nil}
use Rattle.std.proofs.lemmas.List.Folds.{list_any-append, list_all-append}
use Rattle.std.proofs.lemmas.Option.{same_Some}
use Rattle.vax_form.specs.declared.instr.Size.{Size}
use Rattle.vax_form.specs.declared.instr.Size.TheVariants.{Byte, Word, Long, Quad}
use Rattle.alpha_encode.specs.Words.{IsEncodable, IsSecond}
use Rattle.alpha_encode.specs.declared.instr.AlphaInstr.{AlphaInstr}
use Rattle.alpha_encode.specs.declared.instr.AlphaInstr.TheVariants.{Branch, Operate, Pal}
use Rattle.alpha_encode.specs.declared.instr.BranchOp.{BranchOp}
use Rattle.alpha_meaning.specs.Act.{links}
use Rattle.alpha_encode.specs.declared.instr.OperateOp.{OperateOp}
use Rattle.alpha_encode.specs.declared.instr.OperateOp.TheVariants as row
use Rattle.alpha_encode.specs.declared.instr.Second.{Second}
use Rattle.alpha_encode.specs.declared.instr.Second.TheVariants as seconds
use Rattle.alpha_meaning.specs.Loops.{fine, is_operate, written}
use Rattle.micro_ops.specs.Exits.{addresses_of, exit_addresses}
use Rattle.micro_ops.specs.declared.known.Known.{Known}
use Rattle.micro_ops.specs.declared.program.Arg.{Arg}
use Rattle.micro_ops.specs.declared.program.Arg.TheVariants as arguments
use Rattle.micro_ops.specs.declared.program.Exit.{Exit}
use Rattle.micro_ops.specs.declared.program.Exit.TheVariants as exits
use Rattle.micro_ops.specs.declared.program.Micro.{Micro}
use Rattle.micro_ops.specs.declared.program.Micro.TheVariants.{Compute, Probe, Refuse, Read, Write, Locked, Commit, Codes, SetPsw, Leave}
use Rattle.micro_ops.specs.declared.program.MicroOp.{MicroOp}
use Rattle.micro_ops.specs.declared.program.MicroOp.TheVariants.{Move, ZeroExtend, Add, Sub, And, Or, Xor, AndNot, Equal, Less, LessUnsigned}
use Rattle.micro_ops.specs.Fits.{codes_fit, commit_fits, computation_fits, exit_fits, holding_of, is_ended, sources_fit, step, walk, check_fits, read_fits, write_fits}
use Rattle.micro_ops.specs.Known.{behind_commit, behind_write, behind_access}
use Rattle.micro_ops.specs.LeftOut.{is_left_out, is_low, is_used}
use Rattle.micro_ops.specs.Uses.{is_quad, is_select, is_unary, leaves_longword}
use Rattle.micro_ops.specs.WordCounts.{argument_words, by_size, has_literal, is_literal, operation_words, program_words, second_words, words_of as count_of}
use Rattle.compute_sequences.specs.Promises.{changes_only}
use Rattle.compute_sequences.specs.Registers.{IsArgument, IsTarget, may_change}
use Rattle.compute_sequences.specs.Words.{compute_code, is_constant, is_moved, is_short}
use Rattle.compute_sequences.proofs.WholeLaws.{computed_encodable, computed_length, computed_writes}
use Rattle.block_law.specs.CodeWords.{may_be_written}
use Rattle.block_law.specs.Tidy.{is_kept, may_fault, register_written, writes_register}
use Rattle.micro_ops.specs.declared.known.Checked.TheVariants.{At}
use Rattle.program_codegen.proofs.Shaping.{Faulting}
use Rattle.program_codegen.proofs.HomeFronts.{probe_front, read_front, write_front}
use Rattle.program_codegen.specs.declared.homes.Homes.{Homes}
use Rattle.program_codegen.specs.declared.lines.Line.{Line}
use Rattle.program_codegen.specs.declared.points.Site.{Site}
use Rattle.program_codegen.specs.Homes.{AreHomes, IsHome, code_by, compared, comparison, copied, direct_code, extended_first, extended_second, home_by, home_of, is_copying, is_shared, long_operation, made, made_operation, new_home, placed, standing_in, with_home, step_by, waiting_words, is_short_constant, made_size, all_waiting, only_word, one_waits, passed, words_wait}
use Rattle.program_codegen.specs.Ends.{are_left, are_short_rules, commit_stays, end_lines, exit_behind, exit_stays, may_end, moved_words, end_words, choice_of}
use Rattle.program_codegen.specs.Direct.{direct_lines, direct_step, choice_lines, next_exit, tested_at, tested_exit, needed_words, is_extended, may_write, read_home, reading, settled, stands, is_exact, is_sized}
use Rattle.program_codegen.specs.Programs.{AllHaveWords, IsExit}
use Rattle.program_codegen.specs.Words.{departing_by, exit_lines, plain, trap_by, words_of, copy, marked, probing, write_by}
use Rattle.program_codegen.proofs.Coded.{fine_operates}
use Rattle.program_codegen.proofs.Endings.{above_codes, codes_local, codes_quiet, departing_each, departing_goes, departing_short, departing_spares, one_word, or_nothing, traps_silent}
use Rattle.program_codegen.proofs.Following.{opened}
use Rattle.program_codegen.proofs.Fronts.{Shape, any_neither, quiet_kept, row_targets, row_words_are, silent_front, spares_append, targets, targets_append, words_append, free_front}
use Rattle.program_codegen.proofs.HomeComputing.{compared_word, made_long, made_word, Joined, Literally, made_operates, compared_operates, sized_unmade, Sized}
use Rattle.program_codegen.proofs.HomeChoices.{choice_fits, choice_goes, choice_links, choice_quiet}
use Rattle.program_codegen.proofs.HomeWaiting.{Passed, only_is, passed_fits, passed_is}
use Rattle.program_codegen.proofs.HomeFollowing.{Stepped, ends_with, stepped, with_exit, row_apart, waits_same, reaching, where_false, where_true}
use Rattle.program_codegen.proofs.HomeSomes.{chained, first_is, mapped}
use Rattle.program_codegen.proofs.HomeTesting.{Tested, facts, tested}
use Rattle.program_codegen.proofs.HomeHolding.{copied_home, extended_home, home_is, homes_are, left_alone_is, placed_is}
use Rattle.program_codegen.proofs.HomeShapes.{moved_encodable, moved_fine, moved_length, moved_writes}
use Rattle.program_codegen.proofs.HomeSparing.{IsNumbered, Quiet, Waiting, commit_count, end_operates, end_row, nothing_waits, waiting_count}
use Rattle.program_codegen.proofs.Knowing.{nothing_behind, walk_fits, write_changes}
use Rattle.program_codegen.proofs.Numbers.{all_three, all_four}
use Rattle.program_codegen.proofs.Rows.{branch_encodable, changes_silent, is_silent, list_all_of}
use Rattle.program_codegen.proofs.Shapes.{each_append, exit_each, is_local, plain_fits, row_fits}
use Rattle.program_codegen.proofs.Walk.{plain_length}

-- ---- homes
made_few : (homes : Homes) (to : ℕ) (op : MicroOp) (size : Size) (a b : Arg) (word : AlphaInstr) → made homes to op size a b ≡ Some word → to < 4
made_few homes to op size a b word e = by (made_word homes to op size a b word e)
  where
    by : Literally to op size a word ⊎ ((nat_lt to 4 ≡ true) × (made_size op size ≡ Long) × Joined homes (made_operation to op) a b (21 + to) word) → to < 4
    by (inl c) = let lt = ltb-true to 3 c.few in omega arith
    by (inr m) = ltb-true to 4 m.0

pub new_home_is : (homes : Homes) → AreHomes homes → (to : ℕ) (op : MicroOp) (size : Size) (a b : Arg) → IsArgument a → IsHome (new_home homes to op size a b)
new_home_is homes are to op size a b is = by (copied homes to op size a) refl (made homes to op size a b) refl (is_short_constant to op size a) refl
  where
    by : (o : Option ℕ) → copied homes to op size a ≡ o → (q : Option AlphaInstr) → made homes to op size a b ≡ q → (c : Bool) → is_short_constant to op size a ≡ c → IsHome (home_by o q c to)
    by (Some r) e q f c g = copied_home homes are to op size a r is e
    by None e (Some word) f c g = let few = made_few homes to op size a b word f in (omega arith, λ not_so. omega arith)
    by None e None f true g =
        let few = ltb-true to 3 (all_three (nat_lt to 3) (is_copying op size) (is_constant (is_short Long) a) g).0 in
        (omega arith, λ not_so. omega arith)
    by None e None f false g = tt

-- ---- the words of a computation
compares : (op : MicroOp) (o : OperateOp) (x : ℕ) (s : Second) (to : ℕ) → comparison op ≡ Some o → x < 32 → IsSecond s → to < 32 → IsEncodable (Operate o x s to)
compares Equal o x s to e lt is fits = subst (λ o. IsEncodable (Operate o x s to)) (same_Some row.Cmpeq o e) (lt, is, fits)
compares Less o x s to e lt is fits = subst (λ o. IsEncodable (Operate o x s to)) (same_Some row.Cmplt o e) (lt, is, fits)
compares LessUnsigned o x s to e lt is fits = subst (λ o. IsEncodable (Operate o x s to)) (same_Some row.Cmpult o e) (lt, is, fits)
compares op o x s to e lt is fits = absurd (cc e)

encodes : (op : MicroOp) (o : OperateOp) (x : ℕ) (s : Second) (to : ℕ) → long_operation op ≡ Some o → x < 32 → IsSecond s → to < 32 → IsEncodable (Operate o x s to)
encodes Add o x s to e lt is fits = subst (λ o. IsEncodable (Operate o x s to)) (same_Some row.Addl o e) (lt, is, fits)
encodes Sub o x s to e lt is fits = subst (λ o. IsEncodable (Operate o x s to)) (same_Some row.Subl o e) (lt, is, fits)
encodes And o x s to e lt is fits = subst (λ o. IsEncodable (Operate o x s to)) (same_Some row.And o e) (lt, is, fits)
encodes Or o x s to e lt is fits = subst (λ o. IsEncodable (Operate o x s to)) (same_Some row.Bis o e) (lt, is, fits)
encodes Xor o x s to e lt is fits = subst (λ o. IsEncodable (Operate o x s to)) (same_Some row.Xor o e) (lt, is, fits)
encodes AndNot o x s to e lt is fits = subst (λ o. IsEncodable (Operate o x s to)) (same_Some row.Bic o e) (lt, is, fits)
encodes op o x s to e lt is fits = absurd (cc e)

module _ (homes : Homes) (are : AreHomes homes) where
  first_fits : (a : Arg) (r : ℕ) → IsArgument a → extended_first homes a ≡ Some r → r < 32
  first_fits (arguments.Const value) r is e = by (value == 0) e
    where
      by : (c : Bool) → (if c then Some 31 else None) ≡ Some r → r < 32
      by true e = subst (λ n. n < 32) (same_Some 31 r e) (lit< tt)
      by false e = absurd (cc e)
  first_fits (arguments.Temp temp) r is e = let lt = (extended_home homes are (arguments.Temp temp) r is e).0 in omega arith
  first_fits (arguments.Register number) r is e = let lt = (extended_home homes are (arguments.Register number) r is e).0 in omega arith
  first_fits (arguments.Flag flag) r is e = absurd (cc e)

  second_fits : (b : Arg) (s : Second) → IsArgument b → extended_second homes b ≡ Some s → IsSecond s
  second_fits (arguments.Const value) s is e = by (nat_lt value 256) refl e
    where
      by : (c : Bool) → nat_lt value 256 ≡ c → (if c then Some (seconds.Literal value) else None) ≡ Some s → IsSecond s
      by true lt e = subst IsSecond (same_Some (seconds.Literal value) s e) (ltb-true value 256 lt)
      by false lt e = absurd (cc e)
  second_fits (arguments.Temp temp) s is e = by (home_of homes temp) refl e
    where
      by : (o : Option ℕ) → home_of homes temp ≡ o → option_map seconds.Register o ≡ Some s → IsSecond s
      by None f e = absurd (cc e)
      by (Some r) f e = let lt = (home_is homes are temp r f).0 in subst IsSecond (same_Some (seconds.Register r) s e) (omega arith)
  second_fits (arguments.Register number) s is e = subst IsSecond (same_Some (seconds.Register number) s e) (omega arith)
  second_fits (arguments.Flag flag) s is e = absurd (cc e)

  binary : (op : MicroOp) (o : OperateOp) → long_operation op ≡ Some o → is_unary op ≡ false
  binary Add o e = refl
  binary Sub o e = refl
  binary And o e = refl
  binary Or o e = refl
  binary Xor o e = refl
  binary AndNot o e = refl
  binary op o e = absurd (cc e)

  two_compared : (op : MicroOp) (o : OperateOp) → comparison op ≡ Some o → is_unary op ≡ false
  two_compared Equal o e = refl
  two_compared Less o e = refl
  two_compared LessUnsigned o e = refl
  two_compared op o e = absurd (cc e)

  compared_words : (op : MicroOp) (o : OperateOp) → comparison op ≡ Some o → 1 ≤ operation_words op Long
  compared_words Equal o e = lit≤ tt
  compared_words Less o e = lit≤ tt
  compared_words LessUnsigned o e = lit≤ tt
  compared_words op o e = absurd (cc e)

  some : (size : Size) → 1 ≤ by_size size 2 2 1
  some Byte = lit≤ tt
  some Word = lit≤ tt
  some Long = lit≤ tt
  some Quad = lit≤ tt

  made_words : (op : MicroOp) (size : Size) (o : OperateOp) → long_operation op ≡ Some o → 1 ≤ operation_words op size
  made_words Add size o e = some size
  made_words Sub size o e = some size
  made_words And size o e = some size
  made_words Or size o e = some size
  made_words Xor size o e = some size
  made_words AndNot size o e = some size
  made_words op size o e = absurd (cc e)

  same_count : (a : Arg) (size : Size) → (is_quad size ≡ false) ⊎ (is_exact homes a ≡ true) → argument_words (placed homes a) size ≡ argument_words a size
  same_count (arguments.Temp temp) size narrow = by (home_of homes temp) refl size narrow
    where
      none : (size : Size) → is_quad size ≡ false → (c : Bool) (r : ℕ) → argument_words (if c then arguments.Register r else arguments.Temp (r - 21)) size ≡ 0
      none Byte narrow true r = refl
      none Word narrow true r = refl
      none Long narrow true r = refl
      none Quad narrow true r = absurd (cc narrow)
      none size narrow false r = refl

      by : (o : Option ℕ) → home_of homes temp ≡ o → (size : Size) → (is_quad size ≡ false) ⊎ (is_none (home_of homes temp) ≡ true) → argument_words (standing_in o temp) size ≡ 0
      by None e size narrow = refl
      by (Some r) e size (inl narrow) = none size narrow (nat_lt r 15) r
      by (Some r) e size (inr exact) = absurd (cc (sym exact ∙ ap is_none e))
  same_count (arguments.Register number) size narrow = refl
  same_count (arguments.Flag flag) size narrow = refl
  same_count (arguments.Const value) size narrow = refl

  same_literal : (b : Arg) → is_literal (placed homes b) ≡ is_literal b
  same_literal (arguments.Temp temp) = by (home_of homes temp)
    where
      none : (c : Bool) (r : ℕ) → is_literal (if c then arguments.Register r else arguments.Temp (r - 21)) ≡ false
      none true r = refl
      none false r = refl

      by : (o : Option ℕ) → is_literal (standing_in o temp) ≡ false
      by None = refl
      by (Some r) = none (nat_lt r 15) r
  same_literal (arguments.Register number) = refl
  same_literal (arguments.Flag flag) = refl
  same_literal (arguments.Const value) = refl

  same_second : (op : MicroOp) (b : Arg) (size : Size) → (is_quad size ≡ false) ⊎ (is_exact homes b ≡ true) → second_words op (placed homes b) size ≡ second_words op b size
  same_second op b size narrow = ap₂ (λ (n : ℕ) (literal : Bool). if is_unary op || (has_literal op && literal) then 0 else n) (same_count b size narrow) (same_literal b)

  -- its words have encodings, make no access, and are no more than are counted
  pub record Words (most : ℕ) (words : List AlphaInstr) : Type 0 where
    pub encodable : All IsEncodable words
    pub silent : list_all is_silent words ≡ true
    pub few : length words ≤ most

  pub direct_words : (to : ℕ) (op : MicroOp) (size : Size) (a b : Arg) → IsTarget (21 + to) → IsArgument a → (is_unary op ≡ false → IsArgument b) → (is_sized homes to op size a b) ≡ true → Words (count_of (Compute to op size a b)) (direct_code homes to op size a b)
  direct_words to op size a b target a_is b_is either = by (copied homes to op size a) refl (made homes to op size a b) refl (compared homes to op size a b) refl
    where
      by : (o : Option ℕ) → copied homes to op size a ≡ o → (q : Option AlphaInstr) → made homes to op size a b ≡ q → (u : Option AlphaInstr) → compared homes to op size a b ≡ u → Words (count_of (Compute to op size a b)) (code_by o q u (compute_code op size (placed homes a) (placed homes b) (21 + to)))
      by (Some r) e q f u h = record { encodable = All-nil IsEncodable; silent = refl; few = omega arith }
      by None e (Some word) f u h = of (made_word homes to op size a b word f)
        where
          some_words : (op : MicroOp) (size : Size) → is_moved op ≡ true → 1 ≤ operation_words op size
          some_words Move Byte is = lit≤ tt
          some_words Move Word is = lit≤ tt
          some_words Move Long is = lit≤ tt
          some_words Move Quad is = lit≤ tt
          some_words ZeroExtend Byte is = lit≤ tt
          some_words ZeroExtend Word is = lit≤ tt
          some_words ZeroExtend Long is = lit≤ tt
          some_words ZeroExtend Quad is = lit≤ tt
          some_words op size is = absurd (cc is)

          of : Literally to op size a word ⊎ ((nat_lt to 4 ≡ true) × (made_size op size ≡ Long) × Joined homes (made_operation to op) a b (21 + to) word) → Words (count_of (Compute to op size a b)) (word ∷ [])
          of (inl c) =
              let word_counts = some_words op size c.copies in
              let few = ltb-true to 3 c.few in
              let small = c.small in
              record {
                encodable = subst (λ (w : AlphaInstr). All IsEncodable (w ∷ [])) (sym c.is) (one_word (Operate row.Bis 31 (seconds.Literal c.value) (21 + to)) (lit< tt, small, omega arith));
                silent = subst (λ (w : AlphaInstr). list_all is_silent (w ∷ []) ≡ true) (sym c.is) (quiet few);
                few = omega arith;
              }
            where
              quiet : to < 3 → (not (is_kept (21 + to)) && true) ≡ true
              quiet lt = grind (arith, nat_tests)
          of (inr m) =
              let j = m.2 in
              let x_fits = first_fits a j.first a_is j.is_first in
              let long = made_long to op j.operation j.is_operation in
              let word_counts = made_words op size j.operation long in
              let low = ltb-true to 4 m.0 in
              let count : 1 ≤ count_of (Compute to op size a b) = omega arith in
              record {
                encodable = subst (λ (w : AlphaInstr). All IsEncodable (w ∷ [])) (sym j.is) (one_word (Operate j.operation j.first j.second (21 + to)) (encodes op j.operation j.first j.second (21 + to) long (omega arith) (second_fits b j.second (b_is (binary op j.operation long)) j.is_second) (omega arith)));
                silent = subst (λ (w : AlphaInstr). list_all is_silent (w ∷ []) ≡ true) (sym j.is) (quiet low);
                few = count;
              }
            where
              quiet : to < 4 → (not (is_kept (21 + to)) && true) ≡ true
              quiet lt = grind (arith, nat_tests)
      by None e None f (Some word) h =
          let m = compared_word homes to op size a b word h in
          let j = m.1 in
          let x_fits = first_fits a j.first a_is j.is_first in
          let some = compared_words op j.operation j.is_operation in
          let low = target.low in
          let high = target.high in
          record {
            encodable = subst (λ (w : AlphaInstr). All IsEncodable (w ∷ [])) (sym j.is) (one_word (Operate j.operation j.first j.second (21 + to)) (compares op j.operation j.first j.second (21 + to) j.is_operation x_fits (second_fits b j.second (b_is (two_compared op j.operation j.is_operation)) j.is_second) (omega arith)));
            silent = subst (λ (w : AlphaInstr). list_all is_silent (w ∷ []) ≡ true) (sym j.is)
                (list_all_of (changes_only (may_change (21 + to))) is_silent (changes_silent (21 + to) target) (Operate j.operation j.first j.second (21 + to) ∷ []) (own (21 + to)));
            few = subst (λ size. 1 ≤ count_of (Compute to op size a b)) (sym m.0) (omega arith);
          }
        where
          own : (n : ℕ) → ((n == n || n == 27) && true) ≡ true
          own n = let same : (n == n) ≡ true = grind (arith, nat_tests) in rw same refl
      by None e None f None h =
          let placed_b : is_unary op ≡ false → IsArgument (placed homes b) = λ two. placed_is homes are b (b_is two) in
          let sized = sized_unmade homes size a b (made homes to op size a b) either f in
          let first = same_count a size (one sized) in
          let second = same_second op b size (other sized) in
          let most = computed_length op size (placed homes a) (placed homes b) (21 + to) in
          record {
            encodable = computed_encodable (placed homes a) (placed homes b) (21 + to) (placed_is homes are a a_is) target op size placed_b;
            silent = list_all_of (changes_only (may_change (21 + to))) is_silent (changes_silent (21 + to) target) (compute_code op size (placed homes a) (placed homes b) (21 + to)) (computed_writes (placed homes a) (placed homes b) (21 + to) (placed_is homes are a a_is) target op size placed_b);
            few = omega arith;
          }
        where
          one : Sized homes size a b → (is_quad size ≡ false) ⊎ (is_exact homes a ≡ true)
          one (inl narrow) = inl narrow
          one (inr exact) = inr exact.0

          other : Sized homes size a b → (is_quad size ≡ false) ⊎ (is_exact homes b ≡ true)
          other (inl narrow) = inl narrow
          other (inr exact) = inr exact.1

-- ---- the end
module _ (site : Site) (codes : List AlphaInstr) (after_fits : site.after < 2 ^ 32) (encodable : All IsEncodable codes) (few : length codes ≤ 32) (only : list_all (fine (may_be_written site.sources)) codes ≡ true) where
  leaving_shape : (op : BranchOp) (exit : Exit) → links op ≡ false → IsExit exit → list_any may_fault (words_of (departing_by op site exit)) ≡ false
      → Shape site true [] (exit_addresses site.after exit) 27 (trap_by op site exit ++ departing_by op site exit)
  leaving_shape op exit unlinked is quiet =
      let trap = traps_silent site op exit unlinked is in
      let size = length-append (trap_by op site exit) (departing_by op site exit) in
      let short = trap.few in
      let last = departing_short site after_fits op exit in
      record {
        each = each_append site 0 (trap_by op site exit) (departing_by op site exit) trap.front.each (departing_each site after_fits op exit is);
        kept = any_neither may_fault (trap_by op site exit) (departing_by op site exit) trap.quiet quiet;
        goes = targets_append (trap_by op site exit) (departing_by op site exit) ∙ (ap (λ xs. xs ++ targets (departing_by op site exit)) trap.front.stays ∙ departing_goes site after_fits op exit);
        writes = λ r low high. spares_append (trap_by op site exit) (departing_by op site exit) trap.front.spares (departing_spares site after_fits op exit unlinked) r low high;
        short = omega arith;
      }

  anything : (is : List AlphaInstr) → list_all is_operate is ≡ true → list_all (fine (λ n. true)) is ≡ true
  anything is e = list_all_of is_operate (fine (λ n. true)) (λ i e. and_from (is_operate i) true e refl) is e

  end_shape : (homes : Homes) → AreHomes homes → Waiting homes → (commit : Option (ℕ × ℕ)) (exit : Exit) (words : List AlphaInstr) (changed : Bool) → moved_words homes codes ≡ Some words → may_end site homes commit exit ≡ true → IsNumbered commit → IsExit exit
      → Shape site changed codes (exit_addresses site.after exit) (59 + commit_count commit + waiting_count homes) (end_lines site homes commit exit words)
  end_shape homes are waits commit exit words changed moved may numbered is =
      let x = all_four (are_left site.sources homes) (commit_stays commit) (exit_stays homes exit) (are_short_rules site.behind) may in
      let lasting = (left_alone_is site.sources homes are x.0).lasting in
      let choice = choice_of homes exit in
      let rest = trap_by choice.0 site choice.1 ++ departing_by choice.0 site choice.1 in
      let row = end_words homes commit choice.1 words in
      let behind = leaving_shape choice.0 choice.1 (choice_links homes exit) (choice_fits homes exit is) (choice_quiet site choice.0 homes exit x.2) in
      let fine_words = moved_fine homes lasting (may_be_written site.sources) codes words moved only in
      let operate = fine_operates (may_be_written site.sources) words fine_words in
      let any = anything (end_words homes commit choice.1 words) (end_operates homes commit choice.1 words waits.before.operate waits.last.operate operate) in
      let s = end_row homes are waits commit choice.1 words x.1 numbered (moved_encodable homes lasting codes words moved encodable) operate in
      let size = length-append (map plain (end_words homes commit choice.1 words)) rest in
      let count = plain_length (end_words homes commit choice.1 words) in
      let same = moved_length homes lasting codes words moved in
      let short = behind.short in
      let most = s.few in
      record {
        each = each_append site 0 (map plain (end_words homes commit choice.1 words)) rest (row_fits site (end_words homes commit choice.1 words) s.encodable (list_all_of (fine (λ n. true)) is_local (codes_local (λ n. true)) (end_words homes commit choice.1 words) any)) behind.each;
        kept = quiet_kept changed (words_of (map plain (end_words homes commit choice.1 words) ++ rest)) (any_neither may_fault (map plain (end_words homes commit choice.1 words)) rest (ap (list_any may_fault) (row_words_are (end_words homes commit choice.1 words)) ∙ codes_quiet (λ n. true) (end_words homes commit choice.1 words) any) behind.kept);
        goes = targets_append (map plain (end_words homes commit choice.1 words)) rest ∙ (ap (λ xs. xs ++ targets rest) (row_targets (end_words homes commit choice.1 words)) ∙ (behind.goes ∙ choice_goes homes site.after exit));
        writes = λ r low high.
            ap (writes_register r) (words_append (map plain (end_words homes commit choice.1 words)) rest)
            ∙ (list_any-append (λ i. register_written i == r) (words_of (map plain (end_words homes commit choice.1 words))) (words_of rest)
            ∙ (ap (λ xs. writes_register r xs || writes_register r (words_of rest)) (row_words_are (end_words homes commit choice.1 words))
            ∙ (ap (λ b. writes_register r (end_words homes commit choice.1 words) || b) (behind.writes r low high) ∙ (or_nothing (writes_register r (end_words homes commit choice.1 words)) ∙ (s.writes r low high ∙ moved_writes homes lasting r high codes words moved)))));
        short = omega arith;
      }

  -- from where a program comes to its end
  ending_shape : (program : List Micro) (homes : Homes) → AreHomes homes → Waiting homes → (commit : Option (ℕ × ℕ)) (exit : Exit) (words : List AlphaInstr) (changed : Bool) (known : Known)
      → exit_behind site.sources program ≡ Some exit → moved_words homes codes ≡ Some words → may_end site homes commit exit ≡ true → IsNumbered commit
      → AllHaveWords site.sources program → known.ended ≡ false → is_ended (walk site.sources known program) ≡ true
      → Shape site changed codes (addresses_of site.after program) (59 + commit_count commit + waiting_count homes) (end_lines site homes commit exit words)
  unfolding step
  ending_shape [] homes are waits commit exit words changed known e moved may numbered have off walked = absurd (cc e)
  ending_shape (Compute to op size a b ∷ program) homes are waits commit exit words changed known e moved may numbered have off walked =
      let behind = behind_write to (holding_of (leaves_longword (Compute to op size a b))) known in
      let x = walk_fits (computation_fits known to op a b) behind (λ behind. walk site.sources behind program) (opened site.sources known (Compute to op size a b) program off walked) in
      ending_shape program homes are waits commit exit words changed behind (out_of (is_left_out site.sources (Compute to op size a b) program) (exit_behind site.sources program) e) moved may numbered have.1 ((write_changes to (holding_of (leaves_longword (Compute to op size a b))) known).ended ∙ off) x.1
    where
      out_of : (out : Bool) (o : Option Exit) → (if out then o else None) ≡ Some exit → o ≡ Some exit
      out_of true o e = e
      out_of false o e = absurd (cc e)
  ending_shape (Codes n z v c ∷ program) homes are waits commit exit words changed known e moved may numbered have off walked =
      let x = walk_fits (codes_fit known n z v c) (record known { codes = true; changed = true }) (λ behind. walk site.sources behind program) (opened site.sources known (Codes n z v c) program off walked) in
      ending_shape program homes are waits commit exit words changed (record known { codes = true; changed = true }) e moved may numbered have.1 off x.1
  ending_shape (Leave leave ∷ program) homes are waits commit exit words changed known e moved may numbered have off walked =
      let x = walk_fits (exit_fits known leave && sources_fit site.sources known) (record known { ended = true }) (λ behind. walk site.sources behind program) (opened site.sources known (Leave leave) program off walked) in
      let none = nothing_behind site.sources (record known { ended = true }) program refl x.1 in
      let same = same_Some leave exit e in
      subst (λ (rest : List Micro). Shape site changed codes (addresses_of site.after (Leave leave ∷ rest)) (59 + commit_count commit + waiting_count homes) (end_lines site homes commit exit words)) (sym none)
      (subst (λ (exit' : Exit). Shape site changed codes (exit_addresses site.after leave ++ []) (59 + commit_count commit + waiting_count homes) (end_lines site homes commit exit' words)) same
      (subst (λ addresses. Shape site changed codes addresses (59 + commit_count commit + waiting_count homes) (end_lines site homes commit leave words)) (sym (append-nil (exit_addresses site.after leave)))
      (end_shape homes are waits commit leave words changed moved (subst (λ (exit' : Exit). may_end site homes commit exit' ≡ true) (sym same) may) numbered have.0)))
  ending_shape (Probe place count write ∷ program) homes are waits commit exit words changed known e moved may numbered have off walked = absurd (cc e)
  ending_shape (Refuse when ∷ program) homes are waits commit exit words changed known e moved may numbered have off walked = absurd (cc e)
  ending_shape (Read to place count ∷ program) homes are waits commit exit words changed known e moved may numbered have off walked = absurd (cc e)
  ending_shape (Write place count source ∷ program) homes are waits commit exit words changed known e moved may numbered have off walked = absurd (cc e)
  ending_shape (Locked to place kind source ∷ program) homes are waits commit exit words changed known e moved may numbered have off walked = absurd (cc e)
  ending_shape (Commit number source ∷ program) homes are waits commit exit words changed known e moved may numbered have off walked = absurd (cc e)
  ending_shape (SetPsw source ∷ program) homes are waits commit exit words changed known e moved may numbered have off walked = absurd (cc e)

  -- ---- the program
  abbrev ShapeOf : Bool → Homes → List Micro → List Line → Type 0
  ShapeOf changed homes program lines = Shape site changed codes (addresses_of site.after program) (program_words site.sources program + 59 + waiting_count homes) lines

  weaker : (changed : Bool) (addresses : List ℕ) (n m : ℕ) (lines : List Line) → n ≤ m → Shape site changed codes addresses n lines → Shape site changed codes addresses m lines
  weaker changed addresses n m lines le shape = let short = shape.short in record { each = shape.each; kept = shape.kept; goes = shape.goes; writes = shape.writes; short = omega arith }

  -- one of two exits
  choice_shape : (changed : Bool) (test : BranchOp × ℕ) (chosen other : ℕ) → codes ≡ [] → links test.0 ≡ false → test.1 < 32 → chosen < 2 ^ 32 → other < 2 ^ 32 → Shape site changed codes (chosen ∷ other ∷ []) 7 (choice_lines test chosen other)
  choice_shape changed test chosen other none unlinked small lt lt' = record {
    each = (
      plain_fits site (Branch test.0 test.1 (pos 3)) (branch_encodable test.0 test.1 3 small (lit< tt)) refl,
      each_append site 0 (exit_lines chosen) (exit_lines other) (exit_each site chosen lt) (exit_each site other lt'),
    );
    kept = quiet_kept changed (words_of (choice_lines test chosen other)) refl;
    goes = refl;
    writes = λ r low high. (let free = above_codes 31 r (lit≤ tt) high in rw (unlinked, free) refl) ∙ ap (writes_register r) (sym none);
    short = lit≤ tt;
  }

  -- the words that wait
  all_quiet : (o u : Option AlphaInstr) → Quiet o → Quiet u → All IsEncodable (waiting_words o ++ waiting_words u) × (list_all is_silent (waiting_words o ++ waiting_words u) ≡ true)
  all_quiet o u first last = (
    All-append IsEncodable (waiting_words o) (waiting_words u) first.encodable last.encodable,
    list_all-append is_silent (waiting_words o) (waiting_words u) ∙ (ap (λ b. b && list_all is_silent (waiting_words u)) first.silent ∙ last.silent),
  )

  -- those, a reference, and the rest
  reach_shape : (homes : Homes) → Waiting homes → (changed : Bool) → changed ≡ false → (n most : ℕ) (addresses : List ℕ) (front rest lines : List Line)
      → (map plain (all_waiting homes) ++ front) ++ rest ≡ lines → Faulting site n front → Shape site changed codes addresses most rest
      → Shape site changed codes addresses (n + most + waiting_count homes) lines
  reach_shape homes waits changed same_state n most addresses front rest lines whole f shape =
      let both = all_quiet homes.before homes.waiting waits.before waits.last in
      let count = plain_length (all_waiting homes) in
      let all = length-append (waiting_words homes.before) (waiting_words homes.waiting) in
      subst (Shape site changed codes addresses (n + most + waiting_count homes)) (sym (append_assoc (map plain (all_waiting homes)) front rest) ∙ whole)
      (silent_front site codes addresses changed (length (all_waiting homes)) (n + most) _ (all_waiting homes) (front ++ rest) both.0 both.1 (omega arith) (omega arith)
      (free_front site codes addresses changed n most _ front rest same_state f.0 f.1 f.2 (omega arith) shape))

  place_small : (homes : Homes) → AreHomes homes → (place : ℕ) → place < 6 → stands homes place < 32
  place_small homes are place lt = by (home_of homes place) refl
    where
      by : (o : Option ℕ) → home_of homes place ≡ o → unwrap_or o (21 + place) < 32
      by None e = omega arith
      by (Some r) e = let small = (home_is homes are place r e).0 in omega arith

  read_home_is : (to count : ℕ) → IsHome (read_home to count)
  read_home_is to count = by (is_extended to count) refl
    where
      by : (b : Bool) → is_extended to count ≡ b → IsHome (if b then Some (21 + to) else None)
      by true e = let few = ltb-true to 3 (and_parts (count == 4) (nat_lt to 3) e).1 in (omega arith, λ not_so. omega arith)
      by false e = tt

  pub direct_shape : (program : List Micro) (homes : Homes) → AreHomes homes → Waiting homes → (lines : List Line) (changed : Bool) → changed ≡ false → (known : Known) → direct_lines site codes homes program ≡ Some lines → AllHaveWords site.sources program
      → known.ended ≡ false → is_ended (walk site.sources known program) ≡ true → ShapeOf changed homes program lines
  unfolding step
  direct_shape [] homes are waits lines changed same_state known e have off walked = absurd (cc e)
  direct_shape (Compute to op size a b ∷ program) homes are waits lines changed same_state known e have off walked =
      let behind = behind_write to (holding_of (leaves_longword (Compute to op size a b))) known in
      let x = walk_fits (computation_fits known to op a b) behind (λ behind. walk site.sources behind program) (opened site.sources known (Compute to op size a b) program off walked) in
      let off' = (write_changes to (holding_of (leaves_longword (Compute to op size a b))) known).ended ∙ off in
      of x.1 off' (λ homes' are' waits' rest is'. direct_shape program homes' are' waits' rest changed same_state behind is' have.1 off' x.1) (first_is (tested_at site codes homes (Compute to op size a b) program) (option_and_then (λ (step : Homes × List AlphaInstr). option_map (λ (lines : List Line). map plain step.1 ++ lines) (direct_lines site codes step.0 program)) (direct_step site.sources homes to op size a b program)) lines e)
    where
      homes_then : Homes
      homes_then = with_home to (new_home homes to op size a b) homes

      same_waits : ((with_home to (new_home homes to op size a b) homes).before ≡ homes.before) × ((with_home to (new_home homes to op size a b) homes).waiting ≡ homes.waiting)
      same_waits = waits_same to (new_home homes to op size a b) homes

      -- a word that waits, behind the one before it
      waits_on : (rest : List Line) → ((homes' : Homes) → AreHomes homes' → Waiting homes' → direct_lines site codes homes' program ≡ Some rest → ShapeOf changed homes' program rest)
          → AreHomes homes_then → (word : AlphaInstr) → Words homes are (count_of (Compute to op size a b)) (word ∷ []) → is_operate word ≡ true
          → direct_lines site codes (record homes_then { before = homes.waiting; waiting = Some word }) program ≡ Some rest
          → Shape site changed codes (addresses_of site.after program) (count_of (Compute to op size a b) + program_words site.sources program + 59 + waiting_count homes) (map plain (waiting_words homes.before) ++ rest)
      waits_on rest shape are' word w operate is =
          let quiet : Quiet (Some word) = record { encodable = w.encodable; silent = w.silent; operate = ap (λ c. c && true) operate } in
          let behind = shape (record homes_then { before = homes.waiting; waiting = Some word }) (are'.0, are'.1, are'.2, are'.3) (record { before = waits.last; last = quiet }) is in
          let most = w.few in
          let count = plain_length (waiting_words homes.before) in
          silent_front site codes (addresses_of site.after program) changed (length (waiting_words homes.before)) (program_words site.sources program + 59 + (length (waiting_words homes.waiting) + 1)) _ (waiting_words homes.before) rest
          waits.before.encodable waits.before.silent (omega arith) (omega arith) behind

      by_words : (rest : List Line) → ((homes' : Homes) → AreHomes homes' → Waiting homes' → direct_lines site codes homes' program ≡ Some rest → ShapeOf changed homes' program rest)
          → AreHomes homes_then → (target : IsTarget (21 + to)) → IsArgument a → (is_unary op ≡ false → IsArgument b) → (is_sized homes to op size a b) ≡ true
          → (o : Option ℕ) → copied homes to op size a ≡ o → (q : Option AlphaInstr) → made homes to op size a b ≡ q → (u : Option AlphaInstr) → compared homes to op size a b ≡ u
          → direct_lines site codes (step_by o q u homes.before homes.waiting homes_then (direct_code homes to op size a b)).0 program ≡ Some rest
          → Shape site changed codes (addresses_of site.after program) (count_of (Compute to op size a b) + program_words site.sources program + 59 + waiting_count homes) (map plain (step_by o q u homes.before homes.waiting homes_then (direct_code homes to op size a b)).1 ++ rest)
      by_words rest shape are' target a_is b_is either (Some r) e q f u h is =
          let waiting : Waiting homes_then = record { before = subst Quiet (sym same_waits.0) waits.before; last = subst Quiet (sym same_waits.1) waits.last } in
          let behind = shape homes_then are' waiting is in
          let short = behind.short in
          let first = ap (λ (o : Option AlphaInstr). length (waiting_words o)) same_waits.0 in
          let second = ap (λ (o : Option AlphaInstr). length (waiting_words o)) same_waits.1 in
          record { each = behind.each; kept = behind.kept; goes = behind.goes; writes = behind.writes; short = omega arith }
      by_words rest shape are' target a_is b_is either None e (Some word) f u h is =
          let w = direct_words homes are to op size a b target a_is b_is either in
          let code : direct_code homes to op size a b ≡ word ∷ [] = ap (λ (o : Option ℕ). code_by o (made homes to op size a b) (compared homes to op size a b) (compute_code op size (placed homes a) (placed homes b) (21 + to))) e
          ∙ ap (λ (o : Option AlphaInstr). code_by None o (compared homes to op size a b) (compute_code op size (placed homes a) (placed homes b) (21 + to))) f in
          waits_on rest shape are' word (subst (Words homes are (count_of (Compute to op size a b))) code w) (made_operates homes to op size a b word f) is
      by_words rest shape are' target a_is b_is either None e None f (Some word) h is =
          let w = direct_words homes are to op size a b target a_is b_is either in
          let code : direct_code homes to op size a b ≡ word ∷ [] = ap (λ (o : Option ℕ). code_by o (made homes to op size a b) (compared homes to op size a b) (compute_code op size (placed homes a) (placed homes b) (21 + to))) e
          ∙ (ap (λ (o : Option AlphaInstr). code_by None o (compared homes to op size a b) (compute_code op size (placed homes a) (placed homes b) (21 + to))) f
          ∙ ap (λ (o : Option AlphaInstr). code_by None None o (compute_code op size (placed homes a) (placed homes b) (21 + to))) h) in
          waits_on rest shape are' word (subst (Words homes are (count_of (Compute to op size a b))) code w) (compared_operates homes to op size a b word h) is
      by_words rest shape are' target a_is b_is either None e None f None h is = by_only (only_word (direct_code homes to op size a b)) refl is
        where
          -- it needs no copy before it
          passes_on : (word shorter : AlphaInstr) → only_word (direct_code homes to op size a b) ≡ Some word → Passed homes.waiting word shorter
              → direct_lines site codes (record homes_then { before = homes.before; waiting = Some shorter }) program ≡ Some rest
              → Shape site changed codes (addresses_of site.after program) (count_of (Compute to op size a b) + program_words site.sources program + 59 + waiting_count homes) rest
          passes_on word shorter only q is =
              let o = only_is (direct_code homes to op size a b) word only in
              let w = subst (Words homes are (count_of (Compute to op size a b))) (o.0 ∙ ap (λ (i : AlphaInstr). i ∷ []) q.is_word) (direct_words homes are to op size a b target a_is b_is either) in
              let fits = All-head IsEncodable (Operate q.operation q.to q.second q.to) [] w.encodable in
              let quiet : Quiet (Some shorter) = subst (λ (i : AlphaInstr). Quiet (Some i)) (sym q.is) (record {
                encodable = All-cons IsEncodable (Operate q.operation q.from q.second q.to) [] (passed_fits q.operation q.to q.from q.low q.register fits.0, fits.1, fits.2) (All-nil IsEncodable);
                silent = w.silent;
                operate = refl;
              }) in
              let behind = shape (record homes_then { before = homes.before; waiting = Some shorter }) (are'.0, are'.1, are'.2, are'.3) (record { before = waits.before; last = quiet }) is in
              let short = behind.short in
              let count = ap (λ (o : Option AlphaInstr). length (waiting_words o)) q.is_copy in
              record { each = behind.each; kept = behind.kept; goes = behind.goes; writes = behind.writes; short = omega arith }

          by_passed : (word : AlphaInstr) → only_word (direct_code homes to op size a b) ≡ Some word → (s : Option AlphaInstr) → passed homes.waiting word ≡ s
              → direct_lines site codes (one_waits s homes.before homes.waiting homes_then word).0 program ≡ Some rest
              → Shape site changed codes (addresses_of site.after program) (count_of (Compute to op size a b) + program_words site.sources program + 59 + waiting_count homes) (map plain (one_waits s homes.before homes.waiting homes_then word).1 ++ rest)
          by_passed word only None s is =
              let o = only_is (direct_code homes to op size a b) word only in
              waits_on rest shape are' word (subst (Words homes are (count_of (Compute to op size a b))) o.0 (direct_words homes are to op size a b target a_is b_is either)) o.1 is
          by_passed word only (Some shorter) s is = passes_on word shorter only (passed_is homes.waiting word shorter s) is

          by_only : (m : Option AlphaInstr) → only_word (direct_code homes to op size a b) ≡ m → direct_lines site codes (words_wait m homes.before homes.waiting homes_then (direct_code homes to op size a b)).0 program ≡ Some rest
              → Shape site changed codes (addresses_of site.after program) (count_of (Compute to op size a b) + program_words site.sources program + 59 + waiting_count homes) (map plain (words_wait m homes.before homes.waiting homes_then (direct_code homes to op size a b)).1 ++ rest)
          by_only (Some word) only is = by_passed word only (passed homes.waiting word) refl is
          by_only None only is =
              let w = direct_words homes are to op size a b target a_is b_is either in
              let behind = shape (record homes_then { before = None; waiting = None }) (are'.0, are'.1, are'.2, are'.3) (record { before = nothing_waits; last = nothing_waits }) is in
              let most = w.few in
              let count = plain_length (waiting_words homes.before) in
              let counts = plain_length (waiting_words homes.waiting) in
              let more = plain_length (direct_code homes to op size a b) in
              subst (Shape site changed codes (addresses_of site.after program) (count_of (Compute to op size a b) + program_words site.sources program + 59 + waiting_count homes))
              (sym (row_apart (waiting_words homes.before) (waiting_words homes.waiting ++ direct_code homes to op size a b) rest ∙ ap (λ (lines : List Line). map plain (waiting_words homes.before) ++ lines) (row_apart (waiting_words homes.waiting) (direct_code homes to op size a b) rest)))
              (silent_front site codes (addresses_of site.after program) changed (length (waiting_words homes.before)) (length (waiting_words homes.waiting) + (count_of (Compute to op size a b) + (program_words site.sources program + 59 + 0))) _ (waiting_words homes.before) (map plain (waiting_words homes.waiting) ++ (map plain (direct_code homes to op size a b) ++ rest))
              waits.before.encodable waits.before.silent (omega arith) (omega arith)
              (silent_front site codes (addresses_of site.after program) changed (length (waiting_words homes.waiting)) (count_of (Compute to op size a b) + (program_words site.sources program + 59 + 0)) _ (waiting_words homes.waiting) (map plain (direct_code homes to op size a b) ++ rest)
              waits.last.encodable waits.last.silent (omega arith) (omega arith)
              (silent_front site codes (addresses_of site.after program) changed (count_of (Compute to op size a b)) (program_words site.sources program + 59 + 0) _ (direct_code homes to op size a b) rest
              w.encodable w.silent (omega arith) (omega arith) behind)))

      by : (step : Homes × List AlphaInstr) (rest : List Line) → direct_lines site codes step.0 program ≡ Some rest
          → ((homes' : Homes) → AreHomes homes' → Waiting homes' → direct_lines site codes homes' program ≡ Some rest → ShapeOf changed homes' program rest)
          → (out : Bool) → is_left_out site.sources (Compute to op size a b) program ≡ out → Stepped site homes to op size a b program step out
          → Shape site changed codes (addresses_of site.after program) ((if out then 0 else count_of (Compute to op size a b)) + program_words site.sources program + 59 + waiting_count homes) (map plain step.1 ++ rest)
      by step rest is shape true out s =
          let behind = shape homes are waits (subst (λ (step : Homes × List AlphaInstr). direct_lines site codes step.0 program ≡ Some rest) s.is is) in
          let short = behind.short in
          subst (λ (step : Homes × List AlphaInstr). Shape site changed codes (addresses_of site.after program) (0 + program_words site.sources program + 59 + waiting_count homes) (map plain step.1 ++ rest)) (sym s.is)
          (record { each = behind.each; kept = behind.kept; goes = behind.goes; writes = behind.writes; short = omega arith })
      by step rest is shape false out s =
          let has = have.0 out in
          let direct = all_three (is_sized homes to op size a b) (not (is_select op)) (not (is_shared homes to)) (s.direct refl) in
          subst (λ (step : Homes × List AlphaInstr). Shape site changed codes (addresses_of site.after program) (count_of (Compute to op size a b) + program_words site.sources program + 59 + waiting_count homes) (map plain step.1 ++ rest)) (sym s.is)
          (by_words rest shape (homes_are to (new_home homes to op size a b) homes (new_home_is homes are to op size a b has.1) are) has.0 has.1 has.2 direct.0 (copied homes to op size a) refl (made homes to op size a b) refl (compared homes to op size a b) refl
          (subst (λ (step : Homes × List AlphaInstr). direct_lines site codes step.0 program ≡ Some rest) s.is is))

      tested_then : (exit : Exit) (program : List Micro) → next_exit program ≡ Some exit → Tested site codes homes to op size a b exit lines → is_ended (walk site.sources (behind_write to (holding_of (leaves_longword (Compute to op size a b))) known) program) ≡ true
          → (behind_write to (holding_of (leaves_longword (Compute to op size a b))) known).ended ≡ false → AllHaveWords site.sources (Compute to op size a b ∷ program) → ShapeOf changed homes (Compute to op size a b ∷ program) lines
      tested_then exit (Leave leave ∷ program) is s walked off have =
          let behind = behind_write to (holding_of (leaves_longword (Compute to op size a b))) known in
          let x = walk_fits (exit_fits behind leave && sources_fit site.sources behind) (record behind { ended = true }) (λ behind. walk site.sources behind program) (opened site.sources behind (Leave leave) program off walked) in
          let none = nothing_behind site.sources (record behind { ended = true }) program refl x.1 in
          let own = s.own in
          let low : is_low to ≡ true = grind (arith, nat_tests) in
          let out : is_left_out site.sources (Compute to op size a b) (Leave leave ∷ program) ≡ false = ap (λ b. not b && not (is_used site.sources (Leave leave ∷ program) to)) low in
          let f = facts homes are to s.own op size a b s.test s.found in
          let leaves : leave ≡ exits.Choice to s.chosen s.other = same_Some leave exit is ∙ s.is in
          let fits : IsExit (exits.Choice to s.chosen s.other) = subst IsExit leaves have.1.0 in
          let shape = choice_shape changed s.test s.chosen s.other s.no_codes f.unlinked (f.small (have.0 out).1) fits.1 fits.2 in
          let count = plain_length (waiting_words homes.before) in
          let counts = plain_length (needed_words to s.test.1 homes.waiting) in
          let n = still_waits homes.waiting waits.last.encodable waits.last.silent in
          let most = n.2 in
          let split = row_apart (waiting_words homes.before) (needed_words to s.test.1 homes.waiting) (choice_lines s.test s.chosen s.other) in
          subst (λ (rest : List Micro). ShapeOf changed homes (Compute to op size a b ∷ Leave leave ∷ rest) lines) (sym none)
          (subst (λ leave. ShapeOf changed homes (Compute to op size a b ∷ Leave leave ∷ []) lines) (sym leaves)
          (subst (λ (ls : List Line). ShapeOf changed homes (Compute to op size a b ∷ Leave (exits.Choice to s.chosen s.other) ∷ []) ls) s.whole
          (subst (λ (ls : List Line). ShapeOf changed homes (Compute to op size a b ∷ Leave (exits.Choice to s.chosen s.other) ∷ []) ls) (sym split)
          (silent_front site codes (s.chosen ∷ s.other ∷ []) changed (length (waiting_words homes.before)) (length (waiting_words homes.waiting) + 7) _ (waiting_words homes.before) (map plain (needed_words to s.test.1 homes.waiting) ++ choice_lines s.test s.chosen s.other) waits.before.encodable waits.before.silent (omega arith) (omega arith)
          (silent_front site codes (s.chosen ∷ s.other ∷ []) changed (length (waiting_words homes.waiting)) 7 _ (needed_words to s.test.1 homes.waiting) (choice_lines s.test s.chosen s.other) n.0 n.1 (omega arith) (omega arith) shape)))))
        where
          still_waits : (o : Option AlphaInstr) → All IsEncodable (waiting_words o) → list_all is_silent (waiting_words o) ≡ true
              → All IsEncodable (needed_words to s.test.1 o) × (list_all is_silent (needed_words to s.test.1 o) ≡ true) × (length (needed_words to s.test.1 o) ≤ length (waiting_words o))
          still_waits None all silent = (all, silent, lit≤ tt)
          still_waits (Some word) all silent = by (written word == (21 + to) && not (s.test.1 == (21 + to)))
            where
              by : (c : Bool) → All IsEncodable (if c then [] else word ∷ []) × (list_all is_silent (if c then [] else word ∷ []) ≡ true) × (length (if c then [] else word ∷ []) ≤ 1)
              by true = (All-nil IsEncodable, refl, lit≤ tt)
              by false = (all, silent, lit≤ tt)
      tested_then exit [] is s walked off have = absurd (cc is)
      tested_then exit (operation ∷ program) is s walked off have = absurd (cc is)

      of : is_ended (walk site.sources (behind_write to (holding_of (leaves_longword (Compute to op size a b))) known) program) ≡ true → (behind_write to (holding_of (leaves_longword (Compute to op size a b))) known).ended ≡ false → ((homes' : Homes) → AreHomes homes' → Waiting homes' → (rest : List Line) → direct_lines site codes homes' program ≡ Some rest → ShapeOf changed homes' program rest)
          → ((tested_at site codes homes (Compute to op size a b) program) ≡ Some lines) ⊎ (((tested_at site codes homes (Compute to op size a b) program) ≡ None) × ((option_and_then (λ (step : Homes × List AlphaInstr). option_map (λ (lines : List Line). map plain step.1 ++ lines) (direct_lines site codes step.0 program)) (direct_step site.sources homes to op size a b program)) ≡ Some lines)) → ShapeOf changed homes (Compute to op size a b ∷ program) lines
      of walked' off' onward (inl tests) =
          let c = chained Exit (List Line) (tested_exit site codes homes to op size a b) (next_exit program) lines tests in
          tested_then c.found program c.is (tested site codes homes to op size a b c.found lines c.onward) walked' off' have
      of walked' off' onward (inr y) =
          let c = chained (Homes × List AlphaInstr) (List Line) (λ (step : Homes × List AlphaInstr). option_map (λ (lines : List Line). map plain step.1 ++ lines) (direct_lines site codes step.0 program)) (direct_step site.sources homes to op size a b program) lines y.1 in
          let m = mapped (List Line) (List Line) (λ (lines : List Line). map plain c.found.1 ++ lines) (direct_lines site codes c.found.0 program) lines c.onward in
          subst (λ (ls : List Line). ShapeOf changed homes (Compute to op size a b ∷ program) ls) m.whole
          (by c.found m.found m.is (λ homes' are' waits' is'. onward homes' are' waits' m.found is')
          (is_left_out site.sources (Compute to op size a b) program) refl (stepped site homes to op size a b program c.found (is_left_out site.sources (Compute to op size a b) program) refl c.is))
  direct_shape (Commit number source ∷ program) homes are waits lines changed same_state known e have off walked =
      let x = walk_fits (commit_fits known number source) (behind_commit number known) (λ behind. walk site.sources behind program) (opened site.sources known (Commit number source) program off walked) in
      let z = with_exit site codes (Some (number, source)) (Commit number source) program homes lines refl e in
      let end = z.2 in
      subst (λ (ls : List Line). ShapeOf changed homes (Commit number source ∷ program) ls) end.whole
      (weaker changed (addresses_of site.after program) (60 + waiting_count homes) (program_words site.sources (Commit number source ∷ program) + 59 + waiting_count homes) (end_lines site homes (Some (number, source)) z.0 end.words) (omega arith)
      (ending_shape program homes are waits (Some (number, source)) z.0 end.words changed (behind_commit number known) z.1 end.moved end.may have.0.0 have.1 off x.1))
  direct_shape (Codes n z v c ∷ program) homes are waits lines changed same_state known e have off walked =
      let x = walk_fits (codes_fit known n z v c) (record known { codes = true; changed = true }) (λ behind. walk site.sources behind program) (opened site.sources known (Codes n z v c) program off walked) in
      let y = with_exit site codes None (Codes n z v c) program homes lines refl e in
      let end = y.2 in
      subst (λ (ls : List Line). ShapeOf changed homes (Codes n z v c ∷ program) ls) end.whole
      (weaker changed (addresses_of site.after program) (59 + 0 + waiting_count homes) (program_words site.sources (Codes n z v c ∷ program) + 59 + waiting_count homes) (end_lines site homes None y.0 end.words) (omega arith)
      (ending_shape program homes are waits None y.0 end.words changed (record known { codes = true; changed = true }) y.1 end.moved end.may tt have.1 off x.1))
  direct_shape (Leave exit ∷ program) homes are waits lines changed same_state known e have off walked =
      let end = ends_with site codes (Leave exit) program homes lines None exit refl e in
      subst (λ (ls : List Line). ShapeOf changed homes (Leave exit ∷ program) ls) end.whole
      (weaker changed (addresses_of site.after (Leave exit ∷ program)) (59 + 0 + waiting_count homes) (program_words site.sources (Leave exit ∷ program) + 59 + waiting_count homes) (end_lines site homes None exit end.words) (omega arith)
      (ending_shape (Leave exit ∷ program) homes are waits None exit end.words changed known refl end.moved end.may tt have off walked))
  direct_shape (Probe place count write ∷ program) homes are waits lines changed same_state known e have off walked =
      let behind = behind_access (record known { checked = At place count write }) in
      let x = walk_fits (check_fits known place count) behind (λ behind. walk site.sources behind program) (opened site.sources known (Probe place count write) program off walked) in
      let r = reaching site codes homes (Probe place count write) program lines e in
      let made : Homes × List Line = (settled homes, plain (copy (stands homes place) 27) ∷ marked (Pal 0x80) (probing site count write) ∷ []) in
      let same = same_Some made r.step r.is in
      let low = place_small homes are place have.0.0 in
      weaker changed (addresses_of site.after program) (2 + (program_words site.sources program + 59 + 0) + waiting_count homes) _ lines (omega arith)
      (reach_shape homes waits changed same_state 2 (program_words site.sources program + 59 + 0) (addresses_of site.after program) (plain (copy (stands homes place) 27) ∷ marked (Pal 0x80) (probing site count write) ∷ []) r.rest lines
      (ap (λ (step : Homes × List Line). (map plain (all_waiting homes) ++ step.1) ++ r.rest) same ∙ r.whole) (probe_front site (stands homes place) count write low)
      (direct_shape program (settled homes) are (record { before = nothing_waits; last = nothing_waits }) r.rest changed same_state behind (subst (λ (step : Homes × List Line). direct_lines site codes step.0 program ≡ Some r.rest) (sym same) r.onward) have.1 off x.1))
  direct_shape (Refuse when ∷ program) homes are waits lines changed same_state known e have off walked = absurd (cc e)
  direct_shape (Read to place count ∷ program) homes are waits lines changed same_state known e have off walked =
      let behind = behind_access (behind_write to (holding_of (nat_le count 4)) known) in
      let x = walk_fits (read_fits known to place count) behind (λ behind. walk site.sources behind program) (opened site.sources known (Read to place count) program off walked) in
      let off' = (write_changes to (holding_of (nat_le count 4)) known).ended ∙ off in
      let r = reaching site codes homes (Read to place count) program lines e in
      let homes' = with_home to (read_home to count) (settled homes) in
      let made : Homes × List Line = (with_home to (read_home to count) (settled homes), map plain (reading site.byte_word homes to place count)) in
      let found = where_false (is_shared homes to) made r.step r.is in
      let quiet = waits_same to (read_home to count) (settled homes) in
      let none = ap (λ (o : Option AlphaInstr). length (waiting_words o)) quiet.0 in
      let still = ap (λ (o : Option AlphaInstr). length (waiting_words o)) quiet.1 in
      weaker changed (addresses_of site.after program) (count_of (Read to place count) + (program_words site.sources program + 59 + waiting_count homes') + waiting_count homes) _ lines (omega arith)
      (reach_shape homes waits changed same_state (count_of (Read to place count)) (program_words site.sources program + 59 + waiting_count homes') (addresses_of site.after program) (map plain (reading site.byte_word homes to place count)) r.rest lines
      (ap (λ (step : Homes × List Line). (map plain (all_waiting homes) ++ step.1) ++ r.rest) found.1 ∙ r.whole) (read_front site homes are to place count have.0.0 have.0.1 have.0.2)
      (direct_shape program homes' (homes_are to (read_home to count) (settled homes) (read_home_is to count) are) (record { before = subst Quiet (sym quiet.0) nothing_waits; last = subst Quiet (sym quiet.1) nothing_waits }) r.rest changed same_state behind (subst (λ (step : Homes × List Line). direct_lines site codes step.0 program ≡ Some r.rest) (sym found.1) r.onward) have.1 off' x.1))
  direct_shape (Write place count source ∷ program) homes are waits lines changed same_state known e have off walked =
      let x = walk_fits (write_fits known place count source) (behind_access known) (λ behind. walk site.sources behind program) (opened site.sources known (Write place count source) program off walked) in
      let r = reaching site codes homes (Write place count source) program lines e in
      let made : Homes × List Line = (settled homes, map plain (write_by site.byte_word (stands homes place) count (stands homes source))) in
      let found = where_true (may_write homes count source) made r.step r.is in
      weaker changed (addresses_of site.after program) (count_of (Write place count source) + (program_words site.sources program + 59 + 0) + waiting_count homes) _ lines (omega arith)
      (reach_shape homes waits changed same_state (count_of (Write place count source)) (program_words site.sources program + 59 + 0) (addresses_of site.after program) (map plain (write_by site.byte_word (stands homes place) count (stands homes source))) r.rest lines
      (ap (λ (step : Homes × List Line). (map plain (all_waiting homes) ++ step.1) ++ r.rest) found.1 ∙ r.whole) (write_front site homes are place count source have.0.0 have.0.1 have.0.2)
      (direct_shape program (settled homes) are (record { before = nothing_waits; last = nothing_waits }) r.rest changed same_state (behind_access known) (subst (λ (step : Homes × List Line). direct_lines site codes step.0 program ≡ Some r.rest) (sym found.1) r.onward) have.1 off x.1))
  direct_shape (Locked to place kind source ∷ program) homes are waits lines changed same_state known e have off walked = absurd (cc e)
  direct_shape (SetPsw source ∷ program) homes are waits lines changed same_state known e have off walked = absurd (cc e)
