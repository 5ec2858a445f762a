-- The lines of a block by which a program leaves, by themselves.
use Rattle.std.proofs.Common.{◌≡◌, ℕ, ◌+◌, ◌^◌, ◌<◌, ◌≤◌, refl, ap, ◌∙◌, subst, arith, List, [], ◌∷◌, ◌++◌, length, map, Bool, true, false, lit<, lit≤, length-append}
use Rattle.std.specs.Prelude.{pos, ◌==◌, ◌&&◌, ◌||◌, not, All, if◌then◌else◌}
use Rattle.std.specs.List.{list_all, list_any}
use Rattle.std.proofs.lemmas.Bool.Decides.{nat_tests}
use Rattle.std.proofs.lemmas.List.Elements.{All-cons, All-nil}
use Rattle.std.proofs.lemmas.Bool.{or_from}
use Rattle.std.proofs.lemmas.List.Folds.{list_any-append}
use Rattle.byte_sequences.proofs.Encoded.{all_encodable}
use Rattle.alpha_encode.specs.Words.{IsEncodable}
use Rattle.alpha_encode.specs.declared.instr.AlphaInstr.{AlphaInstr}
use Rattle.alpha_encode.specs.declared.instr.AlphaInstr.TheVariants.{Memory, Branch, Operate, Jump, Pal}
use Rattle.alpha_encode.specs.declared.instr.BranchOp.{BranchOp}
use Rattle.alpha_encode.specs.declared.instr.BranchOp.TheVariants.{Br, Beq}
use Rattle.alpha_encode.specs.declared.instr.MemoryOp.TheVariants.{Lda}
use Rattle.alpha_encode.specs.declared.instr.OperateOp.TheVariants.{And}
use Rattle.alpha_encode.specs.declared.instr.Second.TheVariants.{Literal}
use Rattle.alpha_meaning.specs.Act.{links}
use Rattle.alpha_meaning.specs.Loops.{fine}
use Rattle.exception_records.specs.declared.rules.CodeRule.{CodeRule}
use Rattle.exception_records.specs.declared.rules.CodeRule.TheVariants as code_rules
use Rattle.micro_ops.specs.declared.codes.CodeSource.{CodeSource}
use Rattle.micro_ops.specs.declared.codes.CodeSource.TheVariants.{Kept, Zero, Result, Add, Sub, Compare, Computed, Psw}
use Rattle.micro_ops.specs.declared.codes.CodeSources.{CodeSources}
use Rattle.micro_ops.specs.declared.known.Known.{Known}
use Rattle.micro_ops.specs.declared.program.Exit.{Exit}
use Rattle.micro_ops.specs.declared.program.Exit.TheVariants as exits
use Rattle.micro_ops.specs.Fits.{same, exit_fits, sources_fit, is_from_values, is_from_psw, signs_are_held, carry_is_held}
use Rattle.block_law.specs.CodeWords.{may_be_written}
use Rattle.micro_ops.specs.Sources.{is_written}
use Rattle.block_law.specs.Tidy.{is_kept, register_written, may_fault, keeps_until, writes_register}
use Rattle.micro_ops.specs.Exits.{exit_addresses}
use Rattle.program_codegen.specs.declared.lines.Line.{Line}
use Rattle.program_codegen.specs.declared.points.Site.{Site}
use Rattle.alpha_encode.specs.Halves.{load_longword}
use Rattle.program_codegen.specs.Words.{plain, marked, holder, copy, code_copied, serving, point_of, raising, trapping, exit_lines, overflow_made, overflow_register, enabled_lines, ready_lines, made_lines, tested_lines, may_overflow, may_trap, trap_lines, departing, leaving, words_of, load_by, overflow_by, trap_by, departing_by}
use Rattle.program_codegen.specs.Programs.{IsExit, KeepsTogether}
use Rattle.program_codegen.proofs.Numbers.{all_four}
use Rattle.program_codegen.proofs.Walk.{plain_length}
use Rattle.program_codegen.proofs.Shapes.{EachFits, each_append, exit_each, plain_fits, call_fits, is_local, row_fits}
use Rattle.program_codegen.proofs.Rows.{is_free, is_own, is_silent, list_all_of, silent_own, silent_quiet, load_each, load_encodable, branch_encodable, small_fits, made_encodable, made_silent, made_short}
use Rattle.program_codegen.proofs.Fronts.{targets, targets_append, row_targets, words_append, row_words_are, any_neither, SparesCodes, KeptBy, quiet_kept, free_keeps, Front, row_front, front_append, spares_append, no_front, line_front, Shape}

-- ---- silent lines
pub record Silent (site : Site) (most : ℕ) (lines : List Line) : Type 0 where
  pub front : Front site lines
  pub quiet : list_any may_fault (words_of lines) ≡ false
  pub few : length lines ≤ most

pub silent_append : (site : Site) (n m : ℕ) (xs ys : List Line) → Silent site n xs → Silent site m ys → Silent site (n + m) (xs ++ ys)
silent_append site n m xs ys a b = record {
  front = front_append site xs ys a.front b.front;
  quiet = any_neither may_fault xs ys a.quiet b.quiet;
  few = let count = length-append xs ys in let x = a.few in let y = b.few in omega arith;
}

pub silent_row : (site : Site) (most : ℕ) (is : List AlphaInstr) → All IsEncodable is → list_all is_silent is ≡ true → length is ≤ most → Silent site most (map plain is)
silent_row site most is encodable silent few = record {
  front = row_front site is encodable (list_all_of is_silent is_own silent_own is silent);
  quiet = ap (list_any may_fault) (row_words_are is) ∙ silent_quiet is silent;
  few = let count = plain_length is in omega arith;
}

pub one_word : (i : AlphaInstr) → IsEncodable i → All IsEncodable (i ∷ [])
one_word i is = All-cons IsEncodable i [] is (All-nil IsEncodable)

pub above_codes : (n r : ℕ) → 20 ≤ n → r < 20 → (n == r) ≡ false
above_codes n r le lt = grind (arith, nat_tests)

pub below_codes : (n r : ℕ) → n < 16 → 16 ≤ r → (n == r) ≡ false
below_codes n r lt le = grind (arith, nat_tests)

-- ---- the trap
pc_encodable : (op : BranchOp) (after : ℕ) (exit : Exit) → IsExit exit → All IsEncodable (load_by op after exit)
pc_encodable op after exits.Next is = load_encodable 26 after (lit< tt)
pc_encodable op after (exits.Fixed address) is = load_encodable 26 address (lit< tt)
pc_encodable op after (exits.Computed temp) is = one_word (copy (holder temp) 26) (omega arith, lit< tt, lit< tt)
pc_encodable op after (exits.Choice when taken other) is =
    let when_fits : 21 + when < 32 = (let lt = is.0 in omega arith) in
    let first = load_each 26 taken (lit< tt) in
    all_encodable (load_by op after (exits.Choice when taken other))
    (branch_encodable op (21 + when) 3 when_fits (lit< tt), (first.0, (first.1.0, (branch_encodable Br 31 2 (lit< tt) (lit< tt), load_each 26 other (lit< tt)))))
pc_encodable op after (exits.Service temp) is = load_encodable 26 after (lit< tt)
pc_encodable op after exits.Breakpoint is = load_encodable 26 after (lit< tt)

pc_silent : (op : BranchOp) (after : ℕ) (exit : Exit) → links op ≡ false → list_all is_silent (load_by op after exit) ≡ true
pc_silent op after exits.Next unlinked = refl
pc_silent op after (exits.Fixed address) unlinked = refl
pc_silent op after (exits.Computed temp) unlinked = refl
pc_silent op after (exits.Choice when taken other) unlinked = rw unlinked refl
pc_silent op after (exits.Service temp) unlinked = refl
pc_silent op after exits.Breakpoint unlinked = refl

pub pc_short : (op : BranchOp) (after : ℕ) (exit : Exit) → length (load_by op after exit) ≤ 6
pc_short op after exits.Next = lit≤ tt
pc_short op after (exits.Fixed address) = lit≤ tt
pc_short op after (exits.Computed temp) = lit≤ tt
pc_short op after (exits.Choice when taken other) = lit≤ tt
pc_short op after (exits.Service temp) = lit≤ tt
pc_short op after exits.Breakpoint = lit≤ tt

abbrev status_word : AlphaInstr
status_word = Operate And 20 (Literal 32) 27

abbrev skip_word : ℕ → AlphaInstr
skip_word n = Branch Beq 27 (pos n)

module _ (site : Site) where
  kind_silent : Silent site 1 (plain (Memory Lda 21 31 (pos 1)) ∷ [])
  kind_silent = silent_row site 1 (Memory Lda 21 31 (pos 1) ∷ []) (one_word (Memory Lda 21 31 (pos 1)) (lit< tt, lit< tt, small_fits 1 (lit< tt))) refl (lit≤ tt)

  trap_silent : Silent site 1 (marked (Pal 0x84) (trapping site) ∷ [])
  trap_silent = record {
    front = line_front site (marked (Pal 0x84) (trapping site)) refl (call_fits site 0x84 (trapping site) (lit≤ tt) (lit≤ tt) refl refl refl refl) (λ r low high. above_codes 31 r (lit≤ tt) high);
    quiet = refl;
    few = lit≤ tt;
  }

  overflow_silent : (op : BranchOp) (exit : Exit) → links op ≡ false → IsExit exit → Silent site 8 (overflow_by op site exit)
  overflow_silent op exit unlinked is =
      silent_append site 6 2 (map plain (load_by op site.after exit)) _ (silent_row site 6 (load_by op site.after exit) (pc_encodable op site.after exit is) (pc_silent op site.after exit unlinked) (pc_short op site.after exit))
      (silent_append site 1 1 (plain (Memory Lda 21 31 (pos 1)) ∷ []) (marked (Pal 0x84) (trapping site) ∷ []) kind_silent trap_silent)

  overflow_register_fits : (rule : CodeRule) → overflow_register rule < 32
  overflow_register_fits code_rules.Ready = lit< tt
  overflow_register_fits rule = lit< tt

  enabled_silent : (over : ℕ) → over < 2 ^ 20 → Silent site 2 (enabled_lines over)
  enabled_silent over lt = silent_row site 2 (status_word ∷ skip_word over ∷ []) (all_encodable (status_word ∷ skip_word over ∷ []) ((lit< tt, lit< tt, lit< tt), (branch_encodable Beq 27 over (lit< tt) lt, tt))) refl (lit≤ tt)

  test_silent : (register over : ℕ) → register < 32 → over < 2 ^ 20 → Silent site 1 (plain (Branch Beq register (pos over)) ∷ [])
  test_silent register over fits lt = silent_row site 1 (Branch Beq register (pos over) ∷ []) (one_word _ (branch_encodable Beq register over fits lt)) refl (lit≤ tt)

  ready_silent : (trap : List Line) → Silent site 8 trap → Silent site 20 (ready_lines trap)
  ready_silent trap silent =
      let few = silent.few in
      let x = silent_append site 1 10 (plain (Branch Beq 18 (pos (2 + length trap))) ∷ []) (enabled_lines (length trap) ++ trap) (test_silent 18 (2 + length trap) (lit< tt) (omega arith))
      (silent_append site 2 8 (enabled_lines (length trap)) trap (enabled_silent (length trap) (omega arith)) silent) in
      let short = x.few in
      record { front = x.front; quiet = x.quiet; few = omega arith }

  made_lines_silent : (rule : CodeRule) (trap : List Line) → Silent site 8 trap → Silent site 20 (made_lines rule (overflow_made rule) trap)
  made_lines_silent rule trap silent =
      let few = silent.few in
      let made = made_short rule in
      silent_append site 2 18 (enabled_lines (length (overflow_made rule) + 1 + length trap)) _ (enabled_silent (length (overflow_made rule) + 1 + length trap) (omega arith))
      (silent_append site 9 9 (map plain (overflow_made rule)) _ (silent_row site 9 (overflow_made rule) (made_encodable rule) (made_silent rule) made)
      (silent_append site 1 8 (plain (Branch Beq (overflow_register rule) (pos (length trap))) ∷ []) trap (test_silent (overflow_register rule) (length trap) (overflow_register_fits rule) (omega arith)) silent))

  tested_silent : (rule : CodeRule) (trap : List Line) → Silent site 8 trap → Silent site 20 (tested_lines rule (overflow_made rule) trap)
  tested_silent code_rules.Ready trap silent = ready_silent trap silent
  tested_silent rule trap silent = made_lines_silent rule trap silent

  pub traps_silent : (op : BranchOp) (exit : Exit) → links op ≡ false → IsExit exit → Silent site 20 (trap_by op site exit)
  traps_silent op exit unlinked is = by (may_trap site)
    where
      by : (b : Bool) → Silent site 20 (if b then tested_lines site.behind.v (overflow_made site.behind.v) (overflow_by op site exit) else [])
      by true = tested_silent site.behind.v (overflow_by op site exit) (overflow_silent op exit unlinked is)
      by false = record { front = no_front site; quiet = refl; few = lit≤ tt }

-- ---- the exits
pub exit_spares : (address : ℕ) → SparesCodes (words_of (exit_lines address))
exit_spares address r low high = let other = above_codes 31 r (lit≤ tt) high in rw other refl

module _ (site : Site) (after_fits : site.after < 2 ^ 32) where
  pub departing_each : (op : BranchOp) (exit : Exit) → IsExit exit → EachFits site 0 (departing_by op site exit)
  departing_each op exits.Next is = exit_each site site.after after_fits
  departing_each op (exits.Fixed address) is = exit_each site address is
  departing_each op (exits.Computed temp) is = (
    plain_fits site (copy (holder temp) 26) (omega arith, lit< tt, lit< tt) refl,
    (record { encodable = (lit≤ tt, lit≤ tt); translated = refl; its_point = refl; whole = tt; address = tt; quiet = tt }, refl),
  )
  departing_each op (exits.Choice when taken other) is = (
    plain_fits site (Branch op (holder when) (pos 3)) (branch_encodable op (21 + when) 3 (let lt = is.0 in omega arith) (lit< tt)) refl,
    each_append site 0 (exit_lines taken) (exit_lines other) (exit_each site taken is.1) (exit_each site other is.2),
  )
  departing_each op (exits.Service temp) is = by (temp == 0)
    where
      served : EachFits site 0 (serving site)
      served =
          each_append site 0 (map plain (load_longword 26 site.after)) (marked (Pal 0x82) (point_of site) ∷ exit_lines site.after) (row_fits site (load_longword 26 site.after) (load_encodable 26 site.after (lit< tt)) refl)
          (call_fits site 0x82 (point_of site) (lit≤ tt) (lit≤ tt) refl refl refl refl, exit_each site site.after after_fits)

      by : (b : Bool) → EachFits site 0 (code_copied b temp ++ serving site)
      by true = served
      by false = (plain_fits site (copy (holder temp) 21) (omega arith, lit< tt, lit< tt) refl, served)
  departing_each op exits.Breakpoint is = (call_fits site 0x83 (raising site 0x2C) (lit≤ tt) (lit≤ tt) refl refl refl refl, refl)

  pub departing_goes : (op : BranchOp) (exit : Exit) → targets (departing_by op site exit) ≡ exit_addresses site.after exit
  departing_goes op exits.Next = refl
  departing_goes op (exits.Fixed address) = refl
  departing_goes op (exits.Computed temp) = refl
  departing_goes op (exits.Choice when taken other) = refl
  departing_goes op (exits.Service temp) = by (temp == 0)
    where
      by : (b : Bool) → targets (code_copied b temp ++ serving site) ≡ site.after ∷ []
      by true = refl
      by false = refl
  departing_goes op exits.Breakpoint = refl

  pub departing_spares : (op : BranchOp) (exit : Exit) → links op ≡ false → SparesCodes (words_of (departing_by op site exit))
  departing_spares op exits.Next unlinked r low high = exit_spares site.after r low high
  departing_spares op (exits.Fixed address) unlinked r low high = exit_spares address r low high
  departing_spares op (exits.Computed temp) unlinked r low high = rw (above_codes 26 r (lit≤ tt) high, above_codes 31 r (lit≤ tt) high) refl
  departing_spares op (exits.Choice when taken other) unlinked r low high = rw (unlinked, above_codes 31 r (lit≤ tt) high) refl
  departing_spares op (exits.Service temp) unlinked r low high = by (temp == 0)
    where
      by : (b : Bool) → writes_register r (words_of (code_copied b temp ++ serving site)) ≡ false
      by true = rw (above_codes 26 r (lit≤ tt) high, below_codes 0 r (lit< tt) low, above_codes 31 r (lit≤ tt) high) refl
      by false = rw (above_codes 21 r (lit≤ tt) high, above_codes 26 r (lit≤ tt) high, below_codes 0 r (lit< tt) low, above_codes 31 r (lit≤ tt) high) refl
  departing_spares op exits.Breakpoint unlinked r low high = rw (above_codes 31 r (lit≤ tt) high) refl

  pub departing_short : (op : BranchOp) (exit : Exit) → length (departing_by op site exit) ≤ 7
  departing_short op exits.Next = lit≤ tt
  departing_short op (exits.Fixed address) = lit≤ tt
  departing_short op (exits.Computed temp) = lit≤ tt
  departing_short op (exits.Choice when taken other) = lit≤ tt
  departing_short op (exits.Service temp) = by (temp == 0)
    where
      by : (b : Bool) → length (code_copied b temp ++ serving site) ≤ 7
      by true = lit≤ tt
      by false = lit≤ tt
  departing_short op exits.Breakpoint = lit≤ tt

-- ---- the words that leave the codes
pub codes_local : (may : ℕ → Bool) (i : AlphaInstr) → fine may i ≡ true → is_local i ≡ true
codes_local may (Operate op ra rb rc) e = refl
codes_local may (Memory op ra rb disp) e = absurd (cc e)
codes_local may (Branch op ra disp) e = absurd (cc e)
codes_local may (Jump ra rb) e = absurd (cc e)
codes_local may (Pal number) e = absurd (cc e)

codes_free : (may : ℕ → Bool) → ((n : ℕ) → may n ≡ true → not (is_kept n) ≡ true) → (i : AlphaInstr) → fine may i ≡ true → is_free i ≡ true
codes_free may free (Operate op ra rb rc) e = free rc e
codes_free may free (Memory op ra rb disp) e = absurd (cc e)
codes_free may free (Branch op ra disp) e = absurd (cc e)
codes_free may free (Jump ra rb) e = absurd (cc e)
codes_free may free (Pal number) e = absurd (cc e)

pub codes_quiet : (may : ℕ → Bool) (is : List AlphaInstr) → list_all (fine may) is ≡ true → list_any may_fault is ≡ false
codes_quiet may [] e = refl
codes_quiet may (i ∷ is) e = by (fine may i) (list_all (fine may) is) (one i) (codes_quiet may is) e
  where
    one : (i : AlphaInstr) → fine may i ≡ true → may_fault i ≡ false
    one (Operate op ra rb rc) e = refl
    one (Memory op ra rb disp) e = absurd (cc e)
    one (Branch op ra disp) e = absurd (cc e)
    one (Jump ra rb) e = absurd (cc e)
    one (Pal number) e = absurd (cc e)

    by : (a b : Bool) → (a ≡ true → may_fault i ≡ false) → (b ≡ true → list_any may_fault is ≡ false) → (a && b) ≡ true → (may_fault i || list_any may_fault is) ≡ false
    by true true here rest e = or_from (may_fault i) (list_any may_fault is) (here refl) (rest refl)
    by true false here rest e = absurd (cc e)
    by false b here rest e = absurd (cc e)

-- where N, Z and V are kept, R24 and R25 alone are written, and nothing traps
pub kept_source : (source : CodeSource) → is_from_values source ≡ false → is_from_psw source ≡ false → (is_written source ≡ false) × (may_overflow source ≡ false)
kept_source Kept e f = (refl, refl)
kept_source Zero e f = absurd (cc e)
kept_source (Result size) e f = absurd (cc e)
kept_source (Add size) e f = absurd (cc e)
kept_source (Sub size) e f = absurd (cc e)
kept_source (Compare size) e f = absurd (cc e)
kept_source (Computed size) e f = absurd (cc e)
kept_source Psw e f = absurd (cc f)

pub free_when_kept : (sources : CodeSources) → is_written sources.nzv ≡ false → is_written sources.c ≡ false → (n : ℕ) → may_be_written sources n ≡ true → not (is_kept n) ≡ true
free_when_kept sources e f n may = by (is_written sources.nzv) (is_written sources.c) e f may
  where
    two : (n : ℕ) → ((n == 24) || (n == 25)) ≡ true → not (is_kept n) ≡ true
    two n e = grind (arith, nat_tests, e)

    or_false : (b : Bool) → (b || false) ≡ true → b ≡ true
    or_false true e = refl
    or_false false e = absurd (cc e)

    by : (signs carry : Bool) → signs ≡ false → carry ≡ false
        → ((n == 24) || (n == 25) || (signs && ((n == 16) || (n == 17) || (n == 18) || (n == 28) || (n == 29))) || (carry && ((n == 19) || (n == 15) || (n == 30)))) ≡ true → not (is_kept n) ≡ true
    by false false e f may = two n (or_false ((n == 24) || (n == 25)) (or_false ((n == 24) || (n == 25) || false) may))
    by true carry e f may = absurd (cc e)
    by false true e f may = absurd (cc f)

-- ---- the whole end
pub or_nothing : (b : Bool) → (b || false) ≡ b
or_nothing true = refl
or_nothing false = refl

pub same_false : (b : Bool) → same false b ≡ true → b ≡ false
same_false true e = absurd (cc e)
same_false false e = refl

module _ (site : Site) (codes : List AlphaInstr) (after_fits : site.after < 2 ^ 32) (encodable : All IsEncodable codes) (few : length codes ≤ 32) (only : list_all (fine (may_be_written site.sources)) codes ≡ true) (together : KeepsTogether site.sources) where
  abbrev rest_of : Exit → List Line
  rest_of exit = trap_lines site exit ++ departing site exit

  quiet_leaving : (exit : Exit) → IsExit exit → list_any may_fault (words_of (departing site exit)) ≡ false → list_any may_fault (words_of (leaving site codes exit)) ≡ false
  quiet_leaving exit is quiet =
      any_neither may_fault (map plain codes) (rest_of exit) (ap (list_any may_fault) (row_words_are codes) ∙ codes_quiet (may_be_written site.sources) codes only)
      (any_neither may_fault (trap_lines site exit) (departing site exit) (traps_silent site Beq exit refl is).quiet quiet)

  breaks : (known : Known) → known.codes ≡ false → known.psw ≡ false → sources_fit site.sources known ≡ true → keeps_until may_fault (words_of (leaving site codes exits.Breakpoint)) ≡ true
  breaks known no_codes no_psw fits =
      let x = all_four (same known.codes (is_from_values site.sources.nzv)) (same known.psw (is_from_psw site.sources.nzv)) (signs_are_held known site.sources.nzv) (carry_is_held known site.sources.c) fits in
      let values = same_false (is_from_values site.sources.nzv) (subst (λ b. same b (is_from_values site.sources.nzv) ≡ true) no_codes x.0) in
      let psw = same_false (is_from_psw site.sources.nzv) (subst (λ b. same b (is_from_psw site.sources.nzv) ≡ true) no_psw x.1) in
      let kept = kept_source site.sources.nzv values psw in
      let free = list_all_of (fine (may_be_written site.sources)) is_free (codes_free (may_be_written site.sources) (free_when_kept site.sources kept.0 (together kept.0))) codes only in
      let no_trap : trap_lines site exits.Breakpoint ≡ [] = untrapped kept.1 in
      let words : words_of (leaving site codes exits.Breakpoint) ≡ codes ++ (Pal 0x83 ∷ []) =
      words_append (map plain codes) (rest_of exits.Breakpoint) ∙ (ap (λ is. is ++ words_of (rest_of exits.Breakpoint)) (row_words_are codes) ∙ ap (λ lines. codes ++ words_of (lines ++ departing site exits.Breakpoint)) no_trap) in
      ap (keeps_until may_fault) words ∙ free_keeps may_fault codes (Pal 0x83 ∷ []) free refl
    where
      untrapped : may_overflow site.sources.nzv ≡ false → trap_lines site exits.Breakpoint ≡ []
      untrapped e = rw e refl

  leaving_kept : (exit : Exit) (known : Known) → IsExit exit → exit_fits known exit ≡ true → sources_fit site.sources known ≡ true → (known.changed ≡ false → (known.codes ≡ false) × (known.psw ≡ false)) → KeptBy known.changed (words_of (leaving site codes exit))
  leaving_kept exits.Next known is fits come quiet = quiet_kept known.changed _ (quiet_leaving exits.Next is refl)
  leaving_kept (exits.Fixed address) known is fits come quiet = quiet_kept known.changed _ (quiet_leaving (exits.Fixed address) is refl)
  leaving_kept (exits.Computed temp) known is fits come quiet = quiet_kept known.changed _ (quiet_leaving (exits.Computed temp) is refl)
  leaving_kept (exits.Choice when taken other) known is fits come quiet = quiet_kept known.changed _ (quiet_leaving (exits.Choice when taken other) is refl)
  leaving_kept (exits.Service temp) known is fits come quiet = quiet_kept known.changed _ (quiet_leaving (exits.Service temp) is (by (temp == 0)))
    where
      by : (b : Bool) → list_any may_fault (words_of (code_copied b temp ++ serving site)) ≡ false
      by true = refl
      by false = refl
  leaving_kept exits.Breakpoint known is fits come quiet = by known.changed refl fits
    where
      by : (changed : Bool) → known.changed ≡ changed → not changed ≡ true → KeptBy changed (words_of (leaving site codes exits.Breakpoint))
      by true e f = absurd (cc f)
      by false e f = let x = quiet e in breaks known x.0 x.1 come

  pub leave_shape : (exit : Exit) (known : Known) → IsExit exit → exit_fits known exit ≡ true → sources_fit site.sources known ≡ true → (known.changed ≡ false → (known.codes ≡ false) × (known.psw ≡ false))
      → Shape site known.changed codes (exit_addresses site.after exit) 59 (leaving site codes exit)
  leave_shape exit known is fits come quiet =
      let trap = traps_silent site Beq exit refl is in
      let a = length-append (map plain codes) (rest_of exit) in
      let b = length-append (trap_lines site exit) (departing site exit) in
      let c = plain_length codes in
      let d = trap.few in
      let e = departing_short site after_fits Beq exit in
      record {
        each = each_append site 0 (map plain codes) (rest_of exit) (row_fits site codes encodable (list_all_of (fine (may_be_written site.sources)) is_local (codes_local (may_be_written site.sources)) codes only))
            (each_append site 0 (trap_lines site exit) (departing site exit) trap.front.each (departing_each site after_fits Beq exit is));
        kept = leaving_kept exit known is fits come quiet;
        goes =
            targets_append (map plain codes) (rest_of exit)
            ∙ (ap (λ xs. xs ++ targets (rest_of exit)) (row_targets codes)
            ∙ (targets_append (trap_lines site exit) (departing site exit) ∙ (ap (λ xs. xs ++ targets (departing site exit)) trap.front.stays ∙ departing_goes site after_fits Beq exit)));
        writes = λ r low high.
            ap (writes_register r) (words_append (map plain codes) (rest_of exit))
            ∙ (list_any-append (λ i. register_written i == r) (words_of (map plain codes)) (words_of (rest_of exit))
            ∙ (ap (λ xs. writes_register r xs || writes_register r (words_of (rest_of exit))) (row_words_are codes)
            ∙ (ap (λ b. writes_register r codes || b) (spares_append (trap_lines site exit) (departing site exit) trap.front.spares (departing_spares site after_fits Beq exit refl) r low high) ∙ or_nothing (writes_register r codes))));
        short = omega arith;
      }
