-- Where a block stands: its lines in their place, and the registers at its start.
use Rattle.std.proofs.Common.{◌≡◌, ℕ, zero, suc, ◌+◌, ◌*◌, ◌/◌, ◌%◌, ◌^◌, ◌<◌, ◌≤◌, refl, sym, ap, ◌∙◌, subst, arith, List, [], ◌∷◌, Option, Some, None, Bool, true, false, cond, eqb-true}
use Rattle.std.specs.Prelude.{◌==◌, ◌&&◌, ◌||◌, nat_lt, nat_le, slice_get, slice_index}
use Rattle.std.proofs.lemmas.Bool.Decides.{nat_tests}
use Rattle.std.proofs.lemmas.List.{get_or-set_same}
use Rattle.std.proofs.lemmas.Bool.{le-ltb}
use Rattle.vt_words.proofs.Tests.{bit_tells}
use Rattle.vt_words.specs.Values.{bit}
use Rattle.vax_form.specs.State.{with_core}
use Rattle.vax_form.specs.declared.state.Flags.{Flags}
use Rattle.vax_form.specs.declared.state.VaxState.{VaxState}
use Rattle.alpha_encode.specs.declared.instr.AlphaInstr.{AlphaInstr}
use Rattle.alpha_meaning.specs.Pieces.{Fetch, HasAt}
use Rattle.alpha_meaning.specs.State.{Regs, put}
use Rattle.exception_records.specs.Shown.{Shows, registers_shown, psw_shown, psw_with, codes_shown}
use Rattle.exception_records.specs.declared.rules.Rules.{Rules}
use Rattle.micro_ops.specs.Known.{at_start, held}
use Rattle.micro_ops.specs.Meaning.{started}
use Rattle.micro_ops.proofs.Held.{by_six}
use Rattle.block_law.specs.Blocks.{Exit, exit_words, is_exit_word}
use Rattle.block_law.specs.CodeWords.{codes_in}
use Rattle.block_law.specs.Follows.{LeadsTo}
use Rattle.block_law.specs.Placements.{Placement, InForm}
use Rattle.block_law.proofs.Kept.{registers_kept, registers_put}
use Rattle.program_codegen.specs.declared.lines.Line.{Line}
use Rattle.program_codegen.specs.declared.points.Site.{Site}
use Rattle.program_codegen.specs.Words.{with_entry, exits_from}
use Rattle.program_codegen.proofs.Numbers.{bit_small}
use Rattle.program_codegen.proofs.Walk.{skip_behind, IsMarked, HasLine, HasLines, counted}
use Rattle.program_codegen.proofs.Holding.{Holds, HoldsAs}

-- ---- the registers at the start
by_bits : (u n z v c : ℕ) → n ≤ 1 → z ≤ 1 → v ≤ 1 → c ≤ 1
    → (u * 16 + (n * 8 + z * 4 + v * 2 + c)) / 8 % 2 ≡ n
by_bits u n z v c ln lz lv lc = omega arith

second_bit : (u n z v c : ℕ) → n ≤ 1 → z ≤ 1 → v ≤ 1 → c ≤ 1 → (u * 16 + (n * 8 + z * 4 + v * 2 + c)) / 4 % 2 ≡ z
second_bit u n z v c ln lz lv lc = omega arith

third_bit : (u n z v c : ℕ) → n ≤ 1 → z ≤ 1 → v ≤ 1 → c ≤ 1 → (u * 16 + (n * 8 + z * 4 + v * 2 + c)) / 2 % 2 ≡ v
third_bit u n z v c ln lz lv lc = omega arith

fourth_bit : (u n z v c : ℕ) → n ≤ 1 → z ≤ 1 → v ≤ 1 → c ≤ 1 → (u * 16 + (n * 8 + z * 4 + v * 2 + c)) / 1 % 2 ≡ c
fourth_bit u n z v c ln lz lv lc = omega arith

upper_bits : (u n z v c : ℕ) → n ≤ 1 → z ≤ 1 → v ≤ 1 → c ≤ 1 → (u * 16 + (n * 8 + z * 4 + v * 2 + c)) / 16 ≡ u
upper_bits u n z v c ln lz lv lc = omega arith

pub flags_same : (a b : Flags) → a.n ≡ b.n → a.z ≡ b.z → a.v ≡ b.v → a.c ≡ b.c → a ≡ b
flags_same a b n z v c =
    ap (λ x. record { n = x; z = a.z; v = a.v; c = a.c }) n ∙ (ap (λ x. record { n = b.n; z = x; v = a.v; c = a.c }) z ∙ (ap (λ x. record { n = b.n; z = b.z; v = x; c = a.c }) v ∙ ap (λ x. record { n = b.n; z = b.z; v = b.v; c = x }) c))

-- the codes of a status word that is shown
pub codes_of_shown : (upper : ℕ) (codes : Flags) → codes_in (psw_with upper codes) ≡ codes
codes_of_shown upper codes =
    let u = upper / 16 % 16 in
    let ln = bit_small codes.n in let lz = bit_small codes.z in let lv = bit_small codes.v in let lc = bit_small codes.c in
    flags_same (codes_in (psw_with upper codes)) codes
    (ap (λ x. x == 1) (by_bits u (bit codes.n) (bit codes.z) (bit codes.v) (bit codes.c) ln lz lv lc) ∙ bit_tells codes.n)
    (ap (λ x. x == 1) (second_bit u (bit codes.n) (bit codes.z) (bit codes.v) (bit codes.c) ln lz lv lc) ∙ bit_tells codes.z)
    (ap (λ x. x == 1) (third_bit u (bit codes.n) (bit codes.z) (bit codes.v) (bit codes.c) ln lz lv lc) ∙ bit_tells codes.v)
    (ap (λ x. x == 1) (fourth_bit u (bit codes.n) (bit codes.z) (bit codes.v) (bit codes.c) ln lz lv lc) ∙ bit_tells codes.c)

pub upper_of_shown : (upper : ℕ) (codes : Flags) → upper < 256 → psw_with upper codes / 16 ≡ upper / 16
upper_of_shown upper codes lt =
    upper_bits (upper / 16 % 16) (bit codes.n) (bit codes.z) (bit codes.v) (bit codes.c) (bit_small codes.n) (bit_small codes.z) (bit_small codes.v) (bit_small codes.c)
    ∙ (let e : upper / 16 % 16 ≡ upper / 16 = omega arith in e)

-- R0 to R14 show what they hold
pub shown_at : (regs : Regs) (n : ℕ) → n < 15 → slice_index (registers_shown regs) n ≡ regs n % 2 ^ 32
shown_at regs n lt =
    ap (λ (xs : List ℕ). slice_index xs n) (sym (registers_kept regs (put regs n (regs n)) (λ m _. same m)) ∙ registers_put regs n (regs n) lt)
    ∙ get_or-set_same (registers_shown regs) n (regs n % 2 ^ 32) 0 lt
  where
    same : (m : ℕ) → put regs n (regs n) m ≡ regs m
    same m = by (n == 31) (m == n) refl
      where
        by : (b d : Bool) → (m == n) ≡ d → cond b (regs m) (cond d (regs n) (regs m)) ≡ regs m
        by true d e = refl
        by false true e = ap regs (sym (eqb-true m n e))
        by false false e = refl

pub holds_at_start : (p : Placement) (site : Site) (address : ℕ) (regs : Regs) → InForm regs → Shows regs address site.before p.held p.begun → Holds p site at_start (started p.begun) regs
holds_at_start p site address regs form shows =
    let r : p.begun.r ≡ registers_shown regs = ap (λ (s : VaxState). s.r) shows in
    let psw : p.begun.psw ≡ psw_shown regs site.before p.held = ap (λ (s : VaxState). s.psw) shows in
    record {
      form = form;
      temps = by_six (λ temp. HoldsAs (held at_start temp) 0 (regs (21 + temp))) tt tt tt tt tt tt;
      checked = tt;
      state = ap (λ (rs : List ℕ). with_core p.begun rs p.begun.pc p.begun.psw) r;
      upper = ap (λ x. x / 16) psw ∙ upper_of_shown (regs 20) (codes_shown regs site.before p.held) form.status;
      same_psw = λ e f. refl;
      overflowed = λ e. absurd (cc e);
      no_overflow = λ e. refl;
      each_register = refl;
      quiet = λ e. (refl, refl);
      registers = λ number lt no_commit. ap (λ (xs : List ℕ). slice_index xs number) r ∙ shown_at regs number lt;
      codes = sym (ap codes_in psw ∙ codes_of_shown (regs 20) (codes_shown regs site.before p.held));
    }

-- ---- lines in their place
pub fetched : (fetch : Fetch) (pc : ℕ) (is : List AlphaInstr) (k : ℕ) (i : AlphaInstr) → HasAt fetch pc is → slice_get is k ≡ Some i → fetch (pc + k) ≡ Some i
fetched fetch pc [] k i has e = absurd (cc e)
fetched fetch pc (j ∷ is) zero i has e = let here : pc + 0 ≡ pc = omega arith in ap fetch here ∙ (has.0 ∙ e)
fetched fetch pc (j ∷ is) (suc k) i has e = let there : pc + suc k ≡ pc + 1 + k = omega arith in ap fetch there ∙ fetched fetch (pc + 1) is k i has.1 e

-- an exit begins where no other one still goes on
abbrev pub IsWholeLine : (exit : Option ℕ) → (skip : ℕ) → Type 0
IsWholeLine None skip = Unit {0}
IsWholeLine (Some address) skip = skip ≡ 0

abbrev pub IsWhole : (skip : ℕ) → List Line → Type 0
IsWhole skip [] = skip ≡ 0
IsWhole skip (line ∷ lines) = IsWholeLine line.exit skip × IsWhole (skip_behind line.exit skip) lines

-- exits of lines from a word on are not before it
pub not_before : (lines : List Line) (w q : ℕ) → q < w → is_exit_word (exits_from w lines) q ≡ false
not_before [] w q lt = refl
not_before (line ∷ lines) w q lt = by line.exit (not_before lines (w + 1) q (omega arith))
  where
    by : (o : Option ℕ) → is_exit_word (exits_from (w + 1) lines) q ≡ false → is_exit_word (with_entry o w (exits_from (w + 1) lines)) q ≡ false
    by None rest = rest
    by (Some address) rest = let out : nat_le w q ≡ false = grind (arith, nat_tests) in rw (out, rest) refl

-- the words of exits from a word on: what an earlier exit still has, and those of the exits behind
abbrev ExitWordsAre : List Exit → (skip w : ℕ) → List Line → Type 0
ExitWordsAre exits skip w lines = (q : ℕ) → w ≤ q → is_exit_word exits q ≡ (nat_lt q (w + skip) || is_exit_word (exits_from w lines) q)

module _ (exits : List Exit) where
  words_behind : (skip w : ℕ) (line : Line) (lines : List Line) → IsWholeLine line.exit skip → ExitWordsAre exits skip w (line ∷ lines) → ExitWordsAre exits (skip_behind line.exit skip) (w + 1) lines
  words_behind skip w line lines whole are q le = by line.exit whole (are q (omega arith))
    where
      by : (o : Option ℕ) → IsWholeLine o skip → is_exit_word exits q ≡ (nat_lt q (w + skip) || is_exit_word (with_entry o w (exits_from (w + 1) lines)) q)
          → is_exit_word exits q ≡ (nat_lt q (w + 1 + skip_behind o skip) || is_exit_word (exits_from (w + 1) lines) q)
      by None whole e = e ∙ ap (λ b. b || is_exit_word (exits_from (w + 1) lines) q) (counted w q skip (omega arith))
      by (Some address) whole e =
          let low : nat_le w q ≡ true = grind (arith, nat_tests) in
          let none : nat_lt q (w + skip) ≡ false = le-ltb q (w + skip) (omega arith) in
          e ∙ (ap (λ b. b || ((nat_le w q && nat_lt q (w + 3)) || is_exit_word (exits_from (w + 1) lines) q)) none
          ∙ (ap (λ b. (b && nat_lt q (w + 3)) || is_exit_word (exits_from (w + 1) lines) q) low ∙ ap (λ n. nat_lt q n || is_exit_word (exits_from (w + 1) lines) q) (let same : w + 3 ≡ w + 1 + 2 = omega arith in same)))

  no_exit_here : (w : ℕ) (line : Line) (lines : List Line) → line.exit ≡ None → ExitWordsAre exits 0 w (line ∷ lines) → is_exit_word exits w ≡ false
  no_exit_here w line lines none are =
      let a : nat_lt w (w + 0) ≡ false = grind (arith, nat_tests) in
      are w (omega arith) ∙ (ap (λ b. b || is_exit_word (exits_from w (line ∷ lines)) w) a ∙ (ap (λ o. is_exit_word (with_entry o w (exits_from (w + 1) lines)) w) none ∙ not_before lines (w + 1) w (omega arith)))

-- where words, points and exits stand, the lines do
module _ (p : Placement) (behind : Rules) (first : ℕ) (exits : List Exit) where
  pub lines_stand : (lines : List Line) (skip w : ℕ) → IsWhole skip lines → ExitWordsAre exits skip w lines
      → ((k : ℕ) (line : Line) → slice_get lines k ≡ Some line → is_exit_word exits (w + k) ≡ false → p.fetch (first + (w + k)) ≡ Some line.instr)
      → ((k : ℕ) (line : Line) → slice_get lines k ≡ Some line → IsMarked line.point (p.points (first + (w + k))))
      → ((place : ℕ) (exit : Exit) → slice_get (exits_from w lines) place ≡ Some exit → LeadsTo p (first + exit.0) exit.1 behind exit_words)
      → HasLines p behind skip (first + w) lines
  lines_stand [] skip w whole are words points leads = tt
  lines_stand (line ∷ lines) skip w whole are words points leads =
      let there : first + (w + 1) ≡ first + w + 1 = omega arith in (
        here line.exit refl skip whole.0 are (λ place exit e. leads place exit e),
        subst (λ q. HasLines p behind (skip_behind line.exit skip) q lines) there
            (lines_stand lines (skip_behind line.exit skip) (w + 1) whole.1 (words_behind exits skip w line lines whole.0 are)
            (λ k l e out. let same : w + suc k ≡ w + 1 + k = omega arith in subst (λ n. p.fetch (first + n) ≡ Some l.instr) same (words (suc k) l e (subst (λ n. is_exit_word exits n ≡ false) (sym same) out)))
            (λ k l e. let same : w + suc k ≡ w + 1 + k = omega arith in subst (λ n. IsMarked l.point (p.points (first + n))) same (points (suc k) l e))
            (λ place exit e. later line.exit place exit e (λ place exit e. leads place exit e))),
      )
    where
      now : w + 0 ≡ w
      now = omega arith

      later : (o : Option ℕ) (place : ℕ) (exit : Exit) → slice_get (exits_from (w + 1) lines) place ≡ Some exit
          → ((place : ℕ) (exit : Exit) → slice_get (with_entry o w (exits_from (w + 1) lines)) place ≡ Some exit → LeadsTo p (first + exit.0) exit.1 behind exit_words) → LeadsTo p (first + exit.0) exit.1 behind exit_words
      later None place exit e all = all place exit e
      later (Some address) place exit e all = all (suc place) exit e

      here : (o : Option ℕ) → line.exit ≡ o → (skip : ℕ) → IsWholeLine o skip → ExitWordsAre exits skip w (line ∷ lines)
          → ((place : ℕ) (exit : Exit) → slice_get (with_entry o w (exits_from (w + 1) lines)) place ≡ Some exit → LeadsTo p (first + exit.0) exit.1 behind exit_words)
          → HasLine p behind o skip (first + w) line
      here (Some address) is skip whole are all = all 0 (w, address) refl
      here None is (suc skip) whole are all = tt
      here None is zero whole are all = (
        subst (λ n. p.fetch (first + n) ≡ Some line.instr) now (words 0 line refl (subst (λ n. is_exit_word exits n ≡ false) (sym now) (no_exit_here exits w line lines is are))),
        subst (λ n. IsMarked line.point (p.points (first + n))) now (points 0 line refl),
      )
