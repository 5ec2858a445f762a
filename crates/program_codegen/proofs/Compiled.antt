-- Wherever the block of a program stands, it follows the program's tree.
use Rattle.std.proofs.Common.{◌≡◌, ℕ, zero, suc, ◌+◌, ◌-◌, ◌^◌, ◌<◌, ◌≤◌, refl, sym, ap, ◌∙◌, subst, arith, List, [], ◌∷◌, length, Option, Some, None, Bool, true, false, eq-eqb, ne_eqb, zero-add}
use Rattle.std.specs.Prelude.{◌==◌, ◌||◌, nat_lt, slice_get, unwrap_or}
use Rattle.std.proofs.lemmas.Bool.Decides.{nat_tests}
use Rattle.std.proofs.lemmas.Option.{slice_get_within, same_Some}
use Rattle.vax_form.specs.declared.instr.Instr.{Instr}
use Rattle.vax_form.specs.declared.state.Flags.{Flags}
use Rattle.vax_form.specs.declared.state.VaxState.{VaxState}
use Rattle.alpha_encode.specs.declared.instr.AlphaInstr.{AlphaInstr}
use Rattle.exception_records.specs.Points.{point_at}
use Rattle.exception_records.specs.declared.points.Point.{Point}
use Rattle.exception_records.specs.declared.rules.Rules.{Rules}
use Rattle.micro_ops.specs.declared.codes.CodeSources.{CodeSources}
use Rattle.micro_ops.specs.declared.program.Micro.{Micro}
use Rattle.micro_ops.specs.Fits.{walk, is_ended}
use Rattle.micro_ops.specs.Known.{at_start}
use Rattle.micro_ops.specs.Meaning.{started}
use Rattle.block_law.specs.Blocks.{is_exit_word, Stands, ExitsLead}
use Rattle.block_law.specs.CodeWords.{LeavesCodes}
use Rattle.block_law.specs.Laws.{MoreKinds}
use Rattle.block_law.specs.Placements.{Placement}
use Rattle.block_law.specs.Rounds.{block_steps, new_round}
use Rattle.alpha_meaning.specs.Pieces.{most_words}
use Rattle.block_law.specs.Translations.{Meaning, Permit, Code, placed, fetch_of}
use Rattle.program_codegen.specs.declared.lines.Line.{Line}
use Rattle.program_codegen.specs.declared.points.Site.{Site}
use Rattle.program_codegen.specs.Words.{point_of, with_first, words_of, with_entry, points_from, exits_from, block_of, site_of}
use Rattle.program_codegen.specs.Blocks.{block_lines, chosen_lines}
use Rattle.program_codegen.specs.Programs.{AllHaveWords, ReadsReady, LeavesReady, KeepsTogether, is_narrow}
use Rattle.program_codegen.specs.Accesses.{needed}
use Rattle.program_codegen.specs.Promises.{CompilesProgram}
use Rattle.program_codegen.proofs.Walk.{IsMarked, HasLine, HasLines, Within}
use Rattle.program_codegen.proofs.Holding.{Setting, LeavingFollows}
use Rattle.program_codegen.proofs.Starting.{fetched, holds_at_start, IsWhole, lines_stand}
use Rattle.program_codegen.proofs.Chosen.{chosen_follows}

-- ---- words and points of lines
pub word_of_line : (lines : List Line) (k : ℕ) (line : Line) → slice_get lines k ≡ Some line → slice_get (words_of lines) k ≡ Some line.instr
word_of_line [] k line e = absurd (cc e)
word_of_line (l ∷ lines) zero line e = ap (λ (l : Line). Some l.instr) (same_Some l line e)
word_of_line (l ∷ lines) (suc k) line e = word_of_line lines k line e

pub words_length : (lines : List Line) → length (words_of lines) ≡ length lines
words_length [] = refl
words_length (l ∷ lines) = ap suc (words_length lines)

pub first_length : (point : Point) (lines : List Line) → length (with_first point lines) ≡ length lines
first_length point [] = refl
first_length point (l ∷ lines) = refl

pub first_words : (point : Point) (lines : List Line) → words_of (with_first point lines) ≡ words_of lines
first_words point [] = refl
first_words point (l ∷ lines) = refl

no_point_before : (lines : List Line) (word w : ℕ) → word < w → point_at (points_from w lines) word ≡ None
no_point_before [] word w lt = refl
no_point_before (line ∷ lines) word w lt = by (no_point_before lines word (w + 1) (omega arith)) line.point
  where
    by : point_at (points_from (w + 1) lines) word ≡ None → (o : Option Point) → point_at (with_entry o w (points_from (w + 1) lines)) word ≡ None
    by rest None = rest
    by rest (Some q) = let other : (w == word) ≡ false = ne_eqb w word (λ (e : w ≡ word). absurd (omega arith)) in rw other rest

pub point_of_line : (lines : List Line) (w k : ℕ) (line : Line) → slice_get lines k ≡ Some line → point_at (points_from w lines) (w + k) ≡ line.point
point_of_line [] w k line e = absurd (cc e)
point_of_line (l ∷ lines) w zero line e =
    let here : w + 0 ≡ w = omega arith in
    ap (point_at (points_from w (l ∷ lines))) here ∙ (by l.point ∙ ap (λ (l : Line). l.point) (same_Some l line e))
  where
    by : (o : Option Point) → point_at (with_entry o w (points_from (w + 1) lines)) w ≡ o
    by None = no_point_before lines w (w + 1) (omega arith)
    by (Some q) = let same : (w == w) ≡ true = eq-eqb w w refl in rw same refl
point_of_line (l ∷ lines) w (suc k) line e =
    let there : w + suc k ≡ w + 1 + k = omega arith in
    by l.point ∙ (ap (point_at (points_from (w + 1) lines)) there ∙ point_of_line lines (w + 1) k line e)
  where
    by : (o : Option Point) → point_at (with_entry o w (points_from (w + 1) lines)) (w + suc k) ≡ point_at (points_from (w + 1) lines) (w + suc k)
    by None = refl
    by (Some q) = let other : (w == w + suc k) ≡ false = ne_eqb w (w + suc k) (λ (e : w ≡ w + suc k). absurd (omega arith)) in rw other refl

-- ---- the first word's point
is_marked : (o seen : Option Point) → seen ≡ o → IsMarked o seen
is_marked None seen e = tt
is_marked (Some point) seen e = e

own_point : (o seen : Option Point) (point : Point) → seen ≡ Some (unwrap_or o point) → IsMarked o seen
own_point None seen point e = tt
own_point (Some q) seen point e = e

has_own : (p : Placement) (behind : Rules) (pc : ℕ) (point : Point) (lines : List Line) → HasLines p behind 0 pc (with_first point lines) → HasLines p behind 0 pc lines
has_own p behind pc point [] h = tt
has_own p behind pc point (line ∷ lines) h = (by line.exit h.0, h.1)
  where
    by : (o : Option ℕ) → HasLine p behind o 0 pc (record line { point = Some (unwrap_or line.point point) }) → HasLine p behind o 0 pc line
    by None h = (h.0, own_point line.point (p.points pc) point h.1)
    by (Some address) h = h

-- ---- where a block stands
module _ (meaning : Meaning) (permit : Permit) (code : Code) (thread : ℕ) (state : VaxState) (held : Flags) (first : ℕ) (behind : Rules) (point : Point) (lines : List Line) where
  abbrev p : Placement
  p = placed meaning permit code thread state held first

  abbrev all : List Line
  all = with_first point lines

  from_none : (q : ℕ) → nat_lt q (0 + 0) ≡ false
  from_none q = grind (arith, nat_tests)

  pub within_block : length code.words ≤ most_words → IsWhole 0 all → Stands code (block_of all) first → ExitsLead p (block_of all).exits first behind → Within p behind first lines
  within_block few whole s leads =
      let count : length s.words ≡ length lines = s.like.count ∙ (words_length all ∙ first_length point lines) in
      let ends = s.ends in
      let within = s.within in
      let here : first + 0 ≡ first = omega arith in
      record {
        has = has_own p behind first point lines (subst (λ q. HasLines p behind 0 q all) here
            (lines_stand p behind first (exits_from 0 all) all 0 0 whole (λ q le. sym (ap (λ b. b || is_exit_word (exits_from 0 all) q) (from_none q)))
            (λ k line e out.
            let same = s.like.same (0 + k) out ∙ (ap (slice_get (words_of all)) (zero-add k) ∙ word_of_line all k line e) in
            fetched (fetch_of code.words) first s.words (0 + k) line.instr s.stand same)
            (λ k line e.
            let lt = slice_get_within all k line e in
            let size = first_length point lines in
            let inside : 0 + k < length s.words = omega arith in
            is_marked line.point (point_at code.points (first + (0 + k))) (s.points (0 + k) inside ∙ point_of_line all 0 k line e))
            leads));
        low = omega arith;
        high = omega arith;
        near = omega arith;
        inside = λ q low high.
            let k = q - first in
            let is : first + (q - first) ≡ q = omega arith in
            let some : 0 < q - first = omega arith in
            let inside : q - first < length s.words = omega arith in
            ap p.stops (sym is) ∙ s.alone (q - first) some inside;
      }

-- ---- whole blocks
module _ (instr : Instr) (sources : CodeSources) (program : List Micro) (codes : List AlphaInstr) (before behind : Rules) (byte_word : Bool) where
  abbrev site : Site
  site = site_of instr sources before behind byte_word

  pub compiles : LeavesCodes sources before behind codes → KeepsTogether sources → is_narrow behind.v ≡ true → instr.after < 2 ^ 32
      → AllHaveWords sources program → ReadsReady before program → LeavesReady behind program → is_ended (walk sources at_start program) ≡ true
      → IsWhole 0 (block_lines site codes program) → length (chosen_lines site codes program) ≤ 256
      → ((p : Placement) → Setting p site codes → LeavingFollows p site codes)
      → CompilesProgram instr sources program before behind byte_word (block_of (block_lines site codes program))
  compiles leaves together narrow after words reads ready ended whole short leaving bytes sized meaning permit writes code first thread n state held regs few stands at form shows leads range agree =
      let p = placed meaning permit code thread state held first in
      let setting : Setting p site codes = record {
        pages = writes.pages;
        written = ap meaning.written at ∙ writes.written;
        bytes = bytes;
        kinds = subst (λ (address : ℕ). MoreKinds (needed byte_word bytes) (permit.kinds address)) (sym at) writes.kinds;
        leaves = leaves;
        together = together;
        narrow = narrow;
        after = after;
      } in
      chosen_follows p site codes setting (leaving p setting) program (started state) regs first
      (within_block meaning permit code thread state held first behind (point_of site) (chosen_lines site codes program) few whole stands leads)
      sized words reads ready ended (holds_at_start p site instr.at regs form shows) range agree n block_steps new_round short
