-- The blocks of lines by themselves.
use Rattle.std.proofs.Common.{◌≡◌, ℕ, zero, suc, ◌+◌, ◌-◌, ◌^◌, ◌<◌, ◌≤◌, refl, sym, ap, subst, arith, List, [], ◌∷◌, ◌++◌, length, map, get_or, Option, Some, None, Bool, true, false, lit<}
use Rattle.std.specs.Prelude.{◌==◌, unwrap_or, All, if◌then◌else◌}
use Rattle.std.specs.List.{list_all, list_any}
use Rattle.std.proofs.lemmas.List.Elements.{All-cons, All-nil}
use Rattle.std.proofs.lemmas.Bool.{and_parts}
use Rattle.alpha_encode.specs.NoOperation.{nop}
use Rattle.alpha_encode.specs.Words.{IsEncodable}
use Rattle.alpha_encode.specs.declared.instr.AlphaInstr.{AlphaInstr}
use Rattle.alpha_encode.specs.declared.instr.AlphaInstr.TheVariants.{Memory, Branch, Operate, Jump, Pal}
use Rattle.exception_records.specs.Points.{Entry}
use Rattle.exception_records.specs.declared.points.Point.{Point}
use Rattle.block_law.specs.Blocks.{Exit, is_quiet}
use Rattle.block_law.specs.Tidy.{interprets}
use Rattle.block_law.specs.Translations.{done_at}
use Rattle.program_codegen.specs.declared.lines.Line.{Line}
use Rattle.program_codegen.specs.declared.points.Site.{Site}
use Rattle.program_codegen.specs.Words.{plain, marked, exit_lines, point_of, with_first, words_of, with_entry, points_from, exits_from}
use Rattle.program_codegen.specs.Promises.{HasRules}
use Rattle.program_codegen.proofs.Walk.{skip_behind}
use Rattle.program_codegen.proofs.Starting.{IsWholeLine, IsWhole}

-- ---- lines one by one
-- a call ends the instruction's own words
abbrev pub is_local : AlphaInstr → Bool
is_local (Memory op ra rb disp) = true
is_local (Branch op ra disp) = true
is_local (Operate op ra rb rc) = true
is_local (Jump ra rb) = true
is_local (Pal number) = false

-- a point is the instruction's; a word without one is not where it is done
abbrev pub PointFits : Site → AlphaInstr → Option Point → Type 0
PointFits site instr None = done_at (Some instr) ≡ 0
PointFits site instr (Some point) = (point.vax_pc ≡ site.at) × (point.done ≡ done_at (Some instr)) × (point.rules ≡ (if point.done == 1 then site.behind else site.before))

abbrev pub AddressFits : (exit : Option ℕ) → Type 0
AddressFits None = Unit {0}
AddressFits (Some address) = address < 2 ^ 32

-- the words of an exit are quiet, and behind its first have no points
abbrev pub QuietFits : (exit : Option ℕ) → (skip : ℕ) → Line → Type 0
QuietFits None zero line = Unit {0}
QuietFits None (suc skip) line = (is_quiet line.instr ≡ true) × (line.point ≡ None)
QuietFits (Some address) skip line = is_quiet line.instr ≡ true

pub record LineFits (site : Site) (exit : Option ℕ) (skip : ℕ) (line : Line) : Type 0 where
  pub encodable : IsEncodable line.instr
  pub translated : interprets line.instr ≡ false
  pub its_point : PointFits site line.instr line.point
  pub whole : IsWholeLine exit skip
  pub address : AddressFits exit
  pub quiet : QuietFits exit skip line

abbrev pub EachFits : Site → (skip : ℕ) → List Line → Type 0
EachFits site skip [] = skip ≡ 0
EachFits site skip (line ∷ lines) = LineFits site line.exit skip line × EachFits site (skip_behind line.exit skip) lines

pub each_append : (site : Site) (skip : ℕ) (xs ys : List Line) → EachFits site skip xs → EachFits site 0 ys → EachFits site skip (xs ++ ys)
each_append site skip [] ys a b = subst (λ n. EachFits site n ys) (sym a) b
each_append site skip (x ∷ xs) ys a b = (a.0, each_append site (skip_behind x.exit skip) xs ys a.1 b)

local_done : (i : AlphaInstr) → is_local i ≡ true → (done_at (Some i) ≡ 0) × (interprets i ≡ false)
local_done (Memory op ra rb disp) e = (refl, refl)
local_done (Branch op ra disp) e = (refl, refl)
local_done (Operate op ra rb rc) e = (refl, refl)
local_done (Jump ra rb) e = (refl, refl)
local_done (Pal number) e = absurd (cc e)

pub plain_fits : (site : Site) (i : AlphaInstr) → IsEncodable i → is_local i ≡ true → LineFits site None 0 (plain i)
plain_fits site i is e = record { encodable = is; translated = (local_done i e).1; its_point = (local_done i e).0; whole = tt; address = tt; quiet = tt }

pub all_head : {A : Type 0} (P : A → Type 0) (x : A) (xs : List A) → All P (x ∷ xs) → P x
all_head P x xs all = all 0 x (omega arith)

pub all_tail : {A : Type 0} (P : A → Type 0) (x : A) (xs : List A) → All P (x ∷ xs) → All P xs
all_tail P x xs all k d lt = all (suc k) d (omega arith)

pub row_fits : (site : Site) (is : List AlphaInstr) → All IsEncodable is → list_all is_local is ≡ true → EachFits site 0 (map plain is)
row_fits site [] all e = refl
row_fits site (i ∷ is) all e = let x = and_parts (is_local i) (list_all is_local is) e in (plain_fits site i (all_head IsEncodable i is all) x.0, row_fits site is (all_tail IsEncodable i is all) x.1)

pub call_fits : (site : Site) (number : ℕ) (point : Point) → 0x80 ≤ number → number ≤ 0x86 → (number == 0x85) ≡ false → point.vax_pc ≡ site.at → point.done ≡ done_at (Some (Pal number)) → point.rules ≡ (if point.done == 1 then site.behind else site.before)
    → LineFits site None 0 (marked (Pal number) point)
call_fits site number point low high other its done rules = record { encodable = (low, high); translated = other; its_point = (its, done, rules); whole = tt; address = tt; quiet = tt }

nop_encodable : IsEncodable nop
nop_encodable = (lit< tt, lit< tt, lit< tt)

pub exit_each : (site : Site) (address : ℕ) → address < 2 ^ 32 → EachFits site 0 (exit_lines address)
exit_each site address lt =
    let quiet_one : (skip : ℕ) → LineFits site None (suc skip) (plain nop) = λ skip. record { encodable = nop_encodable; translated = refl; its_point = refl; whole = tt; address = tt; quiet = (refl, refl) } in (
      record { encodable = nop_encodable; translated = refl; its_point = refl; whole = refl; address = lt; quiet = refl },
      (quiet_one 1, (quiet_one 0, refl)),
    )

-- ---- the first word's point
pub first_each : (site : Site) (lines : List Line) → EachFits site 0 lines → EachFits site 0 (with_first (point_of site) lines)
first_each site [] each = each
first_each site (line ∷ lines) each = (by line.exit line.point refl each.0, each.1)
  where
    marked_first : (o : Option Point) → line.point ≡ o → PointFits site line.instr o → PointFits site line.instr (Some (unwrap_or o (point_of site)))
    marked_first None is e = (refl, sym e, refl)
    marked_first (Some q) is e = e

    quiet_first : (exit : Option ℕ) → QuietFits exit 0 line → QuietFits exit 0 (record line { point = Some (unwrap_or line.point (point_of site)) })
    quiet_first None q = tt
    quiet_first (Some address) q = q

    by : (exit : Option ℕ) (o : Option Point) → line.point ≡ o → LineFits site exit 0 line → LineFits site exit 0 (record line { point = Some (unwrap_or line.point (point_of site)) })
    by exit o is l = record {
      encodable = l.encodable;
      translated = l.translated;
      its_point = marked_first line.point refl l.its_point;
      whole = l.whole;
      address = l.address;
      quiet = quiet_first exit l.quiet;
    }

-- ---- what follows of all
pub each_whole : (site : Site) (skip : ℕ) (lines : List Line) → EachFits site skip lines → IsWhole skip lines
each_whole site skip [] each = each
each_whole site skip (line ∷ lines) each = (each.0.whole, each_whole site (skip_behind line.exit skip) lines each.1)

module _ (site : Site) where
  pub encoded : (skip : ℕ) (lines : List Line) → EachFits site skip lines → All IsEncodable (words_of lines)
  encoded skip [] each = All-nil IsEncodable
  encoded skip (line ∷ lines) each = All-cons IsEncodable line.instr (words_of lines) each.0.encodable (encoded (skip_behind line.exit skip) lines each.1)

  pub all_translated : (skip : ℕ) (lines : List Line) → EachFits site skip lines → list_any interprets (words_of lines) ≡ false
  all_translated skip [] each = refl
  all_translated skip (line ∷ lines) each = rw (each.0.translated) (all_translated (skip_behind line.exit skip) lines each.1)

  -- an exit that still goes on has its words
  skip_short : (skip : ℕ) (lines : List Line) → EachFits site skip lines → skip ≤ length lines
  skip_short skip [] each = let e : skip ≡ 0 = each in omega arith
  skip_short skip (line ∷ lines) each = by line.exit each.0.whole (skip_short (skip_behind line.exit skip) lines each.1)
    where
      by : (o : Option ℕ) → IsWholeLine o skip → skip_behind o skip ≤ length lines → skip ≤ suc (length lines)
      by None whole le = omega arith
      by (Some address) whole le = omega arith

  pub exits_within : (skip w total : ℕ) (lines : List Line) → EachFits site skip lines → w + length lines ≤ total → All (λ (e : Exit). (e.0 + 3 ≤ total) × (e.1 < 2 ^ 32)) (exits_from w lines)
  exits_within skip w total [] each le = All-nil (λ (e : Exit). (e.0 + 3 ≤ total) × (e.1 < 2 ^ 32))
  exits_within skip w total (line ∷ lines) each le =
      by line.exit each.0.address (skip_short (skip_behind line.exit skip) lines each.1) (exits_within (skip_behind line.exit skip) (w + 1) total lines each.1 (omega arith))
    where
      by : (o : Option ℕ) → AddressFits o → skip_behind o skip ≤ length lines → All (λ (e : Exit). (e.0 + 3 ≤ total) × (e.1 < 2 ^ 32)) (exits_from (w + 1) lines) → All (λ (e : Exit). (e.0 + 3 ≤ total) × (e.1 < 2 ^ 32)) (with_entry o w (exits_from (w + 1) lines))
      by None fits room rest = rest
      by (Some address) fits room rest = All-cons (λ (e : Exit). (e.0 + 3 ≤ total) × (e.1 < 2 ^ 32)) (w, address) (exits_from (w + 1) lines) (omega arith, fits) rest

  exits_low : (skip w k : ℕ) (d : Exit) (lines : List Line) → EachFits site skip lines → k < length (exits_from w lines) → w + skip ≤ (get_or (exits_from w lines) k d).0
  exits_low skip w k d [] each lt = absurd (omega arith)
  exits_low skip w k d (line ∷ lines) each lt = by (λ k lt. exits_low (skip_behind line.exit skip) (w + 1) k d lines each.1 lt) line.exit each.0.whole refl k lt
    where
      by : ((k : ℕ) → k < length (exits_from (w + 1) lines) → w + 1 + skip_behind line.exit skip ≤ (get_or (exits_from (w + 1) lines) k d).0)
          → (o : Option ℕ) → IsWholeLine o skip → line.exit ≡ o → (k : ℕ) → k < length (with_entry o w (exits_from (w + 1) lines)) → w + skip ≤ (get_or (with_entry o w (exits_from (w + 1) lines)) k d).0
      by low None whole is k lt = let le = low k lt in let e : skip_behind line.exit skip ≡ skip - 1 = ap (λ o. skip_behind o skip) is in omega arith
      by low (Some address) whole is zero lt = omega arith
      by low (Some address) whole is (suc k) lt = let le = low k (omega arith) in omega arith

  pub exits_rise : (skip w k : ℕ) (d : Exit) (lines : List Line) → EachFits site skip lines → suc k < length (exits_from w lines) → (get_or (exits_from w lines) k d).0 + 3 ≤ (get_or (exits_from w lines) (suc k) d).0
  exits_rise skip w k d [] each lt = absurd (omega arith)
  exits_rise skip w k d (line ∷ lines) each lt =
      by (λ k lt. exits_rise (skip_behind line.exit skip) (w + 1) k d lines each.1 lt) (λ k lt. exits_low (skip_behind line.exit skip) (w + 1) k d lines each.1 lt) line.exit refl k lt
    where
      by : ((k : ℕ) → suc k < length (exits_from (w + 1) lines) → (get_or (exits_from (w + 1) lines) k d).0 + 3 ≤ (get_or (exits_from (w + 1) lines) (suc k) d).0)
          → ((k : ℕ) → k < length (exits_from (w + 1) lines) → w + 1 + skip_behind line.exit skip ≤ (get_or (exits_from (w + 1) lines) k d).0)
          → (o : Option ℕ) → line.exit ≡ o → (k : ℕ) → suc k < length (with_entry o w (exits_from (w + 1) lines))
          → (get_or (with_entry o w (exits_from (w + 1) lines)) k d).0 + 3 ≤ (get_or (with_entry o w (exits_from (w + 1) lines)) (suc k) d).0
      by rest low None is k lt = rest k lt
      by rest low (Some address) is zero lt = let le = low 0 (omega arith) in let e : skip_behind line.exit skip ≡ 2 = ap (λ o. skip_behind o skip) is in omega arith
      by rest low (Some address) is (suc k) lt = rest k (omega arith)

  -- ---- points rise, and have their rules
  points_low : (w k : ℕ) (d : Entry) (lines : List Line) → k < length (points_from w lines) → w ≤ (get_or (points_from w lines) k d).0
  points_low w k d [] lt = absurd (omega arith)
  points_low w k d (line ∷ lines) lt = by (λ k lt. points_low (w + 1) k d lines lt) line.point k lt
    where
      by : ((k : ℕ) → k < length (points_from (w + 1) lines) → w + 1 ≤ (get_or (points_from (w + 1) lines) k d).0)
          → (o : Option Point) (k : ℕ) → k < length (with_entry o w (points_from (w + 1) lines)) → w ≤ (get_or (with_entry o w (points_from (w + 1) lines)) k d).0
      by low None k lt = let le = low k lt in omega arith
      by low (Some q) zero lt = omega arith
      by low (Some q) (suc k) lt = let le = low k (omega arith) in omega arith

  pub points_rise : (w k : ℕ) (d : Entry) (lines : List Line) → suc k < length (points_from w lines) → (get_or (points_from w lines) k d).0 < (get_or (points_from w lines) (suc k) d).0
  points_rise w k d [] lt = absurd (omega arith)
  points_rise w k d (line ∷ lines) lt = by (λ k lt. points_rise (w + 1) k d lines lt) line.point k lt
    where
      by : ((k : ℕ) → suc k < length (points_from (w + 1) lines) → (get_or (points_from (w + 1) lines) k d).0 < (get_or (points_from (w + 1) lines) (suc k) d).0)
          → (o : Option Point) (k : ℕ) → suc k < length (with_entry o w (points_from (w + 1) lines))
          → (get_or (with_entry o w (points_from (w + 1) lines)) k d).0 < (get_or (with_entry o w (points_from (w + 1) lines)) (suc k) d).0
      by rest None k lt = rest k lt
      by rest (Some q) zero lt = let le = points_low (w + 1) 0 d lines (omega arith) in omega arith
      by rest (Some q) (suc k) lt = rest k (omega arith)

  pub has_rules : (skip w : ℕ) (lines : List Line) → EachFits site skip lines → All (HasRules site.before site.behind) (points_from w lines)
  has_rules skip w [] each = All-nil (HasRules site.before site.behind)
  has_rules skip w (line ∷ lines) each = by (has_rules (skip_behind line.exit skip) (w + 1) lines each.1) line.point each.0.its_point
    where
      by : All (HasRules site.before site.behind) (points_from (w + 1) lines) → (o : Option Point) → PointFits site line.instr o → All (HasRules site.before site.behind) (with_entry o w (points_from (w + 1) lines))
      by rest None fits = rest
      by rest (Some q) fits = All-cons (HasRules site.before site.behind) (w, q) (points_from (w + 1) lines) fits.2 rest
