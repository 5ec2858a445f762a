-- Lines in their place, and steps over them.
use Rattle.std.proofs.Common.{◌≡◌, ℕ, zero, suc, ◌+◌, ◌-◌, ◌^◌, ◌<◌, ◌≤◌, refl, ap, ◌∙◌, subst, arith, List, [], ◌∷◌, ◌++◌, length, map, Option, Some, None, length-append, sym, false}
use Rattle.std.proofs.lemmas.Bool.Decides.{nat_tests}
use Rattle.std.specs.Prelude.{nat_lt}
use Rattle.alpha_encode.specs.declared.instr.AlphaInstr.{AlphaInstr}
use Rattle.alpha_meaning.specs.Pieces.{HasAt}
use Rattle.exception_records.specs.declared.points.Point.{Point}
use Rattle.exception_records.specs.declared.rules.Rules.{Rules}
use Rattle.block_law.specs.Blocks.{exit_words}
use Rattle.block_law.specs.Follows.{LeadsTo}
use Rattle.block_law.specs.Placements.{Placement}
use Rattle.block_law.proofs.Rules.{IsAt}
use Rattle.program_codegen.specs.declared.lines.Line.{Line}
use Rattle.program_codegen.specs.Words.{plain, exit_lines}

-- how many words of an exit are still to come behind a line
abbrev pub skip_behind : (exit : Option ℕ) → (skip : ℕ) → ℕ
skip_behind None skip = skip - 1
skip_behind (Some address) skip = 2

-- of the words that an exit still has, those behind a word
pub counted : (w q skip : ℕ) → w < q → nat_lt q (w + skip) ≡ nat_lt q (w + 1 + (skip - 1))
counted w q zero lt = let a : nat_lt q (w + 0) ≡ false = grind (arith, nat_tests) in let b : nat_lt q (w + 1 + 0) ≡ false = grind (arith, nat_tests) in a ∙ sym b
counted w q (suc skip) lt = let same : w + suc skip ≡ w + 1 + (suc skip - 1) = omega arith in ap (nat_lt q) same

-- the line's point stands there
abbrev pub IsMarked : Option Point → (found : Option Point) → Type 0
IsMarked None found = Unit {0}
IsMarked (Some point) found = found ≡ Some point

-- an exit leads to its address, and of its other words nothing is known
abbrev pub HasLine : Placement → (behind : Rules) → (exit : Option ℕ) → (skip pc : ℕ) → Line → Type 0
HasLine p behind None zero pc line = (p.fetch pc ≡ Some line.instr) × IsMarked line.point (p.points pc)
HasLine p behind None (suc skip) pc line = Unit {0}
HasLine p behind (Some address) skip pc line = LeadsTo p pc address behind exit_words

abbrev pub HasLines : Placement → (behind : Rules) → (skip pc : ℕ) → List Line → Type 0
HasLines p behind skip pc [] = Unit {0}
HasLines p behind skip pc (line ∷ lines) = HasLine p behind line.exit skip pc line × HasLines p behind (skip_behind line.exit skip) (pc + 1) lines

-- the lines stand there in the block, in which no other one begins
pub record Within (p : Placement) (behind : Rules) (pc : ℕ) (lines : List Line) : Type 0 where
  pub has : HasLines p behind 0 pc lines
  pub low : p.first ≤ pc
  pub high : pc + length lines ≤ p.end
  pub near : p.end ≤ 2 ^ 23
  pub inside : (q : ℕ) → p.first < q → q < p.end → p.stops q ≡ None

pub plain_length : (is : List AlphaInstr) → length (map plain is) ≡ length is
plain_length [] = refl
plain_length (i ∷ is) = ap suc (plain_length is)

module _ (p : Placement) (behind : Rules) where
  -- ---- words in a row
  has_words : (pc : ℕ) (is : List AlphaInstr) (rest : List Line) → HasLines p behind 0 pc (map plain is ++ rest) → HasAt p.fetch pc is
  has_words pc [] rest h = tt
  has_words pc (i ∷ is) rest h = (h.0.0, has_words (pc + 1) is rest h.1)

  has_rest : (pc : ℕ) (is : List AlphaInstr) (rest : List Line) → HasLines p behind 0 pc (map plain is ++ rest) → HasLines p behind 0 (pc + length is) rest
  has_rest pc [] rest h = let e : pc ≡ pc + 0 = omega arith in subst (λ q. HasLines p behind 0 q rest) e h
  has_rest pc (i ∷ is) rest h = let e : pc + 1 + length is ≡ pc + suc (length is) = omega arith in subst (λ q. HasLines p behind 0 q rest) e (has_rest (pc + 1) is rest h.1)

  -- the lines behind so many, of which the last ends no exit
  pub from : (pc pc' : ℕ) (lines rest : List Line) → HasLines p behind 0 pc' rest → pc ≤ pc' → pc' + length rest ≤ pc + length lines → Within p behind pc lines → Within p behind pc' rest
  from pc pc' lines rest has le ends w = let low = w.low in let high = w.high in record { has = has; low = omega arith; high = omega arith; near = w.near; inside = w.inside }

  pub row_length : (is : List AlphaInstr) (rest : List Line) → length (map plain is ++ rest) ≡ length is + length rest
  row_length is rest = length-append (map plain is) rest ∙ ap (λ n. n + length rest) (plain_length is)

  pub row_words : (pc : ℕ) (is : List AlphaInstr) (rest : List Line) → Within p behind pc (map plain is ++ rest) → HasAt p.fetch pc is
  row_words pc is rest w = has_words pc is rest w.has

  pub row_rest : (pc : ℕ) (is : List AlphaInstr) (rest : List Line) → Within p behind pc (map plain is ++ rest) → Within p behind (pc + length is) rest
  row_rest pc is rest w = let count = row_length is rest in from pc (pc + length is) (map plain is ++ rest) rest (has_rest pc is rest w.has) (omega arith) (omega arith) w

  -- ---- one line that is no exit's
  pub next : (pc : ℕ) (instr : AlphaInstr) (point : Option Point) (rest : List Line) → Within p behind pc (record { instr = instr; point = point; exit = None } ∷ rest) → Within p behind (pc + 1) rest
  next pc instr point rest w = from pc (pc + 1) (record { instr = instr; point = point; exit = None } ∷ rest) rest w.has.1 (omega arith) (omega arith) w

  pub stands : (pc : ℕ) (instr : AlphaInstr) (point : Option Point) (rest : List Line) → Within p behind pc (record { instr = instr; point = point; exit = None } ∷ rest) → IsAt p pc instr
  stands pc instr point rest w = let high = w.high in record { is = w.has.0.0; low = w.low; high = omega arith }

  -- ---- exits
  pub exit_leads : (pc address : ℕ) (rest : List Line) → Within p behind pc (exit_lines address ++ rest) → LeadsTo p pc address behind exit_words
  exit_leads pc address rest w = w.has.0

  pub behind_exit : (pc address : ℕ) (rest : List Line) → Within p behind pc (exit_lines address ++ rest) → Within p behind (pc + 1 + 1 + 1) rest
  behind_exit pc address rest w = from pc (pc + 1 + 1 + 1) (exit_lines address ++ rest) rest w.has.1.1.1 (omega arith) (omega arith) w

  -- no other block begins at a word behind the first
  pub is_inside : (pc q : ℕ) (lines : List Line) → Within p behind pc lines → pc < q → q < pc + length lines → p.stops q ≡ None
  is_inside pc q lines w lt within = let low = w.low in let high = w.high in w.inside q (omega arith) (omega arith)
