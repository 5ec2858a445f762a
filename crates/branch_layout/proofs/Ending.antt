-- What the end of a block tells of the block.
use Rattle.std.proofs.Common.{◌≡◌, ℕ, ◌+◌, ◌-◌, ◌^◌, ◌<◌, refl, subst, arith, eqb-true, ltb-true, List, [], ◌∷◌, length, Bool, true, false, Option, Some, None}
use Rattle.std.specs.Prelude.{ℤ, ◌==◌, ◌&&◌, ◌||◌, not, nat_lt, nat_le, slice_get, if◌then◌else◌}
use Rattle.std.proofs.lemmas.Bool.{and_parts}
use Rattle.std.proofs.lemmas.Bool.Decides.{nat_tests}
use Rattle.alpha_encode.specs.declared.instr.AlphaInstr.{AlphaInstr}
use Rattle.alpha_encode.specs.declared.instr.AlphaInstr.TheVariants.{Memory, Branch, Operate, Jump, Pal}
use Rattle.alpha_encode.specs.declared.instr.BranchOp.{BranchOp}
use Rattle.alpha_encode.specs.declared.instr.BranchOp.TheVariants as row
use Rattle.alpha_meaning.specs.Act.{links, taken, target_of}
use Rattle.address_map.specs.Pairs.{Pair}
use Rattle.exception_records.specs.Blocks.{BlockValue}
use Rattle.block_law.specs.Blocks.{Exit}
use Rattle.branch_layout.specs.Ends.{branch_end, choice_end, end_by, end_of, exit_end, fork_end, fork_to, form_of, is_last, is_near_block, is_next, keeps, may_fall, turned}
use Rattle.branch_layout.specs.declared.ends.End.{End}

-- ---- a branch that is turned
turned_twice : (b : Bool) → b ≡ not (not b)
turned_twice true = refl
turned_twice false = refl

pub turned_taken : (op : BranchOp) (a : ℕ) → links op ≡ false → taken (turned op) a ≡ not (taken op a)
turned_taken row.Br a e = absurd (cc e)
turned_taken row.Bsr a e = absurd (cc e)
turned_taken row.Blbc a e = grind (arith, nat_tests)
turned_taken row.Beq a e = refl
turned_taken row.Blt a e = grind (arith, nat_tests)
turned_taken row.Ble a e = refl
turned_taken row.Blbs a e = grind (arith, nat_tests)
turned_taken row.Bne a e = turned_twice (a == 0)
turned_taken row.Bge a e = grind (arith, nat_tests)
turned_taken row.Bgt a e = turned_twice (a == 0 || nat_le (2 ^ 63) a)

pub turned_links : (op : BranchOp) → links op ≡ false → links (turned op) ≡ false
turned_links row.Br e = absurd (cc e)
turned_links row.Bsr e = absurd (cc e)
turned_links row.Blbc e = refl
turned_links row.Beq e = refl
turned_links row.Blt e = refl
turned_links row.Ble e = refl
turned_links row.Blbs e = refl
turned_links row.Bne e = refl
turned_links row.Bge e = refl
turned_links row.Bgt e = refl

-- ---- the end of a block
-- a branch goes to the second address as it stands, or turned to the first, and the other is left
pub data Way (op : BranchOp) (first second : ℕ) : BranchOp → (to address : ℕ) → Type 0 where
  straight : Way op first second op second first
  over : Way op first second (turned op) first second

pub data EndIs (small : Bool) (mapped : List Pair) (next : Option ℕ) (block : BlockValue) : End → Type 0 where
  exit_is : (exit : Exit) → block.exits ≡ exit ∷ [] → exit.0 + 3 ≡ length block.words → keeps exit.0 block ≡ true
      → EndIs small mapped next block (record { start = exit.0; fork = None; address = exit.1; form = form_of (may_fall exit.0 block) small mapped next exit.1 })
  fork_is : (first second : Exit) (op op' : BranchOp) (ra : ℕ) (disp : ℤ) (to address : ℕ) → block.exits ≡ first ∷ second ∷ [] → first.0 + 3 ≡ second.0 → second.0 + 3 ≡ length block.words → 0 < first.0
      → keeps (first.0 - 1) block ≡ true → slice_get block.words (first.0 - 1) ≡ Some (Branch op ra disp) → links op ≡ false → target_of (first.0 - 1) disp ≡ second.0 → is_near_block small mapped to ≡ true
      → Way op first.1 second.1 op' to address → EndIs small mapped next block (fork_to (first.0 - 1) op' ra to address (form_of true small mapped next address))

module _ (small : Bool) (mapped : List Pair) (next : Option ℕ) (block : BlockValue) (end : End) where
  if_some : {A : Type 0} (b : Bool) (x y : A) → (if b then Some x else None) ≡ Some y → (b ≡ true) × (x ≡ y)
  if_some true x y e = (refl, cc)
  if_some false x y e = absurd (cc e)

  exit_end_is : (exit : Exit) → block.exits ≡ exit ∷ [] → exit_end small mapped next block exit ≡ Some end → EndIs small mapped next block end
  exit_end_is exit exits e =
      let x = if_some (is_last block exit && keeps exit.0 block) (record { start = exit.0; fork = None; address = exit.1; form = form_of (may_fall exit.0 block) small mapped next exit.1 }) end e in
      let parts = and_parts (is_last block exit) (keeps exit.0 block) x.0 in
      subst (EndIs small mapped next block) x.1 (exit_is exit exits (eqb-true (exit.0 + 3) (length block.words) parts.0) parts.1)

  module _ (first second : Exit) (exits : block.exits ≡ first ∷ second ∷ []) (adjacent : first.0 + 3 ≡ second.0) (last : second.0 + 3 ≡ length block.words) (some : 0 < first.0) (kept : keeps (first.0 - 1) block ≡ true) where
    fork_end_is : (op : BranchOp) (ra : ℕ) (disp : ℤ) → slice_get block.words (first.0 - 1) ≡ Some (Branch op ra disp) → links op ≡ false → target_of (first.0 - 1) disp ≡ second.0
        → fork_end small mapped next (first.0 - 1) op ra first.1 second.1 ≡ Some end → EndIs small mapped next block end
    fork_end_is op ra disp at conditional goes e =
        by (is_near_block small mapped second.1) refl (is_next next first.1 || not (is_near_block small mapped first.1)) (is_near_block small mapped first.1) refl e
      where
        one : (to address : ℕ) (op' : BranchOp) → is_near_block small mapped to ≡ true → Way op first.1 second.1 op' to address → fork_to (first.0 - 1) op' ra to address (form_of true small mapped next address) ≡ end → EndIs small mapped next block end
        one to address op' near way same = subst (EndIs small mapped next block) same (fork_is first second op op' ra disp to address exits adjacent last some kept at conditional goes near way)

        by : (a : Bool) → is_near_block small mapped second.1 ≡ a → (b c : Bool) → is_near_block small mapped first.1 ≡ c
            → (if a && b then Some (fork_to (first.0 - 1) op ra second.1 first.1 (form_of true small mapped next first.1)) else if c then Some (fork_to (first.0 - 1) (turned op) ra first.1 second.1 (form_of true small mapped next second.1)) else None) ≡ Some end
            → EndIs small mapped next block end
        by true near true c near' e = one second.1 first.1 op near straight cc
        by true near false true near' e = one first.1 second.1 (turned op) near' over cc
        by true near false false near' e = absurd (cc e)
        by false near b true near' e = one first.1 second.1 (turned op) near' over cc
        by false near b false near' e = absurd (cc e)

    branch_end_is : (word : Option AlphaInstr) → slice_get block.words (first.0 - 1) ≡ word → branch_end small mapped next (first.0 - 1) word first second ≡ Some end → EndIs small mapped next block end
    branch_end_is (Some (Branch op ra disp)) at e = by (links op) refl (target_of (first.0 - 1) disp == second.0) refl e
      where
        by : (a : Bool) → links op ≡ a → (b : Bool) → (target_of (first.0 - 1) disp == second.0) ≡ b → (if not a && b then fork_end small mapped next (first.0 - 1) op ra first.1 second.1 else None) ≡ Some end → EndIs small mapped next block end
        by true l b t e = absurd (cc e)
        by false l true t e = fork_end_is op ra disp at l (eqb-true (target_of (first.0 - 1) disp) second.0 t) e
        by false l false t e = absurd (cc e)
    branch_end_is (Some (Memory op ra rb disp)) at e = absurd (cc e)
    branch_end_is (Some (Operate op ra rb rc)) at e = absurd (cc e)
    branch_end_is (Some (Jump ra rb)) at e = absurd (cc e)
    branch_end_is (Some (Pal number)) at e = absurd (cc e)
    branch_end_is None at e = absurd (cc e)

  choice_end_is : (first second : Exit) → block.exits ≡ first ∷ second ∷ [] → choice_end small mapped next block first second ≡ Some end → EndIs small mapped next block end
  choice_end_is first second exits e = by (is_last block second) refl (first.0 + 3 == second.0) refl (nat_lt 0 first.0) refl (keeps (first.0 - 1) block) refl e
    where
      by : (a : Bool) → is_last block second ≡ a → (b : Bool) → (first.0 + 3 == second.0) ≡ b → (c : Bool) → nat_lt 0 first.0 ≡ c → (d : Bool) → keeps (first.0 - 1) block ≡ d
          → (if a && b && c && d then branch_end small mapped next (first.0 - 1) (slice_get block.words (first.0 - 1)) first second else None) ≡ Some end → EndIs small mapped next block end
      by true is_a true is_b true is_c true is_d e =
          branch_end_is first second exits (eqb-true (first.0 + 3) second.0 is_b) (eqb-true (second.0 + 3) (length block.words) is_a) (ltb-true 0 first.0 is_c) is_d (slice_get block.words (first.0 - 1)) refl e
      by true is_a true is_b true is_c false is_d e = absurd (cc e)
      by true is_a true is_b false is_c d is_d e = absurd (cc e)
      by true is_a false is_b c is_c d is_d e = absurd (cc e)
      by false is_a b is_b c is_c d is_d e = absurd (cc e)

  pub end_is : end_of small mapped next block ≡ Some end → EndIs small mapped next block end
  end_is e = by block.exits refl e
    where
      by : (exits : List Exit) → block.exits ≡ exits → end_by small mapped next block exits ≡ Some end → EndIs small mapped next block end
      by [] are e = absurd (cc e)
      by (exit ∷ []) are e = exit_end_is exit are e
      by (first ∷ second ∷ []) are e = choice_end_is first second are e
      by (first ∷ second ∷ third ∷ more) are e = absurd (cc e)
