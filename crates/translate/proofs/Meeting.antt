-- Compiled blocks that are laid out do what their instructions mean.
use Rattle.std.proofs.Common.{All, Bool, ◌^◌, ◌≡◌, ℕ, zero, suc, ◌<◌, refl, sym, ◌∙◌, ap, subst, arith, List, [], ◌∷◌, length, get_or, true, Option, Some, None, cond, inl, inr}
use Rattle.std.specs.Prelude.{slice_get}
use Rattle.std.proofs.lemmas.Option.{slice_get-get_or, slice_get_within}
use Rattle.std.proofs.Math.Bool.{or-true}
use Rattle.vax_form.specs.declared.instr.Instr.{Instr}
use Rattle.vax_form.specs.declared.pages.Pages.{Pages}
use Rattle.address_map.specs.Pairs.{word_at}
use Rattle.exception_records.specs.Points.{point_at}
use Rattle.exception_records.specs.Shown.{Shows}
use Rattle.exception_records.specs.declared.points.Point.{Point}
use Rattle.exception_records.specs.declared.rules.Rules.{Rules}
use Rattle.block_law.specs.Blocks.{Exit, IsBlockOf, RulesAt, RulesMeet}
use Rattle.block_law.specs.Translations.{Code, IsBlock, Meets, has_loop}
use Rattle.image_meaning.specs.Meant.{image_meaning}
use Rattle.image_meaning.specs.Permits.{permit_of}
use Rattle.image_meaning.specs.declared.target.Target.{Target}
use Rattle.branch_layout.specs.Layouts.{IsInPlace, IsLayout, Placed}
use Rattle.branch_layout.proofs.Filling.{All_at, some_same}
use Rattle.branch_layout.proofs.Mapped.{block_of_mapped}
use Rattle.cc_liveness.specs.Uses.{use_of}
use Rattle.code_runs.specs.Codes.{codes_at}
use Rattle.code_runs.specs.Promises as runs
use Rattle.micro_lower.specs.Lowering.{GoesTo}
use Rattle.vax_form.specs.Targets.{fixed_targets, has}
use Rattle.code_runs.specs.Runs.{instr_at, is_target, joined_at, joined_to, no_instr, only, ending_at}
use Rattle.translate.specs.Compiled.{AreCompiled, AreFound, ArePages, HasItsRules, IsCompiled}
use Rattle.translate.proofs.Placing.{are_of}
use Rattle.translate.proofs.Strings.{loops_there}

-- ---- fixed targets
any_at : (instrs : List Instr) (address place : ℕ) → place < length instrs → has (fixed_targets (instr_at instrs place)) address ≡ true → is_target instrs address ≡ true
any_at [] address place lt e = absurd (omega arith)
any_at (i ∷ instrs) address zero lt e = rw e refl
any_at (i ∷ instrs) address (suc place) lt e = rw (any_at instrs address place (omega arith) e) (or-true (has (fixed_targets i) address))

-- one is joined to none
target_begins : (instrs : List Instr) (address place : ℕ) → place < length instrs → has (fixed_targets (instr_at instrs place)) address ≡ true → joined_at instrs address ≡ None
unfolding joined_at
target_begins instrs address place lt e = ap (λ b. cond b None (only (ending_at address 0 instrs))) (any_at instrs address place lt e)

module _ (target : Target) (pages : Pages) (instrs : List Instr) (blocks : List Placed) (code : Code) (are : AreCompiled target pages instrs blocks) (layout : IsLayout blocks code) (stand : AreFound pages instrs) (longs : All (λ (i : Instr). i.at < 2 ^ 32) instrs) (pages_are : ArePages pages) (meet : runs.RulesMeet instrs) where
  -- the instruction of a mapped address
  pub record IsOf (address first : ℕ) : Type 0 where
    pub place : ℕ
    pub block : Placed
    pub within : place < length instrs
    pub its : (instr_at instrs place).at ≡ address
    pub compiled : IsCompiled target pages (instr_at instrs place) (codes_at instrs place) block
    pub laid : IsInPlace code (instr_at instrs place).at block.1
    pub first_is : laid.first ≡ first

  pub is_of : (address first : ℕ) → word_at code.map address ≡ Some first → IsOf address first
  is_of address first e =
      let h = block_of_mapped blocks code address first layout.addresses e in
      let compiled = are.each h.place h.block h.is in
      let its : (instr_at instrs h.place).at ≡ address = sym compiled.address ∙ h.its in
      let laid = subst (λ n. IsInPlace code n h.block.1) compiled.address (layout.laid h.place h.block h.is) in
      let within = slice_get_within blocks h.place h.block h.is in
      let many = are.many in
      record {
        place = h.place;
        block = h.block;
        within = omega arith;
        its = its;
        compiled = compiled;
        laid = laid;
        first_is = some_same (sym laid.mapped ∙ ap (word_at code.map) its ∙ e);
      }

  -- its block has a loop where it may
  loops_as : (address first : ℕ) (of : IsOf address first) → IsBlockOf (has_loop (permit_of target pages) (instr_at instrs of.place).at) (instr_at instrs of.place).at of.block.1
  loops_as address first of =
      subst (λ (loops : Bool). IsBlockOf loops (instr_at instrs of.place).at of.block.1) (sym (loops_there target pages (instr_at instrs of.place) pages_are (longs of.place no_instr of.within) (stand of.place no_instr of.within))) of.compiled.shape

  -- an instruction's address is mapped
  mapped : (place : ℕ) → place < length instrs → word_at code.map (instr_at instrs place).at ≡ None → ⊥
  mapped place lt e =
      let many = are.many in
      let none : Placed = (0, record { words = []; exits = []; points = [] }) in
      let block = get_or blocks place none in
      let at : slice_get blocks place ≡ Some block = slice_get-get_or blocks place none (omega arith) in
      let compiled = are.each place block at in
      let laid = layout.laid place block at in
      let is : word_at code.map block.0 ≡ None = ap (word_at code.map) compiled.address ∙ e in
      let there = laid.mapped in
      cc

  -- the rules at the first word of an instruction's block are those before it
  begins_by : (address first : ℕ) (of : IsOf address first) (point : Point) → point_at code.points first ≡ Some point → point.rules ≡ (codes_at instrs of.place).before
  begins_by address first of point has_point =
      let shape = loops_as address first of in
      let there = of.laid.points ∙ shape.has_first in
      let here : point_at code.points of.laid.first ≡ Some point = subst (λ w. point_at code.points w ≡ Some point) (sym of.first_is) has_point in
      let same : shape.first ≡ point = some_same (sym there ∙ here) in
      subst (λ (p : Point). p.rules ≡ (codes_at instrs of.place).before) same (of.compiled.first shape.first shape.has_first)

  -- ---- the rules at the address to which an instruction goes are those behind it
  module _ (place : ℕ) (lt : place < length instrs) where
    behind : Rules
    behind = (codes_at instrs place).behind

    to_next : (address : ℕ) → address ≡ (instr_at instrs place).after → (o : Option ℕ) → word_at code.map address ≡ o → RulesAt code o (codes_at instrs place).behind
    to_next address e None m =
        meet.leaves place lt (λ next ln is. mapped next ln (ap (word_at code.map) (is ∙ sym e) ∙ m))
    to_next address e (Some first) m = λ point has_point.
        let of = is_of address first m in
        begins_by address first of point has_point ∙ meet.onward place of.place lt of.within (of.its ∙ e)

    to_target : (address : ℕ) → (use_of (instr_at instrs place)).ends ≡ true → has (fixed_targets (instr_at instrs place)) address ≡ true → (o : Option ℕ) → word_at code.map address ≡ o → RulesAt code o (codes_at instrs place).behind
    to_target address ends target None m = meet.ends place lt ends
    to_target address ends target (Some first) m = λ point has_point.
        let of = is_of address first m in
        let none : joined_to instrs of.place ≡ None = ap (joined_at instrs) of.its ∙ target_begins instrs address place lt target in
        begins_by address first of point has_point ∙ meet.begins of.place of.within none ∙ sym (meet.ends place lt ends)

    rules_at : (address : ℕ) → GoesTo (instr_at instrs place) address → RulesAt code (word_at code.map address) (codes_at instrs place).behind
    rules_at address (inl e) = to_next address e (word_at code.map address) refl
    rules_at address (inr h) = to_target address h.0 h.1 (word_at code.map address) refl

  -- ---- the rules of an instruction's block
  rules_first : (place : ℕ) → place < length instrs → (o : Option ℕ) → word_at code.map (instr_at instrs place).at ≡ o → RulesAt code o (codes_at instrs place).before
  rules_first place lt None e = absurd (mapped place lt e)
  rules_first place lt (Some first) e = λ point has_point.
      let many = are.many in
      let none : Placed = (0, record { words = []; exits = []; points = [] }) in
      let block = get_or blocks place none in
      let at : slice_get blocks place ≡ Some block = slice_get-get_or blocks place none (omega arith) in
      let compiled = are.each place block at in
      let laid = subst (λ n. IsInPlace code n block.1) compiled.address (layout.laid place block at) in
      let of : IsOf (instr_at instrs place).at first = record { place = place; block = block; within = lt; its = refl; compiled = compiled; laid = laid; first_is = some_same (sym laid.mapped ∙ e) } in
      begins_by (instr_at instrs place).at first of point has_point

  rules_onward : (place : ℕ) (block : Placed) → slice_get blocks place ≡ Some block → RulesMeet code block.1.exits (codes_at instrs place).behind
  rules_onward place block at =
      let many = are.many in
      let within = slice_get_within blocks place block at in
      let compiled = are.each place block at in
      λ number exit has_exit. rules_at place (omega arith) exit.1 (All_at (λ (e : Exit). GoesTo (instr_at instrs place) e.1) block.1.exits number exit compiled.exits has_exit)

  pub its_rules : HasItsRules target pages instrs code
  its_rules = record {
    first = λ place lt. rules_first place lt (word_at code.map (instr_at instrs place).at) refl;
    onward = λ place block at. rules_onward place block (subst (λ (bs : List Placed). slice_get bs place ≡ Some block) (sym (are_of target pages instrs blocks are)) at);
  }

  block_at : (address first : ℕ) (of : IsOf address first) → IsBlock (image_meaning pages) (permit_of target pages) code (instr_at instrs of.place).at of.laid.first
  block_at address first of =
      let shape = loops_as address first of in
      let at = (instr_at instrs of.place).at in
      of.laid.does (image_meaning pages) (permit_of target pages) shape (codes_at instrs of.place).behind
      (λ number exit has_exit. rules_at of.place of.within exit.1 (All_at (λ (e : Exit). GoesTo (instr_at instrs of.place) e.1) of.block.1.exits number exit of.compiled.exits has_exit))
      (λ code' first' thread n state held regs few stands lt is_state pc form shows leads.
      of.compiled.means pages_are (stand of.place no_instr of.within) code' first' thread n state held regs few stands lt is_state pc form
      (subst (λ (rules : Rules). Shows regs at rules held state) (of.compiled.first shape.first shape.has_first) shows) leads)

  pub meets : Meets (image_meaning pages) (permit_of target pages) code
  meets = record {
    few = layout.few;
    map_rises = layout.map_rises;
    points_rise = layout.points_rise;
    blocks = λ address first e.
        let of = is_of address first e in
        subst (λ a. IsBlock (image_meaning pages) (permit_of target pages) code a first) of.its (subst (λ w. IsBlock (image_meaning pages) (permit_of target pages) code (instr_at instrs of.place).at w) of.first_is (block_at address first of));
  }
