-- The rules along runs meet.
use Rattle.std.proofs.Common.{◌≡◌, ◌≢◌, ◌<◌, ℕ, Bool, true, false, zero, suc, refl, sym, ap, ◌∙◌, subst, arith, cond, List, length, Option, Some, None}
use Rattle.std.specs.Option.{option_map_or}
use Rattle.vax_form.specs.Operation.{operation_at}
use Rattle.vax_form.specs.declared.instr.Instr.{Instr}
use Rattle.vax_form.specs.declared.operation.Operation.{Operation}
use Rattle.vax_form.specs.declared.state.Flags.{Flags}
use Rattle.vax_form.specs.Codes.{Code, all, holds, none}
use Rattle.vax_form.specs.Codes as code
use Rattle.cc_liveness.specs.Liveness.{wanted_before}
use Rattle.cc_liveness.specs.Uses.{code_use_of, goes_on, use_of}
use Rattle.cc_liveness.specs.declared.uses.CodeUse.{CodeUse}
use Rattle.cc_liveness.proofs.Lives.{read_passes}
use Rattle.micro_ops.specs.Sources.{from, sources_of}
use Rattle.micro_ops.specs.declared.codes.CodeSource.TheVariants.{Kept}
use Rattle.exception_records.specs.Codes.{all_ready, is_ready}
use Rattle.exception_records.specs.declared.rules.CodeRule.{CodeRule}
use Rattle.exception_records.specs.declared.rules.CodeRule.TheVariants as rule
use Rattle.exception_records.specs.declared.rules.Rules.{Rules}
use Rattle.code_runs.specs.Ready.{AreReady, can_have_block}
use Rattle.code_runs.specs.Rules.{rules_behind}
use Rattle.code_runs.proofs.Ready.{live_are_ready, ready_all, wanted_live}
use Rattle.code_runs.specs.Runs.{AreInOrder, instr_at, joined_to, no_instr}
use Rattle.code_runs.specs.Codes.{code_sources, codes_at, joined_behind, live_at, rules_before}
use Rattle.code_runs.specs.Promises.{CanHaveBlocks, RulesAlwaysMeet, RulesMeet}
use Rattle.code_runs.proofs.Places.{same_place}
use Rattle.code_runs.proofs.Joined.{joined, joined_alone, joined_is_behind, none_is_behind}
use Rattle.code_runs.proofs.Chains.{live_last, live_more, rules_first, rules_more}

-- ---- sets of codes that are ready
is_ready_rule : (r : CodeRule) → is_ready r ≡ true → r ≡ rule.Ready
is_ready_rule rule.Ready e = refl
is_ready_rule r e = absurd cc

all_are_ready : (rules : Rules) → AreReady all rules → rules ≡ all_ready
all_are_ready rules h =
    let n = is_ready_rule rules.n (h code.negative refl) in
    let z = is_ready_rule rules.z (h code.zero_code refl) in
    let v = is_ready_rule rules.v (h code.overflow refl) in
    let c = is_ready_rule rules.c (h code.carry refl) in
    same n z v c
  where
    same : rules.n ≡ rule.Ready → rules.z ≡ rule.Ready → rules.v ≡ rule.Ready → rules.c ≡ rule.Ready → rules ≡ all_ready
    same n z v c =
        ap (λ (r : CodeRule). record { n = r; z = rules.z; v = rules.v; c = rules.c }) n
        ∙ ap (λ (r : CodeRule). record { n = rule.Ready; z = r; v = rules.v; c = rules.c }) z
        ∙ ap (λ (r : CodeRule). record { n = rule.Ready; z = rule.Ready; v = r; c = rules.c }) v
        ∙ ap (λ (r : CodeRule). record { n = rule.Ready; z = rule.Ready; v = rule.Ready; c = r }) c

-- what an instruction reads is wanted before it
reads_wanted : (its : CodeUse) (live : Flags) (c : Code) → holds c its.reads ≡ true → holds c (wanted_before its live) ≡ true
reads_wanted its live code.negative h = read_passes its.reads.n its.writes.n live.n h
reads_wanted its live code.zero_code h = read_passes its.reads.z its.writes.z live.z h
reads_wanted its live code.overflow h = read_passes its.reads.v its.writes.v live.v h
reads_wanted its live code.carry h = read_passes its.reads.c its.writes.c live.c h

-- ---- an instruction
-- the codes that are live behind it are ready there, if those that are wanted before it are ready before
live_ready : (instr : Instr) (live : Flags) (before : Rules) → option_map_or can_have_block (operation_at instr.opcode) false ≡ true → AreReady (wanted_before (use_of instr) live) before → AreReady live (rules_behind (code_sources instr) live before)
unfolding use_of code_sources
live_ready instr live before can h = by (operation_at instr.opcode) can h
  where
    by : (o : Option Operation) → option_map_or can_have_block o false ≡ true → AreReady (wanted_before (option_map_or code_use_of o (goes_on none none)) live) before
        → AreReady live (rules_behind (option_map_or sources_of o (from Kept Kept)) live before)
    by None e h = absurd (cc e)
    by (Some operation) e h = live_are_ready operation live before e h

module _ (instrs : List Instr) (order : AreInOrder instrs) (can : CanHaveBlocks instrs) where
  wanted_ready : (most place : ℕ) → place < most → place < length instrs → AreReady (wanted_before (use_of (instr_at instrs place)) (live_at instrs place)) (rules_before instrs place)
  wanted_ready zero place enough lt = absurd (omega arith)
  wanted_ready (suc most) place enough lt = by (joined_to instrs place) refl (wanted_ready most)
    where
      set : Flags
      set = wanted_before (use_of (instr_at instrs place)) (live_at instrs place)

      by : (o : Option ℕ) → joined_to instrs place ≡ o
          → ((p : ℕ) → p < most → p < length instrs → AreReady (wanted_before (use_of (instr_at instrs p)) (live_at instrs p)) (rules_before instrs p))
          → AreReady (wanted_before (use_of (instr_at instrs place)) (live_at instrs place)) (rules_before instrs place)
      by None e earlier =
          subst (λ (rules : Rules). AreReady (wanted_before (use_of (instr_at instrs place)) (live_at instrs place)) rules) (sym (rules_first instrs order place e))
          (ready_all (wanted_before (use_of (instr_at instrs place)) (live_at instrs place)))
      by (Some p) e earlier =
          let j = joined instrs order p place e in
          let before = j.before in
          let wanted = wanted_before (use_of (instr_at instrs place)) (live_at instrs place) in
          let ready = live_ready (instr_at instrs p) (live_at instrs p) (rules_before instrs p) (can p no_instr (omega arith)) (earlier p (omega arith) (omega arith)) in
          let live = live_more instrs order p place (joined_is_behind instrs order p place e) in
          let shown = subst (λ (set : Flags). AreReady set (codes_at instrs p).behind) live ready in
          subst (λ (rules : Rules). AreReady wanted rules) (sym (rules_more instrs order place p lt e)) (λ c h. shown c (wanted_live (use_of (instr_at instrs p)) wanted c h))

  behind_ready : (place : ℕ) → place < length instrs → AreReady (live_at instrs place) (codes_at instrs place).behind
  behind_ready place lt =
      live_ready (instr_at instrs place) (live_at instrs place) (rules_before instrs place) (can place no_instr lt) (wanted_ready (suc place) place (omega arith) lt)

  behind_all : (place : ℕ) → place < length instrs → live_at instrs place ≡ all → (codes_at instrs place).behind ≡ all_ready
  behind_all place lt e = all_are_ready (codes_at instrs place).behind (subst (λ (set : Flags). AreReady set (codes_at instrs place).behind) e (behind_ready place lt))

  live_where_ends : (place : ℕ) → (use_of (instr_at instrs place)).ends ≡ true → live_at instrs place ≡ all
  unfolding live_at
  live_where_ends place e = rw e refl

  live_at_last : (place : ℕ) → joined_behind instrs place ≡ None → live_at instrs place ≡ all
  live_at_last place e = live_last instrs order place e ∙ by (use_of (instr_at instrs place)).ends
    where
      by : (b : Bool) → cond b all all ≡ all
      by true = refl
      by false = refl

  leaves : (place : ℕ) → place < length instrs → ((next : ℕ) → next < length instrs → joined_to instrs next ≢ Some place) → (codes_at instrs place).behind ≡ all_ready
  leaves place lt none = behind_all place lt (live_at_last place (none_is_behind instrs order place none))

  onward : (place next : ℕ) → place < length instrs → next < length instrs → (instr_at instrs next).at ≡ (instr_at instrs place).after → (codes_at instrs next).before ≡ (codes_at instrs place).behind
  onward place next lp ln e = by (joined_to instrs next) refl
    where
      by : (o : Option ℕ) → joined_to instrs next ≡ o → rules_before instrs next ≡ (codes_at instrs place).behind
      by None f =
          rules_first instrs order next f
          ∙ sym (leaves place lp (λ other lt is.
          let j = joined instrs order place other is in
          let same : other ≡ next = same_place instrs order other next lt ln (sym j.ends ∙ sym e) in
          let found : joined_to instrs next ≡ Some place = subst (λ k. joined_to instrs k ≡ Some place) same is in
          cc))
      by (Some p) f =
          let same : place ≡ p = joined_alone instrs order p next place f lp (sym e) in
          rules_more instrs order next place ln (subst (λ k. joined_to instrs next ≡ Some k) (sym same) f)

  meet : RulesMeet instrs
  meet = record {
    ends = λ place lt e. behind_all place lt (live_where_ends place e);
    begins = λ place lt e. rules_first instrs order place e;
    onward = onward;
    leaves = λ place lt none. leaves place lt (λ next ln is. let j = joined instrs order place next is in none next ln (sym j.ends));
    reads = λ place lt c h. wanted_ready (suc place) place (omega arith) lt c (reads_wanted (use_of (instr_at instrs place)) (live_at instrs place) c h);
  }

pub rules_always_meet : RulesAlwaysMeet
rules_always_meet instrs order can = meet instrs order can
