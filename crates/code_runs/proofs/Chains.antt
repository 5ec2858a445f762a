-- An instruction by the others of its run, one step at a time.
use Rattle.std.proofs.Common.{◌≡◌, ◌<◌, ◌≤◌, ◌+◌, ℕ, zero, suc, refl, sym, ap, ◌∙◌, arith, List, [], ◌∷◌, length, map, Option, Some, None}
use Rattle.std.specs.Option.{option_map_or}
use Rattle.vax_form.specs.declared.instr.Instr.{Instr}
use Rattle.vax_form.specs.declared.state.Flags.{Flags}
use Rattle.vax_form.specs.Codes.{all}
use Rattle.cc_liveness.specs.Liveness.{live_behind, wanted_before, wanted_by}
use Rattle.cc_liveness.specs.Uses.{use_of}
use Rattle.cc_liveness.specs.declared.uses.CodeUse.{CodeUse}
use Rattle.exception_records.specs.Codes.{all_ready}
use Rattle.exception_records.specs.declared.rules.Rules.{Rules}
use Rattle.code_runs.specs.Rules.{rules_behind}
use Rattle.code_runs.specs.Runs.{AreInOrder, Follow, instr_at, joined_to}
use Rattle.code_runs.specs.Codes.{before_in_run, behind_in_run, code_sources, codes_at, joined_behind, live_at, rules_along, rules_before}
use Rattle.code_runs.proofs.Joined.{behind_is_joined, joined, joined_is_behind, none_behind, none_is_behind}

module _ (instrs : List Instr) (order : AreInOrder instrs) where
  -- ---- behind a place
  behind_stays : (most place : ℕ) → length instrs ≤ place + most → behind_in_run instrs (suc most) place ≡ behind_in_run instrs most place
  behind_stays zero place enough = by (joined_behind instrs place) refl
    where
      by : (o : Option ℕ) → joined_behind instrs place ≡ o → option_map_or (λ next. next ∷ []) o [] ≡ []
      by None e = refl
      by (Some next) e =
          let r = behind_is_joined instrs order place next e in
          let j = joined instrs order place next r.joined in
          let within = j.within in
          let before = j.before in
          absurd (omega arith)
  behind_stays (suc most) place enough = by (joined_behind instrs place) refl (behind_stays most)
    where
      by : (o : Option ℕ) → joined_behind instrs place ≡ o → ((next : ℕ) → length instrs ≤ next + most → behind_in_run instrs (suc most) next ≡ behind_in_run instrs most next)
          → option_map_or (λ next. next ∷ behind_in_run instrs (suc most) next) o [] ≡ option_map_or (λ next. next ∷ behind_in_run instrs most next) o []
      by None e stays = refl
      by (Some next) e stays =
          let r = behind_is_joined instrs order place next e in
          let j = joined instrs order place next r.joined in
          let before = j.before in
          ap (λ (ps : List ℕ). next ∷ ps) (stays next (omega arith))

  pub behind_more : (most place next : ℕ) → length instrs ≤ most → joined_behind instrs place ≡ Some next → behind_in_run instrs most place ≡ next ∷ behind_in_run instrs most next
  behind_more zero place next enough e = let r = behind_is_joined instrs order place next e in let within = r.within in absurd (omega arith)
  behind_more (suc most) place next enough e =
      let r = behind_is_joined instrs order place next e in
      let j = joined instrs order place next r.joined in
      let before = j.before in
      ap (λ o. option_map_or (λ n. n ∷ behind_in_run instrs most n) o []) e
      ∙ ap (λ (ps : List ℕ). next ∷ ps) (sym (behind_stays most next (omega arith)))

  pub behind_none : (most place : ℕ) → joined_behind instrs place ≡ None → behind_in_run instrs most place ≡ []
  behind_none zero place e = refl
  behind_none (suc most) place e = ap (λ o. option_map_or (λ n. n ∷ behind_in_run instrs most n) o []) e

  -- what follows a place in a run stands behind it
  pub follow_is : (place : ℕ) (rest : List ℕ) → Follow instrs place rest → behind_in_run instrs (length instrs) place ≡ rest
  follow_is place [] h = behind_none (length instrs) place (none_is_behind instrs order place h)
  follow_is place (next ∷ rest) h =
      behind_more (length instrs) place next (omega arith) (joined_is_behind instrs order place next h.1)
      ∙ ap (λ (ps : List ℕ). next ∷ ps) (follow_is next rest h.2)

  pub behind_follows : (most place : ℕ) → length instrs ≤ place + most → Follow instrs place (behind_in_run instrs most place)
  behind_follows zero place enough = λ next lt e.
      let j = joined instrs order place next e in
      let before = j.before in
      omega arith
  behind_follows (suc most) place enough = by (joined_behind instrs place) refl (behind_follows most)
    where
      by : (o : Option ℕ) → joined_behind instrs place ≡ o → ((next : ℕ) → length instrs ≤ next + most → Follow instrs next (behind_in_run instrs most next))
          → Follow instrs place (option_map_or (λ next. next ∷ behind_in_run instrs most next) o [])
      by None e follows = none_behind instrs order place e
      by (Some next) e follows =
          let r = behind_is_joined instrs order place next e in
          let j = joined instrs order place next r.joined in
          let before = j.before in
          (r.within, r.joined, follows next (omega arith))

  -- ---- before a place
  before_stays : (most place : ℕ) → place ≤ most → before_in_run instrs (suc most) place ≡ before_in_run instrs most place
  before_stays zero place enough = by (joined_to instrs place) refl
    where
      by : (o : Option ℕ) → joined_to instrs place ≡ o → option_map_or (λ before. before ∷ []) o [] ≡ []
      by None e = refl
      by (Some other) e = let j = joined instrs order other place e in let before = j.before in absurd (omega arith)
  before_stays (suc most) place enough = by (joined_to instrs place) refl (before_stays most)
    where
      by : (o : Option ℕ) → joined_to instrs place ≡ o → ((other : ℕ) → other ≤ most → before_in_run instrs (suc most) other ≡ before_in_run instrs most other)
          → option_map_or (λ before. before ∷ before_in_run instrs (suc most) before) o [] ≡ option_map_or (λ before. before ∷ before_in_run instrs most before) o []
      by None e stays = refl
      by (Some other) e stays = let j = joined instrs order other place e in let before = j.before in ap (λ (ps : List ℕ). other ∷ ps) (stays other (omega arith))

  pub before_more : (most place before : ℕ) → place ≤ most → joined_to instrs place ≡ Some before → before_in_run instrs most place ≡ before ∷ before_in_run instrs most before
  before_more zero place before enough e = let j = joined instrs order before place e in let lower = j.before in absurd (omega arith)
  before_more (suc most) place before enough e =
      let j = joined instrs order before place e in
      let lower = j.before in
      ap (λ o. option_map_or (λ n. n ∷ before_in_run instrs most n) o []) e
      ∙ ap (λ (ps : List ℕ). before ∷ ps) (sym (before_stays most before (omega arith)))

  pub before_none : (most place : ℕ) → joined_to instrs place ≡ None → before_in_run instrs most place ≡ []
  before_none zero place e = refl
  before_none (suc most) place e = ap (λ o. option_map_or (λ n. n ∷ before_in_run instrs most n) o []) e

  -- ---- the codes
  pub live_more : (place next : ℕ) → joined_behind instrs place ≡ Some next
      → live_at instrs place ≡ live_behind (use_of (instr_at instrs place)) (wanted_before (use_of (instr_at instrs next)) (live_at instrs next))
  unfolding live_at
  live_more place next e =
      ap (λ (ps : List ℕ). live_behind (use_of (instr_at instrs place)) (wanted_by (map use_of (map (instr_at instrs) ps)))) (behind_more (length instrs) place next (omega arith) e)

  pub live_last : (place : ℕ) → joined_behind instrs place ≡ None → live_at instrs place ≡ live_behind (use_of (instr_at instrs place)) all
  unfolding live_at
  live_last place e =
      ap (λ (ps : List ℕ). live_behind (use_of (instr_at instrs place)) (wanted_by (map use_of (map (instr_at instrs) ps)))) (behind_none (length instrs) place e)

  pub rules_more : (place before : ℕ) → place < length instrs → joined_to instrs place ≡ Some before → rules_before instrs place ≡ (codes_at instrs before).behind
  unfolding rules_before
  rules_more place before lt e = ap (rules_along instrs) (before_more (length instrs) place before (omega arith) e)

  pub rules_first : (place : ℕ) → joined_to instrs place ≡ None → rules_before instrs place ≡ all_ready
  unfolding rules_before
  rules_first place e = ap (rules_along instrs) (before_none (length instrs) place e)

  -- ---- what is found for an instruction
  pub live_found : (place next : ℕ) (found wanted live : Flags) (here there : CodeUse) → found ≡ live_behind here wanted → here ≡ use_of (instr_at instrs place)
      → wanted ≡ wanted_before there live → there ≡ use_of (instr_at instrs next) → live ≡ live_at instrs next → joined_behind instrs place ≡ Some next → found ≡ live_at instrs place
  live_found place next found wanted live here there f h w t l e = f ∙ rw (h, w, t, l) (sym (live_more place next e))

  pub codes_found : (place : ℕ) (live : Flags) (before behind : Rules) → live ≡ live_at instrs place → before ≡ rules_before instrs place
      → behind ≡ rules_behind (code_sources (instr_at instrs place)) live before → record { live = live; before = before; behind = behind } ≡ codes_at instrs place
  codes_found place live before behind l b e = rw (e, l, b) refl
