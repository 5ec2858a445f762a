-- The codes of instructions are those of the runs that they are in.
use Rattle.std.proofs.Common.{◌≡◌, ◌<◌, ◌≤◌, ◌+◌, ◌++◌, ℕ, Bool, true, false, refl, sym, ap, ◌∙◌, subst, arith, List, [], ◌∷◌, length, map, get_or, nat_lt, ltb-true, ltb-false}
use Rattle.std.proofs.lemmas.List.{ext_get_or, get_or_append_left, get_or_push, length_push}
use Rattle.std.proofs.lemmas.List.FromFn.{get_or-map-range_with_len, length-map-range_with_len}
use Rattle.vax_form.specs.declared.instr.Instr.{Instr}
use Rattle.vax_form.specs.declared.state.Flags.{Flags}
use Rattle.cc_liveness.specs.Liveness.{live_behind, live_codes, wanted_by}
use Rattle.cc_liveness.specs.Uses.{use_of}
use Rattle.exception_records.specs.Codes.{all_ready}
use Rattle.exception_records.specs.declared.rules.Rules.{Rules}
use Rattle.code_runs.specs.declared.codes.InstrCodes.{InstrCodes}
use Rattle.code_runs.specs.Runs.{AreInOrder, Follow, IsRun, instr_at}
use Rattle.code_runs.specs.Codes.{AreCodes, codes_along, codes_at, codes_of, instruction_codes, live_at, no_codes, rules_before, run_codes}
use Rattle.code_runs.proofs.Chains.{follow_is, rules_first, rules_more}

module _ (instrs : List Instr) (order : AreInOrder instrs) where
  live_along : (place : ℕ) (rest : List ℕ) → Follow instrs place rest → live_codes (map use_of (map (instr_at instrs) (place ∷ rest))) ≡ map (live_at instrs) (place ∷ rest)
  unfolding live_at
  live_along place [] h =
      ap (λ (ps : List ℕ). live_behind (use_of (instr_at instrs place)) (wanted_by (map use_of (map (instr_at instrs) ps))) ∷ []) (sym (follow_is instrs order place [] h))
  live_along place (next ∷ rest) h =
      ap (λ (ps : List ℕ). live_behind (use_of (instr_at instrs place)) (wanted_by (map use_of (map (instr_at instrs) ps))) ∷ live_codes (map use_of (map (instr_at instrs) (next ∷ rest)))) (sym (follow_is instrs order place (next ∷ rest) h))
      ∙ ap (λ (lives : List Flags). live_at instrs place ∷ lives) (live_along next rest h.2)

  codes_follow : (place : ℕ) (rest : List ℕ) → Follow instrs place rest
      → codes_along (rules_before instrs place) (map (instr_at instrs) (place ∷ rest)) (map (live_at instrs) (place ∷ rest)) ≡ map (codes_at instrs) (place ∷ rest)
  codes_follow place [] h = refl
  codes_follow place (next ∷ rest) h =
      ap (λ (rules : Rules). codes_at instrs place ∷ codes_along rules (map (instr_at instrs) (next ∷ rest)) (map (live_at instrs) (next ∷ rest)))
      (sym (rules_more instrs order next place h.0 h.1))
      ∙ ap (λ (codes : List InstrCodes). codes_at instrs place ∷ codes) (codes_follow next rest h.2)

  pub codes_found : (codes : List InstrCodes) → codes ≡ instruction_codes instrs → (place : ℕ) → place < length instrs → codes_of codes place ≡ codes_at instrs place
  codes_found codes is place lt =
      let same : 0 + place ≡ place = omega arith in
      ap (λ (cs : List InstrCodes). get_or cs place no_codes) is ∙ get_or-map-range_with_len (codes_at instrs) 0 (length instrs) place place no_codes lt same

  found_along : (codes : List InstrCodes) → codes ≡ instruction_codes instrs → (place : ℕ) (rest : List ℕ) → place < length instrs → Follow instrs place rest
      → map (codes_of codes) (place ∷ rest) ≡ map (codes_at instrs) (place ∷ rest)
  found_along codes is place [] lt h = ap (λ (c : InstrCodes). c ∷ []) (codes_found codes is place lt)
  found_along codes is place (next ∷ rest) lt h =
      let here = codes_found codes is place lt in
      let later = found_along codes is next rest h.0 h.2 in
      cc

  along_run : (codes : List InstrCodes) → codes ≡ instruction_codes instrs → (run : List ℕ) → IsRun instrs run → map (codes_of codes) run ≡ run_codes (map (instr_at instrs) run)
  along_run codes is [] h = absurd h
  along_run codes is (first ∷ rest) h =
      found_along codes is first rest h.0 h.2
      ∙ sym (codes_follow first rest h.2)
      ∙ ap (λ (rules : Rules). codes_along rules (map (instr_at instrs) (first ∷ rest)) (map (live_at instrs) (first ∷ rest))) (rules_first instrs order first h.1)
      ∙ ap (codes_along all_ready (map (instr_at instrs) (first ∷ rest))) (sym (live_along first rest h.2))

  pub are_codes : (codes : List InstrCodes) → codes ≡ instruction_codes instrs → AreCodes instrs codes
  are_codes codes is = record {
    count = ap length is ∙ length-map-range_with_len (codes_at instrs) 0 (length instrs);
    runs = along_run codes is;
  }

  -- ---- the list as it is made
  abbrev pub Made : (codes : List InstrCodes) (count : ℕ) → Type 0
  Made codes count = (length codes ≡ count) × ((place : ℕ) → place < count → get_or codes place no_codes ≡ codes_at instrs place)

  pub made_more : (codes longer : List InstrCodes) (own : InstrCodes) (count : ℕ) → Made codes count → longer ≡ codes ++ own ∷ [] → own ≡ codes_at instrs count → Made longer (count + 1)
  made_more codes longer own count h is e = (
    ap length is ∙ length_push codes own ∙ ap (λ k. k + 1) h.0,
    λ place lt. ap (λ (cs : List InstrCodes). get_or cs place no_codes) is ∙ by place lt (nat_lt place count) refl,
  )
    where
      by : (place : ℕ) → place < count + 1 → (b : Bool) → nat_lt place count ≡ b → get_or (codes ++ own ∷ []) place no_codes ≡ codes_at instrs place
      by place lt true t =
          let below = ltb-true place count t in
          let long = h.0 in
          get_or_append_left codes (own ∷ []) no_codes place (omega arith) ∙ h.1 place below
      by place lt false t =
          let late : count ≤ place = ltb-false place count t in
          let same : count ≡ place = omega arith in
          get_or_push codes own no_codes place (h.0 ∙ same) ∙ subst (λ k. own ≡ codes_at instrs k) same e

  pub made_whole : (codes : List InstrCodes) (count : ℕ) → Made codes count → count ≡ length instrs → codes ≡ instruction_codes instrs
  made_whole codes count h whole =
      ext_get_or no_codes codes (instruction_codes instrs) (h.0 ∙ whole ∙ sym (length-map-range_with_len (codes_at instrs) 0 (length instrs)))
      (λ place lt.
      let long = h.0 in
      let same : 0 + place ≡ place = omega arith in
      h.1 place (omega arith) ∙ sym (get_or-map-range_with_len (codes_at instrs) 0 (length instrs) place place no_codes (omega arith) same))
