-- How to prove, word by word, that a block follows a tree.
use Rattle.std.proofs.Common.{◌≡◌, ℕ, zero, suc, ◌+◌, ◌-◌, ◌%◌, ◌^◌, ◌<◌, ◌≤◌, refl, sym, ◌∙◌, subst, arith, List, [], ◌∷◌, length, Option, Some, None, Bool, true, false}
use Rattle.std.specs.Prelude.{ℤ, ◌*◌, nat_lt}
use Rattle.std.proofs.lemmas.Bool.{and_parts}
use Rattle.std.proofs.lemmas.Bool.Decides.{nat_tests}
use Rattle.std.specs.List.{list_all}
use Rattle.vt_words.specs.Quad.{sign_extended}
use Rattle.vax_form.specs.Pages.{first_bad}
use Rattle.vax_form.specs.State.{with_register}
use Rattle.vax_form.specs.Tree.{Tree, Check, Fault, Ends, Finish, Trap, Same}
use Rattle.vax_form.specs.declared.state.Exception.{Exception}
use Rattle.vax_form.specs.declared.state.VaxState.{VaxState}
use Rattle.alpha_encode.specs.declared.instr.BranchOp.{BranchOp}
use Rattle.alpha_encode.specs.declared.instr.AlphaInstr.{AlphaInstr}
use Rattle.alpha_encode.specs.declared.instr.AlphaInstr.TheVariants.{Branch, Pal}
use Rattle.alpha_meaning.specs.State.{Alpha, Regs, put, at_place}
use Rattle.alpha_meaning.specs.Act.{Does, Goes, Calls, act, taken, links, target_of}
use Rattle.alpha_meaning.specs.Loops.{is_operate, effect, effects}
use Rattle.alpha_meaning.specs.Pieces.{Kinds, Plan, Phase, Plain, Acts, Steps, Runs, HasAt, piece}
use Rattle.alpha_meaning.proofs.Rules.{act_operate, not_linked}
use Rattle.exception_records.specs.Points.{raised_at}
use Rattle.exception_records.specs.declared.points.Point.{Point}
use Rattle.block_law.specs.References.{wants}
use Rattle.block_law.specs.Placements.{Placement, allowed_in, InForm, state_shown, state_behind, state_ready, target}
use Rattle.block_law.specs.Rounds.{block_steps, Round, new_round, stepped, round_behind, MayGo, round_after}
use Rattle.block_law.specs.Follows.{call_of, probe_count, probe_address, Called, Lands, Onward, Follows}
use Rattle.block_law.proofs.Rounds.{made_in, Fits, fits_spare, fits_less, fits_step, forth_stepped}
use Rattle.block_law.proofs.Blocks.{no_steps, begin, into, Begins, piece_terms}

-- for any number of steps, where at least `need` steps are spare; with references that were made, also of the round of a
-- loop, in which just these were made
abbrev pub Always : Placement → (made : Option Round) → (need : ℕ) → Alpha → Tree → Type 0
Always p made need c t = (n spare : ℕ) (round : Round) → Fits p.bonus made need spare round → Follows p n Plain spare round c t

-- a word of the block
pub record IsAt (p : Placement) (pc : ℕ) (i : AlphaInstr) : Type 0 where
  pub is : p.fetch pc ≡ Some i
  pub low : p.first ≤ pc
  pub high : pc < p.end

module _ (p : Placement) (made : Option Round) where
  -- what is owed behind a local step, and behind a call
  abbrev Moved : (n spare : ℕ) (round : Round) (c : Alpha) (t : Tree) → Alpha → Type 0
  Moved n spare round c t d = Lands (p.stops d.pc) (p.points d.pc) Plain t p d.regs (MayGo p.bonus p.first Plain round c.pc d.pc × Follows p n Plain (spare - 1) (round_after Plain round c.pc d.pc) d t)

  abbrev Answered : (n spare : ℕ) (round : Round) (c : Alpha) (t : Tree) → ℕ → Type 0
  Answered n spare round c t number = Called (call_of number) (p.points c.pc) Plain t p c (λ d u. Onward p (Follows p n) Plain (spare - 1) new_round d u)

  -- and behind an access
  abbrev Accessed : (n : ℕ) (round : Round) (t : Tree) → Phase → ℕ → Alpha → Tree → Type 0
  Accessed n round t phase spare d u = Onward p (Follows p n) phase spare (round_behind phase t round) d u

  pub roomy : (need need' : ℕ) (c : Alpha) (t : Tree) → need ≤ need' → Always p made need c t → Always p made need' c t
  roomy need need' c t le h n spare round fits = h n spare round (fits_less p.bonus made need' need spare round le fits)

  -- one step, from what its instruction does
  pub stepping : (n spare : ℕ) (round : Round) (c : Alpha) (t : Tree) (i : AlphaInstr) (does : Does) → IsAt p c.pc i → act i c ≡ does → 0 < spare
      → Acts does i (allowed_in p.pages) p.bonus Plain (spare - 1) c (wants p.kinds t) t (Moved n spare round c t) (Answered n spare round c t) (Accessed n round t)
      → Follows p (suc n) Plain spare round c t
  stepping n spare round c t i does at acts some h =
      begin p n Plain spare round c t (
        at.low,
        at.high,
        some,
        subst (λ o. Steps o (allowed_in p.pages) p.bonus Plain (spare - 1) c (wants p.kinds t) t (Moved n spare round c t) (Answered n spare round c t) (Accessed n round t)) (sym at.is)
            (subst (λ does. Acts does i (allowed_in p.pages) p.bonus Plain (spare - 1) c (wants p.kinds t) t (Moved n spare round c t) (Answered n spare round c t) (Accessed n round t)) (sym acts) h),
      )

  spare_some : (need spare : ℕ) (round : Round) → Fits p.bonus made (need + 1) spare round → 0 < spare
  spare_some need spare round fits = let roomy = fits_spare p.bonus made (need + 1) spare round fits in omega arith

  one_less : (need spare : ℕ) (round : Round) → Fits p.bonus made (need + 1) spare round → Fits p.bonus made need (spare - 1) (stepped round)
  one_less need spare round fits = fits_less p.bonus made (need + 1 - 1) need (spare - 1) (stepped round) (omega arith) (fits_step p.bonus made (need + 1) spare round (omega arith) fits)

  -- ---- local steps
  pub goes : (need : ℕ) (c d : Alpha) (i : AlphaInstr) (t : Tree) → IsAt p c.pc i → act i c ≡ Goes d → c.pc < d.pc → p.stops d.pc ≡ None
      → Always p made need d t → Always p made (need + 1) c t
  goes need c d i t at acts way inside rest zero spare round fits = no_steps p Plain spare round c t
  goes need c d i t at acts way inside rest (suc n) spare round fits =
      let low = at.low in
      stepping n spare round c t i (Goes d) at acts (spare_some need spare round fits)
      (subst (λ o. Lands o (p.points d.pc) Plain t p d.regs (MayGo p.bonus p.first Plain round c.pc d.pc × Follows p n Plain (spare - 1) (round_after Plain round c.pc d.pc) d t)) (sym inside) (
        (omega arith, λ back. absurd (omega arith)),
        rest n (spare - 1) (round_after Plain round c.pc d.pc)
            (subst (Fits p.bonus made need (spare - 1)) (sym (forth_stepped Plain p.first c.pc d.pc round way)) (one_less need spare round fits)),
      ))

  -- a branch that is not taken
  pub passes : (need : ℕ) (c : Alpha) (op : BranchOp) (ra : ℕ) (disp : ℤ) (t : Tree) → IsAt p c.pc (Branch op ra disp) → taken op (c.regs ra) ≡ false → p.stops (c.pc + 1) ≡ None
      → Always p made need (at_place c.regs (c.pc + 1)) t → Always p made (need + 1) c t
  passes need c op ra disp t at not_taken inside rest =
      goes need c (at_place c.regs (c.pc + 1)) (Branch op ra disp) t at (rw (not_linked op (c.regs ra) not_taken, not_taken) refl) (omega arith) inside rest

  -- a conditional branch forward that is taken: the words between are skipped
  pub skips : (need : ℕ) (c : Alpha) (op : BranchOp) (ra : ℕ) (disp : ℤ) (to : ℕ) (t : Tree) → IsAt p c.pc (Branch op ra disp) → links op ≡ false → taken op (c.regs ra) ≡ true → target_of c.pc disp ≡ to
      → c.pc < to → p.stops to ≡ None → Always p made need (at_place c.regs to) t → Always p made (need + 1) c t
  skips need c op ra disp to t at no_link is_taken is_target way inside rest =
      goes need c (at_place c.regs to) (Branch op ra disp) t at (rw (no_link, is_taken, is_target) refl) way inside rest

  -- operate instructions in a row
  pub operates : (need : ℕ) (is : List AlphaInstr) (f : Regs) (pc : ℕ) (t : Tree) → HasAt p.fetch pc is → list_all is_operate is ≡ true → p.first ≤ pc → pc + length is ≤ p.end
      → ((q : ℕ) → pc < q → q ≤ pc + length is → p.stops q ≡ None)
      → Always p made need (at_place (effects is f) (pc + length is)) t → Always p made (length is + need) (at_place f pc) t
  operates need [] f pc t has ok low high inside rest =
      let here : pc + 0 ≡ pc = omega arith in
      let same : need ≡ 0 + need = omega arith in
      subst (λ m. Always p made m (at_place f pc) t) same (subst (λ x. Always p made need (at_place f x) t) here rest)
  operates need (i ∷ is) f pc t has ok low high inside rest =
      let parts = and_parts (is_operate i) (list_all is_operate is) ok in
      let place : pc + suc (length is) ≡ pc + 1 + length is = omega arith in
      let count : length is + need + 1 ≡ suc (length is) + need = omega arith in
      subst (λ m. Always p made m (at_place f pc) t) count
      (goes (length is + need) (at_place f pc) (at_place (effect i f) (pc + 1)) i t (record { is = has.0; low = low; high = omega arith }) (act_operate i f pc parts.0) (omega arith) (inside (pc + 1) (omega arith) (omega arith))
      (operates need is (effect i f) (pc + 1) t has.1 parts.1 (omega arith) (omega arith) (λ q lt le. inside q (omega arith) (omega arith))
      (subst (λ x. Always p made need (at_place (effects is (effect i f)) x) t) place rest)))

  -- ---- ends
  -- a local step to the first word of a block
  pub lands : (c d : Alpha) (i : AlphaInstr) (s : VaxState) (address : ℕ) (point : Point) → IsAt p c.pc i → act i c ≡ Goes d → p.stops d.pc ≡ Some address → p.points d.pc ≡ Some point
      → InForm d.regs → s ≡ state_behind p d.regs address point.rules → Always p made 1 c (Ends (Finish s))
  lands c d i s address point at acts stops has form is zero spare round fits = no_steps p Plain spare round c (Ends (Finish s))
  lands c d i s address point at acts stops has form is (suc n) spare round fits =
      stepping n spare round c (Ends (Finish s)) i (Goes d) at acts (spare_some 0 spare round fits)
      (subst (λ o. Lands o (p.points d.pc) Plain (Ends (Finish s)) p d.regs (MayGo p.bonus p.first Plain round c.pc d.pc × Follows p n Plain (spare - 1) (round_after Plain round c.pc d.pc) d (Ends (Finish s)))) (sym stops)
      (subst (λ x. Lands (Some address) x Plain (Ends (Finish s)) p d.regs (MayGo p.bonus p.first Plain round c.pc d.pc × Follows p n Plain (spare - 1) (round_after Plain round c.pc d.pc) d (Ends (Finish s)))) (sym has) (form, is)))

  -- a call, from what it answers for its point
  calls : (number : ℕ) (n spare : ℕ) (round : Round) (c : Alpha) (t : Tree) (point : Option Point) → IsAt p c.pc (Pal number) → p.points c.pc ≡ point → 0 < spare
      → Called (call_of number) point Plain t p c (λ d u. Onward p (Follows p n) Plain (spare - 1) new_round d u) → Follows p (suc n) Plain spare round c t
  calls number n spare round c t point at has some h =
      stepping n spare round c t (Pal number) (Calls number) at refl some
      (subst (λ x. Called (call_of number) x Plain t p c (λ d u. Onward p (Follows p n) Plain (spare - 1) new_round d u)) (sym has) h)

  -- behind a call a round begins, of which may be told what was made
  abbrev pub Anew : (then_made : Option Round) → (need : ℕ) → Type 0
  Anew then_made need = (spare : ℕ) (round : Round) → Fits p.bonus made need spare round → Fits p.bonus then_made need spare new_round

  -- a probe is the next check
  pub probes : (then_made : Option Round) (need address count : ℕ) (write : Bool) (c : Alpha) (t : Tree) (point : Point) → IsAt p c.pc (Pal 0x80) → p.points c.pc ≡ Some point → p.stops (c.pc + 1) ≡ None
      → address ≡ probe_address c.regs → count ≡ probe_count point c.regs → write ≡ point.write → Anew then_made need
      → (first_bad p.pages write address count ≡ None → Always p then_made need (at_place c.regs (c.pc + 1)) t) → Always p made (need + 1) c (Check address count write t)
  probes then_made need address count write c t point at has inside is_address is_count is_write anew rest zero spare round fits = no_steps p Plain spare round c (Check address count write t)
  probes then_made need address count write c t point at has inside is_address is_count is_write anew rest (suc n) spare round fits =
      calls 0x80 n spare round c (Check address count write t) (Some point) at has (spare_some need spare round fits)
      (is_address, is_count, is_write, λ ok. (inside, rest ok n (spare - 1) new_round (anew (spare - 1) (stepped round) (one_less need spare round fits))))

  pub raises : (exception : Exception) (c : Alpha) (point : Point) → IsAt p c.pc (Pal 0x83) → p.points c.pc ≡ Some point → raised_at point.raises ≡ Some exception → Always p made 1 c (Fault exception)
  raises exception c point at has is zero spare round fits = no_steps p Plain spare round c (Fault exception)
  raises exception c point at has is (suc n) spare round fits = calls 0x83 n spare round c (Fault exception) (Some point) at has (spare_some 0 spare round fits) is

  pub traps : (kind : ℕ) (s : VaxState) (c : Alpha) (point : Point) → IsAt p c.pc (Pal 0x84) → p.points c.pc ≡ Some point → kind ≡ c.regs 21 % 2 ^ 8 → s ≡ state_behind p c.regs (target c.regs) point.rules → Always p made 1 c (Ends (Trap kind s))
  traps kind s c point at has is_kind is zero spare round fits = no_steps p Plain spare round c (Ends (Trap kind s))
  traps kind s c point at has is_kind is (suc n) spare round fits = calls 0x84 n spare round c (Ends (Trap kind s)) (Some point) at has (spare_some 0 spare round fits) (is_kind, is)

  pub looks_up : (s : VaxState) (c : Alpha) → IsAt p c.pc (Pal 0x81) → InForm c.regs → s ≡ state_ready p c.regs (target c.regs) → Always p made 1 c (Ends (Finish s))
  looks_up s c at form is zero spare round fits = no_steps p Plain spare round c (Ends (Finish s))
  looks_up s c at form is (suc n) spare round fits = calls 0x81 n spare round c (Ends (Finish s)) (p.points c.pc) at refl (spare_some 0 spare round fits) (form, is)

  pub switches : (s : VaxState) (c : Alpha) → IsAt p c.pc (Pal 0x86) → InForm c.regs → s ≡ state_ready p c.regs (target c.regs) → p.maps (target c.regs) ≡ None → Always p made 1 c (Ends (Finish s))
  switches s c at form is unmapped zero spare round fits = no_steps p Plain spare round c (Ends (Finish s))
  switches s c at form is unmapped (suc n) spare round fits = calls 0x86 n spare round c (Ends (Finish s)) (p.points c.pc) at refl (spare_some 0 spare round fits) (form, is, unmapped)

  pub serves : (then_made : Option Round) (need : ℕ) (c : Alpha) (t : Tree) (point : Point) → IsAt p c.pc (Pal 0x82) → p.points c.pc ≡ Some point → p.stops (c.pc + 1) ≡ None → InForm c.regs
      → Same t (p.serve (c.regs 21 % 2 ^ 16) (state_shown p c.regs (target c.regs) point.rules p.held))
      → Anew then_made need
      → ((value : ℕ) → value < 2 ^ 32 → Always p then_made need (at_place (put c.regs 0 (sign_extended value 32)) (c.pc + 1)) (Ends (Finish (with_register 0 value (state_shown p c.regs (target c.regs) point.rules p.held)))))
      → Always p made (need + 1) c t
  serves then_made need c t point at has inside form same anew rest zero spare round fits = no_steps p Plain spare round c t
  serves then_made need c t point at has inside form same anew rest (suc n) spare round fits =
      calls 0x82 n spare round c t (Some point) at has (spare_some need spare round fits) (form, same, λ value lt. (inside, rest value lt n (spare - 1) new_round (anew (spare - 1) (stepped round) (one_less need spare round fits))))

  -- ---- a piece with its plan, and the rest
  pub runs : {A : Type 0} (need pc size : ℕ) (Final : A → Regs → Type 0) (kinds : Kinds) (k : A → Tree) (then_made : Option Round) (regs : Regs) (t : Plan A) (u : Tree) → p.first ≤ pc → pc + size ≤ p.end → ((q : ℕ) → pc < q → q ≤ pc + size → p.stops q ≡ None)
      → Begins kinds p.kinds k then_made t u made → ((n : ℕ) → Runs (piece p.fetch (piece_terms p kinds) pc (pc + size)) Final n Plain size (at_place regs pc) t)
      → ((a : A) (g : Regs) → Final a g → Always p then_made need (at_place g (pc + size)) (k a)) → Always p made (size + need) (at_place regs pc) u
  runs need pc size Final kinds k then_made regs t u low high inside begins piece_runs rest n spare round fits =
      into p pc (pc + size) need Final kinds k then_made low high inside n (λ m spare' round' a g le fits' e. rest a g e m spare' round' fits') Plain size spare round (at_place regs pc) t u made fits begins (piece_runs n)

-- ---- loops
-- a step back ends a round in which one read and one write were made, where both allow as many steps more as a round has
pub comes_back : (p : Placement) (made : Round) (need : ℕ) (c d : Alpha) (i : AlphaInstr) (t : Tree) → IsAt p c.pc i → act i c ≡ Goes d → p.first < d.pc → d.pc ≤ c.pc → p.stops d.pc ≡ None
    → 0 < p.bonus → block_steps ≤ p.bonus * 2 → made.reads ≡ 1 → made.writes ≡ 1 → made.others ≡ 0 → need ≤ block_steps
    → Always p (Some new_round) need d t → Always p (Some made) 1 c t
comes_back p made need c d i t at acts low back inside some enough reads writes others few rest zero spare round fits = no_steps p Plain spare round c t
comes_back p made need c d i t at acts low back inside some enough reads writes others few rest (suc n) spare round fits =
    let left = fits.within in
    let room = fits.earned in
    let all_made : made_in round ≡ 2 = rw (fits.refs.reads, fits.refs.writes, fits.refs.others, reads, writes, others) refl in
    let gained : 1 + p.bonus * 2 ≤ spare = rw all_made at room in
    stepping p (Some made) n spare round c t i (Goes d) at acts (omega arith)
    (subst (λ o. Lands o (p.points d.pc) Plain t p d.regs (MayGo p.bonus p.first Plain round c.pc d.pc × Follows p n Plain (spare - 1) (round_after Plain round c.pc d.pc) d t)) (sym inside) (
      (low, λ _. (some, record { reads = fits.refs.reads ∙ reads; writes = fits.refs.writes ∙ writes; others = fits.refs.others ∙ others; steps = omega arith })),
      subst (λ next. Follows p n Plain (spare - 1) next d t) (sym (begins_round c.pc d.pc back))
          (rest n (spare - 1) new_round (record { refs = record { reads = refl; writes = refl; others = refl }; within = omega arith; earned = omega arith })),
    ))
  where
    begins_round : (pc pc' : ℕ) → pc' ≤ pc → round_after Plain round pc pc' ≡ new_round
    begins_round pc pc' le = rw (not_less pc pc' le) refl
      where
        not_less : (a b : ℕ) → b ≤ a → nat_lt a b ≡ false
        not_less a b le = grind (arith, nat_tests)
