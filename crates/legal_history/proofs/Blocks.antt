-- What a block's judgement owes at each step of a processor.
use Rattle.std.proofs.Common.{◌≡◌, ℕ, ◌<◌, ◌≤◌, ◌+◌, ◌-◌, ◌*◌, ◌/◌, ◌%◌, ◌^◌, ◌==◌, ◌⊎◌, inl, inr, Bool, true, false, if◌then◌else◌, [], Option, Some, None, refl, sym, ap, ◌∙◌, subst, arith, lit<}
use Rattle.std.specs.Prelude.{nat_lt}
use Rattle.std.proofs.lemmas.Bool.{and_from, eqb-true}
use Rattle.std.proofs.lemmas.Bool.Decides.{nat_tests}
use Rattle.std.proofs.Math.Path.{fun_ext}
use Rattle.vt_words.specs.Quad.{sign_extended}
use Rattle.address_map.specs.Pairs.{AllRise, word_at, address_at}
use Rattle.alpha_encode.specs.declared.instr.AlphaInstr.{AlphaInstr}
use Rattle.alpha_meaning.specs.declared.access.AlphaAccess.{AlphaAccess}
use Rattle.alpha_meaning.specs.declared.access.AlphaKind.{AlphaKind}
use Rattle.alpha_meaning.specs.declared.access.AlphaKind.TheVariants as alpha
use Rattle.alpha_meaning.specs.Act.{Does, Goes, Asks, Calls, act, finished}
use Rattle.alpha_meaning.specs.Memory.{stores}
use Rattle.alpha_meaning.proofs.Rows.{asks_within}
use Rattle.alpha_meaning.specs.Pieces.{quad_of, loaded, changed, retry_steps, Phase, Plain, Held, Failed, Made, Suits, Accesses, Acts, Steps, phase_after}
use Rattle.alpha_meaning.specs.State.{Alpha, Regs, put, at_place}
use Rattle.exception_records.specs.Codes.{all_ready}
use Rattle.exception_records.specs.Points.{point_at, raised_at}
use Rattle.exception_records.specs.Shown.{Shows}
use Rattle.exception_records.specs.declared.points.Point.{Point}
use Rattle.memory_core.specs.declared.entry.Change.TheVariants as changes
use Rattle.memory_core.specs.declared.entry.Entry.{Entry}
use Rattle.memory_core.specs.declared.entry.Kind.TheVariants as kinds
use Rattle.memory_core.specs.declared.entry.Request.{Request}
use Rattle.memory_core.specs.Changes.{leaves}
use Rattle.memory_core.specs.Kinds.{is_memory}
use Rattle.memory_core.proofs.Choices.{if_true}
use Rattle.vax_form.specs.Pages.{is_allowed, first_bad}
use Rattle.vax_form.specs.State.{register, with_register, with_pending}
use Rattle.vax_form.specs.declared.state.Pending.TheVariants.{Resume}
use Rattle.vax_form.specs.Tree.{Tree, Check, Ask, Fault, Ends, Ending, Finish, Exit, Trap, Same, unless_bad, answer}
use Rattle.vax_form.specs.Tree as trees
use Rattle.vax_form.specs.declared.state.Exception.{Exception}
use Rattle.vax_form.specs.declared.state.Exception.TheVariants.{AccessViolation}
use Rattle.vax_form.specs.declared.state.Flags.{Flags}
use Rattle.vax_form.specs.declared.state.Reference.{Reference}
use Rattle.vax_form.specs.declared.state.RefKind.{RefKind}
use Rattle.vax_form.specs.declared.state.RefKind.TheVariants.{Read, Write, Add, SetBit, ClearBit, Put, Get}
use Rattle.vax_form.specs.declared.state.VaxState.{VaxState}
use Rattle.vax_form.specs.References.{FitsQuadword}
use Rattle.block_law.specs.Follows.{Call, Probe, LookUp, Serve, Raise, Arithmetic, Switch, call_of, probe_count, probe_address, Called, Landed}
use Rattle.block_law.specs.Follows as block
use Rattle.block_law.specs.Laws.{Ever}
use Rattle.block_law.specs.Placements.{Placement, allowed_in, InForm, state_shown, target}
use Rattle.block_law.specs.Rounds.{block_steps, Round, new_round, stepped, round_behind, MayGo, round_after}
use Rattle.block_law.specs.References.{wants, wanted_by, is_of_memory, reply_by}
use Rattle.block_law.specs.Translations.{Permit, fetch_of, placed}
use Rattle.block_law.proofs.Blocks.{open_follows}
use Rattle.system_model.specs.Settings.{Setting}
use Rattle.system_model.specs.Steps.{kind_of, Comes, Place, Lands, Leaves, Moves, Wants, Moment, state_at, rules_of, held_behind, place_by, place_of, request_for, is_defined, accesses, behind, with_r0, probed, raised, called, does, exchanged, next_by, next}
use Rattle.system_model.specs.Processors.{entry_by}
use Rattle.legal_history.specs.Entries.{Lock}
use Rattle.legal_history.specs.Kinds.{IsAlpha}
use Rattle.legal_history.proofs.Judged.{MadeBy, head_of}
use Rattle.system_model.specs.Quadwords.{quad_address, reply_from, IsOf, IsOfKind, IsAccess}
use Rattle.block_law.specs.Sound.{IsSound, AllowsFew}
use Rattle.legal_history.proofs.Fields.{field_stored, left_changed}
use Rattle.legal_history.proofs.Sames.{same_ends, same_ask}
use Rattle.legal_history.proofs.Maps.{there_and_back}
use Rattle.legal_history.proofs.Owed.{OwedPlace, OwedBehind, OwedAccess, OwedNext}
use Rattle.legal_history.proofs.Paths.{Path, Here, Passes}
use Rattle.legal_history.proofs.Processors.{moment_at}

longword_of : (n : ℕ) → (n < 256) ⊎ (n ≡ 0xFFFFFFFF) → n < 2 ^ 32
longword_of n (inl h) = omega (arith, h)
longword_of n (inr h) = omega (arith, h)

zero_test : (n : ℕ) → n ≡ 0 → (n == 0) ≡ true
zero_test n h = grind (arith, nat_tests)

-- the lock that a phase is
abbrev pub phase_lock : Phase → Option Lock
phase_lock Plain = None
phase_lock (Held quad found place) = Some (record { quad = quad; found = found })
phase_lock (Failed place) = None

after_lock : (phase : Phase) (pc pc' : ℕ) → phase_lock (phase_after phase pc pc') ≡ phase_lock phase
after_lock Plain pc pc' = refl
after_lock (Held quad found place) pc pc' = refl
after_lock (Failed place) pc pc' = by (nat_lt pc pc')
  where
    by : (b : Bool) → phase_lock (if b then Failed place else Plain) ≡ None
    by true = refl
    by false = refl

-- registers that show a state at its word
pub record IsForm (setting : Setting) (state : VaxState) (held : Flags) (regs : Regs) : Type 0 where
  pub form : InForm regs
  pub shows : (word : ℕ) (point : Point) → word_at setting.code.map state.pc ≡ Some word → point_at setting.code.points word ≡ Some point → Shows regs state.pc point.rules held state

module _ (setting : Setting) (permit : Permit) (thread : ℕ) (sound : IsSound setting.meaning) (allows : AllowsFew permit) (rises : AllRise setting.code.map) where
  -- the block's judgement, for every number of steps
  pub record Owes (b : VaxState) (held : Flags) (lock : Option Lock) (spare : ℕ) (c : Alpha) (t : Tree) : Type 0 where
    pub first : ℕ
    pub phase : Phase
    pub is_lock : phase_lock phase ≡ lock
    pub round : Round
    pub ever : Ever (placed setting.meaning permit setting.code thread b held first) phase spare round c t

  module _ (b : VaxState) (held : Flags) (retired : ℕ) (first : ℕ) where
    abbrev p : Placement
    p = placed setting.meaning permit setting.code thread b held first

    abbrev m : Moment
    m = moment_at thread retired b held

    abbrev Owed_at : Option Lock → (spare : ℕ) → Tree → Place → Type 0
    Owed_at = OwedPlace setting.meaning.pages (Owes b held) (IsForm setting) (λ l. l)

    -- a place that is not mapped is inside
    inside : (d : Alpha) (phase : Phase) (lock : Option Lock) (spare : ℕ) (round : Round) (t : Tree) → phase_lock phase ≡ lock → block.Onward p (Ever p) phase spare round d t → Owed_at lock spare t (place_of setting m d)
    inside d phase lock spare round t l on = subst (λ o. Owed_at lock spare t (place_by setting m o d)) (sym on.0) (record { first = first; phase = phase; is_lock = l; round = round; ever = on.1 })

    landed : (address : ℕ) (d : Alpha) → address_at setting.code.map d.pc ≡ Some address → (point : Option Point) → point_at setting.code.points d.pc ≡ point → (phase : Phase) (t : Tree) (spare : ℕ) → Landed phase t p address point d.regs
        → Owed_at (phase_lock phase) spare t (Lands (state_at b d.regs address (rules_of point) (held_behind setting m)) (held_behind setting m) d.regs)
    landed address d at (Some point) has Plain (Ends (Finish s)) spare l = (
      refl,
      ap (λ x. Ends (Finish x)) l.1,
      record {
        form = l.0;
        shows = λ word q w h.
            let some_word : Some word ≡ Some d.pc = sym w ∙ there_and_back setting.code.map d.pc address rises at in
            let same_word : word ≡ d.pc = cc some_word in
            let some_point : Some q ≡ Some point = sym h ∙ ap (λ n. point_at setting.code.points n) same_word ∙ has in
            let same_point : point ≡ q = cc some_point in
            subst (λ (x : Point). Shows d.regs address x.rules (held_behind setting m) (state_at b d.regs address point.rules (held_behind setting m))) same_point refl;
      },
    )
    landed address d at None has Plain (Ends (Finish s)) spare l = absurd l
    landed address d at point has phase t spare l = absurd l

    goes_to : (pc : ℕ) (d : Alpha) (phase : Phase) (t : Tree) (spare : ℕ) (round : Round) (o : Option ℕ) → address_at setting.code.map d.pc ≡ o
        → block.Lands o (point_at setting.code.points d.pc) phase t p d.regs (MayGo p.bonus p.first phase round pc d.pc × Ever p (phase_after phase pc d.pc) spare (round_after phase round pc d.pc) d t)
        → Owed_at (phase_lock phase) spare t (place_by setting m o d)
    goes_to pc d phase t spare round None at l = record { first = first; phase = phase_after phase pc d.pc; is_lock = after_lock phase pc d.pc; round = round_after phase round pc d.pc; ever = l.1 }
    goes_to pc d phase t spare round (Some address) at l = landed address d at (point_at setting.code.points d.pc) refl phase t spare l

    -- ---- accesses
    access_kind : (what : RefKind) (r : Reference) (e : Entry) → is_of_memory what ≡ true → IsAccess r e → IsOfKind what r e
    access_kind Read r e k i = i
    access_kind (Write value) r e k i = i
    access_kind (Add value) r e k i = i
    access_kind (SetBit n) r e k i = i
    access_kind (ClearBit n) r e k i = i
    access_kind (Put byte) r e k i = absurd (cc k)
    access_kind Get r e k i = absurd (cc k)

    -- the access that a tree wants is made
    made_by : (t : Tree) (request : Request) (before : ℕ) (success : Bool) (quad spare : ℕ) (next : Round) (left : ℕ → ℕ) (Fits : ℕ → Type 0) (on : ℕ → Alpha) → is_memory request.kind ≡ true → request.quad ≡ quad → before < 2 ^ 64 → Fits before
        → leaves request.kind success request.change before ≡ left before
        → Made (wants p.kinds t) quad left Fits (λ before u. block.Onward p (Ever p) Plain spare next (on before) u)
        → MadeBy t (entry_by request before success) (λ u. Owed_at None spare u (place_of setting m (on before)))
    made_by (Check _ _ _ _) request before success quad spare next left Fits on memory at small fit after h = absurd h
    made_by (Fault _) request before success quad spare next left Fits on memory at small fit after h = absurd h
    made_by (Ends _) request before success quad spare next left Fits on memory at small fit after h = absurd h
    made_by (Ask r next_tree) request before success quad spare next left Fits on memory at small fit after h = by (is_of_memory r.kind) refl h
      where
        e : Entry
        e = entry_by request before success

        by : (k : Bool) → is_of_memory r.kind ≡ k → Made (wanted_by k p.kinds r next_tree) quad left Fits (λ before u. block.Onward p (Ever p) Plain spare next (on before) u)
            → FitsQuadword r → IsOf r e × Owed_at None spare (next_tree (reply_from r e)) (place_of setting m (on before))
        by false k h fits = absurd h
        by true k h fits =
            let made = h.1 before small fit in
            let same : quad_address r ≡ r.address / 8 * 8 = omega arith in (
              access_kind r.kind r e k (record {
                memory = memory;
                fits = fits;
                quad = if_true (is_memory request.kind) request.quad 0 memory ∙ at ∙ sym h.0 ∙ sym same;
                after = after ∙ made.0 ∙ left_changed r.kind before (r.address % 8) r.count small fits.within fits.bit k;
              }),
              inside (on before) Plain None spare next (next_tree (reply_by r.kind (r.address % 8) r.count before)) refl made.1,
            )

    abbrev an_access : AlphaKind → (address bytes value : ℕ) → AlphaAccess
    an_access kind address bytes value = record { kind = kind; address = address; bytes = bytes; value = value }

    -- where an access leads
    abbrev leads : AlphaInstr → AlphaAccess → Alpha → ℕ → Bool → Alpha
    leads i a c before success = finished i (loaded a before) success c

    few : p.bonus ≤ block_steps
    few = allows b.pc

    loads : (address bytes value : ℕ) (i : AlphaInstr) (c : Alpha) (spare : ℕ) (next : Round) (t : Tree) (before : ℕ) (success : Bool) → before < 2 ^ 64 → success ≡ true
        → let a = an_access alpha.Load address bytes value in
        Made (wants p.kinds t) (quad_of a) (λ before. before) (λ _. Unit {0}) (λ before u. block.Onward p (Ever p) Plain (spare + p.bonus) next (leads i a c before true) u)
        → OwedBehind setting.meaning.pages (Owes b held) (IsForm setting) (λ l. l) spare t (entry_by (request_for m a) before success) (place_of setting m (leads i a c before success))
    loads address bytes value i c spare next t before success small is_true h =
        let a = an_access alpha.Load address bytes value in
        let q = request_for m a in (
          p.bonus,
          few,
          subst (λ s. MadeBy t (entry_by q before s) (λ u. Owed_at None (spare + p.bonus) u (place_of setting m (leads i a c before s)))) (sym is_true)
              (made_by t q before true (quad_of a) (spare + p.bonus) next (λ before. before) (λ _. Unit {0}) (λ before. leads i a c before true) refl refl small tt refl h),
        )

    stores_all : (address bytes value : ℕ) (i : AlphaInstr) (c : Alpha) (spare : ℕ) (next : Round) (t : Tree) (before : ℕ) (success : Bool) → address % 8 + bytes ≤ 8 → before < 2 ^ 64 → success ≡ true
        → let a = an_access alpha.Store address bytes value in
        Made (wants p.kinds t) (quad_of a) (changed a) (λ _. Unit {0}) (λ before u. block.Onward p (Ever p) Plain (spare + p.bonus) next (leads i a c before true) u)
        → OwedBehind setting.meaning.pages (Owes b held) (IsForm setting) (λ l. l) spare t (entry_by (request_for m a) before success) (place_of setting m (leads i a c before success))
    stores_all address bytes value i c spare next t before success within small is_true h =
        let a = an_access alpha.Store address bytes value in
        let q = request_for m a in (
          p.bonus,
          few,
          subst (λ s. MadeBy t (entry_by q before s) (λ u. Owed_at None (spare + p.bonus) u (place_of setting m (leads i a c before s)))) (sym is_true)
              (made_by t q before true (quad_of a) (spare + p.bonus) next (changed a) (λ _. Unit {0}) (λ before. leads i a c before true) refl refl small tt (field_stored before (address % 8) bytes value small within) h),
        )

    conditionals : (address bytes value quad found place : ℕ) (i : AlphaInstr) (c : Alpha) (spare : ℕ) (next again : Round) (t : Tree) (before : ℕ) (success : Bool) → address % 8 + bytes ≤ 8 → before < 2 ^ 64
        → (success ≡ true → before ≡ found)
        → let a = an_access alpha.StoreConditional address bytes value in
        Made (wants p.kinds t) (quad_of a) (changed a) (λ before. before ≡ found) (λ before u. block.Onward p (Ever p) Plain (spare + p.bonus) next (leads i a c before true) u)
        → ((before : ℕ) → before < 2 ^ 64 → block.Onward p (Ever p) (Failed place) (spare + retry_steps) again (leads i a c before false) t)
        → OwedBehind setting.meaning.pages (Owes b held) (IsForm setting) (λ l. l) spare t (entry_by (request_for m a) before success) (place_of setting m (leads i a c before success))
    conditionals address bytes value quad found place i c spare next again t before true within small same h lost =
        let a = an_access alpha.StoreConditional address bytes value in
        let q = request_for m a in
        (p.bonus, few, made_by t q before true (quad_of a) (spare + p.bonus) next (changed a) (λ before. before ≡ found) (λ before. leads i a c before true) refl refl small (same refl) (field_stored before (address % 8) bytes value small within) h)
    conditionals address bytes value quad found place i c spare next again t before false within small same h lost =
        let a = an_access alpha.StoreConditional address bytes value in
        inside (leads i a c before false) (Failed place) None (spare + retry_steps) again t refl (lost before small)

    -- an access that suits what the tree wants
    suited : (kind : AlphaKind) (bytes : ℕ) (t : Tree) → Suits (wants p.kinds t) kind bytes → IsAlpha (kind_of kind) p.kinds (head_of t)
    suited kind bytes (Ask r on) h = by (is_of_memory r.kind) h
      where
        may_make : (kind : AlphaKind) (r : Reference) (bytes : ℕ) → p.kinds r kind bytes ≡ true → IsAlpha (kind_of kind) p.kinds (Some r)
        may_make alpha.Load r bytes may = (bytes, may)
        may_make alpha.LoadLocked r bytes may = (bytes, may)
        may_make alpha.Store r bytes may = (bytes, may)
        may_make alpha.StoreConditional r bytes may = (bytes, may)

        by : (m : Bool) → Suits (wanted_by m p.kinds r on) kind bytes → IsAlpha (kind_of kind) p.kinds (Some r)
        by true h = may_make kind r bytes h
        by false h = absurd h
    suited kind bytes (Check address count write t) h = absurd h
    suited kind bytes (Fault exception) h = absurd h
    suited kind bytes (Ends e) h = absurd h

    access_owed : (kind : AlphaKind) (phase : Phase) (address bytes value : ℕ) (i : AlphaInstr) (c : Alpha) (spare : ℕ) (round : Round) (t : Tree) → address % 8 + bytes ≤ 8 → Suits (wants p.kinds t) kind bytes
        → let a = an_access kind address bytes value in
        Accesses kind phase c.pc (wants p.kinds t) (quad_of a) (changed a) (leads i a c) p.bonus spare t (λ phase' spare' d u. block.Onward p (Ever p) phase' spare' (round_behind phase' t round) d u)
        → OwedAccess setting.meaning.pages (Owes b held) (IsForm setting) (λ l. l) (permit.kinds b.pc) retired (phase_lock phase) spare t (request_for m a) (λ before success. place_of setting m (leads i a c before success))
    access_owed alpha.Load Plain address bytes value i c spare round t within suits h = record {
      same = refl;
      paired = tt;
      alpha = suited alpha.Load bytes t suits;
      behind = λ before success fair. loads address bytes value i c spare (round_behind Plain t round) t before success fair.small (fair.others refl) h;
    }
    access_owed alpha.Store Plain address bytes value i c spare round t within suits h = record {
      same = refl;
      paired = tt;
      alpha = suited alpha.Store bytes t suits;
      behind = λ before success fair. stores_all address bytes value i c spare (round_behind Plain t round) t before success within fair.small (fair.others refl) h;
    }
    access_owed alpha.LoadLocked Plain address bytes value i c spare round t within suits h = record {
      same = refl;
      paired = tt;
      alpha = suited alpha.LoadLocked bytes t suits;
      behind = λ before success fair.
          let a = an_access alpha.LoadLocked address bytes value in
          subst (λ s. Owed_at (Some (record { quad = quad_of a; found = before })) spare t (place_of setting m (leads i a c before s))) (sym (fair.others refl))
          (inside (leads i a c before true) (Held (quad_of a) before c.pc) (Some (record { quad = quad_of a; found = before })) spare (stepped round) t refl (h before fair.small));
    }
    access_owed alpha.StoreConditional (Held quad found first_word) address bytes value i c spare round t within suits h = record {
      same = refl;
      paired = h.0;
      alpha = suited alpha.StoreConditional bytes t suits;
      behind = λ before success fair. conditionals address bytes value quad found first_word i c spare (round_behind Plain t round) (round_behind (Failed first_word) t round) t before success within fair.small (λ s. fair.locked refl s h.0) h.1 h.2;
    }
    access_owed kind phase address bytes value i c spare round t within suits h = absurd h

    -- ---- PALcode calls
    probe_owed : (point : Point) (address count : ℕ) (write : Bool) (tree : Tree) (c : Alpha) (spare : ℕ) (next : Round)
        → address ≡ probe_address c.regs → count ≡ probe_count point c.regs → write ≡ point.write
        → (first_bad setting.meaning.pages write address count ≡ None → block.Onward p (Ever p) Plain spare next (at_place c.regs (c.pc + 1)) tree)
        → (o : Option ℕ) → first_bad setting.meaning.pages write address count ≡ o
        → (u : Tree) × Path setting.meaning.pages (Check address count write tree) [] u × Owed_at None spare u (probed setting m c point.write o)
    probe_owed point address count write tree c spare next a k w on None found = (tree, Passes found Here, inside (at_place c.regs (c.pc + 1)) Plain None spare next tree refl (on found))
    probe_owed point address count write tree c spare next a k w on (Some bad) found =
        (Check address count write tree, Here, (refl, ap (λ o. unless_bad o trees.Fails write (answer setting.meaning.pages tree [])) found ∙ ap (λ x. trees.Fails (AccessViolation bad x)) w))

    raise_owed : (o : Option Exception) (x : Exception) (c : Alpha) (spare : ℕ) → o ≡ Some x → OwedNext setting.meaning.pages (Owes b held) (IsForm setting) (λ l. l) (permit.kinds b.pc) retired None spare (Fault x) (raised o)
    raise_owed None x c spare h = absurd (cc h)
    raise_owed (Some y) x c spare h = (Fault x, Here, (refl, ap trees.Fails (cc (sym h))))

    ends_owed : (t : Tree) (e e' : Ending) (spare : ℕ) → t ≡ Ends e → e ≡ e' → OwedNext setting.meaning.pages (Owes b held) (IsForm setting) (λ l. l) (permit.kinds b.pc) retired None spare t (Moves (Leaves (Comes e')))
    ends_owed t e e' spare is same = (t, Here, (refl, ap (λ x. answer setting.meaning.pages x []) is ∙ ap (λ x. trees.Comes x []) same))

    longword_again : (x : ℕ) → sign_extended (x % 2 ^ 32) 32 ≡ sign_extended x 32
    longword_again x =
        let same : x % 2 ^ 32 % 2 ^ 32 ≡ x % 2 ^ 32 = omega arith in
        ap (λ low. if nat_lt low (2 ^ 31) then low else low + (2 ^ 64 - 2 ^ 32)) same

    -- R0 written with what it holds
    r0_stays : (regs : Regs) → InForm regs → put regs 0 (sign_extended (regs 0 % 2 ^ 32) 32) ≡ regs
    r0_stays regs form = fun_ext (λ n. by n (n == 0) refl)
      where
        value : sign_extended (regs 0 % 2 ^ 32) 32 ≡ regs 0
        value = longword_again (regs 0) ∙ form.longwords 0 (lit< tt)

        by : (n : ℕ) (zero_test : Bool) → (n == 0) ≡ zero_test → (if zero_test then sign_extended (regs 0 % 2 ^ 32) 32 else regs n) ≡ regs n
        by n true e = value ∙ ap regs (sym (eqb-true n 0 e))
        by n false e = refl

    module _ (few_threads : thread < 256) (point : Point) (c : Alpha) (spare : ℕ) (next : Round) (form : InForm c.regs) where
      abbrev s : VaxState
      s = state_shown p c.regs (target c.regs) point.rules held

      abbrev After : Type 0
      After = (value : ℕ) → value < 2 ^ 32 → block.Onward p (Ever p) Plain spare next (at_place (put c.regs 0 (sign_extended value 32)) (c.pc + 1)) (Ends (Finish (with_register 0 value s)))

      -- R0 holds the longword behind the service
      r0_owed : (t : Tree) (value : ℕ) → value < 2 ^ 32 → t ≡ Ends (Finish (with_register 0 value s)) → After → Owed_at None spare t (behind setting m c (with_r0 c.regs value))
      r0_owed t value small is on = subst (λ x. Owed_at None spare x (behind setting m c (with_r0 c.regs value))) (sym is)
          (inside (at_place (put c.regs 0 (sign_extended value 32)) (c.pc + 1)) Plain None spare next (Ends (Finish (with_register 0 value s))) refl (on value small))

      stays_owed : (t : Tree) → t ≡ Ends (Finish s) → After → Owed_at None spare t (behind setting m c c.regs)
      stays_owed t is on =
          let value = c.regs 0 % 2 ^ 32 in
          let small : value < 2 ^ 32 = omega arith in
          let there = inside (at_place (put c.regs 0 (sign_extended value 32)) (c.pc + 1)) Plain None spare next (Ends (Finish (with_register 0 value s))) refl (on value small) in
          subst (λ x. Owed_at None spare x (behind setting m c c.regs)) (sym is)
          (subst (λ regs. Owed_at None spare (Ends (Finish s)) (behind setting m c regs)) (r0_stays c.regs form) there)

      put_owed : (t : Tree) → Same t (Ask (record { address = 0; count = 0; kind = Put (register 0 s % 256) }) (λ _. Ends (Finish s))) → After
          → OwedNext setting.meaning.pages (Owes b held) (IsForm setting) (λ l. l) (permit.kinds b.pc) retired None spare t (Wants (record { processor = thread; retired = retired; kind = kinds.Put; quad = 0; change = changes.Byte (c.regs 0 % 256) }) (λ before success. behind setting m c c.regs))
      put_owed t same on =
          let r : Reference = record { address = 0; count = 0; kind = Put (register 0 s % 256) } in
          let asks = same_ask t r (λ _. Ends (Finish s)) same in
          let q : Request = record { processor = thread; retired = retired; kind = kinds.Put; quad = 0; change = changes.Byte (c.regs 0 % 256) } in
          let byte : c.regs 0 % 256 ≡ c.regs 0 % 2 ^ 32 % 256 = omega arith in
          let no_more : spare ≡ spare + 0 = omega arith in
          record {
            same = refl;
            paired = tt;
            alpha = tt;
            behind = λ before success fair. (
              0,
              omega arith,
              subst (λ x. MadeBy x (entry_by q before success) (λ u. Owed_at None (spare + 0) u (behind setting m c c.regs))) (sym asks.is)
                  (λ fits. ((refl, byte), subst (λ n. Owed_at None n (asks.next 0) (behind setting m c c.regs)) no_more (stays_owed (asks.next 0) (same_ends (asks.next 0) (Finish s) (asks.same 0 refl)) on))),
            );
          }

      get_owed : (t : Tree) → Same t (Ask (record { address = 0; count = 0; kind = Get }) (λ reply. Ends (Finish (with_register 0 (reply % 2 ^ 32) s)))) → After
          → OwedNext setting.meaning.pages (Owes b held) (IsForm setting) (λ l. l) (permit.kinds b.pc) retired None spare t (Wants (record { processor = thread; retired = retired; kind = kinds.Get; quad = 0; change = changes.Nothing }) (λ before success. behind setting m c (with_r0 c.regs before)))
      get_owed t same on =
          let r : Reference = record { address = 0; count = 0; kind = Get } in
          let asks = same_ask t r (λ reply. Ends (Finish (with_register 0 (reply % 2 ^ 32) s))) same in
          let q : Request = record { processor = thread; retired = retired; kind = kinds.Get; quad = 0; change = changes.Nothing } in
          let no_more : spare ≡ spare + 0 = omega arith in
          record {
            same = refl;
            paired = tt;
            alpha = tt;
            behind = λ before success fair.
                let small : before < 2 ^ 32 = longword_of before (fair.input refl) in
                let kept : before % 2 ^ 32 ≡ before = omega (arith, small) in
                let ended : asks.next before ≡ Ends (Finish (with_register 0 before s)) = same_ends (asks.next before) (Finish (with_register 0 (before % 2 ^ 32) s)) (asks.same before (fair.input refl)) ∙ ap (λ n. Ends (Finish (with_register 0 n s))) kept in (
                  0,
                  omega arith,
                  subst (λ x. MadeBy x (entry_by q before success) (λ u. Owed_at None (spare + 0) u (behind setting m c (with_r0 c.regs before)))) (sym asks.is)
                      (λ fits. (refl, subst (λ n. Owed_at None n (asks.next before) (behind setting m c (with_r0 c.regs before))) no_more (r0_owed (asks.next before) before small ended on))),
                );
          }

      moves_owed : (t : Tree) (value : ℕ) → value < 2 ^ 32 → Same t (Ends (Finish (with_register 0 value s))) → After → OwedNext setting.meaning.pages (Owes b held) (IsForm setting) (λ l. l) (permit.kinds b.pc) retired None spare t (Moves (behind setting m c (with_r0 c.regs value)))
      moves_owed t value small same on = (t, Here, r0_owed t value small (same_ends t (Finish (with_register 0 value s)) same) on)

      serve_owed : (t : Tree) (one two three four five six : Bool)
          → Same t (if one then Ends (Exit s) else if two then Ask (record { address = 0; count = 0; kind = Put (register 0 s % 256) }) (λ _. Ends (Finish s))
          else if three then Ask (record { address = 0; count = 0; kind = Get }) (λ reply. Ends (Finish (with_register 0 (reply % 2 ^ 32) s)))
          else if four then Ends (Finish (with_register 0 thread s)) else if five then Ends (Finish (exchanged s)) else if six then Ends (Finish (with_pending Resume s)) else Ends (Finish (with_register 0 0 s)))
          → After
          → OwedNext setting.meaning.pages (Owes b held) (IsForm setting) (λ l. l) (permit.kinds b.pc) retired None spare t
          (if one then Moves (Leaves (Comes (Exit s)))
          else if two then Wants (record { processor = thread; retired = retired; kind = kinds.Put; quad = 0; change = changes.Byte (c.regs 0 % 256) }) (λ before success. behind setting m c c.regs)
          else if three then Wants (record { processor = thread; retired = retired; kind = kinds.Get; quad = 0; change = changes.Nothing }) (λ before success. behind setting m c (with_r0 c.regs before))
          else if four then Moves (behind setting m c (with_r0 c.regs thread)) else if five then Moves (Leaves (Comes (Finish (exchanged s)))) else if six then Moves (Leaves (Comes (Finish (with_pending Resume s)))) else Moves (behind setting m c (with_r0 c.regs 0)))
      serve_owed t true two three four five six same on = ends_owed t (Exit s) (Exit s) spare (same_ends t (Exit s) same) refl
      serve_owed t false true three four five six same on = put_owed t same on
      serve_owed t false false true four five six same on = get_owed t same on
      serve_owed t false false false true five six same on = moves_owed t thread (omega (arith, few_threads)) same on
      serve_owed t false false false false true six same on = ends_owed t (Finish (exchanged s)) (Finish (exchanged s)) spare (same_ends t (Finish (exchanged s)) same) refl
      serve_owed t false false false false false true same on = ends_owed t (Finish (with_pending Resume s)) (Finish (with_pending Resume s)) spare (same_ends t (Finish (with_pending Resume s)) same) refl
      serve_owed t false false false false false false same on = moves_owed t 0 (lit< tt) same on

    called_owed : thread < 256 → (call : Call) (point : Option Point) (phase : Phase) (t : Tree) (c : Alpha) (spare : ℕ) (next : Round) → Called call point phase t p c (λ d u. block.Onward p (Ever p) Plain spare next d u)
        → OwedNext setting.meaning.pages (Owes b held) (IsForm setting) (λ l. l) (permit.kinds b.pc) retired (phase_lock phase) spare t (called setting m call point c)
    called_owed lt Probe (Some point) Plain (Check address count write tree) c spare next h =
        let same : first_bad setting.meaning.pages point.write (probe_address c.regs) (probe_count point c.regs) ≡ first_bad setting.meaning.pages write address count =
        sym (ap (λ w. first_bad setting.meaning.pages w address count) h.2 ∙ ap (λ a. first_bad setting.meaning.pages point.write a count) h.0 ∙ ap (λ n. first_bad setting.meaning.pages point.write (probe_address c.regs) n) h.1) in
        probe_owed point address count write tree c spare next h.0 h.1 h.2 h.3 (first_bad setting.meaning.pages point.write (probe_address c.regs) (probe_count point c.regs)) (sym same)
    called_owed lt Raise (Some point) Plain (Fault x) c spare next h = raise_owed (raised_at point.raises) x c spare h
    called_owed lt Arithmetic (Some point) Plain (Ends (Trap kind state)) c spare next h =
        ends_owed (Ends (Trap kind state)) (Trap kind state) (Trap (c.regs 21 % 2 ^ 8) (state_at b c.regs (target c.regs) point.rules (held_behind setting m))) spare refl (ap (λ k. Trap k state) h.0 ∙ ap (Trap (c.regs 21 % 2 ^ 8)) h.1)
    called_owed lt LookUp point Plain (Ends (Finish state)) c spare next h = ends_owed (Ends (Finish state)) (Finish state) (Finish (state_at b c.regs (target c.regs) all_ready held)) spare refl (ap Finish h.1)
    called_owed lt Switch point Plain (Ends (Finish state)) c spare next h = ends_owed (Ends (Finish state)) (Finish state) (Finish (state_at b c.regs (target c.regs) all_ready held)) spare refl (ap Finish h.1)
    called_owed lt Serve (Some point) Plain t c spare next h =
        let code = c.regs 21 % 2 ^ 16 in
        serve_owed lt point c spare next h.0 t (code == 1) (code == 2) (code == 3) (code == 4) (code == 5) (code == 6)
        (subst (Same t) (sound.serves thread code (state_shown p c.regs (target c.regs) point.rules held)) h.1) h.2
    called_owed lt call point phase t c spare next h = absurd h

    -- ---- one step
    acts_owed : thread < 256 → (i : AlphaInstr) (phase : Phase) (t : Tree) (c : Alpha) (spare : ℕ) (round : Round) (what : Does) → act i c ≡ what
        → Acts what i (allowed_in p.pages) p.bonus phase spare c (wants p.kinds t) t
        (λ d. block.Lands (p.stops d.pc) (p.points d.pc) phase t p d.regs (MayGo p.bonus p.first phase round c.pc d.pc × Ever p (phase_after phase c.pc d.pc) spare (round_after phase round c.pc d.pc) d t))
        (λ number. Called (call_of number) (p.points c.pc) phase t p c (λ d u. block.Onward p (Ever p) Plain spare new_round d u))
        (λ phase' spare' d u. block.Onward p (Ever p) phase' spare' (round_behind phase' t round) d u)
        → OwedNext setting.meaning.pages (Owes b held) (IsForm setting) (λ l. l) (permit.kinds b.pc) retired (phase_lock phase) spare t (does setting m i what c)
    acts_owed lt i phase t c spare round (Goes d) is h = (t, Here, goes_to c.pc d phase t spare round (address_at setting.code.map d.pc) refl h)
    acts_owed lt i phase t c spare round (Calls number) is h = called_owed lt (call_of number) (point_at setting.code.points c.pc) phase t c spare new_round h
    acts_owed lt i phase t c spare round (Asks a) is h =
        let within = asks_within i c a is h.0 in
        let defined : is_defined setting a ≡ true = and_from (a.address % a.bytes == 0) (is_allowed setting.meaning.pages (quad_of a) (stores a.kind)) (zero_test (a.address % a.bytes) h.0) h.1 in
        subst (λ x. OwedNext setting.meaning.pages (Owes b held) (IsForm setting) (λ l. l) (permit.kinds b.pc) retired (phase_lock phase) spare t (accesses x setting m i a c)) (sym defined)
        (access_owed a.kind phase a.address a.bytes a.value i c spare round t within h.2 h.3)

    step_owed : thread < 256 → (o : Option AlphaInstr) (phase : Phase) (t : Tree) (c : Alpha) (spare : ℕ) (round : Round)
        → Steps o (allowed_in p.pages) p.bonus phase spare c (wants p.kinds t) t
        (λ d. block.Lands (p.stops d.pc) (p.points d.pc) phase t p d.regs (MayGo p.bonus p.first phase round c.pc d.pc × Ever p (phase_after phase c.pc d.pc) spare (round_after phase round c.pc d.pc) d t))
        (λ number. Called (call_of number) (p.points c.pc) phase t p c (λ d u. block.Onward p (Ever p) Plain spare new_round d u))
        (λ phase' spare' d u. block.Onward p (Ever p) phase' spare' (round_behind phase' t round) d u)
        → OwedNext setting.meaning.pages (Owes b held) (IsForm setting) (λ l. l) (permit.kinds b.pc) retired (phase_lock phase) spare t (next_by setting m o c)
    step_owed lt None phase t c spare round h = absurd h
    step_owed lt (Some i) phase t c spare round h = acts_owed lt i phase t c spare round (act i c) refl h

  next_is : (m : Moment) (c : Alpha) → next setting m c ≡ next_by setting m (fetch_of setting.code.words c.pc) c
  unfolding next
  next_is m c = refl

  -- what is owed of a processor's step
  pub opens : thread < 256 → (retired : ℕ) (b : VaxState) (held : Flags) (lock : Option Lock) (spare : ℕ) (c : Alpha) (t : Tree) → Owes b held lock spare c t
      → (0 < spare) × OwedNext setting.meaning.pages (Owes b held) (IsForm setting) (λ l. l) (permit.kinds b.pc) retired lock (spare - 1) t (next setting (moment_at thread retired b held) c)
  opens lt retired b held lock spare c t o =
      let one = open_follows (placed setting.meaning permit setting.code thread b held o.first) o.phase spare o.round c t o.ever in (
        one.2,
        subst (λ n. OwedNext setting.meaning.pages (Owes b held) (IsForm setting) (λ l. l) (permit.kinds b.pc) retired lock (spare - 1) t n) (sym (next_is (moment_at thread retired b held) c))
            (subst (λ l. OwedNext setting.meaning.pages (Owes b held) (IsForm setting) (λ l. l) (permit.kinds b.pc) retired l (spare - 1) t (next_by setting (moment_at thread retired b held) (fetch_of setting.code.words c.pc) c)) o.is_lock
            (step_owed b held retired o.first lt (fetch_of setting.code.words c.pc) o.phase t c (spare - 1) o.round one.3)),
      )
