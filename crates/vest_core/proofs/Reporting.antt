-- What a talk has told, pause by pause.
use Rattle.std.proofs.Common.{◌≡◌, ◌≢◌, ℕ, zero, ◌+◌, ◌-◌, ◌^◌, ◌<◌, ◌≤◌, ◌⊎◌, inl, inr, ◌&&◌, not, if◌then◌else◌, Bool, true, false, List, [], ◌∷◌, ◌++◌, min, Option, Some, None, refl, sym, ap, ◌∙◌, subst, arith}
use Rattle.std.specs.Prelude.{nat_lt, option_map, reverse, slice_get, unwrap_or}
use Rattle.std.specs.List.{AllZip}
use Rattle.std.proofs.KnownBytes.{Appends-nil}
use Rattle.std.proofs.lemmas.Bool.Decides.{nat_tests}
use Rattle.std.proofs.lemmas.List.{append-nil}
use Rattle.image_file.specs.Start.{start_state}
use Rattle.image_file.specs.Values.{ImageValue}
use Rattle.image_file.specs.declared.image.Start.{Start}
use Rattle.memory_core.specs.Live.{LiveContents}
use Rattle.memory_core.specs.Order.{own}
use Rattle.memory_core.specs.declared.entry.Entry.{Entry}
use Rattle.memory_core.specs.declared.entry.SetUp.{SetUp}
use Rattle.report_text.specs.Offer.{Offers}
use Rattle.report_text.specs.declared.threads.Offered.{Offered}
use Rattle.report_text.specs.declared.threads.Offered.TheVariants.{Written, Failed}
use Rattle.system_model.specs.Laws.{begun_from}
use Rattle.system_model.specs.Legal.{IsReached, IsSpent, spent, starts}
use Rattle.system_model.specs.Processors.{Processor, Begins, begun}
use Rattle.system_model.specs.Settings.{Setting}
use Rattle.tie_switch.specs.Live.{AreNone}
use Rattle.tie_switch.specs.Processors.{HasAdvanced, ProcessorValue, StandsFor, processor_of}
use Rattle.tie_switch.specs.declared.live.Pause.{Pause}
use Rattle.tie_switch.specs.declared.live.Pause.TheVariants as pauses
use Rattle.vax_form.specs.declared.pages.Pages.{Pages}
use Rattle.vax_form.specs.declared.state.VaxState.{VaxState}
use Rattle.vest_core.specs.LiveWorlds.{IsLegalLive, IsNewLive, LiveWorldValue}
use Rattle.vest_core.specs.Progress.{Told, is_due, line_if, line_of, lines_of, progress, told_behind}
use Rattle.vest_core.specs.declared.talking.TalkEnd.TheVariants.{Ended, ReadFault, WriteFault, ReportFault}
use Rattle.vest_core.proofs.OnlySteps.{same_told}
use Rattle.vest_core.proofs.Pauses.{few_steps, own_all}
use Rattle.vest_core.proofs.Telling.{HasTold, IsReported, many_few, none_told, told_if, turns_told}
use Rattle.vt_outside.proofs.Taking.{took_both, took_some_second}
use Rattle.vt_outside.specs.Sink.{SinkMeaning}
use Rattle.vt_outside.specs.Taking.{TookAll, TookSome}

-- how many steps more are made until a line; where none is told, more than any budget has
abbrev pub between : Option ℕ → ℕ
between every = unwrap_or every (2 ^ 64 - 1)

-- so much was told of the thread's steps up to here, and the report took it
pub record IsTelling (setting : Setting) (image : ImageValue) (every : Option ℕ) (due : ℕ) (history : List Entry) (k : ProcessorValue) (report report' : SinkMeaning) : Type 0 where
  pub start : VaxState
  pub first : starts image 0 ≡ Some start
  pub processor : Processor
  pub stands : StandsFor setting.meaning.pages k processor
  pub told : Told
  pub has : HasTold setting (begun 0 start) (between every) history processor told
  pub due_is : due ≡ min told.due (2 ^ 64 - 1)
  pub took : TookAll report report' told.lines

-- ---- at first
least : (a b most : ℕ) → a ≡ b → a ≤ most → a ≡ min b most
least a b most is few = grind arith

first_stands : (setting : Setting) (image : ImageValue) (every : Option ℕ) (k : ProcessorValue) (history : List Entry) (report : SinkMeaning) (due : ℕ) → due ≡ between every → due ≤ 2 ^ 64 - 1 → history ≡ []
    → (threads : List Start) → image.threads ≡ threads → AllZip (StandsFor setting.meaning.pages) (k ∷ []) (begun_from 0 threads) → IsTelling setting image every due history k report report
first_stands setting image every k history report due is few none [] threads h = absurd h
first_stands setting image every k history report due is few none (s ∷ rest) threads h = record {
  start = start_state s;
  first = ap (λ (l : List Start). option_map start_state (slice_get l 0)) threads;
  processor = begun 0 (start_state s);
  stands = h.0;
  told = record { due = between every; lines = [] };
  has = record { count = zero; mine = []; was = begun 0 (start_state s); reached = Begins; counted = refl; its = ap reverse (sym none); now = inl refl; lines = refl };
  due_is = least due (between every) (2 ^ 64 - 1) is few;
  took = record { taken = Appends-nil report.taken; later = omega arith };
}

pub starts_telling : (setting : Setting) (image : ImageValue) (every : Option ℕ) (w : LiveWorldValue) (report : SinkMeaning) (due : ℕ) → due ≡ between every → due ≤ 2 ^ 64 - 1
    → IsNewLive image w.budget w.memory.buffer w.memory.contents.set_up.miss w → IsTelling setting image every due w.memory.contents.history w.processor report report
starts_telling setting image every w report due is few new =
    first_stands setting image every w.processor w.memory.contents.history report due is few (ap (λ (m : LiveContents). m.contents.history) new.memory) image.threads refl (new.processor setting.meaning.pages)

-- ---- behind turns
less_min : (n due most : ℕ) → n < most → nat_lt n (min due most) ≡ nat_lt n due
less_min n due most few = grind (arith, nat_tests)

under : (a b most : ℕ) → a ≡ min b most → a ≤ b
under a b most is = grind arith

-- a line is due by the numbers that are kept, where it is by the steps
due_same : (due' retired : ℕ) (told : Told) (p q : Processor) (k : ProcessorValue) → due' ≡ min told.due (2 ^ 64 - 1) → q.steps < 2 ^ 64 - 1 → k.steps ≡ q.steps → k.retired ≡ q.retired → retired ≡ p.retired
    → is_due due' retired (processor_of k) ≡ is_due told.due p.retired q
due_same due' retired told p q k is few steps made was =
    let first : nat_lt k.steps due' ≡ nat_lt q.steps told.due = ap (λ n. nat_lt n due') steps ∙ ap (nat_lt q.steps) is ∙ less_min q.steps told.due (2 ^ 64 - 1) few in
    let second : nat_lt retired k.retired ≡ nat_lt p.retired q.retired = ap (λ n. nat_lt n k.retired) was ∙ ap (nat_lt p.retired) made in
    ap (λ b. not b && nat_lt retired k.retired) first ∙ ap (λ b. not (nat_lt q.steps told.due) && b) second

line_same : (pages : Pages) (q : Processor) (k : ProcessorValue) → StandsFor pages k q → line_of (processor_of k) ≡ line_of q
line_same pages q k stands = ap line_of (sym stands.same)

-- the lines of one more boundary
more_lines : (every : ℕ) (told : Told) (p q : Processor) (b : Bool) (text : List ℕ) → is_due told.due p.retired q ≡ b → text ≡ (if b then line_of q else []) → (told_behind every p q told).lines ≡ told.lines ++ text
more_lines every told p q true text e t = ap (λ b. (told_if b every q told).lines) e ∙ ap (λ l. told.lines ++ l) (sym t)
more_lines every told p q false text e t =
    ap (λ b. (told_if b every q told).lines) e ∙ sym (append-nil told.lines) ∙ ap (λ l. told.lines ++ l) (sym t)

more_due : (every due due' steps : ℕ) (told : Told) (p q : Processor) (b : Bool) → is_due told.due p.retired q ≡ b → due ≡ min told.due (2 ^ 64 - 1) → steps ≡ q.steps
    → due' ≡ (if b then min (steps + every) (2 ^ 64 - 1) else due) → due' ≡ min (told_behind every p q told).due (2 ^ 64 - 1)
more_due every due due' steps told p q true e is same t =
    t ∙ ap (λ n. min (n + every) (2 ^ 64 - 1)) same ∙ sym (ap (λ b. min (told_if b every q told).due (2 ^ 64 - 1)) e)
more_due every due due' steps told p q false e is same t =
    t ∙ is ∙ sym (ap (λ b. min (told_if b every q told).due (2 ^ 64 - 1)) e)

module _ (setting : Setting) (image : ImageValue) (every : Option ℕ) (due : ℕ) (old : List Entry) (k : ProcessorValue) (report report' : SinkMeaning)
    (t : IsTelling setting image every due old k report report')
    (u : SetUp) (budget n : ℕ) (new : List Entry) (k' : ProcessorValue) (advanced : HasAdvanced setting u AreNone budget t.processor n k' old new)
    (few : k'.steps < 2 ^ 64 - 1) (at_once : (n ≤ 1) ⊎ (k.steps + n < due)) where
  abbrev text : List ℕ
  text = line_if due k.retired (processor_of k')

  abbrev told_now : Told
  told_now = told_behind (between every) t.processor advanced.processor t.told

  stands_as : k.steps ≡ t.processor.steps
  stands_as = sym (ap (λ (x : Processor). x.steps) t.stands.same)

  few_or : (n ≤ 1) ⊎ (k.steps + n < due) → (n ≤ 1) ⊎ (advanced.processor.steps < t.told.due)
  few_or (inl one) = inl one
  few_or (inr below) =
      let most = (many_few setting u budget t.processor old advanced.turned).1 in
      let bound : due ≤ t.told.due = under due t.told.due (2 ^ 64 - 1) t.due_is in
      inr (omega (arith, below, most, stands_as, bound))

  has_now : HasTold setting (begun 0 t.start) (between every) new advanced.processor told_now
  has_now = turns_told setting (begun 0 t.start) (between every) u budget t.processor old t.told t.has n advanced.processor new advanced.turned (few_or at_once)

  steps_now : k'.steps ≡ advanced.processor.steps
  steps_now = sym (ap (λ (x : Processor). x.steps) advanced.stands.same)

  dues : is_due due k.retired (processor_of k') ≡ is_due t.told.due t.processor.retired advanced.processor
  dues =
      due_same due k.retired t.told t.processor advanced.processor k' t.due_is (omega (arith, few, steps_now)) steps_now
      (sym (ap (λ (x : Processor). x.retired) advanced.stands.same)) (sym (ap (λ (x : Processor). x.retired) t.stands.same))

  text_is : text ≡ (if is_due t.told.due t.processor.retired advanced.processor then line_of advanced.processor else [])
  text_is =
      ap (λ b. if b then line_of (processor_of k') else []) dues
      ∙ ap (λ (l : List ℕ). if is_due t.told.due t.processor.retired advanced.processor then l else []) (line_same setting.meaning.pages advanced.processor k' advanced.stands)

  lines_now : told_now.lines ≡ t.told.lines ++ text
  lines_now = more_lines (between every) t.told t.processor advanced.processor (is_due t.told.due t.processor.retired advanced.processor) text refl text_is

  -- the report took the line that was due, if any
  pub tells_on : (due' : ℕ) (report'' : SinkMeaning) → due' ≡ (if is_due due k.retired (processor_of k') then min (k'.steps + between every) (2 ^ 64 - 1) else due) → TookAll report' report'' text
      → IsTelling setting image every due' new k' report report''
  tells_on due' report'' is took = record {
    start = t.start;
    first = t.first;
    processor = advanced.processor;
    stands = advanced.stands;
    told = told_now;
    has = has_now;
    due_is =
        more_due (between every) due due' k'.steps t.told t.processor advanced.processor (is_due t.told.due t.processor.retired advanced.processor) refl t.due_is steps_now
        (is ∙ ap (λ b. if b then min (k'.steps + between every) (2 ^ 64 - 1) else due) dues);
    took = subst (TookAll report report'') (sym lines_now) (took_both report report' report'' t.told.lines text t.took took);
  }

  -- or a part of it
  pub tells_some : (report'' : SinkMeaning) → TookSome report' report'' text → TookSome report report'' told_now.lines
  tells_some report'' took = subst (TookSome report report'') (sym lines_now) (took_some_second report report' report'' t.told.lines text t.took took)

  -- or it was not offered
  pub untold : TookAll report report' told_now.lines ⊎ ((before : List ℕ) × (told_now.lines ≡ before ++ line_of advanced.processor) × TookAll report report' before)
  untold = by (is_due t.told.due t.processor.retired advanced.processor) text_is
    where
      by : (b : Bool) → text ≡ (if b then line_of advanced.processor else [])
          → TookAll report report' told_now.lines ⊎ ((before : List ℕ) × (told_now.lines ≡ before ++ line_of advanced.processor) × TookAll report report' before)
      by true e = inr (t.told.lines, lines_now ∙ ap (λ l. t.told.lines ++ l) e, t.took)
      by false e = inl (subst (TookAll report report') (sym (lines_now ∙ ap (λ l. t.told.lines ++ l) e ∙ append-nil t.told.lines)) t.took)

-- ---- the lines of a legal run
module _ (setting : Setting) (w : LiveWorldValue) (l : IsLegalLive setting w) (every : Option ℕ) (few : w.budget < 2 ^ 64 - 1)
    (start : VaxState) (q : Processor) (stands : StandsFor setting.meaning.pages w.processor q) (told : Told)
    (has : HasTold setting (begun 0 start) (between every) w.memory.contents.history q told) where
  same_steps : (p was : Processor) → (p ≡ was) ⊎ (p ≡ spent was) → was.steps ≡ p.steps
  same_steps p was (inl e) = ap (λ (x : Processor). x.steps) (sym e)
  same_steps p was (inr e) = ap (λ (x : Processor). x.steps) (sym e)

  now_or : (entries : List Entry) (p was : Processor) → (p ≡ was) ⊎ IsSpent setting w.budget w.memory.contents.set_up.limit entries was p → (p ≡ was) ⊎ (p ≡ spent was)
  now_or entries p was (inl e) = inl e
  now_or entries p was (inr s) = inr s.is

  counted : has.count ≡ w.processor.steps
  counted = has.counted ∙ ap (λ (x : Processor). x.steps) stands.same

  by_every : (o : Option ℕ) → o ≡ every → (r : IsReached setting w.budget w.memory.contents.set_up.limit (reverse w.memory.contents.history) 0 start l.processor) → lines_of o r.reaches ≡ told.lines
  by_every (Some each) e r =
      let same : between every ≡ each = ap between (sym e) in
      let mine : own 0 (reverse w.memory.contents.history) ≡ has.mine = own_all (reverse w.memory.contents.history) l.legal.known ∙ sym has.its in
      let count : r.was.steps ≡ has.count =
      same_steps l.processor r.was (now_or (reverse w.memory.contents.history) l.processor r.was r.now) ∙ ap (λ (x : Processor). x.steps) l.stands.same ∙ sym counted in
      ap (λ (x : Told). x.lines)
      (same_told setting (begun 0 start) each r.was.steps has.count (own 0 (reverse w.memory.contents.history)) has.mine r.was has.was count mine r.reaches has.reached
      ∙ ap (λ (n : ℕ). progress n has.reached) (sym same) ∙ has.lines)
  by_every None e r =
      let same : between every ≡ 2 ^ 64 - 1 = ap between (sym e) in
      let within = few_steps setting w l in
      let none = none_told setting (begun 0 start) has.was has.count (between every) has.mine has.reached (omega (arith, few, within, counted, same)) in
      ap (λ (x : Told). x.lines) (sym none ∙ has.lines)

  pub its_lines : (r : IsReached setting w.budget w.memory.contents.set_up.limit (reverse w.memory.contents.history) 0 start l.processor) → lines_of every r.reaches ≡ told.lines
  its_lines = by_every every refl

-- ---- a pause
pub at_once_by : (turns steps n due : ℕ) (k : ProcessorValue) → (turns ≡ 1) ⊎ (steps + turns < due) → n ≤ turns → steps ≡ k.steps → (n ≤ 1) ⊎ (k.steps + n < due)
at_once_by turns steps n due k (inl one) few same = inl (omega (arith, one, few))
at_once_by turns steps n due k (inr below) few same = inr (omega (arith, below, few, same))

-- turns were made of a world, after which a line may be due
pub record IsMade (setting : Setting) (image : ImageValue) (every : Option ℕ) (due : ℕ) (was now : LiveWorldValue) (report report' : SinkMeaning) : Type 0 where
  pub telling : IsTelling setting image every due was.memory.contents.history was.processor report report'
  pub n : ℕ
  pub advanced : HasAdvanced setting was.memory.contents.set_up AreNone was.budget telling.processor n now.processor was.memory.contents.history now.memory.contents.history
  pub same_image : now.memory.contents.set_up.image ≡ image
  pub budget : now.budget < 2 ^ 64 - 1
  pub few : now.processor.steps < 2 ^ 64 - 1
  pub at_once : (n ≤ 1) ⊎ (was.processor.steps + n < due)

pub made : (setting : Setting) (image : ImageValue) (every : Option ℕ) (due : ℕ) (was now : LiveWorldValue) (report report' : SinkMeaning) (n turns steps : ℕ)
    → IsTelling setting image every due was.memory.contents.history was.processor report report'
    → ((p : Processor) → StandsFor setting.meaning.pages was.processor p
    → HasAdvanced setting was.memory.contents.set_up AreNone was.budget p n now.processor was.memory.contents.history now.memory.contents.history)
    → now.memory.contents.set_up.image ≡ image → now.budget < 2 ^ 64 - 1 → IsLegalLive setting now
    → (turns ≡ 1) ⊎ (steps + turns < due) → n ≤ turns → steps ≡ was.processor.steps → IsMade setting image every due was now report report'
made setting image every due was now report report' n turns steps t turned same_image budget legal below few same = record {
  telling = t;
  n = n;
  advanced = turned t.processor t.stands;
  same_image = same_image;
  budget = budget;
  few = let within = few_steps setting now legal in omega (arith, within, budget);
  at_once = at_once_by turns steps n due was.processor below few same;
}

-- the line that was offered is that of the processor as it stands now
same_line : (due r r' : ℕ) (k k' : ProcessorValue) → r ≡ r' → k ≡ k' → line_if due r (processor_of k) ≡ line_if due r' (processor_of k')
same_line due r r' k k' e f = ap (λ n. line_if due n (processor_of k)) e ∙ ap (λ (x : ProcessorValue). line_if due r' (processor_of x)) f

pub all_offered : (o : Offered) (a b : SinkMeaning) (due r r' : ℕ) (k k' : ProcessorValue) → r ≡ r' → k ≡ k' → o ≢ Failed → Offers o a b (line_if due r (processor_of k)) → TookAll a b (line_if due r' (processor_of k'))
all_offered Written a b due r r' k k' e f other took = subst (TookAll a b) (same_line due r r' k k' e f) took
all_offered Failed a b due r r' k k' e f other took = absurd (other refl)

pub some_offered : (a b : SinkMeaning) (due r r' : ℕ) (k k' : ProcessorValue) → r ≡ r' → k ≡ k' → TookSome a b (line_if due r (processor_of k)) → TookSome a b (line_if due r' (processor_of k'))
some_offered a b due r r' k k' e f took = subst (TookSome a b) (same_line due r r' k k' e f) took

module _ (setting : Setting) (image : ImageValue) (every : Option ℕ) (due : ℕ) (was now : LiveWorldValue) (report report' : SinkMeaning) (m : IsMade setting image every due was now report report') where
  abbrev due_text : List ℕ
  due_text = line_if due was.processor.retired (processor_of now.processor)

  -- the thread goes on
  pub told_on : (due' each r : ℕ) (k : ProcessorValue) (report'' : SinkMeaning) → r ≡ was.processor.retired → k ≡ now.processor → each ≡ between every
      → due' ≡ (if is_due due r (processor_of k) then min (k.steps + each) (2 ^ 64 - 1) else due) → TookAll report' report'' due_text
      → IsTelling setting image every due' now.memory.contents.history now.processor report report''
  told_on due' each r k report'' e f g is took =
      tells_on setting image every due was.memory.contents.history was.processor report report' m.telling was.memory.contents.set_up was.budget m.n now.memory.contents.history now.processor m.advanced m.few m.at_once
      due' report''
      (is ∙ ap (λ n. if is_due due n (processor_of k) then min (k.steps + each) (2 ^ 64 - 1) else due) e
      ∙ ap (λ (x : ProcessorValue). if is_due due was.processor.retired (processor_of x) then min (x.steps + each) (2 ^ 64 - 1) else due) f
      ∙ ap (λ n. if is_due due was.processor.retired (processor_of now.processor) then min (now.processor.steps + n) (2 ^ 64 - 1) else due) g)
      took

  -- or the talk ends
  module _ (l : IsLegalLive setting now) where
    from_start : starts now.memory.contents.set_up.image 0 ≡ Some m.telling.start
    from_start = ap (λ (i : ImageValue). starts i 0) m.same_image ∙ m.telling.first

    abbrev its : List ℕ
    its = lines_of every (l.legal.each 0 m.telling.start l.processor from_start refl).reaches

    abbrev lines : List ℕ
    lines = (told_behind (between every) m.telling.processor m.advanced.processor m.telling.told).lines

    lines_are : its ≡ lines
    lines_are =
        its_lines setting now l every m.budget m.telling.start m.advanced.processor m.advanced.stands (told_behind (between every) m.telling.processor m.advanced.processor m.telling.told)
        (has_now setting image every due was.memory.contents.history was.processor report report' m.telling was.memory.contents.set_up was.budget m.n now.memory.contents.history now.processor m.advanced m.few m.at_once)
        (l.legal.each 0 m.telling.start l.processor from_start refl)

    line_is : line_of m.advanced.processor ≡ line_of l.processor
    line_is = sym (line_same setting.meaning.pages m.advanced.processor now.processor m.advanced.stands) ∙ line_same setting.meaning.pages l.processor now.processor l.stands

    all_told : (report'' : SinkMeaning) → TookAll report' report'' due_text → TookAll report report'' its
    all_told report'' took =
        subst (TookAll report report'')
        (sym (lines_now setting image every due was.memory.contents.history was.processor report report' m.telling was.memory.contents.set_up was.budget m.n now.memory.contents.history now.processor m.advanced m.few m.at_once)
        ∙ sym lines_are)
        (took_both report report' report'' m.telling.told.lines due_text m.telling.took took)

    pub ended_told : (report'' : SinkMeaning) → TookAll report' report'' due_text → IsReported Ended setting every now l report report''
    ended_told report'' took = record { start = m.telling.start; first = from_start; told = all_told report'' took }

    pub unread_told : (report'' : SinkMeaning) → TookAll report' report'' due_text → IsReported ReadFault setting every now l report report''
    unread_told report'' took = record { start = m.telling.start; first = from_start; told = all_told report'' took }

    pub part_told : (report'' : SinkMeaning) → TookSome report' report'' due_text → IsReported ReportFault setting every now l report report''
    part_told report'' took = record {
      start = m.telling.start;
      first = from_start;
      told =
          subst (TookSome report report'') (sym lines_are)
          (tells_some setting image every due was.memory.contents.history was.processor report report' m.telling was.memory.contents.set_up was.budget m.n now.memory.contents.history now.processor m.advanced m.few m.at_once
          report'' took);
    }

    unwritten : TookAll report report' lines ⊎ ((before : List ℕ) × (lines ≡ before ++ line_of m.advanced.processor) × TookAll report report' before)
        → TookAll report report' its ⊎ ((before : List ℕ) × (its ≡ before ++ line_of l.processor) × TookAll report report' before)
    unwritten (inl took) = inl (subst (TookAll report report') (sym lines_are) took)
    unwritten (inr (before, is, took)) = inr (before, lines_are ∙ is ∙ ap (λ x. before ++ x) line_is, took)

    pub unwritten_told : IsReported WriteFault setting every now l report report'
    unwritten_told = record {
      start = m.telling.start;
      first = from_start;
      told =
          unwritten
          (untold setting image every due was.memory.contents.history was.processor report report' m.telling was.memory.contents.set_up was.budget m.n now.memory.contents.history now.processor m.advanced m.few m.at_once);
    }

-- a pause at which no turn was made, but for one that asks or has ended, is one with a full buffer
pub full_by : (pause : Pause) (n turns : ℕ) (full : Bool) → (pause ≡ pauses.FullOutput → full ≡ true) → (pause ≡ pauses.Most → n ≡ turns) → 0 < turns
    → (pause ≡ pauses.FullOutput) ⊎ (pause ≡ pauses.Most) → n ≡ 0 → full ≡ true
full_by pause n turns full f m some (inl is) none = f is
full_by pause n turns full f m some (inr is) none = let all = m is in absurd (omega (arith, all, some, none))
