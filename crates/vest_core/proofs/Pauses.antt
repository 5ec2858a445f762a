-- A talk, pause by pause.
use Rattle.std.proofs.Common.{◌≡◌, ℕ, zero, suc, ◌+◌, ◌*◌, ◌-◌, ◌^◌, ◌<◌, ◌≤◌, ◌⊎◌, inl, inr, ◌==◌, ◌&&◌, not, if◌then◌else◌, Bool, true, false, List, [], ◌∷◌, ◌++◌, length, map, reverse, min, Option, refl, sym, ap, ◌∙◌, subst, arith, true≢false, length-append}
use Rattle.std.specs.Prelude.{option_map}
use Rattle.std.specs.List.{AllByRecursion, AllZip, filter}
use Rattle.std.specs.Io.KnownBytes.{Appends, Consumes, IsAtEnd, Keeps}
use Rattle.std.proofs.KnownBytes.{Appends-nil, Consumes-kept, Consumes-nil, Consumes-trans}
use Rattle.std.proofs.lemmas.Bool.{eqb-true}
use Rattle.std.proofs.lemmas.List.{length-reverse, take-append-drop, take_all}
use Rattle.image_file.specs.Start.{start_state}
use Rattle.image_file.specs.Values.{ImageValue}
use Rattle.image_file.specs.declared.image.Start.{Start}
use Rattle.memory_core.specs.Contents.{Contents, bytes_put, output_of}
use Rattle.memory_core.specs.Kinds.{is_put}
use Rattle.memory_core.specs.Live.{LiveContents, all_sent, given, unsent, wants_input}
use Rattle.memory_core.specs.Order.{gets, own}
use Rattle.memory_core.specs.declared.entry.Entry.{Entry}
use Rattle.memory_core.specs.declared.entry.SetUp.{SetUp}
use Rattle.system_model.proofs.Lists.{there_is}
use Rattle.system_model.specs.Laws.{begun_from}
use Rattle.system_model.specs.Legal.{IsReached}
use Rattle.system_model.specs.Processors.{Begins, Processor, Reaches, Steps, Takes}
use Rattle.system_model.specs.Processors as model
use Rattle.system_model.specs.Settings.{Setting}
use Rattle.tie_switch.specs.Live.{HasRead, IsSameMemory, is_full, is_spent, next_asks_get}
use Rattle.tie_switch.specs.Processors.{IsMode, ProcessorValue, StandsFor, processor_of}
use Rattle.tie_switch.specs.Seen.{mode_of}
use Rattle.tie_switch.specs.Turns.{has_ended}
use Rattle.tie_switch.specs.declared.live.Pause.{Pause}
use Rattle.tie_switch.specs.declared.live.Pause.TheVariants as pauses
use Rattle.tie_switch.specs.declared.processor.Mode.{Mode}
use Rattle.tie_switch.specs.declared.processor.Mode.TheVariants as modes
use Rattle.vax_form.specs.declared.pages.Pages.{Pages}
use Rattle.vax_form.specs.declared.state.VaxState.{VaxState}
use Rattle.vest_core.specs.LiveWorlds.{IsAskedFor, IsLegalLive, IsNewLive, LiveWorldValue, NextAsks, all, next, sent_of}
use Rattle.vest_core.specs.Talks.{AreAsked, HasTalked, Sends, StandsAt}
use Rattle.vest_core.specs.declared.talking.TalkEnd.{TalkEnd}
use Rattle.vest_core.specs.declared.talking.TalkEnd.TheVariants.{ReadFault, WriteFault, ReportFault}
use Rattle.vest_core.proofs.Rounds.{steps_within}
use Rattle.vest_core.proofs.Telling.{IsReported}
use Rattle.vt_outside.proofs.Taking.{took_both, took_some_second}
use Rattle.vt_outside.specs.Causes.{Rose}
use Rattle.vt_outside.specs.Sink.{SinkMeaning}
use Rattle.vt_outside.specs.Source.{SourceMeaning}
use Rattle.vt_outside.specs.Taking.{TookAll, TookSome}

-- ---- what holds where the thread has not ended, all that was put is sent, and each byte that was given is asked for
pub record IsTalking (image : ImageValue) (setting : Setting) (first w : LiveWorldValue) (input_ended : Bool) (source source' : SourceMeaning) (sink sink' : SinkMeaning) : Type 0 where
  pub image_is : w.memory.contents.set_up.image ≡ image
  pub miss : w.memory.contents.set_up.miss ≡ first.memory.contents.set_up.miss
  pub budget : w.budget ≡ first.budget
  pub buffer : w.memory.buffer ≡ first.memory.buffer
  pub legal : IsLegalLive setting w
  pub going : has_ended (processor_of w.processor).mode ≡ false
  pub asked : IsAskedFor setting w
  pub given : Consumes source.left source'.left w.memory.contents.set_up.input
  pub later : source.faults ≤ source'.faults
  pub at_end : input_ended ≡ true → IsAtEnd source'.left
  pub read : input_ended ≡ false → HasRead w.memory.contents
  pub sent : TookAll sink sink' (sent_of w.memory)

-- ---- bytes are put by steps
few_entries : (setting : Setting) (first p : Processor) (n : ℕ) (mine : List Entry) → Reaches setting first n mine p → length mine ≤ n
few_entries setting first p n mine Begins = omega arith
few_entries setting first p n mine (Steps {n = m} {p = q} r e) = let h = few_entries setting first q m mine r in omega (arith, h)
few_entries setting first p n mine (Takes {n = m} {mine = past} {p = q} r e before success) = let h = few_entries setting first q m past r in omega (arith, h)

first_only : (n : ℕ) → n < 1 → (n == 0) ≡ true
first_only zero h = refl
first_only (suc n) h = absurd (omega (arith, h))

pub own_all : (entries : List Entry) → AllByRecursion (λ (e : Entry). e.processor < 1) entries → own 0 entries ≡ entries
own_all [] h = refl
own_all (e ∷ entries) h = rw (first_only e.processor h.0) (ap (λ (l : List Entry). e ∷ l) (own_all entries h.1))

puts_few : (history : List Entry) → bytes_put history ≤ length history
puts_few [] = omega arith
puts_few (e ∷ rest) = go (is_put e.kind) (puts_few rest)
  where
    go : (b : Bool) → bytes_put rest ≤ length rest
        → length (map (λ (x : Entry). x.after) (if b then e ∷ filter (λ (x : Entry). is_put x.kind) rest else filter (λ (x : Entry). is_put x.kind) rest)) ≤ suc (length rest)
    go true h = omega (arith, h)
    go false h = omega (arith, h)

module _ (setting : Setting) (w : LiveWorldValue) (legal : IsLegalLive setting w) where
  entries : List Entry
  entries = reverse w.memory.contents.history

  its_start : (start : VaxState) × IsReached setting w.budget w.memory.contents.set_up.limit (reverse w.memory.contents.history) 0 start legal.processor
  its_start =
      let count = legal.legal.count in
      let there = there_is w.memory.contents.set_up.image.threads 0 (omega (arith, count)) in
      (start_state there.0, legal.legal.each 0 (start_state there.0) legal.processor (ap (option_map start_state) there.1) refl)

  pub few_steps : w.processor.steps ≤ w.budget
  few_steps =
      let s = its_start in
      let few = steps_within setting w.budget w.memory.contents.set_up.limit (reverse w.memory.contents.history) 0 s.0 legal.processor s.1 in
      omega (arith, few, ap (λ (q : Processor). q.steps) legal.stands.same)

  pub few_puts : bytes_put w.memory.contents.history ≤ w.budget
  few_puts =
      let s = its_start in
      let history = w.memory.contents.history in
      let within = s.1.within in
      let made = few_entries setting _ s.1.was s.1.was.steps (own 0 (reverse history)) s.1.reaches in
      let all : length (own 0 (reverse history)) ≡ length history = ap length (own_all (reverse history) legal.legal.known) ∙ length-reverse history in
      let puts = puts_few history in
      omega (arith, within, made, all, puts)

-- ---- behind a send there is room
min_apart : (n buffer most : ℕ) → 0 < buffer → n < most → n ≡ min (n + buffer) most → ⊥
min_apart n buffer most room few is = grind arith

apart : (a b : ℕ) → (a ≡ b → ⊥) → (a == b) ≡ false
apart a b h = go (a == b) refl
  where
    go : (t : Bool) → (a == b) ≡ t → t ≡ false
    go false e = refl
    go true e = absurd (h (eqb-true a b e))

pub has_room : (live : LiveContents) → 0 < live.buffer → bytes_put live.contents.history < 2 ^ 64 - 1 → is_full (all_sent live).contents ≡ false
has_room live room few =
    apart (bytes_put live.contents.history) (min (bytes_put live.contents.history + live.buffer) (2 ^ 64 - 1))
    (min_apart (bytes_put live.contents.history) live.buffer (2 ^ 64 - 1) room few)

-- a byte that was given is there
pub byte_there : (byte : ℕ) (contents : Contents) → wants_input contents ≡ true → wants_input (given byte contents) ≡ false
byte_there byte contents wants =
    let same : gets (reverse contents.history) ≡ length contents.set_up.input = eqb-true (gets (reverse contents.history)) (length contents.set_up.input) wants in
    apart (gets (reverse contents.history)) (length (contents.set_up.input ++ byte ∷ []))
    (λ e. let more = length-append contents.set_up.input (byte ∷ []) in omega (arith, same, e, more))

-- ---- the pauses that are left
abbrev pub pauses_left : LiveWorldValue → (input_ended : Bool) → ℕ
pauses_left w input_ended =
    3 * (w.budget - w.processor.steps) + (if is_full w.memory.contents then 1 else 0) + (if not input_ended && wants_input w.memory.contents then 1 else 0)

-- turns were made, or it was full, or waited: then it isn't
fewer_by : (budget before after : ℕ) (full waits full' waits' : Bool) → after ≤ budget → before < after
    → 3 * (budget - after) + (if full' then 1 else 0) + (if waits' then 1 else 0) < 3 * (budget - before) + (if full then 1 else 0) + (if waits then 1 else 0)
fewer_by budget before after full waits true true few more = go full waits
  where
    go : (f w : Bool) → 3 * (budget - after) + 1 + 1 < 3 * (budget - before) + (if f then 1 else 0) + (if w then 1 else 0)
    go true true = omega (arith, few, more)
    go true false = omega (arith, few, more)
    go false true = omega (arith, few, more)
    go false false = omega (arith, few, more)
fewer_by budget before after full waits true false few more = go full waits
  where
    go : (f w : Bool) → 3 * (budget - after) + 1 + 0 < 3 * (budget - before) + (if f then 1 else 0) + (if w then 1 else 0)
    go true true = omega (arith, few, more)
    go true false = omega (arith, few, more)
    go false true = omega (arith, few, more)
    go false false = omega (arith, few, more)
fewer_by budget before after full waits false true few more = go full waits
  where
    go : (f w : Bool) → 3 * (budget - after) + 0 + 1 < 3 * (budget - before) + (if f then 1 else 0) + (if w then 1 else 0)
    go true true = omega (arith, few, more)
    go true false = omega (arith, few, more)
    go false true = omega (arith, few, more)
    go false false = omega (arith, few, more)
fewer_by budget before after full waits false false few more = go full waits
  where
    go : (f w : Bool) → 3 * (budget - after) + 0 + 0 < 3 * (budget - before) + (if f then 1 else 0) + (if w then 1 else 0)
    go true true = omega (arith, few, more)
    go true false = omega (arith, few, more)
    go false true = omega (arith, few, more)
    go false false = omega (arith, few, more)

-- ---- output
sent_and_unsent : (m : LiveContents) → sent_of m ++ unsent m ≡ output_of m.contents.history
sent_and_unsent m = take-append-drop m.sent (output_of m.contents.history)

all_is_sent : (m : LiveContents) → sent_of (all_sent m) ≡ output_of m.contents.history
all_is_sent m = take_all (bytes_put m.contents.history) (output_of m.contents.history) (omega arith)

pub took_all_now : (old new : LiveContents) → sent_of new ≡ sent_of old → (sink mid sink' : SinkMeaning) → TookAll sink mid (sent_of old) → TookAll mid sink' (unsent new) → TookAll sink sink' (output_of new.contents.history)
took_all_now old new same sink mid sink' before here =
    subst (λ (l : List ℕ). TookAll sink sink' l) (ap (λ (l : List ℕ). l ++ unsent new) (sym same) ∙ sent_and_unsent new) (took_both sink mid sink' (sent_of old) (unsent new) before here)

pub took_some_now : (old new : LiveContents) → sent_of new ≡ sent_of old → (sink mid sink' : SinkMeaning) → TookAll sink mid (sent_of old) → TookSome mid sink' (unsent new) → TookSome sink sink' (output_of new.contents.history)
took_some_now old new same sink mid sink' before here =
    subst (λ (l : List ℕ). TookSome sink sink' l) (ap (λ (l : List ℕ). l ++ unsent new) (sym same) ∙ sent_and_unsent new) (took_some_second sink mid sink' (sent_of old) (unsent new) before here)

-- ---- where a talk begins, the thread has not ended
new_goes : (pages : Pages) (thread : ℕ) (boundary : VaxState) (kind : Mode) → IsMode pages thread boundary kind model.New → has_ended (mode_of kind boundary) ≡ false
new_goes pages thread boundary modes.New is = refl
new_goes pages thread boundary (modes.Runs cpu) is = refl
new_goes pages thread boundary (modes.Interprets interpreted reply) is = refl
new_goes pages thread boundary (modes.Ended end) is = absurd (cc is)

new_going : (pages : Pages) (k : ProcessorValue) (threads : List Start) → AllZip (StandsFor pages) (k ∷ []) (begun_from 0 threads) → has_ended (processor_of k).mode ≡ false
new_going pages k [] h = absurd h
new_going pages k (s ∷ rest) h = new_goes pages k.thread k.boundary k.mode h.0.mode

pub starts : (image : ImageValue) (setting : Setting) (w : LiveWorldValue) (source : SourceMeaning) (sink : SinkMeaning) → IsNewLive image w.budget w.memory.buffer w.memory.contents.set_up.miss w
    → IsLegalLive setting w → IsTalking image setting w w false source source sink sink
starts image setting w source sink new legal =
    let history_is : w.memory.contents.history ≡ [] = ap (λ (m : LiveContents). m.contents.history) new.memory in
    let input_is : w.memory.contents.set_up.input ≡ [] = ap (λ (m : LiveContents). m.contents.set_up.input) new.memory in
    let none_asked : gets (reverse w.memory.contents.history) ≡ 0 = ap (λ (l : List Entry). gets (reverse l)) history_is in
    let none_given : length w.memory.contents.set_up.input ≡ 0 = ap length input_is in
    record {
      image_is = ap (λ (m : LiveContents). m.contents.set_up.image) new.memory;
      miss = refl;
      budget = refl;
      buffer = refl;
      legal = legal;
      going = new_going setting.meaning.pages w.processor image.threads (new.processor setting.meaning.pages);
      asked = all (omega (arith, none_given));
      given = subst (λ (l : List ℕ). Consumes source.left source.left l) (sym input_is) (Consumes-nil source.left);
      later = omega arith;
      at_end = λ e. absurd (true≢false (sym e));
      read = λ e. omega (arith, none_asked);
      sent = record { taken = subst (λ (m : LiveContents). Appends sink.taken sink.taken (sent_of m)) (sym new.memory) (Appends-nil sink.taken); later = omega arith };
    }

-- ---- turns were made, and what they put was written
module _ (image : ImageValue) (setting : Setting) (first w : LiveWorldValue) (input_ended : Bool) (source source' : SourceMeaning) (sink sink' : SinkMeaning)
    (t : IsTalking image setting first w input_ended source source' sink sink')
    (w' : LiveWorldValue) (same : IsSameMemory w.memory w'.memory) (read : input_ended ≡ false → HasRead w.memory.contents → HasRead w'.memory.contents) where
  given_now : Consumes source.left source'.left w'.memory.contents.set_up.input
  given_now = subst (λ (of : SetUp). Consumes source.left source'.left of.input) (sym same.set_up) t.given

  at_end_behind : (b : Bool) → input_ended ≡ b → length w'.memory.contents.set_up.input < gets (reverse w'.memory.contents.history) → IsAtEnd source'.left
  at_end_behind true e more = t.at_end e
  at_end_behind false e more = let few = read e (t.read e) in absurd (omega (arith, few, more))

  -- all is sent, and the thread goes on
  pub sends_on : w'.budget ≡ w.budget → has_ended (processor_of w'.processor).mode ≡ false → (sink'' : SinkMeaning) → TookAll sink sink'' (output_of w'.memory.contents.history)
      → (v : LiveWorldValue) → v ≡ record w' { memory = all_sent w'.memory } → IsLegalLive setting v → IsAskedFor setting v
      → IsTalking image setting first v input_ended source source' sink sink''
  sends_on budget going sink'' took v is legal asked =
      let same_memory : v.memory ≡ all_sent w'.memory = ap (λ (u : LiveWorldValue). u.memory) is in
      let same_set_up = ap (λ (m : LiveContents). m.contents.set_up) same_memory in
      record {
        image_is = ap (λ (m : LiveContents). m.contents.set_up.image) same_memory ∙ ap (λ (of : SetUp). of.image) same.set_up ∙ t.image_is;
        miss = ap (λ (m : LiveContents). m.contents.set_up.miss) same_memory ∙ ap (λ (of : SetUp). of.miss) same.set_up ∙ t.miss;
        budget = ap (λ (u : LiveWorldValue). u.budget) is ∙ budget ∙ t.budget;
        buffer = ap (λ (m : LiveContents). m.buffer) same_memory ∙ same.buffer ∙ t.buffer;
        legal = legal;
        going = ap (λ (u : LiveWorldValue). has_ended (processor_of u.processor).mode) is ∙ going;
        asked = asked;
        given = subst (λ (m : LiveContents). Consumes source.left source'.left m.contents.set_up.input) (sym same_memory) given_now;
        later = t.later;
        at_end = t.at_end;
        read = λ e. subst (λ (m : LiveContents). HasRead m.contents) (sym same_memory) (read e (t.read e));
        sent = subst (λ (l : List ℕ). TookAll sink sink'' l) (sym (ap sent_of same_memory ∙ all_is_sent w'.memory)) took;
      }

  -- the talk ends where the thread stands
  pub ends : (end : TalkEnd) (every : Option ℕ) (report report' : SinkMeaning) → (is_spent (processor_of w'.processor).mode ≡ true → w'.processor.steps ≡ w'.budget) → (l : IsLegalLive setting w')
      → StandsAt end setting w'.budget w'.processor l.processor source source' → AreAsked end setting w'.budget l.processor w'.memory.contents.set_up.input w'.memory.contents.history
      → (sink'' : SinkMeaning) → Sends end (output_of w'.memory.contents.history) sink sink''
      → IsReported end setting every w' l report report'
      → HasTalked end setting w'.memory.contents.set_up w'.budget w'.memory.contents.history w'.processor source source' sink sink'' every report report'
  ends end every report report' spent l stands_at are_asked sink'' sent told = record {
    processor = l.processor;
    stands = l.stands;
    legal = l.legal;
    spent = spent;
    stands_at = stands_at;
    given = given_now;
    asked = are_asked;
    behind = at_end_behind input_ended refl;
    sent = sent;
    start = told.start;
    first = told.first;
    told = told.told;
  }

  -- where a write fails, perhaps behind the byte that is asked for next
  pub ends_unwritten : (every : Option ℕ) (report report' : SinkMeaning) → (is_spent (processor_of w'.processor).mode ≡ true → w'.processor.steps ≡ w'.budget) → IsLegalLive setting w' → IsAskedFor setting w'
      → (sink'' : SinkMeaning) → TookSome sink sink'' (output_of w'.memory.contents.history)
      → ((l : IsLegalLive setting w') → IsReported WriteFault setting every w' l report report')
      → HasTalked WriteFault setting w'.memory.contents.set_up w'.budget w'.memory.contents.history w'.processor source source' sink sink'' every report report'
  ends_unwritten every report report' spent l (all h) sink'' took told = ends WriteFault every report report' spent l tt (inl h) sink'' took (told l)
  ends_unwritten every report report' spent l (next h n) sink'' took told = ends WriteFault every report report' spent n.legal tt (inr (tt, h, n.asks)) sink'' took (told n.legal)

  -- or the report does
  pub ends_untold : (every : Option ℕ) (report report' : SinkMeaning) → (is_spent (processor_of w'.processor).mode ≡ true → w'.processor.steps ≡ w'.budget) → IsLegalLive setting w' → IsAskedFor setting w'
      → (sink'' : SinkMeaning) → TookAll sink sink'' (output_of w'.memory.contents.history)
      → ((l : IsLegalLive setting w') → IsReported ReportFault setting every w' l report report')
      → HasTalked ReportFault setting w'.memory.contents.set_up w'.budget w'.memory.contents.history w'.processor source source' sink sink'' every report report'
  ends_untold every report report' spent l (all h) sink'' took told = ends ReportFault every report report' spent l tt (inl h) sink'' took (told l)
  ends_untold every report report' spent l (next h n) sink'' took told = ends ReportFault every report report' spent n.legal tt (inr (tt, h, n.asks)) sink'' took (told n.legal)

-- a thread that has ended asks for nothing
ended_asks_none : (setting : Setting) (budget : ℕ) (p : Processor) → has_ended p.mode ≡ true → next_asks_get setting budget p ≡ false
ended_asks_none setting budget p e = go p.mode refl
  where
    go : (m : model.Mode) → p.mode ≡ m → next_asks_get setting budget p ≡ false
    go model.New is = absurd (true≢false (sym e ∙ ap has_ended is))
    go (model.Runs alpha) is = absurd (true≢false (sym e ∙ ap has_ended is))
    go (model.Interprets state replies) is = absurd (true≢false (sym e ∙ ap has_ended is))
    go (model.Ended end) is = rw is refl

ended_too : (pages : Pages) (thread : ℕ) (boundary : VaxState) (kind : Mode) (m : model.Mode) → has_ended (mode_of kind boundary) ≡ true → IsMode pages thread boundary kind m → has_ended m ≡ true
ended_too pages thread boundary modes.New m ended is = absurd (true≢false (sym ended))
ended_too pages thread boundary (modes.Runs cpu) m ended is = absurd (true≢false (sym ended))
ended_too pages thread boundary (modes.Interprets interpreted reply) m ended is = absurd (true≢false (sym ended))
ended_too pages thread boundary (modes.Ended end) m ended is = ap has_ended is

pub all_asked : (setting : Setting) (w : LiveWorldValue) → has_ended (processor_of w.processor).mode ≡ true → IsAskedFor setting w
    → length w.memory.contents.set_up.input ≤ gets (reverse w.memory.contents.history)
all_asked setting w ended (all h) = h
all_asked setting w ended (next h n) =
    absurd (true≢false (sym n.asks ∙ ended_asks_none setting w.budget n.legal.processor
    (ended_too setting.meaning.pages w.processor.thread w.processor.boundary w.processor.mode n.legal.processor.mode ended n.legal.stands.mode)))

-- the input has ended
pub ends_input : (image : ImageValue) (setting : Setting) (first w : LiveWorldValue) (source source' : SourceMeaning) (sink sink' : SinkMeaning) → IsTalking image setting first w false source source' sink sink'
    → (source'' : SourceMeaning) → Keeps source'.left source''.left → IsAtEnd source''.left → source'.faults ≤ source''.faults → IsTalking image setting first w true source source'' sink sink'
ends_input image setting first w source source' sink sink' t source'' keeps ended later = record {
  image_is = t.image_is;
  miss = t.miss;
  budget = t.budget;
  buffer = t.buffer;
  legal = t.legal;
  going = t.going;
  asked = t.asked;
  given = Consumes-kept source.left source'.left source''.left w.memory.contents.set_up.input t.given keeps;
  later = let before = t.later in omega (arith, before, later);
  at_end = λ e. ended;
  read = λ e. absurd (true≢false e);
  sent = t.sent;
}

-- ---- behind a pause for input
module _ (image : ImageValue) (setting : Setting) (first w : LiveWorldValue) (source source' : SourceMeaning) (sink sink' : SinkMeaning)
    (t : IsTalking image setting first w false source source' sink sink')
    (w' : LiveWorldValue) (same : IsSameMemory w.memory w'.memory) (wants : wants_input w'.memory.contents ≡ true) where
  wanted : gets (reverse w'.memory.contents.history) ≡ length w'.memory.contents.set_up.input
  wanted = eqb-true (gets (reverse w'.memory.contents.history)) (length w'.memory.contents.set_up.input) wants

  given_before : Consumes source.left source'.left w'.memory.contents.set_up.input
  given_before = subst (λ (of : SetUp). Consumes source.left source'.left of.input) (sym same.set_up) t.given

  -- a byte was given, and all is sent
  pub gives_on : w'.budget ≡ w.budget → has_ended (processor_of w'.processor).mode ≡ false → (sink'' : SinkMeaning) → TookAll sink sink'' (output_of w'.memory.contents.history)
      → (byte : ℕ) (source'' : SourceMeaning) → Consumes source'.left source''.left (byte ∷ []) → source'.faults ≤ source''.faults
      → (v : LiveWorldValue) → v ≡ record w' { memory = all_sent (record w'.memory { contents = given byte w'.memory.contents }) } → IsLegalLive setting v → IsAskedFor setting v
      → IsTalking image setting first v false source source'' sink sink''
  gives_on budget going sink'' took byte source'' came later v is legal asked =
      let now : LiveContents = record w'.memory { contents = given byte w'.memory.contents } in
      let same_memory : v.memory ≡ all_sent now = ap (λ (u : LiveWorldValue). u.memory) is in
      let more = length-append w'.memory.contents.set_up.input (byte ∷ []) in
      let was = wanted in
      record {
        image_is = ap (λ (m : LiveContents). m.contents.set_up.image) same_memory ∙ ap (λ (of : SetUp). of.image) same.set_up ∙ t.image_is;
        miss = ap (λ (m : LiveContents). m.contents.set_up.miss) same_memory ∙ ap (λ (of : SetUp). of.miss) same.set_up ∙ t.miss;
        budget = ap (λ (u : LiveWorldValue). u.budget) is ∙ budget ∙ t.budget;
        buffer = ap (λ (m : LiveContents). m.buffer) same_memory ∙ same.buffer ∙ t.buffer;
        legal = legal;
        going = ap (λ (u : LiveWorldValue). has_ended (processor_of u.processor).mode) is ∙ going;
        asked = asked;
        given = subst (λ (m : LiveContents). Consumes source.left source''.left m.contents.set_up.input) (sym same_memory)
            (Consumes-trans source.left source'.left source''.left w'.memory.contents.set_up.input (byte ∷ []) given_before came);
        later = let before = t.later in omega (arith, before, later);
        at_end = λ e. absurd (true≢false (sym e));
        read = λ e. subst (λ (m : LiveContents). HasRead m.contents) (sym same_memory) (omega (arith, was, more));
        sent = subst (λ (l : List ℕ). TookAll sink sink'' l) (sym (ap sent_of same_memory ∙ all_is_sent now)) took;
      }

  -- a read failed
  pub fails_there : (every : Option ℕ) (report report' : SinkMeaning) → (is_spent (processor_of w'.processor).mode ≡ true → w'.processor.steps ≡ w'.budget) → (n : NextAsks setting w') (source'' : SourceMeaning) → Keeps source'.left source''.left
      → Rose source'.faults source''.faults → (sink'' : SinkMeaning) → TookAll sink sink'' (output_of w'.memory.contents.history)
      → ((l : IsLegalLive setting w') → IsReported ReadFault setting every w' l report report')
      → HasTalked ReadFault setting w'.memory.contents.set_up w'.budget w'.memory.contents.history w'.processor source source'' sink sink'' every report report'
  fails_there every report report' spent n source'' keeps rose sink'' took told =
      let was = wanted in
      record {
        processor = n.legal.processor;
        stands = n.legal.stands;
        legal = n.legal.legal;
        spent = spent;
        stands_at = (n.asks, rises source.faults source'.faults source''.faults t.later rose);
        given = Consumes-kept source.left source'.left source''.left w'.memory.contents.set_up.input given_before keeps;
        asked = inl (omega (arith, was));
        behind = λ more. absurd (omega (arith, was, more));
        sent = took;
        start = (told n.legal).start;
        first = (told n.legal).first;
        told = (told n.legal).told;
      }
    where
      rises : (a b c : ℕ) → a ≤ b → Rose b c → Rose a c
      rises a b c low h = grind (arith, low, h)

-- ---- the pauses get fewer
-- so many turns were made of a thread that goes on, and then what was put was sent, and a byte given where one was wanted
pub fewer_turns : (setting : Setting) (w w' : LiveWorldValue) (input_ended input_ended' : Bool) (full' waits' : Bool) (n : ℕ)
    → IsLegalLive setting w' → w'.budget ≡ w.budget → w'.processor.steps ≡ w.processor.steps + n → 0 < n
    → 3 * (w'.budget - w'.processor.steps) + (if full' then 1 else 0) + (if waits' then 1 else 0) < pauses_left w input_ended
fewer_turns setting w w' input_ended input_ended' full' waits' n legal budget steps some =
    let few = few_steps setting w' legal in
    subst (λ (b : ℕ). 3 * (w'.budget - w'.processor.steps) + (if full' then 1 else 0) + (if waits' then 1 else 0)
    < 3 * (b - w.processor.steps) + (if is_full w.memory.contents then 1 else 0) + (if not input_ended && wants_input w.memory.contents then 1 else 0)) budget
    (fewer_by w'.budget w.processor.steps w'.processor.steps (is_full w.memory.contents) (not input_ended && wants_input w.memory.contents) full' waits' few (omega (arith, steps, some)))

-- either turns were made, or less is left without any
fewer_or : (setting : Setting) (w w' : LiveWorldValue) (input_ended full' waits' : Bool) (n : ℕ)
    → IsLegalLive setting w' → w'.budget ≡ w.budget → w'.processor.steps ≡ w.processor.steps + n
    → (n ≡ 0 → 3 * (w'.budget - w'.processor.steps) + (if full' then 1 else 0) + (if waits' then 1 else 0) < pauses_left w input_ended)
    → 3 * (w'.budget - w'.processor.steps) + (if full' then 1 else 0) + (if waits' then 1 else 0) < pauses_left w input_ended
fewer_or setting w w' input_ended full' waits' zero legal budget steps unmade = unmade refl
fewer_or setting w w' input_ended full' waits' (suc n) legal budget steps unmade =
    fewer_turns setting w w' input_ended input_ended full' waits' (suc n) legal budget steps (omega arith)

same_left : (b s b' s' : ℕ) → b' ≡ b → s' ≡ s → 3 * (b' - s') ≡ 3 * (b - s)
same_left b s b' s' e f = rw (e, f) refl

emptied_now : (n n' : ℕ) → n' ≡ n → (f f' x x' : Bool) → f' ≡ false → f ≡ true → x' ≡ x
    → n' + (if f' then 1 else 0) + (if x' then 1 else 0) < n + (if f then 1 else 0) + (if x then 1 else 0)
emptied_now n n' same f true x x' e g h = absurd (true≢false e)
emptied_now n n' same false false x x' e g h = absurd (true≢false (sym g))
emptied_now n n' same true false true true e g h = omega (arith, same)
emptied_now n n' same true false false false e g h = omega (arith, same)
emptied_now n n' same true false true false e g h = absurd (true≢false (sym h))
emptied_now n n' same true false false true e g h = absurd (true≢false h)

answered_now : (n n' : ℕ) → n' ≡ n → (f f' x x' : Bool) → f' ≡ false → x' ≡ false → x ≡ true
    → n' + (if f' then 1 else 0) + (if x' then 1 else 0) < n + (if f then 1 else 0) + (if x then 1 else 0)
answered_now n n' same f true x x' e g h = absurd (true≢false e)
answered_now n n' same f false x true e g h = absurd (true≢false g)
answered_now n n' same f false false false e g h = absurd (true≢false (sym h))
answered_now n n' same true false true false e g h = omega (arith, same)
answered_now n n' same false false true false e g h = omega (arith, same)

module _ (setting : Setting) (w w' : LiveWorldValue) (n : ℕ) (legal : IsLegalLive setting w') (budget : w'.budget ≡ w.budget) (steps : w'.processor.steps ≡ w.processor.steps + n)
    (unmade : n ≡ 0 → w'.memory ≡ w.memory) (room : 0 < w'.memory.buffer) (few : w'.budget < 2 ^ 64 - 1) where
  room_now : is_full (all_sent w'.memory).contents ≡ false
  room_now = has_room w'.memory room (let puts = few_puts setting w' legal in omega (arith, puts, few))

  still : n ≡ 0 → 3 * (w'.budget - w'.processor.steps) ≡ 3 * (w.budget - w.processor.steps)
  still none = same_left w.budget w.processor.steps w'.budget w'.processor.steps budget (omega (arith, steps, none))

  -- the buffer was full, or turns were made
  pub fewer_sent : (input_ended : Bool) → (n ≡ 0 → is_full w'.memory.contents ≡ true) → pauses_left (record w' { memory = all_sent w'.memory }) input_ended < pauses_left w input_ended
  fewer_sent input_ended full =
      fewer_or setting w w' input_ended (is_full (all_sent w'.memory).contents) (not input_ended && wants_input w'.memory.contents) n legal budget steps
      (λ none. emptied_now (3 * (w.budget - w.processor.steps)) (3 * (w'.budget - w'.processor.steps)) (still none)
      (is_full w.memory.contents) (is_full (all_sent w'.memory).contents) (not input_ended && wants_input w.memory.contents) (not input_ended && wants_input w'.memory.contents)
      room_now (sym (ap (λ (m : LiveContents). is_full m.contents) (unmade none)) ∙ full none)
      (ap (λ (m : LiveContents). not input_ended && wants_input m.contents) (unmade none)))

  module _ (wants : wants_input w'.memory.contents ≡ true) where
    waited : n ≡ 0 → (not false && wants_input w.memory.contents) ≡ true
    waited none = sym (ap (λ (m : LiveContents). wants_input m.contents) (unmade none)) ∙ wants

    -- a byte was given
    pub fewer_given : (byte : ℕ) → pauses_left (record w' { memory = all_sent (record w'.memory { contents = given byte w'.memory.contents }) }) false < pauses_left w false
    fewer_given byte =
        let now : LiveContents = record w'.memory { contents = given byte w'.memory.contents } in
        fewer_or setting w w' false (is_full (all_sent now).contents) (not false && wants_input (all_sent now).contents) n legal budget steps
        (λ none. answered_now (3 * (w.budget - w.processor.steps)) (3 * (w'.budget - w'.processor.steps)) (still none)
        (is_full w.memory.contents) (is_full (all_sent now).contents) (not false && wants_input w.memory.contents) (not false && wants_input (all_sent now).contents)
        (has_room now room (let puts = few_puts setting w' legal in omega (arith, puts, few))) (byte_there byte w'.memory.contents wants) (waited none))

    -- or the input has ended
    pub fewer_ended : pauses_left (record w' { memory = all_sent w'.memory }) true < pauses_left w false
    fewer_ended =
        fewer_or setting w w' false (is_full (all_sent w'.memory).contents) false n legal budget steps
        (λ none. answered_now (3 * (w.budget - w.processor.steps)) (3 * (w'.budget - w'.processor.steps)) (still none)
        (is_full w.memory.contents) (is_full (all_sent w'.memory).contents) (not false && wants_input w.memory.contents) false
        room_now refl (waited none))

-- ---- a pause at which the thread has not ended
pub goes_on : (pause : Pause) (ended : Bool) → (ended ≡ true → pause ≡ pauses.Ended) → (pause ≡ pauses.FullOutput) ⊎ (pause ≡ pauses.Most) → ended ≡ false
goes_on pause false h is = refl
goes_on pause true h (inl is) = let e = h refl in absurd cc
goes_on pause true h (inr is) = let e = h refl in absurd cc

pub goes_on_behind : (pause : Pause) (ended : Bool) → (ended ≡ true → pause ≡ pauses.Ended) → pause ≡ pauses.WantsInput → ended ≡ false
goes_on_behind pause false h is = refl
goes_on_behind pause true h is = let e = h refl in absurd cc
