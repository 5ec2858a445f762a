-- Wherever the block of a call stands, it follows the call's tree.
use Rattle.std.proofs.Common.{◌≡◌, ℕ, zero, suc, ◌+◌, ◌-◌, ◌%◌, ◌^◌, ◌<◌, ◌≤◌, inl, inr, refl, sym, ap, ◌∙◌, subst, arith, List, [], ◌∷◌, ◌++◌, length, length-append, map, None, Bool, true, false, lit<, lit≤}
use Rattle.std.specs.Prelude.{◌⊎◌, slice_index, if◌then◌else◌}
use Rattle.std.specs.List.{list_all}
use Rattle.std.proofs.lemmas.Bool.{cases_eq, cases_lt}
use Rattle.std.proofs.Math.ListN.{get_or-eq_default}
use Rattle.std.proofs.lemmas.List.{ext_get_or, get_or-replicate, get_or-set_same, get_or-set_other}
use Rattle.vax_form.specs.PageTable.{IsPageTable}
use Rattle.vax_form.specs.Pages.{first_bad}
use Rattle.vax_form.specs.Targets.{operand_of}
use Rattle.vax_form.specs.State.{IsState, with_core, AP, FP}
use Rattle.vax_form.specs.Tree.{Tree}
use Rattle.vax_form.specs.declared.instr.Base.{Base}
use Rattle.vax_form.specs.declared.instr.Base.TheVariants.{Deferred, Decrement, Increment, IncrementDeferred, Offset, Fixed}
use Rattle.vax_form.specs.declared.instr.Instr.{Instr}
use Rattle.vax_form.specs.declared.instr.Operand.{Operand}
use Rattle.vax_form.specs.declared.instr.Operand.TheVariants.{Unused, Value, Register, Place, Target}
use Rattle.vax_form.specs.declared.pages.Pages.{Pages}
use Rattle.vax_form.specs.declared.state.Flags.{Flags}
use Rattle.vax_form.specs.declared.state.VaxState.{VaxState}
use Rattle.vax_long.specs.Instructions.{long_tree_for}
use Rattle.vax_long.specs.Registers.{is_in_mask}
use Rattle.alpha_meaning.specs.Pieces.{Plain, most_words}
use Rattle.alpha_meaning.specs.State.{Regs, at_place}
use Rattle.alpha_encode.specs.declared.instr.AlphaInstr.TheVariants.{Memory}
use Rattle.alpha_encode.specs.declared.instr.MemoryOp.TheVariants.{Lda}
use Rattle.exception_records.specs.Codes.{all_ready}
use Rattle.exception_records.specs.Shown.{Shows, registers_shown}
use Rattle.exception_records.specs.declared.rules.Rules.{Rules}
use Rattle.micro_ops.specs.Known.{at_start}
use Rattle.micro_ops.specs.Uses.{has_bytes}
use Rattle.micro_ops.specs.Meaning.{Standing, Left, Temps, course_of, no_temps, started}
use Rattle.micro_ops.specs.declared.known.Checked.{Checked}
use Rattle.micro_ops.specs.declared.known.Known.{Known}
use Rattle.micro_ops.specs.declared.program.Micro.{Micro}
use Rattle.operand_programs.specs.Behind.{AreFit, IsFit}
use Rattle.operand_programs.specs.InOrder.{no_steps}
use Rattle.operand_programs.specs.Pieces.{Agrees}
use Rattle.operand_programs.specs.Registers.{BaseIsNamed}
use Rattle.operand_programs.specs.Specifiers.{steps_behind, with_step}
use Rattle.operand_programs.proofs.Agrees.{agreed, held}
use Rattle.operand_programs.proofs.Ordered.{all_steps_length}
use Rattle.block_law.specs.Blocks.{Stands, ExitsLead}
use Rattle.block_law.specs.Follows.{Follows}
use Rattle.block_law.specs.Laws.{MoreKinds}
use Rattle.block_law.specs.Placements.{InForm, Placement}
use Rattle.block_law.specs.Rounds.{block_steps, new_round}
use Rattle.block_law.specs.Translations.{Meaning, Permit, Code, placed}
use Rattle.block_law.proofs.Blocks.{follows_same}
use Rattle.block_law.proofs.Rules.{Always}
use Rattle.program_codegen.specs.declared.calls.Call.{Call}
use Rattle.program_codegen.specs.declared.frames.Pushed.{Pushed}
use Rattle.program_codegen.specs.declared.frames.Pushed.TheVariants as pushes
use Rattle.program_codegen.specs.declared.lines.Line.{Line}
use Rattle.program_codegen.specs.declared.points.Site.{Site}
use Rattle.program_codegen.specs.Accesses.{needed}
use Rattle.program_codegen.specs.Calls.{align_frame, argument_temp, call_at, call_block, call_lines, call_site, checks_from, count_lines, destination_of, displacement, end_of, entry_words, first_specifier, frame_of, frame_program, front_program, list_program, list_specifier, pushes_from, saved_below, specifiers_of, steps_of}
use Rattle.program_codegen.specs.CallPromises.{CompilesCall}
use Rattle.program_codegen.specs.Programs.{AllHaveWords, ReadsReady}
use Rattle.program_codegen.specs.Words.{exit_lines, plain, point_of, program_lines, with_first}
use Rattle.program_codegen.proofs.Walk.{Within}
use Rattle.program_codegen.proofs.Holding.{Holds, IsChecked, found, tree}
use Rattle.program_codegen.proofs.Starting.{holds_at_start, shown_at}
use Rattle.program_codegen.proofs.Shapes.{EachFits, each_whole, first_each}
use Rattle.program_codegen.proofs.Compiled.{within_block}
use Rattle.program_codegen.proofs.Going.{goes, goes_on, left_at}
use Rattle.program_codegen.proofs.Valuing.{IsSmallStep}
use Rattle.program_codegen.proofs.PushLaws.{ArePushable}
use Rattle.program_codegen.proofs.Middle.{Commits, IsReadyToPush, middle_follows, middle_need, pushing}
use Rattle.program_codegen.proofs.CallEnds.{keeps_top, standing_of}
use Rattle.program_codegen.proofs.CallFront.{behind, call_agrees, is_stacked, onward}
use Rattle.program_codegen.proofs.CallFacts.{CallFacts}
use Rattle.program_codegen.proofs.CallKnown.{KnowsEnd, KnowsFront, end_known, front_known}
use Rattle.program_codegen.proofs.CallOperations.{all_of, commitment_either, either_goes, either_sized, evaluation_either, front_is, is_commitment, is_either, is_evaluation, list_commits, list_placed, reads_none}
use Rattle.micro_ops.proofs.Trees.{same_back}

-- ---- what operands add is small
none_at : (number : ℕ) → slice_index no_steps number ≡ 0
none_at number = elim (cases_lt number 15) [
  | inl has ↦ get_or-replicate 15 number 0 0 has
  | inr past ↦ get_or-eq_default no_steps 0 past
]

small_with : (n addend number : ℕ) → n < 15 → IsSmallStep addend → IsSmallStep (slice_index (with_step n addend no_steps) number)
small_with n addend number low small = elim (cases_eq number n) [
  | inl is ↦ subst IsSmallStep (sym (ap (λ (k : ℕ). slice_index (with_step n addend no_steps) k) is ∙ (get_or-set_same no_steps n ((slice_index no_steps n + addend) % 2 ^ 32) 0 low ∙ (ap (λ (v : ℕ). (v + addend) % 2 ^ 32) (none_at n) ∙ whole addend small)))) small
  | inr not ↦ subst IsSmallStep (sym (get_or-set_other no_steps n number ((slice_index no_steps n + addend) % 2 ^ 32) 0 not ∙ none_at number)) (inl (lit< tt))
]
  where
    whole : (addend : ℕ) → IsSmallStep addend → (0 + addend) % 2 ^ 32 ≡ addend
    whole addend (inl few) = omega arith
    whole addend (inr many) = let below = many.1 in omega arith

small_none : (number : ℕ) → IsSmallStep (slice_index no_steps number)
small_none number = subst IsSmallStep (sym (none_at number)) (inl (lit< tt))

small_base : (base : Base) (size number : ℕ) → size ≡ 1 ⊎ size ≡ 4 → BaseIsNamed base → IsSmallStep (slice_index (steps_behind base size no_steps) number)
small_base (Deferred n) size number is named = small_none number
small_base (Offset n offset deferred) size number is named = small_none number
small_base (Fixed address deferred) size number is named = small_none number
small_base (Decrement n) size number (inl is) named = small_with n (2 ^ 32 - size) number named (inr (omega arith, omega arith))
small_base (Decrement n) size number (inr is) named = small_with n (2 ^ 32 - size) number named (inr (omega arith, omega arith))
small_base (Increment n) size number (inl is) named = small_with n size number named (inl (omega arith))
small_base (Increment n) size number (inr is) named = small_with n size number named (inl (omega arith))
small_base (IncrementDeferred n) size number is named = small_with n 4 number named (inl (lit< tt))

pub small_steps : (stack : Bool) (first : Operand) (mask entry number : ℕ) → IsFit (first_specifier stack first) → IsSmallStep (slice_index (steps_of (record { first = first; stack = stack; mask = mask; entry = entry })) number)
small_steps true (Place base index) mask entry number fit = small_base base 4 number (inr refl) fit.registers.0
small_steps false (Place base index) mask entry number fit = small_base base 1 number (inl refl) fit.registers.0
small_steps true (Value value) mask entry number fit = small_none number
small_steps false (Value value) mask entry number fit = small_none number
small_steps true (Register n) mask entry number fit = small_none number
small_steps false (Register n) mask entry number fit = small_none number
small_steps true (Target address) mask entry number fit = small_none number
small_steps false (Target address) mask entry number fit = small_none number
small_steps true Unused mask entry number fit = small_none number
small_steps false Unused mask entry number fit = small_none number

-- ---- the frame
pushable : (steps : List ℕ) → ((number : ℕ) → IsSmallStep (slice_index steps number)) → (count mask : ℕ) → count ≤ 12 → (later : List Pushed) → ArePushable steps later
    → ArePushable steps (saved_below count mask ++ later) × (length (saved_below count mask ++ later) ≤ count + length later) × (length later ≤ length (saved_below count mask ++ later))
unfolding saved_below
pushable steps small zero mask le later are = (are, omega arith, omega arith)
pushable steps small (suc count) mask le later are = by (pushable steps small count mask (omega arith) later are) (is_in_mask count mask)
  where
    by : ArePushable steps (saved_below count mask ++ later) × (length (saved_below count mask ++ later) ≤ count + length later) × (length later ≤ length (saved_below count mask ++ later)) → (b : Bool)
        → ArePushable steps ((if b then pushes.Register count ∷ saved_below count mask else saved_below count mask) ++ later)
        × (length ((if b then pushes.Register count ∷ saved_below count mask else saved_below count mask) ++ later) ≤ suc count + length later)
        × (length later ≤ length ((if b then pushes.Register count ∷ saved_below count mask else saved_below count mask) ++ later))
    by rest true = let most = rest.1 in let least = rest.2 in (((omega arith, small count), rest.0), omega arith, omega arith)
    by rest false = let most = rest.1 in let least = rest.2 in (rest.0, omega arith, omega arith)

pub frame_pushable : (steps : List ℕ) → ((number : ℕ) → IsSmallStep (slice_index steps number)) → (mask : ℕ) → ArePushable steps (frame_of mask) × (length (frame_of mask) ≤ 17) × (1 ≤ length (frame_of mask))
frame_pushable steps small mask =
    let all = pushable steps small 12 mask (lit≤ tt) (pushes.After ∷ pushes.Register FP ∷ pushes.Register AP ∷ pushes.Status ∷ pushes.NoHandler ∷ []) (tt, ((lit< tt, small FP), ((lit< tt, small AP), (tt, (tt, tt))))) in
    let most = all.1 in
    let least = all.2 in
    (all.0, omega arith, omega arith)

-- ---- where the operands leave
-- behind its operands a call has changed nothing
standing_same : (p : Placement) (site : Site) (known : Known) (standing : Standing) (regs : Regs) → IsState p.begun → IsReadyToPush known → Holds p site known standing regs → standing ≡ standing_of p.begun standing.temps
standing_same p site known standing regs ok ready h =
    let shown : p.begun.r ≡ registers_shown regs = ext_get_or 0 p.begun.r (registers_shown regs) ok.registers
    (λ i lt. let few = ok.registers in h.registers i (omega arith) (ready.uncommitted i) ∙ sym (shown_at regs i (omega arith))) in
    let state : standing.state ≡ p.begun =
    h.state ∙ (ap (λ (r : List ℕ). with_core p.begun r p.begun.pc standing.state.psw) (sym shown) ∙ ap (λ (psw : ℕ). with_core p.begun p.begun.r p.begun.pc psw) (h.same_psw ready.no_codes ready.no_psw)) in
    ap (λ (s : VaxState). record { temps = standing.temps; state = s; overflowed = standing.overflowed }) state
    ∙ ap (λ (o : Bool). record { temps = standing.temps; state = p.begun; overflowed = o }) (h.no_overflow ready.no_codes)

-- what stands behind the operands
abbrev pub behind_front : Site → Call → List Line
behind_front site call =
    plain align_frame
    ∷ (checks_from site 1 (length (frame_of call.mask))
    ++ (count_lines site call.stack ++ (pushes_from site.after call (steps_of call) 1 (frame_of call.mask) ++ end_of site call (steps_of call) (length (frame_of call.mask)))))

module _ (p : Placement) (site : Site) (table : IsPageTable p.pages) (kinds : MoreKinds (needed site.byte_word 4) p.kinds) (behind_ready : site.behind ≡ all_ready) (after : site.after < 2 ^ 32) (ok : IsState p.begun)
    (call : Call) (destination : ℕ) (entry_is : call.entry ≡ (destination + 2) % 2 ^ 32) (fifteen : length (steps_of call) ≡ 15) (small : (number : ℕ) → IsSmallStep (slice_index (steps_of call) number))
    (front : KnowsFront site.sources call) (front_words : AllHaveWords site.sources (front_program call)) (list_words : AllHaveWords site.sources (list_program call.stack (steps_of call))) where
  abbrev commits : List Micro
  commits = list_program call.stack (steps_of call)

  commits_are : list_all is_either commits ≡ true
  commits_are = all_of is_commitment is_either commitment_either commits (list_commits call.stack (steps_of call))

  operands_are : list_all is_either (front_program call) ≡ true
  operands_are = all_of is_evaluation is_either evaluation_either (front_program call) (front_is call)

  reads_ready : (program : List Micro) → list_all is_either program ≡ true → ReadsReady site.before program
  reads_ready program are flag lt reads = absurd (cc (sym (reads_none flag program are) ∙ reads))

  end : KnowsEnd site.sources commits (pushing front.known)
  end = end_known site.sources call.stack (steps_of call) fifteen front.known front.ready front.goes_on front.registers

  may_commit : (temps : Temps) → Commits p site table kinds behind_ready after call (steps_of call) front.known (standing_of p.begun temps) front.ready commits
  may_commit temps = record {
    all = all_of is_either goes either_goes commits commits_are;
    sized = all_of is_either (has_bytes 4) either_sized commits commits_are;
    words = list_words;
    reads = reads_ready commits commits_are;
    goes_on = front.goes_on;
    behind = end.behind;
    walks = end.walks;
    no_codes = end.no_codes;
    no_psw = end.no_psw;
    no_fp = end.no_fp;
    no_sp = end.no_sp;
    has_frame = end.has_frame;
    agrees = keeps_top p site table kinds behind_ready call (steps_of call) temps (behind p.begun (steps_of call) ok fifteen) destination (temps (argument_temp call.stack) % 2 ^ 32) 0 ok fifteen (is_stacked p.begun (steps_of call) ok fifteen) entry_is refl;
  }

  abbrev after_front : Left → Tree
  after_front = onward p site table kinds behind_ready after call (steps_of call) front.known front.ready

  abbrev need : ℕ
  need = middle_need p site table kinds behind_ready after call (steps_of call) front.known (standing_of p.begun no_temps) front.ready (frame_of call.mask) commits

  checked_before : (standing : Standing) (regs : Regs) → Holds p site front.known standing regs → call.stack ≡ true → first_bad p.pages true (standing.temps 2) 4 ≡ None
  checked_before standing regs h is = subst (λ (check : Checked). IsChecked p.pages check standing.temps) (front.checked is) h.checked

  goes_behind : (standing : Standing) (regs : Regs) (pc : ℕ) → Within p site.behind pc (behind_front site call) → Holds p site front.known standing regs → Unit {0} → Always p None need (at_place regs pc) (after_front (left_at site standing))
  goes_behind standing regs pc w h holds =
      let frame = frame_pushable (steps_of call) small call.mask in
      let h' = subst (λ (s : Standing). Holds p site front.known s regs) (standing_same p site front.known standing regs ok front.ready h) h in
      middle_follows p site table kinds behind_ready after call (steps_of call) front.known (standing_of p.begun standing.temps) front.ready (frame_of call.mask) commits pc regs w frame.0 frame.2 frame.1
      (may_commit standing.temps) (checked_before (standing_of p.begun standing.temps) regs h') h'

  pub call_follows : (tree' : Tree) (regs : Regs) (pc : ℕ) → Within p site.behind pc (call_lines site call) → Holds p site at_start (started p.begun) regs
      → Agrees (λ (left : Left). Unit {0}) after_front (course_of (front_program call) (found p site) (started p.begun)) tree'
      → Always p None (length (program_lines site [] (front_program call)) + need) (at_place regs pc) tree'
  call_follows tree' regs pc w h agrees n spare round fits =
      follows_same p n Plain spare round (at_place regs pc) (tree after_front (course_of (front_program call) (found p site) (started p.begun))) tree'
      (same_back _ tree' (agreed (λ (left : Left). Unit {0}) after_front (course_of (front_program call) (found p site) (started p.begun)) tree' agrees))
      (goes_on p site [] table 4 kinds after_front (λ (left : Left). Unit {0}) (front_program call) (behind_front site call) need at_start front.known (started p.begun) regs pc w (omega arith)
      (all_of is_either goes either_goes (front_program call) operands_are) (all_of is_either (has_bytes 4) either_sized (front_program call) operands_are) front_words (reads_ready (front_program call) operands_are) refl front.walks h
      (held (λ (left : Left). Unit {0}) after_front (course_of (front_program call) (found p site) (started p.begun)) tree' agrees) goes_behind n spare round fits)

-- ---- how many lines
module _ (site : Site) (call : Call) where
  -- what stands behind the program of the end
  last_count : (mask entry pushes : ℕ) → length (plain (Memory Lda 24 24 (displacement pushes)) ∷ (program_lines site [] frame_program ++ (map plain (entry_words mask) ++ exit_lines entry))) ≡ 12
  last_count mask entry pushes = refl

  total : length (call_lines site call)
      ≡ length (program_lines site [] (front_program call))
      + (length (checks_from site 1 (length (frame_of call.mask)))
      + (length (count_lines site call.stack) + (length (pushes_from site.after call (steps_of call) 1 (frame_of call.mask)) + (length (program_lines site [] (list_program call.stack (steps_of call))) + 12))) + 1)
  total =
      let ending = end_of site call (steps_of call) (length (frame_of call.mask)) in
      let pushed = pushes_from site.after call (steps_of call) 1 (frame_of call.mask) in
      let counted = count_lines site call.stack in
      let checked = checks_from site 1 (length (frame_of call.mask)) in
      let a = length-append (program_lines site [] (list_program call.stack (steps_of call))) (plain (Memory Lda 24 24 (displacement (length (frame_of call.mask)))) ∷ (program_lines site [] frame_program ++ (map plain (entry_words call.mask) ++ exit_lines call.entry))) in
      let b = length-append pushed ending in
      let c = length-append counted (pushed ++ ending) in
      let d = length-append checked (counted ++ (pushed ++ ending)) in
      let e = length-append (program_lines site [] (front_program call)) (plain align_frame ∷ (checked ++ (counted ++ (pushed ++ ending)))) in
      let f = last_count call.mask call.entry (length (frame_of call.mask)) in
      omega arith

-- ---- the block
pub operands_fit : (instr : Instr) (pages : Pages) → CallFacts instr pages → AreFit (specifiers_of (call_at instr pages))
operands_fit instr pages facts = (facts.fit, (list_fit (call_at instr pages).stack, tt))
  where
    list_fit : (stack : Bool) → IsFit (list_specifier stack)
    list_fit true = record { placed = list_placed true; registers = (lit< tt, tt) }
    list_fit false = record { placed = list_placed false; registers = (lit< tt, tt) }

module _ (instr : Instr) (before : Rules) (byte_word : Bool) (after : instr.after < 2 ^ 32) where
  abbrev site : Site
  site = call_site instr before byte_word

  -- where the pages are those of the meaning
  module _ (meaning : Meaning) (permit : Permit) (code : Code) (thread : ℕ) (state : VaxState) (held : Flags) (first : ℕ) where
    abbrev p : Placement
    p = placed meaning permit code thread state held first

    own : IsPageTable meaning.pages → MoreKinds (needed byte_word 4) (permit.kinds state.pc) → (facts : CallFacts instr meaning.pages)
        → AllHaveWords site.sources (front_program (call_at instr meaning.pages)) → AllHaveWords site.sources (list_program (call_at instr meaning.pages).stack (steps_of (call_at instr meaning.pages)))
        → EachFits site 0 (call_lines site (call_at instr meaning.pages)) → length (call_lines site (call_at instr meaning.pages)) ≤ 256
        → (n : ℕ) (regs : Regs) → length code.words ≤ most_words → Stands code (call_block instr meaning.pages before byte_word) first → IsState state
        → InForm regs → Shows regs instr.at before held state
        → ExitsLead p (call_block instr meaning.pages before byte_word).exits first all_ready
        → Follows p n Plain block_steps new_round (at_place regs first) (long_tree_for state instr meaning.pages)
    own table kinds facts front_words list_words each short n regs few stands ok form shows leads =
        let call = call_at instr meaning.pages in
        let front = front_known site.sources call (operands_fit instr meaning.pages facts) in
        let lines = call_lines site call in
        let fifteen = all_steps_length (specifiers_of call) no_steps in
        let size = total site call in
        call_follows p site table kinds refl after ok call (destination_of instr) refl fifteen (λ number. small_steps call.stack call.first call.mask call.entry number facts.fit) front front_words list_words
        (long_tree_for state instr meaning.pages) regs first
        (within_block meaning permit code thread state held first all_ready (point_of site) lines few (each_whole site 0 (with_first (point_of site) lines) (first_each site lines each)) stands leads)
        (holds_at_start p site instr.at regs form shows)
        (call_agrees p site table kinds refl after instr refl (operand_of instr 0) (destination_of instr) facts.fits facts.has ok front.known front.ready call.stack facts.is facts.fit)
        n block_steps new_round (subst (λ (m : ℕ). m ≤ 256) size short)

  pub call_compiles : (pages : Pages) → CallFacts instr pages
      → AllHaveWords site.sources (front_program (call_at instr pages)) → AllHaveWords site.sources (list_program (call_at instr pages).stack (steps_of (call_at instr pages)))
      → EachFits site 0 (call_lines site (call_at instr pages)) → length (call_lines site (call_at instr pages)) ≤ 256
      → CompilesCall instr pages before byte_word (call_block instr pages before byte_word)
  call_compiles pages facts front_words list_words each short meaning permit may code first thread n state held regs few stands at ok form shows leads =
      subst (λ (pages : Pages). IsPageTable pages → CallFacts instr pages → AllHaveWords site.sources (front_program (call_at instr pages)) → AllHaveWords site.sources (list_program (call_at instr pages).stack (steps_of (call_at instr pages)))
      → EachFits site 0 (call_lines site (call_at instr pages)) → length (call_lines site (call_at instr pages)) ≤ 256 → Stands code (call_block instr pages before byte_word) first
      → ExitsLead (placed meaning permit code thread state held first) (call_block instr pages before byte_word).exits first all_ready
      → Follows (placed meaning permit code thread state held first) n Plain block_steps new_round (at_place regs first) (long_tree_for state instr pages)) may.its_pages
      (λ table facts front_words list_words each short stands leads.
      own meaning permit code thread state held first table (subst (λ (address : ℕ). MoreKinds (needed byte_word 4) (permit.kinds address)) (sym at) may.kinds) facts front_words list_words each short n regs few stands ok form shows leads)
      may.table facts front_words list_words each short stands leads
