-- Behind its operands a call follows its tree: the checks, the count, the frame, and the procedure's entry.
use Rattle.std.proofs.Common.{◌≡◌, ℕ, ◌+◌, ◌*◌, ◌/◌, ◌%◌, ◌^◌, ◌<◌, ◌≤◌, refl, sym, ap, ◌∙◌, subst, arith, List, [], ◌∷◌, ◌++◌, length, map, length-append, Some, None, Bool, true, false, lit<, lit≤}
use Rattle.std.specs.Prelude.{◌==◌, bit_and, slice_index}
use Rattle.std.specs.List.{list_all}
use Rattle.std.proofs.lemmas.Bool.Decides.{nat_tests}
use Rattle.std.proofs.lemmas.Nat.Bits.{and_high_mask}
use Rattle.vax_form.specs.PageTable.{IsPageTable}
use Rattle.vax_form.specs.Pages.{first_bad}
use Rattle.vax_form.specs.Parts.{parts}
use Rattle.vax_form.specs.State.{register}
use Rattle.vax_form.specs.Tree.{Tree}
use Rattle.vax_form.specs.declared.state.VaxState.{VaxState}
use Rattle.alpha_meaning.specs.Pieces.{Only}
use Rattle.alpha_meaning.specs.Result.{inverse}
use Rattle.alpha_meaning.specs.State.{Regs, put, at_place}
use Rattle.alpha_meaning.proofs.Registers.{put_same, put_other}
use Rattle.exception_records.specs.Codes.{all_ready}
use Rattle.micro_ops.specs.declared.known.Checked.{Checked}
use Rattle.micro_ops.specs.declared.known.Checked.TheVariants.{At}
use Rattle.micro_ops.specs.declared.known.Holding.TheVariants.{Nothing, Longword}
use Rattle.micro_ops.specs.declared.known.Known.{Known}
use Rattle.micro_ops.specs.declared.program.Micro.{Micro}
use Rattle.micro_ops.specs.Course.{AtLeaves, Leaves, write_parts}
use Rattle.micro_ops.specs.Fits.{walk}
use Rattle.micro_ops.specs.Known.{has_flag, held, is_committed, behind_write, behind_access}
use Rattle.micro_ops.specs.Meaning.{Standing, Left, course_of, with_temp, with_value}
use Rattle.micro_ops.specs.Uses.{has_bytes}
use Rattle.micro_ops.proofs.Held.{by_six}
use Rattle.vt_words.specs.Quad.{four as c4}
use Rattle.block_law.specs.Laws.{MoreKinds}
use Rattle.block_law.specs.Placements.{Placement}
use Rattle.block_law.specs.Tidy.{is_kept}
use Rattle.block_law.proofs.Rules.{Always, roomy, goes}
use Rattle.program_codegen.specs.declared.calls.Call.{Call}
use Rattle.program_codegen.specs.declared.frames.Pushed.{Pushed}
use Rattle.program_codegen.specs.declared.frames.Pushed.TheVariants as pushes
use Rattle.program_codegen.specs.declared.lines.Line.{Line}
use Rattle.program_codegen.specs.declared.points.Site.{Site}
use Rattle.program_codegen.specs.Accesses.{needed}
use Rattle.program_codegen.specs.Words.{plain, program_lines, write_by}
use Rattle.program_codegen.specs.Programs.{AllHaveWords, ReadsReady}
use Rattle.program_codegen.specs.Calls.{align_frame, checks_from, count_lines, pushes_from, status_high}
use Rattle.program_codegen.proofs.Knowing.{write_changes}
use Rattle.program_codegen.proofs.Walk.{Within, next, stands, is_inside, row_rest, row_length}
use Rattle.program_codegen.proofs.Holding.{Holds, HoldsAs, IsChecked, found, tree}
use Rattle.program_codegen.proofs.Computing.{held_still, unchanged, value_written}
use Rattle.program_codegen.proofs.Accessing.{values_outlast, writes_operand}
use Rattle.program_codegen.proofs.Going.{goes as goes_behind, left_at}
use Rattle.program_codegen.proofs.Frame.{MayPush, checked_from, pushed_from, pushes_below}
use Rattle.program_codegen.proofs.Checking.{settled, checks_frame}
use Rattle.program_codegen.proofs.Valuing.{is_pushing, value_in, IsPushable}
use Rattle.program_codegen.proofs.PushLaws.{ArePushable, pushes_frame}
use Rattle.program_codegen.proofs.FrameLeft.{frame_lines}
use Rattle.program_codegen.proofs.Composed.{entering, ends_call}

-- ---- numbers
pub aligned_down : (n : ℕ) → n < 2 ^ 32 → bit_and n (inverse 3) ≡ n / 4 * 4
aligned_down n lt = and_high_mask 64 2 (lit≤ tt) n (omega arith)

-- ---- what is pushed
-- by the state that the call found, and the place of its list
abbrev pub value_of : (after : ℕ) → Call → (steps : List ℕ) → VaxState → (list : ℕ) → Pushed → ℕ
value_of after call steps state list (pushes.Register number) = (register number state + slice_index steps number) % 2 ^ 32
value_of after call steps state list pushes.After = after
value_of after call steps state list pushes.Status = list % 4 * 2 ^ 30 + (status_high call + state.psw / 32 * 32)
value_of after call steps state list pushes.NoHandler = 0

-- what is known while a frame is pushed
abbrev pub pushing : Known → Known
pushing known = record (settled (behind_write 3 Longword known)) { temp1 = Nothing }

-- behind the operands nothing was changed yet
pub record IsReadyToPush (known : Known) : Type 0 where
  pub first : known.temp0 ≡ Longword
  pub list : known.temp2 ≡ Longword
  pub unchanged : known.changed ≡ false
  pub no_codes : known.codes ≡ false
  pub no_psw : known.psw ≡ false
  pub uncommitted : (number : ℕ) → is_committed known number ≡ false

module _ (p : Placement) (site : Site) (call : Call) (steps : List ℕ) (known : Known) (standing : Standing) (ready : IsReadyToPush known) where
  value_same : (regs : Regs) (pushed : Pushed) → IsPushable steps pushed → regs 23 ≡ standing.temps 2 → Holds p site (settled (behind_write 3 Longword known)) (with_value 3 (standing.temps 2 / 4 * 4) standing) regs
      → value_in site.after call steps regs pushed ≡ value_of site.after call steps p.begun (standing.temps 2) pushed
  value_same regs (pushes.Register number) is has h =
      let e = h.registers number is.0 ((ap (λ flags. has_flag flags number) (write_changes 3 Longword known).committed) ∙ ready.uncommitted number) in
      sums (regs number) (register number p.begun) (slice_index steps number) e
    where
      sums : (a b s : ℕ) → b ≡ a % 2 ^ 32 → (a + s) % 2 ^ 32 ≡ (b + s) % 2 ^ 32
      sums a b s e = omega arith
  value_same regs pushes.After is has h = refl
  value_same regs pushes.Status is has h =
      let same = h.same_psw ((write_changes 3 Longword known).codes ∙ ready.no_codes) ((write_changes 3 Longword known).psw ∙ ready.no_psw) in
      let upper = h.upper in
      let e : p.begun.psw / 16 ≡ regs 20 / 16 = ap (λ x. x / 16) (sym same) ∙ upper in
      ap (λ x. x % 4 * 2 ^ 30 + (status_high call + regs 20 / 32 * 32)) has ∙ ap (λ x. standing.temps 2 % 4 * 2 ^ 30 + (status_high call + x)) (halves (regs 20) p.begun.psw e)
    where
      halves : (a b : ℕ) → b / 16 ≡ a / 16 → a / 32 * 32 ≡ b / 32 * 32
      halves a b e = omega arith
  value_same regs pushes.NoHandler is has h = refl

  values_same : (regs : Regs) (frame : List Pushed) → ArePushable steps frame → regs 23 ≡ standing.temps 2 → Holds p site (settled (behind_write 3 Longword known)) (with_value 3 (standing.temps 2 / 4 * 4) standing) regs
      → map (value_in site.after call steps regs) frame ≡ map (value_of site.after call steps p.begun (standing.temps 2)) frame
  values_same regs [] are has h = refl
  values_same regs (pushed ∷ frame) are has h =
      ap (λ v. v ∷ map (value_in site.after call steps regs) frame) (value_same regs pushed are.0 has h)
      ∙ ap (λ vs. value_of site.after call steps p.begun (standing.temps 2) pushed ∷ vs) (values_same regs frame are.1 has h)

kept_not_24 : (n : ℕ) → is_kept n ≡ true → (n == 24) ≡ false
kept_not_24 n e = grind (arith, nat_tests)

other_not_24 : (temp : ℕ) → (temp == 3) ≡ false → ((21 + temp) == 24) ≡ false
other_not_24 temp e = grind (arith, nat_tests, e)

kept_not_pushing : (n : ℕ) → is_kept n ≡ true → is_pushing n ≡ false
kept_not_pushing n e = grind (arith, nat_tests)

module _ (p : Placement) (site : Site) where
  -- R24 gets the frame's top
  aligns : (known : Known) (standing : Standing) (regs : Regs) → held known 2 ≡ Longword → Holds p site known standing regs
      → Holds p site (settled (behind_write 3 Longword known)) (with_value 3 (standing.temps 2 / 4 * 4) standing) (put regs 24 (bit_and (regs 23) (inverse 3)))
  aligns known standing regs has h =
      let list = subst (λ holding. HoldsAs holding (standing.temps 2) (regs 23)) has (h.temps 2 (lit< tt)) in
      let small = list.1 in
      let is : bit_and (regs 23) (inverse 3) ≡ standing.temps 2 / 4 * 4 = ap (λ x. bit_and x (inverse 3)) list.0 ∙ aligned_down (standing.temps 2) list.1 in
      let changes = write_changes 3 Longword known in
      unchanged p site known (settled (behind_write 3 Longword known)) standing (with_temp 3 (standing.temps 2 / 4 * 4) standing.temps) regs (put regs 24 (bit_and (regs 23) (inverse 3)))
      (record { changed = changes.changed; committed = changes.committed; codes = changes.codes; psw = changes.psw; ended = changes.ended })
      (λ n kept. put_other regs 24 (bit_and (regs 23) (inverse 3)) n (kept_not_24 n kept)) (put_other regs 24 (bit_and (regs 23) (inverse 3)) 31 refl)
      (values_outlast (behind_write 3 Longword known) (with_temp 3 (standing.temps 2 / 4 * 4) standing.temps) (put regs 24 (bit_and (regs 23) (inverse 3)))
      (λ temp lt. value_written known 3 (standing.temps 2 / 4 * 4) Longword standing.temps regs (put regs 24 (bit_and (regs 23) (inverse 3))) (lit< tt)
      (put_same regs 24 (bit_and (regs 23) (inverse 3)) refl ∙ is, fits (standing.temps 2) small) temp (h.temps temp (omega arith)) (λ e. put_other regs 24 (bit_and (regs 23) (inverse 3)) (21 + temp) (other_not_24 temp e))))
      tt h
    where
      fits : (list : ℕ) → list < 2 ^ 32 → list / 4 * 4 < 2 ^ 32
      fits list small = omega arith

  -- R22 and R26 may change
  pushes_keep : (known : Known) (standing : Standing) (old new : Regs) → Only is_pushing old new → Holds p site (settled (behind_write 3 Longword known)) standing old → Holds p site (pushing known) standing new
  pushes_keep known standing old new only h =
      unchanged p site (settled (behind_write 3 Longword known)) (pushing known) standing standing.temps old new
      (record { changed = refl; committed = refl; codes = refl; psw = refl; ended = refl })
      (λ n kept. only n (kept_not_pushing n kept)) (only 31 refl)
      (by_six (λ temp. HoldsAs (held (pushing known) temp) (standing.temps temp) (new (21 + temp))) (still 0 refl (lit< tt)) tt (still 2 refl (lit< tt)) (still 3 refl (lit< tt)) tt tt)
      tt h
    where
      still : (temp : ℕ) → is_pushing (21 + temp) ≡ false → temp < 6 → HoldsAs (held (settled (behind_write 3 Longword known)) temp) (standing.temps temp) (new (21 + temp))
      still temp out lt = held_still (held (settled (behind_write 3 Longword known)) temp) (standing.temps temp) (old (21 + temp)) (new (21 + temp)) (λ some. only (21 + temp) out) (h.temps temp lt)

-- ---- the tree behind the operands
module _ (p : Placement) (site : Site) (table : IsPageTable p.pages) (kinds : MoreKinds (needed site.byte_word 4) p.kinds) (behind_ready : site.behind ≡ all_ready) (after : site.after < 2 ^ 32)
    (call : Call) (steps : List ℕ) (known : Known) (standing : Standing) (ready : IsReadyToPush known) where
  abbrev pub top : ℕ
  top = standing.temps 2 / 4 * 4

  abbrev pub aligned_standing : Standing
  aligned_standing = with_value 3 top standing

  abbrev pub frame_known : Known
  frame_known = settled (behind_write 3 Longword known)

  abbrev pub frame_tree : List Pushed → Tree → Tree
  frame_tree frame t = pushed_from top 1 (map (value_of site.after call steps p.begun (standing.temps 2)) frame) t

  abbrev pub count_tree : (stack : Bool) → Tree → Tree
  count_tree true t = tree (λ left. t) (write_parts (parts (standing.temps 2) 4) (standing.temps 0) (Leaves (left_at site standing)))
  count_tree false t = t

  abbrev pub end_tree : (pushes : ℕ) → List Micro → Tree
  end_tree pushes program = tree (entering p site table kinds behind_ready call.entry call.mask pushes) (course_of program (found p site) aligned_standing)

  -- what is asked of the program that commits what the operands added
  pub record Commits (program : List Micro) : Type 0 where
    pub all : list_all goes_behind program ≡ true
    pub sized : list_all (has_bytes 4) program ≡ true
    pub words : AllHaveWords site.sources program
    pub reads : ReadsReady site.before program
    pub goes_on : known.ended ≡ false
    pub behind : Known
    pub walks : walk site.sources (pushing known) program ≡ Some behind
    pub no_codes : behind.codes ≡ false
    pub no_psw : behind.psw ≡ false
    pub no_fp : is_committed behind 13 ≡ false
    pub no_sp : is_committed behind 14 ≡ false
    pub has_frame : held behind 3 ≡ Longword
    pub agrees : AtLeaves (λ (left : Left). left.temps 3 ≡ top) (course_of program (found p site) aligned_standing)

  abbrev pub end_need : List Micro → ℕ
  end_need program = length (program_lines site [] program) + 12

  -- the pushes of the frame, and then the end
  pub pushes_then_ends : (frame : List Pushed) (program : List Micro) (pc : ℕ) (regs : Regs)
      → Within p site.behind pc (pushes_from site.after call steps 1 frame ++ (program_lines site [] program ++ frame_lines p site behind_ready call.entry call.mask (length frame)))
      → ArePushable steps frame → 1 ≤ length frame → length frame ≤ 17 → MayPush p.pages top 1 (length frame) → Commits program
      → Holds p site frame_known aligned_standing regs
      → Always p None (length (pushes_from site.after call steps 1 frame) + end_need program) (at_place regs pc) (frame_tree frame (end_tree (length frame) program))
  pushes_then_ends frame program pc regs w are some few may c h =
      let list = subst (λ holding. HoldsAs holding (standing.temps 2) (regs 23)) ready.list (h.temps 2 (lit< tt)) in
      let has_top = (h.temps 3 (lit< tt)).0 in
      let small = (h.temps 3 (lit< tt)).1 in
      let below = pushes_below p.pages top 1 (length frame) table small (omega arith) may some in
      let longer = length-append (program_lines site [] program) (frame_lines p site behind_ready call.entry call.mask (length frame)) in
      subst (λ (vs : List ℕ). Always p None (length (pushes_from site.after call steps 1 frame) + end_need program) (at_place regs pc) (pushed_from top 1 vs (end_tree (length frame) program)))
      (values_same p site call steps known standing ready regs frame are list.0 h)
      (pushes_frame p site table kinds call steps top regs small (multiple (standing.temps 2)) has_top h.form.zero h.form.status after frame 1 (end_need program) pc
      (program_lines site [] program ++ frame_lines p site behind_ready call.entry call.mask (length frame)) regs (end_tree (length frame) program) w (longer_some longer) are (lit≤ tt) (omega arith) may (λ n out. refl)
      (λ g pc' w' only. ends_call p site table kinds behind_ready call.entry call.mask program pc' (pushing known) c.behind aligned_standing g top (length frame) w' c.all c.sized c.words c.reads c.goes_on c.walks c.no_codes c.no_psw c.no_fp c.no_sp c.has_frame
      small some few (omega arith) (pushes_keep p site known aligned_standing regs g only h) c.agrees))
    where
      multiple : (n : ℕ) → n / 4 * 4 % 4 ≡ 0
      multiple n = omega arith

      longer_some : length (program_lines site [] program ++ frame_lines p site behind_ready call.entry call.mask (length frame)) ≡ length (program_lines site [] program) + length (frame_lines p site behind_ready call.entry call.mask (length frame))
          → 1 ≤ length (program_lines site [] program ++ frame_lines p site behind_ready call.entry call.mask (length frame))
      longer_some e = omega arith

  -- another check is counted on, or none
  rechecked : (check : Checked) (regs : Regs) → IsChecked p.pages check aligned_standing.temps → Holds p site frame_known aligned_standing regs → Holds p site (record frame_known { checked = check }) aligned_standing regs
  rechecked check regs is h =
      unchanged p site frame_known (record frame_known { checked = check }) aligned_standing aligned_standing.temps regs regs
      (record { changed = refl; committed = refl; codes = refl; psw = refl; ended = refl }) (λ n kept. refl) refl (λ temp lt. h.temps temp lt) is h

  unchecked : (check : Checked) (regs : Regs) → Holds p site (behind_access (record frame_known { checked = check })) aligned_standing regs → Holds p site frame_known aligned_standing regs
  unchecked check regs h =
      unchanged p site (behind_access (record frame_known { checked = check })) frame_known aligned_standing aligned_standing.temps regs regs
      (record { changed = refl; committed = refl; codes = refl; psw = refl; ended = refl }) (λ n kept. refl) refl (λ temp lt. h.temps temp lt) tt h

  -- the push of the count before that
  pub counts_then : (stack : Bool) (need pc : ℕ) (rest : List Line) (regs : Regs) (t : Tree)
      → Within p site.behind pc (count_lines site stack ++ rest) → 1 ≤ length rest
      → (stack ≡ true → first_bad p.pages true (standing.temps 2) 4 ≡ None)
      → Holds p site frame_known aligned_standing regs
      → ((g : Regs) (pc' : ℕ) → Within p site.behind pc' rest → Holds p site frame_known aligned_standing g → Always p None need (at_place g pc') t)
      → Always p None (length (count_lines site stack) + need) (at_place regs pc) (count_tree stack t)
  counts_then false need pc rest regs t w some checked h behind = roomy p None need (0 + need) (at_place regs pc) t (omega arith) (behind regs pc w h)
  counts_then true need pc rest regs t w some checked h behind =
      let known2 = record frame_known { checked = At 2 4 true } in
      let h2 = rechecked (At 2 4 true) regs (checked refl) h in
      let code = write_by site.byte_word 23 4 21 in
      let count = row_length p site.behind code [] in
      let plain_all = length-append (map plain code) [] in
      roomy p None (length code + need) (length (map plain code) + need) (at_place regs pc) _ (omega arith)
      (writes_operand p site table 4 kinds (λ left. t) need pc 2 4 0 rest known2 aligned_standing regs (Leaves (left_at site standing)) w some
      (rw (ready.first, ready.list, ready.unchanged) refl) (record { high = lit≤ tt }) (record { high = lit≤ tt }) c4 refl h2
      (λ g h3. behind g (pc + length code) (row_rest p site.behind pc code rest w) (unchecked (At 2 4 true) g h3)))

  -- all that stands behind the operands
  abbrev pub middle_lines : (frame : List Pushed) (program : List Micro) → List Line
  middle_lines frame program =
      plain align_frame
      ∷ (checks_from site 1 (length frame)
      ++ (count_lines site call.stack ++ (pushes_from site.after call steps 1 frame ++ (program_lines site [] program ++ frame_lines p site behind_ready call.entry call.mask (length frame)))))

  abbrev pub middle_tree : (frame : List Pushed) (program : List Micro) → Tree
  middle_tree frame program = checked_from top 1 (length frame) (count_tree call.stack (frame_tree frame (end_tree (length frame) program)))

  abbrev pub middle_need : (frame : List Pushed) (program : List Micro) → ℕ
  middle_need frame program =
      length (checks_from site 1 (length frame)) + (length (count_lines site call.stack) + (length (pushes_from site.after call steps 1 frame) + end_need program)) + 1

  pub middle_follows : (frame : List Pushed) (program : List Micro) (pc : ℕ) (regs : Regs)
      → Within p site.behind pc (middle_lines frame program)
      → ArePushable steps frame → 1 ≤ length frame → length frame ≤ 17 → Commits program
      → (call.stack ≡ true → first_bad p.pages true (standing.temps 2) 4 ≡ None)
      → Holds p site known standing regs
      → Always p None (middle_need frame program) (at_place regs pc) (middle_tree frame program)
  middle_follows frame program pc regs w are some few c checked h =
      let ending = program_lines site [] program ++ frame_lines p site behind_ready call.entry call.mask (length frame) in
      let pushing_lines = pushes_from site.after call steps 1 frame ++ ending in
      let counting_lines = count_lines site call.stack ++ pushing_lines in
      let tail = checks_from site 1 (length frame) ++ counting_lines in
      let g = put regs 24 (bit_and (regs 23) (inverse 3)) in
      let h1 = aligns p site known standing regs ready.list h in
      let has_top = (h1.temps 3 (lit< tt)).0 in
      let small = (h1.temps 3 (lit< tt)).1 in
      let longer1 = length-append (program_lines site [] program) (frame_lines p site behind_ready call.entry call.mask (length frame)) in
      let longer2 = length-append (pushes_from site.after call steps 1 frame) ending in
      let longer3 = length-append (count_lines site call.stack) pushing_lines in
      let longer4 = length-append (checks_from site 1 (length frame)) counting_lines in
      let end = w.high in
      goes p None (length (checks_from site 1 (length frame)) + (length (count_lines site call.stack) + (length (pushes_from site.after call steps 1 frame) + end_need program)))
      (at_place regs pc) (at_place (put regs 24 (bit_and (regs 23) (inverse 3))) (pc + 1)) align_frame _ (stands p site.behind pc align_frame None tail w) refl (omega arith)
      (is_inside p site.behind pc (pc + 1) _ w (omega arith) (within_two longer1 longer2 longer3 longer4))
      (checks_frame p site (length frame) 1 (length (count_lines site call.stack) + (length (pushes_from site.after call steps 1 frame) + end_need program)) (pc + 1) top counting_lines (behind_write 3 Longword known) aligned_standing
      (put regs 24 (bit_and (regs 23) (inverse 3))) (count_tree call.stack (frame_tree frame (end_tree (length frame) program))) (next p site.behind pc align_frame None tail w) (some_left longer1 longer2 longer3) (lit≤ tt) (omega arith) small has_top h1
      (λ g1 pc1 w1 may top1 h2. counts_then call.stack (length (pushes_from site.after call steps 1 frame) + end_need program) pc1 pushing_lines g1 (frame_tree frame (end_tree (length frame) program)) w1 (some_pushes longer1 longer2) checked h2
      (λ g2 pc2 w2 h3. pushes_then_ends frame program pc2 g2 w2 are some few may c h3)))
    where
      some_pushes : length (program_lines site [] program ++ frame_lines p site behind_ready call.entry call.mask (length frame)) ≡ length (program_lines site [] program) + length (frame_lines p site behind_ready call.entry call.mask (length frame))
          → length (pushes_from site.after call steps 1 frame ++ (program_lines site [] program ++ frame_lines p site behind_ready call.entry call.mask (length frame)))
          ≡ length (pushes_from site.after call steps 1 frame) + length (program_lines site [] program ++ frame_lines p site behind_ready call.entry call.mask (length frame))
          → 1 ≤ length (pushes_from site.after call steps 1 frame ++ (program_lines site [] program ++ frame_lines p site behind_ready call.entry call.mask (length frame)))
      some_pushes a b = omega arith

      pushing_all : List Line
      pushing_all = pushes_from site.after call steps 1 frame ++ (program_lines site [] program ++ frame_lines p site behind_ready call.entry call.mask (length frame))

      some_left : length (program_lines site [] program ++ frame_lines p site behind_ready call.entry call.mask (length frame)) ≡ length (program_lines site [] program) + length (frame_lines p site behind_ready call.entry call.mask (length frame))
          → length pushing_all ≡ length (pushes_from site.after call steps 1 frame) + length (program_lines site [] program ++ frame_lines p site behind_ready call.entry call.mask (length frame))
          → length (count_lines site call.stack ++ pushing_all) ≡ length (count_lines site call.stack) + length pushing_all
          → 1 ≤ length (count_lines site call.stack ++ pushing_all)
      some_left a b d = omega arith

      within_two : length (program_lines site [] program ++ frame_lines p site behind_ready call.entry call.mask (length frame)) ≡ length (program_lines site [] program) + length (frame_lines p site behind_ready call.entry call.mask (length frame))
          → length pushing_all ≡ length (pushes_from site.after call steps 1 frame) + length (program_lines site [] program ++ frame_lines p site behind_ready call.entry call.mask (length frame))
          → length (count_lines site call.stack ++ pushing_all) ≡ length (count_lines site call.stack) + length pushing_all
          → length (checks_from site 1 (length frame) ++ (count_lines site call.stack ++ pushing_all)) ≡ length (checks_from site 1 (length frame)) + length (count_lines site call.stack ++ pushing_all)
          → pc + 1 < pc + length (middle_lines frame program)
      within_two a b d e = omega arith
