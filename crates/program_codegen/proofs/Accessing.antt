-- Checks and references of a program in its block.
use Rattle.std.proofs.Common.{◌≡◌, ◌≢◌, ℕ, ◌+◌, ◌*◌, ◌%◌, ◌^◌, ◌<◌, ◌≤◌, refl, sym, ap, ◌∙◌, subst, arith, List, ◌∷◌, ◌++◌, length, map, Some, None, Bool, true, false}
use Rattle.std.specs.Prelude.{pos, ◌==◌, ◌&&◌, not, nat_lt, nat_le, bit_or, if◌then◌else◌}
use Rattle.std.proofs.Math.Nat.{mod-eq_of_lt}
use Rattle.std.proofs.lemmas.Bool.Decides.{nat_tests}
use Rattle.std.proofs.lemmas.Bool.{and_parts, ltb-true}
use Rattle.vt_words.specs.Quad.{IsCount, one as c1, two as c2, four as c4, eight as c8}
use Rattle.vax_form.specs.PageTable.{IsPageTable}
use Rattle.vax_form.specs.Pages.{first_bad}
use Rattle.vax_form.specs.Parts.{parts}
use Rattle.vax_form.specs.Ranges.{FitsPage}
use Rattle.vax_form.specs.Tree as trees
use Rattle.vax_form.specs.Tree.{Tree}
use Rattle.vax_form.specs.declared.state.Exception.TheVariants.{ReservedOperand}
use Rattle.alpha_encode.specs.declared.instr.AlphaInstr.TheVariants.{Branch, Pal}
use Rattle.alpha_encode.specs.declared.instr.BranchOp.TheVariants.{Beq}
use Rattle.alpha_meaning.specs.State.{Regs, put, at_place}
use Rattle.alpha_meaning.specs.Act.{target_of}
use Rattle.alpha_meaning.proofs.Registers.{put_same, put_other}
use Rattle.micro_ops.specs.declared.known.Checked.TheVariants.{At}
use Rattle.micro_ops.specs.declared.known.Holding.{Holding}
use Rattle.micro_ops.specs.declared.known.Holding.TheVariants.{Nothing, Wide, Longword}
use Rattle.micro_ops.specs.declared.known.Known.{Known}
use Rattle.micro_ops.specs.declared.program.LockedOp.{LockedOp}
use Rattle.micro_ops.specs.declared.program.LockedOp.TheVariants.{AddWord, SetBit, ClearBit}
use Rattle.micro_ops.specs.Course.{Course, Check, Ask, Fault, read_parts, write_parts}
use Rattle.micro_ops.specs.Fits.{is_count, are_apart, place_fits, reference_fits, check_fits, read_fits, write_fits, locked_fits, holding_of}
use Rattle.micro_ops.specs.Known.{held, holds, holds_longword, is_longword, is_checked, behind_write, behind_access}
use Rattle.micro_ops.specs.Meaning.{Temps, Standing, Left, with_temp, with_value, locked_count, locked_kind}
use Rattle.micro_ops.proofs.Held.{held_behind, lost_behind}
use Rattle.byte_sequences.specs.Instructions as bytes
use Rattle.byte_sequences.specs.Instructions.{is_scratch, is_scratch_or}
use Rattle.byte_sequences.specs.Plans.{read_plan, write_plan, locked_plan}
use Rattle.byte_sequences.specs.Promises as sequences
use Rattle.byte_sequences.specs.Words.{locked_code}
use Rattle.byte_sequences.proofs.LockLaws.{locks}
use Rattle.block_law.specs.Follows.{probe_count}
use Rattle.block_law.specs.Laws.{MoreKinds}
use Rattle.block_law.specs.Placements.{Placement}
use Rattle.block_law.specs.Tidy.{is_kept}
use Rattle.block_law.proofs.Blocks.{Begins, piece_terms}
use Rattle.block_law.proofs.Rules.{Always, roomy, goes, passes, skips, probes, raises, runs}
use Rattle.program_codegen.specs.declared.lines.Line.{Line}
use Rattle.program_codegen.specs.declared.points.Site.{Site}
use Rattle.program_codegen.specs.Accesses.{by_locks, needed}
use Rattle.program_codegen.specs.Words.{plain, marked, holder, copy, probing, raising, read_by, write_by}
use Rattle.program_codegen.proofs.Numbers.{all_three, all_four, all_five, copied}
use Rattle.program_codegen.proofs.Knowing.{SameChanges, write_changes, access_changes}
use Rattle.program_codegen.proofs.Walk.{Within, next, stands, row_words, row_length, is_inside}
use Rattle.program_codegen.proofs.Holding.{Holds, HoldsAs, tree}
use Rattle.program_codegen.proofs.Computing.{held_value, held_still, unchanged, checks_written, value_written}
use Rattle.program_codegen.proofs.Stores.{loads_of, loaded_of, stores_of, stored_of, reads_by, writes_by, write_kinds}
use Rattle.program_codegen.proofs.Operands.{count_some, IsUsable, usable, may_read, may_write, may_lock, begins_read, begins_write, begins_locked}

-- ---- registers
pub longword_value : (h : Holding) (v r : ℕ) → is_longword h ≡ true → HoldsAs h v r → (r ≡ v) × (v < 2 ^ 32)
longword_value Nothing v r e h = absurd (cc e)
longword_value Wide v r e h = absurd (cc e)
longword_value Longword v r e h = h

-- behind an access what the temporaries 0 to 3 held is held
pub values_outlast : (known : Known) (temps : Temps) (new : Regs) → ((temp : ℕ) → temp < 4 → HoldsAs (held known temp) (temps temp) (new (21 + temp)))
    → (temp : ℕ) → temp < 6 → HoldsAs (held (behind_access known) temp) (temps temp) (new (21 + temp))
values_outlast known temps new values temp lt = by (nat_lt temp 4) refl
  where
    by : (b : Bool) → nat_lt temp 4 ≡ b → HoldsAs (held (behind_access known) temp) (temps temp) (new (21 + temp))
    by true e = let low = ltb-true temp 4 e in subst (λ h. HoldsAs h (temps temp) (new (21 + temp))) (sym (held_behind known temp low)) (values temp low)
    by false e = let high : 4 ≤ temp = grind (arith, nat_tests, e) in subst (λ h. HoldsAs h (temps temp) (new (21 + temp))) (sym (lost_behind known temp high)) tt

written_changes : (known : Known) (to : ℕ) (holding : Holding) → SameChanges known (behind_access (behind_write to holding known))
written_changes known to holding =
    let x = write_changes to holding known in
    record { changed = x.changed; committed = x.committed; codes = x.codes; psw = x.psw; ended = x.ended }

pub kept_not_27 : (n : ℕ) → is_kept n ≡ true → (n == 27) ≡ false
kept_not_27 n e = grind (arith, nat_tests, e)

pub kept_not_scratch : (n : ℕ) → is_kept n ≡ true → is_scratch n ≡ false
kept_not_scratch n e = grind (arith, nat_tests, e)

pub kept_not_scratch_or : (to n : ℕ) → 21 ≤ to → to ≤ 24 → is_kept n ≡ true → is_scratch_or to n ≡ false
kept_not_scratch_or to n low high e = grind (arith, nat_tests, e)

pub zero_not_scratch_or : (to : ℕ) → 21 ≤ to → to ≤ 24 → is_scratch_or to 31 ≡ false
zero_not_scratch_or to low high = grind (arith, nat_tests)

temp_not_scratch : (temp : ℕ) → temp < 4 → is_scratch (21 + temp) ≡ false
temp_not_scratch temp lt = grind (arith, nat_tests)

temp_not_scratch_or : (to temp : ℕ) → temp < 4 → (temp == to) ≡ false → is_scratch_or (21 + to) (21 + temp) ≡ false
temp_not_scratch_or to temp lt e = grind (arith, nat_tests, e)

apart_of : (a b : ℕ) → (a == b) ≡ false → a ≢ b
apart_of a b e is = let same : (a == b) ≡ true = grind (arith, nat_tests) in absurd (cc (sym same ∙ e))

-- ---- a check
pub is_probed : (count : ℕ) → IsCount count → (write : Bool) (site : Site) (regs : Regs) → count ≡ probe_count (probing site count write) regs
is_probed count c1 write site regs = refl
is_probed count c2 write site regs = refl
is_probed count c4 write site regs = refl
is_probed count c8 write site regs = refl

module _ (p : Placement) (site : Site) (onward : Left → Tree) where
  pub checks : (need pc place count : ℕ) (write : Bool) (rest : List Line) (known : Known) (standing : Standing) (regs : Regs) (course : Course Left)
      → Within p site.behind pc (plain (copy (holder place) 27) ∷ marked (Pal 0x80) (probing site count write) ∷ rest) → 1 ≤ length rest
      → check_fits known place count ≡ true → place < 6 → IsCount count → Holds p site known standing regs
      → ((g : Regs) → first_bad p.pages write (standing.temps place) count ≡ None → Holds p site (behind_access (record known { checked = At place count write })) standing g → Always p None need (at_place g (pc + 2)) (tree onward course))
      → Always p None (2 + need) (at_place regs pc) (tree onward (Check (standing.temps place) count write course))
  checks need pc place count write rest known standing regs course w some fits lt is h behind =
      let x = and_parts (is_count count) (place_fits known place) fits in
      let y = and_parts (not known.changed) (holds_longword known place) x.1 in
      let v = longword_value (held known place) (standing.temps place) (regs (21 + place)) y.1 (h.temps place lt) in
      let g = put regs 27 (bit_or (regs (21 + place)) 0) in
      let w1 = next p site.behind pc (copy (holder place) 27) None (marked (Pal 0x80) (probing site count write) ∷ rest) w in
      let end = w.high in
      let two : pc + 2 ≡ pc + 1 + 1 = omega arith in
      let in_27 : put regs 27 (bit_or (regs (21 + place)) 0) 27 ≡ standing.temps place = put_same regs 27 _ refl ∙ (copied (regs (21 + place)) ∙ v.0) in
      let address_is : standing.temps place ≡ put regs 27 (bit_or (regs (21 + place)) 0) 27 % 2 ^ 32 = sym (ap (λ n. n % 2 ^ 32) in_27 ∙ mod-eq_of_lt v.1) in
      roomy p None (need + 1 + 1) (2 + need) (at_place regs pc) _ (omega arith)
      (goes p None (need + 1) (at_place regs pc) (at_place (put regs 27 (bit_or (regs (21 + place)) 0)) (pc + 1)) (copy (holder place) 27) _ (stands p site.behind pc (copy (holder place) 27) None _ w) refl (omega arith)
      (is_inside p site.behind pc (pc + 1) _ w (omega arith) (omega arith))
      (probes p None None need (standing.temps place) count write (at_place (put regs 27 (bit_or (regs (21 + place)) 0)) (pc + 1)) (tree onward course) (probing site count write) (stands p site.behind (pc + 1) (Pal 0x80) (Some (probing site count write)) rest w1) w1.has.0.1
      (is_inside p site.behind pc (pc + 1 + 1) _ w (omega arith) (omega arith)) address_is (is_probed count is write site (put regs 27 (bit_or (regs (21 + place)) 0))) refl (λ spare round fits. fits)
      (λ ok. subst (λ q. Always p None need (at_place (put regs 27 (bit_or (regs (21 + place)) 0)) q) (tree onward course)) two
      (behind (put regs 27 (bit_or (regs (21 + place)) 0)) ok
      (unchanged p site known (behind_access (record known { checked = At place count write })) standing standing.temps regs (put regs 27 (bit_or (regs (21 + place)) 0))
      (record { changed = refl; committed = refl; codes = refl; psw = refl; ended = refl })
      (λ n kept. put_other regs 27 (bit_or (regs (21 + place)) 0) n (kept_not_27 n kept)) (put_other regs 27 (bit_or (regs (21 + place)) 0) 31 refl)
      (values_outlast (record known { checked = At place count write }) standing.temps (put regs 27 (bit_or (regs (21 + place)) 0))
      (λ temp lt. held_still (held known temp) (standing.temps temp) (regs (21 + temp)) (put regs 27 (bit_or (regs (21 + place)) 0) (21 + temp)) (λ some. put_other regs 27 (bit_or (regs (21 + place)) 0) (21 + temp) (low_not_27 temp lt)) (h.temps temp (omega arith))))
      ok h)))))
    where
      low_not_27 : (temp : ℕ) → temp < 4 → ((21 + temp) == 27) ≡ false
      low_not_27 temp lt = grind (arith, nat_tests)

  -- ---- a refusal
  pub refuses : (need pc when : ℕ) (rest : List Line) (known : Known) (standing : Standing) (regs : Regs) (course : Course Left)
      → Within p site.behind pc (plain (Branch Beq (holder when) (pos 1)) ∷ marked (Pal 0x83) (raising site 0x18) ∷ rest) → 1 ≤ length rest
      → (not known.changed && holds known when) ≡ true → when < 6 → Holds p site known standing regs
      → ((standing.temps when == 0) ≡ true → Always p None need (at_place regs (pc + 2)) (tree onward course))
      → Always p None (2 + need) (at_place regs pc) (tree onward (if standing.temps when == 0 then course else Fault ReservedOperand))
  refuses need pc when rest known standing regs course w some fits lt h behind = by (standing.temps when == 0) refl
    where
      by : (b : Bool) → (standing.temps when == 0) ≡ b → Always p None (2 + need) (at_place regs pc) (tree onward (if b then course else Fault ReservedOperand))
      by true e =
          let end = w.high in
          let near = w.near in
          let v = held_value (held known when) (standing.temps when) (regs (21 + when)) (and_parts (not known.changed) (holds known when) fits).1 (h.temps when lt) in
          let jump : target_of pc (pos 1) ≡ pc + 2 = omega arith in
          roomy p None (need + 1) (2 + need) (at_place regs pc) (tree onward course) (omega arith)
          (skips p None need (at_place regs pc) Beq (holder when) (pos 1) (pc + 2) (tree onward course) (stands p site.behind pc (Branch Beq (holder when) (pos 1)) None _ w) refl (ap (λ n. n == 0) v.0 ∙ e) jump (omega arith)
          (is_inside p site.behind pc (pc + 2) _ w (omega arith) (omega arith)) (behind e))
      by false e =
          let end = w.high in
          let v = held_value (held known when) (standing.temps when) (regs (21 + when)) (and_parts (not known.changed) (holds known when) fits).1 (h.temps when lt) in
          let w1 = next p site.behind pc (Branch Beq (holder when) (pos 1)) None (marked (Pal 0x83) (raising site 0x18) ∷ rest) w in
          roomy p None (1 + 1) (2 + need) (at_place regs pc) (trees.Fault ReservedOperand) (omega arith)
          (passes p None 1 (at_place regs pc) Beq (holder when) (pos 1) (trees.Fault ReservedOperand) (stands p site.behind pc (Branch Beq (holder when) (pos 1)) None _ w) (ap (λ n. n == 0) v.0 ∙ e)
          (is_inside p site.behind pc (pc + 1) _ w (omega arith) (omega arith))
          (raises p None ReservedOperand (at_place regs (pc + 1)) (raising site 0x18) (stands p site.behind (pc + 1) (Pal 0x83) (Some (raising site 0x18)) rest w1) w1.has.0.1 refl))

-- ---- references
-- what is asked of an operand at the address in a temporary, which was checked
place_usable : (p : Placement) (site : Site) (known : Known) (standing : Standing) (regs : Regs) (place count : ℕ) (write : Bool) → place < 6 → reference_fits known place count write ≡ true → Holds p site known standing regs
    → IsUsable p.pages write (standing.temps place) count × (regs (21 + place) ≡ standing.temps place)
place_usable p site known standing regs place count write lt fits h =
    let x = and_parts (place_fits known place) (is_checked known.checked place count write) fits in
    let y = and_parts (not known.changed) (holds_longword known place) x.0 in
    let v = longword_value (held known place) (standing.temps place) (regs (21 + place)) y.1 (h.temps place lt) in
    (usable p.pages known.checked standing.temps place count write v.1 x.1 h.checked, v.0)

pub read_holds : (count value r : ℕ) → IsCount count → r ≡ value → value < 2 ^ (8 * count) → HoldsAs (holding_of (nat_le count 4)) value r
read_holds count value r c1 e lt = (e, omega arith)
read_holds count value r c2 e lt = (e, omega arith)
read_holds count value r c4 e lt = (e, lt)
read_holds count value r c8 e lt = (e, lt)

locked_holds : (kind : LockedOp) (value r : ℕ) → r ≡ value → value < 2 ^ (8 * locked_count kind) → HoldsAs Wide value r
locked_holds AddWord value r e lt = (e, omega arith)
locked_holds SetBit value r e lt = (e, omega arith)
locked_holds ClearBit value r e lt = (e, omega arith)

-- ---- a read
module _ (p : Placement) (site : Site) (table : IsPageTable p.pages) (bytes_written : ℕ) (kinds : MoreKinds (needed site.byte_word bytes_written) p.kinds) (onward : Left → Tree) where
  pub reads_operand : (need pc to place count : ℕ) (rest : List Line) (known : Known) (standing : Standing) (regs : Regs) (on : ℕ → Course Left)
      → Within p site.behind pc (map plain (read_by site.byte_word (holder place) count (holder to)) ++ rest) → 1 ≤ length rest
      → read_fits known to place count ≡ true → bytes.IsArgument (holder place) → bytes.IsArgument (holder to) → IsCount count → Holds p site known standing regs
      → ((value : ℕ) (g : Regs) → value < 2 ^ (8 * count) → Holds p site (behind_access (behind_write to (holding_of (nat_le count 4)) known)) (with_value to value standing) g
      → Always p None need (at_place g (pc + length (read_by site.byte_word (holder place) count (holder to)))) (tree onward (on value)))
      → Always p None (length (read_by site.byte_word (holder place) count (holder to)) + need) (at_place regs pc) (tree onward (read_parts (parts (standing.temps place) count) on))
  reads_operand need pc to place count rest known standing regs on w some fits a_place a_to is h behind =
      let x = all_three (is_count count) (are_apart to place) (reference_fits known place count false) fits in
      let low : 21 ≤ 21 + to = omega arith in
      let high = a_to.high in
      let below : 21 + to ≤ 24 = omega arith in
      let place_high = a_place.high in
      let to_lt : to < 6 = omega arith in
      let v = place_usable p site known standing regs place count false (omega arith) x.2 h in
      let size = count_some is in
      let count_is = row_length p site.behind (read_by site.byte_word (21 + place) count (21 + to)) rest in
      let end = w.high in
      let near = w.near in
      let may : sequences.MayRead (loaded_of site.byte_word) (piece_terms p (loads_of site.byte_word)) (regs (21 + place)) count =
      subst (λ a. sequences.MayRead (loaded_of site.byte_word) (piece_terms p (loads_of site.byte_word)) a count) (sym v.1) (may_read p table site.byte_word (standing.temps place) count is v.0) in
      runs p None need pc (length (read_by site.byte_word (21 + place) count (21 + to))) (sequences.Holds regs (21 + to) count) (loads_of site.byte_word) (λ value. tree onward (on value)) None regs (read_plan (parts (regs (21 + place)) count)) _
      w.low (omega arith) (λ q gt le. is_inside p site.behind pc q (map plain (read_by site.byte_word (21 + place) count (21 + to)) ++ rest) w gt (omega arith))
      (subst (λ a. Begins (loads_of site.byte_word) p.kinds (λ value. tree onward (on value)) None (read_plan (parts a count)) (tree onward (read_parts (parts (standing.temps place) count) on)) None) (sym v.1) (begins_read p site.byte_word bytes_written kinds onward (standing.temps place) count on size.0))
      (λ n. reads_by site.byte_word (21 + place) count (21 + to) is a_place a_to p.fetch (piece_terms p (loads_of site.byte_word)) pc regs (omega arith) may (row_words p site.behind pc (read_by site.byte_word (21 + place) count (21 + to)) rest w) n)
      (λ value g l. behind value g l.fits
      (unchanged p site known (behind_access (behind_write to (holding_of (nat_le count 4)) known)) standing (with_temp to value standing.temps) regs g
      (written_changes known to (holding_of (nat_le count 4)))
      (λ n kept. l.only n (kept_not_scratch_or (21 + to) n low below kept)) (l.only 31 (zero_not_scratch_or (21 + to) low below))
      (values_outlast (behind_write to (holding_of (nat_le count 4)) known) (with_temp to value standing.temps) g
      (λ temp lt. value_written known to value (holding_of (nat_le count 4)) standing.temps regs g to_lt (read_holds count value (g (21 + to)) is l.holds l.fits) temp
      (h.temps temp (omega arith)) (λ e. l.only (21 + temp) (temp_not_scratch_or to temp lt e))))
      (checks_written p.pages to value known.checked standing.temps h.checked) h))

  -- ---- a write
  pub writes_operand : (need pc place count source : ℕ) (rest : List Line) (known : Known) (standing : Standing) (regs : Regs) (on : Course Left)
      → Within p site.behind pc (map plain (write_by site.byte_word (holder place) count (holder source)) ++ rest) → 1 ≤ length rest
      → write_fits known place count source ≡ true → bytes.IsArgument (holder place) → bytes.IsArgument (holder source) → IsCount count → count ≡ bytes_written → Holds p site known standing regs
      → ((g : Regs) → Holds p site (behind_access known) standing g → Always p None need (at_place g (pc + length (write_by site.byte_word (holder place) count (holder source)))) (tree onward on))
      → Always p None (length (write_by site.byte_word (holder place) count (holder source)) + need) (at_place regs pc) (tree onward (write_parts (parts (standing.temps place) count) (standing.temps source) on))
  writes_operand need pc place count source rest known standing regs on w some fits a_place a_source is all_bytes h behind =
      let x = all_four (is_count count) (are_apart place source) (holds known source) (reference_fits known place count true) fits in
      let place_high = a_place.high in
      let source_high = a_source.high in
      let v = place_usable p site known standing regs place count true (omega arith) x.3 h in
      let u = held_value (held known source) (standing.temps source) (regs (21 + source)) x.2 (h.temps source (omega arith)) in
      let count_is = row_length p site.behind (write_by site.byte_word (21 + place) count (21 + source)) rest in
      let end = w.high in
      let near = w.near in
      let stores = stores_of site.byte_word (standing.temps place) count in
      let may : sequences.MayWrite (stored_of site.byte_word) (piece_terms p (stores_of site.byte_word (standing.temps place) count)) (regs (21 + place)) count =
      subst (λ a. sequences.MayWrite (stored_of site.byte_word) (piece_terms p (stores_of site.byte_word (standing.temps place) count)) a count) (sym v.1) (may_write p table site.byte_word (standing.temps place) count is v.0) in
      let each = write_kinds count p.kinds site.byte_word (subst (λ n. MoreKinds (needed site.byte_word n) p.kinds) (sym all_bytes) kinds) (standing.temps place) is in
      runs p None need pc (length (write_by site.byte_word (21 + place) count (21 + source))) (sequences.Keeps regs) stores (λ done. tree onward on) None regs (write_plan (parts (regs (21 + place)) count) (regs (21 + source))) _
      w.low (omega arith) (λ q gt le. is_inside p site.behind pc q (map plain (write_by site.byte_word (21 + place) count (21 + source)) ++ rest) w gt (omega arith))
      (subst (λ a. Begins stores p.kinds (λ (done : Unit {0}). tree onward on) None (write_plan (parts a count) (regs (21 + source))) (tree onward (write_parts (parts (standing.temps place) count) (standing.temps source) on)) None) (sym v.1)
      (subst (λ value. Begins stores p.kinds (λ (done : Unit {0}). tree onward on) None (write_plan (parts (standing.temps place) count) value) (tree onward (write_parts (parts (standing.temps place) count) (standing.temps source) on)) None) (sym u.0)
      (begins_write p site.byte_word bytes_written kinds onward stores (parts (standing.temps place) count) (standing.temps source) on each)))
      (λ n. writes_by site.byte_word (21 + place) count (21 + source) is a_place a_source p.fetch (piece_terms p stores) pc regs (omega arith) may (row_words p site.behind pc (write_by site.byte_word (21 + place) count (21 + source)) rest w) n)
      (λ done g l. behind g
      (unchanged p site known (behind_access known) standing standing.temps regs g (access_changes known)
      (λ n kept. l.only n (kept_not_scratch n kept)) (l.only 31 refl)
      (values_outlast known standing.temps g (λ temp lt. held_still (held known temp) (standing.temps temp) (regs (21 + temp)) (g (21 + temp)) (λ some. l.only (21 + temp) (temp_not_scratch temp lt)) (h.temps temp (omega arith))))
      h.checked h))

  -- ---- an interlocked change
  pub locks_operand : (need pc to place : ℕ) (kind : LockedOp) (source : ℕ) (rest : List Line) (known : Known) (standing : Standing) (regs : Regs) (on : ℕ → Course Left)
      → Within p site.behind pc (map plain (locked_code kind (holder place) (holder source) (holder to)) ++ rest) → 1 ≤ length rest
      → locked_fits known to place (locked_count kind) source ≡ true → bytes.IsArgument (holder place) → bytes.IsArgument (holder source) → bytes.IsArgument (holder to) → (place == to) ≡ false → (source == to) ≡ false
      → FitsPage p.pages (record { address = standing.temps place; count = locked_count kind; kind = locked_kind kind (standing.temps source) }) → Holds p site known standing regs
      → ((value : ℕ) (g : Regs) → value < 2 ^ (8 * locked_count kind) → Holds p site (behind_access (behind_write to Wide known)) (with_value to value standing) g
      → Always p None need (at_place g (pc + length (locked_code kind (holder place) (holder source) (holder to)))) (tree onward (on value)))
      → Always p None (length (locked_code kind (holder place) (holder source) (holder to)) + need) (at_place regs pc)
      (tree onward (Ask (record { address = standing.temps place; count = locked_count kind; kind = locked_kind kind (standing.temps source) }) (λ reply. on (reply % 2 ^ (8 * locked_count kind)))))
  locks_operand need pc to place kind source rest known standing regs on w some fits a_place a_source a_to place_apart source_apart page h behind =
      let x = all_five (are_apart to place) (are_apart place source) (are_apart source to) (holds known source) (reference_fits known place (locked_count kind) true) fits in
      let low : 21 ≤ 21 + to = omega arith in
      let high = a_to.high in
      let below : 21 + to ≤ 24 = omega arith in
      let place_high = a_place.high in
      let source_high = a_source.high in
      let to_lt : to < 6 = omega arith in
      let v = place_usable p site known standing regs place (locked_count kind) true (omega arith) x.4 h in
      let u = held_value (held known source) (standing.temps source) (regs (21 + source)) x.3 (h.temps source (omega arith)) in
      let count_is = row_length p site.behind (locked_code kind (21 + place) (21 + source) (21 + to)) rest in
      let end = w.high in
      let near = w.near in
      let lock = may_lock p table kind (standing.temps place) (standing.temps source) v.0 page in
      let may : sequences.MayLock (piece_terms p by_locks) kind (regs (21 + place)) (regs (21 + source)) =
      subst (λ a. sequences.MayLock (piece_terms p by_locks) kind a (regs (21 + source))) (sym v.1) (subst (λ n. sequences.MayLock (piece_terms p by_locks) kind (standing.temps place) n) (sym u.0) lock) in
      runs p None need pc (length (locked_code kind (21 + place) (21 + source) (21 + to))) (sequences.Holds regs (21 + to) (locked_count kind)) by_locks (λ value. tree onward (on value)) None regs (locked_plan kind (regs (21 + place)) (regs (21 + source))) _
      w.low (omega arith) (λ q gt le. is_inside p site.behind pc q (map plain (locked_code kind (21 + place) (21 + source) (21 + to)) ++ rest) w gt (omega arith))
      (subst (λ a. Begins by_locks p.kinds (λ value. tree onward (on value)) None (locked_plan kind a (regs (21 + source))) (tree onward (asked kind on)) None) (sym v.1)
      (subst (λ n. Begins by_locks p.kinds (λ value. tree onward (on value)) None (locked_plan kind (standing.temps place) n) (tree onward (asked kind on)) None) (sym u.0)
      (begins_locked p site.byte_word bytes_written kinds onward kind (standing.temps place) (standing.temps source) on lock.operand)))
      (λ n. locks kind (21 + place) (21 + source) (21 + to) a_place a_source a_to (apart_of _ _ (shifted place to place_apart)) (apart_of _ _ (shifted source to source_apart)) p.fetch (piece_terms p by_locks) pc regs (omega arith) may
      (row_words p site.behind pc (locked_code kind (21 + place) (21 + source) (21 + to)) rest w) n)
      (λ value g l. behind value g l.fits
      (unchanged p site known (behind_access (behind_write to Wide known)) standing (with_temp to value standing.temps) regs g
      (written_changes known to Wide)
      (λ n kept. l.only n (kept_not_scratch_or (21 + to) n low below kept)) (l.only 31 (zero_not_scratch_or (21 + to) low below))
      (values_outlast (behind_write to Wide known) (with_temp to value standing.temps) g
      (λ temp lt. value_written known to value Wide standing.temps regs g to_lt (locked_holds kind value (g (21 + to)) l.holds l.fits) temp
      (h.temps temp (omega arith)) (λ e. l.only (21 + temp) (temp_not_scratch_or to temp lt e))))
      (checks_written p.pages to value known.checked standing.temps h.checked) h))
    where
      asked : LockedOp → (ℕ → Course Left) → Course Left
      asked kind on = Ask (record { address = standing.temps place; count = locked_count kind; kind = locked_kind kind (standing.temps source) }) (λ reply. on (reply % 2 ^ (8 * locked_count kind)))

      shifted : (a b : ℕ) → (a == b) ≡ false → ((21 + a) == (21 + b)) ≡ false
      shifted a b e = grind (arith, nat_tests, e)
