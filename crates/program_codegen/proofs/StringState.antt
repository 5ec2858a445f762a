-- Behind the words that leave it the registers show the state behind MOVC3.
use Rattle.std.proofs.Common.{◌≡◌, ℕ, zero, suc, ◌+◌, ◌*◌, ◌/◌, ◌%◌, ◌^◌, ◌<◌, ◌≤◌, refl, sym, ap, ◌∙◌, subst, arith, List, [], ◌∷◌, length, false, true, lit<, lit≤}
use Rattle.std.specs.Prelude.{slice_index, slice_set}
use Rattle.std.proofs.lemmas.Bool.Decides.{nat_tests}
use Rattle.std.proofs.lemmas.List.{ext_get_or, length-set}
use Rattle.std.proofs.lemmas.Nat.{mod_below}
use Rattle.std.proofs.Math.Nat.{mod-eq_of_lt}
use Rattle.vt_words.specs.Quad.{sign_extended}
use Rattle.vt_words.proofs.Longwords.{extended_again, extended_low, same_extended}
use Rattle.vax_form.specs.State.{IsState, register, with_core}
use Rattle.vax_form.specs.declared.state.Flags.{Flags}
use Rattle.vax_form.specs.declared.state.VaxState.{VaxState}
use Rattle.alpha_meaning.specs.State.{Regs}
use Rattle.alpha_meaning.specs.Loops.{effects}
use Rattle.alpha_meaning.specs.Pieces.{Only}
use Rattle.exception_records.specs.Codes.{all_ready}
use Rattle.exception_records.specs.Shown.{psw_shown, registers_shown, still_held}
use Rattle.operand_programs.specs.Specifiers.{stepped, stepped_registers}
use Rattle.operand_programs.proofs.Stepped.{register_of_stepped}
use Rattle.block_law.specs.Placements.{Placement, InForm, state_behind}
use Rattle.program_codegen.specs.declared.points.Site.{Site}
use Rattle.program_codegen.specs.Strings.{behind_words, moved_words, steps_from}
use Rattle.program_codegen.proofs.Entry.{of_code}
use Rattle.program_codegen.proofs.Starting.{shown_at}
use Rattle.program_codegen.proofs.StringSteps.{AreStepped, IsFewBytes, effects_append, is_left, moved_kept, none_set, one_more, steps_done}
use Rattle.program_codegen.proofs.StringLoop.{is_moving}
use Rattle.program_codegen.proofs.StringTrees.{moved_state}

-- ---- the registers of the state
-- R0 to R5 are replaced
abbrev replaced : (source destination : ℕ) → List ℕ → List ℕ
replaced source destination r = slice_set (slice_set (slice_set (slice_set (slice_set (slice_set r 0 0) 1 source) 2 0) 3 destination) 4 0) 5 0

abbrev replaced_at : (source destination : ℕ) → List ℕ → (number : ℕ) → ℕ
replaced_at source destination r zero = 0
replaced_at source destination r (suc zero) = source
replaced_at source destination r (suc (suc zero)) = 0
replaced_at source destination r (suc (suc (suc zero))) = destination
replaced_at source destination r (suc (suc (suc (suc zero)))) = 0
replaced_at source destination r (suc (suc (suc (suc (suc zero))))) = 0
replaced_at source destination r (suc (suc (suc (suc (suc (suc k)))))) = slice_index r (suc (suc (suc (suc (suc (suc k))))))

replaced_are : (source destination : ℕ) (r : List ℕ) → length r ≡ 15 → (number : ℕ) → slice_index (replaced source destination r) number ≡ replaced_at source destination r number
replaced_are s d (a0 ∷ a1 ∷ a2 ∷ a3 ∷ a4 ∷ a5 ∷ r) fifteen zero = refl
replaced_are s d (a0 ∷ a1 ∷ a2 ∷ a3 ∷ a4 ∷ a5 ∷ r) fifteen (suc zero) = refl
replaced_are s d (a0 ∷ a1 ∷ a2 ∷ a3 ∷ a4 ∷ a5 ∷ r) fifteen (suc (suc zero)) = refl
replaced_are s d (a0 ∷ a1 ∷ a2 ∷ a3 ∷ a4 ∷ a5 ∷ r) fifteen (suc (suc (suc zero))) = refl
replaced_are s d (a0 ∷ a1 ∷ a2 ∷ a3 ∷ a4 ∷ a5 ∷ r) fifteen (suc (suc (suc (suc zero)))) = refl
replaced_are s d (a0 ∷ a1 ∷ a2 ∷ a3 ∷ a4 ∷ a5 ∷ r) fifteen (suc (suc (suc (suc (suc zero))))) = refl
replaced_are s d (a0 ∷ a1 ∷ a2 ∷ a3 ∷ a4 ∷ a5 ∷ r) fifteen (suc (suc (suc (suc (suc (suc k)))))) = refl
replaced_are s d [] fifteen number = absurd (omega arith)
replaced_are s d (a0 ∷ []) fifteen number = absurd (omega arith)
replaced_are s d (a0 ∷ a1 ∷ []) fifteen number = absurd (omega arith)
replaced_are s d (a0 ∷ a1 ∷ a2 ∷ []) fifteen number = absurd (omega arith)
replaced_are s d (a0 ∷ a1 ∷ a2 ∷ a3 ∷ []) fifteen number = absurd (omega arith)
replaced_are s d (a0 ∷ a1 ∷ a2 ∷ a3 ∷ a4 ∷ []) fifteen number = absurd (omega arith)

replaced_length : (s d : ℕ) (r : List ℕ) → length (replaced s d r) ≡ length r
replaced_length s d r =
    length-set (slice_set (slice_set (slice_set (slice_set (slice_set r 0 0) 1 s) 2 0) 3 d) 4 0) 5 0
    ∙ (length-set (slice_set (slice_set (slice_set (slice_set r 0 0) 1 s) 2 0) 3 d) 4 0
    ∙ (length-set (slice_set (slice_set (slice_set r 0 0) 1 s) 2 0) 3 d ∙ (length-set (slice_set (slice_set r 0 0) 1 s) 2 0 ∙ (length-set (slice_set r 0 0) 1 s ∙ length-set r 0 0))))

stepped_length : (r steps : List ℕ) → length (stepped_registers r steps) ≡ length r
stepped_length [] steps = refl
stepped_length (value ∷ r) [] = refl
stepped_length (value ∷ r) (step ∷ steps) = ap suc (stepped_length r steps)

-- ---- where the words begin
-- the registers show the state before, and hold the length and both addresses
pub record IsChecked (begun : VaxState) (count source destination : ℕ) (f : Regs) : Type 0 where
  pub form : InForm f
  pub registers : (number : ℕ) → number < 15 → register number begun ≡ f number % 2 ^ 32
  pub upper : begun.psw / 16 ≡ f 20 / 16
  pub count_in : f 21 ≡ count
  pub source_in : f 22 ≡ source
  pub destination_in : f 23 ≡ destination

module _ (p : Placement) (site : Site) (behind_ready : site.behind ≡ all_ready) (ok : IsState p.begun) (count source destination : ℕ) (steps : List ℕ) (fifteen : length steps ≡ 15)
    (few : (number : ℕ) → IsFewBytes (slice_index steps number)) where
  abbrev pub end_state : VaxState
  end_state = moved_state site.after count source destination (stepped steps p.begun)

  abbrev r : List ℕ
  r = stepped_registers p.begun.r steps

  r_fifteen : length r ≡ 15
  r_fifteen = stepped_length p.begun.r steps ∙ ok.registers

  abbrev value : (number : ℕ) → ℕ
  value = replaced_at ((source + count) % 2 ^ 32) ((destination + count) % 2 ^ 32) r

  at_step : (number : ℕ) → slice_index r number ≡ (register number p.begun + slice_index steps number) % 2 ^ 32
  at_step number = register_of_stepped p.begun.r steps number (fifteen ∙ sym ok.registers)

  value_fits : (number : ℕ) → value number < 2 ^ 32
  value_fits zero = lit< tt
  value_fits (suc zero) = mod_below (source + count) (2 ^ 32) (lit< tt)
  value_fits (suc (suc zero)) = lit< tt
  value_fits (suc (suc (suc zero))) = mod_below (destination + count) (2 ^ 32) (lit< tt)
  value_fits (suc (suc (suc (suc zero)))) = lit< tt
  value_fits (suc (suc (suc (suc (suc zero))))) = lit< tt
  value_fits (suc (suc (suc (suc (suc (suc k)))))) =
      subst (λ (v : ℕ). v < 2 ^ 32) (sym (at_step (suc (suc (suc (suc (suc (suc k)))))))) (mod_below (register (suc (suc (suc (suc (suc (suc k)))))) p.begun + slice_index steps (suc (suc (suc (suc (suc (suc k))))))) (2 ^ 32) (lit< tt))

  -- the registers show it, and all else that a boundary shows
  pub record Shown (g : Regs) : Type 0 where
    pub registers : (number : ℕ) → number < 15 → g number ≡ sign_extended (value number) 32
    pub n : g 16 ≡ 0
    pub z : g 17 ≡ 1
    pub v : g 18 ≡ 0
    pub c : g 19 ≡ 0
    pub upper : p.begun.psw / 16 ≡ g 20 / 16
    pub status : g 20 < 256
    pub status_only : g 20 % 16 ≡ 0
    pub zero_in : g 31 ≡ 0

  -- the loop's registers are none of these
  pub shown_still : (f g : Regs) → Only is_moving f g → Shown f → Shown g
  shown_still f g only s = record {
    registers = λ number lt. only number (low number lt) ∙ s.registers number lt;
    n = only 16 refl ∙ s.n;
    z = only 17 refl ∙ s.z;
    v = only 18 refl ∙ s.v;
    c = only 19 refl ∙ s.c;
    upper = s.upper ∙ ap (λ x. x / 16) (sym (only 20 refl));
    status = subst (λ x. x < 256) (sym (only 20 refl)) s.status;
    status_only = subst (λ x. x % 16 ≡ 0) (sym (only 20 refl)) s.status_only;
    zero_in = only 31 refl ∙ s.zero_in;
  }
    where
      low : (number : ℕ) → number < 15 → is_moving number ≡ false
      low number lt = grind (arith, nat_tests)

  module _ (g : Regs) (s : Shown g) where
    pub form_behind : InForm g
    form_behind = record {
      longwords = λ number lt. subst (λ x. sign_extended x 32 ≡ x) (sym (s.registers number lt)) (extended_again (value number));
      codes = λ number from to. of_code (λ number. g number < 2) number from to (subst (λ x. x < 2) (sym s.n) (lit< tt)) (subst (λ x. x < 2) (sym s.z) (lit< tt)) (subst (λ x. x < 2) (sym s.v) (lit< tt)) (subst (λ x. x < 2) (sym s.c) (lit< tt));
      status = s.status;
      status_only = s.status_only;
      zero = s.zero_in;
    }

    abbrev all : List ℕ
    all = replaced ((source + count) % 2 ^ 32) ((destination + count) % 2 ^ 32) r

    registers_are : all ≡ registers_shown g
    registers_are =
        let size : length all ≡ 15 = replaced_length ((source + count) % 2 ^ 32) ((destination + count) % 2 ^ 32) r ∙ r_fifteen in
        ext_get_or 0 all (registers_shown g) size (λ number lt. same number (omega arith))
      where
        same : (number : ℕ) → number < 15 → slice_index all number ≡ slice_index (registers_shown g) number
        same number lt =
            replaced_are ((source + count) % 2 ^ 32) ((destination + count) % 2 ^ 32) r r_fifteen number
            ∙ sym (shown_at g number lt ∙ (ap (λ x. x % 2 ^ 32) (s.registers number lt) ∙ (extended_low (value number) ∙ mod-eq_of_lt (value_fits number))))

    codes_are : (held : Flags) → psw_shown g all_ready held ≡ g 20 / 16 % 16 * 16 + 4
    codes_are held = rw (s.n, s.z, s.v, s.c) refl

    status_is : (held : Flags) → psw_shown g all_ready held ≡ p.begun.psw / 16 * 16 + 4
    status_is held = codes_are held ∙ by_bits p.begun.psw (g 20) s.upper s.status
      where
        by_bits : (psw x : ℕ) → psw / 16 ≡ x / 16 → x < 256 → x / 16 % 16 * 16 + 4 ≡ psw / 16 * 16 + 4
        by_bits psw x e lt = omega arith

    pub state_is : end_state ≡ state_behind p g site.after site.behind
    state_is =
        ap (λ rs. with_core p.begun rs site.after (p.begun.psw / 16 * 16 + 4)) registers_are
        ∙ (ap (λ psw. with_core p.begun (registers_shown g) site.after psw) (sym (status_is (still_held p.held p.written)))
        ∙ ap (λ rules. state_behind p g site.after rules) (sym behind_ready))

  -- ---- behind the words
  module _ (f : Regs) (checked : IsChecked p.begun count source destination f) where
    abbrev stepped_regs : Regs
    stepped_regs = effects (steps_from 6 9 steps) f

    steps_are : AreStepped 6 9 steps f (effects (steps_from 6 9 steps) f)
    steps_are = steps_done steps few 9 6 f (lit≤ tt) checked.form.longwords

    abbrev moved : Regs
    moved = effects moved_words stepped_regs

    zero_reads : stepped_regs 31 ≡ 0
    zero_reads = steps_are.above 31 (lit≤ tt) ∙ checked.form.zero

    -- a register whose step is not lost
    stepped_at : (number : ℕ) → 6 ≤ number → number < 15 → moved number ≡ sign_extended (slice_index r number) 32
    stepped_at number le lt =
        moved_kept stepped_regs number (is_one number le lt)
        ∙ (steps_are.inside number le lt ∙ ap (λ x. sign_extended x 32) (sums (f number) (register number p.begun) (slice_index steps number) (checked.registers number lt) ∙ sym (at_step number)))
      where
        is_one : (number : ℕ) → 6 ≤ number → number < 15 → is_left number ≡ true
        is_one number le lt = grind (arith, nat_tests)

        sums : (x y s : ℕ) → y ≡ x % 2 ^ 32 → (x + s) % 2 ^ 32 ≡ (y + s) % 2 ^ 32
        sums x y s e = omega arith

    end_of : (address : ℕ) → sign_extended ((address + count) % 2 ^ 64) 32 ≡ sign_extended ((address + count) % 2 ^ 32) 32
    end_of address = same_extended ((address + count) % 2 ^ 64) ((address + count) % 2 ^ 32) (low (address + count))
      where
        low : (x : ℕ) → x % 2 ^ 64 % 2 ^ 32 ≡ x % 2 ^ 32 % 2 ^ 32
        low x = omega arith

    kept_in : (number : ℕ) → 20 ≤ number → is_left number ≡ true → moved number ≡ f number
    kept_in number le left = moved_kept stepped_regs number left ∙ steps_are.above number (omega arith)

    registers_at : (number : ℕ) → number < 15 → moved number ≡ sign_extended (value number) 32
    registers_at zero lt = none_set (stepped_regs 31) zero_reads
    registers_at (suc zero) lt =
        ap (λ x. sign_extended ((x + stepped_regs 21) % 2 ^ 64) 32) (steps_are.above 22 (lit≤ tt) ∙ checked.source_in)
        ∙ (ap (λ x. sign_extended ((source + x) % 2 ^ 64) 32) (steps_are.above 21 (lit≤ tt) ∙ checked.count_in) ∙ end_of source)
    registers_at (suc (suc zero)) lt = none_set (stepped_regs 31) zero_reads
    registers_at (suc (suc (suc zero))) lt =
        ap (λ x. sign_extended ((x + stepped_regs 21) % 2 ^ 64) 32) (steps_are.above 23 (lit≤ tt) ∙ checked.destination_in)
        ∙ (ap (λ x. sign_extended ((destination + x) % 2 ^ 64) 32) (steps_are.above 21 (lit≤ tt) ∙ checked.count_in) ∙ end_of destination)
    registers_at (suc (suc (suc (suc zero)))) lt = none_set (stepped_regs 31) zero_reads
    registers_at (suc (suc (suc (suc (suc zero))))) lt = none_set (stepped_regs 31) zero_reads
    registers_at (suc (suc (suc (suc (suc (suc k)))))) lt = stepped_at (suc (suc (suc (suc (suc (suc k)))))) (omega arith) lt

    shown_moved : Shown moved
    shown_moved = record {
      registers = registers_at;
      n = none_set (stepped_regs 31) zero_reads;
      z = one_more (stepped_regs 31) zero_reads;
      v = none_set (stepped_regs 31) zero_reads;
      c = none_set (stepped_regs 31) zero_reads;
      upper = checked.upper ∙ ap (λ x. x / 16) (sym (kept_in 20 (lit≤ tt) refl));
      status = subst (λ x. x < 256) (sym (kept_in 20 (lit≤ tt) refl)) checked.form.status;
      status_only = subst (λ x. x % 16 ≡ 0) (sym (kept_in 20 (lit≤ tt) refl)) checked.form.status_only;
      zero_in = kept_in 31 (lit≤ tt) refl ∙ checked.form.zero;
    }

    -- the registers behind the words show the end, and the loop's are as they were
    pub shows_end : Shown (effects (behind_words steps) f)
    shows_end = subst Shown (sym (effects_append (steps_from 6 9 steps) moved_words f)) shown_moved

    pub temporaries_stay : (number : ℕ) → 20 ≤ number → is_left number ≡ true → effects (behind_words steps) f number ≡ f number
    temporaries_stay number le left = ap (λ (h : Regs). h number) (effects_append (steps_from 6 9 steps) moved_words f) ∙ kept_in number le left
