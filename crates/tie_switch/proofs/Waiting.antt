-- What waits, and for which processors of the model it then stands.
use Rattle.std.proofs.Common.{◌≡◌, ℕ, ◌&&◌, ◌++◌, Bool, true, false, not, List, refl, sym, ap, ◌∙◌, subst}
use Rattle.system_model.specs.Processors.{Mode, Interprets, Processor, mode_of}
use Rattle.system_model.specs.Settings.{Setting}
use Rattle.vax_form.specs.declared.pages.Pages.{Pages}
use Rattle.vax_form.specs.declared.state.VaxState.{VaxState}
use Rattle.tie_operands.specs.Replies.{list_of}
use Rattle.tie_switch.specs.Live.{at_boundary}
use Rattle.tie_switch.specs.Processors.{IsInterpreting, IsMode, ProcessorValue, StandsFor, in_mode}
use Rattle.tie_switch.specs.declared.processor.Mode.{Mode as Kind}
use Rattle.tie_switch.specs.declared.processor.Mode.TheVariants as modes

-- a turn that asks for no GET doesn't wait
pub never : (waits : Bool) → false ≡ (waits && false)
never true = refl
never false = refl

-- nor does one of a processor whose budget is spent
pub none_left : (out asks : Bool) → out ≡ true → (not out && asks) ≡ false
none_left out asks is = ap (λ b. not b && asks) is

-- ---- it stands for a processor in the mode that it has
pub stands_in : (pages : Pages) (old new : ProcessorValue) (p : Processor) → p ≡ in_mode old p.mode → ((mode : Mode) → in_mode new mode ≡ in_mode old mode)
    → IsMode pages old.thread old.boundary new.mode p.mode → StandsFor pages new p
stands_in pages old new p is same mode = record {
  same = is ∙ sym (same p.mode);
  mode =
      subst (λ t. IsMode pages t new.boundary new.mode p.mode) (sym (ap (λ (x : Processor). x.thread) (same p.mode)))
      (subst (λ (b : VaxState). IsMode pages old.thread b new.mode p.mode) (sym (ap (λ (x : Processor). x.boundary) (same p.mode))) mode);
}

-- behind its start, for the one at its first boundary
pub stands_started : (setting : Setting) (pages : Pages) (old new : ProcessorValue) (p : Processor) → StandsFor pages old p → ((mode : Mode) → in_mode new mode ≡ in_mode old mode)
    → IsMode pages old.thread old.boundary new.mode (mode_of setting (in_mode old p.mode) p.mode) → StandsFor pages new (at_boundary setting p)
stands_started setting pages old new p stands same starts =
    let m = mode_of setting p p.mode in
    stands_in pages old new (at_boundary setting p) (ap (λ (x : Processor). record x { mode = m }) stands.same) same
    (subst (λ (x : Processor). IsMode pages old.thread old.boundary new.mode (mode_of setting x p.mode)) (sym stands.same) starts)

-- where it interprets
pub record Interpreting (boundary : VaxState) (mode : Mode) : Type 0 where
  pub replies : List ℕ
  pub is : mode ≡ Interprets boundary replies

pub interpreting : (pages : Pages) (thread : ℕ) (boundary : VaxState) (kind : Kind) (mode : Mode) → IsInterpreting kind → IsMode pages thread boundary kind mode → Interpreting boundary mode
interpreting pages thread boundary modes.New mode there is = absurd there
interpreting pages thread boundary (modes.Runs cpu) mode there is = absurd there
interpreting pages thread boundary (modes.Interprets interpreted reply) mode there u = record { replies = u.replies ++ list_of reply; is = u.is }
interpreting pages thread boundary (modes.Ended end) mode there is = absurd there
