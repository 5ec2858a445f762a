-- The ends of processors, one after the other.
use Rattle.std.proofs.Common.{◌≡◌, ◌<◌, ◌+◌, ◌++◌, ◌∷◌, [], ℕ, Bool, List, length, get_or, map, take, ap, sym, ◌∙◌}
use Rattle.std.proofs.lemmas.List.{map-append, take_more}
use Rattle.tie_switch.specs.Processors.{ProcessorValue, processor_of}
use Rattle.vest_runs.specs.Order.{end_of}

abbrev pub ends : List ProcessorValue → List (ℕ × Bool)
ends processors = map end_of (map processor_of processors)

joined : (ps : List ProcessorValue) (p : ProcessorValue) → ends (ps ++ p ∷ []) ≡ ends ps ++ end_of (processor_of p) ∷ []
joined ps p = ap (λ qs. map end_of qs) (map-append processor_of ps (p ∷ [])) ∙ map-append end_of (map processor_of ps) (processor_of p ∷ [])

pub more_ends : (processors : List ProcessorValue) (i : ℕ) (p : ProcessorValue) → i < length processors → p ≡ get_or processors i p → ends (take i processors) ++ end_of (processor_of p) ∷ [] ≡ ends (take (i + 1) processors)
more_ends processors i p within is =
    sym (joined (take i processors) p) ∙ sym (ap ends (take_more processors i p within ∙ ap (λ q. take i processors ++ q ∷ []) (sym is)))
