-- Looking for a pair of spans that clash, one span after the other.
use Rattle.std.proofs.Common.{◌≡◌, ℕ, ◌+◌, ◌-◌, ◌<◌, false, List, ◌∷◌, Option, Some, None, length, get_or, drop, take, sym, ap, ◌∙◌, arith, add-one}
use Rattle.std.specs.Prelude.{position, option_map}
use Rattle.std.specs.Option.{option_or}
use Rattle.std.proofs.Math.Seq.{drop-cons}
use Rattle.std.proofs.lemmas.List.{take_all, length-drop}
use Rattle.image_parts.specs.declared.spans.Span.{Span}
use Rattle.image_parts.specs.Segments.{clashes, first_clash}

abbrev no_span : Span
no_span = record { start = 0; end = 0; writable = false }

spans_from : (spans : List Span) (k : ℕ) → k < length spans → drop k spans ≡ get_or spans k no_span ∷ drop (k + 1) spans
spans_from spans k within = drop-cons spans k no_span within ∙ ap (λ n. get_or spans k no_span ∷ drop n spans) (sym (add-one k))

abbrev next_pair : ℕ → Option ℕ → Option (ℕ × ℕ) → Option (ℕ × ℕ)
next_pair k next others = option_or (option_map (λ n. (k, k + 1 + n)) next) others

step : (spans : List Span) (k : ℕ) → k < length spans
    → first_clash k (drop k spans)
    ≡ next_pair k (position (clashes (get_or spans k no_span)) (take (length spans - (k + 1)) (drop (k + 1) spans))) (first_clash (k + 1) (drop (k + 1) spans))
step spans k within =
    let whole : take (length spans - (k + 1)) (drop (k + 1) spans) ≡ drop (k + 1) spans = take_all (length spans - (k + 1)) (drop (k + 1) spans) (omega (arith, length-drop (k + 1) spans)) in
    ap (first_clash k) (spans_from spans k within)
    ∙ ap (λ others. next_pair k (position (clashes (get_or spans k no_span)) others) (first_clash (k + 1) (drop (k + 1) spans))) (sym whole)

pub clash_found : (spans : List Span) (k next : ℕ) → k < length spans → first_clash k (drop k spans) ≡ first_clash 0 spans
    → Some next ≡ position (clashes (get_or spans k no_span)) (take (length spans - (k + 1)) (drop (k + 1) spans))
    → Some (k, k + 1 + next) ≡ first_clash 0 spans
clash_found spans k next within before found =
    ap (λ n. next_pair k n (first_clash (k + 1) (drop (k + 1) spans))) found ∙ sym (step spans k within) ∙ before

pub clash_later : (spans : List Span) (k : ℕ) → k < length spans → first_clash k (drop k spans) ≡ first_clash 0 spans
    → None ≡ position (clashes (get_or spans k no_span)) (take (length spans - (k + 1)) (drop (k + 1) spans))
    → first_clash (k + 1) (drop (k + 1) spans) ≡ first_clash 0 spans
clash_later spans k within before none =
    ap (λ n. next_pair k n (first_clash (k + 1) (drop (k + 1) spans))) none ∙ sym (step spans k within) ∙ before
