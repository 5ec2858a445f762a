-- Whether a block begins at the next word.
use Rattle.std.proofs.Common.{◌+◌, if◌then◌else◌, Bool, sym, ap, ap₂, ◌∙◌}
use Rattle.prepared_code.specs.Known.{ending, in_form, is_begun, other}
use Rattle.prepared_code.proofs.flat.straight_at.Goals as goal

pub returns-then-is_inside : goal.returns-then-is_inside
returns-then-is_inside c = λ code are.
    c.in_form.ensures
    ∙ ap (λ b. if b then in_form c.args.flat else if is_begun code (c.args.place + 1) then ending (in_form c.args.flat) else other) (sym c.if-is_inside.true ∙ c.is_inside.ensures code are)

pub returns-then-is_begun : goal.returns-then-is_begun
returns-then-is_begun c = λ code are.
    c.ending.ensures ∙ ap ending c.in_form-then-is_begun.ensures
    ∙ ap₂ (λ (b d : Bool). if b then in_form c.args.flat else if d then ending (in_form c.args.flat) else other) (sym c.if-is_inside.false ∙ c.is_inside.ensures code are) (sym c.if-is_begun.true ∙ c.is_begun.ensures code are)

pub returns-else-is_begun : goal.returns-else-is_begun
returns-else-is_begun c = λ code are.
    ap₂ (λ (b d : Bool). if b then in_form c.args.flat else if d then ending (in_form c.args.flat) else other) (sym c.if-is_inside.false ∙ c.is_inside.ensures code are) (sym c.if-is_begun.false ∙ c.is_begun.ensures code are)
