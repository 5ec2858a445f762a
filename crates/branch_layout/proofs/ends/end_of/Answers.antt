use Rattle.std.proofs.Common.{◌≡◌, ◌∙◌, ap, arith}
use Rattle.exception_records.specs.Blocks.{BlockValue}
use Rattle.branch_layout.proofs.ends.end_of.Goals as goal

pub exit_end-requires-clause-within : goal.exit_end-requires-clause-within
exit_end-requires-clause-within c =
    let exits : c.as_slice.result.now ≡ c.args.block.now.exits = c.as_slice.ensures.value ∙ ap (λ (b : BlockValue). b.exits) c.block.view_is in
    let count = c.in-len1.len_at_least in
    rw (← exits) at c.requires.exits 0 (0, 0) (omega arith)

pub choice_end-requires-clause-within : goal.choice_end-requires-clause-within
choice_end-requires-clause-within c =
    let exits : c.as_slice.result.now ≡ c.args.block.now.exits = c.as_slice.ensures.value ∙ ap (λ (b : BlockValue). b.exits) c.block.view_is in
    let count = c.in-len2.len_at_least in
    rw (← exits) at c.requires.exits 0 (0, 0) (omega arith)

pub choice_end-requires-clause-second_within : goal.choice_end-requires-clause-second_within
choice_end-requires-clause-second_within c =
    let exits : c.as_slice.result.now ≡ c.args.block.now.exits = c.as_slice.ensures.value ∙ ap (λ (b : BlockValue). b.exits) c.block.view_is in
    let count = c.in-len2.len_at_least in
    rw (← exits) at c.requires.exits 1 (0, 0) (omega arith)
