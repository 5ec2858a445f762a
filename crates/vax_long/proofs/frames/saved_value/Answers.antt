-- Each turn passes one register.
use Rattle.std.proofs.Common.{◌≡◌, ℕ, suc, ◌-◌, ◌+◌, ap, sym, ◌∙◌, arith}
use Rattle.std.specs.Prelude.{slice_index}
use Rattle.vax_long.specs.Calls.{saved_values}
use Rattle.vax_long.proofs.frames.saved_value.Goals as goal

pub loop-done-preserved : goal.loop-done-preserved
loop-done-preserved c =
    let count : 12 - c.loop-done.done ≡ suc (12 - (c.loop-done.done + 1)) = omega (arith, c.loop-done-test.true) in
    sym (c.in-Some.ensures.behind c.args.state.now)
    ∙ (ap (λ (n : ℕ). slice_index (saved_values n c.args.mask c.args.state.now) c.loop-done.left) (sym count) ∙ c.loop-done.invariant)

pub returns-in-None : goal.returns-in-None
returns-in-None c =
    let count : 12 - c.loop-done.done ≡ suc (12 - (c.loop-done.done + 1)) = omega (arith, c.loop-done-test.true) in
    c.register.ensures ∙ (sym (c.in-None.ensures.here c.args.state.now)
    ∙ (ap (λ (n : ℕ). slice_index (saved_values n c.args.mask c.args.state.now) c.loop-done.left) (sym count) ∙ c.loop-done.invariant))

pub returns : goal.returns
returns c =
    let none : 12 - c.loop-done.done ≡ 0 = omega (arith, c.loop-done-test.false) in
    ap (λ (n : ℕ). slice_index (saved_values n c.args.mask c.args.state.now) c.loop-done.left) (sym none) ∙ c.loop-done.invariant
