use Rattle.std.proofs.Common.{◌≡◌, ◌∙◌, ◌++◌, ◌∷◌, ◌+◌, ◌-◌, ◌≤◌, [], List, length, length-append, sym, subst, ap, arith}
use Rattle.std.specs.Global.{Global}
use Rattle.std.specs.Prelude.{Vec}
use Rattle.program_codegen.specs.declared.frames.Pushed.{Pushed}
use Rattle.program_codegen.specs.declared.frames.Pushed.TheVariants as pushes
use Rattle.program_codegen.specs.Calls.{saved_below}
use Rattle.program_codegen.proofs.Pushing.{saved_pushed, saved_passed, saved_all}
use Rattle.program_codegen.proofs.frames.frame_of.Goals as goal
use Rattle.program_codegen.proofs.frames.frame_of.Goals.{then-is_saved+in_ok-push, else-is_saved}

pub loop-done-preserved : goal.loop-done-preserved
loop-done-preserved c =
    let done = c.loop-done.done in
    let mask = c.args.mask in
    let lt = c.loop-done-test.true in
    let invariant = c.loop-done.invariant in
    elim c.if-is_saved.branch [
      | then-is_saved+in_ok-push w ↦ (
          let pushed = w.in_ok-push.ensures.items in
          let items = ap (λ (v : Vec Pushed Global). v.items) w.frame-is ∙ pushed in
          let few = invariant.few in
          let more = length-append c.loop-done.frame.items (pushes.Register (12 - (done + 1)) ∷ []) in
          record {
            within = omega arith;
            few = subst (λ (xs : List Pushed). length xs ≤ done + 1) (sym items) (omega arith);
            pushed = ap (λ (xs : List Pushed). xs ++ saved_below (12 - (done + 1)) mask) items
                ∙ saved_pushed c.loop-done.frame.items (saved_below 12 mask) done mask lt (sym c.is_saved.ensures ∙ w.if-is_saved.true) invariant.pushed;
          })
      | else-is_saved w ↦ (
          let items = ap (λ (v : Vec Pushed Global). v.items) w.frame-is in
          let few = invariant.few in
          record {
            within = omega arith;
            few = subst (λ (xs : List Pushed). length xs ≤ done + 1) (sym items) (omega arith);
            pushed = ap (λ (xs : List Pushed). xs ++ saved_below (12 - (done + 1)) mask) items
                ∙ saved_passed c.loop-done.frame.items (saved_below 12 mask) done mask lt (sym c.is_saved.ensures ∙ w.if-is_saved.false) invariant.pushed;
          })
    ]

-- the rest of a frame stands behind the saved registers
pub returns-clause-frame : goal.returns-clause-frame
returns-clause-frame c =
    let invariant = c.loop-done.invariant in
    let within = invariant.within in
    let over = c.loop-done-test.false in
    let all : c.loop-done.done ≡ 12 = omega arith in
    let saved = saved_all c.loop-done.frame.items c.args.mask (subst (λ n. c.loop-done.frame.items ++ saved_below (12 - n) c.args.mask ≡ saved_below 12 c.args.mask) all invariant.pushed) in
    c.in_ok-extend_from_slice.ensures.items ∙ ap (λ (xs : List Pushed). xs ++ (pushes.After ∷ pushes.Register 13 ∷ pushes.Register 12 ∷ pushes.Status ∷ pushes.NoHandler ∷ [])) saved
