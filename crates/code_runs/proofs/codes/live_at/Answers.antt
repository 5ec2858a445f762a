use Rattle.std.proofs.Common.{◌∙◌, sym, ap}
use Rattle.cc_liveness.specs.Liveness.{live_behind}
use Rattle.cc_liveness.specs.Uses.{use_of}
use Rattle.vax_form.specs.declared.state.Flags.{Flags}
use Rattle.cc_liveness.specs.declared.uses.CodeUse.{CodeUse}
use Rattle.code_runs.specs.Runs.{instr_at}
use Rattle.code_runs.proofs.Chains.{live_found, live_last}
use Rattle.code_runs.proofs.codes.live_at.Goals as goal
use Rattle.code_runs.proofs.codes.live_at.Goals.{in-Some, in-None}

pub returns : goal.returns
returns c =
    let instrs = c.args.instrs.now in
    let place = c.args.place in
    elim c.match-joined_behind.branch [
      | in-Some w ↦
          let next = w.in-Some.next in
          live_found instrs c.requires.order place next c.live_behind.result c.match-joined_behind.wanted _ c.use_of-2.result w.use_of.result
          c.live_behind.ensures c.use_of-2.ensures (w.wanted-is ∙ w.wanted-wanted.ensures) w.use_of.ensures
          (c.requires.later next w.in-Some.ensures.later w.in-Some.ensures.within) (sym w.in-Some.ensures.value)
      | in-None w ↦
          c.live_behind.ensures
          ∙ ap (λ (u : CodeUse). live_behind u c.match-joined_behind.wanted) c.use_of-2.ensures
          ∙ ap (λ (set : Flags). live_behind (use_of (instr_at instrs place)) set) w.wanted-is
          ∙ sym (live_last instrs c.requires.order place (sym w.in-None.ensures.value))
    ]
