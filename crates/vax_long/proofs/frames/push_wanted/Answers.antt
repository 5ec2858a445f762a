-- What a call frame pushes next.
use Rattle.std.proofs.Common.{◌≡◌, ℕ, ◌+◌, ◌-◌, ◌*◌, ◌%◌, ◌^◌, ◌<◌, ◌≤◌, length, Err, [], sym, ◌∙◌, ap, arith}
use Rattle.std.specs.Prelude.{slice_index}
use Rattle.vax_form.specs.Script.{Moment}
use Rattle.vax_form.specs.State.{register, SP}
use Rattle.vax_form.specs.declared.script.Stop.TheVariants.{Wants}
use Rattle.vax_meaning.specs.Memory.{low_bytes}
use Rattle.vax_long.specs.Calls.{aligned, frame_values}
use Rattle.vax_long.specs.Registers.{registers_in}
use Rattle.vax_long.proofs.Pushes.{pushed, put_at, push_wanted}
use Rattle.vax_long.proofs.frames.push_wanted.Goals as goal

same_place : (top number : ℕ) → number ≤ 18 → pushed top number ≡ (top + (2 ^ 32 - 4 * number)) % 2 ^ 32
same_place top number few = omega (arith, few)

pub returns-clause-wanted : goal.returns-clause-wanted
returns-clause-wanted c = λ pages.
    let state = c.args.state.now in
    let moment : Moment = record { state = c.args.state.now; pages = pages; replies = c.args.replies.now } in
    let made : ℕ = length c.args.replies.now in
    let top : c.aligned-top.result ≡ aligned (register SP c.args.state.now) = c.aligned-top.ensures ∙ ap aligned c.register.ensures in
    let few : made < registers_in 12 0 c.args.mask + 5 = omega (arith, c.if-made-saved_registers.false, c.saved_registers.ensures.count) in
    let fewer : made + 1 ≤ 18 = omega (arith, c.if-made-saved_registers.false, c.saved_registers.ensures.few) in
    let small : register SP c.args.state.now < 2 ^ 32 = omega (arith, c.register.ensures, c.register.type_inv) in
    let value : ℕ = slice_index (frame_values c.args.pc c.args.stack c.args.mask c.args.state.now) made in
    let place : pushed (aligned (register SP c.args.state.now)) (made + 1) ≡ (c.aligned-top.result + (2 ^ 32 - 4 * (made + 1))) % 2 ^ 32 =
    ap (λ (t : ℕ). pushed t (made + 1)) (sym top) ∙ same_place c.aligned-top.result (made + 1) fewer in
    let bytes : low_bytes 4 value ≡ c.low_bytes.result = sym (c.low_bytes.ensures.value ∙ ap (λ (v : ℕ). low_bytes 4 v) (c.from.ensures ∙ c.frame_value-value.ensures)) in
    push_wanted c.args.pc c.args.stack c.args.mask moment c.all_registers.ensures small few
    ∙ (ap (λ (a : ℕ). Err (Wants (put_at a (low_bytes 4 value)), [])) place
    ∙ ap (λ (v : ℕ). Err (Wants (put_at ((c.aligned-top.result + (2 ^ 32 - 4 * (made + 1))) % 2 ^ 32) v), [])) bytes)
