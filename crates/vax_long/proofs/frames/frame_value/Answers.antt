-- The saved registers come first, and the other longwords behind them.
use Rattle.std.proofs.Common.{◌≡◌, ℕ, ◌<◌, ◌≤◌, ◌+◌, ◌-◌, ◌%◌, Bool, [], ◌∷◌, sym, ◌∙◌, ap, arith}
use Rattle.std.specs.Prelude.{slice_index}
use Rattle.vax_form.specs.State.{register, AP, FP, SP}
use Rattle.vax_form.specs.declared.state.VaxState.{VaxState}
use Rattle.vax_long.specs.Calls.{frame_status, frame_values}
use Rattle.vax_long.specs.Registers.{registers_in}
use Rattle.vax_long.proofs.Pushes.{saved_place, other_place, last_place}
use Rattle.vax_long.proofs.frames.frame_value.Goals as goal

pub returns-then-place-saved : goal.returns-then-place-saved
returns-then-place-saved c =
    let within : c.args.place < registers_in 12 0 c.args.mask = omega (arith, c.if-place-saved.true, c.saved_registers-saved.ensures.count) in
    c.saved_value.ensures ∙ sym (saved_place c.args.pc c.args.stack c.args.mask c.args.place c.args.state.now within)

-- the value behind the saved registers
there : (pc : ℕ) (stack : Bool) (mask place other : ℕ) (state : VaxState) → place ≡ registers_in 12 0 mask + other
    → slice_index (pc ∷ register FP state ∷ register AP state ∷ frame_status (register SP state % 4) stack mask state.psw ∷ 0 ∷ []) other ≡ slice_index (frame_values pc stack mask state) place
there pc stack mask place other state is =
    sym (ap (λ (n : ℕ). slice_index (frame_values pc stack mask state) n) is ∙ other_place pc stack mask other state)

pub returns-in-0 : goal.returns-in-0
returns-in-0 c =
    let is : c.args.place ≡ registers_in 12 0 c.args.mask + 0 = omega (arith, c.in-0.is, c.if-place-saved.false, c.saved_registers-saved.ensures.count) in
    there c.args.pc c.args.stack c.args.mask c.args.place 0 c.args.state.now is

pub returns-in-1 : goal.returns-in-1
returns-in-1 c =
    let is : c.args.place ≡ registers_in 12 0 c.args.mask + 1 = omega (arith, c.in-1.is, c.if-place-saved.false, c.saved_registers-saved.ensures.count) in
    c.register.ensures ∙ there c.args.pc c.args.stack c.args.mask c.args.place 1 c.args.state.now is

pub returns-in-2 : goal.returns-in-2
returns-in-2 c =
    let is : c.args.place ≡ registers_in 12 0 c.args.mask + 2 = omega (arith, c.in-2.is, c.if-place-saved.false, c.saved_registers-saved.ensures.count) in
    c.register-in-2.ensures ∙ there c.args.pc c.args.stack c.args.mask c.args.place 2 c.args.state.now is

pub returns-in-3 : goal.returns-in-3
returns-in-3 c =
    let is : c.args.place ≡ registers_in 12 0 c.args.mask + 3 = omega (arith, c.in-3.is, c.if-place-saved.false, c.saved_registers-saved.ensures.count) in
    c.frame_status.ensures
    ∙ (ap (λ (v : ℕ). frame_status (v % 4) c.args.stack c.args.mask c.args.state.now.psw) c.register-in-3.ensures
    ∙ there c.args.pc c.args.stack c.args.mask c.args.place 3 c.args.state.now is)

pub returns-in_default : goal.returns-in_default
returns-in_default c =
    let saved : ℕ = registers_in 12 0 c.args.mask in
    let past : 4 ≤ c.args.place - c.saved_registers-saved.result = omega arith in
    let few : 4 ≤ c.args.place - saved = omega (arith, past, c.saved_registers-saved.ensures.count) in
    let is : saved + (c.args.place - saved) ≡ c.args.place = omega (arith, few) in
    sym (ap (λ (n : ℕ). slice_index (frame_values c.args.pc c.args.stack c.args.mask c.args.state.now) n) (sym is) ∙ last_place c.args.pc c.args.stack c.args.mask (c.args.place - saved) c.args.state.now few)
