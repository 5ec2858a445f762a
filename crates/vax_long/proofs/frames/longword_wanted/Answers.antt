-- What RET wants of an aligned frame.
use Rattle.std.proofs.Common.{◌≡◌, ℕ, ◌+◌, ◌*◌, ◌%◌, ◌^◌, ◌<◌, false, Option, Some, None, length, Err, [], ap, ◌∙◌, sym, refl, subst, arith}
use Rattle.std.specs.Option.{is_some}
use Rattle.vax_form.specs.Pages.{first_bad}
use Rattle.vax_form.specs.Script.{Moment}
use Rattle.vax_form.specs.State.{register, FP}
use Rattle.vax_form.specs.declared.script.Stop.TheVariants.{Wants}
use Rattle.vax_long.specs.Calls.{longwords_of}
use Rattle.vax_long.proofs.Pops.{behind, longword_at}
use Rattle.vax_long.proofs.Returns.{return_wants}
use Rattle.vax_long.proofs.frames.longword_wanted.Goals as goal

none_of : (bad : Option ℕ) → is_some bad ≡ false → bad ≡ None
none_of None is = refl
none_of (Some address) is = absurd (cc is)

pub returns-clause-wanted : goal.returns-clause-wanted
returns-clause-wanted c =
    let moment : Moment = record { state = c.args.state.now; pages = c.args.pages.now; replies = c.args.replies.now } in
    let made : ℕ = length c.args.replies.now in
    let frame : ℕ = (c.register-frame.result + 4) % 2 ^ 32 in
    let is : frame ≡ (register FP c.args.state.now + 4) % 2 ^ 32 = ap (λ (n : ℕ). (n + 4) % 2 ^ 32) c.register-frame.ensures in
    let aligned : frame % 4 ≡ 0 = omega (arith, c.if-frame-ne0.false) in
    let few : made < longwords_of c.args.replies.now = omega (arith, c.if-made-longwords_of.false, c.longwords_of.ensures.count) in
    let four : 4 * made + 4 ≡ 4 * (made + 1) = omega arith in
    let none : first_bad c.args.pages.now false frame (4 * made + 4) ≡ None = sym c.first_bad.ensures ∙ none_of c.first_bad.result (sym c.is_some.ensures ∙ c.if-is_some.false) in
    let may : first_bad c.args.pages.now false frame (4 * (made + 1)) ≡ None = subst (λ (n : ℕ). first_bad c.args.pages.now false frame n ≡ None) four none in
    let there : behind frame made ≡ (frame + c.from.result) % 2 ^ 32 = ap (λ (n : ℕ). (frame + n) % 2 ^ 32) (sym c.from.ensures) in
    return_wants moment frame c.all_registers.ensures is aligned few may ∙ ap (λ (a : ℕ). Err (Wants (longword_at a), [])) there
