use Rattle.std.proofs.Common.{◌≡◌, ◌<◌, arith, refl, sym, ap, ◌∙◌, ◌||◌, true, false, None, [], ◌∷◌, length, get_or, take, take_all}
use Rattle.std.specs.Prelude.{if◌then◌else◌}
use Rattle.std.specs.List.{list_any}
use Rattle.std.proofs.lemmas.List.{take_more}
use Rattle.std.proofs.lemmas.List.Folds.{list_any-append}
use Rattle.micro_ops.specs.LeftOut.{flag_at, uses_now, is_needed}
use Rattle.micro_ops.specs.Uses.{is_code, replaces}
use Rattle.micro_ops.proofs.Tables.{one_more, kept_or_set}
use Rattle.micro_ops.proofs.left_out.use_from.Goals as goal

pub loop-temp-init : goal.loop-temp-init
loop-temp-init c number lt = refl

pub loop-temp-preserved : goal.loop-temp-preserved
loop-temp-preserved c number lt =
    let names = c.used_now-names.result in
    let k = c.loop-temp.temp-index in
    let temp = get_or names k None in
    let start = flag_at c.set_flag.new.flags number in
    let within : k < length names = omega (arith, c.used_now-names.ensures.long, c.loop-temp-test.true) in
    c.set_flag-in-loop-temp.ensures number lt
    ∙ ap (λ flag. if is_code number temp then true else flag) (c.loop-temp.invariant number lt)
    ∙ one_more (is_code number temp) start (list_any (is_code number) (take k names))
    ∙ ap (λ any. any || start) (sym (list_any-append (is_code number) (take k names) (temp ∷ [])))
    ∙ ap (λ xs. list_any (is_code number) xs || start) (sym (take_more names k None within))

pub returns : goal.returns
returns c later told number lt =
    let names = c.used_now-names.result in
    let start = flag_at c.set_flag.new.flags number in
    let whole : take c.loop-temp.temp-index names ≡ names = take_all c.loop-temp.temp-index names (omega (arith, c.used_now-names.ensures.long, c.loop-temp-test.false)) in
    c.loop-temp.invariant number lt
    ∙ ap (λ xs. list_any (is_code number) xs || start) whole
    ∙ ap (λ now. now || start) (c.used_now-names.ensures.names number ∙ ap (λ needed. uses_now c.args.codes needed c.args.operation number) (c.is_needed.ensures later told))
    ∙ ap (λ flag. uses_now c.args.codes (is_needed c.args.operation later) c.args.operation number || flag)
    (c.set_flag.ensures number lt ∙ ap (λ cleared. if cleared then false else flag_at c.args.used.now number) (c.replaced_by.ensures number) ∙ ap (λ flag. if replaces number c.args.operation then false else flag) (told number lt))
    ∙ kept_or_set (uses_now c.args.codes (is_needed c.args.operation later) c.args.operation number) (replaces number c.args.operation) (later number)
