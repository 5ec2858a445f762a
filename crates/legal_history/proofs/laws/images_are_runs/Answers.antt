use Rattle.std.proofs.Common.{◌<◌, sym, subst, arith, slice_index}
use Rattle.image_file.specs.Values.{ImageValue}
use Rattle.image_file.specs.Memory.{byte_in}
use Rattle.image_file.specs.Whole.{IsWhole}
use Rattle.vax_form.specs.References.{AreBytes}
use Rattle.legal_history.proofs.Runs.{whole_is_run}
use Rattle.legal_history.proofs.laws.images_are_runs.Goals as goal

pub returns : goal.returns
returns c = λ set_up image input.
    whole_is_run set_up
    (subst IsWhole (sym image) c.requires)
    (subst (λ (i : ImageValue). AreBytes (byte_in i)) (sym image) c.image_has_bytes.ensures)
    (λ k. subst (λ bytes. slice_index bytes k < 256) (sym input) (omega (arith, c.type_inv.input k)))
