-- Where they are laid out the blocks are all that a block has to be.
use Rattle.std.proofs.Common.{◌≡◌, ℕ, ◌<◌, ◌^◌, refl, subst, false, Some}
use Rattle.exception_records.specs.Codes.{all_ready}
use Rattle.exception_records.specs.Shown.{Shows}
use Rattle.exception_records.specs.declared.points.Point.{Point}
use Rattle.exception_records.specs.declared.rules.Rules.{Rules}
use Rattle.block_law.proofs.Laid as laws
use Rattle.loop_rows.specs.Copying.{MeetsAll, copy_meaning, copy_permit, copy_value, point_of}
use Rattle.loop_rows.specs.Measuring.{MeasuresAll, measured_meaning, measured_value, word_point}
use Rattle.loop_rows.proofs.Copying.{copies}
use Rattle.loop_rows.proofs.Measuring.{measures}
use Rattle.loop_rows.proofs.Shape.{copy_is_block, measured_is_block}

-- the rules of the first point
ready : (first point : Point) → first.rules ≡ all_ready → Some first ≡ Some point → point.rules ≡ all_ready
ready first point e has =
    let same : first ≡ point = cc has in
    subst (λ (p : Point). p.rules ≡ all_ready) same e

pub meets_all : (address after : ℕ) → after < 2 ^ 32 → MeetsAll address after (copy_value address after)
meets_all address after small pages code laid few rules =
    let shape = copy_is_block address after small in
    laws.is_block (copy_meaning pages after) copy_permit code address (copy_value address after) shape laid
    (λ thread n state held regs lt is_state pc form shows.
    copies address after pages code laid.first thread n state held regs few laid.stands is_state form
    (subst (λ (r : Rules). Shows regs address r held state) (ready (point_of address false) shape.first refl shape.has_first) shows)
    (laid.leads (copy_meaning pages after) copy_permit thread state held all_ready rules))

pub measures_all : (address after : ℕ) → after < 2 ^ 32 → MeasuresAll address after (measured_value address after)
measures_all address after small pages table code laid few rules =
    let shape = measured_is_block address after small in
    laws.is_block (measured_meaning pages after) copy_permit code address (measured_value address after) shape laid
    (λ thread n state held regs lt is_state pc form shows.
    measures address after pages table code laid.first thread n state held regs few laid.stands is_state form
    (subst (λ (r : Rules). Shows regs address r held state) (ready (word_point address) shape.first refl shape.has_first) shows)
    (laid.leads (measured_meaning pages after) copy_permit thread state held all_ready rules))
