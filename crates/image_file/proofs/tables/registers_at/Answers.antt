use Rattle.std.proofs.Common.{◌≡◌, ◌*◌, ◌<◌, ◌∷◌, [], ◌++◌, length, drop, ap, sym, ◌∙◌, arith}
use Rattle.std.proofs.Math.ListN.{length-set}
use Rattle.std.proofs.lemmas.List.{take_all, take_more_set}
use Rattle.image_file.specs.Limits.{FIRST_REGISTERS, REGISTER_BYTES}
use Rattle.image_file.specs.Reading.{word, table_in}
use Rattle.image_file.proofs.TableItems.{word_behind, table_more}
use Rattle.image_file.proofs.tables.registers_at.Goals as goal

pub loop-number-preserved : goal.loop-number-preserved
loop-number-preserved c =
    let number = c.loop-number.number in
    let within : number < length c.loop-number.registers = omega (arith, c.loop-number.invariant.0, c.loop-number-test.true) in
    let read = c.word_at.ensures ∙ word_behind c.args.bytes.now c.args.at (REGISTER_BYTES * number) in (
      length-set c.loop-number.registers number c.word_at.result ∙ c.loop-number.invariant.0,
      take_more_set c.loop-number.registers number c.word_at.result within
          ∙ (λ i. c.loop-number.invariant.1 i ++ read i ∷ [])
          ∙ sym (table_more REGISTER_BYTES word number (drop c.args.at c.args.bytes.now)),
    )

pub returns : goal.returns
returns c =
    let all : c.loop-number.number ≡ FIRST_REGISTERS = omega arith in
    sym (take_all c.loop-number.number c.loop-number.registers (omega (arith, c.loop-number.invariant.0)))
    ∙ c.loop-number.invariant.1
    ∙ ap (λ n. table_in REGISTER_BYTES word n (drop c.args.at c.args.bytes.now)) all
