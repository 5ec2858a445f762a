use Rattle.std.proofs.Common.{◌≡◌, ◌++◌, ap, ◌∙◌, arith}
use Rattle.std.specs.List.{flat_map}
use Rattle.image_text.specs.Text.{interpreted_line, opcode_text}
use Rattle.image_text.proofs.Ranges.{flat_more, all_opcodes}
use Rattle.image_text.proofs.flow.put_opcodes.Goals as goal

pub loop-opcode-preserved : goal.loop-opcode-preserved
loop-opcode-preserved c =
    let opcode = c.loop-opcode.opcode in
    flat_more (interpreted_line c.args.pages.now c.args.instrs.now) c.args.out.now.items c.loop-opcode.out.items _ opcode c.loop-opcode.invariant
    (c.in_ok-put_opcode.ensures ∙ ap (λ n. c.loop-opcode.out.items ++ opcode_text opcode n) (c.of_opcodes-counts.ensures opcode c.loop-opcode-test.true))

pub returns : goal.returns
returns c =
    let all : c.loop-opcode.opcode ≡ 256 = omega arith in
    c.loop-opcode.invariant ∙ ap (λ numbers. c.args.out.now.items ++ flat_map (interpreted_line c.args.pages.now c.args.instrs.now) numbers) (all_opcodes c.loop-opcode.opcode all)
