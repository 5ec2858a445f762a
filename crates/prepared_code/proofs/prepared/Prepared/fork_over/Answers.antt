-- A block begins where the branch goes, or none.
use Rattle.std.proofs.Common.{◌≡◌, true, false, sym, ap, ◌∙◌, Some, arith}
use Rattle.std.specs.Prelude.{is_some}
use Rattle.address_map.specs.Pairs.{address_at}
use Rattle.alpha_meaning.specs.State.{at_place, regs_of}
use Rattle.prepared_code.proofs.Flats.{goes_inside}
use Rattle.prepared_code.proofs.Landed.{has_address}
use Rattle.prepared_code.proofs.prepared.Prepared.fork_over.Goals as goal

pub returns-then-begins-clause-is : goal.returns-then-begins-clause-is
returns-then-begins-clause-is g c =
    let code = c.args.self.now.code in
    let begun : is_some (address_at code.map c.way_out-cpu.result) ≡ true = sym c.begins.ensures ∙ c.if-begins.true in
    let block = has_address code.map c.way_out-cpu.result c.requires.rise begun in
    record {
      leads = c.requires.fork.goes c.args.cpu.now.r ∙ ap (λ n. Some (at_place (regs_of c.args.cpu.now.r) n)) (sym c.way_out-cpu.ensures);
      address = block.address;
      there = block.there;
      back = block.back;
    }

pub returns-else-begins-clause-is : goal.returns-else-begins-clause-is
returns-else-begins-clause-is g c =
    let code = c.args.self.now.code in
    let none : is_some (address_at code.map c.way_out-cpu.result) ≡ false = sym c.begins.ensures ∙ c.if-begins.false in (
      omega arith,
      goes_inside code (at_place (regs_of c.args.cpu.now.r) c.args.cpu.now.pc) (at_place (regs_of c.args.cpu.now.r) c.way_out-cpu.result)
          (c.requires.fork.goes c.args.cpu.now.r ∙ ap (λ n. Some (at_place (regs_of c.args.cpu.now.r) n)) (sym c.way_out-cpu.ensures)) none,
    )
