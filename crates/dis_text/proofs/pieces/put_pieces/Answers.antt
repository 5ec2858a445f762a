use Rattle.std.proofs.Common.{◌+◌, ◌^◌, ◌<◌, ℕ, Bool, List, Vec, Global, ◌++◌, ap, drop, subst, sym, ◌∙◌}
use Rattle.std.specs.Prelude.{filter}
use Rattle.std.specs.List.{flat_map}
use Rattle.vax_form.specs.declared.instr.Instr.{Instr}
use Rattle.dis_text.specs.Listing.{begins_in, end_of, piece_text}
use Rattle.dis_text.specs.Made.{covered_value, listed}
use Rattle.dis_text.specs.Pieces.{Piece, gap, pieces}
use Rattle.dis_text.specs.declared.covered.Covered.{Covered as CoveredCode}
use Rattle.dis_text.proofs.Lines.{all_done, filtered_in, filtered_out, instruction_done, passed_over}
use Rattle.dis_text.proofs.pieces.put_pieces.Goals as goal
use Rattle.dis_text.proofs.pieces.put_pieces.Goals.{then-begins_in+in_ok-put_gap+in_ok-put_instruction, else-begins_in}

pub loop-instr-preserved : goal.loop-instr-preserved
loop-instr-preserved c =
    let text : Piece → List ℕ = piece_text (listed c.args.listing.now) in
    let pages = c.args.listing.now.pages.now in
    let end = end_of c.args.section.now in
    let here : Instr → Bool = begins_in c.args.section.now in
    let instrs = c.args.instrs.now in
    let k = c.loop-instr.instr-index in
    let covered = covered_value c.loop-instr.covered in
    let out = c.loop-instr.out.items in
    elim c.if-begins_in.branch [
      | then-begins_in+in_ok-put_gap+in_ok-put_instruction w ↦ (
          let those = filtered_in here instrs k _ c.loop-instr-test.true (sym c.begins_in.ensures ∙ w.if-begins_in.true) in
          record {
            text = instruction_done text pages c.args.stored end covered (covered_value c.if-begins_in.covered) _ (filter here (drop (k + 1) instrs)) _ out
                w.put_gap.new.out.items c.if-begins_in.out.items _
                (ap (λ (is : List Instr). out ++ flat_map text (pieces pages c.args.stored end covered is)) (sym those) ∙ c.loop-instr.invariant.text)
                (w.in_ok-put_gap.ensures ∙ ap (λ (to : ℕ). out ++ flat_map text (gap pages c.args.stored covered to)) w.from.ensures)
                (ap (λ (v : Vec ℕ Global). v.items) w.out-is ∙ w.in_ok-put_instruction.ensures)
                w.inside.ensures
                (ap covered_value w.covered-is ∙ w.with-covered.ensures.value);
            low = subst (λ (e : CoveredCode). e.end < 2 ^ 33) (sym w.covered-is) (w.with-covered.ensures.low c.loop-instr.invariant.low);
          })
      | else-begins_in w ↦ record {
        text = passed_over text pages c.args.stored end covered (covered_value c.if-begins_in.covered) (filter here (drop k instrs)) (filter here (drop (k + 1) instrs)) out c.if-begins_in.out.items _
            (filtered_out here instrs k _ c.loop-instr-test.true (sym c.begins_in.ensures ∙ w.if-begins_in.false))
            (ap (λ (v : Vec ℕ Global). v.items) w.out-is) (ap covered_value w.covered-is) c.loop-instr.invariant.text;
        low = subst (λ (e : CoveredCode). e.end < 2 ^ 33) (sym w.covered-is) c.loop-instr.invariant.low;
      }
    ]

pub returns : goal.returns
returns c =
    let text : Piece → List ℕ = piece_text (listed c.args.listing.now) in
    let pages = c.args.listing.now.pages.now in
    let end = end_of c.args.section.now in
    let covered = covered_value c.loop-instr.covered in
    let out = c.loop-instr.out.items in
    all_done text pages c.args.stored end covered (begins_in c.args.section.now) c.args.instrs.now c.loop-instr.instr-index out _ _
    c.loop-instr-test.false c.loop-instr.invariant.text
    (c.in_ok-put_gap-2.ensures ∙ ap (λ (to : ℕ). out ++ flat_map text (gap pages c.args.stored covered to)) c.end_of.ensures.value)
