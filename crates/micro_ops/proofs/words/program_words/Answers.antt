use Rattle.std.proofs.Common.{◌≡◌, ◌+◌, ◌-◌, ◌∷◌, ◌∙◌, sym, ap, arith, length, get_or, drop}
use Rattle.std.proofs.lemmas.List.{at_drop_all}
use Rattle.vax_form.specs.declared.instr.Size.TheVariants.{Byte}
use Rattle.micro_ops.specs.declared.program.Arg.TheVariants.{Temp}
use Rattle.micro_ops.specs.declared.program.Micro.TheVariants.{Compute}
use Rattle.micro_ops.specs.declared.program.MicroOp.TheVariants.{Move}
use Rattle.micro_ops.specs.LeftOut.{is_used}
use Rattle.micro_ops.specs.WordCounts.{program_words}
use Rattle.micro_ops.proofs.Lists.{one_earlier}
use Rattle.micro_ops.proofs.Walks.{none_used, words_needed, words_left_out}
use Rattle.micro_ops.proofs.words.program_words.Goals as goal
use Rattle.micro_ops.proofs.words.program_words.Goals.{then-is_needed, else-is_needed}

pub loop-i-init : goal.loop-i-init
loop-i-init c =
    let program = c.args.program.now in
    let none : program_words c.args.codes (drop (length program - 0) program) ≡ 0 = at_drop_all (program_words c.args.codes) program (length program - 0) (omega arith) in
    (none_used c.args.codes program, omega (arith, none))

pub loop-i-preserved : goal.loop-i-preserved
loop-i-preserved c =
    let program = c.args.program.now in
    let rest = drop (length program - c.loop-i.i) program in
    let none = Compute 0 Move Byte (Temp 0) (Temp 0) in
    let operation = get_or program (length program - 1 - c.loop-i.i) none in
    let earlier : drop (length program - (c.loop-i.i + 1)) program ≡ operation ∷ rest = one_earlier program c.loop-i.i none c.loop-i-test.true in
    let needed = c.is_needed.ensures (is_used c.args.codes rest) c.loop-i.invariant.0 in (
      (λ number lt. c.use_from.ensures (is_used c.args.codes rest) c.loop-i.invariant.0 number lt ∙ ap (λ behind. is_used c.args.codes behind number) (sym earlier)),
      elim c.if-is_needed.branch [
        | then-is_needed w ↦
            let words = ap (program_words c.args.codes) earlier ∙ words_needed c.args.codes operation rest (sym needed ∙ w.if-is_needed.true) in
            omega (arith, words, c.loop-i.invariant.1, w.words_of.ensures, w.saturating_add-words.ensures, w.words-is)
        | else-is_needed w ↦
            let words = ap (program_words c.args.codes) earlier ∙ words_left_out c.args.codes operation rest (sym needed ∙ w.if-is_needed.false) in
            omega (arith, words, c.loop-i.invariant.1, w.words-is)
      ],
    )
