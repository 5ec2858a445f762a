use Rattle.std.proofs.Common.{[], ◌∷◌}
use Rattle.alpha_text.specs.Text.{word_text}
use Rattle.report_text.specs.Digits.{eight_digits}
use Rattle.dis_text.specs.Words.{behind_blanks, note_of}
use Rattle.dis_text.proofs.Appended.{five}
use Rattle.dis_text.proofs.code.put_word.Goals as goal

pub returns : goal.returns
returns c =
    five c.args.out.now.items (behind_blanks (eight_digits c.args.number)) (behind_blanks (eight_digits c.args.word)) (behind_blanks (word_text c.args.word))
    (note_of c.args.map.now c.args.number c.args.word) (10 ∷ [])
    c.put_number.new.out.items c.put_number-2.new.out.items c.put_word_text.new.out.items c.put_note.new.out.items _
    c.in_ok-put_number.ensures c.in_ok-put_number-2.ensures c.in_ok-put_word_text.ensures c.in_ok-put_note.ensures c.in_ok-push.ensures.items
