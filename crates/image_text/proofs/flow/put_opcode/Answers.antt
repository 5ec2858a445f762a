use Rattle.std.proofs.Common.{rules, ◌≡◌, ◌==◌, ◌++◌, ◌∷◌, [], ◌∙◌, ℕ, List, OnOk, false, if◌then◌else◌, ap, sym, subst, append_assoc}
use Rattle.std.specs.Prelude.{codes}
use Rattle.image_text.specs.Lines.{number}
use Rattle.image_text.specs.Text.{opcode_line}
use Rattle.image_text.proofs.flow.put_opcode.Goals as goal

pub returns : goal.returns
returns c =
    let count = c.args.count in
    let name = c.name_of.result.now in
    let other : (count == 0) ≡ false = search rules in
    let line : codes "interpreted " ++ (name ++ (number count ++ 10 ∷ [])) ≡ codes "interpreted " ++ name ++ number count ++ 10 ∷ [] = simp append_assoc in
    let text = line ∙ ap (λ (n : List ℕ). codes "interpreted " ++ n ++ number count ++ 10 ∷ []) c.name_of.ensures.name ∙ sym (ap (λ b. if b then [] else opcode_line c.args.opcode count) other) in
    subst (λ (t : List ℕ). OnOk c.put_pieces.result (c.put_pieces.new.out.items ≡ c.args.out.now.items ++ t)) text c.put_pieces.ensures
