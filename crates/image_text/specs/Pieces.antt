-- What the pieces of a line write.
use Rattle.std.specs.Prelude.{ℕ, List, decimal}
use Rattle.image_text.specs.Lines.{address_text, number}
use Rattle.image_text.specs.declared.put.Piece.{Piece}
use Rattle.image_text.specs.declared.put.Piece.TheVariants.{Address, Digits, Number, Text}

abbrev pub piece_text : Piece → List ℕ
piece_text (Text text) = text.now
piece_text (Digits n) = decimal n
piece_text (Number n) = number n
piece_text (Address address) = address_text address
