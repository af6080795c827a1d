-- A text in pieces.
use Rattle.std.specs.Prelude.{ℕ, List, decimal, flat_map}
use Rattle.refusals.specs.declared.piece.Piece.{Piece}
use Rattle.refusals.specs.declared.piece.Piece.TheVariants.{Text, Number}

abbrev pub text_of_piece : Piece → List ℕ
text_of_piece (Text text) = text.now
text_of_piece (Number number) = decimal number

abbrev pub text_of_pieces : List Piece → List ℕ
text_of_pieces pieces = flat_map text_of_piece pieces
