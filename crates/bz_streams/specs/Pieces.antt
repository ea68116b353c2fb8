-- Lines on standard error of several pieces.
use Rattle.bz_items.specs.Characters.{Bytes}
use Rattle.bz_streams.specs.Controls.{escaped_text}
use Rattle.bz_streams.specs.declared.pieces.LinePiece.{LinePiece}
use Rattle.bz_streams.specs.declared.pieces.LinePiece.TheVariants as p

-- what is printed of a piece
abbrev pub line_piece_text : LinePiece → Bytes
line_piece_text (p.Own text) = text.now
line_piece_text (p.Outside text) = escaped_text text.now
