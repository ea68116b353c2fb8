-- Names joined by dots, as the functions that write them state them: forms of which each is the first part of the next one.
use Rattle.std.specs.Prelude.{ℕ, Bool, true, false, List, [], ◌∷◌, ◌++◌}
use Rattle.bz_layout.specs.Words.{Kind, Expr, Token, Form', Form, Bytes, text_of}
use Rattle.bz_layout.specs.declared.breaks.Lines.{Lines}
use Rattle.bz_layout.specs.Layout.{gap_after}
use Rattle.bz_layout.specs.private.Writings.{row_text}

abbrev pub is_lone_token : Expr → Bool
is_lone_token (Token t) = true
is_lone_token (Form' kind s parts s' items end split open_break comments) = false

abbrev pub row_written : Lines → ℕ → Form → Bytes
row_written lines m form = row_text lines form.kind form.open_break m m form.parts

-- what follows the first part of a row, where that is tokens: kind, flag, margin of the row
abbrev pub past_first : Kind → Bool → ℕ → List Expr → Bytes
past_first kind open_break m (x ∷ y ∷ ys) = gap_after kind open_break m x (y ∷ ys) ++ (text_of y ++ past_first kind open_break m (y ∷ ys))
past_first kind open_break m _ = []

abbrev pub past_front : ℕ → Form → Bytes
past_front m form = past_first form.kind form.open_break m form.parts
