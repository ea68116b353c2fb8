-- The texts of what is in a form, as the functions that write them state them.
use Rattle.std.specs.Prelude.{ℕ, Bool, ◌&&◌, List, [], ◌∷◌, None, length, nat_eq, map, if◌then◌else◌}
use Rattle.std.specs.List.{flat_map}
use Rattle.bz_layout.specs.Words.{Kind, Expr, Form, Bytes, comma, space}
use Rattle.bz_layout.specs.Layout.{rowed, joined, stacked, is_bare, is_broken_in, is_tuple, item_margin}
use Rattle.bz_layout.specs.Written.{TextAt, piece_text, text_in}
use Rattle.bz_layout.specs.declared.breaks.Lines.{Lines}

-- each expression with its reading as a text
abbrev pub writings : Lines → List Expr → List (Expr × TextAt)
writings lines xs = map (λ x. (x, text_in lines x)) xs

-- a row, or the rest of one, with no gap before it: kind, flag, margin of the row, margin of its first part
abbrev pub row_text : Lines → Kind → Bool → ℕ → ℕ → List Expr → Bytes
row_text lines kind open_break m n xs = flat_map piece_text (rowed kind open_break m [] n (writings lines xs))

-- between an item on one line and those that follow: a lone item may have a comma
abbrev pub comma_text : Bool → List Expr → Bytes
comma_text one [] = if one then (comma ∷ []) else []
comma_text one (x ∷ xs) = comma ∷ space ∷ []

-- items on one line, and the closing bracket
abbrev pub joined_text : Lines → ℕ → ℕ → Bool → List Expr → Bytes
joined_text lines m closer one xs = flat_map piece_text (joined m [] closer one (writings lines xs))

-- items on lines of their own, end comments, and the closing bracket
abbrev pub stacked_text : Lines → Kind → ℕ → ℕ → List Bytes → List Expr → Bytes
stacked_text lines kind m closer end xs = flat_map piece_text (stacked lines kind (item_margin lines kind m) m None closer end (writings lines xs))

-- after an item of a broken sequence that isn't closed: kind, the item, those that follow
abbrev pub comma_below : Lines → Kind → Expr → List Expr → Bytes
comma_below lines kind x others = if is_bare lines kind x others then [] else (comma ∷ [])

-- between two parts before a bracket
abbrev pub space_text : List Expr → Bytes
space_text [] = []
space_text (x ∷ xs) = space ∷ []

-- what is in the sequence of a form, and its closing bracket
abbrev pub body_text : Lines → Form → ℕ → ℕ → Bytes
body_text lines f m closer =
    if is_broken_in lines f.kind f.seq.split f.seq.items f.seq.end then stacked_text lines f.kind m closer f.seq.end f.seq.items
    else joined_text lines m closer (is_tuple f.kind && nat_eq (length f.seq.items) 1) f.seq.items
