-- The root of an expression: all that the table of shapes sees of a part is its token or its kind.
use Rattle.std.specs.Prelude.{ℕ, List, [], ◌∷◌, ◌++◌}
use Rattle.bz_token.specs.declared.class.Class.TheVariants as c
use Rattle.bz_grammar.specs.declared.tree.Part.{Part}
use Rattle.bz_grammar.specs.declared.tree.Part.TheVariants as p
use Rattle.bz_value.specs.declared.value.Expr.{Expr, Token, Form'}
use Rattle.bz_items.specs.Characters.{comma}
use Rattle.bz_value.specs.Frames.{Frame, row, sequence, compound}

-- a part without gaps that has the expression's token, or a node of its kind
abbrev pub root : Expr → Part
root (Token t) = p.Leaf (record { class = t.class; gap = []; token = t.text })
root (Form' kind s parts s' items end split open_break comments) = p.Node (record { kind = kind; parts = [] })

abbrev pub mark_leaf : ℕ → Part
mark_leaf character = p.Leaf (record { class = c.Mark; gap = []; token = character ∷ [] })

-- each item with a comma after it
abbrev pub each_with_comma : List Part → List Part
each_with_comma [] = []
each_with_comma (x ∷ xs) = x ∷ mark_leaf comma ∷ each_with_comma xs

-- The row of parts that a form represents, by their roots: brackets and commas are put back. (A comma may be after
-- the last item of every sequence, and is after that of a tuple of one.) What is in a suite has shapes of its own.
abbrev pub row_in : Frame → List Part → List Part → List Part
row_in row parts items = parts
row_in (sequence opener closer) parts items = parts ++ mark_leaf opener ∷ (each_with_comma items ++ mark_leaf closer ∷ [])
row_in compound parts items = []
