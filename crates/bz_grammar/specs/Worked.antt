-- Worked rows: the lines of the statements of one text.
use Rattle.std.specs.Prelude.{◌≡◌, ℕ, List, [], ◌∷◌, ◌++◌, Some, None, codes}
use Rattle.bz_token.specs.declared.class.Class.TheVariants as c
use Rattle.bz_grammar.specs.declared.kind.Kind.TheVariants as k
use Rattle.bz_grammar.specs.declared.tree.Node.{Node}
use Rattle.bz_grammar.specs.declared.tree.Part.{Part}
use Rattle.bz_grammar.specs.declared.tree.Part.TheVariants as p
use Rattle.bz_grammar.specs.Spell.{spell_node}
use Rattle.bz_grammar.specs.Statements.{line_of}

abbrev name : List ℕ → List ℕ → Part
name gap token = p.Leaf (record { class = c.Name; gap = gap; token = token })

abbrev mark : List ℕ → Part
mark token = p.Leaf (record { class = c.Mark; gap = []; token = token })

abbrev newline : Part
newline = p.Leaf (record { class = c.Newline; gap = []; token = codes "\n" })

abbrev end : Part
end = p.Leaf (record { class = c.End; gap = []; token = [] })

abbrev statement : Part → Part
statement x = p.Node (record { kind = k.Bare; parts = x ∷ [] })

abbrev line : List Part → Part
line xs = p.Node (record { kind = k.Line; parts = xs ++ newline ∷ [] })

abbrev file : Node
file =
    let first : Part = line (statement (name [] (codes "a")) ∷ []) in
    let second : Part = line (statement (name (codes "\n# c\n") (codes "b")) ∷ mark (codes ";") ∷ statement (name (codes " ") (codes "c")) ∷ []) in
    record { kind = k.File; parts = first ∷ second ∷ end ∷ [] }

-- the three statements of this text begin on lines 1, 4 and 4, and there is no other
abbrev pub WorkedLines : Type 0
WorkedLines =
    (spell_node file ≡ codes "a\n\n# c\nb; c\n")
    × (line_of file 0 ≡ Some 1) × (line_of file 1 ≡ Some 4) × (line_of file 2 ≡ Some 4) × (line_of file 3 ≡ None)
