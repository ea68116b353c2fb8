-- A legal file split before one of its parts.
use Rattle.std.specs.Prelude.{List, [], ◌∷◌, ◌++◌}
use Rattle.bz_token.specs.declared.class.Class.TheVariants as c
use Rattle.bz_grammar.specs.declared.tree.Part.{Part}
use Rattle.bz_grammar.specs.declared.tree.Part.TheVariants as p
use Rattle.bz_grammar.specs.Legal.{LegalBuild}
use Rattle.bz_grammar.specs.Joined.{file_with}

-- the end of a text, with nothing before it
abbrev pub bare_end : Part
bare_end = p.Leaf (record { class = c.End; gap = []; token = [] })

-- the lines in front of a part of a legal file are a legal file, and so is what is after them
abbrev pub LinesSplit : Type 0
LinesSplit = (xs : List Part) (y : Part) (ys : List Part) → LegalBuild (file_with (xs ++ y ∷ ys)) → LegalBuild (file_with (xs ++ bare_end ∷ [])) × LegalBuild (file_with (y ∷ ys))
