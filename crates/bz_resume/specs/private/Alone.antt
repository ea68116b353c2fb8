-- Statements of a file by themselves.
use Rattle.std.specs.Prelude.{◌≡◌, ◌⊎◌, ℕ, List, [], ◌∷◌, ◌++◌, Some, slice_get}
use Rattle.std.specs.List.{AllByRecursion}
use Rattle.bz_resume.specs.Words.{Leaf, Part, Node', LegalBuild, AreWholeLines, file_with, bare_end, Edit}
use Rattle.bz_grammar.specs.declared.tree.Part.TheVariants as p

-- the part makes a legal file by itself
abbrev pub IsAlone : Part → Type 0
IsAlone (p.Leaf l) = LegalBuild (file_with (p.Leaf l ∷ []))
IsAlone (Node' k s r) = LegalBuild (file_with (Node' k s r ∷ bare_end ∷ []))

abbrev pub AreAlone : List Part → Type 0
AreAlone xs = AllByRecursion IsAlone xs

-- the part is a statement that ends with a newline of its own
abbrev pub EndsLine : Part → Type 0
EndsLine (p.Leaf l) = ⊥
EndsLine (Node' k s r) = AreWholeLines (Node' k s r ∷ [])

-- the parts are statements that each end with a newline of their own, and one leaf after them
abbrev pub AreLined : List Part → Type 0
AreLined ps = (xs : List Part) × (l : Leaf) × (ps ≡ xs ++ p.Leaf l ∷ []) × AllByRecursion EndsLine xs

-- ---- what a step touches

-- the part of a number, if there is one, makes a legal file by itself
abbrev pub IsAloneAt : List Part → ℕ → Type 0
IsAloneAt ps i = (x : Part) → slice_get ps i ≡ Some x → IsAlone x

-- the edit is made in a part that makes a legal file by itself
abbrev pub IsTouchedAlone : List Part → Edit → Type 0
IsTouchedAlone ps e = (i : ℕ) × (path : List ℕ) × (e.path ≡ i ∷ path) × IsAloneAt ps i

-- the edit puts parts into the root that each make a legal file by itself
abbrev pub IsHeldAlone : Edit → Type 0
IsHeldAlone e = (e.path ≡ []) × AreAlone e.held

-- all edits of a step are of one of the two forms
abbrev pub AreTouchedAlone : List Part → List Edit → Type 0
AreTouchedAlone ps es = AllByRecursion (IsTouchedAlone ps) es ⊎ AllByRecursion IsHeldAlone es
