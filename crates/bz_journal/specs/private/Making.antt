-- The lines of a tidy value that are other ones than in a tree, and what was looked up that outlives them.
use Rattle.std.specs.Prelude.{◌≡◌, ◌⊎◌, ◌≤◌, ◌==◌, ◌+◌, ◌-◌, ◌&&◌, ℕ, Bool, true, false, not, List, [], ◌∷◌, ◌++◌, length, map, take, drop, Option, Some, IfErr, IfOk, IfSome, Result}
use Rattle.std.specs.List.{flat_map, list_any}
use Rattle.bz_journal.specs.Words.{AreListed, AreThere, Bytes, Index, IsIndexOf, IsProperBuild, Item, Memory, Node, Part, PartWindow, Reads, Refusal, Window, depth_limit}
use Rattle.bz_journal.specs.Words.{depth_of, first_gap, fronts_part, has_statements, held_name, is_statement_kind, item_hash, laid_out, layout, leaves_part, newlines, places_from, spell_part}
use Rattle.bz_journal.specs.Words.{tidied, with_windows}
use Rattle.bz_journal.specs.Meaning.{refuses, written}
use Rattle.bz_grammar.specs.declared.tree.Part.{Node'}
use Rattle.bz_grammar.specs.declared.tree.Part as p
use Rattle.bz_journal.specs.declared.making.Made.{Made}

-- With these windows the tree is what the layout of the items reads as, within the limits.
pub record AreLinesOf (windows : List PartWindow) (tree : Node) (items : List Item) : Type 0 where
  pub there : AreThere windows tree.parts
  pub reads : Reads (layout items) (with_windows windows tree)
  pub deep : depth_of (laid_out items) ≤ depth_limit

-- The same, with the length of the layout; and the value, the index of names, their hashes and the paths that are kept, if any, are of these items.
pub record IsMadeOf (made : Made) (tree : Node) (items : List Item) : Type 0 where
  pub lines : AreLinesOf made.windows tree items
  pub length_is : made.length ≡ length (layout items)
  pub own : IfSome made.value (λ own. own ≡ items)
  pub named : IfSome made.names (λ index. IsIndexOf index items)
  pub hashed : IfSome made.hashes (λ hashes. hashes ≡ map item_hash items)
  pub listed : IfSome made.paths (λ loaded. AreListed loaded items)

-- The lines of a value tidied are made; or what is written of it is that refusal, or memory was refused.
pub record MakesLines (file : List Item) (tree : Node) (result : Result Made Refusal) : Type 0 where
  pub ok : IfOk result (λ made. IsMadeOf made tree (tidied file))
  pub proper : IsProperBuild file
  pub err : IfErr result (λ refusal. ((printed : Option Bytes) → written file printed ≡ refuses refusal) ⊎ (refusal ≡ Memory))

-- ---- an index of names

-- The item has a name, of which this place is listed, whatever items the index is of.
abbrev pub HasListedName : Index → ℕ → Item → Type 0
HasListedName index at item = (name : Bytes) × (held_name item ≡ Some name)
    × ((items : List Item) → IsIndexOf index items → list_any (λ place. place == at) (places_from 0 name items) ≡ true)

-- the same of items from this place on
abbrev pub HaveListedNames : Index → ℕ → List Item → Type 0
HaveListedNames index at [] = Unit {0}
HaveListedNames index at (item ∷ items) = HasListedName index at item × HaveListedNames index (at + 1) items

-- In each window there are as many items as were, and those that came are listed. (From this place on, the windows and the items.)
abbrev pub HaveListedNamesIn : Index → ℕ → List Window → List Item → Type 0
HaveListedNamesIn index at [] items = Unit {0}
HaveListedNamesIn index at (w ∷ ws) items = (w.gone ≡ w.come) × (w.from + w.come ≤ length items) × HaveListedNames index (at + w.from) (take w.come (drop w.from items))
    × HaveListedNamesIn index (at + w.from + w.come) ws (drop (w.from + w.come) items)

-- ---- the lines on which statements begin, where one part of a file takes the place of another

-- a line that has more newlines in front of it by those that come, and fewer by those that go
abbrev pub moved : ℕ → ℕ → ℕ → ℕ
moved gone come line = line + come - gone

-- the lines with those from a place on moved
abbrev pub moved_from : ℕ → ℕ → ℕ → List ℕ → List ℕ
moved_from from gone come lines = take from lines ++ map (moved gone come) (drop from lines)

abbrev pub is_node : Part → Bool
is_node (p.Leaf l) = false
is_node (Node' kind size row) = true

-- a statement in which no other one is
abbrev pub is_lone_statement : Part → Bool
is_lone_statement (p.Leaf l) = false
is_lone_statement (Node' kind size row) = is_statement_kind kind && not (has_statements kind)

-- Such parts are in this part of a file: a statement, and the end of its line.
pub record IsLineOfOne (part : Part) (parts : List Part) : Type 0 where
  pub count : length parts ≡ 2
  pub begun : (front : List ℕ) → fronts_part front part ≡ (front ++ first_gap (flat_map leaves_part (take 1 parts))) ∷ []

-- there are such parts
unfoldable pub HasOne : Part → Type 0
HasOne part = (parts : List Part) × IsLineOfOne part parts

-- The statements of both parts begin on the same lines, where the parts do, and this many newlines are in the one and in the other.
pub record IsLike (old new : Part) (gone come : ℕ) : Type 0 where
  pub begun : (front : List ℕ) → fronts_part front new ≡ fronts_part front old
  pub gone_is : gone ≡ newlines (spell_part old)
  pub come_is : come ≡ newlines (spell_part new)
