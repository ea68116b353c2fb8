-- The value beside a session, and the trees that a command leaves.
use Rattle.std.specs.Prelude.{◌≡◌, ◌<◌, List, Option, length, map, take, Ok, IfSome}
use Rattle.bz_journal.specs.Words.{AreListed, Bytes, IsIndexOf, IsProperBuild, IsWritten, Item, Node, Reads, item_hash, layout, lines_of, sha256, spell_node, tidied, view_of}
use Rattle.bz_journal.specs.declared.action.Reply.{Reply}
use Rattle.bz_journal.specs.declared.answering.Lookups.{Lookups}
use Rattle.bz_journal.specs.declared.doing.Seen.{Seen}
use Rattle.bz_journal.specs.Meaning.{written}
use Rattle.bz_journal.specs.History.{History, Answer, after_meaning, present}

-- What was looked up is that of the tree: the index and the hashes those of the names in its view, the lines those of its statements, and of its
-- view no load is from another path than those.
pub record AreLookupsOf (lookups : Lookups) (tree : Node) : Type 0 where
  pub named : IfSome lookups.names (λ index. IsIndexOf index (view_of tree))
  pub begun : IfSome lookups.lines (λ lines. lines ≡ lines_of tree)
  pub hashed : IfSome lookups.hashes (λ hashes. hashes ≡ map item_hash (view_of tree))
  pub listed : IfSome lookups.paths (λ loaded. AreListed loaded (view_of tree))

-- The value that is kept is the view of the tree, and what was looked up is that of the tree; a tree that counts as written is the
-- layout of its view, which is tidy, and its text has this many bytes.
pub record IsSeenIn (tree : Node) (seen : Seen) : Type 0 where
  pub value : IfSome seen.value (λ items. items ≡ view_of tree)
  pub looked : AreLookupsOf seen.lookups tree
  pub written : IfSome seen.written (λ len. IsWritten (view_of tree) tree × (len ≡ length (spell_node tree)))

-- these are the digests of the first texts
abbrev pub AreFirstDigests : List Bytes → List Bytes → Type 0
AreFirstDigests digests texts = digests ≡ map sha256 (take (length digests) texts)

-- the tree is the layout of these items tidied, these are what it is seen as, and it spells that layout
abbrev pub IsTidyLayoutOf : List Item → Node → Type 0
IsTidyLayoutOf items tree = IsWritten (tidied items) tree × (view_of tree ≡ tidied items) × (spell_node tree ≡ layout (tidied items))

-- ---- laws

-- Where the items of a BUILD file are written and the answer is no refusal, the tree of the present text is the layout of them tidied.
abbrev pub WrittenIsLaidOut : Type 0
WrittenIsLaidOut =
    (items : List Item) (printed : Option Bytes) (note : Bytes) (h after : History) (reply : Reply) (tree : Node)
    → IsProperBuild items → h.cursor < length h.texts → ◌≡◌ {A = Answer × History} (Ok reply, after) (after_meaning note h (written items printed))
    → Reads (present after) tree → IsTidyLayoutOf items tree
