-- Worked rows: the journals of two sessions over an empty text, with their digests computed.
use Rattle.std.specs.Prelude.{◌≡◌, List, ℕ, [], ◌∷◌, codes}
use Rattle.bz_token.specs.declared.class.Class.{Class}
use Rattle.bz_token.specs.declared.class.Class.TheVariants as c
use Rattle.bz_grammar.specs.declared.kind.Kind.{Kind}
use Rattle.bz_grammar.specs.declared.kind.Kind.TheVariants as k
use Rattle.bz_grammar.specs.declared.tree.Node.{Node}
use Rattle.bz_grammar.specs.declared.tree.Part.{Part}
use Rattle.bz_grammar.specs.declared.tree.Part.TheVariants as p
use Rattle.sha2.specs.Sha256.{sha256}
use Rattle.bz_journal_format.specs.declared.content.Record.{Record}
use Rattle.bz_journal_format.specs.declared.content.Version.{Version}
use Rattle.bz_journal_format.specs.declared.content.Version.TheVariants.{One, Two}
use Rattle.bz_journal_format.specs.Texts.{record_text}

-- ---- a session that did nothing

abbrev pub empty_record : Record
empty_record = record { «package» = codes "-"; text = []; cursor = 0; before = 0; digests = sha256 [] ∷ []; steps = [] }

abbrev pub empty_bytes : Version → List ℕ
empty_bytes One = codes "bzjournal 1\npackage 1 -\ntext 0\n\nsteps 0 now 0 before 0\ndigest e3b0c44298fc1c149afbf4c8996fb92427ae41e4649b934ca495991b7852b855\nend 0cb6e4c1b7b4dd711515bffa84c0f122cf201b207a74026378336938c8b77c37\n"
empty_bytes Two = codes "bzjournal 2\npackage 1 -\ntext 0\n\nsteps 0 now 0 before 0\ndigest e3b0c44298fc1c149afbf4c8996fb92427ae41e4649b934ca495991b7852b855\nend aaa9c58edb8d2f487f4bfd6ff902aae468b7a89476458280caac7376668ae83a\n"

abbrev pub EmptySession : Type 0
EmptySession = (record_text One empty_record ≡ empty_bytes One) × (record_text Two empty_record ≡ empty_bytes Two)

-- ---- a rule added to an empty text, and undone

abbrev pub leaf_part : Class → List ℕ → List ℕ → Part
leaf_part class gap token = p.Leaf (record { class = class; gap = gap; token = token })

abbrev pub node_of : Kind → List Part → Node
node_of kind parts = record { kind = kind; parts = parts }

-- name = "a"
abbrev pub added_argument : Node
added_argument = node_of k.Named (leaf_part c.Name [] (codes "name") ∷ leaf_part c.Mark (codes " ") (codes "=") ∷ leaf_part c.String (codes " ") (codes "\"a\"") ∷ [])

abbrev pub added_call : Node
added_call = node_of k.Call (leaf_part c.Name [] (codes "cc_library") ∷ leaf_part c.Mark [] (codes "(") ∷ p.Node added_argument ∷ leaf_part c.Mark [] (codes ")") ∷ [])

abbrev pub added_statement : Node
added_statement = node_of k.Bare (p.Node added_call ∷ [])

abbrev pub added_line : Node
added_line = node_of k.Line (p.Node added_statement ∷ leaf_part c.Newline [] (codes "\n") ∷ [])

abbrev pub added_note : Version → List ℕ
added_note One = []
added_note Two = codes "new cc_library a"

abbrev pub rule_text : List ℕ
rule_text = codes "cc_library(name = \"a\")\n"

-- its step holds the line that was undone
abbrev pub undone_record : Version → Part → Record
undone_record v held = record {
  «package» = codes "-";
  text = [];
  cursor = 0;
  before = 1;
  digests = sha256 [] ∷ sha256 rule_text ∷ [];
  steps = record { note = added_note v; edits = record { path = []; at = 0; count = 0; held = held ∷ [] } ∷ [] } ∷ [];
}

abbrev pub undone_bytes : Version → List ℕ
undone_bytes One = codes "bzjournal 1\npackage 1 -\ntext 0\n\nsteps 1 now 0 before 1\ndigest e3b0c44298fc1c149afbf4c8996fb92427ae41e4649b934ca495991b7852b855\ndigest 25bb8a41077393a55ea3ea12be1fc4f0ca9f31666d580e227fe22d5f0c95253c\nstep 1\nedit 0 0 0 1\nnode 2 2\nnode 3 1\nnode 21 4\nleaf 1 0 10\ncc_library\nleaf 5 0 1\n(\nnode 22 3\nleaf 1 0 4\nname\nleaf 5 1 1\n =\nleaf 4 1 3\n \"a\"\nleaf 5 0 1\n)\nleaf 6 0 1\n\n\nend 4829b1f55268e0e14a86eab223837f3127eefdac3526fcf590e560ab80fbe9cf\n"
undone_bytes Two = codes "bzjournal 2\npackage 1 -\ntext 0\n\nsteps 1 now 0 before 1\ndigest e3b0c44298fc1c149afbf4c8996fb92427ae41e4649b934ca495991b7852b855\ndigest 25bb8a41077393a55ea3ea12be1fc4f0ca9f31666d580e227fe22d5f0c95253c\nstep 1\nnote 16 new cc_library a\nedit 0 0 0 1\nnode 2 2\nnode 3 1\nnode 21 4\nleaf 1 0 10\ncc_library\nleaf 5 0 1\n(\nnode 22 3\nleaf 1 0 4\nname\nleaf 5 1 1\n =\nleaf 4 1 3\n \"a\"\nleaf 5 0 1\n)\nleaf 6 0 1\n\n\nend 7028b22bcbba81f5f236a4be9da87a7002c2e03803c9cf2eb5e27aa84a2037c4\n"

abbrev pub UndoneSession : Type 0
UndoneSession = (record_text One (undone_record One (p.Node added_line)) ≡ undone_bytes One) × (record_text Two (undone_record Two (p.Node added_line)) ≡ undone_bytes Two)
