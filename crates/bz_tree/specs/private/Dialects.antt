-- What differs from one sort of files to the other.
use Rattle.std.specs.Prelude.{◌≡◌, ◌≢◌, ℕ, List, [], ◌++◌, length}
use Rattle.bz_lex.specs.Stops.{BeginsLine}
use Rattle.bz_grammar.specs.declared.tree.Node.{Node}
use Rattle.bz_grammar.specs.Legal.{Reads, ReadsBzl}
use Rattle.bz_tree.specs.declared.parsing.Dialect.{Dialect}
use Rattle.bz_tree.specs.declared.parsing.Dialect.TheVariants as d

-- a text reads as the tree of such a file
abbrev pub ReadsIn : Dialect → List ℕ → Node → Type 0
ReadsIn d.Build text tree = Reads text tree
ReadsIn d.Bzl text tree = ReadsBzl text tree

abbrev pub NoTreeIn : Dialect → List ℕ → Type 0
NoTreeIn dialect text = (tree : Node) → ReadsIn dialect text tree → ⊥

-- a line of a BUILD file has no indent; in a .bzl file the lines before it decide
abbrev pub is_wrong : Dialect → List ℕ → Type 0
is_wrong d.Build blanks = blanks ≢ []
is_wrong d.Bzl blanks = Unit {0}

-- the first token of a line is at this byte, with an indent that it may not have
abbrev pub IsIndentedAt : (List ℕ → Type 0) → List ℕ → ℕ → Type 0
IsIndentedAt wrong text at = (front : List ℕ) × (rest : List ℕ) × (text ≡ front ++ rest) × (length front ≡ at) × (blanks : List ℕ) × BeginsLine text rest blanks × wrong blanks
