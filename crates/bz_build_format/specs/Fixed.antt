-- Formatting is a fixed point, and says what was said: of values, comments, programs and tokens.
use Rattle.std.specs.Prelude.{◌≡◌, ℕ, Bool, false, [], ◌∷◌, ◌++◌, ◌||◌, List, Option, Ok, None, if◌then◌else◌}
use Rattle.std.specs.List.{flat_map}
use Rattle.bz_build_format.specs.Words.{Class, Leaf, Node, LegalBuild, Reads, ReadsBzl, Terminal, is_class, is_one_of, close_curly, close_round, close_square, colon_mark, comma_mark, end, newline, open_curly, open_round, open_square, semicolon, leaves_of, Item, total, IsProperBuild, Bytes, occurrences, view_of, tidied, KeepsProgram, one_if_token, token_times, flags}
use Rattle.bz_token.specs.declared.class.Class.TheVariants as c
use Rattle.bz_build_format.specs.Faults.{FormatsBzlTo}
use Rattle.bz_build_format.specs.Meaning.{gives, written, Formats}
use Rattle.bz_build_format.specs.TreePrograms.{tree_program}

-- The formatted text of a text: formatting gives it, formatting it gives it again, its value is that of the text, tidied,
-- each comment is in it as often as in the text, and the program is kept; so each token of that which is no string is in it
-- as often.
pub record IsFormatted (text formatted : Bytes) : Type 0 where
  pub given : Formats text (gives formatted None)
  pub again : Formats formatted (gives formatted None)
  pub value : (tree new : Node) → Reads text tree → Reads formatted new → view_of new ≡ tidied (view_of tree)
  pub comments : (tree new : Node) → Reads text tree → Reads formatted new → (comment : Bytes) → occurrences comment new ≡ occurrences comment tree
  pub program : (tree new : Node) → Reads text tree → Reads formatted new → KeepsProgram (view_of tree) (view_of new)
  pub tokens : (tree new : Node) → Reads text tree → Reads formatted new → (class : Class) (word : Bytes) → is_class c.String class ≡ false
      → token_times class word (tree_program new) ≡ token_times class word (tree_program tree)

-- Whatever text formatting gives is such.
abbrev pub FixedPoint : Type 0
FixedPoint = (text formatted : Bytes) → Formats text (gives formatted None) → IsFormatted text formatted

-- The formatted text of a .bzl text: formatting gives it, formatting it gives it again, it says what the text says, levelled, each
-- comment is in it as often as in the text, and the program is the same.
pub record IsFormattedBzl (text formatted : Bytes) : Type 0 where
  pub given : FormatsBzlTo text (Ok formatted)
  pub again : FormatsBzlTo formatted (Ok formatted)
  pub value : (tree new : Node) → ReadsBzl text tree → ReadsBzl formatted new → view_of new ≡ flags (view_of tree)
  pub comments : (tree new : Node) → ReadsBzl text tree → ReadsBzl formatted new → (comment : Bytes) → occurrences comment new ≡ occurrences comment tree
  pub program : (tree new : Node) → ReadsBzl text tree → ReadsBzl formatted new → tree_program new ≡ tree_program tree

-- Whatever text formatting gives is such.
abbrev pub BzlFixedPoint : Type 0
BzlFixedPoint = (text formatted : Bytes) → FormatsBzlTo text (Ok formatted) → IsFormattedBzl text formatted

-- The text that is written of a proper value of a BUILD file, as of what a command makes of one, keeps the value's program.
abbrev pub WritingKeepsProgram : Type 0
WritingKeepsProgram =
    (items : List Item) (text : Bytes) (printed : Option Bytes) → IsProperBuild items → written items printed ≡ gives text printed
    → (tree : Node) → Reads text tree → KeepsProgram items (view_of tree)

-- ---- how often a token of a text is there

-- what is between parts and around them: commas, semicolons, brackets, newlines and the end of a file
abbrev pub marks_between : List Terminal
marks_between = comma_mark ++ (semicolon ++ (newline ++ (end ++ (open_round ++ (close_round ++ (open_square ++ (close_square ++ (open_curly ++ close_curly))))))))

abbrev pub is_mark_between : Class → Bytes → Bool
is_mark_between class token = is_one_of marks_between (record { class = class; gap = []; token = token })

-- how often a token of this class and text is among the tokens of a tree
abbrev pub leaf_times : Class → Bytes → Node → ℕ
leaf_times class token tree = total (λ leaf. one_if_token class token leaf.class leaf.token) (leaves_of tree)

-- Every other token of a legal tree is in its program as often.
abbrev pub TreeProgramsKeepTokens : Type 0
TreeProgramsKeepTokens = (tree : Node) → LegalBuild tree → (class : Class) (token : Bytes) → is_mark_between class token ≡ false → token_times class token (tree_program tree) ≡ leaf_times class token tree

-- Of every text, each token that is neither a string nor such a mark is in the formatted text as often.
abbrev pub FormattingKeepsTokens : Type 0
FormattingKeepsTokens =
    (text formatted : Bytes) → Formats text (gives formatted None) → (tree new : Node) → Reads text tree → Reads formatted new
    → (class : Class) (token : Bytes) → is_class c.String class ≡ false → is_mark_between class token ≡ false → leaf_times class token new ≡ leaf_times class token tree

-- ---- in their order

-- of a .bzl file a colon, too
abbrev pub is_bzl_separator : Class → Bytes → Bool
is_bzl_separator class token = is_mark_between class token || is_one_of colon_mark (record { class = class; gap = []; token = token })

-- a token that is no separator
abbrev pub leaf_words : (Class → Bytes → Bool) → Leaf → List (Class × Bytes)
leaf_words is_separator l = if is_separator l.class l.token then [] else ((l.class, l.token) ∷ [])

-- the tokens of a tree, in their order, but for separators
abbrev pub tree_words : (Class → Bytes → Bool) → Node → List (Class × Bytes)
tree_words is_separator tree = flat_map (leaf_words is_separator) (leaves_of tree)

-- Of every .bzl text the formatted text has the same tokens in the same order, but for those.
abbrev pub FormattingKeepsWords : Type 0
FormattingKeepsWords =
    (text formatted : Bytes) → FormatsBzlTo text (Ok formatted) → (tree new : Node) → ReadsBzl text tree → ReadsBzl formatted new
    → tree_words is_bzl_separator new ≡ tree_words is_bzl_separator tree
