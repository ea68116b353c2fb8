-- Tidying keeps the program. What each pass may change of a file value, said without how it goes about it.
use Rattle.std.specs.Prelude.{◌≡◌, ℕ, Bool, true, false, List, [], ◌∷◌, ◌++◌, All, Contains, map, replicate}
use Rattle.std.specs.List.Sorted.{IsPermutation}
use Rattle.bz_passes.specs.Words.{Class, IsLong, IsShort, IsString, is_class, IsSame, Expr, Item, Bytes, apostrophe, backslash, quotation_mark, is_quote_mark, inner, is_plain_in, on_rest, has_class, has_kind, on_items, text_of}
use Rattle.bz_token.specs.declared.class.Class.TheVariants as c
use Rattle.bz_grammar.specs.declared.kind.Kind.TheVariants as k
use Rattle.bz_passes.specs.Lists.{is_taken}
use Rattle.bz_passes.specs.Newer.{has_newer}
use Rattle.bz_passes.specs.Passes.{has_character, is_run_load, name_precedes, on_labels, on_list_values, on_rule_arguments, on_strings, on_taken, path_precedes, symbol_precedes, tidied}
use Rattle.bz_passes.specs.Sorting.{IsSorting, IsSortingByRuns}
use Rattle.bz_passes.specs.Syntax.{program, token_times}

-- y is x, but that what is at some places was changed as it may be. All else is as it was, comments and flags too.
pub record IsChangedAt {X Y : Type 0} (places : (Y → Y) → X → X) (MayBecome : Y → Y → Type 0) (x y : X) : Type 0 where
  pub change : Y → Y
  pub each : (old : Y) → MayBecome old (change old)
  pub same : y ≡ places change x

-- ---- quotes: a string keeps its body

-- neither " nor a backslash
abbrev pub IsUnescaped : Bytes → Type 0
IsUnescaped body = (has_character quotation_mark body ≡ false) × (has_character backslash body ≡ false)

-- The same string: it stays, or its body, which holds neither " nor a backslash, is between " in place of ', or between """ in
-- place of '''.
pub data IsSameString (text new : Bytes) : Type 0 where
  itself : new ≡ text → IsSameString text new
  turned : (body : Bytes) → IsShort apostrophe body → IsUnescaped body → text ≡ replicate 1 apostrophe ++ (body ++ replicate 1 apostrophe)
      → new ≡ replicate 1 quotation_mark ++ (body ++ replicate 1 quotation_mark) → IsSameString text new
  turned_thrice : (body : Bytes) → IsLong apostrophe body → IsUnescaped body → text ≡ replicate 3 apostrophe ++ (body ++ replicate 3 apostrophe)
      → new ≡ replicate 3 quotation_mark ++ (body ++ replicate 3 quotation_mark) → IsSameString text new

-- ---- labels: in a label attribute a string means the same label

-- The same label: the string stays, or it is a plain one, and between its quote marks is a text that means the same label in
-- every package.
pub data IsSameLabel (text new : Bytes) : Type 0 where
  unchanged : new ≡ text → IsSameLabel text new
  renamed : (mark : ℕ) (label : Bytes) → is_quote_mark mark ≡ true → is_plain_in mark text ≡ true → new ≡ mark ∷ (label ++ mark ∷ [])
      → ((current : Bytes) → IsSame current (inner text) label) → IsSameLabel text new

-- ---- lists: one that is to be sorted holds the same strings

-- The new list holds the strings of the old one, each as often, but that some are gone, each of which is in the new list.
pub record HoldsTheStrings (old new : List Expr) : Type 0 where
  pub strings : All (λ x. has_class c.String x ≡ true) new
  pub gone : List Bytes
  pub same : IsPermutation (map text_of old) (map text_of new ++ gone)
  pub repeats : All (Contains (map text_of new)) gone

-- where the list is to be sorted, and where it isn't
abbrev pub IsSameList : Bool → List Expr → List Expr → Type 0
IsSameList true old new = HoldsTheStrings old new
IsSameList false old new = new ≡ old

pub record HaveOtherLists (items new : List Item) : Type 0 where
  pub change : List Bytes → Bool → List Expr → List Expr
  pub each : (outside : List Bytes) (by_table : Bool) (old : List Expr) → IsSameList (is_taken outside by_table old) old (change outside by_table old)
  pub same : new ≡ on_taken (on_list_values change) items

-- ---- all in turn

-- The passes keep a program where one value leads to the other over these, in which no more is changed than is said of each. Of
-- arguments of a rule runs of named ones are sorted: every other one stays, and no named one passes it. The symbols of a load are sorted
-- after its path. The last step changes nothing that a compiler reads.
pub record PassesKeepProgram (before after : List Item) : Type 0 where
  pub quoted : List Item
  pub labelled : List Item
  pub listed : List Item
  pub arranged : List Item
  pub named : List Item
  pub loaded : List Item
  pub quotes : IsChangedAt (λ change. on_taken (on_strings change)) (λ text new. IsString text → IsSameString text new) before quoted
  pub labels : IsChangedAt (λ change. on_taken (on_labels change)) IsSameLabel quoted labelled
  pub lists : HaveOtherLists labelled listed
  pub arguments : IsChangedAt (λ change. on_taken (on_rule_arguments (λ kind. change))) (IsSortingByRuns (has_kind k.Named) name_precedes) listed arranged
  pub symbols : IsChangedAt (λ change. on_taken (on_items k.Load (on_rest change))) (IsSorting symbol_precedes) arranged named
  pub loads : IsSortingByRuns is_run_load path_precedes named loaded
  pub flags : program after ≡ program loaded

-- A program is kept where it is the same, of a value with newer kinds, and else as the passes keep it.
abbrev pub KeepsProgram : List Item → List Item → Type 0
KeepsProgram before after = (has_newer before ≡ true → program after ≡ program before) × (has_newer before ≡ false → PassesKeepProgram before after)

abbrev pub TidyingKeepsProgram : Type 0
TidyingKeepsProgram = (items : List Item) → KeepsProgram items (tidied items)

-- Where a program is kept, each token that is no string occurs as often: no name, number, keyword or mark is lost or comes.
abbrev pub KeptProgramsKeepTokens : Type 0
KeptProgramsKeepTokens =
    (before after : List Item) → KeepsProgram before after → (class : Class) (text : Bytes) → is_class c.String class ≡ false
    → token_times class text (program after) ≡ token_times class text (program before)
