-- Where the tokens of a text stop that they do not cover, where a line has an indent, and the fault that is reported of that place.
use Rattle.std.specs.Prelude.{◌≡◌, ◌≢◌, ℕ, true, false, List, [], ◌++◌, length, min}
use Rattle.bz_token.specs.declared.class.Class.{Class}
use Rattle.bz_token.specs.Tokens.{IsToken, NoToken, OpensString}
use Rattle.bz_lex.specs.declared.fault.ReadFault.{ReadFault}
use Rattle.bz_lex.specs.declared.front.Reason.{Reason}
use Rattle.bz_lex.specs.declared.front.Reason.TheVariants as r
use Rattle.bz_lex.specs.declared.leaf.Leaf.{Leaf}
use Rattle.bz_lex.specs.Faults.{fault_of}
use Rattle.bz_lex.specs.Gaps.{IsGap, indent}
use Rattle.bz_lex.specs.Places.{Place, Fresh, next, May}
use Rattle.bz_lex.specs.Positions.{line_at, column_of}

-- Neither a token nor more of a gap begins the text, and it is not over.
pub record NothingBegins (text : List ℕ) : Type 0 where
  pub more : text ≢ []
  pub no_token : NoToken text
  pub no_gap : (gap rest : List ℕ) → gap ++ rest ≡ text → IsGap true true gap → gap ≡ []

-- why tokens stop in front of a text: a string begins it that is not closed, or nothing does
abbrev pub StopsFor : Reason → List ℕ → Type 0
StopsFor r.OpenString text = OpensString text
StopsFor r.BadCharacter text = NothingBegins text × (OpensString text → ⊥)
StopsFor _ text = ⊥

-- Tokens after their gaps, at none of which an open string begins, are in front of the rest of a text.
pub data LexedTo (text : List ℕ) : List ℕ → Type 0 where
  no_token : LexedTo text text
  token_more : (class : Class) (gap token rest : List ℕ) → LexedTo text (gap ++ (token ++ rest)) → IsGap true false gap → IsToken class token rest → (OpensString (token ++ rest) → ⊥) → LexedTo text rest

-- Leaves are in front of the rest of a text, which begins at this place.
pub data LeavesTo (text : List ℕ) : Place → List ℕ → Type 0 where
  no_leaf : LeavesTo text Fresh text
  leaf_more : (place after : Place) (leaf : Leaf) (rest : List ℕ) → LeavesTo text place (leaf.gap ++ (leaf.token ++ rest)) → May IsToken place leaf rest → after ≡ next place leaf → LeavesTo text after rest

-- The first token of a line begins this rest of a text, and has this indent.
pub record BeginsLine (text rest blanks : List ℕ) : Type 0 where
  pub gap : List ℕ
  pub leaves : LeavesTo text Fresh (gap ++ rest)
  pub is_gap : IsGap true false gap
  pub indent : indent gap ≡ blanks
  pub token : NoToken rest → ⊥

-- Reading stops in front of this rest of a text for this reason; wrong says which indents a line may not have.
abbrev pub StopsAt : (List ℕ → Type 0) → List ℕ → List ℕ → Reason → Type 0
StopsAt wrong text rest r.Unexpected = Unit {0}
StopsAt wrong text rest r.Indented = (blanks : List ℕ) × BeginsLine text rest blanks × wrong blanks
StopsAt wrong text rest reason = (gap : List ℕ) × LexedTo text (gap ++ rest) × IsGap true false gap × StopsFor reason rest

-- The fault says where reading stops, by line and column, and why.
abbrev pub IsFaultAt : (List ℕ → Type 0) → List ℕ → ReadFault → Type 0
IsFaultAt wrong text fault =
    (front : List ℕ) × (rest : List ℕ) × (reason : Reason) × (text ≡ front ++ rest) × StopsAt wrong text rest reason
    × (fault ≡ fault_of reason (min (line_at text (length front)) 4294967295) (min (column_of text (length front)) 4294967295))
