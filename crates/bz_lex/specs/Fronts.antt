-- The leaf at the front of a text.
use Rattle.std.specs.Prelude.{◌≡◌, ◌≤◌, ◌+◌, ℕ, Bool, true, false, List, ◌++◌, length, take, drop, Option, Some, MatchOption}
use Rattle.bz_lex.specs.declared.leaf.Leaf.{Leaf}
use Rattle.bz_lex.specs.declared.gap.GapFront.{GapFront}
use Rattle.bz_lex.specs.declared.gap.GapState.TheVariants.{Open}
use Rattle.bz_lex.specs.declared.front.Front.{Front}
use Rattle.bz_lex.specs.declared.front.Reason.{Reason}
use Rattle.bz_lex.specs.declared.front.Reason.TheVariants as r
use Rattle.bz_lex.specs.declared.front.Stop.{Stop}
use Rattle.bz_token.specs.Tokens.{IsToken, OpensString}
use Rattle.bz_lex.specs.Gaps.{IsGap}
use Rattle.bz_lex.specs.private.GapStates.{gap_state_after, Stops, is_end}
use Rattle.bz_lex.specs.Places.{Place, May}
use Rattle.bz_lex.specs.Stops.{StopsFor}

-- The gap at the front of a text is read as far as one goes, and may end there.
pub record IsGapFront (newlines : Bool) (gap : GapFront) (text : List ℕ) : Type 0 where
  pub within : gap.length ≤ length text
  pub taken : gap_state_after newlines Open (take gap.length text) ≡ Some gap.state
  pub stops : Stops newlines gap.state (drop gap.length text)
  pub ends : is_end true gap.state ≡ true

-- the leaf that a class and two lengths describe: its token, itself, and the text after it
abbrev pub front_token : Front → List ℕ → List ℕ
front_token front text = take front.token (drop front.gap text)

abbrev pub front_leaf : Front → List ℕ → Leaf
front_leaf front text = record { class = front.class; gap = take front.gap text; token = front_token front text }

abbrev pub after_front : Front → List ℕ → List ℕ
after_front front text = drop front.token (drop front.gap text)

-- such a leaf is there
pub record IsFront (place : Place) (front : Front) (text : List ℕ) : Type 0 where
  pub within : front.gap + front.token ≤ length text
  pub may : May IsToken place (front_leaf front text) (after_front front text)

-- none does
abbrev pub NoLeaf : Place → List ℕ → Type 0
NoLeaf place text = (leaf : Leaf) (rest : List ℕ) → May IsToken place leaf rest → leaf.gap ++ (leaf.token ++ rest) ≡ text → ⊥

-- the leaf there, or that there is none
abbrev pub AnswersFront : Place → List ℕ → Option Front → Type 0
AnswersFront place text result = MatchOption result (NoLeaf place text) (λ front. IsFront place front text)

-- such a token is there, after a gap with newlines
pub record IsLexemeFront (front : Front) (text : List ℕ) : Type 0 where
  pub within : front.gap + front.token ≤ length text
  pub gap : IsGap true false (take front.gap text)
  pub token : IsToken front.class (front_token front text) (after_front front text)
  pub unopened : OpensString (drop front.gap text) → ⊥

-- why no token is at the front of a text
abbrev pub NoTokenFor : Reason → List ℕ → Type 0
NoTokenFor r.OpenString text = OpensString text
NoTokenFor r.BadCharacter text = OpensString text → ⊥
NoTokenFor _ text = ⊥

-- the tokens stop there, after a gap
pub record IsLexemeStop (stop : Stop) (text : List ℕ) : Type 0 where
  pub within : stop.at ≤ length text
  pub gap : IsGap true false (take stop.at text)
  pub stops : StopsFor stop.reason (drop stop.at text)
