-- Gaps, read byte by byte.
use Rattle.std.specs.Prelude.{◌≡◌, ℕ, Bool, true, false, List, [], ◌∷◌, Option, Some, None, nat_eq, ◌&&◌, if◌then◌else◌}
use Rattle.bz_lex.specs.declared.gap.GapState.{GapState}
use Rattle.bz_lex.specs.declared.gap.GapState.TheVariants.{Open, Escape, EscapeReturn, Comment}
use Rattle.bz_items.specs.Characters.{backslash, carriage_return, line_feed, number_sign}
use Rattle.bz_token.specs.Bytes.{is_blank}

-- the state after one more byte; None where no gap goes on with it
abbrev pub gap_move : Bool → GapState → ℕ → Option GapState
gap_move newlines Open byte =
    if is_blank byte then Some Open
    else (if nat_eq byte backslash then Some Escape
    else (if nat_eq byte number_sign then Some Comment
    else (if newlines && nat_eq byte line_feed then Some Open else None)))
gap_move newlines Escape byte = if nat_eq byte line_feed then Some Open else (if nat_eq byte carriage_return then Some EscapeReturn else None)
gap_move newlines EscapeReturn byte = if nat_eq byte line_feed then Some Open else None
gap_move newlines Comment byte = if nat_eq byte line_feed then (if newlines then Some Open else None) else Some Comment

abbrev pub and_then : {A B : Type 0} → Option A → (A → Option B) → Option B
and_then None f = None
and_then (Some x) f = f x

-- the state after a whole text
abbrev pub gap_state_after : Bool → GapState → List ℕ → Option GapState
gap_state_after newlines state [] = Some state
gap_state_after newlines state (byte ∷ rest) = and_then (gap_move newlines state byte) (λ state. gap_state_after newlines state rest)

-- no gap goes on
abbrev pub Stops : Bool → GapState → List ℕ → Type 0
Stops newlines state [] = Unit {0}
Stops newlines state (byte ∷ rest) = gap_move newlines state byte ≡ None

-- A gap ends between two pieces, or in its last comment where that may be unclosed.
abbrev pub is_end : Bool → GapState → Bool
is_end unclosed Open = true
is_end unclosed Comment = unclosed
is_end unclosed _ = false

-- how many bytes after its last whole piece a gap breaks off
abbrev pub broken_off : GapState → ℕ
broken_off Escape = 1
broken_off EscapeReturn = 2
broken_off _ = 0
