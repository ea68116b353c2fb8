-- Where leaves are, and which leaf may be where.
use Rattle.std.specs.Prelude.{ℕ, suc, Bool, true, false, List, [], ◌∷◌, ◌||◌, nat_eq, if◌then◌else◌}
use Rattle.bz_token.specs.declared.class.Class.{Class}
use Rattle.bz_token.specs.declared.class.Class.TheVariants.{Mark, Newline, End}
use Rattle.bz_items.specs.Characters.{line_feed}
use Rattle.bz_lex.specs.declared.leaf.Leaf.{Leaf}
use Rattle.bz_lex.specs.Gaps.{IsGap}
pub use Rattle.bz_lex.specs.declared.place.Place.{Place}
pub use Rattle.bz_lex.specs.declared.place.Place.TheVariants.{Fresh, After, Inside, Last, Over}

-- how many brackets are open
abbrev pub open_brackets : Place → ℕ
open_brackets (Inside depth) = suc depth
open_brackets _ = 0

-- ( [ {
abbrev pub is_opening : List ℕ → Bool
is_opening (byte ∷ []) = nat_eq byte 40 || (nat_eq byte 91 || nat_eq byte 123)
is_opening _ = false

-- ) ] }
abbrev pub is_closing : List ℕ → Bool
is_closing (byte ∷ []) = nat_eq byte 41 || (nat_eq byte 93 || nat_eq byte 125)
is_closing _ = false

-- after a token of a line that is no bracket
abbrev pub same_depth : Place → Place
same_depth (Inside depth) = Inside depth
same_depth _ = After

-- after an opening bracket
abbrev pub deeper : Place → Place
deeper (Inside depth) = Inside (suc depth)
deeper _ = Inside 0

-- after a closing bracket; outside brackets none is legal, which the grammar says
abbrev pub shallower : Place → Place
shallower (Inside (suc depth)) = Inside depth
shallower _ = After

-- after a newline, or after the one that is no byte
abbrev pub after_newline : List ℕ → Place
after_newline [] = Last
after_newline _ = Fresh

-- the place after a token of this class
abbrev pub after_token : Class → List ℕ → Place → Place
after_token Mark token place = if is_opening token then deeper place else (if is_closing token then shallower place else same_depth place)
after_token Newline token place = after_newline token
after_token End token place = Over
after_token _ token place = same_depth place

-- the place after a leaf
abbrev pub next : Place → Leaf → Place
next place leaf = after_token leaf.class leaf.token place

-- whether unescaped newlines may be in the gap of a leaf
abbrev pub newlines_at : Place → Bool
newlines_at After = false
newlines_at _ = true

-- Which leaf may be at a place, before a text; IsToken says of a class, a token and the text after it that the
-- token, which is neither a newline nor the end, is the longest lexeme there.
-- An unescaped newline is in a gap only inside brackets, before the first token of a line, or before the end; a
-- comment is there too and in the gap of a newline, and its newline is in the same gap, but for the last
-- comment in the gap of a newline or of the end. The newline that is no byte is only last, and then the end's gap is
-- empty. (Which indent a line may have is no matter of its leaf alone: trees say it.)
pub data May (IsToken : Class → List ℕ → List ℕ → Type 0) : Place → Leaf → List ℕ → Type 0 where
  first : {leaf : Leaf} {rest : List ℕ} → IsGap true false leaf.gap → IsToken leaf.class leaf.token rest → May IsToken Fresh leaf rest
  later : {leaf : Leaf} {rest : List ℕ} → IsGap false false leaf.gap → IsToken leaf.class leaf.token rest → May IsToken After leaf rest
  inner : {depth : ℕ} {leaf : Leaf} {rest : List ℕ} → IsGap true false leaf.gap → IsToken leaf.class leaf.token rest → May IsToken (Inside depth) leaf rest
  newline : {gap rest : List ℕ} (unclosed : Bool) → IsGap false unclosed gap → May IsToken After (record { class = Newline; gap = gap; token = line_feed ∷ [] }) rest
  no_newline : {gap : List ℕ} (unclosed : Bool) → IsGap false unclosed gap → May IsToken After (record { class = Newline; gap = gap; token = [] }) []
  end : {gap : List ℕ} (unclosed : Bool) → IsGap true unclosed gap → May IsToken Fresh (record { class = End; gap = gap; token = [] }) []
  end_at_once : May IsToken Last (record { class = End; gap = []; token = [] }) []
