-- The rows of the tables, by a computed test of each.
use Rattle.bz_token.proofs.Words.{[], ◌∷◌, ◌≡◌, AllTokens, and_parts, Bool, both_ways, Class, Class as v, ClassOfNumber, codes, Cuts, EachKeyword, EachMark, EachNumber, false, Fraction, IsLexeme, keyword_or_name, keywords, List, longest_front, marks, None, numbers, Option, Point, reads, refl, Some, Start, subst, true, Word, ℕ}
use Rattle.bz_token.proofs.{Laws.separated, Sound.sound, Tables.every, Tokens.some_token}

-- the machine takes the text as one of this class
abbrev as_class : Class → Class → Bool
as_class v.Keyword v.Keyword = true
as_class v.Number v.Number = true
as_class v.Mark v.Mark = true
as_class _ _ = false

abbrev taken_by : Class → List ℕ → Option Class → Bool
taken_by c s None = false
taken_by c s (Some k) = as_class c (keyword_or_name k s)

abbrev taken_as : Class → List ℕ → Bool
taken_as c s = taken_by c s (reads Start s)

same_class : (c d : Class) → as_class c d ≡ true → d ≡ c
same_class v.Keyword v.Keyword h = refl
same_class v.Number v.Number h = refl
same_class v.Mark v.Mark h = refl
same_class _ _ h = absurd (both_ways false refl h)

lexeme_by : (c : Class) (s : List ℕ) (o : Option Class) → reads Start s ≡ o → taken_by c s o ≡ true → IsLexeme c s
lexeme_by c s None e h = absurd (both_ways false refl h)
lexeme_by c s (Some k) e h = subst (λ (d : Class). IsLexeme d s) (same_class c (keyword_or_name k s) h) (sound k s e)

rows : (c : Class) (ss : List (List ℕ)) → every (taken_as c) ss ≡ true → AllTokens c ss
rows c [] h = tt
rows c (s ∷ ss) h = let w = and_parts (taken_as c s) (every (taken_as c) ss) h in (separated c s [] 10 (lexeme_by c s (reads Start s) refl w.0) refl, rows c ss w.1)

pub each_mark : EachMark
each_mark = rows v.Mark marks refl

pub each_keyword : EachKeyword
each_keyword = rows v.Keyword keywords refl

pub each_number : EachNumber
each_number = rows v.Number numbers refl

pub cuts : Cuts
unfolding longest_front
cuts =
    ((some_token (codes "1..real") (Fraction, 2) v.Number refl refl refl).1, (some_token (codes ".real") (Point, 1) v.Mark refl refl refl).1, (some_token (codes "1.real") (Fraction, 2) v.Number refl refl refl).1, (some_token (codes "real") (Word, 4) v.Name refl refl refl).1)

pub class_of_number : ClassOfNumber
class_of_number v.Name = refl
class_of_number v.Keyword = refl
class_of_number v.Number = refl
class_of_number v.String = refl
class_of_number v.Mark = refl
class_of_number v.Newline = refl
class_of_number v.End = refl
