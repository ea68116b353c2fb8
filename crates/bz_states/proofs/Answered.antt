-- What a symbol says of a token is so.
use Rattle.bz_states.proofs.Words.{[], ◌&&◌, ◌||◌, ◌∙◌, ◌∷◌, ◌≡◌, and_from, and_parts, any, ap, bare, Bool, both_ways, bytes_eq, cases_Bool, codes, cond, example, false, inl, inr, is_class, is_one_of, keyword_table, known, List, mark_table, not, not-true, refl, sym, Symbol, Symbol as y, symbol_of_token, SymbolEntry, Terminal, terminals_of, this, true, ℕ}
use Rattle.std.proofs.lemmas.Slice.Eq.{bytes_eq-Decides}
use Rattle.bz_token.specs.declared.class.Class.{Class}
use Rattle.bz_token.specs.declared.class.Class.TheVariants as c
use Rattle.bz_states.specs.declared.token.TokenSet.{TokenSet}
use Rattle.bz_states.specs.declared.token.TokenSet.TheVariants as t

-- the grammar distinguishes a token of a class from no token of the symbol
abbrev pub Same : Class → List ℕ → Symbol → Type 0
Same class token symbol = (t : TokenSet) → is_one_of (terminals_of t) (example symbol) ≡ is_one_of (terminals_of t) (bare class token)

-- ---- by a table

abbrev AllSame : Class → List SymbolEntry → Type 0
AllSame class [] = Unit {0}
AllSame class (x ∷ xs) = Same class x.text x.symbol × AllSame class xs

-- the text is none of the table's
abbrev differs : List ℕ → List SymbolEntry → Bool
differs token [] = true
differs token (x ∷ xs) = not (bytes_eq token x.text) && differs token xs

by_table : (class : Class) (other : Symbol) (token : List ℕ) (xs : List SymbolEntry) → AllSame class xs → (differs token xs ≡ true → Same class token other) → Same class token (known xs other token)
by_table class other token [] all h t = h refl t
by_table class other token (x ∷ xs) all h t =
    elim (cases_Bool (bytes_eq token x.text)) [
      | inl e ↦ ap (λ (b : Bool). is_one_of (terminals_of t) (example (cond b x.symbol (known xs other token)))) e ∙ all.0 t ∙ ap (λ (u : List ℕ). is_one_of (terminals_of t) (bare class u)) (sym ((bytes_eq-Decides token x.text).0 e))
      | inr e ↦ ap (λ (b : Bool). is_one_of (terminals_of t) (example (cond b x.symbol (known xs other token)))) e ∙ by_table class other token xs all.1 (λ d. h (and_from (not (bytes_eq token x.text)) (differs token xs) (ap not e) d)) t
    ]

-- ---- texts that no rule requires

abbrev in_texts : List ℕ → List SymbolEntry → Bool
in_texts text [] = false
in_texts text (x ∷ xs) = bytes_eq text x.text || in_texts text xs

-- each text of the class is in the table
abbrev covered : Class → List SymbolEntry → List Terminal → Bool
covered class xs [] = true
covered class xs (any other ∷ ts) = covered class xs ts
covered class xs (this other text ∷ ts) = (not (is_class class other) || in_texts text xs) && covered class xs ts

abbrev of_class : Class → List Terminal → Bool
of_class class [] = false
of_class class (any other ∷ ts) = is_class class other || of_class class ts
of_class class (this other text ∷ ts) = of_class class ts

differs_from : (token text : List ℕ) (xs : List SymbolEntry) → differs token xs ≡ true → in_texts text xs ≡ true → bytes_eq token text ≡ false
differs_from token text [] d i = absurd (both_ways false refl i)
differs_from token text (x ∷ xs) d i =
    let w = and_parts (not (bytes_eq token x.text)) (differs token xs) d in
    elim (cases_Bool (bytes_eq text x.text)) [
      | inl e ↦ ap (bytes_eq token) ((bytes_eq-Decides text x.text).0 e) ∙ not-true (bytes_eq token x.text) w.0
      | inr e ↦ differs_from token text xs w.1 (ap (λ (b : Bool). b || in_texts text xs) (sym e) ∙ i)
    ]

no_other : (class other : Class) (token text : List ℕ) (xs : List SymbolEntry) → differs token xs ≡ true → (not (is_class class other) || in_texts text xs) ≡ true → (is_class class other && bytes_eq token text) ≡ false
no_other class other token text xs d h =
    elim (cases_Bool (is_class class other)) [
      | inl e ↦ ap (λ (b : Bool). b && bytes_eq token text) e ∙ differs_from token text xs d (ap (λ (b : Bool). not b || in_texts text xs) (sym e) ∙ h)
      | inr e ↦ ap (λ (b : Bool). b && bytes_eq token text) e
    ]

unknown : (class : Class) (token : List ℕ) (xs : List SymbolEntry) → differs token xs ≡ true → (ts : List Terminal) → covered class xs ts ≡ true → is_one_of ts (bare class token) ≡ of_class class ts
unknown class token xs d [] h = refl
unknown class token xs d (any other ∷ ts) h = ap (λ (b : Bool). is_class class other || b) (unknown class token xs d ts h)
unknown class token xs d (this other text ∷ ts) h =
    let w = and_parts (not (is_class class other) || in_texts text xs) (covered class xs ts) h in
    ap (λ (b : Bool). b || is_one_of ts (bare class token)) (no_other class other token text xs d w.0) ∙ unknown class token xs d ts w.1

marks_covered : (t : TokenSet) → covered c.Mark mark_table (terminals_of t) ≡ true
marks_covered t.Name = refl
marks_covered _ = refl

keywords_covered : (t : TokenSet) → covered c.Keyword keyword_table (terminals_of t) ≡ true
keywords_covered t.Name = refl
keywords_covered _ = refl

other_mark : (t : TokenSet) → is_one_of (terminals_of t) (example y.OtherMark) ≡ of_class c.Mark (terminals_of t)
other_mark t.Name = refl
other_mark _ = refl

other_keyword : (t : TokenSet) → is_one_of (terminals_of t) (example y.OtherKeyword) ≡ of_class c.Keyword (terminals_of t)
other_keyword t.Name = refl
other_keyword _ = refl

-- ---- each class

name_same : (token : List ℕ) → Same c.Name token y.Name
name_same token t.Name = refl
name_same token _ = refl

number_same : (token : List ℕ) → Same c.Number token y.Number
number_same token t.Name = refl
number_same token _ = refl

string_same : (token : List ℕ) → Same c.String token y.String
string_same token t.Name = refl
string_same token _ = refl

newline_same : (token : List ℕ) → Same c.Newline token y.Newline
newline_same token t.Name = refl
newline_same token _ = refl

end_same : (token : List ℕ) → Same c.End token y.End
end_same token t.Name = refl
end_same token _ = refl

-- a token that is the symbol's own
own : (class : Class) (symbol : Symbol) → example symbol ≡ bare class (example symbol).token → Same class (example symbol).token symbol
own class symbol e t = ap (is_one_of (terminals_of t)) e

mark_1 : Same c.Mark (codes "==") y.Order
mark_1 t.Name = refl
mark_1 _ = refl

mark_2 : Same c.Mark (codes "!=") y.Order
mark_2 t.Name = refl
mark_2 _ = refl

mark_3 : Same c.Mark (codes "<") y.Order
mark_3 t.Name = refl
mark_3 _ = refl

mark_4 : Same c.Mark (codes ">") y.Order
mark_4 t.Name = refl
mark_4 _ = refl

mark_5 : Same c.Mark (codes "<=") y.Order
mark_5 t.Name = refl
mark_5 _ = refl

mark_6 : Same c.Mark (codes ">=") y.Order
mark_6 t.Name = refl
mark_6 _ = refl

mark_7 : Same c.Mark (codes "+=") y.Augmented
mark_7 t.Name = refl
mark_7 _ = refl

mark_8 : Same c.Mark (codes "-=") y.Augmented
mark_8 t.Name = refl
mark_8 _ = refl

mark_9 : Same c.Mark (codes "*=") y.Augmented
mark_9 t.Name = refl
mark_9 _ = refl

mark_10 : Same c.Mark (codes "/=") y.Augmented
mark_10 t.Name = refl
mark_10 _ = refl

mark_11 : Same c.Mark (codes "//=") y.Augmented
mark_11 t.Name = refl
mark_11 _ = refl

mark_12 : Same c.Mark (codes "%=") y.Augmented
mark_12 t.Name = refl
mark_12 _ = refl

mark_13 : Same c.Mark (codes "&=") y.Augmented
mark_13 t.Name = refl
mark_13 _ = refl

mark_14 : Same c.Mark (codes "|=") y.Augmented
mark_14 t.Name = refl
mark_14 _ = refl

mark_15 : Same c.Mark (codes "^=") y.Augmented
mark_15 t.Name = refl
mark_15 _ = refl

mark_16 : Same c.Mark (codes "<<=") y.Augmented
mark_16 t.Name = refl
mark_16 _ = refl

mark_17 : Same c.Mark (codes ">>=") y.Augmented
mark_17 t.Name = refl
mark_17 _ = refl

mark_18 : Same c.Mark (codes "/") y.Slash
mark_18 t.Name = refl
mark_18 _ = refl

mark_19 : Same c.Mark (codes "//") y.Slash
mark_19 t.Name = refl
mark_19 _ = refl

mark_20 : Same c.Mark (codes "<<") y.Shift
mark_20 t.Name = refl
mark_20 _ = refl

mark_21 : Same c.Mark (codes ">>") y.Shift
mark_21 t.Name = refl
mark_21 _ = refl

keyword_1 : Same c.Keyword (codes "break") y.Flow
keyword_1 t.Name = refl
keyword_1 _ = refl

keyword_2 : Same c.Keyword (codes "continue") y.Flow
keyword_2 t.Name = refl
keyword_2 _ = refl

keyword_3 : Same c.Keyword (codes "pass") y.Flow
keyword_3 t.Name = refl
keyword_3 _ = refl

marks_same : AllSame c.Mark mark_table
marks_same =
    (own c.Mark y.Comma refl, (own c.Mark y.Equals refl, (own c.Mark y.OpenRound refl, (own c.Mark y.CloseRound refl, (own c.Mark y.OpenSquare refl, (own c.Mark y.CloseSquare refl, (own c.Mark y.OpenCurly refl, (own c.Mark y.CloseCurly refl, (own c.Mark y.Colon refl, (own c.Mark y.Dot refl, (own c.Mark y.Plus refl, (own c.Mark y.Minus refl, (own c.Mark y.Percent refl, (own c.Mark y.Star refl, (own c.Mark y.DoubleStar refl, (own c.Mark y.Bar refl, (own c.Mark y.Semicolon refl, (mark_1, (mark_2, (mark_3, (mark_4, (mark_5, (mark_6, (mark_7, (mark_8, (mark_9, (mark_10, (mark_11, (mark_12, (mark_13, (mark_14, (mark_15, (mark_16, (mark_17, (mark_18, (mark_19, (own c.Mark y.Tilde refl, (own c.Mark y.Ampersand refl, (own c.Mark y.Caret refl, (mark_20, (mark_21, tt)))))))))))))))))))))))))))))))))))))))))

keywords_same : AllSame c.Keyword keyword_table
keywords_same =
    (own c.Keyword y.And refl, (own c.Keyword y.Def refl, (own c.Keyword y.Elif refl, (own c.Keyword y.Else refl, (own c.Keyword y.For refl, (own c.Keyword y.If refl, (own c.Keyword y.In refl, (own c.Keyword y.Lambda refl, (own c.Keyword y.Load refl, (own c.Keyword y.Not refl, (own c.Keyword y.Or refl, (own c.Keyword y.Return refl, (keyword_1, (keyword_2, (keyword_3, tt)))))))))))))))

pub symbol_answered : (class : Class) (token : List ℕ) → Same class token (symbol_of_token class token)
symbol_answered c.Name token = name_same token
symbol_answered c.Keyword token = by_table c.Keyword y.OtherKeyword token keyword_table keywords_same (λ d expected. other_keyword expected ∙ sym (unknown c.Keyword token keyword_table d (terminals_of expected) (keywords_covered expected)))
symbol_answered c.Number token = number_same token
symbol_answered c.String token = string_same token
symbol_answered c.Mark token = by_table c.Mark y.OtherMark token mark_table marks_same (λ d expected. other_mark expected ∙ sym (unknown c.Mark token mark_table d (terminals_of expected) (marks_covered expected)))
symbol_answered c.Newline token = newline_same token
symbol_answered c.End token = end_same token

pub nothing : (t : TokenSet) → is_one_of (terminals_of t) (example y.Nothing) ≡ false
nothing t.Name = refl
nothing _ = refl
