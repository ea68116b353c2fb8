-- The lines in front of a part of a legal file are a legal file, and so is what is after them.
use Rattle.bz_grammar.proofs.Words.{[], ◌++◌, ◌∙◌, ◌∷◌, ◌≡◌, after_node, after_part, AllByRecursion, ap, append-nil, append_assoc, AreTokens, arith, AtParts, Begins, Class, Class as c, done, file_with, Fits, flat_map, Indented, inl, inr, IsBuildPart, IsCodedLeaf, IsNonterminal, IsToken, Kind, Kind as k, Leaf, leaves_part, Legal, LegalPart, List, Node', nonterminal_has_kind, nothing, Part, Part as p, refl, Several, spell_leaves, Spot, Stands, stmt, subst, sym, tok, TokenStands, true, ℕ}
use Rattle.std.proofs.lemmas.Str.{IsUtf8-nil}
use Rattle.bz_grammar.specs.{Shapes.end, Split.bare_end, Split.LinesSplit}
use Rattle.bz_grammar.proofs.{Spells.spell_leaves-append, Exact.token_leaf, Balance.no_such, Trees.deepest_both}

-- ---- lists

pub all_front : {X : Type 0} (P : X → Type 0) (xs ys : List X) → AllByRecursion P (xs ++ ys) → AllByRecursion P xs
all_front P [] ys h = tt
all_front P (x ∷ xs) ys h = (h.0, all_front P xs ys h.1)

pub all_back : {X : Type 0} (P : X → Type 0) (xs ys : List X) → AllByRecursion P (xs ++ ys) → AllByRecursion P ys
all_back P [] ys h = h
all_back P (x ∷ xs) ys h = all_back P xs ys h.1

pub all_both : {X : Type 0} (P : X → Type 0) (xs ys : List X) → AllByRecursion P xs → AllByRecursion P ys → AllByRecursion P (xs ++ ys)
all_both P [] ys h g = g
all_both P (x ∷ xs) ys h g = (h.0, all_both P xs ys h.1 g)

nothing_front : {X : Type 0} (xs ys : List X) → xs ++ ys ≡ [] → xs ≡ []
nothing_front [] ys e = refl
nothing_front (x ∷ xs) ys e = absurd cc

none_in : {X : Type 0} (xs ys : List X) → xs ++ ys ≡ [] → ys ≡ []
none_in [] ys e = e
none_in (x ∷ xs) ys e = absurd cc

pub leaves_both : (xs ys : List Part) → flat_map leaves_part (xs ++ ys) ≡ flat_map leaves_part xs ++ flat_map leaves_part ys
leaves_both [] ys = refl
leaves_both (x ∷ xs) ys = ap (λ t. leaves_part x ++ t) (leaves_both xs ys) ∙ sym (append_assoc (leaves_part x) (flat_map leaves_part xs) (flat_map leaves_part ys))

-- ---- shapes

-- the end of a file
abbrev pub IsLast : List Part → Type 0
IsLast = Fits IsNonterminal (tok end done)

abbrev pub AreStatements : List Part → Type 0
AreStatements = AllByRecursion (IsNonterminal stmt)

pub lines_front : (xs : List Part) (y : Part) (ys : List Part) → Several (IsNonterminal stmt) IsLast (xs ++ y ∷ ys) → AreStatements xs × Several (IsNonterminal stmt) IsLast (y ∷ ys)
lines_front [] y ys h = (tt, h)
lines_front (x ∷ []) y ys (inl h) = absurd h.1
lines_front (x ∷ z ∷ xs) y ys (inl h) = absurd h.1
lines_front (x ∷ xs) y ys (inr h) = let w = lines_front xs y ys h.1 in ((h.0, w.0), w.1)

pub lines_whole : (xs ys : List Part) → AreStatements xs → Several (IsNonterminal stmt) IsLast ys → Several (IsNonterminal stmt) IsLast (xs ++ ys)
lines_whole [] ys h g = g
lines_whole (x ∷ xs) ys h g = inr (h.0, lines_whole xs ys h.1 g)

some_leaf : (xs : List Part) → Several (IsNonterminal stmt) IsLast xs → flat_map leaves_part xs ≡ [] → ⊥
some_leaf [] h e = absurd h
some_leaf (x ∷ xs) (inl h) e =
    let t = token_leaf end x h.0 in
    let f : t.0 ∷ flat_map leaves_part xs ≡ [] = ap (λ z. leaves_part z ++ flat_map leaves_part xs) (sym t.1) ∙ e in
    absurd cc
some_leaf (x ∷ xs) (inr h) e = some_leaf xs h.1 (none_in (leaves_part x) (flat_map leaves_part xs) e)

-- ---- gaps

statement_ends : (kind : Kind) (here : Spot) → nonterminal_has_kind stmt kind ≡ true → after_node kind here ≡ Begins
statement_ends k.Line here h = refl
statement_ends k.Def here h = refl
statement_ends k.IfStmt here h = refl
statement_ends k.ForStmt here h = refl
statement_ends _ here h = no_such h

pub after_statement : (x : Part) (outer here : Spot) → IsNonterminal stmt x → after_part outer here x ≡ Begins
after_statement (p.Leaf l) outer here h = no_such h
after_statement (Node' kind size row) outer here h = statement_ends kind here h

pub gaps_front : (xs ys zs : List Part) → AreStatements xs → AtParts Stands Begins Begins (xs ++ ys) → AtParts Stands Begins Begins zs → AtParts Stands Begins Begins (xs ++ zs)
gaps_front [] ys zs h g f = f
gaps_front (x ∷ xs) ys zs h g f =
    (g.0, subst (λ here. AtParts Stands Begins here (xs ++ zs)) (sym (after_statement x Begins Begins h.0)) (gaps_front xs ys zs h.1 (subst (λ here. AtParts Stands Begins here (xs ++ ys)) (after_statement x Begins Begins h.0) g.1) f))

pub gaps_back : (xs ys : List Part) → AreStatements xs → AtParts Stands Begins Begins (xs ++ ys) → AtParts Stands Begins Begins ys
gaps_back [] ys h g = g
gaps_back (x ∷ xs) ys h g = gaps_back xs ys h.1 (subst (λ here. AtParts Stands Begins here (xs ++ ys)) (after_statement x Begins Begins h.0) g.1)

-- ---- tokens: what was the longest lexeme before a text is so before its front

abbrev last_leaf : Leaf
last_leaf = record { class = c.End; gap = []; token = [] }

before_front : (class : Class) (token rest more : List ℕ) → IsToken class token (rest ++ more) → IsToken class token rest
before_front class token rest more h = record {
  lexeme = h.lexeme;
  longest = λ other front back is lexeme. h.longest other front (back ++ more) (sym (append_assoc front back more) ∙ ap (λ t. t ++ more) is ∙ append_assoc token rest more) lexeme;
  no_third = λ prefix mark back good quote is third. h.no_third prefix mark (back ++ more) good quote is (ap (λ t. t ++ more) third);
}

module _ (leaves following : List Leaf) (some : following ≡ [] → ⊥) where
  ends_here : spell_leaves (leaves ++ last_leaf ∷ []) ≡ spell_leaves leaves
  ends_here = spell_leaves-append leaves (last_leaf ∷ []) ∙ append-nil (spell_leaves leaves)

  shorter : (class : Class) (token : List ℕ) → IsToken class token (spell_leaves (leaves ++ following)) → IsToken class token (spell_leaves (leaves ++ last_leaf ∷ []))
  shorter class token h = subst (IsToken class token) (sym ends_here) (before_front class token (spell_leaves leaves) (spell_leaves following) (subst (IsToken class token) (spell_leaves-append leaves following) h))

  front_none : spell_leaves (leaves ++ following) ≡ [] → spell_leaves (leaves ++ last_leaf ∷ []) ≡ []
  front_none e = ends_here ∙ nothing_front (spell_leaves leaves) (spell_leaves following) (sym (spell_leaves-append leaves following) ∙ e)

  token_front : (class : Class) (token : List ℕ) → TokenStands class token (leaves ++ following) → TokenStands class token (leaves ++ last_leaf ∷ [])
  token_front c.Newline token (inl h) = inl h
  token_front c.Newline token (inr h) = inr (h.0, front_none h.1)
  token_front c.End token h = absurd (some (none_in leaves following h.1))
  token_front c.Name token h = shorter c.Name token h
  token_front c.Keyword token h = shorter c.Keyword token h
  token_front c.Number token h = shorter c.Number token h
  token_front c.String token h = shorter c.String token h
  token_front c.Mark token h = shorter c.Mark token h

tokens_front : (leaves following : List Leaf) → (following ≡ [] → ⊥) → AreTokens (leaves ++ following) → AreTokens (leaves ++ last_leaf ∷ [])
tokens_front [] following some h = ((refl, refl), tt)
tokens_front (l ∷ leaves) following some h = (token_front leaves following some l.class l.token h.0, tokens_front leaves following some h.1)

pub tokens_back : (leaves following : List Leaf) → AreTokens (leaves ++ following) → AreTokens following
tokens_back [] following h = h
tokens_back (l ∷ leaves) following h = tokens_back leaves following h.1

-- ---- files

module _ (xs : List Part) (y : Part) (ys : List Part) (h : Legal (file_with (xs ++ y ∷ ys))) where
  abbrev after_leaves : List Leaf
  after_leaves = flat_map leaves_part (y ∷ ys)

  rows : AreStatements xs × Several (IsNonterminal stmt) IsLast (y ∷ ys)
  rows = lines_front xs y ys h.file.shapes.0

  parts_front : AllByRecursion LegalPart (xs ++ bare_end ∷ [])
  parts_front = all_both LegalPart xs (bare_end ∷ []) (all_front LegalPart xs (y ∷ ys) h.file.shapes.1) (tt, tt)

  gap_end : AtParts Stands Begins Begins (bare_end ∷ [])
  gap_end = ((true, nothing refl), tt)

  tokens : AreTokens (flat_map leaves_part xs ++ after_leaves)
  tokens = subst AreTokens (leaves_both xs (y ∷ ys)) h.tokens

  coded : AllByRecursion IsCodedLeaf (flat_map leaves_part xs ++ after_leaves)
  coded = subst (AllByRecursion IsCodedLeaf) (leaves_both xs (y ∷ ys)) h.coded

  in_front : Legal (file_with (xs ++ bare_end ∷ []))
  in_front = record {
    file = record { root = refl; shapes = (lines_whole xs (bare_end ∷ []) rows.0 (inl (refl, tt)), parts_front) };
    gaps = gaps_front xs (y ∷ ys) (bare_end ∷ []) rows.0 h.gaps gap_end;
    indents = all_both (Indented []) xs (bare_end ∷ []) (all_front (Indented []) xs (y ∷ ys) h.indents) (tt, tt);
    tokens = subst AreTokens (sym (leaves_both xs (bare_end ∷ []))) (tokens_front (flat_map leaves_part xs) after_leaves (some_leaf (y ∷ ys) rows.1) tokens);
    coded = subst (AllByRecursion IsCodedLeaf) (sym (leaves_both xs (bare_end ∷ []))) (all_both IsCodedLeaf (flat_map leaves_part xs) (last_leaf ∷ []) (all_front IsCodedLeaf (flat_map leaves_part xs) after_leaves coded) ((IsUtf8-nil, IsUtf8-nil), tt));
    depth = omega (arith, h.depth, deepest_both xs (y ∷ ys), deepest_both xs (bare_end ∷ []));
  }

  following : Legal (file_with (y ∷ ys))
  following = record {
    file = record { root = refl; shapes = (rows.1, all_back LegalPart xs (y ∷ ys) h.file.shapes.1) };
    gaps = gaps_back xs (y ∷ ys) rows.0 h.gaps;
    indents = all_back (Indented []) xs (y ∷ ys) h.indents;
    tokens = tokens_back (flat_map leaves_part xs) after_leaves tokens;
    coded = all_back IsCodedLeaf (flat_map leaves_part xs) after_leaves coded;
    depth = omega (arith, h.depth, deepest_both xs (y ∷ ys));
  }

pub lines_split : LinesSplit
lines_split xs y ys h = (
  record { legal = in_front xs y ys h.legal; build = all_both IsBuildPart xs (bare_end ∷ []) (all_front IsBuildPart xs (y ∷ ys) h.build) (tt, tt) },
  record { legal = following xs y ys h.legal; build = all_back IsBuildPart xs (y ∷ ys) h.build },
)
