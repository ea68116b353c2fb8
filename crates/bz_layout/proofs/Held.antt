-- What holds of each leaf of a part, and leaves whose tokens are those of the text.
use Rattle.bz_layout.proofs.Words.{[], ◌++◌, ◌∷◌, after_part, all_joined, AllByRecursion, AreTokens, AtLeaves, AtParts, AtRow, Bool, Bytes, Class, Class as c, end_of-Part, flat_map, inl, IsToken, Leaf, leaves_part, leaves_row, line_feed, List, more_of-Part, Node', None, Option, Part, Part as p, refl, Row_of-Part, Some, spell_leaves, spell_leaves-append, Spot, subst, suffix_text, sym, TokenStands}
use Rattle.bz_layout.proofs.Touching.{Toks, FollowsAs}

module _ (P Q : Spot → Leaf → Type 0) (f : (here : Spot) (l : Leaf) → P here l → Q here l) where
  mutual
    pub at_leaves : (here : Spot) (x : Part) → AtLeaves P here x → AtLeaves Q here x
    at_leaves here (p.Leaf l) h = f here l h
    at_leaves here (Node' kind z r) h = at_row here here _ r h

    at_row : (outer here : Spot) (m : _) (r : Row_of-Part m) → AtRow P outer here r → AtRow Q outer here r
    at_row outer here m end_of-Part h = tt
    at_row outer here m (more_of-Part x rest) h = (at_leaves here x h.0, at_row outer (after_part outer here x) _ rest h.1)

  pub at_parts : (outer here : Spot) (xs : List Part) → AtParts P outer here xs → AtParts Q outer here xs
  at_parts outer here [] h = tt
  at_parts outer here (x ∷ xs) h = (at_leaves here x h.0, at_parts outer (after_part outer here x) xs h.1)

module _ (P : Spot → Leaf → Type 0) (Q : Leaf → Type 0) (f : (here : Spot) (l : Leaf) → P here l → Q l) where
  mutual
    pub leaves_hold : (here : Spot) (x : Part) → AtLeaves P here x → AllByRecursion Q (leaves_part x)
    leaves_hold here (p.Leaf l) h = (f here l h, tt)
    leaves_hold here (Node' kind z r) h = row_holds here here _ r h

    row_holds : (outer here : Spot) (m : _) (r : Row_of-Part m) → AtRow P outer here r → AllByRecursion Q (leaves_row r)
    row_holds outer here m end_of-Part h = tt
    row_holds outer here m (more_of-Part x rest) h = all_joined Q (leaves_part x) (leaves_row rest) (leaves_hold here x h.0) (row_holds outer (after_part outer here x) _ rest h.1)

  pub parts_hold : (outer here : Spot) (xs : List Part) → AtParts P outer here xs → AllByRecursion Q (flat_map leaves_part xs)
  parts_hold outer here [] h = tt
  parts_hold outer here (x ∷ xs) h = all_joined Q (leaves_part x) (flat_map leaves_part xs) (leaves_hold here x h.0) (parts_hold outer (after_part outer here x) xs h.1)

-- ---- tokens before leaves

pub token_stands : (class : Class) (token : Bytes) (ls : List Leaf) → IsToken class token (spell_leaves ls) → TokenStands class token ls
token_stands c.Newline token ls t = absurd t.lexeme
token_stands c.End token ls t = absurd t.lexeme
token_stands _ token ls t = t

pub tokens_before : (a b : List Leaf) → Toks a (spell_leaves b) → AreTokens b → AreTokens (a ++ b)
tokens_before [] b h i = i
tokens_before (l ∷ a) b h i = (token_stands l.class l.token (a ++ b) (subst (IsToken l.class l.token) (sym (spell_leaves-append a b)) h.0), tokens_before a b h.1 i)

pub newline_follows : (b : Bool) (suffix : Option Bytes) (t : Bytes) → FollowsAs b (suffix_text suffix ++ (line_feed ∷ t))
newline_follows b None t = inl refl
newline_follows b (Some text) t = inl refl
