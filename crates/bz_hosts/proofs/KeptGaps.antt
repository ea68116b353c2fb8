-- Right before a newline of a legal file is at most one comment.
use Rattle.bz_hosts.proofs.Words.{[], ◌∙◌, ◌≡◌, after_part, all_in, Along, along, ap, as_list, AtLeaves, Begins, Bool, Bytes, Class, Class as c, colon_mark, false, following_token, GapStands, has_token, inl, inr, is_one_of, is_terminal, IsGap, Leaf, leaves_at, no_such, Node', None, Nonterminal, only_comment, Option, or_cases, Part, Part as p, refl, role, same_class, seen, Some, Spot, Stands, stated, subst, sym, Terminal, true}
use Rattle.bz_grammar.specs.Shapes as s

-- ---- right before a newline

listed : (only : Option Bytes) → as_list only ≡ as_list (only_comment (as_list only))
listed None = refl
listed (Some text) = refl

only_one : (unclosed : Bool) (gap : Bytes) → IsGap false unclosed gap → all_in gap ≡ as_list (only_comment (all_in gap))
only_one unclosed gap h = let w = along unclosed gap h in w.2 ∙ (listed w.1 ∙ ap (λ texts. as_list (only_comment texts)) (sym w.2))

newline_gap : (class : Class) (gap : Bytes) → class ≡ c.Newline → GapStands class Along gap → all_in gap ≡ as_list (only_comment (all_in gap))
newline_gap class gap e h = let w = subst (λ z. GapStands z Along gap) e h in only_one w.0 gap w.1

newline_class : (l : Leaf) → is_one_of s.newline l ≡ true → l.class ≡ c.Newline
newline_class l i = elim (or_cases (is_terminal (s.any c.Newline) l) (is_one_of [] l) i) [ inl e ↦ same_class l.class c.Newline e | inr e ↦ no_such e ]

-- the comment in the gap of a suite's newline is its only one
pub newline_comment : (x : Part) → has_token s.newline x ≡ true → AtLeaves Stands Along x → all_in (seen x).gap ≡ as_list (only_comment (all_in (seen x).gap))
newline_comment (p.Leaf l) i h = newline_gap l.class l.gap (newline_class l i) h
newline_comment (Node' kind n r) i h = no_such i

newline_role : (class : Class) (token : Bytes) (outer here : Spot) → class ≡ c.Newline → following_token (role class token) outer here ≡ Begins
newline_role class token outer here e = ap (λ z. following_token (role z token) outer here) e

-- after it a line begins
pub newline_ends : (x : Part) (outer here : Spot) → has_token s.newline x ≡ true → after_part outer here x ≡ Begins
newline_ends (p.Leaf l) outer here i = newline_role l.class l.token outer here (newline_class l i)
newline_ends (Node' kind n r) outer here i = no_such i

-- ---- a colon

pub colon_is : (x : Part) → has_token colon_mark x ≡ true → (stated x).is_colon ≡ true
colon_is (p.Leaf l) h = h
colon_is (Node' kind n r) h = no_such h
