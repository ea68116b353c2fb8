-- Sequences: what is before the bracket is proper where the node is, each item inside the brackets.
use Rattle.bz_hosts.proofs.Words.{[], ◌++◌, ◌∙◌, ◌∷◌, ◌≡◌, after_part, All-from_recursion, all_fine, all_in, all_joined, AllByRecursion, ap, AreComments, AreHeadBy, AreItemsBy, AtLeaves, AtParts, Bool, Bytes, comments_of, drop, Expr, false, Group, HostComments, IsComment, items_in, Kind, lead, List, map, MaybeComment, more, no_comments, Node', others_fine, others_in, over, Part, Part as p, places, plain, ProperBy, root, Same, Seen, seen, Shape, Spot, Stands, subst, suc, suffix_fine, suffix_in, sym, take, true, true≢false, Within, zero, ℕ}
use Rattle.bz_grammar.specs.Shapes as s
use Rattle.bz_hosts.proofs.{Alternating.Alternating, Cuts.BracketAt, Cuts.Cut, Cuts.comma_goes, Cuts.is_token, Cuts.item_goes, SeenParts.Decoded, SeenParts.AllDecoded, SeenParts.comments_made, SeenParts.no_break_made, SeenParts.root_made, RowParts.AllFit}

-- ---- where the parts of a sequence are

-- a token, wherever it is
abbrev TokenStands : Part → Type 0
TokenStands x = (is_token x ≡ true) × (q : Spot) × AtLeaves Stands q x

-- of what is before the bracket of a node that is here, the first part is here
abbrev HeadStands : Spot → List Part → Type 0
HeadStands here [] = Unit {0}
HeadStands here (x ∷ xs) = AtLeaves Stands here x × AllByRecursion TokenStands xs

tokens_stand : (here q : Spot) (n : ℕ) (xs : List Part) → AllByRecursion (λ x. is_token x ≡ true) (take n xs) → BracketAt n xs → AtParts Stands here q xs → AllByRecursion TokenStands (take n xs) × AtParts Stands here Within (drop (suc n) xs)
tokens_stand here q n [] t b at_ = absurd b
tokens_stand here q zero (y ∷ xs) t b at_ = (tt, subst (λ z. AtParts Stands here z xs) (b.1 here q) at_.1)
tokens_stand here q (suc n) (x ∷ xs) t b at_ = let w = tokens_stand here (after_part here q x) n xs t.1 b at_.1 in (((t.0, q, at_.0), w.0), w.1)

-- and what is after the bracket is inside
stand : (here : Spot) (n : ℕ) (xs : List Part) → AllByRecursion (λ x. is_token x ≡ true) (drop 1 (take n xs)) → BracketAt n xs → AtParts Stands here here xs → HeadStands here (take n xs) × AtParts Stands here Within (drop (suc n) xs)
stand here n [] t b at_ = absurd b
stand here zero (y ∷ xs) t b at_ = (tt, subst (λ z. AtParts Stands here z xs) (b.1 here here) at_.1)
stand here (suc n) (x ∷ xs) t b at_ = let w = tokens_stand here (after_part here here x) n xs t b at_.1 in ((at_.0, w.0), w.1)

pub sequence_stands : (kind : Kind) (here : Spot) (xs : List Part) → Cut (lead kind) xs → AtParts Stands here here xs → HeadStands here (take (lead kind) xs) × AtParts Stands here Within (drop (suc (lead kind)) xs)
sequence_stands kind here xs c at_ = stand here (lead kind) xs c.tokens c.bracket_at at_

-- ---- what is before the bracket

pub head_roots : (n : ℕ) (xs : List Part) → Same (take n xs) (map root (map plain (take n (map seen xs))))
head_roots zero [] = over
head_roots (suc n) [] = over
head_roots zero (x ∷ xs) = over
head_roots (suc n) (x ∷ xs) = more x _ _ _ (root_made x no_comments false) (head_roots n xs)

-- ---- the items

abbrev host : List Bytes → Seen → Bytes → HostComments
host above s gap = record { before = above ++ s.loose; suffix = suffix_in gap }

host_fine : (above : List Bytes) (x : Part) (gap : Bytes) → Group above → Decoded (seen x) → MaybeComment (suffix_in gap) → AreComments (comments_of ((seen x).make (host above (seen x) gap) false))
host_fine above x gap a h m =
    subst AreComments (sym (comments_made x (host above (seen x) gap) false)) (All-from_recursion IsComment (above ++ (seen x).loose) (all_joined IsComment above (seen x).loose a h.loose), m)

pub items_roots : (above : List Bytes) (xs : List Part) → Same (places xs) (map root (items_in above (map seen xs)).0)
items_roots above [] = over
items_roots above (x ∷ []) = over
items_roots above (x ∷ y ∷ []) = more x _ _ _ (root_made x (host above (seen x) (seen y).gap) false) over
items_roots above (x ∷ y ∷ z ∷ xs) = more x _ _ _ (root_made x (host above (seen x) (seen z).gap) false) (items_roots (all_in (seen y).gap ++ others_in (seen z).gap) (z ∷ xs))

-- ---- by a grammar

module _ (grammar : Kind → Shape) where
  token_proper : (x : Part) → is_token x ≡ true → (q here : Spot) (cs : HostComments) (b : Bool) → ProperBy grammar q ((seen x).make cs b) → ProperBy grammar here ((seen x).make cs b)
  token_proper (p.Leaf l) t q here cs b h = h
  token_proper (Node' kind n r) t q here cs b h = absurd (true≢false (sym t))

  tokens_proper : (here : Spot) (n : ℕ) (xs : List Part) → AllFit grammar xs → AllByRecursion TokenStands (take n xs) → AreHeadBy grammar here (map plain (take n (map seen xs)))
  tokens_proper here zero xs h at_ = tt
  tokens_proper here (suc n) [] h at_ = tt
  tokens_proper here (suc n) (x ∷ xs) h at_ =
      (token_proper x at_.0.0 at_.0.1 here no_comments false (h.0 at_.0.1 at_.0.2 no_comments false), (comments_made x no_comments false, no_break_made x no_comments), tokens_proper here n xs h.1 at_.1)

  pub head_proper : (here : Spot) (n : ℕ) (xs : List Part) → AllFit grammar xs → HeadStands here (take n xs) → AreHeadBy grammar here (map plain (take n (map seen xs)))
  head_proper here zero xs h at_ = tt
  head_proper here (suc n) [] h at_ = tt
  head_proper here (suc n) (x ∷ xs) h at_ = (h.0 here at_.0 no_comments false, (comments_made x no_comments false, no_break_made x no_comments), tokens_proper here n xs h.1 at_.1)

  -- items, and the comments below the last one
  abbrev pub ItemsProper : List Expr × List Bytes → Type 0
  ItemsProper found = AreItemsBy grammar found.0 × Group found.1

  pub items_proper : (above : List Bytes) (outer : Spot) (xs : List Part) → Group above → AllDecoded (map seen xs) → AllFit grammar xs → AtParts Stands outer Within xs → Alternating s.comma_mark xs → ItemsProper (items_in above (map seen xs))
  items_proper above outer [] a t h at_ g = (tt, a)
  items_proper above outer (x ∷ []) a t h at_ g = (tt, a)
  items_proper above outer (x ∷ y ∷ []) a t h at_ g =
      let gap : Bytes = (seen y).gap in (
        (h.0 Within at_.0 (host above (seen x) gap) false, host_fine above x gap a t.0 (suffix_fine gap t.1.0.coded), no_break_made x (host above (seen x) gap), tt),
        others_fine gap t.1.0.coded,
      )
  items_proper above outer (x ∷ y ∷ z ∷ xs) a t h at_ g =
      let gap : Bytes = (seen z).gap in
      let next : List Bytes = all_in (seen y).gap ++ others_in gap in
      let next_fine : Group next = all_joined IsComment (all_in (seen y).gap) (others_in gap) (all_fine (seen y).gap t.1.0.coded) (others_fine gap t.1.1.0.coded) in
      let there : after_part outer (after_part outer Within x) y ≡ Within = ap (λ q. after_part outer q y) (item_goes x g.0 outer Within) ∙ comma_goes y g.1 outer Within in
      let rest : ItemsProper (items_in next (map seen (z ∷ xs))) = items_proper next outer (z ∷ xs) next_fine t.1.1 h.1.1 (subst (λ q. AtParts Stands outer q (z ∷ xs)) there at_.1.1) g.2 in (
        (h.0 Within at_.0 (host above (seen x) gap) false, host_fine above x gap a t.0 (suffix_fine gap t.1.1.0.coded), no_break_made x (host above (seen x) gap), rest.0),
        rest.1,
      )
