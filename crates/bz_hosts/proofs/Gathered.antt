-- The texts that a place gathers from the comments of a gap, and places that differ.
use Rattle.bz_hosts.proofs.Words.{[], ◌++◌, ◌+◌, ◌∙◌, ◌∷◌, ◌≡◌, above, after_first_line, all_in, ap, append-nil, append_assoc, as_list, Bool, Bytes, cases_Bool, Comment, comment_place, CommentPlace, comments_at, comments_in, end_of, eq-eqb, false, first_comment, GapLine, if◌then◌else◌, inl, inr, lines_of, List, map, ne_eqb, others_in, outside, refl, Region, same_place, suc, suffix_in, suffix_of, sym, texts_at, true, ℕ}

-- ---- places

-- Places of an item come before those of the items after it, and the end of a sequence before what is in it.
abbrev pub key : CommentPlace → ℕ
key (suffix_of n) = suc (n + n)
key (above n) = suc (n + n)
key (end_of n) = suc (suc (n + n))
key outside = 0

pub places_differ : (p q : CommentPlace) → (key p ≡ key q → ⊥) → same_place p q ≡ false
places_differ (suffix_of n) (suffix_of m) h = ne_eqb n m (λ e. h (ap (λ z. suc (z + z)) e))
places_differ (above n) (above m) h = ne_eqb n m (λ e. h (ap (λ z. suc (z + z)) e))
places_differ (end_of n) (end_of m) h = ne_eqb n m (λ e. h (ap (λ z. suc (suc (z + z))) e))
places_differ outside outside h = absurd (h refl)
places_differ _ _ h = refl

pub place_same : (p : CommentPlace) → same_place p p ≡ true
place_same (suffix_of n) = eq-eqb n n refl
place_same (above n) = eq-eqb n n refl
place_same (end_of n) = eq-eqb n n refl
place_same outside = refl

-- ---- texts, where they have this place

abbrev pub pick : CommentPlace → CommentPlace → List Bytes → List Bytes
pick place requested texts = if same_place place requested then texts else []

pub pick_same : (p : CommentPlace) (texts : List Bytes) → pick p p texts ≡ texts
pick_same p texts = rw (place_same p) refl

pub pick_other : (p q : CommentPlace) (texts : List Bytes) → (key p ≡ key q → ⊥) → pick p q texts ≡ []
pick_other p q texts h = rw (places_differ p q h) refl

pub pick_none : (p q : CommentPlace) → pick p q [] ≡ []
pick_none p q = elim (cases_Bool (same_place p q)) [ inl e ↦ rw e refl | inr e ↦ rw e refl ]

pub pick_joined : (p q : CommentPlace) (texts texts' : List Bytes) → pick p q (texts ++ texts') ≡ pick p q texts ++ pick p q texts'
pick_joined p q texts texts' = elim (cases_Bool (same_place p q)) [ inl e ↦ rw e refl | inr e ↦ rw e refl ]

-- ---- the comments of a gap

all_split : (ls : List GapLine) → comments_in ls ≡ as_list (first_comment ls) ++ comments_in (after_first_line ls)
all_split [] = refl
all_split (line ∷ ls) = refl

nil_both : {A : Type 0} (a b : List A) → a ++ b ≡ [] → (a ≡ []) × (b ≡ [])
nil_both [] b e = (refl, e)
nil_both (x ∷ a) b e = cc

-- a gap without comments
pub none_in : (gap : Bytes) → all_in gap ≡ [] → (as_list (suffix_in gap) ≡ []) × (others_in gap ≡ [])
none_in gap e = nil_both (as_list (suffix_in gap)) (others_in gap) (sym (all_split (lines_of gap)) ∙ e)

-- Where the comments in the gap of a leaf are: one that only blanks are before, and the others.
pub record GapPlaces (all : List Region) (n : ℕ) (first rest : CommentPlace) : Type 0 where
  pub on_line : (t : Bytes) → comment_place all (record { leaf = n; on_line = true; text = t }) ≡ first
  pub below : (t : Bytes) → comment_place all (record { leaf = n; on_line = false; text = t }) ≡ rest

module _ (all : List Region) where
  pub texts_joined : (q : CommentPlace) (cs cs' : List Comment) → texts_at all q (cs ++ cs') ≡ texts_at all q cs ++ texts_at all q cs'
  texts_joined q [] cs' = refl
  texts_joined q (c ∷ cs) cs' = elim (cases_Bool (same_place (comment_place all c) q)) [
    | inl e ↦ rw e (ap (λ (z : List Bytes). c.text ∷ z) (texts_joined q cs cs'))
    | inr e ↦ rw e (texts_joined q cs cs')
  ]

  picked : (q p : CommentPlace) (n : ℕ) (on : Bool) (texts : List Bytes) → ((t : Bytes) → comment_place all (record { leaf = n; on_line = on; text = t }) ≡ p) →
      texts_at all q (map (λ text. record { leaf = n; on_line = on; text = text }) texts) ≡ pick p q texts
  picked q p n on [] h = sym (pick_none p q)
  picked q p n on (t ∷ texts) h =
      let rest : texts_at all q (map (λ text. record { leaf = n; on_line = on; text = text }) texts) ≡ pick p q texts = picked q p n on texts h in
      ap (λ (z : CommentPlace). if same_place z q then t ∷ texts_at all q (map (λ text. record { leaf = n; on_line = on; text = text }) texts) else texts_at all q (map (λ text. record { leaf = n; on_line = on; text = text }) texts)) (h t)
      ∙ (ap (λ (z : List Bytes). if same_place p q then t ∷ z else z) rest ∙ folded (same_place p q))
    where
      folded : (b : Bool) → (if b then t ∷ (if b then texts else []) else (if b then texts else [])) ≡ (if b then t ∷ texts else [])
      folded true = refl
      folded false = refl

  pub gap_texts : (q first rest : CommentPlace) (n : ℕ) (gap : Bytes) → GapPlaces all n first rest → texts_at all q (comments_at n gap) ≡ pick first q (as_list (suffix_in gap)) ++ pick rest q (others_in gap)
  gap_texts q first rest n gap h =
      texts_joined q (map (λ text. record { leaf = n; on_line = true; text = text }) (as_list (suffix_in gap))) (map (λ text. record { leaf = n; on_line = false; text = text }) (others_in gap))
      ∙ (ap (λ (z : List Bytes). z ++ texts_at all q (map (λ text. record { leaf = n; on_line = false; text = text }) (others_in gap))) (picked q first n true (as_list (suffix_in gap)) h.on_line)
      ∙ ap (λ (z : List Bytes). pick first q (as_list (suffix_in gap)) ++ z) (picked q rest n false (others_in gap) h.below))

  pub gap_all : (q p : CommentPlace) (n : ℕ) (gap : Bytes) → GapPlaces all n p p → texts_at all q (comments_at n gap) ≡ pick p q (all_in gap)
  gap_all q p n gap h = gap_texts q p p n gap h ∙ (sym (pick_joined p q (as_list (suffix_in gap)) (others_in gap)) ∙ ap (pick p q) (sym (all_split (lines_of gap))))

-- ---- texts joined of several, most of which are none

pub three_none : (a b c : List Bytes) → a ≡ [] → b ≡ [] → c ≡ [] → a ++ (b ++ c) ≡ []
three_none a b c h i j = rw (h, i, j) refl

pub three_first : (a b c u : List Bytes) → a ≡ u → b ≡ [] → c ≡ [] → a ++ (b ++ c) ≡ u
three_first a b c u h i j = rw (h, i, j) (append-nil u)

pub three_second : (a b c u : List Bytes) → a ≡ [] → b ≡ u → c ≡ [] → a ++ (b ++ c) ≡ u
three_second a b c u h i j = rw (h, i, j) (append-nil u)

pub three_third : (a b c u : List Bytes) → a ≡ [] → b ≡ [] → c ≡ u → a ++ (b ++ c) ≡ u
three_third a b c u h i j = rw (h, i, j) refl

pub five_none : (a b c d e : List Bytes) → a ≡ [] → b ≡ [] → c ≡ [] → d ≡ [] → e ≡ [] → a ++ (b ++ ((c ++ d) ++ e)) ≡ []
five_none a b c d e h i j k l = rw (h, i, j, k, l) refl

pub five_first : (a b c d e u : List Bytes) → a ≡ u → b ≡ [] → c ≡ [] → d ≡ [] → e ≡ [] → a ++ (b ++ ((c ++ d) ++ e)) ≡ u
five_first a b c d e u h i j k l = rw (h, i, j, k, l) (append-nil u)

pub five_third : (a b c d e u : List Bytes) → a ≡ [] → b ≡ [] → c ≡ u → d ≡ [] → e ≡ [] → a ++ (b ++ ((c ++ d) ++ e)) ≡ u
five_third a b c d e u h i j k l = rw (h, i, j, k, l) (append-nil (u ++ []) ∙ append-nil u)

pub five_rest : (a b c d e : List Bytes) → a ≡ [] → c ≡ [] → a ++ (b ++ ((c ++ d) ++ e)) ≡ (b ++ d) ++ e
five_rest a b c d e h i = rw (h, i) (sym (append_assoc b d e))
