-- The texts of parts inside a host: what is in no region of the parts goes to the host.
use Rattle.bz_hosts.proofs.Words.{[], ◌++◌, ◌+◌, ◌<◌, ◌∙◌, ◌∷◌, ◌≡◌, ◌≤◌, above, all_in, AllByRecursion, ap, append-nil, append_assoc, arith, Bytes, Comment, CommentPlace, comments_at, host, Hosted, hosted_at, in_row, inside_expr, List, loose_after, loose_in, map, map-append, measured, Part, plain, refl, Region, seen, sizes, Some, subst, suc, sym, texts_at, ℕ}
use Rattle.bz_hosts.proofs.Around.{AllInside, all_wider, Sees, SeesAt, sees_after, sees_before}
use Rattle.bz_hosts.proofs.Gathered.{key, pick, pick_other, pick_none, pick_joined, GapPlaces, texts_joined, gap_all}
use Rattle.bz_hosts.proofs.Parts.{size, inner, in_parts, after_parts}
use Rattle.bz_hosts.proofs.Alternating.{Regions, inside_joined}
use Rattle.bz_hosts.proofs.Insides.{insides}

-- a place strictly inside a part that begins here and ends before up
abbrev pub Inner : ℕ → ℕ → CommentPlace → Type 0
Inner n up q = (suc (suc (n + n)) ≤ key q) × (key q < up + up)

-- Comments inside the host h: those that are in none of these regions are loose, in order; where all comments have at the
-- places in these regions no other texts, the regions hold what the view says.
pub record Texts (all : List Region) (h n up : ℕ) (mine : List Comment) (loose : List Bytes) (rs : List Region) (hs : List Hosted) : Type 0 where
  pub outer : (q : CommentPlace) → (Inner n up q → ⊥) → texts_at all q mine ≡ pick (above h) q loose
  pub hosts : (cs : List Comment) → ((q : CommentPlace) → Inner n up q → texts_at all q cs ≡ texts_at all q mine) → map (hosted_at all cs) rs ≡ hs

module _ (all : List Region) (h n m m' up : ℕ) (mine mine' : List Comment) (loose loose' : List Bytes) (rs rs' : List Region) (hs hs' : List Hosted) where
  pub both_texts : h ≤ n → n ≤ m' → m ≤ suc m' → m ≤ up → Texts all h n m mine loose rs hs → Texts all h m' up mine' loose' rs' hs' → Texts all h n up (mine ++ mine') (loose ++ loose') (rs ++ rs') (hs ++ hs')
  both_texts l k d u a b = record {
    outer = λ q o.
        texts_joined all q mine mine'
        ∙ (ap (λ (z : List Bytes). z ++ texts_at all q mine') (a.outer q (λ i. o (i.0, omega (arith, i.1))))
        ∙ (ap (λ (z : List Bytes). pick (above h) q loose ++ z) (b.outer q (λ i. o (omega (arith, i.0), i.1)))
        ∙ sym (pick_joined (above h) q loose loose')));
    hosts = λ cs f.
        map-append (hosted_at all cs) rs rs'
        ∙ (ap (λ (z : List Hosted). z ++ map (hosted_at all cs) rs')
        (a.hosts cs (λ q i. f q (i.0, omega (arith, i.1)) ∙ (texts_joined all q mine mine' ∙
        (ap (λ (z : List Bytes). texts_at all q mine ++ z) (silent_second q i) ∙ append-nil (texts_at all q mine)))))
        ∙ ap (λ (z : List Hosted). hs ++ z) (b.hosts cs (λ q i. f q (omega (arith, i.0), i.1) ∙ (texts_joined all q mine mine' ∙ ap (λ (z : List Bytes). z ++ texts_at all q mine') (silent_first q i)))));
  }
    where
      silent_second : (q : CommentPlace) → Inner n m q → texts_at all q mine' ≡ []
      silent_second q i =
          let i0 = i.0 in
          let i1 = i.1 in
          b.outer q (λ j. omega (arith, j.0)) ∙ pick_other (above h) q loose' (λ e. omega arith)

      silent_first : (q : CommentPlace) → Inner m' up q → texts_at all q mine ≡ []
      silent_first q i =
          let i0 = i.0 in
          let i1 = i.1 in
          a.outer q (λ j. omega (arith, j.1)) ∙ pick_other (above h) q loose (λ e. omega arith)

module _ (all : List Region) (h n up m : ℕ) (gap : Bytes) (mine : List Comment) (loose : List Bytes) (rs : List Region) (hs : List Hosted) where
  pub with_gap : h ≤ n → GapPlaces all m (above h) (above h) → Texts all h n up mine loose rs hs → Texts all h n up (comments_at m gap ++ mine) (all_in gap ++ loose) rs hs
  with_gap l g a = record {
    outer = λ q o.
        texts_joined all q (comments_at m gap) mine
        ∙ (ap (λ (z : List Bytes). z ++ texts_at all q mine) (gap_all all q (above h) m gap g)
        ∙ (ap (λ (z : List Bytes). pick (above h) q (all_in gap) ++ z) (a.outer q o)
        ∙ sym (pick_joined (above h) q (all_in gap) loose)));
    hosts = λ cs f. a.hosts cs (λ q i.
        f q i ∙ (texts_joined all q (comments_at m gap) mine ∙ ap (λ (z : List Bytes). z ++ texts_at all q mine) (gap_all all q (above h) m gap g ∙ pick_other (above h) q (all_in gap) (λ e. omega (arith, i.0)))));
  }

-- a gap in a host and in nothing that is in it
pub gap_in_host : (all : List Region) (m hi first following next : ℕ) → Sees all m (Some (host first following next)) hi [] → GapPlaces all m (above first) (above first)
gap_in_host all m hi first following next h = record { on_line = λ t. rw (h.ends, h.inner) refl; below = λ t. rw h.inner refl }

-- ---- rows

-- what is claimed of a part that begins at n, in a host h
abbrev pub PartTexts : List Region → ℕ → ℕ → Part → Type 0
PartTexts all h n x = Texts all h n (n + size x) (inner n x) (seen x).loose ((measured x).inside n) (inside_expr (plain (seen x)))

abbrev pub InHost : List Region → Part → Type 0
InHost all x = (h b e n : ℕ) → h ≤ n → SeesAt all (Some (host h b e)) (suc n) (n + size x) ((measured x).inside n) → PartTexts all h n x

pub row_inside : (n : ℕ) (xs : List Part) → AllByRecursion Regions xs → AllInside n (n + sizes (map measured xs)) (in_row n (map measured xs))
row_inside n [] r = tt
row_inside n (x ∷ xs) r =
    let up : ℕ = n + sizes (map measured (x ∷ xs)) in
    let m : ℕ = n + size x in
    inside_joined n up ((measured x).inside n) (in_row m (map measured xs))
    (all_wider n m n up (omega arith) (omega arith) ((measured x).inside n) (r.0.within n))
    (all_wider m (m + sizes (map measured xs)) n up (omega arith) (omega arith) (in_row m (map measured xs)) (row_inside m xs r.1))

module _ (all : List Region) (h b e : ℕ) where
  nothing_texts : (n up : ℕ) → Texts all h n up [] [] [] []
  nothing_texts n up = record { outer = λ q o. sym (pick_none (above h) q); hosts = λ cs f. refl }

  pair_texts : (n up : ℕ) (x : Part) (xs : List Part) → h ≤ n → up ≡ n + sizes (map measured (x ∷ xs)) → AllByRecursion Regions (x ∷ xs) → AllByRecursion (InHost all) (x ∷ xs) →
      SeesAt all (Some (host h b e)) (suc n) up (in_row n (map measured (x ∷ xs))) →
      Texts all h (n + size x) up (in_parts (n + size x) xs) (loose_after (map seen xs)) (in_row (n + size x) (map measured xs)) (insides xs) →
      Texts all h n up (after_parts n (x ∷ xs)) (loose_in (map seen (x ∷ xs))) (in_row n (map measured (x ∷ xs))) (insides (x ∷ xs))
  pair_texts n up x xs l u r i s rest =
      let m : ℕ = n + size x in
      let some = r.0.some in
      both_texts all h n m m up (inner n x) (in_parts m xs) (seen x).loose (loose_after (map seen xs)) ((measured x).inside n) (in_row m (map measured xs)) (inside_expr (plain (seen x))) (insides xs) l (omega arith) (omega arith) (omega arith)
      (i.0 h b e n l (λ q v w. sees_before all q (Some (host h b e)) up m (m + sizes (map measured xs)) m ((measured x).inside n) (in_row m (map measured xs)) (row_inside m xs r.1) (omega arith) (omega arith) (omega arith) (s q v (omega arith))))
      rest

  -- in parts, the gap before the first of them too
  pub row_texts : (n up : ℕ) (xs : List Part) → h ≤ n → up ≡ n + sizes (map measured xs) → AllByRecursion Regions xs → AllByRecursion (InHost all) xs → SeesAt all (Some (host h b e)) n up (in_row n (map measured xs)) →
      Texts all h n up (in_parts n xs) (loose_after (map seen xs)) (in_row n (map measured xs)) (insides xs)
  row_texts n up [] l u r i s = nothing_texts n up
  row_texts n up (x ∷ xs) l u r i s =
      let m : ℕ = n + size x in
      let rs : List Region = (measured x).inside n ++ in_row m (map measured xs) in
      let some = r.0.some in
      let whole : AllInside n (n + sizes (map measured (x ∷ xs))) rs = row_inside n (x ∷ xs) r in
      let gap : GapPlaces all n (above h) (above h) = gap_in_host all n n h b e
      (sees_before all n (Some (host h b e)) up n (n + sizes (map measured (x ∷ xs))) n [] rs whole (omega arith) (omega arith) (omega arith) (s n (omega arith) (omega arith))) in
      subst (λ (z : List Bytes). Texts all h n up (in_parts n (x ∷ xs)) z rs (insides (x ∷ xs))) (sym (append_assoc (all_in (seen x).gap) (seen x).loose (loose_after (map seen xs))))
      (with_gap all h n up n (seen x).gap (inner n x ++ in_parts m xs) ((seen x).loose ++ loose_after (map seen xs)) rs (insides (x ∷ xs)) l gap
      (pair_texts n up x xs l u r i (λ q v w. s q (omega arith) w)
      (row_texts m up xs (omega arith) (omega arith) r.1 i.1 (λ q v w. sees_after all q (Some (host h b e)) up n m ((measured x).inside n) (in_row m (map measured xs)) (r.0.within n) v (s q (omega arith) w)))))

  -- after the gap before the first of them
  pub first_texts : (n up : ℕ) (xs : List Part) → h ≤ n → up ≡ n + sizes (map measured xs) → AllByRecursion Regions xs → AllByRecursion (InHost all) xs → SeesAt all (Some (host h b e)) (suc n) up (in_row n (map measured xs)) →
      Texts all h n up (after_parts n xs) (loose_in (map seen xs)) (in_row n (map measured xs)) (insides xs)
  first_texts n up [] l u r i s = nothing_texts n up
  first_texts n up (x ∷ xs) l u r i s =
      let m : ℕ = n + size x in
      let some = r.0.some in
      pair_texts n up x xs l u r i s (row_texts m up xs (omega arith) (omega arith) r.1 i.1 (λ q v w. sees_after all q (Some (host h b e)) up n m ((measured x).inside n) (in_row m (map measured xs)) (r.0.within n) v (s q (omega arith) w)))
