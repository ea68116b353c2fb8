-- The texts after the opening bracket of a sequence: those above each item, its suffix, and those at the end.
use Rattle.bz_hosts.proofs.Words.{[], ◌&&◌, ◌++◌, ◌+◌, ◌<◌, ◌∙◌, ◌∷◌, ◌≡◌, ◌≢◌, ◌≤◌, ◌⊎◌, above, all_in, AllByRecursion, ap, append-nil, arith, as_list, beginning_in, between, Bytes, Comment, CommentPlace, comments_at, comments_of, end_of, Expr, false, host, HostComments, Hosted, hosted, hosted_at, hosted_by, hosts_from, inl, inr, inside_expr, items_in, Leaf, List, lt-ltb, map, map-append, measured, nat_le, nat_lt, nat_tests, Node', Option, option_map_or, others_in, Part, Part as p, plain, refl, Region, seen, sizes, Some, subst, suc, suffix_in, suffix_of, sym, texts_at, true, ℕ}
use Rattle.bz_hosts.proofs.SeenParts.{comments_made}
use Rattle.bz_hosts.proofs.Around.{AllInside, Sees, SeesAt, Ended, sees_after, sees_before, sees_in_host, sees_past_host, sees_ended}
use Rattle.bz_hosts.proofs.Gathered.{key, pick, pick_same, pick_other, pick_joined, GapPlaces, texts_joined, gap_texts, gap_all, three_none, three_first, three_second, three_third, five_none, five_first, five_third, five_rest}
use Rattle.bz_hosts.proofs.Parts.{size, inner, in_parts, after_parts}
use Rattle.bz_hosts.proofs.Alternating.{IsItem, IsMark, Alternating, Regions, hosts_closed, hosts_last, hosts_more, hosts_inside}
use Rattle.bz_hosts.proofs.Insides.{inside_list, inside_made}
use Rattle.bz_hosts.proofs.Texts.{Inner, PartTexts, InHost}
use Rattle.bz_grammar.specs.Shapes as s

-- ---- places in a sequence

abbrev pub From : ℕ → ℕ → CommentPlace → Type 0
From n up q = (suc (n + n) ≤ key q) × (key q < up + up)

-- of a sequence that opens at o, from the leaf n on: the places of items, and the end
abbrev pub Mine : ℕ → ℕ → ℕ → CommentPlace → Type 0
Mine o n up q = From n up q ⊎ (key q ≡ suc (suc (o + o)))

-- what is before the first of these parts is above an item, or at the end
abbrev pub first_place : ℕ → ℕ → List Part → CommentPlace
first_place o n [] = end_of o
first_place o n (z ∷ []) = end_of o
first_place o n (x ∷ y ∷ xs) = above n

pub first_mine : (o n up : ℕ) (xs : List Part) → n < up → Mine o n up (first_place o n xs)
first_mine o n up [] h = inr refl
first_mine o n up (z ∷ []) h = inr refl
first_mine o n up (x ∷ y ∷ xs) h = let i : suc (n + n) < up + up = omega arith in inl (omega arith, i)

-- a place of an item is none of those that follow
mine_later : (o n n' up : ℕ) (q : CommentPlace) → o < n → n < n' → key q ≡ suc (n + n) → Mine o n' up q → ⊥
mine_later o n n' up q l u e (inl i) = omega (arith, i.0)
mine_later o n n' up q l u e (inr i) = omega arith

mine_beyond : (o n b n' up : ℕ) (q : CommentPlace) → o < n → b < n' → Mine o n' up q → Inner n b q → ⊥
mine_beyond o n b n' up q l u (inl i) j = omega (arith, i.0, j.1)
mine_beyond o n b n' up q l u (inr i) j = omega (arith, j.0)

mine_wider : (o n n' up : ℕ) (q : CommentPlace) → n ≤ n' → Mine o n' up q → Mine o n up q
mine_wider o n n' up q l (inl i) = inl (omega (arith, i.0), i.1)
mine_wider o n n' up q l (inr i) = inr i

host_begins : (m n hi : ℕ) → m ≤ n → n < hi → (nat_le m n && nat_lt n hi) ≡ true
host_begins m n hi h i =
    let e : nat_le m n ≡ true = grind (arith, nat_tests) in
    rw (e, lt-ltb n hi i) refl

pub beginning_first : (o hi m n : ℕ) → m ≤ n → n < hi → (xs : List Part) → Alternating s.comma_mark xs → option_map_or above (beginning_in m hi (hosts_from s.comma_mark n (map measured xs))) (end_of o) ≡ first_place o n xs
beginning_first o hi m n h i [] a = absurd a
beginning_first o hi m n h i (z ∷ []) a = ap (λ (rs : List Region). option_map_or above (beginning_in m hi rs) (end_of o)) (hosts_closed s.comma_mark n z a)
beginning_first o hi m n h i (x ∷ p.Leaf l ∷ []) a = ap (λ (rs : List Region). option_map_or above (beginning_in m hi rs) (end_of o)) (hosts_last s.comma_mark n x l a.0 a.1) ∙ rw (host_begins m n hi h i) refl
beginning_first o hi m n h i (x ∷ Node' kind c r ∷ []) a = absurd a.1
beginning_first o hi m n h i (x ∷ p.Leaf l ∷ z ∷ xs) a = ap (λ (rs : List Region). option_map_or above (beginning_in m hi rs) (end_of o)) (hosts_more s.comma_mark n x l (z ∷ xs) a.0 a.1) ∙ rw (host_begins m n hi h i) refl
beginning_first o hi m n h i (x ∷ Node' kind c r ∷ z ∷ xs) a = absurd a.1

-- a gap in a sequence and in none of its items
pub gap_free : (all : List Region) (m o hi lo up : ℕ) (rs : List Region) → AllInside lo up rs → m ≤ lo → m ≤ hi → Sees all m (Some (between o hi)) hi rs →
    GapPlaces all m (option_map_or above (beginning_in m hi rs) (end_of o)) (option_map_or above (beginning_in m hi rs) (end_of o))
gap_free all m o hi lo up rs i l u h =
    let w = sees_before all m (Some (between o hi)) hi lo up m [] rs i l l u h in
    let e = h.begins hi (omega arith) in
    record { on_line = λ t. rw (w.ends, w.inner, e) refl; below = λ t. rw (w.inner, e) refl }

gap_ended : (all : List Region) (m first o hi : ℕ) (rs : List Region) → Ended all m first (Some (between o hi)) hi rs → GapPlaces all m (suffix_of first) (option_map_or above (beginning_in m hi rs) (end_of o))
gap_ended all m first o hi rs h = record { on_line = λ t. rw h.ends refl; below = λ t. rw (h.inner, h.begins) refl }

-- ---- an item with its comments

pub host_with : (all : List Region) (n b e : ℕ) (x : Part) (c : HostComments) (cs : List Comment) (rs : List Region) (hs : List Hosted) →
    texts_at all (above n) cs ≡ c.before → texts_at all (suffix_of n) cs ≡ as_list c.suffix → map (hosted_at all cs) ((measured x).inside n) ≡ inside_expr (plain (seen x)) → map (hosted_at all cs) rs ≡ hs →
    map (hosted_at all cs) (host n b e ∷ ((measured x).inside n ++ rs)) ≡ hosted_by (comments_of ((seen x).make c false)) ∷ (inside_expr ((seen x).make c false) ++ hs)
host_with all n b e x c cs rs hs before suffix inside rest =
    let made : Expr = (seen x).make c false in
    let first : hosted (texts_at all (above n) cs) (texts_at all (suffix_of n) cs) ≡ hosted_by (comments_of made) =
    ap (λ (z : List Bytes). hosted z (texts_at all (suffix_of n) cs)) before ∙ (ap (λ (z : List Bytes). hosted c.before z) suffix ∙ ap hosted_by (sym (comments_made x c false))) in
    let then_ : map (hosted_at all cs) ((measured x).inside n ++ rs) ≡ inside_expr made ++ hs =
    map-append (hosted_at all cs) ((measured x).inside n) rs
    ∙ (ap (λ (z : List Hosted). z ++ map (hosted_at all cs) rs) (inside ∙ sym (inside_made x c false)) ∙ ap (λ (z : List Hosted). inside_expr made ++ z) rest) in
    ap (λ (z : Hosted). z ∷ map (hosted_at all cs) ((measured x).inside n ++ rs)) first ∙ ap (λ (z : List Hosted). hosted_by (comments_of made) ∷ z) then_

-- ---- the texts of a sequence after the gap before the first of these parts

pub record BodyTexts (all : List Region) (o hi n : ℕ) (xs : List Part) : Type 0 where
  pub outer : (q : CommentPlace) → (Mine o n hi q → ⊥) → texts_at all q (after_parts n xs) ≡ []
  pub found : (cs : List Comment) (before : List Bytes) → ((q : CommentPlace) → Mine o n hi q → texts_at all q cs ≡ pick (first_place o n xs) q before ++ texts_at all q (after_parts n xs)) →
      (map (hosted_at all cs) (hosts_from s.comma_mark n (map measured xs)) ≡ inside_list (items_in before (map seen xs)).0) × (texts_at all (end_of o) cs ≡ (items_in before (map seen xs)).1)

-- the last item, with the closing bracket after it
module _ (all : List Region) (o hi n : ℕ) (x : Part) (l : Leaf) (opened : o < n) (up : hi ≡ suc (n + size x)) (item : IsItem x) (mark : IsMark s.comma_mark false (p.Leaf l)) (r : Regions x) (i : InHost all x)
    (s' : SeesAt all (Some (between o hi)) (suc n) hi (hosts_from s.comma_mark n (map measured (x ∷ p.Leaf l ∷ [])))) where
  last_texts : BodyTexts all o hi n (x ∷ p.Leaf l ∷ [])
  last_texts =
      let b : ℕ = n + size x in
      let rs : List Region = (measured x).inside n in
      let loose : List Bytes = (seen x).loose in
      let some = r.some in
      let sees : SeesAt all (Some (between o hi)) (suc n) hi (host n b b ∷ (rs ++ [])) = λ q v w. subst (Sees all q (Some (between o hi)) hi) (hosts_last s.comma_mark n x l item mark) (s' q v w) in
      let part : PartTexts all n n x = i n b b n (omega arith) (λ q v w. sees_before all q (Some (host n b b)) hi b hi b rs [] tt (omega arith) (omega arith) (omega arith)
      (sees_in_host all q (Some (between o hi)) hi n b b (rs ++ []) (omega arith) w (omega arith) (sees q v (omega arith)))) in
      let places : GapPlaces all b (suffix_of n) (end_of o) = gap_ended all b n o hi []
      (sees_ended all b (Some (between o hi)) hi n b b hi rs [] (omega arith) (omega arith) (omega arith) (r.within n) tt (omega arith) (sees b (omega arith) (omega arith))) in
      let collected : (q : CommentPlace) → texts_at all q (after_parts n (x ∷ p.Leaf l ∷ [])) ≡ texts_at all q (inner n x) ++ (pick (suffix_of n) q (as_list (suffix_in l.gap)) ++ pick (end_of o) q (others_in l.gap)) =
      λ q. texts_joined all q (inner n x) (comments_at b l.gap ++ []) ∙ ap (λ (z : List Bytes). texts_at all q (inner n x) ++ z)
      (texts_joined all q (comments_at b l.gap) [] ∙ (append-nil (texts_at all q (comments_at b l.gap)) ∙ gap_texts all q (suffix_of n) (end_of o) b l.gap places)) in
      record {
        outer = λ q u.
            let differ : suc (n + n) ≡ key q → ⊥ = λ e. u (inl (omega arith, omega arith)) in
            collected q ∙ three_none _ _ _ (part.outer q (λ j. u (inl (omega (arith, j.0), omega (arith, j.1)))) ∙ pick_other (above n) q loose differ) (pick_other (suffix_of n) q (as_list (suffix_in l.gap)) differ)
            (pick_other (end_of o) q (others_in l.gap) (λ e. u (inr (sym e))));
        found = λ cs before f.
            let here : From n hi (above n) = (omega arith, omega arith) in
            let inside : map (hosted_at all cs) rs ≡ inside_expr (plain (seen x)) = part.hosts cs (λ q j.
            let j0 = j.0 in
            f q (inl (omega arith, omega (arith, j.1))) ∙ (ap (λ (z : List Bytes). z ++ texts_at all q (after_parts n (x ∷ p.Leaf l ∷ []))) (pick_other (above n) q before (λ e. omega arith))
            ∙ (collected q ∙ three_first _ _ _ (texts_at all q (inner n x)) refl (pick_other (suffix_of n) q (as_list (suffix_in l.gap)) (λ e. omega arith)) (pick_other (end_of o) q (others_in l.gap) (λ e. omega arith))))) in
            let at_above : texts_at all (above n) cs ≡ before ++ loose =
            f (above n) (inl here) ∙ (ap (λ (z : List Bytes). z ++ texts_at all (above n) (after_parts n (x ∷ p.Leaf l ∷ []))) (pick_same (above n) before)
            ∙ ap (λ (z : List Bytes). before ++ z) (collected (above n) ∙ three_first _ _ _ loose (part.outer (above n) (λ j. omega (arith, j.0)) ∙ pick_same (above n) loose) refl refl)) in
            let at_suffix : texts_at all (suffix_of n) cs ≡ as_list (suffix_in l.gap) =
            f (suffix_of n) (inl here) ∙ (collected (suffix_of n) ∙ three_second _ _ _ (as_list (suffix_in l.gap)) (part.outer (suffix_of n) (λ j. omega (arith, j.0))) (pick_same (suffix_of n) (as_list (suffix_in l.gap))) refl) in
            let at_end : texts_at all (end_of o) cs ≡ others_in l.gap =
            f (end_of o) (inr refl) ∙ (collected (end_of o) ∙ three_third _ _ _ (others_in l.gap) (part.outer (end_of o) (λ j. omega (arith, j.0))) refl (pick_same (end_of o) (others_in l.gap))) in (
              ap (map (hosted_at all cs)) (hosts_last s.comma_mark n x l item mark) ∙ host_with all n b b x (record { before = before ++ loose; suffix = suffix_in l.gap }) cs [] [] at_above at_suffix inside refl,
              at_end,
            );
      }

-- an item, its comma, and those after it
module _ (all : List Region) (o hi n : ℕ) (x : Part) (l : Leaf) (z : Part) (xs : List Part) (opened : o < n) (up : hi ≡ suc (n + size x) + sizes (map measured (z ∷ xs))) (item : IsItem x)
    (mark : IsMark s.comma_mark true (p.Leaf l)) (a : Alternating s.comma_mark (z ∷ xs)) (r : Regions x) (r' : AllByRecursion Regions (z ∷ xs)) (i : InHost all x)
    (s' : SeesAt all (Some (between o hi)) (suc n) hi (hosts_from s.comma_mark n (map measured (x ∷ p.Leaf l ∷ z ∷ xs)))) where
  more_texts : (SeesAt all (Some (between o hi)) (suc (suc (n + size x))) hi (hosts_from s.comma_mark (suc (n + size x)) (map measured (z ∷ xs))) → BodyTexts all o hi (suc (n + size x)) (z ∷ xs)) → BodyTexts all o hi n (x ∷ p.Leaf l ∷ z ∷ xs)
  more_texts later =
      let b : ℕ = n + size x in
      let n' : ℕ = suc b in
      let rs : List Region = (measured x).inside n in
      let rs' : List Region = hosts_from s.comma_mark n' (map measured (z ∷ xs)) in
      let loose : List Bytes = (seen x).loose in
      let gap : Bytes = (seen z).gap in
      let place : CommentPlace = first_place o n' (z ∷ xs) in
      let some = r.some in
      let some' = r'.0.some in
      let found : Option Region = Some (between o hi) in
      let up' : ℕ = n' + sizes (map measured (z ∷ xs)) in
      let within : AllInside n' up' rs' = hosts_inside s.comma_mark n' (z ∷ xs) a r' in
      let sees : SeesAt all found (suc n) hi (host n b n' ∷ (rs ++ rs')) = λ q v w. subst (Sees all q found hi) (hosts_more s.comma_mark n x l (z ∷ xs) item mark) (s' q v w) in
      let past : (q : ℕ) → b ≤ q → n' ≢ q → q < hi → Sees all q found hi rs' = λ q v d w. sees_after all q found hi n b rs rs' (r.within n) v (sees_past_host all q found hi n b n' (rs ++ rs') (omega arith) v d (sees q (omega arith) w)) in
      let part : PartTexts all n n x = i n b n' n (omega arith) (λ q v w. sees_before all q (Some (host n b n')) hi n' up' b rs rs' within (omega arith) (omega arith) (omega arith)
      (sees_in_host all q found hi n b n' (rs ++ rs') (omega arith) w (omega arith) (sees q v (omega arith)))) in
      let rest : BodyTexts all o hi n' (z ∷ xs) = later (λ q v w. past q (omega arith) (λ e. omega arith) w) in
      let at_comma : GapPlaces all b place place =
      subst (λ (y : CommentPlace). GapPlaces all b y y) (beginning_first o hi b n' (omega arith) (omega arith) (z ∷ xs) a) (gap_free all b o hi n' up' rs' within (omega arith) (omega arith) (past b (omega arith) (λ e. omega arith) (omega arith))) in
      let at_next : GapPlaces all n' (suffix_of n) place =
      subst (GapPlaces all n' (suffix_of n)) (beginning_first o hi n' n' (omega arith) (omega arith) (z ∷ xs) a)
      (gap_ended all n' n o hi rs' (sees_ended all n' found hi n b n' up' rs rs' (omega arith) (omega arith) (omega arith) (r.within n) within (omega arith) (sees n' (omega arith) (omega arith)))) in
      let whole : List Comment = after_parts n (x ∷ p.Leaf l ∷ z ∷ xs) in
      let following : List Comment = after_parts n' (z ∷ xs) in
      let one : b + 1 ≡ n' = omega arith in
      let collected : (q : CommentPlace) → texts_at all q whole ≡ texts_at all q (inner n x) ++ (pick place q (all_in l.gap) ++ ((pick (suffix_of n) q (as_list (suffix_in gap)) ++ pick place q (others_in gap)) ++ texts_at all q following)) =
      λ q. ap (λ (y : ℕ). texts_at all q (inner n x ++ (comments_at b l.gap ++ in_parts y (z ∷ xs)))) one
      ∙ (texts_joined all q (inner n x) (comments_at b l.gap ++ (comments_at n' gap ++ following))
      ∙ ap (λ (y : List Bytes). texts_at all q (inner n x) ++ y) (texts_joined all q (comments_at b l.gap) (comments_at n' gap ++ following)
      ∙ (ap (λ (y : List Bytes). y ++ texts_at all q (comments_at n' gap ++ following)) (gap_all all q place b l.gap at_comma)
      ∙ ap (λ (y : List Bytes). pick place q (all_in l.gap) ++ y) (texts_joined all q (comments_at n' gap) following ∙ ap (λ (y : List Bytes). y ++ texts_at all q following) (gap_texts all q (suffix_of n) place n' gap at_next))))) in
      let place_mine : Mine o n' hi place = first_mine o n' hi (z ∷ xs) (omega arith) in
      let place_later : (q : CommentPlace) → key q ≡ suc (n + n) → key place ≡ key q → ⊥ = λ q e d. mine_later o n n' hi place opened (omega arith) (d ∙ e) place_mine in
      let place_beyond : (q : CommentPlace) → Inner n b q → key place ≡ key q → ⊥ = λ q j d. mine_beyond o n b n' hi place opened (omega arith) place_mine (subst (λ (y : ℕ). (suc (suc (n + n)) ≤ y) × (y < b + b)) (sym d) j) in
      record {
        outer = λ q u.
            let differ : suc (n + n) ≡ key q → ⊥ = λ e. u (inl (omega arith, omega arith)) in
            let apart : key place ≡ key q → ⊥ = λ e. u (mine_wider o n n' hi q (omega arith) (moved place q e place_mine)) in
            collected q ∙ five_none _ _ _ _ _ (part.outer q (λ j. u (inl (omega (arith, j.0), omega (arith, j.1)))) ∙ pick_other (above n) q loose differ) (pick_other place q (all_in l.gap) apart)
            (pick_other (suffix_of n) q (as_list (suffix_in gap)) differ) (pick_other place q (others_in gap) apart) (rest.outer q (λ j. u (mine_wider o n n' hi q (omega arith) j)));
        found = λ cs before f.
            let here : From n hi (above n) = (omega arith, omega arith) in
            let inside : map (hosted_at all cs) rs ≡ inside_expr (plain (seen x)) = part.hosts cs (λ q j.
            let j0 = j.0 in
            f q (inl (omega arith, omega (arith, j.1))) ∙ (ap (λ (y : List Bytes). y ++ texts_at all q whole) (pick_other (above n) q before (λ e. omega arith))
            ∙ (collected q ∙ five_first _ _ _ _ _ (texts_at all q (inner n x)) refl (pick_other place q (all_in l.gap) (place_beyond q j)) (pick_other (suffix_of n) q (as_list (suffix_in gap)) (λ e. omega arith))
            (pick_other place q (others_in gap) (place_beyond q j)) (rest.outer q (λ k. mine_beyond o n b n' hi q opened (omega arith) k j))))) in
            let at_above : texts_at all (above n) cs ≡ before ++ loose =
            f (above n) (inl here) ∙ (ap (λ (y : List Bytes). y ++ texts_at all (above n) whole) (pick_same (above n) before)
            ∙ ap (λ (y : List Bytes). before ++ y) (collected (above n) ∙ five_first _ _ _ _ _ loose (part.outer (above n) (λ j. omega (arith, j.0)) ∙ pick_same (above n) loose)
            (pick_other place (above n) (all_in l.gap) (place_later (above n) refl)) refl (pick_other place (above n) (others_in gap) (place_later (above n) refl))
            (rest.outer (above n) (mine_later o n n' hi (above n) opened (omega arith) refl)))) in
            let at_suffix : texts_at all (suffix_of n) cs ≡ as_list (suffix_in gap) =
            f (suffix_of n) (inl here) ∙ (collected (suffix_of n) ∙ five_third _ _ _ _ _ (as_list (suffix_in gap)) (part.outer (suffix_of n) (λ j. omega (arith, j.0)))
            (pick_other place (suffix_of n) (all_in l.gap) (place_later (suffix_of n) refl)) (pick_same (suffix_of n) (as_list (suffix_in gap)))
            (pick_other place (suffix_of n) (others_in gap) (place_later (suffix_of n) refl)) (rest.outer (suffix_of n) (mine_later o n n' hi (suffix_of n) opened (omega arith) refl))) in
            let next = rest.found cs (all_in l.gap ++ others_in gap) (λ q j.
            let differ : suc (n + n) ≡ key q → ⊥ = λ e. mine_later o n n' hi q opened (omega arith) (sym e) j in
            f q (mine_wider o n n' hi q (omega arith) j) ∙ (ap (λ (y : List Bytes). y ++ texts_at all q whole) (pick_other (above n) q before differ)
            ∙ (collected q ∙ (five_rest _ (pick place q (all_in l.gap)) _ (pick place q (others_in gap)) (texts_at all q following)
            (part.outer q (mine_beyond o n b n' hi q opened (omega arith) j) ∙ pick_other (above n) q loose differ) (pick_other (suffix_of n) q (as_list (suffix_in gap)) differ)
            ∙ ap (λ (y : List Bytes). y ++ texts_at all q following) (sym (pick_joined place q (all_in l.gap) (others_in gap))))))) in (
              ap (map (hosted_at all cs)) (hosts_more s.comma_mark n x l (z ∷ xs) item mark) ∙ host_with all n b n' x (record { before = before ++ loose; suffix = suffix_in gap }) cs rs'
                  (inside_list (items_in (all_in l.gap ++ others_in gap) (map seen (z ∷ xs))).0) at_above at_suffix inside next.0,
              next.1,
            );
      }
    where
      moved : (q q' : CommentPlace) → key q ≡ key q' → Mine o (suc (n + size x)) hi q → Mine o (suc (n + size x)) hi q'
      moved q q' e (inl j) = inl (omega (arith, j.0), omega (arith, j.1))
      moved q q' e (inr j) = inr (sym e ∙ j)

pub body_texts : (all : List Region) (o hi n : ℕ) (xs : List Part) → o < n → hi ≡ n + sizes (map measured xs) → Alternating s.comma_mark xs → AllByRecursion Regions xs → AllByRecursion (InHost all) xs →
    SeesAt all (Some (between o hi)) (suc n) hi (hosts_from s.comma_mark n (map measured xs)) →
    BodyTexts all o hi n xs
body_texts all o hi n [] d u a r i s' = absurd a
body_texts all o hi n (p.Leaf l ∷ []) d u a r i s' = record {
  outer = λ q v. refl;
  found = λ cs before f. (ap (map (hosted_at all cs)) (hosts_closed s.comma_mark n (p.Leaf l) a), f (end_of o) (inr refl) ∙ (append-nil (pick (end_of o) (end_of o) before) ∙ pick_same (end_of o) before));
}
body_texts all o hi n (Node' kind c r' ∷ []) d u a r i s' = absurd a
body_texts all o hi n (x ∷ p.Leaf l ∷ []) d u a r i s' = last_texts all o hi n x l d (omega arith) a.0 a.1 r.0 i.0 s'
body_texts all o hi n (x ∷ Node' kind c r' ∷ []) d u a r i s' = absurd a.1
body_texts all o hi n (x ∷ p.Leaf l ∷ z ∷ xs) d u a r i s' =
    let some = r.0.some in
    more_texts all o hi n x l z xs d (omega arith) a.0 a.1 a.2 r.0 r.1.1 i.0 s' (λ t. body_texts all o hi (suc (n + size x)) (z ∷ xs) (omega arith) (omega arith) a.2 r.1.1 i.1.1 t)
body_texts all o hi n (x ∷ Node' kind c r' ∷ z ∷ xs) d u a r i s' = absurd a.1
