-- Pieces of a file: what is read of leaves that follow each other, with the hosts in it, and the hosts by their places.
use Rattle.bz_hosts.proofs.Words.{[], ◌++◌, ◌+◌, ◌<◌, ◌||◌, ◌∙◌, ◌∷◌, ◌≡◌, ◌≢◌, ◌≤◌, after_first_line, all_joined, AllByRecursion, ap, append-nil, append_assoc, arith, Bool, Bytes, Comment, CommentPlace, comments_from, comments_in, false, first_leaf, flat_map, flat_map-append, Hosted, Leaf, left_by, length, length-append, lines_before, lines_of, lines_of_leaf, List, list_any, nat_eq, ne_eqb, None, Page, refl, Region, regions_in, statement_hosts, Stretch, stretch_hosts, subst, Suite, suites_in, sym, texts_at, ℕ}
use Rattle.bz_hosts.proofs.Alternating.{inside_joined}
use Rattle.bz_hosts.proofs.Gathered.{key, texts_joined}
use Rattle.bz_hosts.proofs.Parts.{comments_joined}
use Rattle.bz_hosts.proofs.Sequences.{From}
use Rattle.bz_hosts.proofs.SuiteLines.{gap_of, last_leaf_gap, Lines, Between, AllBetween, suites_wider, left_joined, past, beyond, gap_joined, last_joined, PieceRead, with_left, lines_there}
use Rattle.bz_hosts.proofs.SeenParts.{all_mapped}
use Rattle.bz_hosts.proofs.Around as r

-- ---- where suites begin

abbrev pub begins_suite : ℕ → List Suite → Bool
begins_suite m xs = list_any (λ x. nat_eq x.first m) xs

none_begin : (m : ℕ) (xs : List Suite) → AllByRecursion (λ x. x.first ≢ m) xs → begins_suite m xs ≡ false
none_begin m [] h = refl
none_begin m (x ∷ xs) h = ap (λ t. t || begins_suite m xs) (ne_eqb x.first m h.0) ∙ none_begin m xs h.1

begins_first : (m : ℕ) (xs ys : List Suite) → AllByRecursion (λ x. x.first ≢ m) ys → begins_suite m (xs ++ ys) ≡ begins_suite m xs
begins_first m [] ys h = none_begin m ys h
begins_first m (x ∷ xs) ys h = ap (λ t. nat_eq x.first m || t) (begins_first m xs ys h)

pub begins_second : (m : ℕ) (xs ys : List Suite) → AllByRecursion (λ x. x.first ≢ m) xs → begins_suite m (xs ++ ys) ≡ begins_suite m ys
begins_second m [] ys h = refl
begins_second m (x ∷ xs) ys h = ap (λ t. t || begins_suite m (xs ++ ys)) (ne_eqb x.first m h.0) ∙ begins_second m xs ys h.1

pub first_before : (lo hi m : ℕ) (xs : List Suite) → hi ≤ m → AllBetween lo hi xs → AllByRecursion (λ x. x.first ≢ m) xs
first_before lo hi m xs l h = all_mapped (Between lo hi) (λ x. x.first ≢ m) (λ x b e. omega (arith, b.1, b.2, e)) xs h

pub first_after : (lo hi m : ℕ) (xs : List Suite) → m ≤ lo → AllBetween lo hi xs → AllByRecursion (λ x. x.first ≢ m) xs
first_after lo hi m xs l h = all_mapped (Between lo hi) (λ x. x.first ≢ m) (λ x b e. omega (arith, b.0, e)) xs h

abbrev pub regions_of : List Stretch → List Region
regions_of sts = flat_map regions_in sts

abbrev pub suites_of : List Stretch → List Suite
suites_of sts = flat_map suites_in sts

abbrev pub Starts : ℕ → List Stretch → Type 0
Starts n [] = ⊥
Starts n (x ∷ xs) = first_leaf x ≡ n

starts_joined : (n : ℕ) (a b : List Stretch) → Starts n a → Starts n (a ++ b)
starts_joined n [] b h = absurd h
starts_joined n (x ∷ a) b h = h

module _ (page : Page) where
  abbrev pub comments : List Comment
  comments = comments_from 0 page.leaves

  abbrev pub along : List Stretch → List Hosted
  along sts = flat_map (λ (x : Stretch). stretch_hosts page (lines_of_leaf page (first_leaf x)) x) sts

  -- what is seen of suites from the leaf n on up to e
  pub record SeesSuites (n e : ℕ) (own : List Suite) : Type 0 where
    pub after : (a m : ℕ) → n ≤ a → n < m → m ≤ e → (lines : Lines) → left_by a m page.suites lines ≡ left_by a m own lines
    pub inner : (a m : ℕ) → n < m → m < e → (lines : Lines) → left_by a m page.suites lines ≡ left_by a m own lines
    pub begins : (m : ℕ) → n < m → m < e → begins_suite m page.suites ≡ begins_suite m own

  pub sees_first : (n mid e : ℕ) (xs ys : List Suite) → mid ≤ e → AllBetween mid e ys → SeesSuites n e (xs ++ ys) → SeesSuites n mid xs
  sees_first n mid e xs ys l h s = record {
    after = λ a m i j k lines. s.after a m i j (omega arith) lines ∙ (left_joined a m xs ys lines ∙ ap (left_by a m xs) (beyond a m mid e ys lines k h));
    inner = λ a m j k lines. s.inner a m j (omega arith) lines ∙ (left_joined a m xs ys lines ∙ ap (left_by a m xs) (beyond a m mid e ys lines (omega arith) h));
    begins = λ m j k. s.begins m j (omega arith) ∙ begins_first m xs ys (first_after mid e m ys (omega arith) h);
  }

  pub sees_second : (n mid e : ℕ) (xs ys : List Suite) → n ≤ mid → AllBetween n mid xs → SeesSuites n e (xs ++ ys) → SeesSuites mid e ys
  sees_second n mid e xs ys l h s = record {
    after = λ a m i j k lines. s.after a m (omega arith) (omega arith) k lines ∙ (left_joined a m xs ys lines ∙ past a m n mid xs (left_by a m ys lines) j h);
    inner = λ a m j k lines. s.inner a m (omega arith) k lines ∙ (left_joined a m xs ys lines ∙ past a m n mid xs (left_by a m ys lines) j h);
    begins = λ m j k. s.begins m (omega arith) k ∙ begins_second m xs ys (first_before n mid m xs (omega arith) h);
  }

  -- Leaves from the number n on up to e, with what is in them: their regions are there, and no comment of theirs is elsewhere.
  pub record Extent (n e : ℕ) (ls : List Leaf) (sts : List Stretch) : Type 0 where
    pub some : 0 < length ls
    pub up : n + length ls ≡ e
    pub bounds : AllBetween n e (suites_of sts)
    pub within : r.AllInside n e (regions_of sts)
    pub outer : r.SeesAt page.regions None n e (regions_of sts) → (q : CommentPlace) → 0 < key q → (From n e q → ⊥) → texts_at page.regions q (comments_from n ls) ≡ []

  -- these leaves are there
  pub record At (n e : ℕ) (ls : List Leaf) (sts : List Stretch) : Type 0 where
    pub front : List Leaf
    pub back : List Leaf
    pub leaves : page.leaves ≡ front ++ (ls ++ back)
    pub counted : length front ≡ n
    pub sees : SeesSuites n e (suites_of sts)
    pub regions : r.SeesAt page.regions None n e (regions_of sts)
    pub texts : (q : CommentPlace) → From n e q → texts_at page.regions q comments ≡ texts_at page.regions q (comments_from n ls)

  module _ (n m e : ℕ) (ls ls' : List Leaf) (sts sts' : List Stretch) (h : Extent n m ls sts) (h' : Extent m e ls' sts') where
    length_there : length (ls ++ ls') ≡ length ls + length ls'
    length_there = length-append ls ls'

    pub mine : (q : CommentPlace) → texts_at page.regions q (comments_from n (ls ++ ls')) ≡ texts_at page.regions q (comments_from n ls) ++ texts_at page.regions q (comments_from m ls')
    mine q = rw (comments_joined n ls ls', h.up, texts_joined page.regions q (comments_from n ls) (comments_from m ls')) refl

    module _ (s : r.SeesAt page.regions None n e (regions_of (sts ++ sts'))) where
      apart : r.SeesAt page.regions None n e (regions_of sts ++ regions_of sts')
      apart = subst (r.SeesAt page.regions None n e) (flat_map-append regions_in sts sts') s

      pub regions_first : r.SeesAt page.regions None n m (regions_of sts)
      regions_first q v w = r.sees_before page.regions q None e m e m (regions_of sts) (regions_of sts') h'.within (omega arith) (omega arith) (omega arith) (apart q v (omega arith))

      pub regions_second : r.SeesAt page.regions None m e (regions_of sts')
      regions_second q v w = r.sees_after page.regions q None e n m (regions_of sts) (regions_of sts') h.within v (apart q (omega arith) w)

    pub both_extents : Extent n e (ls ++ ls') (sts ++ sts')
    both_extents =
        let len = length_there in
        record {
          some = omega arith;
          up = omega arith;
          bounds = subst (AllBetween n e) (sym (flat_map-append suites_in sts sts'))
              (all_joined (Between n e) (suites_of sts) (suites_of sts') (suites_wider n m n e (omega arith) (omega arith) (suites_of sts) h.bounds) (suites_wider m e n e (omega arith) (omega arith) (suites_of sts') h'.bounds));
          within = subst (r.AllInside n e) (sym (flat_map-append regions_in sts sts'))
              (inside_joined n e (regions_of sts) (regions_of sts') (r.all_wider n m n e (omega arith) (omega arith) (regions_of sts) h.within) (r.all_wider m e n e (omega arith) (omega arith) (regions_of sts') h'.within));
          outer = λ s q d o. mine q ∙ rw (h.outer (regions_first s) q d (λ j. o (j.0, omega (arith, j.1))), h'.outer (regions_second s) q d (λ j. o (omega (arith, j.0), j.1))) refl;
        }

    module _ (x : At n e (ls ++ ls') (sts ++ sts')) where
      pub seen_suites : SeesSuites n e (suites_of sts ++ suites_of sts')
      seen_suites = subst (SeesSuites n e) (flat_map-append suites_in sts sts') x.sees

      pub leaves_first : page.leaves ≡ x.front ++ (ls ++ (ls' ++ x.back))
      leaves_first = x.leaves ∙ ap (λ (z : List Leaf). x.front ++ z) (append_assoc ls ls' x.back)

      abbrev pub at_first : At n m ls sts
      at_first =
          record {
            front = x.front;
            back = ls' ++ x.back;
            leaves = leaves_first;
            counted = x.counted;
            sees = sees_first n m e (suites_of sts) (suites_of sts') (omega arith) h'.bounds seen_suites;
            regions = regions_first x.regions;
            texts = λ q f. x.texts q (omega arith, omega arith) ∙ (mine q ∙ rw (h'.outer (regions_second x.regions) q (omega arith) (λ j. omega (arith, j.0)), append-nil (texts_at page.regions q (comments_from n ls))) refl);
          }

      abbrev pub at_second : At m e ls' sts'
      at_second =
          let len = length-append x.front ls in
          record {
            front = x.front ++ ls;
            back = x.back;
            leaves = leaves_first ∙ sym (append_assoc x.front ls (ls' ++ x.back));
            counted = omega arith;
            sees = sees_second n m e (suites_of sts) (suites_of sts') (omega arith) h.bounds seen_suites;
            regions = regions_second x.regions;
            texts = λ q f. x.texts q (omega arith, omega arith) ∙ (mine q ∙ rw (h.outer (regions_first x.regions) q (omega arith) (λ j. omega (arith, j.1))) refl);
          }

  -- what is read of the leaves, where these comment lines are above them
  pub record Piece (n e : ℕ) (ls : List Leaf) (sts : List Stretch) (group : List Bytes) (read : PieceRead) : Type 0 where
    pub extent : Extent n e ls sts
    pub starts : Starts n sts
    pub left : (a : ℕ) → a ≤ n → (after : Lines) → (read after).1 ≡ left_by a e (suites_of sts) (after_first_line (lines_of (last_leaf_gap ls)) ++ after)
    pub hosts : (x : At n e ls sts) → (read (lines_of (gap_of x.back))).0 ≡ statement_hosts page group sts

  pub same_piece : (n e e' : ℕ) (ls ls' : List Leaf) (sts sts' : List Stretch) (group : List Bytes) (read read' : PieceRead) → e ≡ e' → ls ≡ ls' → sts ≡ sts' → ((after : Lines) → read' after ≡ read after) → Piece n e ls sts group read → Piece n e' ls' sts' group read'
  same_piece n e e' ls ls' sts sts' group read read' u v w f h =
      subst (λ z. Piece n z ls' sts' group read') u (subst (λ z. Piece n e z sts' group read') v (subst (λ z. Piece n e ls z group read') w (record {
        extent = h.extent;
        starts = h.starts;
        left = λ a l after. ap (λ t. t.1) (f after) ∙ h.left a l after;
        hosts = λ x. ap (λ t. t.0) (f (lines_of (gap_of x.back))) ∙ h.hosts x;
      })))

  -- the lines that a piece leaves to what follows it
  module _ (n m e : ℕ) (ls ls' : List Leaf) (sts sts' : List Stretch) (group : List Bytes) (read : PieceRead) (h : Piece n m ls sts group read) (h' : Extent m e ls' sts') (x : At n e (ls ++ ls') (sts ++ sts')) where
    pub left_there : (read (lines_of (gap_of ls'))).1 ≡ left_by 0 m page.suites (lines_before page.leaves m)
    left_there =
        let y : At n m ls sts = at_first n m e ls ls' sts sts' h.extent h' x in
        let s : SeesSuites n e (suites_of sts ++ suites_of sts') = seen_suites n m e ls ls' sts sts' h.extent h' x in
        rw (
          s.inner 0 m (omega arith) (omega arith) (lines_before page.leaves m),
          left_joined 0 m (suites_of sts) (suites_of sts') (lines_before page.leaves m),
          beyond 0 m m e (suites_of sts') (lines_before page.leaves m) (omega arith) h'.bounds,
          lines_there page n m y.front ls y.back h.extent.some h.extent.up y.leaves y.counted,
          gap_joined ls' x.back h'.some,
        ) (h.left 0 (omega arith) (lines_of (gap_of ls')))

    -- and the comment lines above that
    group_there : comments_in (read (lines_of (gap_of ls'))).1 ≡ lines_of_leaf page m
    group_there =
        let s : SeesSuites n e (suites_of sts ++ suites_of sts') = seen_suites n m e ls ls' sts sts' h.extent h' x in
        let begins : begins_suite m page.suites ≡ false =
        s.begins m (omega arith) (omega arith) ∙ (begins_second m (suites_of sts) (suites_of sts') (first_before n m m (suites_of sts) (omega arith) h.extent.bounds) ∙ none_begin m (suites_of sts') (first_after m e m (suites_of sts') (omega arith) h'.bounds)) in
        rw (begins, left_there) refl

  pub along_first : (m : ℕ) (b : List Stretch) → Starts m b → along b ≡ statement_hosts page (lines_of_leaf page m) b
  along_first m [] h = absurd h
  along_first m (y ∷ b) h = ap (λ (z : ℕ). stretch_hosts page (lines_of_leaf page z) y ++ along b) h

  statement_joined : (n m : ℕ) (group : List Bytes) (a b : List Stretch) → Starts n a → Starts m b → statement_hosts page group (a ++ b) ≡ statement_hosts page group a ++ statement_hosts page (lines_of_leaf page m) b
  statement_joined n m group [] b h i = absurd h
  statement_joined n m group (x ∷ a) b h i = rw (flat_map-append (λ (x : Stretch). stretch_hosts page (lines_of_leaf page (first_leaf x)) x) a b, along_first m b i) (sym (append_assoc (stretch_hosts page group x) (along a) (statement_hosts page (lines_of_leaf page m) b)))

  -- one after the other
  pub both_pieces : (n m e : ℕ) (ls ls' : List Leaf) (sts sts' : List Stretch) (group : List Bytes) (read read' : PieceRead) → Piece n m ls sts group read → Piece m e ls' sts' (comments_in (read (lines_of (gap_of ls'))).1) read'
      → Piece n e (ls ++ ls') (sts ++ sts') group (λ after. with_left ((read (lines_of (gap_of ls'))).0 ++ (read' after).0) (read' after).1)
  both_pieces n m e ls ls' sts sts' group read read' h h' = record {
    extent = both_extents n m e ls ls' sts sts' h.extent h'.extent;
    starts = starts_joined n sts sts' h.starts;
    left = λ a l after.
        let lines : Lines = after_first_line (lines_of (last_leaf_gap ls')) ++ after in
        rw (last_joined ls ls' h'.extent.some, flat_map-append suites_in sts sts', left_joined a e (suites_of sts) (suites_of sts') lines, past a e n m (suites_of sts) (left_by a e (suites_of sts') lines) (omega arith) h.extent.bounds) (h'.left a (omega arith) after);
    hosts = λ x.
        let first : (read (lines_of (gap_of ls'))).0 ≡ statement_hosts page group sts = rw (sym (gap_joined ls' x.back h'.extent.some)) (h.hosts (at_first n m e ls ls' sts sts' h.extent h'.extent x)) in
        rw (statement_joined n m group sts sts' h.starts h'.starts, first, h'.hosts (at_second n m e ls ls' sts sts' h.extent h'.extent x), group_there n m e ls ls' sts sts' group read h h'.extent x) refl;
  }
