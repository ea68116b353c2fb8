-- The texts of a line, after the gap of its first leaf.
use Rattle.bz_hosts.proofs.Words.{[], ◌++◌, ◌+◌, ◌<◌, ◌∙◌, ◌∷◌, ◌≡◌, ◌≤◌, above, all_in, AllByRecursion, ap, append-nil, arith, as_list, Bytes, Comment, CommentPlace, comments_at, false, flat_map, host, hosted_at, hosts_from, inside_expr, inside_item, Item, Leaf, List, map, measured, Node', None, Option, others_in, outside, Part, Part as p, plain, refl, Region, seen, sizes, Some, statement, statements_in, subst, suc, suffix_in, suffix_of, sym, texts_at, true, ℕ}
use Rattle.bz_hosts.proofs.QuietGaps.{Quiet}
use Rattle.bz_hosts.proofs.Around.{AllInside, Sees, SeesAt, Ended, sees_after, sees_before, sees_in_host, sees_past_host, sees_ended}
use Rattle.bz_hosts.proofs.Gathered.{key, pick, pick_same, pick_other, pick_none, GapPlaces, none_in, texts_joined, gap_texts, three_none, three_first, three_second, three_third}
use Rattle.bz_hosts.proofs.Parts.{size, inner, in_parts, after_parts}
use Rattle.bz_hosts.proofs.Alternating.{IsItem, IsMark, Alternating, Regions, hosts_closed, hosts_last, hosts_more, hosts_inside}
use Rattle.bz_hosts.proofs.Texts.{PartTexts, InHost}
use Rattle.bz_hosts.proofs.Sequences.{From, host_with}
use Rattle.bz_grammar.specs.Shapes as s

-- Comments of statements from the leaf n on: none has a place of other leaves; and where all comments have at these places no
-- other texts, the regions hold what the items do.
pub record LineTexts (all : List Region) (n hi : ℕ) (mine : List Comment) (rs : List Region) (items : List Item) : Type 0 where
  pub outer : (q : CommentPlace) → 0 < key q → (From n hi q → ⊥) → texts_at all q mine ≡ []
  pub found : (cs : List Comment) → ((q : CommentPlace) → From n hi q → texts_at all q cs ≡ texts_at all q mine) → map (hosted_at all cs) rs ≡ flat_map inside_item items

pub nothing_there : (all : List Region) (n hi : ℕ) → LineTexts all n hi [] [] []
nothing_there all n hi = record { outer = λ q k o. refl; found = λ cs f. refl }

-- ---- gaps of a line

pub silent_gap : (n : ℕ) (gap : Bytes) → all_in gap ≡ [] → comments_at n gap ≡ []
silent_gap n gap e = let w = none_in gap e in rw (w.0, w.1) refl

pub gap_ended : (all : List Region) (m first hi : ℕ) (rs : List Region) → Ended all m first None hi rs → GapPlaces all m (suffix_of first) outside
gap_ended all m first hi rs h = record { on_line = λ t. rw h.ends refl; below = λ t. rw h.inner refl }

pub gap_suffix : (all : List Region) (m first : ℕ) (gap : Bytes) → GapPlaces all m (suffix_of first) outside → (q : CommentPlace) → 0 < key q → texts_at all q (comments_at m gap) ≡ pick (suffix_of first) q (as_list (suffix_in gap))
gap_suffix all m first gap h q k =
    gap_texts all q (suffix_of first) outside m gap h
    ∙ (ap (λ (z : List Bytes). pick (suffix_of first) q (as_list (suffix_in gap)) ++ z) (pick_other outside q (others_in gap) (λ e. omega arith)) ∙ append-nil (pick (suffix_of first) q (as_list (suffix_in gap))))

-- ---- a statement before others

module _ (all : List Region) (n n' hi next : ℕ) (x : Part) (suffix : Option Bytes) (whole later : List Comment) (rs : List Region) (items : List Item)
    (some : 0 < size x) (ahead : n + size x ≤ n') (up : n + size x ≤ hi) (part : PartTexts all n n x)
    (collected : (q : CommentPlace) → 0 < key q → texts_at all q whole ≡ texts_at all q (inner n x) ++ (pick (suffix_of n) q (as_list suffix) ++ texts_at all q later)) (rest : LineTexts all n' hi later rs items) where
  statement_texts : LineTexts all n hi whole (host n (n + size x) next ∷ ((measured x).inside n ++ rs)) (statement [] suffix (seen x) ∷ items)
  statement_texts =
      let b : ℕ = n + size x in
      let loose : List Bytes = (seen x).loose in
      let here : From n hi (above n) = (omega arith, omega arith) in
      record {
        outer = λ q k o.
            let differ : suc (n + n) ≡ key q → ⊥ = λ e. o (omega arith, omega arith) in
            collected q k ∙ three_none _ _ _ (part.outer q (λ j. o (omega (arith, j.0), omega (arith, j.1))) ∙ pick_other (above n) q loose differ) (pick_other (suffix_of n) q (as_list suffix) differ) (rest.outer q k (λ j. o (omega (arith, j.0), j.1)));
        found = λ cs f.
            let inside : map (hosted_at all cs) ((measured x).inside n) ≡ inside_expr (plain (seen x)) = part.hosts cs (λ q j.
            let j0 = j.0 in
            let j1 = j.1 in
            f q (omega arith, omega arith) ∙ (collected q (omega arith) ∙ three_first _ _ _ (texts_at all q (inner n x)) refl (pick_other (suffix_of n) q (as_list suffix) (λ e. omega arith)) (rest.outer q (omega arith) (λ k. omega (arith, k.0))))) in
            let at_above : texts_at all (above n) cs ≡ loose =
            f (above n) here ∙ (collected (above n) (omega arith) ∙ three_first _ _ _ loose (part.outer (above n) (λ j. omega (arith, j.0)) ∙ pick_same (above n) loose) refl (rest.outer (above n) (omega arith) (λ k. omega (arith, k.0)))) in
            let at_suffix : texts_at all (suffix_of n) cs ≡ as_list suffix =
            f (suffix_of n) here ∙ (collected (suffix_of n) (omega arith) ∙ three_second _ _ _ (as_list suffix) (part.outer (suffix_of n) (λ j. omega (arith, j.0))) (pick_same (suffix_of n) (as_list suffix))
            (rest.outer (suffix_of n) (omega arith) (λ k. omega (arith, k.0)))) in
            host_with all n b next x (record { before = loose; suffix = suffix }) cs rs (flat_map inside_item items) at_above at_suffix inside (rest.found cs (λ q j.
            let j0 = j.0 in
            let differ : suc (n + n) ≡ key q → ⊥ = λ e. omega arith in
            f q (omega arith, j.1) ∙ (collected q (omega arith) ∙ three_third _ _ _ (texts_at all q later) (part.outer q (λ k. omega (arith, k.1)) ∙ pick_other (above n) q loose differ) (pick_other (suffix_of n) q (as_list suffix) differ) refl)));
      }

-- ---- the line

module _ (all : List Region) (n hi : ℕ) (x : Part) (l : Leaf) (r : Regions x) (i : InHost all x) where
  -- the last statement, in the gap of whose end at next its suffix is
  last_statement : (l' : Leaf) (next : ℕ) (whole : List Comment) (there : List Region) → n + size x ≤ next → hi ≡ suc next → whole ≡ inner n x ++ (comments_at next l'.gap ++ []) →
      there ≡ host n (n + size x) next ∷ ((measured x).inside n ++ []) → SeesAt all None (suc n) hi there → LineTexts all n hi whole there (statement [] (suffix_in l'.gap) (seen x) ∷ [])
  last_statement l' next whole there far up same is s' =
      let b : ℕ = n + size x in
      let rs : List Region = (measured x).inside n in
      let some = r.some in
      let sees : SeesAt all None (suc n) hi (host n b next ∷ (rs ++ [])) = λ q v w. subst (Sees all q None hi) is (s' q v w) in
      let part : PartTexts all n n x = i n b next n (omega arith) (λ q v w. sees_before all q (Some (host n b next)) hi b hi b rs [] tt (omega arith) (omega arith) (omega arith)
      (sees_in_host all q None hi n b next (rs ++ []) (omega arith) w (omega arith) (sees q v (omega arith)))) in
      let places : GapPlaces all next (suffix_of n) outside =
      gap_ended all next n hi [] (sees_ended all next None hi n b hi hi rs [] (omega arith) (omega arith) (omega arith) (r.within n) tt (omega arith) (sees next (omega arith) (omega arith))) in
      let collected : (q : CommentPlace) → 0 < key q → texts_at all q whole ≡ texts_at all q (inner n x) ++ (pick (suffix_of n) q (as_list (suffix_in l'.gap)) ++ texts_at all q []) =
      λ q k. ap (texts_at all q) same ∙ (texts_joined all q (inner n x) (comments_at next l'.gap ++ []) ∙ ap (λ (z : List Bytes). texts_at all q (inner n x) ++ z)
      (texts_joined all q (comments_at next l'.gap) [] ∙ ap (λ (z : List Bytes). z ++ []) (gap_suffix all next n l'.gap places q k))) in
      subst (λ (z : List Region). LineTexts all n hi whole z (statement [] (suffix_in l'.gap) (seen x) ∷ [])) (sym is)
      (statement_texts all n hi hi next x (suffix_in l'.gap) whole [] [] [] some (omega arith) (omega arith) part collected (nothing_there all hi hi))

  -- the comments after the statement are those after its semicolon
  split : (z : Part) (xs : List Part) → all_in l.gap ≡ [] → after_parts n (x ∷ p.Leaf l ∷ z ∷ xs) ≡ inner n x ++ in_parts (suc (n + size x)) (z ∷ xs)
  split z xs silent =
      let one : n + size x + 1 ≡ suc (n + size x) = omega arith in
      ap (λ (y : List Comment). inner n x ++ (y ++ in_parts (n + size x + 1) (z ∷ xs))) (silent_gap (n + size x) l.gap silent) ∙ ap (λ (y : ℕ). inner n x ++ in_parts y (z ∷ xs)) one

  semicolon_end : (l' : Leaf) → IsItem x → IsMark s.semicolon true (p.Leaf l) → hi ≡ suc (n + size x) + 1 → IsMark s.semicolon false (p.Leaf l') → all_in l.gap ≡ [] →
      SeesAt all None (suc n) hi (hosts_from s.semicolon n (map measured (x ∷ p.Leaf l ∷ p.Leaf l' ∷ []))) →
      LineTexts all n hi (after_parts n (x ∷ p.Leaf l ∷ p.Leaf l' ∷ [])) (hosts_from s.semicolon n (map measured (x ∷ p.Leaf l ∷ p.Leaf l' ∷ []))) (statements_in [] (map seen (x ∷ p.Leaf l ∷ p.Leaf l' ∷ [])))
  semicolon_end l' item mark up mark' silent s' =
      let n' : ℕ = suc (n + size x) in
      let closed : hosts_from s.semicolon n' (map measured (p.Leaf l' ∷ [])) ≡ [] = hosts_closed s.semicolon n' (p.Leaf l') mark' in
      last_statement l' n' _ _ (omega arith) (omega arith) (split (p.Leaf l') [] silent)
      (hosts_more s.semicolon n x l (p.Leaf l' ∷ []) item mark ∙ ap (λ (y : List Region). host n (n + size x) n' ∷ ((measured x).inside n ++ y)) closed) s'

  module _ (z : Part) (xs : List Part) (item : IsItem x) (mark : IsMark s.semicolon true (p.Leaf l)) (up : hi ≡ suc (n + size x) + sizes (map measured (z ∷ xs))) (a : Alternating s.semicolon (z ∷ xs))
      (r' : AllByRecursion Regions (z ∷ xs)) (s' : SeesAt all None (suc n) hi (hosts_from s.semicolon n (map measured (x ∷ p.Leaf l ∷ z ∷ xs)))) where
    abbrev after_it : ℕ
    after_it = suc (n + size x)

    abbrev later : List Region
    later = hosts_from s.semicolon after_it (map measured (z ∷ xs))

    sees_whole : SeesAt all None (suc n) hi (host n (n + size x) after_it ∷ ((measured x).inside n ++ later))
    sees_whole q v w = subst (Sees all q None hi) (hosts_more s.semicolon n x l (z ∷ xs) item mark) (s' q v w)

    later_inside : AllInside after_it (after_it + sizes (map measured (z ∷ xs))) later
    later_inside = hosts_inside s.semicolon after_it (z ∷ xs) a r'

    sees_later : SeesAt all None (suc after_it) hi later
    sees_later q v w = sees_after all q None hi n (n + size x) ((measured x).inside n) later (r.within n) (omega arith)
        (sees_past_host all q None hi n (n + size x) after_it ((measured x).inside n ++ later) (omega arith) (omega arith) (λ e. omega arith) (sees_whole q (omega arith) w))

    inside_it : PartTexts all n n x
    inside_it =
        let b : ℕ = n + size x in
        i n b after_it n (omega arith) (λ q v w. sees_before all q (Some (host n b after_it)) hi after_it (after_it + sizes (map measured (z ∷ xs))) b ((measured x).inside n) later later_inside (omega arith)
        (omega arith) (omega arith) (sees_in_host all q None hi n b after_it ((measured x).inside n ++ later) (omega arith) w (omega arith) (sees_whole q v (omega arith))))

  before_others : (z u : Part) (xs : List Part) → IsItem x → IsMark s.semicolon true (p.Leaf l) → hi ≡ suc (n + size x) + sizes (map measured (z ∷ u ∷ xs)) → Alternating s.semicolon (z ∷ u ∷ xs) →
      AllByRecursion Regions (z ∷ u ∷ xs) → all_in l.gap ≡ [] → all_in (seen z).gap ≡ [] →
      SeesAt all None (suc n) hi (hosts_from s.semicolon n (map measured (x ∷ p.Leaf l ∷ z ∷ u ∷ xs))) →
      (SeesAt all None (suc (suc (n + size x))) hi (hosts_from s.semicolon (suc (n + size x)) (map measured (z ∷ u ∷ xs))) → LineTexts all (suc (n + size x)) hi (after_parts (suc (n + size x)) (z ∷ u ∷ xs))
      (hosts_from s.semicolon (suc (n + size x)) (map measured (z ∷ u ∷ xs))) (statements_in [] (map seen (z ∷ u ∷ xs)))) →
      LineTexts all n hi (after_parts n (x ∷ p.Leaf l ∷ z ∷ u ∷ xs)) (hosts_from s.semicolon n (map measured (x ∷ p.Leaf l ∷ z ∷ u ∷ xs))) (statements_in [] (map seen (x ∷ p.Leaf l ∷ z ∷ u ∷ xs)))
  before_others z u xs item mark up a r' silent silent' s' next =
      let n' : ℕ = suc (n + size x) in
      let some = r.some in
      let whole : List Comment = after_parts n (x ∷ p.Leaf l ∷ z ∷ u ∷ xs) in
      let following : List Comment = after_parts n' (z ∷ u ∷ xs) in
      let part : PartTexts all n n x = inside_it z (u ∷ xs) item mark up a r' s' in
      let same : whole ≡ inner n x ++ following = split z (u ∷ xs) silent ∙ ap (λ (y : List Comment). inner n x ++ (y ++ following)) (silent_gap n' (seen z).gap silent') in
      let collected : (q : CommentPlace) → 0 < key q → texts_at all q whole ≡ texts_at all q (inner n x) ++ (pick (suffix_of n) q (as_list None) ++ texts_at all q following) =
      λ q k. ap (texts_at all q) same ∙ (texts_joined all q (inner n x) following ∙ ap (λ (y : List Bytes). texts_at all q (inner n x) ++ (y ++ texts_at all q following)) (sym (pick_none (suffix_of n) q))) in
      subst (λ (y : List Region). LineTexts all n hi whole y (statements_in [] (map seen (x ∷ p.Leaf l ∷ z ∷ u ∷ xs)))) (sym (hosts_more s.semicolon n x l (z ∷ u ∷ xs) item mark))
      (statement_texts all n n' hi n' x None whole following (hosts_from s.semicolon n' (map measured (z ∷ u ∷ xs))) (statements_in [] (map seen (z ∷ u ∷ xs))) some (omega arith) (omega arith) part collected
      (next (sees_later z (u ∷ xs) item mark up a r' s')))

pub line_texts : (all : List Region) (n hi : ℕ) (xs : List Part) → hi ≡ n + sizes (map measured xs) → Alternating s.semicolon xs → Quiet xs → AllByRecursion Regions xs → AllByRecursion (InHost all) xs →
    SeesAt all None (suc n) hi (hosts_from s.semicolon n (map measured xs)) →
    LineTexts all n hi (after_parts n xs) (hosts_from s.semicolon n (map measured xs)) (statements_in [] (map seen xs))
line_texts all n hi [] u a q r i s' = absurd a
line_texts all n hi (p.Leaf l ∷ []) u a q r i s' = record { outer = λ place k o. refl; found = λ cs f. ap (map (hosted_at all cs)) (hosts_closed s.semicolon n (p.Leaf l) a) }
line_texts all n hi (Node' kind c t ∷ []) u a q r i s' = absurd a
line_texts all n hi (x ∷ p.Leaf l ∷ []) u a q r i s' = last_statement all n hi x l r.0 i.0 l (n + size x) _ _ (omega arith) (omega arith) refl (hosts_last s.semicolon n x l a.0 a.1) s'
line_texts all n hi (x ∷ Node' kind c t ∷ []) u a q r i s' = absurd a.1
line_texts all n hi (x ∷ p.Leaf l ∷ p.Leaf l' ∷ []) u a q r i s' = semicolon_end all n hi x l r.0 i.0 l' a.0 a.1 (omega arith) a.2 q s'
line_texts all n hi (x ∷ p.Leaf l ∷ Node' kind c t ∷ []) u a q r i s' = absurd a.2
line_texts all n hi (x ∷ Node' kind c t ∷ z ∷ xs) u a q r i s' = absurd a.1
line_texts all n hi (x ∷ p.Leaf l ∷ z ∷ v ∷ xs) u a q r i s' =
    let some = r.0.some in
    before_others all n hi x l r.0 i.0 z v xs a.0 a.1 (omega arith) a.2 r.1.1 q.0 q.1 s' (λ t. line_texts all (suc (n + size x)) hi (z ∷ v ∷ xs) (omega arith) a.2 q.2 r.1.1 i.1.1 t)
