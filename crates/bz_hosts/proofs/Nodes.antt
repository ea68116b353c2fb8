-- The texts of a node of any kind, and so of each part of a legal tree.
use Rattle.bz_hosts.proofs.Words.{[], ◌++◌, ◌+◌, ◌∙◌, ◌∷◌, ◌≡◌, ◌≤◌, above, all_in, all_joined, AllByRecursion, ap, append-nil, append_assoc, arith, as_bzl, between, Bytes, Comment, CommentPlace, comments_at, drop, drop-map, each_legal, end_of-Part, ended, Fits, Frame, frame, host, Hosted, hosted_at, hosts_from, in_node, in_row, inl, inr, inside_expr, IsNonterminal, items-the_row-Part, items_in, Kind, lead, Leaf, LegalBy, LegalRowBy, line_shape, List, loose_in, map, Measured, measured, more_of-Part, Node', Part, Part as p, plain, refl, Region, Row_of-Part, Seen, seen, sequence, sizes, Some, subst, suc, sym, take, take-map, texts_at, values_wider, whole_shape, ℕ}
use Rattle.bz_grammar.specs.Shapes as s
use Rattle.bz_hosts.proofs.SeenParts.{all_mapped, all_parted}
use Rattle.bz_hosts.proofs.Around.{AllInside, all_wider, Sees, SeesAt, sees_after, sees_before_bracket, sees_in_sequence}
use Rattle.bz_hosts.proofs.Gathered.{key, pick, pick_other, pick_none, GapPlaces, texts_joined, gap_all}
use Rattle.bz_hosts.proofs.Parts.{size, measured_rows, Solid, some_leaf, part_solid, inner, in_parts, after_parts}
use Rattle.bz_hosts.proofs.Alternating.{Alternating, Regions, inside_joined, hosts_inside}
use Rattle.bz_hosts.proofs.Insides.{inside_list, insides}
use Rattle.bz_hosts.proofs.Texts.{Inner, Texts, both_texts, InHost, row_inside, first_texts}
use Rattle.bz_hosts.proofs.Cuts.{Cut, sequence_cut}
use Rattle.bz_hosts.proofs.Sequences.{Mine, first_place, first_mine, beginning_first, gap_free, BodyTexts, body_texts}

-- ---- parts cut at a token

pub sizes_joined : (xs ys : List Part) → sizes (map measured (xs ++ ys)) ≡ sizes (map measured xs) + sizes (map measured ys)
sizes_joined [] ys = omega arith
sizes_joined (x ∷ xs) ys = let e = sizes_joined xs ys in omega arith

regroup : (a b c d : List Comment) → a ++ (b ++ (c ++ d)) ≡ (a ++ (b ++ c)) ++ d
regroup a b c d = ap (λ (z : List Comment). a ++ z) (sym (append_assoc b c d)) ∙ sym (append_assoc a (b ++ c) d)

in_cut : (n : ℕ) (xs : List Part) (l : Leaf) (ys : List Part) → in_parts n (xs ++ p.Leaf l ∷ ys) ≡ in_parts n (xs ++ p.Leaf l ∷ []) ++ in_parts (suc (n + sizes (map measured xs))) ys
in_cut n [] l ys =
    let e : n + 1 ≡ suc (n + 0) = omega arith in
    ap (λ (z : ℕ). comments_at n l.gap ++ in_parts z ys) e ∙ ap (λ (z : List Comment). z ++ in_parts (suc (n + 0)) ys) (sym (append-nil (comments_at n l.gap)))
in_cut n (x ∷ xs) l ys =
    let m : ℕ = n + size x in
    let e : suc (m + sizes (map measured xs)) ≡ suc (n + sizes (map measured (x ∷ xs))) = omega arith in
    ap (λ (z : List Comment). comments_at n (seen x).gap ++ (inner n x ++ z)) (in_cut m xs l ys ∙ ap (λ (z : ℕ). in_parts m (xs ++ p.Leaf l ∷ []) ++ in_parts z ys) e)
    ∙ regroup (comments_at n (seen x).gap) (inner n x) (in_parts m (xs ++ p.Leaf l ∷ [])) (in_parts (suc (n + sizes (map measured (x ∷ xs)))) ys)

after_cut : (n : ℕ) (xs : List Part) (l : Leaf) (ys : List Part) → after_parts n (xs ++ p.Leaf l ∷ ys) ≡ after_parts n (xs ++ p.Leaf l ∷ []) ++ in_parts (suc (n + sizes (map measured xs))) ys
after_cut n [] l ys = let e : n + 1 ≡ suc (n + 0) = omega arith in ap (λ (z : ℕ). in_parts z ys) e
after_cut n (x ∷ xs) l ys =
    let m : ℕ = n + size x in
    let e : suc (m + sizes (map measured xs)) ≡ suc (n + sizes (map measured (x ∷ xs))) = omega arith in
    ap (λ (z : List Comment). inner n x ++ z) (in_cut m xs l ys ∙ ap (λ (z : ℕ). in_parts m (xs ++ p.Leaf l ∷ []) ++ in_parts z ys) e)
    ∙ sym (append_assoc (inner n x) (in_parts m (xs ++ p.Leaf l ∷ [])) (in_parts (suc (n + sizes (map measured (x ∷ xs)))) ys))

row_cut : (n : ℕ) (xs : List Part) (l : Leaf) → in_row n (map measured (xs ++ p.Leaf l ∷ [])) ≡ in_row n (map measured xs)
row_cut n [] l = refl
row_cut n (x ∷ xs) l = ap (λ (z : List Region). (measured x).inside n ++ z) (row_cut (n + size x) xs l)

insides_cut : (xs : List Part) (l : Leaf) → insides (xs ++ p.Leaf l ∷ []) ≡ insides xs
insides_cut [] l = refl
insides_cut (x ∷ xs) l = ap (λ (z : List Hosted). inside_expr (plain (seen x)) ++ z) (insides_cut xs l)

-- ---- regions

leaf_regions : (l : Leaf) → Regions (p.Leaf l)
leaf_regions l = record { some = omega arith; within = λ n. tt }

-- a sequence after its head, at its opening bracket
abbrev pub cut_regions : ℕ → List Part → List Part → List Region
cut_regions n head body =
    let open_break : ℕ = n + sizes (map measured head) in
    in_row n (map measured head) ++ between open_break (suc open_break + sizes (map measured body)) ∷ hosts_from s.comma_mark (suc open_break) (map measured body)

pub cut_inside : (n : ℕ) (head body : List Part) → Alternating s.comma_mark body → AllByRecursion Regions head → AllByRecursion Regions body → AllInside n (suc (n + sizes (map measured head)) + sizes (map measured body)) (cut_regions n head body)
cut_inside n head body a r r' =
    let o : ℕ = n + sizes (map measured head) in
    let up : ℕ = suc o + sizes (map measured body) in
    inside_joined n up (in_row n (map measured head)) (between o up ∷ hosts_from s.comma_mark (suc o) (map measured body))
    (all_wider n o n up (omega arith) (omega arith) (in_row n (map measured head)) (row_inside n head r))
    ((omega arith, omega arith), all_wider (suc o) up n up (omega arith) (omega arith) (hosts_from s.comma_mark (suc o) (map measured body)) (hosts_inside s.comma_mark (suc o) body a r'))

-- of a node with a sequence
module _ (kind : Kind) (xs : List Part) (c : Cut (lead kind) xs) where
  abbrev pub head_of : List Part
  head_of = take (lead kind) xs

  abbrev pub body_of : List Part
  body_of = drop (suc (lead kind)) xs

  pub cut_size : (n : ℕ) → n + sizes (map measured xs) ≡ suc (n + sizes (map measured head_of)) + sizes (map measured body_of)
  cut_size n =
      let e : sizes (map measured xs) ≡ sizes (map measured (head_of ++ p.Leaf c.opener ∷ body_of)) = ap (λ (ys : List Part). sizes (map measured ys)) c.parts in
      let e' = sizes_joined head_of (p.Leaf c.opener ∷ body_of) in
      omega arith

  pub node_cut : (opener closer n : ℕ) → in_node (sequence opener closer) kind n (map measured xs) ≡ cut_regions n head_of body_of
  node_cut opener closer n =
      ap (λ (ys : List Measured). in_row n ys ++ between (n + sizes ys) (n + sizes (map measured xs)) ∷ hosts_from s.comma_mark (suc (n + sizes ys)) (drop (suc (lead kind)) (map measured xs))) (take-map measured (lead kind) xs)
      ∙ (ap (λ (ys : List Measured). in_row n (map measured head_of) ++ between (n + sizes (map measured head_of)) (n + sizes (map measured xs)) ∷ hosts_from s.comma_mark (suc (n + sizes (map measured head_of))) ys)
      (drop-map measured (suc (lead kind)) xs)
      ∙ ap (λ (z : ℕ). in_row n (map measured head_of) ++ between (n + sizes (map measured head_of)) z ∷ hosts_from s.comma_mark (suc (n + sizes (map measured head_of))) (map measured body_of)) (cut_size n))

  pub parted : (P : Part → Type 0) → AllByRecursion P xs → AllByRecursion P head_of × AllByRecursion P body_of
  parted P h = let w = all_parted P head_of (p.Leaf c.opener ∷ body_of) (subst (AllByRecursion P) c.parts h) in (w.0, w.1.1)

pub node_inside : (kind : Kind) (f : Frame) → frame kind ≡ f → (xs : List Part) → Fits IsNonterminal (whole_shape kind) xs → AllByRecursion Regions xs → (n : ℕ) → AllInside n (n + sizes (map measured xs)) (in_node f kind n (map measured xs))
node_inside kind (sequence opener closer) e xs h r n =
    let c : Cut (lead kind) xs = sequence_cut kind opener closer xs e h in
    let w = parted kind xs c Regions r in
    subst (λ (rs : List Region). AllInside n (n + sizes (map measured xs)) rs) (sym (node_cut kind xs c opener closer n))
    (subst (λ (z : ℕ). AllInside n z (cut_regions n (head_of kind xs c) (body_of kind xs c))) (sym (cut_size kind xs c n)) (cut_inside n (head_of kind xs c) (body_of kind xs c) c.alternating w.0 w.1))
node_inside kind _ e xs h r n = row_inside n xs r

mutual
  pub part_regions : (x : Part) → LegalBy line_shape x → Regions x
  part_regions (p.Leaf l) h = leaf_regions l
  part_regions (Node' kind z r) h = record {
    some = some_leaf (Node' kind z r) (part_solid (Node' kind z r) (as_bzl (Node' kind z r) h));
    within = λ n. subst (λ (ms : List Measured). AllInside n (n + sizes ms) (in_node (frame kind) kind n ms)) (sym (measured_rows _ r)) (node_inside kind (frame kind) refl (items-the_row-Part _ r) (values_wider kind _ h.0) (row_regions _ r h.1) n);
  }

  pub row_regions : (m : _) (r : Row_of-Part m) → LegalRowBy line_shape r → AllByRecursion Regions (items-the_row-Part m r)
  row_regions m end_of-Part h = tt
  row_regions m (more_of-Part x rest) h = (part_regions x h.0, row_regions _ rest h.1)

pub row_solid : (m : _) (r : Row_of-Part m) → LegalRowBy line_shape r → AllByRecursion Solid (items-the_row-Part m r)
row_solid m r h = all_mapped (LegalBy line_shape) Solid (λ x l. part_solid x (as_bzl x l)) (items-the_row-Part m r) (each_legal line_shape m r h)

-- ---- texts

pub leaf_texts : (all : List Region) (l : Leaf) → InHost all (p.Leaf l)
leaf_texts all l h b e n u v = record { outer = λ q o. sym (pick_none (above h) q); hosts = λ cs f. refl }

pub same_texts : (all : List Region) (h n up : ℕ) (m m' : List Comment) (l l' : List Bytes) (r r' : List Region) (t t' : List Hosted) → m ≡ m' → l ≡ l' → r ≡ r' → t ≡ t' → Texts all h n up m l r t → Texts all h n up m' l' r' t'
same_texts all h n up m m' l l' r r' t t' a b c d x =
    subst (λ (z : List Comment). Texts all h n up z l' r' t') a (subst (λ (z : List Bytes). Texts all h n up m z r' t') b (subst (λ (z : List Region). Texts all h n up m l z t') c (subst (λ (z : List Hosted). Texts all h n up m l r z) d x)))

-- what is in a sequence, its end first
abbrev pub sequence_hosts : List Bytes → List Seen → List Hosted
sequence_hosts before body = ended (items_in before body).1 ∷ inside_list (items_in before body).0

module _ (all : List Region) (h b e n : ℕ) (head : List Part) (l : Leaf) (x : Part) (xs : List Part) (under : h ≤ n) (a : Alternating s.comma_mark (x ∷ xs)) (r : AllByRecursion Regions head)
    (r' : AllByRecursion Regions (x ∷ xs)) (i : AllByRecursion (InHost all) head) (i' : AllByRecursion (InHost all) (x ∷ xs)) where
  abbrev at_open : ℕ
  at_open = n + sizes (map measured head)

  abbrev at_end : ℕ
  at_end = suc at_open + sizes (map measured (x ∷ xs))

  abbrev items_there : List Region
  items_there = hosts_from s.comma_mark (suc at_open) (map measured (x ∷ xs))

  items_within : AllInside (suc at_open) at_end items_there
  items_within = hosts_inside s.comma_mark (suc at_open) (x ∷ xs) a r'

  module _ (sees : SeesAt all (Some (host h b e)) (suc n) at_end (cut_regions n head (x ∷ xs))) where
    head_texts : Texts all h n (suc at_open) (after_parts n (head ++ p.Leaf l ∷ [])) (loose_in (map seen (head ++ p.Leaf l ∷ []))) (in_row n (map measured (head ++ p.Leaf l ∷ []))) (insides (head ++ p.Leaf l ∷ []))
    head_texts =
        let token : AllByRecursion Regions (p.Leaf l ∷ []) = (leaf_regions l, tt) in
        let token' : AllByRecursion (InHost all) (p.Leaf l ∷ []) = (leaf_texts all l, tt) in
        let e' = sizes_joined head (p.Leaf l ∷ []) in
        first_texts all h b e n (suc at_open) (head ++ p.Leaf l ∷ []) under (omega arith) (all_joined Regions head (p.Leaf l ∷ []) r token) (all_joined (InHost all) head (p.Leaf l ∷ []) i token')
        (λ q v w. subst (Sees all q (Some (host h b e)) (suc at_open)) (sym (row_cut n head l))
        (sees_before_bracket all q (Some (host h b e)) at_end at_open at_end at_end (suc at_open) (in_row n (map measured head)) items_there items_within (omega arith) (omega arith)
        (omega arith) (sees q v (omega arith))))

    inside_sees : SeesAt all (Some (between at_open at_end)) (suc at_open) at_end items_there
    inside_sees q v w =
        sees_in_sequence all q (Some (host h b e)) at_end at_open at_end items_there (omega arith) w
        (sees_after all q (Some (host h b e)) at_end n at_open (in_row n (map measured head)) (between at_open at_end ∷ items_there) (row_inside n head r) (omega arith) (sees q (omega arith) w))

    abbrev first_at : CommentPlace
    first_at = first_place at_open (suc at_open) (x ∷ xs)

    first_gap_at : GapPlaces all (suc at_open) first_at first_at
    first_gap_at =
        let some = r'.0.some in
        subst (λ (y : CommentPlace). GapPlaces all (suc at_open) y y) (beginning_first at_open at_end (suc at_open) (suc at_open) (omega arith) (omega arith) (x ∷ xs) a)
        (gap_free all (suc at_open) at_open at_end (suc at_open) at_end items_there items_within (omega arith) (omega arith) (inside_sees (suc at_open) (omega arith) (omega arith)))

    mine_inner : (q q' : CommentPlace) → key q ≡ key q' → Mine at_open (suc at_open) at_end q → Inner at_open at_end q'
    mine_inner q q' d (inl j) = (omega (arith, j.0), omega (arith, j.1))
    mine_inner q q' d (inr j) = let some = r'.0.some in (omega arith, omega arith)

    sequence_texts : Texts all h at_open at_end (in_parts (suc at_open) (x ∷ xs)) [] (between at_open at_end ∷ items_there) (sequence_hosts (all_in (seen x).gap) (map seen (x ∷ xs)))
    sequence_texts =
        let some = r'.0.some in
        let gap : Bytes = (seen x).gap in
        let following : List Comment = after_parts (suc at_open) (x ∷ xs) in
        let body : BodyTexts all at_open at_end (suc at_open) (x ∷ xs) = body_texts all at_open at_end (suc at_open) (x ∷ xs) (omega arith) refl a r' i' (λ q v w. inside_sees q (omega arith) w) in
        let collected : (q : CommentPlace) → texts_at all q (in_parts (suc at_open) (x ∷ xs)) ≡ pick first_at q (all_in gap) ++ texts_at all q following =
        λ q. texts_joined all q (comments_at (suc at_open) gap) following ∙ ap (λ (z : List Bytes). z ++ texts_at all q following) (gap_all all q first_at (suc at_open) gap first_gap_at) in
        record {
          outer = λ q o.
              collected q ∙ (ap (λ (z : List Bytes). z ++ texts_at all q following) (pick_other first_at q (all_in gap) (λ d. o (mine_inner first_at q d (first_mine at_open (suc at_open) at_end (x ∷ xs) (omega arith)))))
              ∙ (body.outer q (λ j. o (mine_inner q q refl j)) ∙ sym (pick_none (above h) q)));
          hosts = λ cs f.
              let w = body.found cs (all_in gap) (λ q j. f q (mine_inner q q refl j) ∙ collected q) in
              ap (λ (z : List Bytes). ended z ∷ map (hosted_at all cs) items_there) w.1 ∙ ap (λ (z : List Hosted). ended (items_in (all_in gap) (map seen (x ∷ xs))).1 ∷ z) w.0;
        }

    pub cut_texts : Texts all h n at_end (after_parts n (head ++ p.Leaf l ∷ x ∷ xs)) (loose_in (map seen (head ++ p.Leaf l ∷ []))) (cut_regions n head (x ∷ xs)) (insides head ++ sequence_hosts (all_in (seen x).gap) (map seen (x ∷ xs)))
    cut_texts =
        let front : List Part = head ++ p.Leaf l ∷ [] in
        let items : List Hosted = sequence_hosts (all_in (seen x).gap) (map seen (x ∷ xs)) in
        let rs : List Region = between at_open at_end ∷ items_there in
        same_texts all h n at_end (after_parts n front ++ in_parts (suc at_open) (x ∷ xs)) (after_parts n (head ++ p.Leaf l ∷ x ∷ xs)) (loose_in (map seen front) ++ []) (loose_in (map seen front))
        (in_row n (map measured front) ++ rs) (cut_regions n head (x ∷ xs)) (insides front ++ items) (insides head ++ items)
        (sym (after_cut n head l (x ∷ xs))) (append-nil (loose_in (map seen front))) (ap (λ (z : List Region). z ++ rs) (row_cut n head l)) (ap (λ (z : List Hosted). z ++ items) (insides_cut head l))
        (both_texts all h n (suc at_open) at_open at_end (after_parts n front) (in_parts (suc at_open) (x ∷ xs)) (loose_in (map seen front)) [] (in_row n (map measured front)) rs (insides front) items under
        (omega arith) (omega arith) (omega arith) head_texts sequence_texts)
