-- In each part of a legal tree that is in a host, the comments are those of the view.
use Rattle.bz_hosts.proofs.Words.{[], ◌&&◌, ◌++◌, ◌+◌, ◌∙◌, ◌∷◌, ◌≡◌, ◌≤◌, all_in, AllByRecursion, ap, by_frame, Comment, compound, drop, drop-map, end_of-Part, ended, Expr, false, first_seen_gap, Fits, flat_map, Form, Frame, frame, host, Hosted, in_node, inside_expr, is_binary, is_comprehension, is_inner_frame, is_open, is_split, IsNonterminal, items-the_row-Part, items_in, Kind, lead, Leaf, leaves_row, LegalBy, LegalRowBy, line_shape, List, loose_in, map, Measured, measured, more_of-Part, no_comments, no_such, Node', Part, Part as p, plain, refl, Region, row, row_exprs, Row_of-Part, Seen, seen, seen_node, seen_row, sequence, sizes, Some, subst, suc, sym, take, take-map, true, values_wider, whole_shape, ℕ}
use Rattle.bz_grammar.specs.Shapes as s
use Rattle.bz_hosts.proofs.{SeenParts.seen_rows, Around.SeesAt, Parts.measured_rows, Parts.leaves_rows, Parts.comments_after, Parts.after_parts, Parts.parts_after, Alternating.Alternating, Alternating.Regions, InnerParts.line_framed, Insides.within, Insides.form_inside, Insides.parts_inside, Insides.items_inside, Insides.insides, Insides.row_insides, Insides.head_insides, Texts.Texts, Texts.InHost, Texts.first_texts, Cuts.Cut, Cuts.sequence_cut, Nodes.cut_regions, Nodes.head_of, Nodes.body_of, Nodes.cut_size, Nodes.node_cut, Nodes.parted, Nodes.row_regions, Nodes.row_solid, Nodes.leaf_texts, Nodes.same_texts, Nodes.sequence_hosts, Nodes.cut_texts}

-- ---- what is in a node

row_hosts : (kind : Kind) → frame kind ≡ row → (xs : List Part) → inside_expr (plain (seen_node row kind (map seen xs))) ≡ insides xs
row_hosts kind e xs =
    let es : List Expr = row_exprs (is_binary kind) false false (map seen xs) in
    let form : Form = record { kind = kind; parts = es; seq = record { items = []; end = []; split = false }; open_break = is_comprehension kind && is_open (map seen xs); comments = no_comments } in
    form_inside form ∙ (ap (λ (g : Frame). by_frame g (map within es) [] []) e ∙ (parts_inside es ∙ row_insides (is_binary kind) false false xs))

bracket_hosts : (kind : Kind) (opener closer : ℕ) → frame kind ≡ sequence opener closer → (xs : List Part) →
    inside_expr (plain (seen_node (sequence opener closer) kind (map seen xs))) ≡ insides (take (lead kind) xs) ++ sequence_hosts (all_in (first_seen_gap (map seen (drop (suc (lead kind)) xs)))) (map seen (drop (suc (lead kind)) xs))
bracket_hosts kind opener closer e xs =
    let n : ℕ = lead kind in
    let body : List Seen = drop (suc n) (map seen xs) in
    let found : List Expr × List (List ℕ) = items_in (all_in (first_seen_gap body)) body in
    let es : List Expr = map plain (take n (map seen xs)) in
    let form : Form = record { kind = kind; parts = es; seq = record { items = found.0; end = found.1; split = is_split body }; open_break = false; comments = no_comments } in
    form_inside form
    ∙ (ap (λ (g : Frame). by_frame g (map within es) (map within found.0) found.1) e
    ∙ (ap (λ (z : List Hosted). z ++ ended found.1 ∷ flat_map (λ x. x.0 ∷ x.1) (map within found.0)) (parts_inside es)
    ∙ (ap (λ (z : List Hosted). flat_map inside_expr es ++ ended found.1 ∷ z) (items_inside found.0)
    ∙ (ap (λ (ys : List Seen). flat_map inside_expr (map plain ys) ++ sequence_hosts (all_in (first_seen_gap body)) body) (take-map seen n xs)
    ∙ (ap (λ (z : List Hosted). z ++ sequence_hosts (all_in (first_seen_gap body)) body) (head_insides (take n xs))
    ∙ ap (λ (ys : List Seen). insides (take n xs) ++ sequence_hosts (all_in (first_seen_gap ys)) ys) (drop-map seen (suc n) xs))))))

module _ (all : List Region) (h b e n : ℕ) (under : h ≤ n) where
  body_case : (head : List Part) (l : Leaf) (body : List Part) → Alternating s.comma_mark body → AllByRecursion Regions head → AllByRecursion Regions body → AllByRecursion (InHost all) head → AllByRecursion (InHost all) body →
      SeesAt all (Some (host h b e)) (suc n) (suc (n + sizes (map measured head)) + sizes (map measured body)) (cut_regions n head body) →
      Texts all h n (suc (n + sizes (map measured head)) + sizes (map measured body)) (after_parts n (head ++ p.Leaf l ∷ body)) (loose_in (map seen (head ++ p.Leaf l ∷ []))) (cut_regions n head body)
      (insides head ++ sequence_hosts (all_in (first_seen_gap (map seen body))) (map seen body))
  body_case head l [] a r r' i i' v = absurd a
  body_case head l (x ∷ xs) a r r' i i' v = cut_texts all h b e n head l x xs under a r r' i i' v

  pub node_texts : (kind : Kind) (f : Frame) → frame kind ≡ f → is_inner_frame f ≡ true → (xs : List Part) → Fits IsNonterminal (whole_shape kind) xs → AllByRecursion Regions xs → AllByRecursion (InHost all) xs →
      SeesAt all (Some (host h b e)) (suc n) (n + sizes (map measured xs)) (in_node f kind n (map measured xs)) →
      Texts all h n (n + sizes (map measured xs)) (after_parts n xs) (seen_node f kind (map seen xs)).loose (in_node f kind n (map measured xs)) (inside_expr (plain (seen_node f kind (map seen xs))))
  node_texts kind row d q xs fits r i v =
      let up : ℕ = n + sizes (map measured xs) in
      subst (λ (z : List Hosted). Texts all h n up (after_parts n xs) (loose_in (map seen xs)) (in_node row kind n (map measured xs)) z) (sym (row_hosts kind d xs)) (first_texts all h b e n up xs under refl r i v)
  node_texts kind compound d q xs fits r i v = no_such q
  node_texts kind (sequence opener closer) d q xs fits r i v =
      let c : Cut (lead kind) xs = sequence_cut kind opener closer xs d fits in
      let head : List Part = head_of kind xs c in
      let body : List Part = body_of kind xs c in
      let rs : List Region = in_node (sequence opener closer) kind n (map measured xs) in
      let cut : List Region = cut_regions n head body in
      let seen_loose : List (List ℕ) = (seen_node (sequence opener closer) kind (map seen xs)).loose in
      let hosts_there : List Hosted = inside_expr (plain (seen_node (sequence opener closer) kind (map seen xs))) in
      let there : rs ≡ cut = node_cut kind xs c opener closer n in
      let w = parted kind xs c Regions r in
      let w' = parted kind xs c (InHost all) i in
      let end : n + sizes (map measured xs) ≡ suc (n + sizes (map measured head)) + sizes (map measured body) = cut_size kind xs c n in
      let sees : SeesAt all (Some (host h b e)) (suc n) (suc (n + sizes (map measured head)) + sizes (map measured body)) cut =
      subst (λ (z : List Region). SeesAt all (Some (host h b e)) (suc n) (suc (n + sizes (map measured head)) + sizes (map measured body)) z) there (subst (λ (z : ℕ). SeesAt all (Some (host h b e)) (suc n) z rs) end v) in
      let loose_there : loose_in (map seen (head ++ p.Leaf c.opener ∷ [])) ≡ seen_loose = ap (λ (ys : List Part). loose_in (map seen ys)) (sym c.front) ∙ ap loose_in (sym (take-map seen (suc (lead kind)) xs)) in
      subst (λ (z : ℕ). Texts all h n z (after_parts n xs) seen_loose rs hosts_there) (sym end)
      (same_texts all h n (suc (n + sizes (map measured head)) + sizes (map measured body)) (after_parts n (head ++ p.Leaf c.opener ∷ body)) (after_parts n xs) (loose_in (map seen (head ++ p.Leaf c.opener ∷ []))) seen_loose cut rs
      (insides head ++ sequence_hosts (all_in (first_seen_gap (map seen body))) (map seen body)) hosts_there
      (ap (after_parts n) (sym c.parts)) loose_there (sym there) (sym (bracket_hosts kind opener closer d xs))
      (body_case head c.opener body c.alternating w.0 w.1 w'.0 w'.1 sees))

-- ---- parts of a legal tree

mutual
  pub part_texts : (all : List Region) (x : Part) → LegalBy line_shape x → InHost all x
  part_texts all (p.Leaf l) g h b e n under v = leaf_texts all l h b e n under v
  part_texts all (Node' kind z r) g h b e n under v =
      let xs : List Part = items-the_row-Part _ r in
      let f : Frame = frame kind in
      let comments : comments_after n (leaves_row r) ≡ after_parts n xs = ap (comments_after n) (leaves_rows _ r) ∙ parts_after n xs (row_solid _ r g.1) in
      subst (λ (ms : List Measured). SeesAt all (Some (host h b e)) (suc n) (n + sizes ms) (in_node f kind n ms) → Texts all h n (n + sizes ms) (comments_after n (leaves_row r)) (seen_node f kind (seen_row r)).loose
      (in_node f kind n ms) (inside_expr (plain (seen_node f kind (seen_row r)))))
      (sym (measured_rows _ r))
      (λ v'. subst (λ (cs : List Comment). Texts all h n (n + sizes (map measured xs)) cs (seen_node f kind (seen_row r)).loose (in_node f kind n (map measured xs)) (inside_expr (plain (seen_node f kind (seen_row r))))) (sym comments)
      (subst (λ (ss : List Seen). Texts all h n (n + sizes (map measured xs)) (after_parts n xs) (seen_node f kind ss).loose (in_node f kind n (map measured xs)) (inside_expr (plain (seen_node f kind ss)))) (sym (seen_rows _ r))
      (node_texts all h b e n under kind f refl (line_framed kind xs g.0) xs (values_wider kind xs g.0) (row_regions _ r g.1) (row_in_host all _ r g.1) v')))
      v

  pub row_in_host : (all : List Region) (m : _) (r : Row_of-Part m) → LegalRowBy line_shape r → AllByRecursion (InHost all) (items-the_row-Part m r)
  row_in_host all m end_of-Part g = tt
  row_in_host all m (more_of-Part x rest) g = (part_texts all x g.0, row_in_host all _ rest g.1)
