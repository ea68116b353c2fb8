-- Kinds that begin alike: their plans require what the table of shapes requires.
use Rattle.bz_grammar.proofs.Words.{[], ◌++◌, ◌∙◌, ◌∷◌, ◌≡◌, alt, ap, both_ways, bzl_shape, choose, clause, clause_plan, close_curly, close_square, curly, done, entry, false, finish, Fits, follow, FoundLevel, inl, inr, items, Kind, Kind as k, Leaf, leaves_part, List, more_items, node_part, Nonterminal, nonterminal_has_kind, one, open_curly, open_square, Part, piece, Plan, primary, Read, refl, round, Shape, small, small_plan, square, sub, subst, suc, suffix_plan, sym, Terminal, test, tok, true, wrap_found, ℕ}
use Rattle.bz_grammar.proofs.{Exact.Exact, Nodes.node_leaves, Nodes.wrap_found_some, Plans.Finds, Plans.shape_in, Plans.shape_of_plan, Plans.plan_of_shape, Plans.found_leaves, Trees.At, Levels.made_node}

-- ---- what holds of each kind that a plan may find

abbrev pub Each : (Kind → Type 0) → Plan → Type 0
Each F (finish kind r) = F kind
Each F (one s plan) = Each F plan
Each F (piece q plan) = Each F plan
Each F (choose left right) = Each F left × Each F right

pub each_found : (P : Nonterminal → Part → Type 0) (F : Kind → Type 0) (plan : Plan) (kind : Kind) (ps : List Part) → Finds P plan kind ps → Each F plan → F kind
each_found P F (finish k r) kind ps h e = rw h.0 e
each_found P F (one s plan) kind [] h e = absurd h
each_found P F (one s plan) kind (x ∷ ps) h e = each_found P F plan kind ps h.1 e
each_found P F (piece q plan) kind [] h e = absurd h
each_found P F (piece q plan) kind (x ∷ ps) h e = each_found P F plan kind ps h.1 e
each_found P F (choose left right) kind ps (inl h) e = each_found P F left kind ps h e.0
each_found P F (choose left right) kind ps (inr h) e = each_found P F right kind ps h e.1

-- ---- a list, and the same from its second part on

module _ (P : Nonterminal → Part → Type 0) (nonterminal : Nonterminal) (opening closing : List Terminal) where
  abbrev Unrolled : Shape
  Unrolled = tok opening (alt (tok closing done) (sub nonterminal (more_items nonterminal closing)))

  abbrev Rolled : Shape
  Rolled = tok opening (items nonterminal closing)

  unroll : (ps : List Part) → Fits P Rolled ps → Fits P Unrolled ps
  unroll [] h = absurd h
  unroll (x ∷ ps) (o, inl h) = (o, inl h)
  unroll (x ∷ []) (o, inr h) = absurd h
  unroll (x ∷ y ∷ []) (o, inr (h, t)) = absurd t
  unroll (x ∷ y ∷ z ∷ ps) (o, inr (h, inl t)) = (o, inr (h, inl t))
  unroll (x ∷ y ∷ z ∷ ps) (o, inr (h, inr (c, inl t))) = (o, inr (h, inr (c, inr t)))
  unroll (x ∷ y ∷ z ∷ ps) (o, inr (h, inr (c, inr (l, t)))) = (o, inr (h, inr (c, inl t)))

  roll : (ps : List Part) → Fits P Unrolled ps → Fits P Rolled ps
  roll [] h = absurd h
  roll (x ∷ ps) (o, inl h) = (o, inl h)
  roll (x ∷ []) (o, inr h) = absurd h
  roll (x ∷ y ∷ []) (o, inr (h, inl t)) = absurd t
  roll (x ∷ y ∷ []) (o, inr (h, inr t)) = absurd t
  roll (x ∷ y ∷ z ∷ ps) (o, inr (h, inl t)) = (o, inr (h, inl t))
  roll (x ∷ y ∷ z ∷ ps) (o, inr (h, inr (c, inl t))) = (o, inr (h, inr (c, inr (refl, t))))
  roll (x ∷ y ∷ z ∷ ps) (o, inr (h, inr (c, inr t))) = (o, inr (h, inr (c, inl t)))

-- ---- the families

module _ (P : Nonterminal → Part → Type 0) where
  -- the kind has this sort, and what the plan requires on the way to it is its shape, both ways
  abbrev pub Agrees : Nonterminal → Plan → Kind → Type 0
  Agrees nonterminal plan kind = (nonterminal_has_kind nonterminal kind ≡ true) × ((ps : List Part) → Fits P (shape_in kind plan) ps → Fits P (bzl_shape kind) ps)

  pub round_agrees : Each (Agrees primary round) round
  round_agrees = ((refl, λ ps h. h), ((refl, λ ps h. h), (refl, λ ps h. h)))

  pub square_agrees : Each (Agrees primary square) square
  square_agrees = ((refl, roll P test open_square close_square), ((refl, λ ps h. h), (refl, roll P test open_square close_square)))

  pub curly_agrees : Each (Agrees primary curly) curly
  curly_agrees = ((refl, roll P entry open_curly close_curly), ((refl, λ ps h. h), (refl, roll P entry open_curly close_curly)))

  pub suffix_agrees : Each (Agrees primary (piece primary suffix_plan)) suffix_plan
  suffix_agrees = ((refl, λ ps h. h), ((refl, λ ps h. h), ((refl, λ ps h. h), ((refl, λ ps h. h), (refl, λ ps h. h)))))

  pub clause_agrees : Each (Agrees clause clause_plan) clause_plan
  clause_agrees = ((refl, λ ps h. h), (refl, λ ps h. h))

  pub small_agrees : Each (Agrees small small_plan) small_plan
  small_agrees = ((refl, λ ps h. h), ((refl, λ ps h. h), ((refl, λ ps h. h), ((refl, λ ps h. h), (refl, λ ps h. h)))))

  pub finds_list : (ps : List Part) → Fits P (bzl_shape k.List) ps → Finds P square k.List ps
  finds_list ps h = plan_of_shape P square k.List ps (unroll P test open_square close_square ps h)

  pub finds_dict : (ps : List Part) → Fits P (bzl_shape k.Dict) ps → Finds P curly k.Dict ps
  finds_dict ps h = plan_of_shape P curly k.Dict ps (unroll P entry open_curly close_curly ps h)

  pub finds_comprehension : (ps : List Part) → Fits P (bzl_shape k.ListComp) ps → Finds P square k.ListComp ps
  finds_comprehension ps h = plan_of_shape P square k.ListComp ps h

  pub finds_dict_comprehension : (ps : List Part) → Fits P (bzl_shape k.DictComp) ps → Finds P curly k.DictComp ps
  finds_dict_comprehension ps h = plan_of_shape P curly k.DictComp ps h

  pub finds_paren : (ps : List Part) → Fits P (bzl_shape k.Paren) ps → Finds P round k.Paren ps
  finds_paren ps h = plan_of_shape P round k.Paren ps h

  pub finds_tuple : (ps : List Part) → Fits P (bzl_shape k.Tuple) ps → Finds P round k.Tuple ps
  finds_tuple ps h = plan_of_shape P round k.Tuple ps h

  pub finds_dot : (ps : List Part) → Fits P (bzl_shape k.Dot) ps → Finds P (piece primary suffix_plan) k.Dot ps
  finds_dot ps h = plan_of_shape P (piece primary suffix_plan) k.Dot ps h

  pub finds_call : (ps : List Part) → Fits P (bzl_shape k.Call) ps → Finds P (piece primary suffix_plan) k.Call ps
  finds_call ps h = plan_of_shape P (piece primary suffix_plan) k.Call ps h

  pub finds_index : (ps : List Part) → Fits P (bzl_shape k.Index) ps → Finds P (piece primary suffix_plan) k.Index ps
  finds_index ps h = plan_of_shape P (piece primary suffix_plan) k.Index ps h

  pub finds_slice : (ps : List Part) → Fits P (bzl_shape k.Slice) ps → Finds P (piece primary suffix_plan) k.Slice ps
  finds_slice ps h = plan_of_shape P (piece primary suffix_plan) k.Slice ps h

  pub finds_clause : (kind : Kind) (ps : List Part) → nonterminal_has_kind clause kind ≡ true → Fits P (bzl_shape kind) ps → Finds P clause_plan kind ps
  finds_clause k.For ps e h = plan_of_shape P clause_plan k.For ps h
  finds_clause k.If ps e h = plan_of_shape P clause_plan k.If ps h
  finds_clause kind ps e h = absurd (both_ways false refl e)

  pub finds_small : (kind : Kind) (ps : List Part) → nonterminal_has_kind small kind ≡ true → Fits P (bzl_shape kind) ps → Finds P small_plan kind ps
  finds_small k.Bare ps e h = plan_of_shape P small_plan k.Bare ps h
  finds_small k.Assign ps e h = plan_of_shape P small_plan k.Assign ps h
  finds_small k.Load ps e h = plan_of_shape P small_plan k.Load ps h
  finds_small k.Return ps e h = plan_of_shape P small_plan k.Return ps h
  finds_small k.Flow ps e h = plan_of_shape P small_plan k.Flow ps h
  finds_small kind ps e h = absurd (both_ways false refl e)

-- ---- reading a node by a plan

module _ (P : Nonterminal → Part → Type 0) (plan : Plan) (inner : Nonterminal → Read Part) (g : List Terminal)
    (exact : Exact FoundLevel found_leaves (λ x. Finds P plan x.0 x.1) g (follow inner plan)) where
  abbrev pub MadeBy : Part → Type 0
  MadeBy y = (x : FoundLevel) × (y ≡ node_part x.0 x.1) × Finds P plan x.0 x.1

  pub made_exact : Exact Part leaves_part MadeBy g (λ ts. wrap_found (follow inner plan ts))
  made_exact = record {
    sound = λ ts y e.
        let w = wrap_found_some (follow inner plan ts) y e in
        let s = exact.sound ts w.0 w.1 in
        subst (λ (z : Part × List Leaf). MadeBy z.0 × (ts ≡ leaves_part z.0 ++ z.1)) (sym w.2)
        ((w.0.0, refl, s.0), s.1 ∙ ap (λ (u : List Leaf). u ++ w.0.1) (sym (node_leaves w.0.0.0 w.0.0.1)));
    complete = λ y rest h st.
        rw h.1 (ap (λ (u : List Leaf). wrap_found (follow inner plan (u ++ rest))) (node_leaves h.0.0 h.0.1) ∙ rw (exact.complete h.0 rest h.2 st) refl);
  }

-- a node that a plan made is legal where its parts are
pub made_at : (d : ℕ) (nonterminal : Nonterminal) (plan : Plan) → Each (Agrees (At d) nonterminal plan) plan → (kind : Kind) (ps : List Part) → Finds (At d) plan kind ps → At (suc d) nonterminal (node_part kind ps)
made_at d nonterminal plan agrees kind ps h =
    let a = each_found (At d) (Agrees (At d) nonterminal plan) plan kind ps h agrees in
    made_node d nonterminal kind ps a.0 (a.1 ps (shape_of_plan (At d) plan kind ps h))
