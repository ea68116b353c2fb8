-- What holds of a row of parts by walking along its shape, from state to state.
use Rattle.bz_build_format.proofs.Words.{[], ◌&&◌, ◌++◌, ◌∷◌, ◌≡◌, After, AllByRecursion, and_parts, append-nil, append_assoc, Bool, Fits, has_token, inl, inr, IsNonterminal, List, Listed, no_more, Nonterminal, once_more, Part, Several, Shape, subst, sym, Terminal, Times, true}
use Rattle.bz_grammar.specs.Shapes as s
use Rattle.bz_hosts.proofs.SeenParts.{all_parted}

-- where a token of these leads, and a part of a sort; whether two states are known to be one
module _ {S : Type 0} (on_token : S → List Terminal → S) (on_sort : S → Nonterminal → S) (is_same : S → S → Bool) where
  -- every row of the shape leads from here to a state that may be its last, and what is repeated leads back
  abbrev pub leads : (S → Bool) → Shape → S → Bool
  leads ends s.none here = true
  leads ends s.done here = ends here
  leads ends (s.tok ts r) here = leads ends r (on_token here ts)
  leads ends (s.sub q r) here = leads ends r (on_sort here q)
  leads ends (s.alt r r') here = leads ends r here && leads ends r' here
  leads ends (s.list q ts last r) here = is_same (on_token (on_sort here q) ts) here && (leads ends r here && leads ends r (on_sort here q))
  leads ends (s.each q r) here = is_same (on_sort here q) here && leads ends r here
  leads ends (s.times group r) here = leads (is_same here) group here && leads ends r here

  -- Known: of each part; R: of what is left from a state on
  module _ (same : (a b : S) → is_same a b ≡ true → a ≡ b) (Known : Part → Type 0) (R : S → List Part → Type 0)
      (token : (here : S) (ts : List Terminal) (x : Part) (xs : List Part) → has_token ts x ≡ true → Known x → R (on_token here ts) xs → R here (x ∷ xs))
      (sort : (here : S) (q : Nonterminal) (x : Part) (xs : List Part) → IsNonterminal q x → Known x → R (on_sort here q) xs → R here (x ∷ xs)) where
    -- what has such a shape leads to these parts
    abbrev Leads : S → (List Part → Type 0) → List Part → Type 0
    Leads here K back = (xs : List Part) → AllByRecursion Known xs → K xs → R here (xs ++ back)

    module _ (back : List Part) (q : Nonterminal) (here : S) (K : List Part → Type 0) (rest : Leads here K back) where
      each : on_sort here q ≡ here → Leads here (Several (IsNonterminal q) K) back
      each e [] g h = rest [] g h
      each e (x ∷ xs) g (inl h) = rest (x ∷ xs) g h
      each e (x ∷ xs) g (inr h) = sort here q x (xs ++ back) h.0 g.0 (subst (λ z. R z (xs ++ back)) (sym e) (each e xs g.1 h.1))

      module _ (ts : List Terminal) (last : Bool) (e : on_token (on_sort here q) ts ≡ here) (after : Leads (on_sort here q) K back) where
        mutual
          listed : Leads here (Listed (IsNonterminal q) ts last K) back
          listed [] g h = absurd h
          listed (x ∷ xs) g h = sort here q x (xs ++ back) h.0 g.0 (further xs g.1 h.1)

          further : Leads (on_sort here q) (After (IsNonterminal q) ts last K) back
          further [] g h = after [] g h
          further (x ∷ xs) g (inl h) = after (x ∷ xs) g h
          further (x ∷ xs) g (inr (m, inl h)) = token (on_sort here q) ts x (xs ++ back) m g.0 (subst (λ z. R z (xs ++ back)) (sym e) (listed xs g.1 h))
          further (x ∷ xs) g (inr (m, inr h)) = token (on_sort here q) ts x (xs ++ back) m g.0 (subst (λ z. R z (xs ++ back)) (sym e) (rest xs g.1 h.1))

    times : (here : S) (F K : List Part → Type 0) (back : List Part) → ((zs : List Part) → R here zs → Leads here F zs) → Leads here K back → Leads here (Times F K) back
    times here F K back group rest xs g (no_more h) = rest xs g h
    times here F K back group rest xs g (once_more front behind e h t) =
        let known = all_parted Known front behind (subst (AllByRecursion Known) e g) in
        subst (λ zs. R here (zs ++ back)) (sym e) (subst (R here) (sym (append_assoc front behind back)) (group (behind ++ back) (times here F K back group rest behind known.1 t) front known.0 h))

    onward : (r : Shape) (ends : S → Bool) (here : S) (back : List Part) → leads ends r here ≡ true → ((z : S) → ends z ≡ true → R z back) → Leads here (Fits IsNonterminal r) back
    onward s.none ends here back w f xs g h = absurd h
    onward s.done ends here back w f [] g h = f here w
    onward s.done ends here back w f (x ∷ xs) g h = absurd h
    onward (s.tok ts r) ends here back w f [] g h = absurd h
    onward (s.tok ts r) ends here back w f (x ∷ xs) g h = token here ts x (xs ++ back) h.0 g.0 (onward r ends (on_token here ts) back w f xs g.1 h.1)
    onward (s.sub q r) ends here back w f [] g h = absurd h
    onward (s.sub q r) ends here back w f (x ∷ xs) g h = sort here q x (xs ++ back) h.0 g.0 (onward r ends (on_sort here q) back w f xs g.1 h.1)
    onward (s.alt r r') ends here back w f xs g (inl h) = onward r ends here back (and_parts (leads ends r here) (leads ends r' here) w).0 f xs g h
    onward (s.alt r r') ends here back w f xs g (inr h) = onward r' ends here back (and_parts (leads ends r here) (leads ends r' here) w).1 f xs g h
    onward (s.list q ts last r) ends here back w f xs g h =
        let v = and_parts (is_same (on_token (on_sort here q) ts) here) (leads ends r here && leads ends r (on_sort here q)) w in
        let u = and_parts (leads ends r here) (leads ends r (on_sort here q)) v.1 in
        listed back q here (Fits IsNonterminal r) (onward r ends here back u.0 f) ts last (same (on_token (on_sort here q) ts) here v.0) (onward r ends (on_sort here q) back u.1 f) xs g h
    onward (s.each q r) ends here back w f xs g h =
        let v = and_parts (is_same (on_sort here q) here) (leads ends r here) w in
        each back q here (Fits IsNonterminal r) (onward r ends here back v.1 f) (same (on_sort here q) here v.0) xs g h
    onward (s.times group r) ends here back w f xs g h =
        let v = and_parts (leads (is_same here) group here) (leads ends r here) w in
        times here (Fits IsNonterminal group) (Fits IsNonterminal r) back (λ zs k. onward group (is_same here) here zs v.0 (λ z e. subst (λ y. R y zs) (same here z e) k)) (onward r ends here back v.1 f) xs g h

    pub led : (r : Shape) (ends : S → Bool) (here : S) → leads ends r here ≡ true → ((z : S) → ends z ≡ true → R z []) → (xs : List Part) → AllByRecursion Known xs → Fits IsNonterminal r xs → R here xs
    led r ends here w f xs g h = subst (R here) (append-nil xs) (onward r ends here [] w f xs g h)
