-- Items of a sequence in another order, or with some left out, fit it too.
use Rattle.bz_rule.proofs.Words.{[], ◌++◌, ◌∷◌, ◌≡◌, After, AllByRecursion, AreComments, AreItemsBy, arith, Bool, Bytes, comma, comments_of, each_with_comma, eqb-true, Expr, false, Fits, Form', frame, Grammar, has_break, has_kind, has_token, if◌then◌else◌, inl, inr, is_compound, IsNonterminal, items-the_row-Expr, items_of, Kind, Kind as k, List, Listed, map, mark_leaf, Nonterminal, on_items, on_rest, Part, ProperExpr, refl, root, same_kind, Spot, subst, sym, Terminal, Token, true, true≢false, value_shape, with_items, Within}
use Rattle.bz_grammar.specs.Shapes as s
use Rattle.bz_value.proofs.LeadParts.{lead_before}
use Rattle.bz_rule.proofs.ProperForms.{AsForm, InPlace, itself, form_in_place, kind_plain}

module _ (grammar : Grammar) where
  -- what an item of a sequence is, where the items have this sort
  abbrev pub IsItem : Nonterminal → Expr → Type 0
  IsItem nonterminal x = (ProperExpr grammar Within x × AreComments (comments_of x) × (has_break x ≡ false)) × IsNonterminal nonterminal (root x)

  abbrev pub AreOf : Nonterminal → List Expr → Type 0
  AreOf nonterminal xs = AllByRecursion (IsItem nonterminal) xs

  -- ---- items, each with a comma after it

  module _ (nonterminal : Nonterminal) (close : List Terminal) (closer : Part) where
    after_apart : (xs : List Expr) → AreItemsBy (value_shape grammar) xs → After (IsNonterminal nonterminal) s.comma_mark true (Fits IsNonterminal (s.tok close s.done)) (mark_leaf comma ∷ (each_with_comma (map root xs) ++ closer ∷ [])) → AreOf nonterminal xs
    after_apart [] a h = tt
    after_apart (y ∷ ys) a (inl i) = absurd i.1
    after_apart (y ∷ ys) a (inr (m, inl i)) = (((a.0, a.1, a.2), i.0), after_apart ys a.3 i.1)
    after_apart (y ∷ ys) a (inr (m, inr i)) = absurd i.1.1

    pub items_apart : (xs : List Expr) → AreItemsBy (value_shape grammar) xs → Fits IsNonterminal (s.items nonterminal close) (each_with_comma (map root xs) ++ closer ∷ []) → AreOf nonterminal xs
    items_apart [] a h = tt
    items_apart (x ∷ xs) a (inl h) = absurd h.1
    items_apart (x ∷ xs) a (inr h) = (((a.0, a.1, a.2), h.0), after_apart xs a.3 h.1)

    pub each_item : (xs : List Expr) → AreOf nonterminal xs → AreItemsBy (value_shape grammar) xs
    each_item [] h = tt
    each_item (x ∷ xs) h = (h.0.0.0, h.0.0.1, h.0.0.2, each_item xs h.1)

    listed_again : has_token close closer ≡ true → (x : Expr) (xs : List Expr) → AreOf nonterminal (x ∷ xs) → Listed (IsNonterminal nonterminal) s.comma_mark true (Fits IsNonterminal (s.tok close s.done)) (each_with_comma (map root (x ∷ xs)) ++ closer ∷ [])
    listed_again closes x [] h = (h.0.1, inr (refl, inr (refl, (closes, tt))))
    listed_again closes x (y ∷ ys) h = (h.0.1, inr (refl, inl (listed_again closes y ys h.1)))

    pub items_again : has_token close closer ≡ true → (xs : List Expr) → AreOf nonterminal xs → Fits IsNonterminal (s.items nonterminal close) (each_with_comma (map root xs) ++ closer ∷ [])
    items_again closes [] h = inl (closes, tt)
    items_again closes (x ∷ xs) h = inr (listed_again closes x xs h)

  -- ---- lists, calls and loads

  -- a change of items that keeps what items of this sort are
  abbrev pub Keeps : Nonterminal → (List Expr → List Expr) → Type 0
  Keeps nonterminal change = (xs : List Expr) → AreOf nonterminal xs → AreOf nonterminal (change xs)

  -- a change of items that keeps forms of a kind proper
  abbrev pub KeepsForms : Kind → (List Expr → List Expr) → Type 0
  KeepsForms kind change = (here : Spot) (end : List Bytes) (split open_break : Bool) (ps xs : List Expr) → AsForm grammar here kind ps xs end split open_break → AsForm grammar here kind ps (change xs) end split open_break

  pub list_apart : (here : Spot) (end : List Bytes) (split open_break : Bool) (ps xs : List Expr) → AsForm grammar here k.List ps xs end split open_break → AreOf s.test xs
  list_apart here end split open_break [] xs h = items_apart s.test s.close_square (mark_leaf 93) xs h.1.1 h.0.1
  list_apart here end split open_break (p ∷ ps) xs h = let n = lead_before k.List (map root (p ∷ ps)) (map root xs) h.0 in absurd (omega arith)

  pub call_apart : (here : Spot) (end : List Bytes) (split open_break : Bool) (ps xs : List Expr) → AsForm grammar here k.Call ps xs end split open_break → AreOf s.argument xs
  call_apart here end split open_break [] xs h = let n = lead_before k.Call [] (map root xs) h.0 in absurd (omega arith)
  call_apart here end split open_break (p ∷ []) xs h = items_apart s.argument s.close_round (mark_leaf 41) xs h.1.1 h.0.1.1
  call_apart here end split open_break (p ∷ q ∷ ps) xs h = let n = lead_before k.Call (map root (p ∷ q ∷ ps)) (map root xs) h.0 in absurd (omega arith)

  list_items : (change : List Expr → List Expr) → Keeps s.test change → KeepsForms k.List change
  list_items change keeps here end split open_break [] xs h =
      let all : AreOf s.test (change xs) = keeps xs (items_apart s.test s.close_square (mark_leaf 93) xs h.1.1 h.0.1) in
      ((h.0.0, items_again s.test s.close_square (mark_leaf 93) refl (change xs) all), (h.1.0, each_item s.test s.close_square (mark_leaf 93) (change xs) all, h.1.2, h.1.3))
  list_items change keeps here end split open_break (p ∷ ps) xs h = let n = lead_before k.List (map root (p ∷ ps)) (map root xs) h.0 in absurd (omega arith)

  call_items : (change : List Expr → List Expr) → Keeps s.argument change → KeepsForms k.Call change
  call_items change keeps here end split open_break [] xs h = let n = lead_before k.Call [] (map root xs) h.0 in absurd (omega arith)
  call_items change keeps here end split open_break (p ∷ []) xs h =
      let all : AreOf s.argument (change xs) = keeps xs (items_apart s.argument s.close_round (mark_leaf 41) xs h.1.1 h.0.1.1) in
      ((h.0.0, (h.0.1.0, items_again s.argument s.close_round (mark_leaf 41) refl (change xs) all)), (h.1.0, each_item s.argument s.close_round (mark_leaf 41) (change xs) all, h.1.2, h.1.3))
  call_items change keeps here end split open_break (p ∷ q ∷ ps) xs h = let n = lead_before k.Call (map root (p ∷ q ∷ ps)) (map root xs) h.0 in absurd (omega arith)

  load_items : (change : List Expr → List Expr) → Keeps s.loaded change → KeepsForms k.Load (on_rest change)
  load_items change keeps here end split open_break [] xs h = let n = lead_before k.Load [] (map root xs) h.0 in absurd (omega arith)
  load_items change keeps here end split open_break (p ∷ []) [] h = h
  load_items change keeps here end split open_break (p ∷ []) (x ∷ xs) ((w, (o, (t, inl i))), g) = absurd (true≢false (sym i.0))
  load_items change keeps here end split open_break (p ∷ []) (x ∷ xs) ((w, (o, (t, inr i))), g) =
      let all : AreOf s.loaded (change xs) = keeps xs (items_apart s.loaded s.close_round (mark_leaf 41) xs g.1.3 i.1) in
      ((w, (o, (t, inr (i.0, items_again s.loaded s.close_round (mark_leaf 41) refl (change xs) all)))), (g.0, (g.1.0, g.1.1, g.1.2, each_item s.loaded s.close_round (mark_leaf 41) (change xs) all), g.2, g.3))
  load_items change keeps here end split open_break (p ∷ q ∷ ps) xs h = let n = lead_before k.Load (map root (p ∷ q ∷ ps)) (map root xs) h.0 in absurd (omega arith)

  -- ---- in place of the sequence

  -- what is in place of an expression if a test holds
  pub where_true : (b : Bool) (x y : Expr) → (b ≡ true → InPlace grammar x y) → InPlace grammar x (if b then y else x)
  where_true true x y h = h refl
  where_true false x y h = itself grammar x

  module _ (own : Kind) (plain : is_compound (frame own) ≡ false) (change : List Expr → List Expr) (keeps : KeepsForms own change) where
    changed_sequence : (x : Expr) → has_kind own x ≡ true → InPlace grammar x (with_items (change (items_of x)) x)
    changed_sequence (Token t) is = itself grammar (Token t)
    changed_sequence (Form' kind s parts s' items end split open_break comments) is =
        let x : Expr = Form' kind s parts s' items end split open_break comments in
        let ps : List Expr = items-the_row-Expr _ parts in
        let xs : List Expr = items-the_row-Expr _ items in
        let same : kind ≡ own = same_kind kind own (eqb-true _ _ is) in
        form_in_place grammar ps (change xs) x (λ here h. kind_plain own plain x is)
        (λ here h. subst (λ (by : Kind). AsForm grammar here by ps (change xs) end split open_break) (sym same)
        (keeps here end split open_break ps xs (subst (λ (by : Kind). AsForm grammar here by ps xs end split open_break) same h)))

    pub sequence_in_place : (x : Expr) → InPlace grammar x (on_items own change x)
    sequence_in_place x = where_true (has_kind own x) x (with_items (change (items_of x)) x) (changed_sequence x)

  pub list_in_place : (change : List Expr → List Expr) → Keeps s.test change → (x : Expr) → InPlace grammar x (on_items k.List change x)
  list_in_place change keeps = sequence_in_place k.List refl change (list_items change keeps)

  pub call_in_place : (change : List Expr → List Expr) → Keeps s.argument change → (x : Expr) → InPlace grammar x (on_items k.Call change x)
  call_in_place change keeps = sequence_in_place k.Call refl change (call_items change keeps)

  pub load_in_place : (change : List Expr → List Expr) → Keeps s.loaded change → (x : Expr) → InPlace grammar x (on_items k.Load (on_rest change) x)
  load_in_place change keeps = sequence_in_place k.Load refl (on_rest change) (load_items change keeps)
