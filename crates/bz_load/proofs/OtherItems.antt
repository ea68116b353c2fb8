-- Items that a symbol is not about, and the load that is to have it.
use Rattle.bz_load.proofs.Words.{[], ◌&&◌, ◌++◌, ◌||◌, ◌∙◌, ◌∷◌, ◌≡◌, ◌⊎◌, after_path, and-true, and_parts, ap, append_assoc, Bool, both, Bytes, cases_Bool, comments_without, cut_of_first, Expr, false, flat_map, fun_ext, further, gone_comments, gone_from, has_kind, has_local, HostComments, if_false, if_true, IfSome, if◌then◌else◌, inl, inr, is_empty, is_load_from, is_load_item, is_loaded, is_local, is_lost, is_text, Item, Item as i, ItemCut, items_changed, items_filled, items_kind, items_of, items_same, Kind as k, left_symbols, List, list_all, list_any, loads_symbol, may_have, None, not, on_rest, on_symbols, Option, option_map_or, or_parts, path_in, refl, Some, sym, Symbol, symbols_of, true, true≢false, without_symbol}

-- ---- items that a symbol is not about

-- each is a load that has not its local name, or no load
abbrev pub AreOther : Symbol → List Item → Type 0
AreOther symbol items = list_any (has_local symbol.to) items ≡ false

module _ (symbol : Symbol) where
  pub left_all : (found : Bool) (xs : List Expr) → list_any (is_local symbol) xs ≡ false → left_symbols symbol found xs ≡ xs
  left_all found [] none = refl
  left_all found (x ∷ xs) none =
      let p = or_parts (is_local symbol x) (list_any (is_local symbol) xs) none in
      if_false _ _ _ (ap (λ b. b && (found || not (loads_symbol symbol x))) p.0) ∙ ap (λ ys. x ∷ ys) (left_all (found || loads_symbol symbol x) xs p.1)

  pub gone_none : (found : Bool) (xs : List Expr) → list_any (is_local symbol) xs ≡ false → gone_comments symbol found xs ≡ []
  gone_none found [] none = refl
  gone_none found (x ∷ xs) none =
      let p = or_parts (is_local symbol x) (list_any (is_local symbol) xs) none in
      if_false _ _ _ (ap (λ b. b && (found || not (loads_symbol symbol x))) p.0) ∙ gone_none (found || loads_symbol symbol x) xs p.1

  some_left : (xs : List Expr) → list_any (is_local symbol) xs ≡ false → (not (is_empty xs) && list_all (is_local symbol) xs) ≡ false
  some_left [] none = refl
  some_left (x ∷ xs) none = ap (λ b. b && list_all (is_local symbol) xs) (or_parts (is_local symbol x) (list_any (is_local symbol) xs) none).0

  pub symbols_stay : (change : List Expr → List Expr) (item : Item) → is_load_item item ≡ false ⊎ (change (symbols_of item) ≡ symbols_of item) → on_symbols change item ≡ item
  symbols_stay change (i.Block lines) h = refl
  symbols_stay change (i.Stmt x) (inl isnt) = ap (λ (y : Expr). i.Stmt y) (if_false (has_kind k.Load x) _ _ isnt)
  symbols_stay change (i.Stmt x) (inr same) = ap (λ (y : Expr). i.Stmt y) (items_same k.Load (on_rest change) x (by (items_of x) same))
    where
      by : (xs : List Expr) → change (after_path xs) ≡ after_path xs → on_rest change xs ≡ xs
      by [] h = refl
      by (x ∷ xs) h = ap (λ ys. x ∷ ys) h

  module _ (item : Item) (other : has_local symbol.to item ≡ false) where
    none_local : is_load_item item ≡ true → list_any (is_local symbol) (symbols_of item) ≡ false
    none_local is = sym (ap (λ b. b && list_any (is_local symbol) (symbols_of item)) is) ∙ other

    is_kept : is_lost symbol item ≡ false
    is_kept = elim (cases_Bool (is_load_item item)) [
      | inl is ↦ ap (λ b. b && (not (is_empty (symbols_of item)) && list_all (is_local symbol) (symbols_of item))) is ∙ some_left (symbols_of item) (none_local is)
      | inr isnt ↦ ap (λ b. b && (not (is_empty (symbols_of item)) && list_all (is_local symbol) (symbols_of item))) isnt
    ]

    pub stays_without : without_symbol symbol item ≡ item ∷ []
    stays_without = if_false (is_lost symbol item) _ _ is_kept ∙ ap (λ (y : Item). y ∷ []) (symbols_stay (left_symbols symbol true) item stay)
      where
        stay : is_load_item item ≡ false ⊎ (left_symbols symbol true (symbols_of item) ≡ symbols_of item)
        stay = elim (cases_Bool (is_load_item item)) [
          | inl is ↦ inr (left_all true (symbols_of item) (none_local is))
          | inr isnt ↦ inl isnt
        ]

    pub none_gone : (found : Bool) → gone_from symbol found item ≡ []
    none_gone found = elim (cases_Bool (is_load_item item)) [
      | inl is ↦ if_true (is_load_item item) _ _ is ∙ gone_none found (symbols_of item) (none_local is)
      | inr isnt ↦ if_false (is_load_item item) _ _ isnt
    ]

    pub silent_without : comments_without symbol item ≡ []
    silent_without = if_false (is_lost symbol item) _ _ is_kept ∙ none_gone true

  pub all_without : (items : List Item) → AreOther symbol items → flat_map (without_symbol symbol) items ≡ items
  all_without [] other = refl
  all_without (item ∷ items) other = let p = or_parts (has_local symbol.to item) (list_any (has_local symbol.to) items) other in both (λ (xs ys : List Item). xs ++ ys) (stays_without item p.0) (all_without items p.1)

  pub none_said : (items : List Item) → AreOther symbol items → flat_map (comments_without symbol) items ≡ []
  none_said [] other = refl
  none_said (item ∷ items) other =
      let p = or_parts (has_local symbol.to item) (list_any (has_local symbol.to) items) other in
      both (λ (xs ys : List HostComments). xs ++ ys) (silent_without item p.0) (none_said items p.1)

pub mapped_joined : {X Y : Type 0} (f : X → List Y) (xs ys : List X) → flat_map f (xs ++ ys) ≡ flat_map f xs ++ flat_map f ys
mapped_joined f [] ys = refl
mapped_joined f (x ∷ xs) ys = ap (λ zs. f x ++ zs) (mapped_joined f xs ys) ∙ sym (append_assoc (f x) (flat_map f xs) (flat_map f ys))

-- ---- the load that is to have the symbol

module _ (test : Item → Bool) where
  pub none_cut : (xs : List Item) → list_any test xs ≡ false → cut_of_first test xs ≡ None
  none_cut [] none = refl
  none_cut (x ∷ xs) none =
      let p = or_parts (test x) (list_any test xs) none in
      if_false (test x) _ _ p.0 ∙ ap (further x) (none_cut xs p.1)

  pub some_cut : (xs : List Item) → list_any test xs ≡ true → (cut_of_first test xs ≡ None) → ⊥
  some_cut [] some none = true≢false (sym some)
  some_cut (x ∷ xs) some none = elim (cases_Bool (test x)) [
    | inl is ↦ nothing (sym (if_true (test x) _ _ is) ∙ none)
    | inr isnt ↦ some_cut xs (sym (ap (λ b. b || list_any test xs) isnt) ∙ some) (by (cut_of_first test xs) (sym (if_false (test x) _ _ isnt) ∙ none))
  ]
    where
      nothing : {cut : ItemCut} → Some cut ≡ None → ⊥
      nothing e = true≢false (ap (λ (found : Option ItemCut). option_map_or (λ _. true) found false) e)

      by : (found : Option ItemCut) → further x found ≡ None → found ≡ None
      by None e = refl
      by (Some cut) e = absurd (nothing e)

  pub cut_passes : (items : List Item) → IfSome (cut_of_first test items) (λ cut. test cut.item ≡ true)
  cut_passes [] = tt
  cut_passes (x ∷ xs) = by (test x) refl (cut_of_first test xs) (cut_passes xs)
    where
      by : (b : Bool) → test x ≡ b → (found : Option ItemCut) → IfSome found (λ cut. test cut.item ≡ true)
          → IfSome (if b then Some (record { front = []; item = x; back = xs }) else further x found) (λ cut. test cut.item ≡ true)
      by true e found h = e
      by false e None h = tt
      by false e (Some cut) h = h

-- where there is a load from the path, one may have the symbol
pub any_may : (path : Bytes) (symbol : Symbol) (items : List Item) → list_any (is_load_from path) items ≡ true → list_any (may_have path symbol items) items ≡ true
any_may path symbol items some = by (is_loaded path items symbol) refl
  where
    by : (b : Bool) → is_loaded path items symbol ≡ b → list_any (λ item. is_load_from path item && (not b || list_any (loads_symbol symbol) (symbols_of item))) items ≡ true
    by true e = e
    by false e = ap (λ (test : Item → Bool). list_any test items) (fun_ext (λ item. and-true (is_load_from path item))) ∙ some

-- ---- a load whose symbols change

pub stays_load : (change : List Expr → List Expr) (item : Item) → is_load_item (on_symbols change item) ≡ is_load_item item
stays_load change (i.Block lines) = refl
stays_load change (i.Stmt x) = elim (cases_Bool (has_kind k.Load x)) [
  | inl is ↦ ap (has_kind k.Load) (items_changed k.Load (on_rest change) x is) ∙ items_kind k.Load (on_rest change (items_of x)) x
  | inr isnt ↦ ap (has_kind k.Load) (if_false (has_kind k.Load x) _ _ isnt)
]

pub stays_from : (path : Bytes) (change : List Expr → List Expr) (item : Item) → is_load_from path (on_symbols change item) ≡ is_load_from path item
stays_from path change (i.Block lines) = refl
stays_from path change (i.Stmt x) = elim (cases_Bool (has_kind k.Load x)) [
  | inl is ↦
      ap (λ (y : Expr). has_kind k.Load y && is_text path (path_in (items_of y))) (items_changed k.Load (on_rest change) x is)
      ∙ both (λ b xs. b && is_text path (path_in xs)) (items_kind k.Load (on_rest change (items_of x)) x) (items_filled k.Load (on_rest change (items_of x)) x is)
      ∙ ap (λ found. has_kind k.Load x && is_text path found) (by (items_of x))
  | inr isnt ↦ ap (λ (y : Expr). has_kind k.Load y && is_text path (path_in (items_of y))) (if_false (has_kind k.Load x) _ _ isnt)
]
  where
    by : (xs : List Expr) → path_in (on_rest change xs) ≡ path_in xs
    by [] = refl
    by (y ∷ ys) = refl

pub is_load_by : (path : Bytes) (item : Item) → is_load_from path item ≡ true → is_load_item item ≡ true
is_load_by path (i.Block lines) h = absurd (true≢false (sym h))
is_load_by path (i.Stmt x) h = (and_parts (has_kind k.Load x) (is_text path (path_in (items_of x))) h).0

pub cut_from : (path : Bytes) (symbol : Symbol) (items : List Item) → IfSome (cut_of_first (may_have path symbol items) items) (λ cut. is_load_from path cut.item ≡ true)
cut_from path symbol items = by (cut_of_first (may_have path symbol items) items) (cut_passes (may_have path symbol items) items)
  where
    by : (found : Option ItemCut) → IfSome found (λ cut. may_have path symbol items cut.item ≡ true) → IfSome found (λ cut. is_load_from path cut.item ≡ true)
    by None h = tt
    by (Some cut) h = (and_parts (is_load_from path cut.item) (not (is_loaded path items symbol) || list_any (loads_symbol symbol) (symbols_of cut.item)) h).0
