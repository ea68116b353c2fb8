-- Paths and local names that are listed: no item has another one, also where items came in the place of others.
use Rattle.bz_load.proofs.Words.{[], ◌&&◌, ◌+◌, ◌||◌, ◌∙◌, ◌∷◌, ◌≡◌, ap, AreOver, Bool, both, Bytes, bytes_eq, come_with, drop, drop-drop, false, has_local, is_first, is_load_from, is_load_item, is_text, Item, Item as i, items_of, List, list_any, list_any-append, local_name, mentions, None, Option, or_parts, path_in, position, refl, Some, subst, sym, symbols_of, take, take-append-drop, true, true≢false, Window, ℕ}
use Rattle.bz_load.proofs.PlaceSteps.{first_at}

-- ---- what none passes

nowhere_by : (test : Item → Bool) (items : List Item) (found : Option ℕ) → found ≡ position test items → list_any test items ≡ false → found ≡ None
nowhere_by test items None e none = refl
nowhere_by test items (Some at) e none = absurd (true≢false (sym (first_at test items at (is_first test items at (i.Block []) e)) ∙ none))

pub nowhere : (test : Item → Bool) (items : List Item) → list_any test items ≡ false → position test items ≡ None
nowhere test items = nowhere_by test items (position test items) refl

any_cut : (test : Item → Bool) (n : ℕ) (items : List Item) → list_any test items ≡ (list_any test (take n items) || list_any test (drop n items))
any_cut test n items = ap (list_any test) (sym (take-append-drop n items)) ∙ list_any-append test (take n items) (drop n items)

pub none_parts : (test : Item → Bool) (n : ℕ) (items : List Item) → list_any test items ≡ false → (list_any test (take n items) ≡ false) × (list_any test (drop n items) ≡ false)
none_parts test n items none = or_parts _ _ (sym (any_cut test n items) ∙ none)

none_joined : (test : Item → Bool) (n : ℕ) (items : List Item) → list_any test (take n items) ≡ false → list_any test (drop n items) ≡ false → list_any test items ≡ false
none_joined test n items front past = any_cut test n items ∙ (ap (λ b. b || list_any test (drop n items)) front ∙ past)

-- ---- windows

pub none_over : (text : Bytes) (ws : List Window) (before items : List Item) → AreOver ws before items → come_with text ws items ≡ false → list_any (mentions text) before ≡ false → list_any (mentions text) items ≡ false
none_over text [] before items h come none = ap (list_any (mentions text)) (sym h) ∙ none
none_over text (w ∷ ws) before items h come none =
    let test = mentions text in
    let past : List Item = drop w.come (drop w.from items) in
    let own = or_parts (list_any test (take w.come (drop w.from items))) (come_with text ws past) come in
    let left = none_over text ws (drop (w.from + w.gone) before) past (subst (AreOver ws (drop (w.from + w.gone) before)) (sym (drop-drop w.come w.from items)) h.3) own.1 (none_parts test (w.from + w.gone) before none).1 in
    none_joined test w.from items (ap (list_any test) h.2 ∙ (none_parts test w.from before none).0) (none_joined test w.come (drop w.from items) own.0 left)

-- ---- one load

-- another item has neither
pub no_load_from : (path : Bytes) (item : Item) → is_load_item item ≡ false → is_load_from path item ≡ false
no_load_from path (i.Block lines) h = refl
no_load_from path (i.Stmt x) h = ap (λ b. b && is_text path (path_in (items_of x))) h

module _ (text : Bytes) (item : Item) where
  abbrev named : Bool
  named = list_any (λ x. bytes_eq text (local_name x)) (symbols_of item)

  pub none_mentioned : is_load_item item ≡ false → mentions text item ≡ false
  none_mentioned isnt = both (λ a b. a || b) (no_load_from text item isnt) (ap (λ b. b && named) isnt)

  names : is_load_item item ≡ true → has_local text item ≡ named
  names is = ap (λ b. b && named) is

  -- without a path that is plain, the local names alone
  pub names_alone : is_load_item item ≡ true → false ≡ is_load_from text item → (old : Bool) → (named || old) ≡ (mentions text item || old)
  names_alone is none old = ap (λ b. b || old) (both (λ a b. a || b) none (sym (names is)))

  pub path_and_names : is_load_item item ≡ true → (path old between : Bool) → path ≡ is_load_from text item → between ≡ (named || old) → (path || between) ≡ (mentions text item || old)
  path_and_names is path old between own rest =
      both (λ a b. a || b) own (rest ∙ ap (λ b. b || old) (sym (names is))) ∙ by (is_load_from text item)
    where
      by : (b : Bool) → (b || (has_local text item || old)) ≡ ((b || has_local text item) || old)
      by true = refl
      by false = refl

-- what is mentioned nowhere is no path and no local name
pub unmentioned : (text : Bytes) (items : List Item) → list_any (mentions text) items ≡ false → (list_any (is_load_from text) items ≡ false) × (list_any (has_local text) items ≡ false)
unmentioned text [] none = (refl, refl)
unmentioned text (item ∷ items) none =
    let p = or_parts (mentions text item) (list_any (mentions text) items) none in
    let own = or_parts (is_load_from text item) (has_local text item) p.0 in
    let rest = unmentioned text items p.1 in
    (both (λ a b. a || b) own.0 rest.0, both (λ a b. a || b) own.1 rest.1)

pub unlisted : (path : Bytes) (items : List Item) → list_any (mentions path) items ≡ false → position (is_load_from path) items ≡ None
unlisted path items none = nowhere (is_load_from path) items (unmentioned path items none).0
