-- Symbols that go from loads, and their comments, in the steps of the code.
use Rattle.bz_load.proofs.Words.{[], ◌&&◌, ◌++◌, ◌+◌, ◌||◌, ◌∙◌, ◌∷◌, ◌≡◌, after_loads, after_path, all_comments, all_comments_joined, AllByRecursion, and-true, and_parts, ap, append-nil, append_assoc, arith, Bool, both, Bytes, bytes_eq, changed_there, Class as c, codes, comments_around, comments_of, comments_without, cut_of_first, drop, drop_more, each_replaced, Expr, false, flat_map, Form', fun_ext, further, get_or, goes, gone_comments, gone_from, has_local, has_symbol, HostComments, if_false, if_true, if◌then◌else◌, is_first, is_load_from, is_load_item, is_loaded, is_local, is_lost, is_some, IsFirst, IsUnknown, Item, Item as i, items_hidden-the_row-Expr-0, Kind as k, last_of_each, later, leading_blocks, left_symbols, List, list_any, load_made, loads_end, loads_symbol, may_have, new_around, no_comments, None, none_passes, not, on_rest, on_symbols, Option, option_map_or, or_parts, position, put_symbol, quoted_of, refl, remove, replace_load, replace_symbol, replaced_around, sequence, slice_get, slice_set, Some, subst, suc, sym, Symbol, symbol_made, symbols_of, take, take-append-drop, Token, token, true, true≢false, with_joined, without_symbol, zero, ℕ}
use Rattle.bz_load.proofs.{GatheredComments.none_taken, OtherItems.all_without, OtherItems.none_cut, OtherItems.none_gone, OtherItems.none_said, OtherItems.silent_without, OtherItems.stays_without, PathSteps.none_parts, PathSteps.nowhere, PlaceSteps.first_at, PlaceSteps.none_any}

-- ---- one symbol more

module _ (symbol : Symbol) (found : Bool) (x : Expr) (rest : List Expr) where
  abbrev now_found : Bool
  now_found = found || loads_symbol symbol x

  pub gone_next : (own : HostComments) → all_comments_joined (all_comments_joined own (if goes symbol found x then comments_of x ∷ [] else [])) (gone_comments symbol now_found rest) ≡ all_comments_joined own (gone_comments symbol found (x ∷ rest))
  gone_next own = by (goes symbol found x)
    where
      by : (b : Bool) → all_comments_joined (all_comments_joined own (if b then comments_of x ∷ [] else [])) (gone_comments symbol now_found rest) ≡ all_comments_joined own (if b then comments_of x ∷ gone_comments symbol now_found rest else gone_comments symbol now_found rest)
      by true = refl
      by false = refl

  pub goes_off : goes symbol found x ≡ true → (left : List Expr) → left ++ left_symbols symbol now_found rest ≡ left ++ left_symbols symbol found (x ∷ rest)
  goes_off is left = ap (λ xs. left ++ xs) (sym (if_true (goes symbol found x) _ _ is))

  pub stays_in : goes symbol found x ≡ false → (left : List Expr) → (left ++ x ∷ []) ++ left_symbols symbol now_found rest ≡ left ++ left_symbols symbol found (x ∷ rest)
  stays_in isnt left = append_assoc left (x ∷ []) (left_symbols symbol now_found rest) ∙ ap (λ xs. left ++ xs) (sym (if_false (goes symbol found x) _ _ isnt))

-- ---- one item more

pub gone_load : (symbol : Symbol) (item : Item) (found : Bool) → has_local symbol.to item ≡ true → gone_comments symbol found (symbols_of item) ≡ gone_from symbol found item
gone_load symbol item found is = sym (if_true (is_load_item item) _ _ (and_parts (is_load_item item) (list_any (is_local symbol) (symbols_of item)) is).0)

module _ (symbol : Symbol) (item : Item) where
  pub item_lost : is_lost symbol item ≡ true → (left : List Item) → left ≡ left ++ without_symbol symbol item
  item_lost is left = sym (ap (λ xs. left ++ xs) (if_true (is_lost symbol item) _ _ is) ∙ append-nil left)

  pub item_said : is_lost symbol item ≡ true → all_comments item ≡ comments_without symbol item
  item_said is = sym (if_true (is_lost symbol item) _ _ is)

  pub item_left : is_lost symbol item ≡ false → on_symbols (left_symbols symbol true) item ∷ [] ≡ without_symbol symbol item
  item_left isnt = sym (if_false (is_lost symbol item) _ _ isnt)

  pub item_gone : is_lost symbol item ≡ false → has_local symbol.to item ≡ true → gone_comments symbol true (symbols_of item) ≡ comments_without symbol item
  item_gone isnt has = gone_load symbol item true has ∙ sym (if_false (is_lost symbol item) _ _ isnt)

  pub item_stays : has_local symbol.to item ≡ false → item ∷ [] ≡ without_symbol symbol item
  item_stays other = sym (stays_without symbol item other)

  pub item_silent : has_local symbol.to item ≡ false → (own : HostComments) → own ≡ all_comments_joined own (comments_without symbol item)
  item_silent other own = ap (all_comments_joined own) (sym (silent_without symbol item other))

-- what it leaves alone says nothing
pub gone_nothing : (symbol : Symbol) (item : Item) (found : Bool) (own : HostComments) → has_local symbol.to item ≡ false → own ≡ all_comments_joined own (gone_from symbol found item)
gone_nothing symbol item found own other = ap (all_comments_joined own) (sym (none_gone symbol item other found))

-- ---- the load that is to have the symbol

module _ (symbol : Symbol) (gone : HostComments) where
  -- the symbol is there
  pub put_there : (items : List Expr) (at place : ℕ) (x new : Expr) → (items ≡ [] → ⊥) → place ≡ at + 1 → Some at ≡ position (loads_symbol symbol) (after_path items) → slice_get items place ≡ Some x → new ≡ with_joined gone x
      → slice_set items place new ≡ on_rest (put_symbol symbol gone) items
  put_there [] at place x new some here found there is = absurd (some refl)
  put_there (path ∷ xs) at place x new some here found there is =
      let next : place ≡ suc at = omega (arith, here) in
      let own : slice_get xs at ≡ Some x = sym (ap (slice_get (path ∷ xs)) next) ∙ there in
      ap (λ n. slice_set (path ∷ xs) n new) next
      ∙ ap (λ ys. path ∷ ys)
      (changed_there (loads_symbol symbol) (with_joined gone) xs at x new found own is
      ∙ sym (if_true (list_any (loads_symbol symbol) xs) _ _ (first_at (loads_symbol symbol) xs at (is_first (loads_symbol symbol) xs at x found))))

  -- it is new
  pub put_last : (items : List Expr) (new : Expr) → (items ≡ [] → ⊥) → None ≡ position (loads_symbol symbol) (after_path items) → new ≡ with_joined gone (symbol_made symbol)
      → items ++ new ∷ [] ≡ on_rest (put_symbol symbol gone) items
  put_last [] new some none is = absurd (some refl)
  put_last (path ∷ xs) new some none is =
      ap (λ ys. path ∷ ys)
      (ap (λ y. xs ++ y ∷ []) is ∙ sym (if_false (list_any (loads_symbol symbol) xs) _ _ (none_any (loads_symbol symbol) xs (none_passes (loads_symbol symbol) xs none))))

-- ---- its place

none_either : {X : Type 0} (test more : X → Bool) (xs : List X) → list_any test xs ≡ false → list_any (λ x. test x && more x) xs ≡ false
none_either test more [] none = refl
none_either test more (x ∷ xs) none = let p = or_parts (test x) (list_any test xs) none in both (λ a b. a || b) (ap (λ b. b && more x) p.0) (none_either test more xs p.1)

module _ (path : Bytes) (symbol : Symbol) (items : List Item) (found : Option ℕ) (is : found ≡ position (has_symbol path symbol) items) where
  pub having_first : is_some found ≡ true → found ≡ position (may_have path symbol items) items
  having_first some = is ∙ ap (λ (b : Bool). position (λ item. is_load_from path item && (not b || list_any (loads_symbol symbol) (symbols_of item))) items) (sym (loaded found is some))
    where
      loaded : (o : Option ℕ) → o ≡ position (has_symbol path symbol) items → is_some o ≡ true → is_loaded path items symbol ≡ true
      loaded None e some = absurd (true≢false (sym some))
      loaded (Some at) e some = first_at (has_symbol path symbol) items at (is_first (has_symbol path symbol) items at (i.Block []) e)

  pub from_first : is_some found ≡ false → (first : Option ℕ) → first ≡ position (is_load_from path) items → first ≡ position (may_have path symbol items) items
  from_first none first e =
      e
      ∙ (ap (λ (test : Item → Bool). position test items) (fun_ext (λ item. sym (and-true (is_load_from path item))))
      ∙ ap (λ (b : Bool). position (λ item. is_load_from path item && (not b || list_any (loads_symbol symbol) (symbols_of item))) items) (sym (unloaded found is none)))
    where
      unloaded : (o : Option ℕ) → o ≡ position (has_symbol path symbol) items → is_some o ≡ false → is_loaded path items symbol ≡ false
      unloaded None e none = none_any (has_symbol path symbol) items (none_passes (has_symbol path symbol) items e)
      unloaded (Some at) e none = absurd (true≢false none)

  pub none_from : (first : Option ℕ) → first ≡ position (is_load_from path) items → first ≡ None → None ≡ position (may_have path symbol items) items
  none_from first e none =
      sym
      (nowhere (may_have path symbol items) items
      (none_either (is_load_from path) (λ item. not (is_loaded path items symbol) || list_any (loads_symbol symbol) (symbols_of item)) items (none_any (is_load_from path) items (none_passes (is_load_from path) items (sym none ∙ e)))))

pub not_loaded : (path : Bytes) (symbol : Symbol) (items : List Item) (place : Option ℕ) → place ≡ position (is_load_from path) items → is_some place ≡ false → is_loaded path items symbol ≡ false
not_loaded path symbol items None e h = none_either (is_load_from path) (λ item. list_any (loads_symbol symbol) (symbols_of item)) items (none_any (is_load_from path) items (none_passes (is_load_from path) items e))
not_loaded path symbol items (Some at) e h = absurd (true≢false h)

cut_found : (test : Item → Bool) (items : List Item) (at : ℕ) (d : Item) → IsFirst test items at → cut_of_first test items ≡ Some (record { front = take at items; item = get_or items at d; back = drop (suc at) items })
cut_found test [] at d h = absurd (omega (arith, h.within))
cut_found test (x ∷ xs) zero d h = if_true (test x) _ _ (h.passes x)
cut_found test (x ∷ xs) (suc at) d h = if_false (test x) _ _ (h.others 0 x (omega arith)) ∙ ap (further x) (cut_found test xs at d (later test x xs at h))

module _ (path : Bytes) (symbol : Symbol) (items : List Item) (place : Option ℕ) (is : place ≡ position (may_have path symbol items) items) where
  pub around_there : (at : ℕ) → place ≡ Some at → (rest : List Item) (load : Item) → rest ≡ drop at items → load ≡ get_or rest 0 load
      → replaced_around symbol (take at items) load (remove rest 0) ≡ replace_symbol path items symbol
  around_there at h rest load left first =
      let f : IsFirst (may_have path symbol items) items at = is_first (may_have path symbol items) items at load (sym h ∙ is) in
      let split : rest ≡ get_or items at load ∷ drop (at + 1) items = left ∙ drop_more items at load f.within in
      let next : at + 1 ≡ suc at = omega arith in
      both (λ x b. replaced_around symbol (take at items) x b) (first ∙ ap (λ xs. get_or xs 0 load) split) (ap (λ xs. remove xs 0) split ∙ ap (λ n. drop n items) next)
      ∙ sym (ap (λ found. option_map_or (λ cut. replaced_around symbol cut.front cut.item cut.back) found (new_around path symbol (loads_end (leading_blocks items) 0 items) items)) (cut_found (may_have path symbol items) items at load f))

  -- the items that it is cut from
  pub whole_there : (at : ℕ) → place ≡ Some at → (rest : List Item) (load : Item) → rest ≡ drop at items → load ≡ get_or rest 0 load → take at items ++ load ∷ remove rest 0 ≡ items
  whole_there at h rest load left first =
      let f : IsFirst (may_have path symbol items) items at = is_first (may_have path symbol items) items at load (sym h ∙ is) in
      let split : rest ≡ get_or items at load ∷ drop (at + 1) items = left ∙ drop_more items at load f.within in
      both (λ x b. take at items ++ x ∷ b) (first ∙ ap (λ xs. get_or xs 0 load) split) (ap (λ xs. remove xs 0) split) ∙ (ap (λ xs. take at items ++ xs) (sym split ∙ left) ∙ take-append-drop at items)

  pub around_new : place ≡ None → (at : ℕ) (load : Item) → at ≡ loads_end (leading_blocks items) 0 items → load ≡ load_made path [] → replaced_around symbol (take at items) load (drop at items) ≡ replace_symbol path items symbol
  around_new h at load there made =
      both (λ n x. replaced_around symbol (take n items) x (drop n items)) there made
      ∙ sym (ap (λ found. option_map_or (λ cut. replaced_around symbol cut.front cut.item cut.back) found (new_around path symbol (loads_end (leading_blocks items) 0 items) items)) (none_cut (may_have path symbol items) items (none_any (may_have path symbol items) items (none_passes (may_have path symbol items) items (sym h ∙ is)))))

-- ---- where no load is from the path, and none has the local name

pub nothing_joined : (x : Expr) → with_joined no_comments x ≡ x
nothing_joined (Token t) = ap (λ (comments : HostComments). Token (record t { comments = comments })) (sym (none_taken t.comments))
nothing_joined (Form' kind s parts s' items end split open_break comments) = ap (Form' kind s parts s' items end split open_break) (sym (none_taken comments))

-- a new load, which has no symbol yet
pub none_made : (path : Bytes) → symbols_of (load_made path []) ≡ []
none_made path = ap after_path (items_hidden-the_row-Expr-0 (token c.String (quoted_of path) ∷ []))

made_changed : (path : Bytes) (change : List Expr → List Expr) (xs : List Expr) → on_symbols change (load_made path xs) ≡ load_made path (change xs)
made_changed path change xs =
    both (λ parts items. i.Stmt (sequence k.Load parts (on_rest change items))) (items_hidden-the_row-Expr-0 (token c.Keyword (codes "load") ∷ [])) (items_hidden-the_row-Expr-0 (token c.String (quoted_of path) ∷ xs))

module _ (path : Bytes) (symbol : Symbol) (items : List Item) (unknown : IsUnknown path symbol items) where
  pub new_alone : after_loads (load_made path (symbol_made symbol ∷ [])) items ≡ replace_symbol path items symbol
  new_alone =
      let place : ℕ = loads_end (leading_blocks items) 0 items in
      let test : Item → Bool = may_have path symbol items in
      let other = none_parts (has_local symbol.to) place items unknown.1 in
      let none : cut_of_first test items ≡ None =
      none_cut test items (none_either (is_load_from path) (λ item. not (is_loaded path items symbol) || list_any (loads_symbol symbol) (symbols_of item)) items unknown.0) in
      let said : comments_around symbol (take place items) (load_made path []) (drop place items) ≡ [] =
      both (λ xs ys. xs ++ ys) (none_said symbol (take place items) other.0)
      (both (λ (xs ys : List HostComments). xs ++ ys) (ap (gone_comments symbol false) (none_made path)) (none_said symbol (drop place items) other.1)) in
      let load : on_symbols (put_symbol symbol (all_comments_joined no_comments (comments_around symbol (take place items) (load_made path []) (drop place items)))) (on_symbols (left_symbols symbol false) (load_made path [])) ≡ load_made path (symbol_made symbol ∷ []) =
      both (λ cs x. on_symbols (put_symbol symbol (all_comments_joined no_comments cs)) x) said (made_changed path (left_symbols symbol false) [])
      ∙ (made_changed path (put_symbol symbol no_comments) [] ∙ ap (λ x. load_made path (x ∷ [])) (nothing_joined (symbol_made symbol))) in
      sym
      (ap (λ found. option_map_or (λ cut. replaced_around symbol cut.front cut.item cut.back) found (new_around path symbol place items)) none
      ∙ both (λ xs ys. xs ++ ys) (all_without symbol (take place items) other.0) (both (λ x ys. x ∷ ys) load (all_without symbol (drop place items) other.1)))

  pub unloaded : is_loaded path items symbol ≡ false
  unloaded = none_either (is_load_from path) (λ item. list_any (loads_symbol symbol) (symbols_of item)) items unknown.0

-- ---- a symbol more

pub one_replaced : (path : Bytes) (symbol : Symbol) (rest : List Symbol) (later : Bool) (items made : List Item) → later ≡ list_any (λ other. bytes_eq symbol.to other.to) rest
    → made ≡ (if later then items else replace_symbol path items symbol) → replace_load path rest made ≡ replace_load path (symbol ∷ rest) items
one_replaced path symbol rest true items made e is = ap (replace_load path rest) is ∙ ap (λ ss. each_replaced path ss items) (sym (if_true (list_any (λ other. bytes_eq symbol.to other.to) rest) _ _ (sym e)))
one_replaced path symbol rest false items made e is = ap (replace_load path rest) is ∙ ap (λ ss. each_replaced path ss items) (sym (if_false (list_any (λ other. bytes_eq symbol.to other.to) rest) _ _ (sym e)))

-- what is said of each symbol that is meant is said of the first, where that is one, and of those that are left
pub settled_next : (P : Symbol → Type 0) (symbol : Symbol) (rest : List Symbol) (later : Bool) → later ≡ list_any (λ other. bytes_eq symbol.to other.to) rest → AllByRecursion P (last_of_each (symbol ∷ rest))
    → (later ≡ false → P symbol) × AllByRecursion P (last_of_each rest)
settled_next P symbol rest true e all = (λ last. absurd (true≢false last), subst (AllByRecursion P) (if_true (list_any (λ other. bytes_eq symbol.to other.to) rest) _ _ (sym e)) all)
settled_next P symbol rest false e all = let both : AllByRecursion P (symbol ∷ last_of_each rest) = subst (AllByRecursion P) (if_false (list_any (λ other. bytes_eq symbol.to other.to) rest) _ _ (sym e)) all in (λ last. both.0, both.1)

-- the load and the items around it, as they were made
pub around_made : (symbol : Symbol) (front : List Item) (load : Item) (back one two all : List Item) (gone : HostComments) (own new : Item)
    → one ≡ flat_map (without_symbol symbol) front → two ≡ one ++ new ∷ [] → all ≡ two ++ flat_map (without_symbol symbol) back → gone ≡ all_comments_joined no_comments (comments_around symbol front load back)
    → own ≡ on_symbols (left_symbols symbol false) load → new ≡ on_symbols (put_symbol symbol gone) own → all ≡ replaced_around symbol front load back
around_made symbol front load back one two all gone own new f m b g o n =
    let rest : List Item = flat_map (without_symbol symbol) back in
    b
    ∙ (ap (λ xs. xs ++ rest) m
    ∙ (append_assoc one (new ∷ []) rest ∙ both (λ xs x. xs ++ x ∷ rest) f (n ∙ both (λ cs x. on_symbols (put_symbol symbol cs) x) g o)))
