-- Items put in the place of others that were adjacent.
use Rattle.bz_load.proofs.Words.{[], ◌&&◌, ◌++◌, ◌+◌, ◌<◌, ◌==◌, ◌||◌, ◌↔◌, ◌∙◌, ◌∷◌, ◌≡◌, ◌≢◌, ◌≤◌, after_loads, and-false, and_parts, and_self, ap, apostrophe, append-nil, append_cancel_left, arith, body, Bool, by_test, Bytes, bytes_eq, changed_there, drop, drop-drop, drop_at, eqb-true, Expr, false, get_or, get_or-set_same, get_or_default, get_or_from_slice_get, has_kind, if_false, if_true, inner, insert, inside, is_first, is_load_from, is_plain_in, is_text, IsFirst, IsSpliced, IsTrue, Item, Item as i, items_changed, items_filled, items_of, items_same, Kind as k, length, length-append, length-insert, length-take-le, List, list_any, load_made, None, none_passes, on_items, Option, path_in, position, quotation_mark, refl, set, set-get_or, set_split, slice_get, slice_set, Some, subst, suc, sym, take, take_at, true, true≢false, with_load, with_symbols, ℕ}
use Rattle.bz_load.proofs.PlaceSteps.{first_at, none_any}

-- what is in front of the first place, what came, and what is from the last place on
pub spliced : (from gone come last : ℕ) (before middle after : List Item) → from + gone ≡ last → last ≤ length before → length middle ≡ come
    → after ≡ take from before ++ (middle ++ drop last before) → IsSpliced from gone come before after
spliced from gone come last before middle after place there count is =
    let front : length (take from before) ≡ from = length-take-le from before (omega (arith, place, there)) in
    let rest : List Item = middle ++ drop last before in
    let long : length after ≡ from + (come + length (drop last before)) =
    ap length is ∙ (length-append (take from before) rest ∙ (ap (λ n. n + length rest) front ∙ ap (λ n. from + n) (length-append middle (drop last before) ∙ ap (λ n. n + length (drop last before)) count))) in
    record {
      front = ap (take from) is ∙ take_at (take from before) rest from front;
      following =
          ap (drop (from + come)) is
          ∙ (sym (drop-drop come from (take from before ++ rest))
          ∙ (ap (drop come) (drop_at (take from before) rest from front)
          ∙ (drop_at middle (drop last before) come count ∙ ap (λ n. drop n before) (sym place))));
      within = omega (arith, place, there);
      held = omega (arith, long);
    }

-- one item put in
pub put_in : (at : ℕ) (new : Item) (before after : List Item) → at ≤ length before → after ≡ insert before at new → IsSpliced at 0 1 before after
put_in at new before after there is = spliced at 0 1 at before (new ∷ []) after (omega arith) there refl is

-- with one more they are others
pub another : (at : ℕ) (new : Item) (before after : List Item) → at ≤ length before → after ≡ insert before at new → after ≢ before
another at new before after there is same =
    let more = length-insert before at new there in
    let long : length after ≡ length (insert before at new) = ap length is in
    let short : length after ≡ length before = ap length same in
    omega (arith, more, long, short)

-- one item in the place of another
pub put_over : (at : ℕ) (new : Item) (before after : List Item) → at < length before → after ≡ set before at new → IsSpliced at 1 1 before after
put_over at new before after there is = spliced at 1 1 (suc at) before (new ∷ []) after (omega arith) (omega (arith, there)) refl (is ∙ set_split before at new there)

-- ---- the items of new symbols, put into their load

-- a plain string of this body has it between its ends
pub glanced_at : (text token : Bytes) → is_text text (body token) ≡ (bytes_eq (inside 1 token) text && is_text text (body token))
glanced_at text token =
    by_test (λ (found : Option Bytes). is_text text found ≡ (bytes_eq (inside 1 token) text && is_text text found)) (is_plain_in quotation_mark token || is_plain_in apostrophe token) (Some (inner token)) None
    (sym (and_self (bytes_eq (inner token) text))) (sym (and-false (bytes_eq (inner token) text)))

-- with no symbol more a load is the one that it was
pub with_none : (item : Item) → with_symbols [] item ≡ item
with_none (i.Block lines) = refl
with_none (i.Stmt x) = ap i.Stmt (items_same k.Load (λ xs. xs ++ []) x (append-nil (items_of x)))

-- with some it is another one
none_added : (path : Bytes) (more : List Expr) (item : Item) → is_load_from path item ≡ true → with_symbols more item ≡ item → more ≡ []
none_added path more (i.Block lines) from same = absurd (true≢false (sym from))
none_added path more (i.Stmt x) from same =
    let load : has_kind k.Load x ≡ true = (and_parts (has_kind k.Load x) (is_text path (path_in (items_of x))) from).0 in
    let stays : on_items k.Load (λ xs. xs ++ more) x ≡ x = cc same in
    let all : items_of x ++ more ≡ items_of x =
    sym (items_filled k.Load (items_of x ++ more) x load) ∙ ap items_of (sym (items_changed k.Load (λ xs. xs ++ more) x load) ∙ stays) in
    append_cancel_left (items_of x) more [] (all ∙ sym (append-nil (items_of x)))

-- whether there are none, by their number
pub none_counted : (more : List Expr) (b : Bool) → b ≡ (length more == 0) → IsTrue b ↔ (more ≡ [])
none_counted [] b e = (λ is. refl, λ none. e)
none_counted (x ∷ more) b e = (λ is. let n = eqb-true (length (x ∷ more)) 0 (sym e ∙ is) in absurd (omega arith), λ none. absurd cc)

-- ---- into the first load from the path

module _ (path : Bytes) (items : List Item) (place : Option ℕ) (at : ℕ) (is : place ≡ position (is_load_from path) items) (h : place ≡ Some at) where
  first : IsFirst (is_load_from path) items at
  first = is_first (is_load_from path) items at (i.Block []) (sym h ∙ is)

  pub there_within : at < length items
  there_within = first.within

  pub put_there : (more : List Expr) (x new : Item) → slice_get items at ≡ Some x → new ≡ with_symbols more x → slice_set items at new ≡ with_load path more items
  put_there more x new there e =
      changed_there (is_load_from path) (with_symbols more) items at x new (sym h ∙ is) there e
      ∙ sym (if_true (list_any (is_load_from path) items) _ _ (first_at (is_load_from path) items at first))

  pub over_there : (new : Item) → IsSpliced at 1 1 items (slice_set items at new)
  over_there new = put_over at new items (slice_set items at new) first.within refl

  -- all items are the same where no symbol is added, and only there
  pub same_there : (more : List Expr) (x new : Item) (same : Bool) → slice_get items at ≡ Some x → new ≡ with_symbols more x → IsTrue same ↔ (more ≡ []) → IsTrue same ↔ (slice_set items at new ≡ items)
  same_there more x new same there e added =
      let found : get_or items at x ≡ x = get_or_from_slice_get items at x x there in
      let from : is_load_from path x ≡ true = ap (is_load_from path) (sym found) ∙ first.passes x in (
        λ answered. ap (set items at) (e ∙ (ap (λ xs. with_symbols xs x) (added.0 answered) ∙ (with_none x ∙ sym found))) ∙ set-get_or items at x,
        λ equal.
            let stands : new ≡ x = sym (get_or-set_same items at new new first.within) ∙ (ap (λ xs. get_or xs at new) equal ∙ (get_or_default items at new x first.within ∙ found)) in
            added.1 (none_added path more x from (sym e ∙ stands)),
      )

-- ---- into a new load

pub put_new : (path : Bytes) (more : List Expr) (items : List Item) (place : Option ℕ) (load : Item) → place ≡ position (is_load_from path) items → place ≡ None → load ≡ load_made path more
    → after_loads load items ≡ with_load path more items
put_new path more items place load is h new =
    ap (λ item. after_loads item items) new
    ∙ sym (if_false (list_any (is_load_from path) items) _ _ (none_any (is_load_from path) items (none_passes (is_load_from path) items (sym h ∙ is))))

module _ (at : ℕ) (load : Item) (items all after made : List Item) (same : all ≡ items) (within : at ≤ length all) (e : after ≡ insert all at load) (put : made ≡ after) where
  put_into : at ≤ length items
  put_into = subst (λ xs. at ≤ length xs) same within

  pub put_at : IsSpliced at 0 1 items made
  put_at = put_in at load items made put_into (put ∙ (e ∙ ap (λ xs. insert xs at load) same))

  -- a load that is put in makes others of them
  pub other_new : IsTrue false ↔ (made ≡ items)
  other_new = (
    λ answered. absurd (true≢false (sym answered)),
    λ equal. absurd (another at load items made put_into (put ∙ (e ∙ ap (λ xs. insert xs at load) same)) equal),
  )
