-- Hashes of names: a name is at no item whose hash is another one.
use Rattle.bz_command.proofs.Words.{[], ◌++◌, ◌+◌, ◌<◌, ◌∙◌, ◌∷◌, ◌≡◌, ◌≤◌, ap, append_assoc, ap₂, AreOver, arith, Bool, Bytes, bytes_eq, cond, drop, drop-drop, drop-map, eq-or-lt_of_le, false, get_or, get_or_default, has_name, held_name, inl, inr, Item, Item as i, item_hash, le-ltb, length, List, lt-ltb, map, map-append, name_hash, nat_lt, None, Option, option_map_or, position, position_or_len, refl, Some, subst, sym, take, take-append-drop, take-map, true, Window, ℕ}
use Rattle.std.proofs.{lemmas.List.Sums.position_or_len_is, lemmas.Slice.Eq.bytes_eq-Decides}

-- where the hashes differ
apart : (name : Bytes) (held : Option Bytes) → (option_map_or name_hash held 0 ≡ name_hash name → ⊥) → option_map_or (λ other. bytes_eq other name) held false ≡ false
apart name None other = refl
apart name (Some held) other = (by (bytes_eq held name) refl)
  where
    by : (same : Bool) → bytes_eq held name ≡ same → same ≡ false
    by false is = refl
    by true is = absurd (other (ap name_hash ((bytes_eq-Decides held name).0 is)))

pub same_hash : (name : Bytes) (hash own : ℕ) (item : Item) → hash ≡ name_hash name → own ≡ item_hash item → (own ≡ hash → ⊥) → has_name name item ≡ false
same_hash name hash own item is own_is other = apart name (held_name item) (λ same. other (own_is ∙ same ∙ sym is))

-- those of items of which others came in one window
pub hashes_spliced : (ws : List Window) (w : Window) (before items : List Item) (hashes come all : List ℕ) → ws ≡ w ∷ [] → AreOver ws before items → hashes ≡ map item_hash before
    → come ≡ map item_hash (take w.come (drop w.from items)) → all ≡ take w.from hashes ++ come ++ drop (w.from + w.gone) hashes → all ≡ map item_hash items
hashes_spliced ws w before items hashes come all one over is new spliced =
    let h : AreOver (w ∷ []) before items = subst (λ ws. AreOver ws before items) one over in
    let front : take w.from hashes ≡ map item_hash (take w.from items) = ap (take w.from) is ∙ take-map item_hash w.from before ∙ ap (map item_hash) (sym h.2) in
    let back : drop (w.from + w.gone) hashes ≡ map item_hash (drop w.come (drop w.from items)) =
    ap (drop (w.from + w.gone)) is ∙ drop-map item_hash (w.from + w.gone) before ∙ ap (map item_hash) (h.3 ∙ sym (drop-drop w.come w.from items)) in
    spliced
    ∙ append_assoc (take w.from hashes) come (drop (w.from + w.gone) hashes)
    ∙ ap₂ (λ xs ys. xs ++ ys) front (ap₂ (λ xs ys. xs ++ ys) new back)
    ∙ ap (λ ys. map item_hash (take w.from items) ++ ys) (sym (map-append item_hash (take w.come (drop w.from items)) (drop w.come (drop w.from items))) ∙ ap (map item_hash) (take-append-drop w.come (drop w.from items)))
    ∙ sym (map-append item_hash (take w.from items) (drop w.from items))
    ∙ ap (map item_hash) (take-append-drop w.from items)

-- ---- the first item of a name

abbrev pub NoneBefore : Bytes → List Item → ℕ → Type 0
NoneBefore name items at = (k : ℕ) → k < at → has_name name (get_or items k (i.Block [])) ≡ false

module _ (name : Bytes) (items : List Item) where
  placed : (at : ℕ) (b : Bool) → nat_lt at (length items) ≡ b → position_or_len (has_name name) items ≡ at → cond b (Some at) None ≡ position (has_name name) items
  placed at b less is = sym (ap (λ n. cond (nat_lt n (length items)) (Some n) None) is ∙ ap (λ b. cond b (Some at) None) less)

  module _ (at : ℕ) (item : Item) (within : at < length items) (read : item ≡ get_or items at item) (none : NoneBefore name items at) where
    tested : (b : Bool) → has_name name item ≡ b → has_name name (get_or items at (i.Block [])) ≡ b
    tested b is = ap (has_name name) (get_or_default items at (i.Block []) item within ∙ sym read) ∙ is

    pub first_named : has_name name item ≡ true → Some at ≡ position (has_name name) items
    first_named here =
        placed at true (lt-ltb at (length items) within) (position_or_len_is (has_name name) items at (i.Block []) (omega (arith, within)) none (λ _. tested true here))

    pub none_further : has_name name item ≡ false → NoneBefore name items (at + 1)
    none_further other k less = elim (eq-or-lt_of_le (at-most k less)) [
      | inl same ↦ subst (λ n. has_name name (get_or items n (i.Block [])) ≡ false) (sym same) (tested false other)
      | inr before ↦ none k before
    ]
      where
        at-most : (k : ℕ) → k < at + 1 → k ≤ at
        at-most k less = omega (arith, less)

  pub none_named : NoneBefore name items (length items) → None ≡ position (has_name name) items
  none_named none =
      placed (length items) false (le-ltb (length items) (length items) (omega arith))
      (position_or_len_is (has_name name) items (length items) (i.Block []) (omega arith) none (λ past. absurd (omega (arith, past))))
