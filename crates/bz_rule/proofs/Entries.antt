-- The map of the code: what it has at a name, and after one place more.
use Rattle.bz_rule.proofs.Words.{[], ◌++◌, ◌∙◌, ◌∷◌, ◌≡◌, AddsPlace, ap, append-nil, Bool, Bytes, bytes_eq, bytes_eq-Decides, cond, false, HashMap, held, if◌then◌else◌, is_some, List, None, option_map_or, places_of, refl, Some, subst, sym, true, unwrap_or, Vec, ℕ}
use Rattle.std.specs.{declared.alloc.Global.Global, Cmp.Lexicographic.nat_list_eq_equiv, HashMap.UpdatesBy, HashMap.WritesThrough, HashMap.get_by, Map.lookup, Map.KeepsOthers, Map.IsKeyTest, Map.AreApart}

-- the keys and the values of the map: vectors of bytes, and of places
abbrev Numbers : Type 0
Numbers = Vec ℕ Global

abbrev is_named : Bytes → Numbers → Bool
is_named name key = bytes_eq name key.items

abbrev same_key : Numbers → Numbers → Bool
same_key one other = bytes_eq one.items other.items

equal : (xs ys : Bytes) → bytes_eq xs ys ≡ true → xs ≡ ys
equal xs ys e = (bytes_eq-Decides xs ys).0 e

-- ---- at a name

pub held_at : (name : Bytes) (entries : List (Numbers × Numbers))
    → places_of name (held entries) ≡ option_map_or (λ (found : Numbers). found.items) (lookup (is_named name) entries) []
held_at name [] = refl
held_at name (e ∷ es) = by (held_at name es) (bytes_eq name e.0.items)
  where
    by : places_of name (held es) ≡ option_map_or (λ (found : Numbers). found.items) (lookup (is_named name) es) []
        → (b : Bool) → unwrap_or (cond b (Some e.1.items) (lookup (bytes_eq name) (held es))) []
        ≡ option_map_or (λ (found : Numbers). found.items) (cond b (Some e.1) (lookup (is_named name) es)) []
    by rest true = refl
    by rest false = rest

-- ---- after a change at a name

-- a name finds one key, and those equal to it
finds_key : (name : Bytes) → IsKeyTest same_key (is_named name)
finds_key name x y e = ap (λ (text : Bytes). bytes_eq text y.items) (equal name x.items e)

apart : (name other : Bytes) → bytes_eq name other ≡ false → AreApart (is_named name) (is_named other)
apart name other unlike key same = nat_list_eq_equiv.symm other key.items ∙ sym (nat_list_eq_equiv.congr name key.items other same) ∙ unlike

others_stay : {X : Type 0} (test : Numbers → Bool) (old new : List (Numbers × X)) → KeepsOthers same_key test old new
    → (other : Numbers → Bool) → IsKeyTest same_key other → AreApart test other → lookup other new ≡ lookup other old
unfolding KeepsOthers
others_stay test old new h = h

module _ {S : Type 0} (old new : HashMap Numbers Numbers S) (name : Bytes) (found : Numbers) (at : ℕ)
    (updates : UpdatesBy same_key (is_named name) old new (Some found))
    (more : found.items ≡ places_of name (held old.entries) ++ at ∷ []) where
  here : places_of name (held new.entries) ≡ places_of name (held old.entries) ++ at ∷ []
  here = held_at name new.entries ∙ (ap (λ z. option_map_or (λ (v : Numbers). v.items) z []) updates.1 ∙ more)

  elsewhere : (other : Bytes) → bytes_eq name other ≡ false → places_of other (held new.entries) ≡ places_of other (held old.entries)
  elsewhere other unlike =
      held_at other new.entries
      ∙ (ap (λ z. option_map_or (λ (v : Numbers). v.items) z []) (others_stay (is_named name) old.entries new.entries updates.3 (is_named other) (finds_key other) (apart name other unlike))
      ∙ sym (held_at other old.entries))

  -- one place more at the name, and no other change
  pub one_more : AddsPlace (bytes_eq name) at old.entries new.entries
  one_more other = by (bytes_eq name other) refl
    where
      by : (b : Bool) → bytes_eq name other ≡ b → places_of other (held new.entries) ≡ places_of other (held old.entries) ++ (if b then at ∷ [] else [])
      by true e = subst (λ (text : Bytes). places_of text (held new.entries) ≡ places_of text (held old.entries) ++ at ∷ []) (equal name other e) here
      by false e = elsewhere other e ∙ sym (append-nil (places_of other (held old.entries)))

-- a new key with its first place
pub first_place : {S : Type 0} (old new : HashMap Numbers Numbers S) (name : Bytes) (key found : Numbers) (at : ℕ)
    → key.items ≡ name → found.items ≡ at ∷ [] → UpdatesBy same_key (same_key key) old new (Some found) → places_of name (held old.entries) ≡ []
    → AddsPlace (bytes_eq name) at old.entries new.entries
first_place old new name key found at same first updates none =
    one_more old new name found at
    (subst (λ (text : Bytes). UpdatesBy same_key (is_named text) old new (Some found)) same updates)
    (first ∙ sym (ap (λ (z : List ℕ). z ++ at ∷ []) none))

-- a key that is there with one place more
pub place_after : {S : Type 0} (old new : HashMap Numbers Numbers S) (name : Bytes) (before found : Numbers) (at : ℕ)
    → Some before ≡ get_by (is_named name) old → found.items ≡ before.items ++ at ∷ [] → WritesThrough same_key (is_named name) old found new
    → AddsPlace (bytes_eq name) at old.entries new.entries
place_after old new name before found at there more written =
    one_more old new name found at
    (written.3 (sym (ap is_some there)))
    (more ∙ ap (λ (z : List ℕ). z ++ at ∷ []) (sym (held_at name old.entries ∙ sym (ap (λ z. option_map_or (λ (v : Numbers). v.items) z []) there))))

-- a name that the map has not
pub no_place : {S : Type 0} (old : HashMap Numbers Numbers S) (name : Bytes) → None ≡ get_by (is_named name) old → places_of name (held old.entries) ≡ []
no_place old name none = held_at name old.entries ∙ sym (ap (λ z. option_map_or (λ (v : Numbers). v.items) z []) none)
