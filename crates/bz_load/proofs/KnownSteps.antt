-- The sets of the code: the symbols that are loaded already, what is found among them, what they are with one more, and the
-- symbols that are none of them; and the names that are used.
use Rattle.bz_load.proofs.Words.{[], ◌&&◌, ◌++◌, ◌||◌, ◌∙◌, ◌∷◌, ◌≡◌, ◌≤◌, and_parts, and_symbol, ap, arith, at_drop_all, Bool, BTreeSet, by_case, Bytes, bytes_eq, drop, equal_texts, false, fun_ext, if_false, if_true, is_load_from, is_loaded, is_symbol, is_used, Item, knows, knows_name, length, List, list_any, Loaded, loads_symbol, new_symbols, None, none_later, none_passes, NonePasses, not, not-false, not-true, or_none, or_turn, position, refl, sym, Symbol, symbol_of_key, symbols_of, true, Vec, ℕ}
use Rattle.indexmap.specs.IndexSet.{insert_key}
use Rattle.bz_load.specs.contracts.readings.LoadedPartialEq.TheImpl as loaded_eq
use Rattle.std.specs.declared.alloc.Global.{Global}

pub same_symbol : (one other : Symbol) → is_symbol one other ≡ true → one ≡ other
same_symbol one other h =
    let p = and_parts (bytes_eq one.to other.to) (bytes_eq one.from other.from) h in
    ap (λ (to : Bytes). record { to = to; from = one.from }) (equal_texts _ _ p.0)
    ∙ ap (λ (from : Bytes). record { to = other.to; from = from }) (equal_texts _ _ p.1)

-- ---- one key more

abbrev eq : Loaded → Loaded → Bool
eq = (loaded_eq.ghosts).eq

-- a symbol that is known already
known_again : (keys : List Loaded) (symbol other : Symbol) (b : Bool) → is_symbol other symbol ≡ b → knows keys symbol ≡ true → knows keys other ≡ (b || knows keys other)
known_again keys symbol other true e h = ap (knows keys) (same_symbol other symbol e) ∙ h
known_again keys symbol other false e h = refl

known_after : (keys : List Loaded) (key : Loaded) (other : Symbol) → knows (keys ++ key ∷ []) other ≡ (is_symbol other (symbol_of_key key) || knows keys other)
known_after [] key other = refl
known_after (x ∷ keys) key other =
    ap (λ z. is_symbol other (symbol_of_key x) || z) (known_after keys key other) ∙ or_turn (is_symbol other (symbol_of_key x)) (is_symbol other (symbol_of_key key)) (knows keys other)

pub symbol_inserted : (old new : List Loaded) (key : Loaded) (other : Symbol) → new ≡ insert_key eq old key → knows new other ≡ (is_symbol other (symbol_of_key key) || knows old other)
symbol_inserted old new key other e =
    ap (λ keys. knows keys other) e
    ∙ by_case (λ keys. knows keys other ≡ (is_symbol other (symbol_of_key key) || knows old other)) (list_any (eq key) old) old (old ++ key ∷ [])
    (known_again old (symbol_of_key key) other (is_symbol other (symbol_of_key key)) refl) (λ h. known_after old key other)

-- ---- the symbols that are not known

pub all_known : (path : Bytes) (items : List Item) (symbols : List Symbol) (keys : List Loaded) → ((other : Symbol) → knows keys other ≡ is_loaded path items other)
    → new_symbols (knows keys) symbols ≡ new_symbols (is_loaded path items) symbols
all_known path items symbols keys h = ap (λ (test : Symbol → Bool). new_symbols test symbols) (fun_ext h)

pub loaded_alone : (path : Bytes) (items : List Item) (keys : List Loaded) (other : Symbol) → knows keys other ≡ (is_loaded path items other || knows [] other) → knows keys other ≡ is_loaded path items other
loaded_alone path items keys other h = h ∙ or_none (is_loaded path items other)

-- where there is no load from the path none is known
none_loads : (path : Bytes) (items : List Item) (other : Symbol) → NonePasses (is_load_from path) items → is_loaded path items other ≡ false
none_loads path [] other h = refl
none_loads path (item ∷ items) other h =
    ap (λ z. (z && list_any (loads_symbol other) (symbols_of item)) || is_loaded path items other) (h.all 0 item (omega arith))
    ∙ none_loads path items other (none_later (is_load_from path) item items h)

pub none_loaded : (path : Bytes) (items : List Item) (other : Symbol) → None ≡ position (is_load_from path) items → knows [] other ≡ is_loaded path items other
none_loaded path items other none = sym (none_loads path items other (none_passes (is_load_from path) items none))

-- one symbol more, by whether it is new
module _ (old new : List Loaded) (key : Loaded) (first : Symbol) (same : symbol_of_key key ≡ first)
    (known : (other : Symbol) → knows new other ≡ (is_symbol other (symbol_of_key key) || knows old other)) (rest : List Symbol) where
  pub next_known : false ≡ not (knows old (symbol_of_key key)) → new_symbols (knows new) rest ≡ new_symbols (knows old) (first ∷ rest)
  next_known h =
      let there : knows old first ≡ true = ap (knows old) (sym same) ∙ not-false (knows old (symbol_of_key key)) (sym h) in
      ap (λ (test : Symbol → Bool). new_symbols test rest)
      (fun_ext (λ other. known other ∙ sym (known_again old (symbol_of_key key) other (is_symbol other (symbol_of_key key)) refl (not-false (knows old (symbol_of_key key)) (sym h)))))
      ∙ sym (if_true (knows old first) _ _ there)

  pub next_new : true ≡ not (knows old (symbol_of_key key)) → first ∷ new_symbols (knows new) rest ≡ new_symbols (knows old) (first ∷ rest)
  next_new h =
      let apart : knows old first ≡ false = ap (knows old) (sym same) ∙ not-true (knows old (symbol_of_key key)) (sym h) in
      ap (λ (test : Symbol → Bool). first ∷ new_symbols test rest) (fun_ext known ∙ ap (λ symbol. and_symbol symbol (knows old)) same) ∙ sym (if_false (knows old first) _ _ apart)

-- ---- the names that are used

pub all_used : (names : BTreeSet (Vec ℕ Global)) (items : List Item) (i : ℕ) → length items ≤ i → ((text : Bytes) → (knows_name names text || is_used (drop i items) text) ≡ is_used items text)
    → knows_name names ≡ is_used items
all_used names items i past h = fun_ext (λ text. sym (or_none (knows_name names text)) ∙ (sym (at_drop_all (λ xs. knows_name names text || is_used xs text) items i past) ∙ h text))
