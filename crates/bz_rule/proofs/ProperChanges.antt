-- Changes of rows, of items and of lists, each by what may be in an expression's place.
use Rattle.bz_rule.proofs.Words.{[], ◌∷◌, ◌≡◌, Bool, Bytes, Class, Class as c, Expr, Expr as e, false, Form', frame, Grammar, has_class, has_kind, HostComments, if◌then◌else◌, is_class, is_compound, IsString, IsUtf8, items-the_row-Expr, items_of, Kind, Kind as k, List, map, on_first, on_items, on_lists, on_row, on_third, parts_of, refl, sym, text_of, Token, true, true≢false, with_items, with_parts, with_text}
use Rattle.bz_rule.proofs.ProperForms.{InPlace, itself, EachInPlace, none, both, all_itself, each_mapped, IsPlain, kind_plain, lists_in_place}
use Rattle.bz_rule.proofs.ProperShapes.{other_string}
use Rattle.bz_rule.proofs.ProperSequences.{where_true}

pub by_test : {X : Type 0} (P : X → Type 0) (b : Bool) (x y : X) → P x → P y → P (if b then x else y)
by_test P true x y h i = h
by_test P false x y h i = i

pub by_case : {X : Type 0} (P : X → Type 0) (b : Bool) (x y : X) → (b ≡ true → P x) → (b ≡ false → P y) → P (if b then x else y)
by_case P true x y h i = h refl
by_case P false x y h i = i refl

-- a string that is a text of characters
abbrev pub Strung : Bytes → Type 0
Strung t = IsString t × IsUtf8 t

-- ---- rows and items

module _ (grammar : Grammar) where
  abbrev pub Stays : (Expr → Expr) → Type 0
  Stays change = (x : Expr) → InPlace grammar x (change x)

  abbrev pub EachStays : (List Expr → List Expr) → Type 0
  EachStays change = (xs : List Expr) → EachInPlace grammar xs (change xs)

  pub changed_parts : (ps : List Expr) (x : Expr) → IsPlain grammar x → EachInPlace grammar (parts_of x) ps → InPlace grammar x (with_parts ps x)
  changed_parts ps (Token t) plain w = itself grammar (Token t)
  changed_parts ps (Form' kind s parts s' items end split open_break comments) plain w =
      lists_in_place grammar ps (items-the_row-Expr _ items) (Form' kind s parts s' items end split open_break comments) plain w (all_itself grammar (items-the_row-Expr _ items))

  pub changed_items : (xs : List Expr) (x : Expr) → IsPlain grammar x → EachInPlace grammar (items_of x) xs → InPlace grammar x (with_items xs x)
  changed_items xs (Token t) plain w = itself grammar (Token t)
  changed_items xs (Form' kind s parts s' items end split open_break comments) plain w =
      lists_in_place grammar (items-the_row-Expr _ parts) xs (Form' kind s parts s' items end split open_break comments) plain (all_itself grammar (items-the_row-Expr _ parts)) w

  pub row_stays : (kind : Kind) → is_compound (frame kind) ≡ false → (change : List Expr → List Expr) → EachStays change → Stays (on_row kind change)
  row_stays kind plain change h x = where_true grammar (has_kind kind x) x (with_parts (change (parts_of x)) x) (λ is. changed_parts (change (parts_of x)) x (λ here w. kind_plain kind plain x is) (h (parts_of x)))

  pub items_stay : (kind : Kind) → is_compound (frame kind) ≡ false → (change : List Expr → List Expr) → EachStays change → Stays (on_items kind change)
  items_stay kind plain change h x = where_true grammar (has_kind kind x) x (with_items (change (items_of x)) x) (λ is. changed_items (change (items_of x)) x (λ here w. kind_plain kind plain x is) (h (items_of x)))

  pub first_stays : (change : Expr → Expr) → Stays change → EachStays (on_first change)
  first_stays change h [] = none
  first_stays change h (x ∷ xs) = both x (change x) xs xs (h x) (all_itself grammar xs)

  pub third_stays : (change : Expr → Expr) → Stays change → EachStays (on_third change)
  third_stays change h [] = none
  third_stays change h (x ∷ []) = all_itself grammar (x ∷ [])
  third_stays change h (x ∷ y ∷ []) = all_itself grammar (x ∷ y ∷ [])
  third_stays change h (x ∷ y ∷ z ∷ rest) = both x x _ _ (itself grammar x) (both y y _ _ (itself grammar y) (both z (change z) rest rest (h z) (all_itself grammar rest)))

  pub lists_stay : (change : List Expr → List Expr) → Stays (on_items k.List change) → Stays (on_lists change)
  lists_stay change h x =
      by_test (InPlace grammar x) (has_kind k.Sum x) (on_row k.Sum (map (on_items k.List change)) x) (on_items k.List change x)
      (row_stays k.Sum refl (map (on_items k.List change)) (each_mapped grammar (on_items k.List change) h) x) (h x)

  -- ---- strings

  token_in_place : (class : Class) (old new : Bytes) (line_break : Bool) (comments : HostComments) → is_class class c.String ≡ true → (Strung old → Strung new)
      → InPlace grammar (e.Token (record { class = class; text = old; line_break = line_break; comments = comments })) (e.Token (record { class = class; text = new; line_break = line_break; comments = comments }))
  token_in_place c.String old new line_break comments is h = record {
    proper = λ here g. h g;
    roots = other_string old new;
    comments = refl;
    breaks = refl;
    operator = refl;
    following = λ outer here. refl;
    statement = λ here g. refl;
  }
  token_in_place _ old new line_break comments is h = absurd (true≢false (sym is))

  pub string_in_place : (new : Bytes) (x : Expr) → has_class c.String x ≡ true → (Strung (text_of x) → Strung new) → InPlace grammar x (with_text new x)
  string_in_place new (Token t) is h = token_in_place t.class t.text new t.line_break t.comments is h
  string_in_place new (Form' kind s parts s' items end split open_break comments) is h = absurd (true≢false (sym is))
