-- Changes at one place of the nodes of one kind, and where the passes go: in the calls of rules, in attributes, in the lists of values. Changes
-- there keep what a pass leaves.
use Rattle.bz_passes.proofs.Words.{[], ◌∙◌, ◌∷◌, ◌≡◌, above, ap, by_case, by_test, Bytes, cases_Bool, Class as c, dotted_name, dotted_name_Form, each_with_flags, end_of-Expr, Expr, false, first_text, Form', frame, has_kind, HostComments, if◌then◌else◌, inl, inr, items-the_row-Expr, items_of, Kind, Kind as k, kind_number, List, map, more_of-Expr, nat_eq, None, of_rule, on_attribute, on_call, on_first, on_items, on_lists, on_row, on_rule_arguments, on_third, Option, parts_of, quotes_in, refl, Row_of-Expr, rule_kind, settled_split, Some, sym, Token, true, with_flags, with_items, with_parts}
use Rattle.bz_passes.proofs.Keeping.{Keeps, Settles, both, first_composed, maps_composed, test_composed, third_composed, map_keeps, map_settles, first_settles, first_keeps_map, map_keeps_first, third_settles, third_keeps_map, map_keeps_third, test_settles, keeps_tested, tested_keeps}
use Rattle.bz_passes.proofs.Parts.{Place, kind_flags, made, the_parts, the_items, text_flags, above_flags, parts_flags, parts_filled, parts_with_items}
use Rattle.bz_rule.specs.{Rules.text_in, Rules.dotted, Rules.joined, Rules.with_names, private.Named.each_named}
use Rattle.std.proofs.lemmas.Map.Views.{exact_unsigned_eq}

module _ (place : Place) where
  -- at `the_parts` it is `on_row`, at `the_items` it is `on_items`
  abbrev pub on_kind : Kind → (List Expr → List Expr) → Expr → Expr
  on_kind kind change x = if has_kind kind x then place.put (change (place.get x)) x else x

  -- a change which may look at the node
  abbrev pub within : Kind → (Expr → List Expr → List Expr) → Expr → Expr
  within kind c x = on_kind kind (c x) x

  at_kind : (kind : Kind) (g : List Expr → List Expr) (x : Expr) → has_kind kind x ≡ true → on_kind kind g x ≡ place.put (g (place.get x)) x
  at_kind kind g x h = rw h refl

  pub at_other : (kind : Kind) (g : List Expr → List Expr) (x : Expr) → has_kind kind x ≡ false → on_kind kind g x ≡ x
  at_other kind g x h = rw h refl

  at_again : (kind : Kind) (g : List Expr → List Expr) (ys : List Expr) (x : Expr) → has_kind kind x ≡ true → on_kind kind g (place.put ys x) ≡ place.put (g ys) x
  at_again kind g ys x h =
      at_kind kind g (place.put ys x) (place.same_kind kind ys x ∙ h)
      ∙ (ap (λ zs. place.put (g zs) (place.put ys x)) (place.filled kind ys x h) ∙ place.twice (g ys) ys x)

  -- two changes of which the first is not seen by the second
  pub within_composed : (kind : Kind) (c d whole : Expr → List Expr → List Expr) → ((x : Expr) → has_kind kind x ≡ true → d (place.put (c x (place.get x)) x) ≡ d x)
      → ((x : Expr) (ys : List Expr) → d x (c x ys) ≡ whole x ys) → (x : Expr) → within kind d (within kind c x) ≡ within kind whole x
  within_composed kind c d whole steady h x = elim (cases_Bool (has_kind kind x)) [
    | inl t ↦ ap (within kind d) (at_kind kind (c x) x t)
        ∙ (ap (λ g. on_kind kind g (place.put (c x (place.get x)) x)) (steady x t)
        ∙ (at_again kind (d x) (c x (place.get x)) x t ∙ (ap (λ ys. place.put ys x) (h x (place.get x)) ∙ sym (at_kind kind (whole x) x t))))
    | inr f ↦ ap (within kind d) (at_other kind (c x) x f) ∙ (at_other kind (d x) x f ∙ sym (at_other kind (whole x) x f))
  ]

  left : (kind : Kind) (g : List Expr → List Expr) (x : Expr) → has_kind kind x ≡ true → on_kind kind g x ≡ x → g (place.get x) ≡ place.get x
  left kind g x h e = sym (place.filled kind (g (place.get x)) x h) ∙ ap place.get (sym (at_kind kind g x h) ∙ e)

  pub kind_within : (k l : Kind) (g : List Expr → List Expr) (x : Expr) → has_kind l (on_kind k g x) ≡ has_kind l x
  kind_within k l g x = by_test (λ y. has_kind l y ≡ has_kind l x) (has_kind k x) (place.put (g (place.get x)) x) x (place.same_kind l (g (place.get x)) x) refl

  pub above_put : (ys : List Expr) (x : Expr) → above (place.put ys x) ≡ above x
  above_put ys x = ap (λ (them : HostComments). them.before) (place.same_comments ys x)

  -- the one change after the other does nothing, where it does nothing at the place, and nothing where the kind is another
  stays_within : (kind : Kind) (c d : Expr → List Expr → List Expr) → ((x : Expr) → has_kind kind x ≡ true → d (place.put (c x (place.get x)) x) ≡ d x) → (x : Expr)
      → (has_kind kind x ≡ true → d x (c x (place.get x)) ≡ c x (place.get x)) → (has_kind kind x ≡ false → within kind d x ≡ x) → within kind d (within kind c x) ≡ within kind c x
  stays_within kind c d steady x there =
      by_case (λ y. within kind d y ≡ y) (has_kind kind x) (place.put (c x (place.get x)) x) x
      (λ t. ap (λ g. on_kind kind g (place.put (c x (place.get x)) x)) (steady x t) ∙ (at_again kind (d x) (c x (place.get x)) x t ∙ ap (λ ys. place.put ys x) (there t)))

  pub within_settles : (kind : Kind) (d : Expr → List Expr → List Expr) → ((x : Expr) → has_kind kind x ≡ true → d (place.put (d x (place.get x)) x) ≡ d x) → ((x : Expr) → Settles (d x)) → Settles (within kind d)
  within_settles kind d steady h x = stays_within kind d d steady x (λ t. h x (place.get x)) (at_other kind (d x) x)

  pub within_quoted : (kind : Kind) (c : Expr → List Expr → List Expr) → ((x : Expr) → Keeps (c x) (map quotes_in)) → Keeps (within kind c) quotes_in
  within_quoted kind c h x e =
      by_test (λ y. quotes_in y ≡ y) (has_kind kind x) (place.put (c x (place.get x)) x) x
      (place.quotes_put (c x (place.get x)) x ∙ both place.put (h x (place.get x) (sym (place.quotes x) ∙ ap place.get e)) e) e

  pub flags_within : (kind : Kind) (d : Expr → List Expr → List Expr) → ((x : Expr) → d (with_flags x) ≡ d x) → ((x : Expr) → Keeps (map with_flags) (d x)) → Keeps with_flags (within kind d)
  flags_within kind d steady h x e =
      by_case (λ y. y ≡ with_flags x) (has_kind kind (with_flags x)) (place.put (d (with_flags x) (place.get (with_flags x))) (with_flags x)) (with_flags x)
      (λ t. ap (λ ys. place.put ys (with_flags x))
      (both (λ g ys. g ys) (steady x) (place.flags x) ∙ (h x (place.get x) (left kind (d x) x (sym (kind_flags kind x) ∙ t) e) ∙ sym (place.flags x)))
      ∙ place.own (with_flags x))
      (λ f. refl)

-- at another kind nothing happens, at whichever place
pub within_other : (one two : Place) (kind other : Kind) → ((x : Expr) → has_kind kind x ≡ true → has_kind other x ≡ false) → (c d : Expr → List Expr → List Expr) → Keeps (within one kind c) (within two other d)
within_other one two kind other differ c d x e =
    by_case (λ y. within two other d y ≡ y) (has_kind kind x) (one.put (c x (one.get x)) x) x
    (λ t. at_other two other (d (one.put (c x (one.get x)) x)) (one.put (c x (one.get x)) x) (one.same_kind other (c x (one.get x)) x ∙ differ x t)) (λ f. e)

same_text : (x : Expr) → text_in c.Name (with_flags x) ≡ text_in c.Name x
same_text (Token t) = refl
same_text (Form' kind s parts s' items end split open_break comments) = refl

mutual
  same_name : (x : Expr) → dotted_name (with_flags x) ≡ dotted_name x
  same_name (Token t) = refl
  same_name (Form' kind s parts s' items end split open_break comments) =
      dotted_name_Form (made kind (each_with_flags parts) (each_with_flags items) end (settled_split (frame kind) kind split (items-the_row-Expr _ items) end) open_break comments)
      ∙ ap (λ z. if nat_eq (kind_number kind) (kind_number k.Dot) then z else None) (same_joined _ parts)

  same_joined : (m : _) (r : Row_of-Expr m) → joined (each_named (each_with_flags r)) ≡ joined (with_names r)
  same_joined m end_of-Expr = refl
  same_joined m (more_of-Expr x end_of-Expr) = refl
  same_joined m (more_of-Expr x (more_of-Expr y end_of-Expr)) = refl
  same_joined m (more_of-Expr x (more_of-Expr y (more_of-Expr z end_of-Expr))) = both dotted (same_name x) (same_text z)
  same_joined m (more_of-Expr x (more_of-Expr y (more_of-Expr z (more_of-Expr v rest)))) = refl

pub same_kind : (xs : List Expr) → rule_kind (map with_flags xs) ≡ rule_kind xs
same_kind [] = refl
same_kind (x ∷ []) = same_name x
same_kind (x ∷ y ∷ xs) = refl

-- ---- two kinds

pub differ : (a b : Kind) → nat_eq (kind_number a) (kind_number b) ≡ false → (x : Expr) → has_kind a x ≡ true → has_kind b x ≡ false
differ a b d (Token t) h = refl
differ a b d (Form' own s parts s' items end split open_break comments) h = ap (λ n. nat_eq n (kind_number b)) (exact_unsigned_eq (kind_number own) (kind_number a) h) ∙ d

-- ---- in the calls of rules

abbrev called : (Bytes → List Expr → List Expr) → Expr → List Expr → List Expr
called g x = of_rule g (rule_kind (parts_of x))

of_settles : (p : Bytes → List Expr → List Expr) → ((kind : Bytes) → Settles (p kind)) → (o : Option Bytes) → Settles (of_rule p o)
of_settles p h None xs = refl
of_settles p h (Some kind) xs = h kind xs

of_keeps_map : (g : Bytes → List Expr → List Expr) (q : Expr → Expr) → ((kind : Bytes) → Keeps (g kind) (map q)) → (o : Option Bytes) → Keeps (of_rule g o) (map q)
of_keeps_map g q h None xs e = e
of_keeps_map g q h (Some kind) xs e = h kind xs e

map_keeps_of : (q : Expr → Expr) (p : Bytes → List Expr → List Expr) → ((kind : Bytes) → Keeps (map q) (p kind)) → (o : Option Bytes) → Keeps (map q) (of_rule p o)
map_keeps_of q p h None xs e = refl
map_keeps_of q p h (Some kind) xs e = h kind xs e

same_call : (p : Bytes → List Expr → List Expr) (ys : List Expr) (x : Expr) → called p (with_items ys x) ≡ called p x
same_call p ys x = ap (λ zs. of_rule p (rule_kind zs)) (parts_with_items ys x)

call_settles : (p : Bytes → List Expr → List Expr) → ((kind : Bytes) → Settles (p kind)) → Settles (on_call p)
call_settles p h = within_settles the_items k.Call (called p) (λ x t. same_call p (called p x (items_of x)) x) (λ x. of_settles p h (rule_kind (parts_of x)))

call_quoted : (g : Bytes → List Expr → List Expr) → ((kind : Bytes) → Keeps (g kind) (map quotes_in)) → Keeps (on_call g) quotes_in
call_quoted g h = within_quoted the_items k.Call (called g) (λ x. of_keeps_map g quotes_in h (rule_kind (parts_of x)))

call_flags : (p : Bytes → List Expr → List Expr) → ((kind : Bytes) → Keeps (map with_flags) (p kind)) → Keeps with_flags (on_call p)
call_flags p h = flags_within the_items k.Call (called p) (λ x. ap (of_rule p) (ap rule_kind (parts_flags x) ∙ same_kind (parts_of x))) (λ x. map_keeps_of with_flags p h (rule_kind (parts_of x)))

pub rule_settles : (p : Bytes → List Expr → List Expr) → ((kind : Bytes) → Settles (p kind)) → Settles (on_rule_arguments p)
rule_settles p h = within_settles the_parts k.Bare (λ x. on_first (on_call p)) (λ x t. refl) (λ x. first_settles (on_call p) (call_settles p h))

pub rule_quoted : (g : Bytes → List Expr → List Expr) → ((kind : Bytes) → Keeps (g kind) (map quotes_in)) → Keeps (on_rule_arguments g) quotes_in
rule_quoted g h = within_quoted the_parts k.Bare (λ x. on_first (on_call g)) (λ x. first_keeps_map (on_call g) quotes_in (call_quoted g h))

pub rule_flags : (p : Bytes → List Expr → List Expr) → ((kind : Bytes) → Keeps (map with_flags) (p kind)) → Keeps with_flags (on_rule_arguments p)
rule_flags p h = flags_within the_parts k.Bare (λ x. on_first (on_call p)) (λ x. refl) (λ x. map_keeps_first with_flags (on_call p) (call_flags p h))

of_composed : (c d e : Bytes → List Expr → List Expr) → ((kind : Bytes) (xs : List Expr) → d kind (c kind xs) ≡ e kind xs) → (o : Option Bytes) (xs : List Expr) → of_rule d o (of_rule c o xs) ≡ of_rule e o xs
of_composed c d e h None xs = refl
of_composed c d e h (Some kind) xs = h kind xs

pub rule_composed : (c d e : Bytes → List Expr → List Expr) → ((kind : Bytes) (xs : List Expr) → d kind (c kind xs) ≡ e kind xs) → (x : Expr) → on_rule_arguments d (on_rule_arguments c x) ≡ on_rule_arguments e x
rule_composed c d e h =
    within_composed the_parts k.Bare (λ x. on_first (on_call c)) (λ x. on_first (on_call d)) (λ x. on_first (on_call e)) (λ x t. refl) (λ x. first_composed (on_call c) (on_call d) (on_call e)
    (within_composed the_items k.Call (called c) (called d) (called e) (λ y t. same_call d (called c y (items_of y)) y) (λ y. of_composed c d e h (rule_kind (parts_of y)))))

-- ---- in attributes

abbrev pub Change : Type 0
Change = Bytes → List Bytes → Expr → Expr

abbrev valued : Change → Expr → List Expr → List Expr
valued g x = on_third (g (first_text (parts_of x)) (above x))

first_kept : (f : Expr → Expr) (xs : List Expr) → first_text (on_third f xs) ≡ first_text xs
first_kept f [] = refl
first_kept f (x ∷ []) = refl
first_kept f (x ∷ y ∷ []) = refl
first_kept f (x ∷ y ∷ z ∷ zs) = refl

same_value : (g p : Change) (x : Expr) → has_kind k.Named x ≡ true → valued p (with_parts (valued g x (parts_of x)) x) ≡ valued p x
same_value g p x t =
    both (λ n a. on_third (p n a))
    (ap first_text (parts_filled k.Named (valued g x (parts_of x)) x t) ∙ first_kept (g (first_text (parts_of x)) (above x)) (parts_of x))
    (above_put the_parts (valued g x (parts_of x)) x)

pub attribute_settles : (p : Change) → ((n : Bytes) (a : List Bytes) → Settles (p n a)) → Settles (on_attribute p)
attribute_settles p h = within_settles the_parts k.Named (valued p) (same_value p p) (λ x. third_settles _ (h (first_text (parts_of x)) (above x)))

pub attribute_quoted : (g : Change) → ((n : Bytes) (a : List Bytes) → Keeps (g n a) quotes_in) → Keeps (on_attribute g) quotes_in
attribute_quoted g h = within_quoted the_parts k.Named (valued g) (λ x. third_keeps_map _ quotes_in (h (first_text (parts_of x)) (above x)))

pub attribute_composed : (c d e : Change) → ((n : Bytes) (a : List Bytes) (x : Expr) → d n a (c n a x) ≡ e n a x) → (x : Expr) → on_attribute d (on_attribute c x) ≡ on_attribute e x
attribute_composed c d e h = within_composed the_parts k.Named (valued c) (valued d) (valued e) (same_value c d) (λ x. third_composed _ _ _ (h (first_text (parts_of x)) (above x)))

pub first_flags : (xs : List Expr) → first_text (map with_flags xs) ≡ first_text xs
first_flags [] = refl
first_flags (x ∷ xs) = text_flags x

pub first_part_flags : (x : Expr) → first_text (parts_of (with_flags x)) ≡ first_text (parts_of x)
first_part_flags x = ap first_text (parts_flags x) ∙ first_flags (parts_of x)

pub attribute_flags : (p : Change) → ((n : Bytes) (a : List Bytes) → Keeps with_flags (p n a)) → Keeps with_flags (on_attribute p)
attribute_flags p h = flags_within the_parts k.Named (valued p) (λ x. both (λ n a. on_third (p n a)) (first_part_flags x) (above_flags x)) (λ x. map_keeps_third with_flags _ (h (first_text (parts_of x)) (above x)))

-- ---- in the lists of a value

one_list_settles : (p : List Expr → List Expr) → Settles p → Settles (on_items k.List p)
one_list_settles p h = within_settles the_items k.List (λ x. p) (λ x t. refl) (λ x. h)

one_list_quoted : (g : List Expr → List Expr) → Keeps g (map quotes_in) → Keeps (on_items k.List g) quotes_in
one_list_quoted g h = within_quoted the_items k.List (λ x. g) (λ x. h)

one_list_flags : (p : List Expr → List Expr) → Keeps (map with_flags) p → Keeps with_flags (on_items k.List p)
one_list_flags p h = flags_within the_items k.List (λ x. p) (λ x. refl) (λ x. h)

pub lists_composed : (f g : List Expr → List Expr) (x : Expr) → on_lists g (on_lists f x) ≡ on_lists (λ xs. g (f xs)) x
lists_composed f g =
    let one : (x : Expr) → on_items k.List g (on_items k.List f x) ≡ on_items k.List (λ xs. g (f xs)) x =
    within_composed the_items k.List (λ x. f) (λ x. g) (λ x xs. g (f xs)) (λ x t. refl) (λ x xs. refl) in
    test_composed (has_kind k.Sum) (on_row k.Sum (map (on_items k.List f))) (on_items k.List f) (on_row k.Sum (map (on_items k.List g))) (on_items k.List g)
    (on_row k.Sum (map (on_items k.List (λ xs. g (f xs))))) (on_items k.List (λ xs. g (f xs)))
    (kind_within the_parts k.Sum k.Sum (map (on_items k.List f))) (kind_within the_items k.List k.Sum f)
    (within_composed the_parts k.Sum (λ x. map (on_items k.List f)) (λ x. map (on_items k.List g)) (λ x. map (on_items k.List (λ xs. g (f xs)))) (λ x t. refl) (λ x. maps_composed _ _ _ one)) one

pub lists_settle : (p : List Expr → List Expr) → Settles p → Settles (on_lists p)
lists_settle p h =
    test_settles (has_kind k.Sum) (on_row k.Sum (map (on_items k.List p))) (on_items k.List p)
    (kind_within the_parts k.Sum k.Sum (map (on_items k.List p))) (kind_within the_items k.List k.Sum p)
    (within_settles the_parts k.Sum (λ x. map (on_items k.List p)) (λ x t. refl) (λ x. map_settles _ (one_list_settles p h)))
    (one_list_settles p h)

pub lists_quoted : (g : List Expr → List Expr) → Keeps g (map quotes_in) → Keeps (on_lists g) quotes_in
lists_quoted g h =
    tested_keeps (has_kind k.Sum) (on_row k.Sum (map (on_items k.List g))) (on_items k.List g) quotes_in
    (within_quoted the_parts k.Sum (λ x. map (on_items k.List g)) (λ x. map_keeps _ _ (one_list_quoted g h)))
    (one_list_quoted g h)

pub lists_flags : (p : List Expr → List Expr) → Keeps (map with_flags) p → Keeps with_flags (on_lists p)
lists_flags p h =
    keeps_tested (has_kind k.Sum) with_flags (on_row k.Sum (map (on_items k.List p))) (on_items k.List p) (kind_flags k.Sum)
    (flags_within the_parts k.Sum (λ x. map (on_items k.List p)) (λ x. refl) (λ x. map_keeps _ _ (one_list_flags p h)))
    (one_list_flags p h)
