-- The passes on single expressions: double quote marks everywhere, a shorter label, settled flags.
use Rattle.bz_passes.proofs.Words.{[], ◌&&◌, ◌||◌, ◌∙◌, ◌∷◌, ◌≡◌, ap, Bool, Bytes, cases_Bool, Class as c, each_on_strings, each_with_flags, end_of-Expr, Expr, flags, Form', Frame, frame, HostComments, inl, inr, is_class, is_empty, is_none, Item as i, item_with_flags, items-the_row-Expr, items_of, Kind, labelled, length, length-map, List, map, more_of-Expr, nat_le, not, parts_of, quotes_in, refl, Row_of-Expr, sequence, settled_split, sym, text_of, Token, with_above, with_double, with_flags}
use Rattle.bz_value.specs.declared.value.Expr.TheVariants as e
use Rattle.bz_layout.specs.Layout.{has_comments, has_named, is_listed, is_call}
use Rattle.bz_layout.proofs.Flagged.{same_named, settled}
use Rattle.bz_passes.proofs.Keeping.{Keeps, Settles, both, map_settles, same_after, same_first}
use Rattle.bz_passes.proofs.Parts.{made, flags_row, flags_Form, quoted_Form, parts_quoted, items_quoted, comments_flags}
use Rattle.bz_passes.proofs.Strung.{double_settles, string_settles, string_keeps}

-- ---- labels

pub labelled_settles : Settles labelled
labelled_settles (Token t) = elim (cases_Bool (is_class t.class c.String)) [
  | inl w ↦ rw (w, w) (ap (λ z. e.Token (record t { text = z })) (string_settles t.text))
  | inr w ↦ rw (w, w) refl
]
labelled_settles (Form' kind s parts s' items end split open_break comments) = refl

pub flags_keep_labelled : Keeps with_flags labelled
flags_keep_labelled (Token t) h = h
flags_keep_labelled (Form' kind s parts s' items end split open_break comments) h = refl

pub under_labelled : (lines : List Bytes) (x : Expr) → labelled (with_above lines x) ≡ with_above lines (labelled x)
under_labelled lines (Token t) = elim (cases_Bool (is_class t.class c.String)) [
  | inl w ↦ rw w refl
  | inr w ↦ rw w refl
]
under_labelled lines (Form' kind s parts s' items end split open_break comments) = refl

pub labelled_keeps_quoted : Keeps labelled quotes_in
labelled_keeps_quoted (Token t) h = elim (cases_Bool (is_class t.class c.String)) [
  | inl w ↦
      let h' : e.Token (record t { text = with_double t.text }) ≡ e.Token t = rw w at h in
      rw (w, w) (ap (λ z. e.Token (record t { text = z })) (string_keeps t.text (ap text_of h')))
  | inr w ↦ rw w h
]
labelled_keeps_quoted (Form' kind s parts s' items end split open_break comments) h = h

-- ---- double quote marks everywhere

mutual
  pub quoted_settles : Settles quotes_in
  quoted_settles (Token t) = elim (cases_Bool (is_class t.class c.String)) [
    | inl w ↦ rw w (ap (λ z. e.Token (record t { text = z })) (double_settles t.text))
    | inr w ↦ rw w refl
  ]
  quoted_settles (Form' kind s parts s' items end split open_break comments) =
      quoted_Form (made kind (each_on_strings with_double parts) (each_on_strings with_double items) end split open_break comments)
      ∙ both (λ p i. e.Form (made kind p i end split open_break comments)) (row_settles _ parts) (row_settles _ items)

  row_settles : (m : _) (r : Row_of-Expr m) → map quotes_in (each_on_strings with_double r) ≡ each_on_strings with_double r
  row_settles m end_of-Expr = refl
  row_settles m (more_of-Expr x rest) = both (λ z zs. z ∷ zs) (quoted_settles x) (row_settles _ rest)

-- ---- flags

same_empty : (xs : List Expr) → is_empty (map with_flags xs) ≡ is_empty xs
same_empty [] = refl
same_empty (x ∷ xs) = refl

same_comments : (xs : List Expr) → has_comments (map with_flags xs) ≡ has_comments xs
same_comments [] = refl
same_comments (x ∷ xs) = both (λ a b. a || b) (ap (λ (them : HostComments). not (is_empty them.before && is_none them.suffix)) (comments_flags x)) (same_comments xs)

same_has_named : (xs : List Expr) → has_named (map with_flags xs) ≡ has_named xs
same_has_named [] = refl
same_has_named (x ∷ xs) = both (λ a b. a || b) (same_named x) (same_has_named xs)

pub same_split : (f : Frame) (kind : Kind) (split : Bool) (xs : List Expr) (end : List Bytes) → settled_split f kind (settled_split f kind split xs end) (map with_flags xs) end ≡ settled_split f kind split xs end
same_split (sequence opener closer) kind split xs end =
    rw (same_comments xs, length-map xs with_flags, same_has_named xs, same_empty xs)
    (settled (has_comments xs) (not (is_empty end)) (nat_le 2 (length xs) && (is_listed kind || (is_call kind && has_named xs))) split (not (is_empty xs)))
same_split _ kind split xs end = refl

mutual
  pub flags_settle : Settles with_flags
  flags_settle (Token t) = refl
  flags_settle (Form' kind s parts s' items end split open_break comments) =
      let flag : Bool = settled_split (frame kind) kind split (items-the_row-Expr _ items) end in
      flags_Form (made kind (each_with_flags parts) (each_with_flags items) end flag open_break comments)
      ∙ (ap (λ z. e.Form (made kind (map with_flags (each_with_flags parts)) (map with_flags (each_with_flags items)) end z open_break comments))
      (ap (λ z. settled_split (frame kind) kind flag z end) (flags_row _ items) ∙ same_split (frame kind) kind split (items-the_row-Expr _ items) end)
      ∙ both (λ p i. e.Form (made kind p i end flag open_break comments)) (row_settle _ parts) (row_settle _ items))

  row_settle : (m : _) (r : Row_of-Expr m) → map with_flags (each_with_flags r) ≡ each_with_flags r
  row_settle m end_of-Expr = refl
  row_settle m (more_of-Expr x rest) = both (λ z zs. z ∷ zs) (flags_settle x) (row_settle _ rest)

item_settles : Settles item_with_flags
item_settles (i.Block lines) = refl
item_settles (i.Stmt x) = ap i.Stmt (flags_settle x)

pub flags_settled : Settles flags
flags_settled = map_settles item_with_flags item_settles

mutual
  pub flags_keep_quoted : Keeps with_flags quotes_in
  flags_keep_quoted (Token t) h = h
  flags_keep_quoted (Form' kind s parts s' items end split open_break comments) h =
      let flag : Bool = settled_split (frame kind) kind split (items-the_row-Expr _ items) end in
      quoted_Form (made kind (each_with_flags parts) (each_with_flags items) end flag open_break comments)
      ∙ both (λ p i. e.Form (made kind p i end flag open_break comments))
      (row_keep _ parts (sym (parts_quoted (Form' kind s parts s' items end split open_break comments)) ∙ ap parts_of h))
      (row_keep _ items (sym (items_quoted (Form' kind s parts s' items end split open_break comments)) ∙ ap items_of h))

  row_keep : (m : _) (r : Row_of-Expr m) → map quotes_in (items-the_row-Expr m r) ≡ items-the_row-Expr m r → map quotes_in (each_with_flags r) ≡ each_with_flags r
  row_keep m end_of-Expr h = refl
  row_keep m (more_of-Expr x rest) h = both (λ z zs. z ∷ zs) (flags_keep_quoted x (same_first (quotes_in x) x (map quotes_in (items-the_row-Expr _ rest)) (items-the_row-Expr _ rest) h)) (row_keep _ rest (same_after (quotes_in x) x (map quotes_in (items-the_row-Expr _ rest)) (items-the_row-Expr _ rest) h))
