-- Reading what was changed: the parts of expressions, by lists; and what the definitions make of a form, said of its lists.
use Rattle.bz_passes.proofs.Words.{[], ◌∙◌, ◌∷◌, ◌≡◌, above, ap, Bool, Bytes, Class, comments_of, each_on_strings, each_with_flags, end_of-Expr, Expr, Form, Form', Frame, frame, fronts, fronts_among, fronts_Form, has_brackets, has_class, has_kind, if◌then◌else◌, is_broken, items-the_row-Expr, items_hidden-the_row-Expr-0, items_of, Kind, Kind as k, List, map, more_of-Expr, parts_of, quotes_in, refl, Row_of-Expr, sequence, settled_split, suc, sym, text_of, Token, true, true≢false, with_above, with_double, with_flags, with_items, with_parts}
use mathlib.Core.Former.{Count}
use Rattle.bz_value.specs.declared.value.Expr.TheVariants as e
pub use Rattle.bz_rule.proofs.Opened.{made, own_parts, own_items}
use Rattle.bz_passes.proofs.Keeping.{both}

-- ---- the rows of a form

abbrev pub parts_after : Expr → (m : Count) × Row_of-Expr m
parts_after (Form' kind s parts s' items end split open_break comments) = (_, parts)
parts_after (Token t) = (_, end_of-Expr)

abbrev pub items_after : Expr → (m : Count) × Row_of-Expr m
items_after (Form' kind s parts s' items end split open_break comments) = (_, items)
items_after (Token t) = (_, end_of-Expr)

abbrev pub row_items : (m : Count) × Row_of-Expr m → List Expr
row_items r = items-the_row-Expr r.0 r.1

pub parts_are : (f : Form) → row_items (parts_after (e.Form f)) ≡ f.parts
parts_are f = items_hidden-the_row-Expr-0 f.parts

pub items_are : (f : Form) → row_items (items_after (e.Form f)) ≡ f.seq.items
items_are f = items_hidden-the_row-Expr-0 f.seq.items

-- ---- with settled flags

pub flags_row : (m : _) (r : Row_of-Expr m) → each_with_flags r ≡ map with_flags (items-the_row-Expr m r)
flags_row m end_of-Expr = refl
flags_row m (more_of-Expr x rest) = ap (λ z. with_flags x ∷ z) (flags_row _ rest)

pub flags_Form : (f : Form) → with_flags (e.Form f) ≡ e.Form (made f.kind (map with_flags f.parts) (map with_flags f.seq.items) f.seq.end (settled_split (frame f.kind) f.kind f.seq.split f.seq.items f.seq.end) f.open_break f.comments)
flags_Form f =
    ap (λ z. e.Form (made f.kind (each_with_flags (parts_after (e.Form f)).1) (each_with_flags (items_after (e.Form f)).1) f.seq.end (settled_split (frame f.kind) f.kind f.seq.split z f.seq.end) f.open_break f.comments)) (items_are f)
    ∙ both (λ p i. e.Form (made f.kind p i f.seq.end (settled_split (frame f.kind) f.kind f.seq.split f.seq.items f.seq.end) f.open_break f.comments))
    (flags_row _ (parts_after (e.Form f)).1 ∙ ap (map with_flags) (parts_are f))
    (flags_row _ (items_after (e.Form f)).1 ∙ ap (map with_flags) (items_are f))

pub kind_flags : (kind : Kind) (x : Expr) → has_kind kind (with_flags x) ≡ has_kind kind x
kind_flags kind (Token t) = refl
kind_flags kind (Form' own s parts s' items end split open_break comments) = refl

pub class_flags : (class : Class) (x : Expr) → has_class class (with_flags x) ≡ has_class class x
class_flags class (Token t) = refl
class_flags class (Form' own s parts s' items end split open_break comments) = refl

pub text_flags : (x : Expr) → text_of (with_flags x) ≡ text_of x
text_flags (Token t) = refl
text_flags (Form' own s parts s' items end split open_break comments) = refl

pub comments_flags : (x : Expr) → comments_of (with_flags x) ≡ comments_of x
comments_flags (Token t) = refl
comments_flags (Form' own s parts s' items end split open_break comments) = refl

pub above_flags : (x : Expr) → above (with_flags x) ≡ above x
above_flags (Token t) = refl
above_flags (Form' own s parts s' items end split open_break comments) = refl

pub under_flags : (lines : List Bytes) (x : Expr) → with_above lines (with_flags x) ≡ with_flags (with_above lines x)
under_flags lines (Token t) = refl
under_flags lines (Form' own s parts s' items end split open_break comments) = refl

-- ---- with double quote marks

pub quoted_row : (m : _) (r : Row_of-Expr m) → each_on_strings with_double r ≡ map quotes_in (items-the_row-Expr m r)
quoted_row m end_of-Expr = refl
quoted_row m (more_of-Expr x rest) = ap (λ z. quotes_in x ∷ z) (quoted_row _ rest)

pub quoted_Form : (f : Form) → quotes_in (e.Form f) ≡ e.Form (made f.kind (map quotes_in f.parts) (map quotes_in f.seq.items) f.seq.end f.seq.split f.open_break f.comments)
quoted_Form f =
    both (λ p i. e.Form (made f.kind p i f.seq.end f.seq.split f.open_break f.comments))
    (quoted_row _ (parts_after (e.Form f)).1 ∙ ap (map quotes_in) (parts_are f))
    (quoted_row _ (items_after (e.Form f)).1 ∙ ap (map quotes_in) (items_are f))

pub kind_quoted : (kind : Kind) (x : Expr) → has_kind kind (quotes_in x) ≡ has_kind kind x
kind_quoted kind (Token t) = refl
kind_quoted kind (Form' own s parts s' items end split open_break comments) = refl

pub above_quoted : (x : Expr) → above (quotes_in x) ≡ above x
above_quoted (Token t) = refl
above_quoted (Form' own s parts s' items end split open_break comments) = refl

pub under_quoted : (lines : List Bytes) (x : Expr) → quotes_in (with_above lines x) ≡ with_above lines (quotes_in x)
under_quoted lines (Token t) = refl
under_quoted lines (Form' own s parts s' items end split open_break comments) = refl

-- ---- the two places where expressions are in an expression

-- a place: how it is read and filled, and what is not seen of that
pub record Place : Type 0 where
  pub get : Expr → List Expr
  pub put : List Expr → Expr → Expr
  pub same_kind : (kind : Kind) (xs : List Expr) (x : Expr) → has_kind kind (put xs x) ≡ has_kind kind x
  pub same_comments : (xs : List Expr) (x : Expr) → comments_of (put xs x) ≡ comments_of x
  pub filled : (kind : Kind) (xs : List Expr) (x : Expr) → has_kind kind x ≡ true → get (put xs x) ≡ xs
  pub twice : (ys xs : List Expr) (x : Expr) → put ys (put xs x) ≡ put ys x
  pub own : (x : Expr) → put (get x) x ≡ x
  pub flags : (x : Expr) → get (with_flags x) ≡ map with_flags (get x)
  pub quotes : (x : Expr) → get (quotes_in x) ≡ map quotes_in (get x)
  pub quotes_put : (xs : List Expr) (x : Expr) → quotes_in (put xs x) ≡ put (map quotes_in xs) (quotes_in x)

pub parts_kind : (kind : Kind) (xs : List Expr) (x : Expr) → has_kind kind (with_parts xs x) ≡ has_kind kind x
parts_kind kind xs (Token t) = refl
parts_kind kind xs (Form' own s parts s' items end split open_break comments) = refl

pub parts_comments : (xs : List Expr) (x : Expr) → comments_of (with_parts xs x) ≡ comments_of x
parts_comments xs (Token t) = refl
parts_comments xs (Form' own s parts s' items end split open_break comments) = refl

pub parts_filled : (kind : Kind) (xs : List Expr) (x : Expr) → has_kind kind x ≡ true → parts_of (with_parts xs x) ≡ xs
parts_filled kind xs (Token t) h = absurd (true≢false (sym h))
parts_filled kind xs (Form' own s parts s' items end split open_break comments) h = items_hidden-the_row-Expr-0 xs

pub parts_twice : (ys xs : List Expr) (x : Expr) → with_parts ys (with_parts xs x) ≡ with_parts ys x
parts_twice ys xs (Token t) = refl
parts_twice ys xs (Form' own s parts s' items end split open_break comments) =
    ap (λ i. e.Form (made own ys i end split open_break comments)) (items_hidden-the_row-Expr-0 (items-the_row-Expr _ items))

pub parts_flags : (x : Expr) → parts_of (with_flags x) ≡ map with_flags (parts_of x)
parts_flags (Token t) = refl
parts_flags (Form' own s parts s' items end split open_break comments) = items_hidden-the_row-Expr-0 (each_with_flags parts) ∙ flags_row _ parts

pub parts_quoted : (x : Expr) → parts_of (quotes_in x) ≡ map quotes_in (parts_of x)
parts_quoted (Token t) = refl
parts_quoted (Form' own s parts s' items end split open_break comments) = items_hidden-the_row-Expr-0 (each_on_strings with_double parts) ∙ quoted_row _ parts

pub quoted_parts : (xs : List Expr) (x : Expr) → quotes_in (with_parts xs x) ≡ with_parts (map quotes_in xs) (quotes_in x)
quoted_parts xs (Token t) = refl
quoted_parts xs (Form' own s parts s' items end split open_break comments) =
    quoted_Form (made own xs (items-the_row-Expr _ items) end split open_break comments)
    ∙ ap (λ i. e.Form (made own (map quotes_in xs) i end split open_break comments)) (sym (quoted_row _ items) ∙ sym (items_hidden-the_row-Expr-0 (each_on_strings with_double items)))

-- the row of a node, or what is before the bracket of a sequence
abbrev pub the_parts : Place
the_parts = record {
  get = parts_of;
  put = with_parts;
  same_kind = parts_kind;
  same_comments = parts_comments;
  filled = parts_filled;
  twice = parts_twice;
  own = own_parts;
  flags = parts_flags;
  quotes = parts_quoted;
  quotes_put = quoted_parts;
}

pub items_kind : (kind : Kind) (xs : List Expr) (x : Expr) → has_kind kind (with_items xs x) ≡ has_kind kind x
items_kind kind xs (Token t) = refl
items_kind kind xs (Form' own s parts s' items end split open_break comments) = refl

pub items_comments : (xs : List Expr) (x : Expr) → comments_of (with_items xs x) ≡ comments_of x
items_comments xs (Token t) = refl
items_comments xs (Form' own s parts s' items end split open_break comments) = refl

pub items_filled : (kind : Kind) (xs : List Expr) (x : Expr) → has_kind kind x ≡ true → items_of (with_items xs x) ≡ xs
items_filled kind xs (Token t) h = absurd (true≢false (sym h))
items_filled kind xs (Form' own s parts s' items end split open_break comments) h = items_hidden-the_row-Expr-0 xs

pub items_twice : (ys xs : List Expr) (x : Expr) → with_items ys (with_items xs x) ≡ with_items ys x
items_twice ys xs (Token t) = refl
items_twice ys xs (Form' own s parts s' items end split open_break comments) =
    ap (λ p. e.Form (made own p ys end split open_break comments)) (items_hidden-the_row-Expr-0 (items-the_row-Expr _ parts))

pub items_flags : (x : Expr) → items_of (with_flags x) ≡ map with_flags (items_of x)
items_flags (Token t) = refl
items_flags (Form' own s parts s' items end split open_break comments) = items_hidden-the_row-Expr-0 (each_with_flags items) ∙ flags_row _ items

pub items_quoted : (x : Expr) → items_of (quotes_in x) ≡ map quotes_in (items_of x)
items_quoted (Token t) = refl
items_quoted (Form' own s parts s' items end split open_break comments) = items_hidden-the_row-Expr-0 (each_on_strings with_double items) ∙ quoted_row _ items

pub quoted_items : (xs : List Expr) (x : Expr) → quotes_in (with_items xs x) ≡ with_items (map quotes_in xs) (quotes_in x)
quoted_items xs (Token t) = refl
quoted_items xs (Form' own s parts s' items end split open_break comments) =
    quoted_Form (made own (items-the_row-Expr _ parts) xs end split open_break comments)
    ∙ ap (λ p. e.Form (made own p (map quotes_in xs) end split open_break comments)) (sym (quoted_row _ parts) ∙ sym (items_hidden-the_row-Expr-0 (each_on_strings with_double parts)))

-- the items of a sequence
abbrev pub the_items : Place
the_items = record {
  get = items_of;
  put = with_items;
  same_kind = items_kind;
  same_comments = items_comments;
  filled = items_filled;
  twice = items_twice;
  own = own_items;
  flags = items_flags;
  quotes = items_quoted;
  quotes_put = quoted_items;
}

-- other items are after the same parts
pub parts_with_items : (xs : List Expr) (x : Expr) → parts_of (with_items xs x) ≡ parts_of x
parts_with_items xs (Token t) = refl
parts_with_items xs (Form' own s parts s' items end split open_break comments) = items_hidden-the_row-Expr-0 (items-the_row-Expr _ parts)

-- ---- other lists in a form

abbrev pub in_form : Form → List Expr → List Expr → Bool → Expr
in_form f parts items split = e.Form (record { kind = f.kind; parts = parts; seq = record { items = items; end = f.seq.end; split = split }; open_break = f.open_break; comments = f.comments })

-- ---- flags of a form, by its kind

split_of : (f : Frame) (kind : Kind) (split : Bool) (items : List Expr) (end : List Bytes) → settled_split f kind split items end ≡ (if has_brackets f then is_broken kind split items end else split)
split_of (sequence opener closer) kind split items end = refl
split_of _ kind split items end = refl

pub split_by_kind : (kind : Kind) (split : Bool) (items : List Expr) (end : List Bytes) → settled_split (frame kind) kind split items end ≡ (if has_brackets (frame kind) then is_broken kind split items end else split)
split_by_kind kind = split_of (frame kind) kind

-- ---- what stays

pub quoted_stays : (f : Form) → map quotes_in f.parts ≡ f.parts → f.seq.items ≡ [] → quotes_in (e.Form f) ≡ e.Form f
quoted_stays f parts items =
    quoted_Form f
    ∙ ap (λ (ps : List Expr). in_form f ps (map quotes_in f.seq.items) f.seq.split) parts
    ∙ ap (λ (xs : List Expr). in_form f f.parts xs f.seq.split) (ap (map quotes_in) items ∙ sym items)

split_stays : (kind : Kind) (split : Bool) (items : List Expr) (end : List Bytes) → kind ≡ k.Dot → settled_split (frame kind) kind split items end ≡ split
split_stays kind split items end is = ap (λ (own : Kind). settled_split (frame own) own split items end) is

pub flags_stay : (f : Form) → f.kind ≡ k.Dot → map with_flags f.parts ≡ f.parts → f.seq.items ≡ [] → with_flags (e.Form f) ≡ e.Form f
flags_stay f kind parts items =
    flags_Form f
    ∙ ap (λ (ps : List Expr). in_form f ps (map with_flags f.seq.items) (settled_split (frame f.kind) f.kind f.seq.split f.seq.items f.seq.end)) parts
    ∙ ap (λ (xs : List Expr). in_form f f.parts xs (settled_split (frame f.kind) f.kind f.seq.split f.seq.items f.seq.end)) (ap (map with_flags) items ∙ sym items)
    ∙ ap (λ (split : Bool). in_form f f.parts f.seq.items split) (split_stays f.kind f.seq.split f.seq.items f.seq.end kind)

pub fronts_of_Form : (f : Form) → fronts (e.Form f) ≡ suc (fronts_among f.parts)
fronts_of_Form = fronts_Form
