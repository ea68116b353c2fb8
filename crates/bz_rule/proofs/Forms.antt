-- A form as an expression, and back.
use Rattle.bz_rule.proofs.Words.{◌∙◌, ◌∷◌, ◌≡◌, ap, dotted_name, each_named, end_of-Expr, Expr, Form, Form', form_in, fronts, fronts_among, fronts_in_row, if◌then◌else◌, items-the_row-Expr, items_hidden-the_row-Expr-0, joined, Kind, Kind as k, kind_number, List, more_of-Expr, nat_eq, None, Option, refl, Row_of-Expr, Some, suc, with_names}
use mathlib.Core.Former.{Count}
use Rattle.bz_value.specs.declared.value.Expr.TheVariants as e

abbrev parts_after : Expr → (m : Count) × Row_of-Expr m
parts_after (Form' kind s parts s' items end split open_break comments) = (_, parts)
parts_after (e.Token t) = (_, end_of-Expr)

abbrev items_after : Expr → (m : Count) × Row_of-Expr m
items_after (Form' kind s parts s' items end split open_break comments) = (_, items)
items_after (e.Token t) = (_, end_of-Expr)

abbrev row_items : (m : Count) × Row_of-Expr m → List Expr
row_items r = items-the_row-Expr r.0 r.1

parts_are : (f : Form) → row_items (parts_after (e.Form f)) ≡ f.parts
parts_are f = items_hidden-the_row-Expr-0 f.parts

items_are : (f : Form) → row_items (items_after (e.Form f)) ≡ f.seq.items
items_are f = items_hidden-the_row-Expr-0 f.seq.items

abbrev found : Kind → Form → List Expr → List Expr → Option Form
found kind f parts items =
    if nat_eq (kind_number f.kind) (kind_number kind)
    then Some (record f { parts = parts; seq = record { items = items; end = f.seq.end; split = f.seq.split } })
    else None

pub form_in_Form : (kind : Kind) (f : Form) → form_in kind (e.Form f) ≡ (if nat_eq (kind_number f.kind) (kind_number kind) then Some f else None)
form_in_Form kind f =
    ap (λ parts. found kind f parts (row_items (items_after (e.Form f)))) (parts_are f)
    ∙ ap (λ items. found kind f f.parts items) (items_are f)

named_row : (m : _) (r : Row_of-Expr m) → with_names r ≡ each_named (items-the_row-Expr m r)
named_row m end_of-Expr = refl
named_row m (more_of-Expr x rest) = ap (λ t. (x, dotted_name x) ∷ t) (named_row _ rest)

pub dotted_name_Form : (f : Form) → dotted_name (e.Form f) ≡ (if nat_eq (kind_number f.kind) (kind_number k.Dot) then joined (each_named f.parts) else None)
dotted_name_Form f =
    ap (λ names. if nat_eq (kind_number f.kind) (kind_number k.Dot) then joined names else None)
    (named_row _ (parts_after (e.Form f)).1 ∙ ap each_named (parts_are f))

fronts_row : (m : _) (r : Row_of-Expr m) → fronts_in_row r ≡ fronts_among (items-the_row-Expr m r)
fronts_row m end_of-Expr = refl
fronts_row m (more_of-Expr x rest) = refl

pub fronts_Form : (f : Form) → fronts (e.Form f) ≡ suc (fronts_among f.parts)
fronts_Form f = ap suc (fronts_row _ (parts_after (e.Form f)).1 ∙ ap fronts_among (parts_are f))
