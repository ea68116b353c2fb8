-- What is printed, piece by piece: texts with a space between two of them, values by their forms, and names joined by dots.
use Rattle.bz_command.proofs.Words.{[], ◌&&◌, ◌++◌, ◌+◌, ◌<◌, ◌∙◌, ◌∷◌, ◌≡◌, ap, append-nil, body_of, Bool, Bytes, dotted_name, drop, drop_more, each_named, Expr, false, Field, Form, get_or, has_kind, if◌then◌else◌, in_brackets, is_string, Item, items_of, joined, Kind as k, length, List, list_all, map, nat_eq, None, Option, option_map_or, printed_body, printed_field, printed_value, refl, Rule, Some, space_between, spaced, sym, true, ℕ}
use Rattle.bz_grammar.specs.Kinds.{kind_number}
use Rattle.bz_value.specs.declared.value.Expr.TheVariants as e
use Rattle.bz_layout.specs.Written as written
use Rattle.bz_rule.proofs.Forms.{dotted_name_Form}

-- ---- texts with a space between two of them

module _ {X : Type 0} (text : X → Bytes) where
  spaced_first : (x : X) (xs : List X) → spaced (map text (x ∷ xs)) ≡ text x ++ (space_between xs ++ spaced (map text xs))
  spaced_first x [] = sym (append-nil (text x))
  spaced_first x (y ∷ ys) = refl

  spaced_next : (xs : List X) (k : ℕ) (d : X) → k < length xs →
      spaced (map text (drop k xs)) ≡ text (get_or xs k d) ++ (space_between (drop (k + 1) xs) ++ spaced (map text (drop (k + 1) xs)))
  spaced_next xs k d h = ap (λ ys. spaced (map text ys)) (drop_more xs k d h) ∙ spaced_first (get_or xs k d) (drop (k + 1) xs)

pub bodies_next : (xs : List Expr) (k : ℕ) (d : Expr) → k < length xs →
    spaced (map printed_body (drop k xs)) ≡ printed_body (get_or xs k d) ++ (space_between (drop (k + 1) xs) ++ spaced (map printed_body (drop (k + 1) xs)))
bodies_next = spaced_next printed_body

pub fields_next : (current : Bytes) (line : Option Bytes) (item : Item) (rule : Rule) (xs : List Field) (k : ℕ) (d : Field) → k < length xs →
    spaced (map (printed_field current line item rule) (drop k xs)) ≡
    printed_field current line item rule (get_or xs k d) ++ (space_between (drop (k + 1) xs) ++ spaced (map (printed_field current line item rule) (drop (k + 1) xs)))
fields_next current line item rule = spaced_next (printed_field current line item rule)

-- ---- what values print

abbrev by_body : Expr → Option Bytes → Bytes
by_body x body = option_map_or (λ text. text) body (if has_kind k.List x && list_all is_string (items_of x) then in_brackets (map printed_body (items_of x)) else written.text_of x 0)

abbrev by_strings : Expr → Bool → Bytes
by_strings x all = if all then in_brackets (map printed_body (items_of x)) else written.text_of x 0

pub string_printed : (x : Expr) (body : Bytes) → body_of x ≡ Some body → printed_value x ≡ body
string_printed x body h = ap (by_body x) h

pub strings_printed : (x : Expr) → body_of x ≡ None → has_kind k.List x ≡ true → list_all is_string (items_of x) ≡ true → printed_value x ≡ in_brackets (map printed_body (items_of x))
strings_printed x h list all = ap (by_body x) h ∙ (ap (λ b. by_strings x (b && list_all is_string (items_of x))) list ∙ ap (by_strings x) all)

pub layout_printed : (x : Expr) → body_of x ≡ None → (has_kind k.List x && list_all is_string (items_of x)) ≡ false → printed_value x ≡ written.text_of x 0
layout_printed x h none = ap (by_body x) h ∙ ap (by_strings x) none

-- ---- names joined by dots

pub dotted_Form : (f : Form) → dotted_name (e.Form f) ≡ (if nat_eq (kind_number f.kind) (kind_number k.Dot) then joined (each_named f.parts) else None)
dotted_Form f = dotted_name_Form f
