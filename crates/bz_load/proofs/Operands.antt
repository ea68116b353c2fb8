-- The operands of a form, by its kind, its parts and its items.
use Rattle.bz_load.proofs.Words.{[], ◌+◌, ◌||◌, ◌∙◌, ◌∷◌, ◌≡◌, AllByRecursion, ap, Bool, both, Bytes, end_of-Expr, eqb-true, Expr, false, Form', has_kind, has_operand, is_operand_at, items-the_row-Expr, items_of, Kind, length, List, more_of-Expr, operand_among, operand_from, operand_in, or_assoc, or_comm, parts_of, refl, Row_of-Expr, same_kind, sym, Token, true, true≢false, ℕ}
use Rattle.bz_value.specs.declared.value.Expr.TheVariants as e
use Rattle.bz_value.specs.declared.value.Form.{Form}
use Rattle.bz_attribute.proofs.MakingForms.{part_row, part_list, item_row, item_list}

abbrev pub operand_by : Bytes → Kind → List Expr → List Expr → Bool
operand_by text kind ps xs = operand_in kind text ps || operand_in kind text xs

row_answered : (kind : Kind) (count at : ℕ) (text : Bytes) (n : _) (r : Row_of-Expr n) → operand_from (is_operand_at kind count) at text r ≡ operand_among kind count at text (items-the_row-Expr n r)
row_answered kind count at text n end_of-Expr = refl
row_answered kind count at text n (more_of-Expr x rest) = ap (λ z. has_operand (is_operand_at kind count at) text x || z) (row_answered kind count (at + 1) text _ rest)

rows_answered : (text : Bytes) (kind : Kind) (n m : _) (ps : Row_of-Expr n) (xs : Row_of-Expr m)
    → (operand_from (is_operand_at kind (length (items-the_row-Expr n ps))) 0 text ps || operand_from (is_operand_at kind (length (items-the_row-Expr m xs))) 0 text xs)
    ≡ operand_by text kind (items-the_row-Expr n ps) (items-the_row-Expr m xs)
rows_answered text kind n m ps xs = both (λ y z. y || z) (row_answered kind (length (items-the_row-Expr n ps)) 0 text n ps) (row_answered kind (length (items-the_row-Expr m xs)) 0 text m xs)

pub form_operands : (f : Form) (named : Bool) (text : Bytes) → has_operand named text (e.Form f) ≡ operand_by text f.kind f.parts f.seq.items
form_operands f named text = rows_answered text f.kind _ _ (part_row (e.Form f)).1 (item_row (e.Form f)).1 ∙ both (operand_by text f.kind) (part_list f) (item_list f)

-- what is known after the parts and after the items
pub form_inserted : (f : Form) (named : Bool) (text : Bytes) (ps xs : List Expr) (old mid new : Bool) → ps ≡ f.parts → xs ≡ f.seq.items → mid ≡ (operand_in f.kind text ps || old) → new ≡ (operand_in f.kind text xs || mid)
    → new ≡ (has_operand named text (e.Form f) || old)
form_inserted f named text ps xs old mid new parts items h i =
    let a = ap (operand_in f.kind text) parts in
    let b = ap (operand_in f.kind text) items in
    rw (form_operands f named text, sym a, sym b, i, h) (sym (or_assoc (operand_in f.kind text xs) (operand_in f.kind text ps) old) ∙ ap (λ z. z || old) (or_comm (operand_in f.kind text xs) (operand_in f.kind text ps)))

pub operands_answered : (named : Bool) (text : Bytes) (kind : Kind) (x : Expr) → has_kind kind x ≡ true → has_operand named text x ≡ operand_by text kind (parts_of x) (items_of x)
operands_answered named text kind (Token t) h = absurd (true≢false (sym h))
operands_answered named text kind (Form' own s parts s' items end split open_break comments) h =
    rows_answered text own _ _ parts items ∙ ap (λ (by : Kind). operand_by text by (items-the_row-Expr _ parts) (items-the_row-Expr _ items)) (same_kind own kind (eqb-true _ _ h))

-- where none is an operand by itself, none is by its place
pub none_among : (kind : Kind) (count at : ℕ) (text : Bytes) (xs : List Expr) → AllByRecursion (λ x. (named : Bool) → has_operand named text x ≡ false) xs → operand_among kind count at text xs ≡ false
none_among kind count at text [] h = refl
none_among kind count at text (x ∷ xs) h = both (λ y z. y || z) (h.0 (is_operand_at kind count at)) (none_among kind count (at + 1) text xs h.1)
