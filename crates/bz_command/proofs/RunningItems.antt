-- What commands make of the items of a file, item by item.
use Rattle.bz_command.proofs.Words.{[], ◌++◌, ◌<◌, ◌↔◌, ◌∙◌, ◌∷◌, ◌≡◌, ◌≤◌, ap, append_assoc, arith, Bool, Err, IfOk, IfSome, is_some, IsTrue, Item, Item as i, length, List, list_any, None, Ok, OnOk, Option, position, refl, Refusal, Result, Some, sym, with_item_first, ℕ}
use Rattle.std.proofs.lemmas.List.Folds.{list_any_at, list_any_none}
use Rattle.bz_attribute.proofs.ArgumentPlaces.{is_first, none_passes}

-- ---- the place of a rule

pub rule_within : (test : Item → Bool) (items : List Item) (place : Option ℕ) → place ≡ position test items → IfSome place (λ at. at < length items)
rule_within test items None is = tt
rule_within test items (Some at) is = (is_first test items at (i.Block []) is).within

-- whether one passes, by the place of the first that does
pub any_by_place : (test : Item → Bool) (items : List Item) (place : Option ℕ) → place ≡ position test items → is_some place ≡ list_any test items
any_by_place test items None none = sym (list_any_none test items (none_passes test items none).all)
any_by_place test items (Some at) is =
    let first = is_first test items at (i.Block []) is in
    sym (list_any_at test items at (i.Block []) first.within (first.passes (i.Block [])))

pub at_most : (place : Option ℕ) (count : ℕ) → IfSome place (λ at. at < count) → IfSome place (λ at. at ≤ count)
at_most None count within = tt
at_most (Some at) count within = omega (arith, within)

-- ---- the meant rules

abbrev pub NewItems : Type 0
NewItems = Result (List Item) Refusal

-- what is made, after what is made already
abbrev pub with_front : List Item → NewItems → NewItems
with_front front (Err refusal) = Err refusal
with_front front (Ok items) = Ok (front ++ items)

pub with_next : (front : List Item) (new : Item) (rest : NewItems) → with_front front (with_item_first (Ok new) rest) ≡ with_front (front ++ new ∷ []) rest
with_next front new (Err refusal) = refl
with_next front new (Ok items) = ap Ok (sym (append_assoc front (new ∷ []) items))

-- ---- whether what is made is what was there, by the value that is made

module _ {X : Type 0} (answer : Result Bool Refusal) (made : Result X Refusal) (before after : X) where
  equal_made : ◌≡◌ {A = Result X Refusal} (Ok after) (Ok before) → after ≡ before
  equal_made e = cc

  pub same_made : OnOk answer (made ≡ Ok after) → IfOk answer (λ same. IsTrue same ↔ (after ≡ before)) → IfOk answer (λ same. IsTrue same ↔ (made ≡ Ok before))
  same_made = by answer
    where
      by : (answer : Result Bool Refusal) → OnOk answer (made ≡ Ok after) → IfOk answer (λ same. IsTrue same ↔ (after ≡ before)) → IfOk answer (λ same. IsTrue same ↔ (made ≡ Ok before))
      by (Ok same) ok is = (λ t. ok ∙ ap Ok (is.0 t), λ e. is.1 (equal_made (sym ok ∙ e)))
      by (Err refusal) ok is = tt

  pub same_after : OnOk answer (made ≡ Ok after) → IfOk answer (λ same. IsTrue same ↔ (made ≡ Ok before)) → IfOk answer (λ same. IsTrue same ↔ (after ≡ before))
  same_after = by answer
    where
      by : (answer : Result Bool Refusal) → OnOk answer (made ≡ Ok after) → IfOk answer (λ same. IsTrue same ↔ (made ≡ Ok before)) → IfOk answer (λ same. IsTrue same ↔ (after ≡ before))
      by (Ok same) ok is = (λ t. equal_made (sym ok ∙ is.0 t), λ e. is.1 (ok ∙ ap Ok e))
      by (Err refusal) ok is = tt
