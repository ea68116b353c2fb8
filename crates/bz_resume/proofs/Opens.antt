-- A record opened, as the code has it.
use Rattle.bz_resume.proofs.Words.{◌∙◌, ◌≡◌, ◌≤◌, AllByRecursion, Edit, edits_of, IsCounted, IsOpened, IsTree, length, limit, List, MayLead, Node, NoneAgrees, notes_of, Reads, Record, RecordAgrees, recorded_trail, refl, StepsAgreeAround, subst, sym, Text, ℕ}
use Rattle.bz_resume.proofs.{Around.to_whole, Around.from_whole, Paths.may_lead, Paths.trail_all}

pub split_none : (r : Record) → (AllByRecursion MayLead (edits_of r.steps) → ⊥) → NoneAgrees r
split_none r none n reads agrees = none (trail_all MayLead may_lead (recorded_trail r n) agrees.0)

around_same : (n : Node) (cursor : ℕ) (es fs : List (List Edit)) (ds gs : List Text) → es ≡ fs → ds ≡ gs → StepsAgreeAround n cursor es ds → StepsAgreeAround n cursor fs gs
around_same n cursor es fs ds gs e d h = subst (λ l. StepsAgreeAround n cursor l gs) e (subst (λ l. StepsAgreeAround n cursor es l) d h)

pub record HasOpened (r : Record) (tree : Node) : Type 0 where
  pub reads : Reads r.text tree
  pub agrees : RecordAgrees r tree

module _ (r : Record) (text : Text) (steps es : List (List Edit)) (ds : List Text) (counted : IsCounted r) (text_is : text ≡ r.text) (steps_are : steps ≡ edits_of r.steps) (same : es ≡ steps) (digests_are : ds ≡ r.digests) where
  pub opens_none : ((n : Node) → Reads text n → StepsAgreeAround n r.cursor es ds → ⊥) → NoneAgrees r
  opens_none none n reads h =
      none n (subst (λ (s : Text). Reads s n) (sym text_is) reads)
      (around_same n r.cursor (edits_of r.steps) es r.digests ds (sym (same ∙ steps_are)) (sym digests_are) (from_whole r n counted h))

  pub opens : (tree : Node) → Reads text tree → StepsAgreeAround tree r.cursor es ds → HasOpened r tree
  opens tree own agrees =
      let read : Reads r.text tree = subst (λ (s : Text). Reads s tree) text_is own in
      let is_tree : IsTree tree = (read.0, subst (λ (s : Text). length s ≤ limit) (sym read.1) read.2) in
      record { reads = read; agrees = to_whole r tree is_tree counted (around_same tree r.cursor es (edits_of r.steps) ds r.digests (same ∙ steps_are) digests_are agrees) }

pub is_opened : (r : Record) (tree : Node) (steps : List (List Edit)) (notes : List Text) → HasOpened r tree → steps ≡ edits_of r.steps → notes ≡ notes_of r.steps
    → IsOpened r (record { «package» = r.package; tree = tree; steps = steps; digests = r.digests; notes = notes; cursor = r.cursor })
is_opened r tree steps notes h steps_are notes_are = record {
  package_is = refl;
  steps = steps_are;
  digests = refl;
  notes = notes_are;
  cursor = refl;
  reads = h.reads;
  agrees = h.agrees;
}
