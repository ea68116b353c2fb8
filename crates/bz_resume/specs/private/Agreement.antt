-- What is tested of a record: step by step, and on the whole.
use Rattle.std.specs.Prelude.{ℕ, ◌≡◌, ◌+◌, ◌≤◌, IsTrue, nat_lt, List, [], ◌∷◌, map, length, reverse, take, drop, slice_index_or, Option, Some, None, if◌then◌else◌}
use Rattle.std.specs.List.{list_all}
use Rattle.std.specs.Str.{bytes_eq}
use Rattle.bz_resume.specs.Words.{sha256, Node, Reads, spell_node, depth_limit, Edit, IsStep, swap_node, StepLeads, IsTrail, Trail, trail_at, Moves, Text, texts_of, RecordedStep, Record}
use Rattle.bz_resume.specs.declared.replaying.Way.{Way}
use Rattle.bz_resume.specs.declared.replaying.Way.TheVariants as w
use Rattle.bz_resume.specs.declared.resumed.Resumed.{Resumed}

abbrev pub edits_of : List RecordedStep → List (List Edit)
edits_of = map (λ t. t.edits)

abbrev pub notes_of : List RecordedStep → List Text
notes_of = map (λ t. t.note)

-- the edits make a step, of which no path is as long as a tree is deep
abbrev pub MayLead : List Edit → Type 0
MayLead es = IsStep es × IsTrue (list_all (λ e. nat_lt (length e.path) depth_limit) es)

-- the step leads to a text with this digest
abbrev pub StepAgrees : List Edit → Node → Text → Type 0
StepAgrees e n d = StepLeads e n × (sha256 (spell_node (swap_node e n)) ≡ d)

-- the steps in the order in which they are taken this way
abbrev pub as_taken : {A : Type 0} → Way → List A → List A
as_taken w.On xs = xs
as_taken w.Back xs = reverse xs

-- each step leads on from the tree that those before it lead to, to a text with its digest
abbrev pub StepsAgree : Node → List (List Edit) → List Text → Type 0
StepsAgree n [] [] = Unit {0}
StepsAgree n (e ∷ es) (d ∷ ds) = StepAgrees e n d × StepsAgree (swap_node e n) es ds
StepsAgree n _ _ = ⊥

-- the trail of a record's steps from a tree
abbrev pub recorded_trail : Record → Node → Trail
recorded_trail r n = trail_at n (edits_of r.steps) r.cursor

-- the record's steps are a trail from the tree, to texts with the record's digests
abbrev pub RecordAgrees : Record → Node → Type 0
RecordAgrees r n = IsTrail (recorded_trail r n) × (map sha256 (texts_of (recorded_trail r n)) ≡ r.digests)

-- the text of the record reads as no tree of which that is so
abbrev pub NoneAgrees : Record → Type 0
NoneAgrees r = (n : Node) → Reads r.text n → RecordAgrees r n → ⊥

-- the same by the two sides: the digest of the text, of those before, and of those after it
abbrev pub StepsAgreeAround : Node → ℕ → List (List Edit) → List Text → Type 0
StepsAgreeAround n cursor es ds =
    (sha256 (spell_node n) ≡ slice_index_or ds cursor []) × StepsAgree n (reverse (take cursor es)) (reverse (take cursor ds)) × StepsAgree n (drop cursor es) (drop (cursor + 1) ds)

-- there is a text more than steps, and the cursors are among them
abbrev pub IsCounted : Record → Type 0
IsCounted r = (r.cursor ≤ length r.steps) × (r.before ≤ length r.steps) × (length r.digests ≡ length r.steps + 1)

-- what a record says, at its cursor
pub record IsOpened (r : Record) (s : Resumed) : Type 0 where
  pub package_is : s.package ≡ r.package
  pub steps : s.steps ≡ edits_of r.steps
  pub digests : s.digests ≡ r.digests
  pub notes : s.notes ≡ notes_of r.steps
  pub cursor : s.cursor ≡ r.cursor
  pub reads : Reads r.text s.tree
  pub agrees : RecordAgrees r s.tree

-- where texts match another one: at the cursor, else at the cursor before, else nowhere
abbrev pub standing_place : List Text → ℕ → ℕ → Text → Option ℕ
standing_place texts cursor before text =
    if bytes_eq text (slice_index_or texts cursor []) then Some cursor else (if bytes_eq text (slice_index_or texts before []) then Some before else None)

-- a trail is where its texts match a text, or they match it nowhere
abbrev pub HasStood : Trail → ℕ → Text → Node → List (List Edit) → Option ℕ → Type 0
HasStood t before text tree steps (Some cursor) = (standing_place (texts_of t) t.cursor before text ≡ Some cursor) × Moves t (trail_at tree steps cursor)
HasStood t before text tree steps None = standing_place (texts_of t) t.cursor before text ≡ None
