-- What a session holds: the tree of the present text, the steps between the texts, and a note of each.
use Rattle.std.specs.Prelude.{ℕ, ◌≡◌, ◌≤◌, List, length, refl, IsUtf8}
use Rattle.std.specs.List.{AllByRecursion}
use Rattle.std.specs.Coded.{Coded, code_by, coded×, coded_ℕ, coded_list}
use Rattle.bz_journal.specs.Words.{Bytes, Edit, IsNote, IsTrail, Node, Trail, Two, trail_at}
use Rattle.bz_journal.specs.History.{most_steps}

-- the tree of the present text, the steps between the texts, a note of each step, the path of the file's package, the number of the
-- present text, and that of the one that was present before it
pub record SessionState : Type 0 where
  pub tree : Node
  pub steps : List (List Edit)
  pub notes : List Bytes
  pub «package» : Bytes
  pub cursor : ℕ
  pub before : ℕ

abbrev pub state_code : Coded Node → Coded (List Edit) → Coded SessionState
state_code node edits =
    code_by (Node × (List (List Edit) × (List Bytes × (Bytes × (ℕ × ℕ)))))
    (coded× node (coded× (coded_list edits) (coded× (coded_list (coded_list coded_ℕ)) (coded× (coded_list coded_ℕ) (coded× coded_ℕ coded_ℕ)))))
    (λ s. (s.tree, (s.steps, (s.notes, (s.«package», (s.cursor, s.before))))))
    (λ p. record { tree = p.0; steps = p.1.0; notes = p.1.1.0; «package» = p.1.1.1.0; cursor = p.1.1.1.1.0; before = p.1.1.1.1.1 }) (λ _. refl)

-- the trail of its texts
abbrev pub session_trail : SessionState → Trail
session_trail s = trail_at s.tree s.steps s.cursor

-- The steps lead from text to text, each step has a note, path and notes are texts that fit a journal, and the numbers are within
-- their bounds.
pub record IsSession (s : SessionState) : Type 0 where
  pub trail : IsTrail (session_trail s)
  pub named : length s.«package» ≤ 65536
  pub spelled : IsUtf8 s.«package»
  pub noted : length s.notes ≡ length s.steps
  pub notes : AllByRecursion (IsNote Two) s.notes
  pub known : s.before ≤ length s.steps
  pub bounded : length s.steps ≤ most_steps
