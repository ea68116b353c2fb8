-- Where a trail matches a text, as the code looks.
use Rattle.bz_resume.proofs.Words.{[], ◌++◌, ◌∙◌, ◌≡◌, ap, arith, Bool, bytes_eq, drop, Edit, false, HasStood, IsTrail, length, List, Moves, Node, None, present_text, refl, slice_index_or, Some, spell_node, sym, take, take_at, Text, texts_length, texts_of, Trail, trail_at, true, ℕ}

shown_at : (t : Trail) (text : Text) (shown b : Bool) → IsTrail t → shown ≡ bytes_eq text (spell_node t.tree) → shown ≡ b → bytes_eq text (slice_index_or (texts_of t) t.cursor []) ≡ b
shown_at t text shown b trail is e = ap (bytes_eq text) (present_text t trail) ∙ sym is ∙ e

pub stands_here : (t : Trail) (before : ℕ) (text : Text) (shown : Bool) → IsTrail t → shown ≡ bytes_eq text (spell_node t.tree) → shown ≡ true → HasStood t before text t.tree t.steps (Some t.cursor)
stands_here t before text shown trail is good = (
  let e : bytes_eq text (slice_index_or (texts_of t) t.cursor []) ≡ true = shown_at t text shown true trail is good in rw e refl,
  record { trail = trail; texts = refl; small = λ h. h },
)

module _ (t : Trail) (before : ℕ) (text : Text) (first : Bool) (trail : IsTrail t) (is : first ≡ bytes_eq text (spell_node t.tree)) (bad : first ≡ false) (tree : Node) (steps : List (List Edit)) (moves : Moves t (trail_at tree steps before)) (shown : Bool) (shown_is : shown ≡ bytes_eq text (spell_node tree)) where
  there : (b : Bool) → shown ≡ b → bytes_eq text (slice_index_or (texts_of t) before []) ≡ b
  there b e = ap (λ (l : List Text). bytes_eq text (slice_index_or l before [])) (sym moves.texts) ∙ shown_at (trail_at tree steps before) text shown b moves.trail shown_is e

  pub stands_there : shown ≡ true → HasStood t before text tree steps (Some before)
  stands_there good = (
    let e : bytes_eq text (slice_index_or (texts_of t) t.cursor []) ≡ false = shown_at t text first false trail is bad in
        let f : bytes_eq text (slice_index_or (texts_of t) before []) ≡ true = there true good in
        rw (e, f) refl,
    moves,
  )

  pub stands_nowhere : shown ≡ false → HasStood t before text tree steps None
  stands_nowhere absent =
      let e : bytes_eq text (slice_index_or (texts_of t) t.cursor []) ≡ false = shown_at t text first false trail is bad in
      let f : bytes_eq text (slice_index_or (texts_of t) before []) ≡ false = there false absent in
      rw (e, f) refl

-- what is written back of a slice of all steps
pub written_back : (t : Trail) (tree : Node) (steps : List (List Edit)) (cursor : ℕ) → IsTrail t → Moves t (trail_at tree steps cursor) → take (length t.steps) (steps ++ drop (length steps) t.steps) ≡ steps
written_back t tree steps cursor trail moves =
    take_at steps (drop (length steps) t.steps) (length t.steps) (omega (arith, texts_length t trail, texts_length (trail_at tree steps cursor) moves.trail, ap length moves.texts))
