use Rattle.bz_passes.proofs.Words.{[], ◌++◌, ◌∙◌, ◌∷◌, ◌≡◌, ap, Expr as Value, false, has_no_comment, length, List, refl, repeats_at, rules, text_of, tied_places, true, ℕ}
use Rattle.bz_passes.proofs.Dropping.{turn_new, turn_old, turn_dropped, turned}
use Rattle.bz_passes.proofs.repeats.keep.Goals as goal
use Rattle.bz_passes.proofs.repeats.keep.Goals.{then-not-stands+in_ok-push, else-not-stands+else-has_no_comment}

pub returns : goal.returns
returns c = λ all rest k.
    let kept : List Value = c.args.kept.now.items in
    let places : List ℕ = tied_places kept c.args.x c.args.places.now.items in
    let a : c.push-2.new.self.items ≡ kept ++ c.args.x ∷ [] = search rules in
    elim c.if-not-stands.branch [
      | then-not-stands+in_ok-push w ↦
          let f : repeats_at kept places (text_of c.args.x) ≡ false = search rules in
          let b : w.push.new.self.items ≡ places ++ length kept ∷ [] = search rules in
          turned all _ _ _ _ rest a (ap (λ ps. ps.items) w.places-is ∙ b) (turn_new all kept c.args.places.now.items rest c.args.x f k)
      | else-not-stands+else-has_no_comment w ↦
          let t : repeats_at kept places (text_of c.args.x) ≡ true = search rules in
          let f : has_no_comment c.args.x ≡ false = search rules in
          let b : c.begin_tie.new.places.items ≡ places = search rules in
          turned all _ _ _ _ rest a (ap (λ ps. ps.items) w.places-is ∙ b) (turn_old all kept c.args.places.now.items rest c.args.x t f k)
    ]

pub returns-then-has_no_comment : goal.returns-then-has_no_comment
returns-then-has_no_comment c = λ all rest k.
    let kept : List Value = c.args.kept.now.items in
    let places : List ℕ = tied_places kept c.args.x c.args.places.now.items in
    let t : repeats_at kept places (text_of c.args.x) ≡ true = search rules in
    let h : has_no_comment c.args.x ≡ true = search rules in
    let b : c.begin_tie.new.places.items ≡ places = search rules in
    turned all kept kept _ _ rest refl b (turn_dropped all kept c.args.places.now.items rest c.args.x t h k)
