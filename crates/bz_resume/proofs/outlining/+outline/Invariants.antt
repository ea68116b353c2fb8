use Rattle.bz_resume.proofs.Words.{◌++◌, ◌∷◌, ◌≡◌, flat_map, outline_part, take}
use Rattle.bz_resume.proofs.outlining.+outline.Given as goal

abbrev pub invariant-push_all-loop-part : goal.invariant-push_all-loop-part
invariant-push_all-loop-part l = l.out.items ≡ l.fn.out.items ++ flat_map (λ x. 1 ∷ outline_part x) (take l.part-index l.parts)
