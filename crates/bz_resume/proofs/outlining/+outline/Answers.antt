use Rattle.bz_resume.proofs.Words.{[], ◌++◌, ◌∙◌, ◌∷◌, ap, on_ok_weaker, outline_list, outline_part}
use Rattle.bz_resume.proofs.Outlined.{node_pushed}
use Rattle.bz_resume.proofs.outlining.+outline.Goals as goal

pub push_part-returns-in_ok-extend_from_slice-in-Node : goal.push_part-returns-in_ok-extend_from_slice-in-Node
push_part-returns-in_ok-extend_from_slice-in-Node t c =
    on_ok_weaker c.push_all.result (λ h. node_pushed c.args.out.now.items c.extend_from_slice.new.self.items c.push_all.new.out.items c.args.part.now c.in-Node.node c.in-Node.is
    (c.in_ok-extend_from_slice-in-Node.ensures.items ∙ ap (λ k. c.args.out.now.items ++ 2 ∷ k ∷ []) c.number.ensures) (h ∙ ap (λ k. c.extend_from_slice.new.self.items ++ outline_list outline_part k) c.as_slice.ensures)) c.push_all.ensures
