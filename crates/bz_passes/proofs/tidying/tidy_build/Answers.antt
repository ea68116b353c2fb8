use Rattle.bz_passes.proofs.Words.{◌∙◌, IsProper, Item, List, passed, subst, sym, whole_grammar}
use Rattle.bz_passes.proofs.{Cases.build_passed, Cases.made_again, Cases.made_comments, Cases.made_program, Cases.made_settled, Cases.passed_stays_proper, EachChanged.put_back, Pieces.passed_length}
use Rattle.bz_passes.proofs.tidying.tidy_build.Goals as goal

pub invariant_of-result : goal.invariant_of-result
invariant_of-result c =
    let made = put_back passed c.args.file _ _ _ (passed_length c.args.file) c.in_ok-tidy_items.ensures c.as_mut_slice.ensures.value c.file.view_is in
    subst (λ (items : List Item). IsProper items) (sym made) (passed_stays_proper whole_grammar c.args.file c.requires (subst (λ (items : List Item). IsProper items) c.file.view_is c.file.invariant))

pub returns-clause-tidied : goal.returns-clause-tidied
returns-clause-tidied c = put_back passed c.args.file _ _ _ (passed_length c.args.file) c.in_ok-tidy_items.ensures c.as_mut_slice.ensures.value c.file.view_is ∙ sym (build_passed c.args.file c.requires)

pub returns-clause-settled : goal.returns-clause-settled
returns-clause-settled c = made_settled c.args.file _ (returns-clause-tidied c)

pub returns-clause-again : goal.returns-clause-again
returns-clause-again c = made_again c.args.file _ (returns-clause-tidied c)

pub returns-clause-comments : goal.returns-clause-comments
returns-clause-comments c = made_comments _ _ (returns-clause-tidied c)

pub returns-clause-program : goal.returns-clause-program
returns-clause-program c = made_program _ _ (returns-clause-tidied c)
