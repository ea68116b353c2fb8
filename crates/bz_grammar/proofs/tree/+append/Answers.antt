use Rattle.bz_grammar.proofs.Words.{◌++◌, ◌∙◌, ◌≡◌, ap, Err, length, Ok, OnErr, Result, spell_part, subst, take}
use Rattle.bz_grammar.proofs.{Spells.front_of_front, Statements.text_more}
use Rattle.bz_grammar.proofs.tree.+append.Goals as goal

at_err : {T E P : Type 0} (r : Result T E) → P → OnErr r P
at_err (Ok x) h = tt
at_err (Err x) h = h

pub append_all-loop-part-preserved : goal.append_all-loop-part-preserved
append_all-loop-part-preserved t c =
    c.in_ok-append_to.ensures.ok ∙ (ap (λ text. text ++ spell_part c.part-item.result) c.loop-part.invariant ∙ text_more c.args.out.now.items c.args.parts.now c.loop-part.part-index c.part-item.result c.loop-part-test.true c.part-item.is)

pub append_all-returns-in_err-append_to-clause-err : goal.append_all-returns-in_err-append_to-clause-err
append_all-returns-in_err-append_to-clause-err t c =
    at_err c.from_residual.result (front_of_front c.args.out.now.items _ c.append_to.new.out.items (subst (λ text. take (length text) c.append_to.new.out.items ≡ text) c.loop-part.invariant c.in_err-append_to.ensures.err))
