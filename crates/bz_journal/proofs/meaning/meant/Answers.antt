use Rattle.bz_journal.proofs.Words.{⊎_elim, ◌∙◌, err_from_is_err_and, false≢true, inl, inr, Meaning, Means, spell_node, subst, sym}
use Rattle.bz_journal.proofs.Edited.{means_not, means_ran}
use Rattle.bz_journal.proofs.meaning.meant.Goals as goal

pub look_up_lines-requires : goal.look_up_lines-requires
look_up_lines-requires c = c.none-lookups.ensures c.args.tree

pub returns-in-Ok-clause-ok : goal.returns-in-Ok-clause-ok
returns-in-Ok-clause-ok c =
    subst (λ (m : Meaning). Means c.args.command.now c.args.target.now c.args.current.now (spell_node c.args.tree) m) (c.in_ok-written_text-in-Ok.ensures.ok c.printed_answer-printed.result)
    (means_ran c.args.command.now c.args.target.now c.args.current.now c.args.tree c.in_ok-file.file _ c.reads_back.ensures c.in_ok-file.ensures.value c.in_ok-look_up_lines.ensures.alike c.run_beside.new.file
    c.in-Ok.ran c.printed_answer-printed.result c.in-Ok.ensures (λ none. false≢true (sym c.if-is_empty.false ∙ c.is_empty.ensures.1 none)) c.printed_answer-printed.ensures)

pub returns-in_err-written_text-in-Ok-clause-err : goal.returns-in_err-written_text-in-Ok-clause-err
returns-in_err-written_text-in-Ok-clause-err c =
    let p = err_from_is_err_and c.from_residual-in_err-written_text-in-Ok.result c.from_residual-in_err-written_text-in-Ok.ensures.1 in
    rw (p.1, p.2) (⊎_elim (λ made. inl (subst (λ (m : Meaning). Means c.args.command.now c.args.target.now c.args.current.now (spell_node c.args.tree) m) (made c.printed_answer-printed.result)
    (means_ran c.args.command.now c.args.target.now c.args.current.now c.args.tree c.in_ok-file.file _ c.reads_back.ensures c.in_ok-file.ensures.value c.in_ok-look_up_lines.ensures.alike c.run_beside.new.file
    c.in-Ok.ran c.printed_answer-printed.result c.in-Ok.ensures (λ none. false≢true (sym c.if-is_empty.false ∙ c.is_empty.ensures.1 none)) c.printed_answer-printed.ensures)))
    inr c.in_err-written_text-in-Ok.ensures.err)

pub returns-clause-err : goal.returns-clause-err
returns-clause-err c =
    means_not c.args.command.now c.args.target.now c.args.current.now c.args.tree c.in_ok-file.file _ c.reads_back.ensures c.in_ok-file.ensures.value c.in_ok-look_up_lines.ensures.alike c.in-Err.refusal c.in-Err.ensures.err
