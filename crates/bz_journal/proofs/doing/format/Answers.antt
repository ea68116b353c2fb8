use Rattle.bz_journal.proofs.Words.{◌∙◌, ap, AreOver, List, session_history, subst, sym, view_of, Window}
use Rattle.bz_journal.proofs.{Acting.formats_made, Formatting.formatted_after}
use Rattle.bz_journal.proofs.doing.format.Goals as goal

pub take_up-requires-clause-over : goal.take_up-requires-clause-over
take_up-requires-clause-over c =
    subst (λ (ws : List Window). AreOver ws (view_of c.args.course.now.tree) c.in_ok-file.file) (sym c.new-windows.ensures) (sym (c.in_ok-file.ensures ∙ ap view_of c.present-here.ensures.tree))

pub returns-clause-made : goal.returns-clause-made
returns-clause-made c =
    let end = c.take_up.ensures.end in
    record {
      makes = formats_made c.args.note.now (session_history c.args.course.now) c.present-here.result.now c.in_ok-file.file c.present-here.ensures.text c.reads_back.ensures c.in_ok-file.ensures
          c.take_up.result (session_history c.take_up.new.course) end.made;
      unmoved = end.unmoved;
      small = end.small;
    }

pub returns-clause-formatted : goal.returns-clause-formatted
returns-clause-formatted c =
    formatted_after c.formatted_once.ensures c.args.note.now (session_history c.args.course.now) (session_history c.take_up.new.course) c.take_up.result c.present-here.ensures.within
    (formats_made c.args.note.now (session_history c.args.course.now) c.present-here.result.now c.in_ok-file.file c.present-here.ensures.text c.reads_back.ensures c.in_ok-file.ensures
    c.take_up.result (session_history c.take_up.new.course) c.take_up.ensures.end.made)
