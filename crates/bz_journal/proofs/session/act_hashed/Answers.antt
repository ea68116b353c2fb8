use Rattle.bz_journal.proofs.Words.{◌∙◌, action_in, ap, false≢true, History, map, session_history, sha256, spell_node, sym}
use Rattle.bz_journal.proofs.{Digested.digest_put, Following.Goes, Following.goes}
use Rattle.bz_journal.proofs.session.act_hashed.Goals as goal

pub returns-then-not-is_changed-clause-digests : goal.returns-then-not-is_changed-clause-digests
returns-then-not-is_changed-clause-digests c =
    let h : History = session_history c.args.course.now in
    let after : History = session_history c.act-answer.new.course in
    let went : Goes c.act-answer.result h after = goes (action_in c.args.action.now) c.args.note.now h after c.act-answer.result c.act-answer.ensures.acted.within c.act-answer.ensures.acted.acts in
    c.make_room.ensures.kept ∙ c.requires
    ∙ ap (map sha256) (sym (went.old (λ is. false≢true (sym c.if-not-is_changed.true ∙ c.is_changed.ensures.no is))))

pub returns-clause-digests : goal.returns-clause-digests
returns-clause-digests c =
    let h : History = session_history c.args.course.now in
    let after : History = session_history c.act-answer.new.course in
    let went : Goes c.act-answer.result h after = goes (action_in c.args.action.now) c.args.note.now h after c.act-answer.result c.act-answer.ensures.acted.within c.act-answer.ensures.acted.acts in
    digest_put c.act-answer.result h after c.cursor-cursor.result c.make_room.new.digests.items c.put_after.new.items.items (spell_node c.present.result.now) c.digest_of.result went
    (c.is_changed.ensures.yes c.if-not-is_changed.false) c.cursor-cursor.ensures (c.make_room.ensures.kept ∙ c.requires) c.present.ensures.text c.digest_of.ensures c.put_after.ensures
