use Rattle.bz_journal.proofs.Words.{◌∙◌, ◌≡◌, after_meaning, ap, AreListed, Bytes, EndsAt, Err, IfSome, IsIndexOf, IsTidyLayoutOf, IsWritten, Item, item_hash, layout, length, lines_of, List, map, Meaning, Node, Ok, Reads, session_history, spell_node, subst, sym, tidied, view_of, with_windows}
use Rattle.bz_journal.proofs.{Edited.refused_end, Edited.value_taken, MadeLines.lines_written}
use Rattle.bz_journal.proofs.doing.take_up.Goals as goal

pub returns-in-Err-clause-end : goal.returns-in-Err-clause-end
returns-in-Err-clause-end c =
    let own = rw c.in-Err.is at c.made_of.ensures.made in
    refused_end c.args.note.now c.args.course.now c.args.file c.args.printed c.in-Err.refusal own.err

pub returns-in-Ok-take_up-clause-end : goal.returns-in-Ok-take_up-clause-end
returns-in-Ok-take_up-clause-end c =
    let own = rw (c.present-before.ensures.tree, c.in-Ok.is) at c.made_of.ensures.made in
    subst (λ (m : Meaning). EndsAt (after_meaning c.args.note.now (session_history c.args.course.now) m) c.args.course.now (Ok c.in-Ok-take_up.reply) c.take_up.new.self)
    (lines_written c.in-Ok.made.windows c.args.course.now.tree c.args.file c.args.printed own.ok.lines) c.in-Ok-take_up.ensures

pub returns-in-Err-take_up-clause-end : goal.returns-in-Err-take_up-clause-end
returns-in-Err-take_up-clause-end c =
    let own = rw (c.present-before.ensures.tree, c.in-Ok.is) at c.made_of.ensures.made in
    subst (λ (m : Meaning). EndsAt (after_meaning c.args.note.now (session_history c.args.course.now) m) c.args.course.now (Err c.in-Err-take_up.refusal) c.take_up.new.self)
    (lines_written c.in-Ok.made.windows c.args.course.now.tree c.args.file c.args.printed own.ok.lines) c.in-Err-take_up.ensures

pub returns-in-Ok-take_up-clause-seen : goal.returns-in-Ok-take_up-clause-seen
returns-in-Ok-take_up-clause-seen c =
    let file : List Item = c.args.file in
    let own = rw (c.present-before.ensures.tree, c.in-Ok.is) at c.made_of.ensures.made in
    let made = own.ok in
    let here : Node = c.present.result.now in
    let end = subst (λ (m : Meaning). EndsAt (after_meaning c.args.note.now (session_history c.args.course.now) m) c.args.course.now (Ok c.in-Ok-take_up.reply) c.take_up.new.self)
    (lines_written c.in-Ok.made.windows c.args.course.now.tree file c.args.printed made.lines) c.in-Ok-take_up.ensures in
    let laid : IsTidyLayoutOf file here = value_taken c.written_is_laid_out.ensures file c.args.printed c.args.note.now (session_history c.args.course.now) (session_history c.take_up.new.self) c.in-Ok-take_up.reply here
    own.proper c.present-before.ensures.within end.made c.reads_back.ensures c.present.ensures.text in
    let reads : Reads (layout (tidied file)) here = subst (λ (t : Bytes). Reads t here) laid.2 c.reads_back.ensures in
    let next : with_windows c.in-Ok.made.windows c.args.course.now.tree ≡ here = c.one_reading.ensures (layout (tidied file)) _ here made.lines.reads reads in
    let moved : with_windows c.as_slice.result.now c.present-before.result.now ≡ c.take_up.new.self.tree =
    ap (λ ws. with_windows ws c.present-before.result.now) c.as_slice.ensures ∙ ap (with_windows c.in-Ok.made.windows) c.present-before.ensures.tree ∙ next ∙ c.present.ensures.tree in
    let seen : tidied file ≡ view_of c.take_up.new.self.tree = sym laid.1 ∙ ap view_of c.present.ensures.tree in
    record {
      value = subst (λ (xs : List Item). IfSome c.in-Ok.made.value (λ own. own ≡ xs)) seen made.own;
      looked = record {
        named = subst (λ (xs : List Item). IfSome c.in-Ok.made.names (λ index. IsIndexOf index xs)) seen made.named;
        begun = subst (λ (n : Node). IfSome c.begins_after-lines.result (λ own. own ≡ lines_of n)) moved c.begins_after-lines.ensures;
        hashed = subst (λ (xs : List Item). IfSome c.in-Ok.made.hashes (λ hashes. hashes ≡ map item_hash xs)) seen made.hashed;
        listed = subst (λ (xs : List Item). IfSome c.in-Ok.made.paths (λ loaded. AreListed loaded xs)) seen made.listed;
      };
      written = (
        subst (λ (n : Node). IsWritten (view_of n) n) c.present.ensures.tree (subst (λ (xs : List Item). IsWritten xs here) (sym laid.1) laid.0),
        made.length_is ∙ sym (ap length laid.2) ∙ ap (λ (n : Node). length (spell_node n)) c.present.ensures.tree,
      );
    }
