use Rattle.bz_journal_format.proofs.Beginnings.{all_first, still_none}
use Rattle.bz_journal_format.proofs.writing.record_bytes.Goals as goal

pub returns-clause-first : goal.returns-clause-first
returns-clause-first c =
    let r = c.args.content.now in
    all_first c.args.version r.digests.now r.notes.now r.steps.now _ c.requires.noted c.in_ok-lines.ensures

pub returns-in_err-lines-clause-first : goal.returns-in_err-lines-clause-first
returns-in_err-lines-clause-first c = let r = c.args.content.now in still_none c.args.version r.digests.now r.notes.now r.steps.now c.new.result c.replace.new.dest c.new.ensures c.replace.ensures.after

pub returns-in_err-bytes-clause-first : goal.returns-in_err-bytes-clause-first
returns-in_err-bytes-clause-first c = let r = c.args.content.now in still_none c.args.version r.digests.now r.notes.now r.steps.now c.new.result c.replace.new.dest c.new.ensures c.replace.ensures.after
