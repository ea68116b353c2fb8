use Rattle.bz_hint.proofs.Words.{Bytes, List, rules, subst}
use Rattle.bz_streams.specs.Outputs.{Reports}
use Rattle.bz_hint.proofs.Noted.{set_if_absent_noted, set_noted}
use Rattle.bz_hint.proofs.notes.report_notes.Goals as goal

pub returns-in-Attribute-Set : goal.returns-in-Attribute-Set
returns-in-Attribute-Set g c =
    let sink = g.E.Sink in
    let old = c.args.err.now in
    let new = c.note_setting.new.err in
    subst (λ (lines : List Bytes). Reports (sink.faults old) (sink.faults new) (sink.contents old) (sink.contents new) lines)
    (set_noted c.args.file.now _ c.as_slice.result.now _ c.as_slice-in-Attribute-Set.result.now c.args.command.now c.as_slice.ensures c.as_slice-in-Attribute-Set.ensures (search rules))
    c.note_setting.ensures

pub returns-in-Attribute-SetIfAbsent : goal.returns-in-Attribute-SetIfAbsent
returns-in-Attribute-SetIfAbsent g c =
    let sink = g.E.Sink in
    let old = c.args.err.now in
    let new = c.note_setting-in-Attribute-SetIfAbsent.new.err in
    subst (λ (lines : List Bytes). Reports (sink.faults old) (sink.faults new) (sink.contents old) (sink.contents new) lines)
    (set_if_absent_noted c.args.file.now _ c.as_slice-in-Attribute-SetIfAbsent.result.now _ c.as_slice-in-Attribute-SetIfAbsent-2.result.now c.args.command.now
    c.as_slice-in-Attribute-SetIfAbsent.ensures c.as_slice-in-Attribute-SetIfAbsent-2.ensures (search rules)) c.note_setting-in-Attribute-SetIfAbsent.ensures
