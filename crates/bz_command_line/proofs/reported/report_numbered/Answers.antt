use Rattle.bz_command_line.proofs.Words.{[], ◌++◌, ◌∷◌, AppendsUnlessFailed, codes, escaped_text, numbered, subst}
use Rattle.std.proofs.lemmas.List.Folds.{concat-append}
use Rattle.bz_command_line.specs.Verbs.{operand_fault_name}
use Rattle.bz_command_line.proofs.reported.report_numbered.Goals as goal

pub returns : goal.returns
returns g c =
    subst (AppendsUnlessFailed (g.E.Sink.faults c.args.err.now) (g.E.Sink.faults c.report_pieces.new.err) (g.E.Sink.contents c.args.err.now)
    (g.E.Sink.contents c.report_pieces.new.err))
    (concat-append (codes "buildozer: " ∷ numbered c.args.refused.now.operand.now (operand_fault_name c.args.refused.now.fault) c.args.number.now ++ c.args.hint.now ∷ [])
    (escaped_text c.args.file.now ∷ c.args.place.now ∷ [])) (rw c.name.ensures at c.report_pieces.ensures)
