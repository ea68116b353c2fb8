use Rattle.bz_command_line.proofs.Words.{◌∙◌, usage_in}
use Rattle.bz_command_line.proofs.Lines.{in_its_place}
use Rattle.bz_command_line.proofs.reported.report_script.Goals as goal

pub returns-in-Line-clause-reported : goal.returns-in-Line-clause-reported
returns-in-Line-clause-reported g c = rw (c.in-Line.is)
    (in_its_place (usage_in c.in-Line.fault) c.in-Line.line c.args.file.now c.as_str.result.now _ _ _ _ (c.as_str.ensures.value ∙ c.in_ok-place-in-Line.ensures)
    c.in_ok-report_above-in-Line.ensures.reported)
