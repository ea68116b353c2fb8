use Rattle.bz_command_line.proofs.reported.report_above.Goals as goal

pub returns-in-Operand-clause-reported : goal.returns-in-Operand-clause-reported
returns-in-Operand-clause-reported g c = rw (c.in-Operand.is)
    (rw (c.as_str.ensures.value, c.in_ok-hint-in-Operand.ensures, c.format-number.ensures.text, c.number.ensures) at c.report_numbered.ensures)
