use Rattle.bz_command_syntax.proofs.Imported.{◌∙◌, ap, has_escaped_digit, is_ascii_digit, sym}
use Rattle.bz_command_syntax.proofs.Templates.{escaped_there, no_backslash, no_digit, none_escaped}
use Rattle.bz_command_syntax.proofs.template.has_escaped_digit.Goals.{else-byte-eq92-via-then-byte-eq92+else-is_ascii_digit, else-byte-eq92-via-else-byte-eq92}
use Rattle.bz_command_syntax.proofs.template.has_escaped_digit.Goals as goal

pub returns-then-is_ascii_digit : goal.returns-then-is_ascii_digit
returns-then-is_ascii_digit c =
    sym (sym c.loop-byte.invariant ∙ ap has_escaped_digit c.in-Some.ensures.cases.0 ∙ escaped_there _ c.in-Some.rest.now c.if-byte-eq92.true (c.if-is_ascii_digit.ensures.value ∙ ap is_ascii_digit c.first_byte.ensures))

pub loop-byte-preserved : goal.loop-byte-preserved
loop-byte-preserved c =
    sym (elim c.else-byte-eq92.branch [
      | else-byte-eq92-via-then-byte-eq92+else-is_ascii_digit w ↦ no_digit _ c.in-Some.rest.now (w.if-is_ascii_digit.ensures.value ∙ ap is_ascii_digit w.first_byte.ensures)
      | else-byte-eq92-via-else-byte-eq92 w ↦ no_backslash _ c.in-Some.rest.now w.if-byte-eq92.false
    ])
    ∙ ap has_escaped_digit (sym c.in-Some.ensures.cases.0) ∙ c.loop-byte.invariant

pub returns : goal.returns
returns c = sym (sym c.loop-byte.invariant ∙ none_escaped _ c.in_default.ensures.cases)
