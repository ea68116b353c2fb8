use Rattle.std.proofs.Common.{◌∙◌, sym, arith}
use Rattle.bz_command_syntax.proofs.Templates.{first_there, missing_there, no_dollar_sign, no_reference, not_missing_there, two_dollar_signs}
use Rattle.bz_command_syntax.proofs.template.skip_count.Goals as goal

pub returns-then-byte-ne36 : goal.returns-then-byte-ne36
returns-then-byte-ne36 c = (omega arith, no_dollar_sign _ _ _ c.if-byte-ne36.true)

pub returns-then-first_byte-eq36 : goal.returns-then-first_byte-eq36
returns-then-first_byte-eq36 c =
    let again = sym c.first_byte.ensures ∙ c.if-first_byte-eq36.true in
    (first_there c.args.rest.now again, two_dollar_signs _ _ c.args.rest.now c.if-byte-ne36.false again)

pub returns-in_default : goal.returns-in_default
returns-in_default c =
    (omega arith, no_reference _ _ _ c.if-byte-ne36.false (λ again. c.if-first_byte-eq36.false (c.first_byte.ensures ∙ again)) c.in_default.ensures.value)

pub returns-then-is_missing : goal.returns-then-is_missing
returns-then-is_missing c =
    missing_there _ _ c.args.rest.now c.if-byte-ne36.false (λ again. c.if-first_byte-eq36.false (c.first_byte.ensures ∙ again)) _ _
    c.in-Some.ensures.value c.if-is_missing.ensures

pub returns : goal.returns
returns c = (
  c.in-Some.ensures.within,
  not_missing_there _ _ c.args.rest.now c.if-byte-ne36.false (λ again. c.if-first_byte-eq36.false (c.first_byte.ensures ∙ again)) _ _
      c.in-Some.ensures.value c.if-is_missing.ensures,
)
