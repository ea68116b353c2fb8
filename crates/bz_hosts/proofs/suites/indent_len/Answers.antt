use Rattle.std.proofs.Common.{◌∙◌, ap, length, arith}
use Rattle.bz_grammar.proofs.Blanks.{blanks_from, blanks_whole}
use Rattle.bz_hosts.proofs.suites.indent_len.Goals as goal

pub returns-then-byte-ne9 : goal.returns-then-byte-ne9
returns-then-byte-ne9 c = ap length (c.split_at.ensures.back ∙ blanks_from c.args.gap.now c.blanks.at (omega (arith, c.blanks-test.true)) c.blanks.invariant.within c.if-byte-ne32.true c.if-byte-ne9.true c.blanks.invariant.blank)

pub returns : goal.returns
returns c = ap length (blanks_whole c.args.gap.now c.blanks.at (omega (arith, c.blanks-test.false)) c.blanks.invariant.blank)
