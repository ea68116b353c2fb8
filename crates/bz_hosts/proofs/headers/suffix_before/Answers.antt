use Rattle.bz_hosts.proofs.Words.{◌∙◌, ap, only_comment, sym}
use Rattle.bz_hosts.proofs.Stated.{suffix_of}
use Rattle.bz_hosts.proofs.headers.suffix_before.Goals as goal

pub returns-in_default-comment_in : goal.returns-in_default-comment_in
returns-in_default-comment_in c = sym (ap only_comment c.in_default-comment_in.ensures) ∙ suffix_of c.args.suite.now c.in-Node.node c.gap_before.result.now c.in-Node.is c.gap_before.ensures (sym c.is_kind.ensures ∙ c.if-not-is_kind.false)
