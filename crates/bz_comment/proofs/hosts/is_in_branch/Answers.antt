use Rattle.bz_comment.proofs.Words.{◌∙◌, is_sought}
use Rattle.bz_comment.proofs.HostForms.{seen_any}
use Rattle.bz_comment.proofs.hosts.is_in_branch.Goals as goal

pub returns : goal.returns
returns c = c.is_some.ensures ∙ seen_any (is_sought c.args.sought) _ c.first_in_branch.result c.first_in_branch.ensures
