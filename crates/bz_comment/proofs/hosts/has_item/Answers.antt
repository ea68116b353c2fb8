use Rattle.bz_comment.proofs.Words.{◌∙◌, is_sought}
use Rattle.bz_comment.proofs.HostForms.{seen_any}
use Rattle.bz_comment.proofs.hosts.has_item.Goals as goal

pub returns : goal.returns
returns c = c.is_some.ensures ∙ seen_any (is_sought c.args.sought) _ c.first_at.result c.first_at.ensures
