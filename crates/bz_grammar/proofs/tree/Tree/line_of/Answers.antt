use Rattle.bz_grammar.proofs.Words.{[], ◌∙◌, ap, fronts, line_following, Node, option_map, refl, slice_get, Sought}
use Rattle.bz_grammar.proofs.AllLines.{sought_line}
use Rattle.bz_grammar.proofs.tree.Tree.line_of.Goals as goal

pub returns : goal.returns
returns c =
    ap (λ (s : Sought). s.line) (c.pass_all.ensures.sought [] refl)
    ∙ (sought_line (fronts [] c.as_slice.result.now) c.args.statement
    ∙ ap (λ ps. option_map line_following (slice_get (fronts [] ps) c.args.statement)) (c.as_slice.ensures ∙ ap (λ (n : Node). n.parts) c.self.view_is))
