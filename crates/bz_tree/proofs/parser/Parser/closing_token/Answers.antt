use Rattle.bz_tree.proofs.Words.{[], ◌++◌, ◌∙◌, ◌∷◌, ◌≤◌, ap, arith, drop, List, node_part, Part, refl, rules, terminals_of, token_at}
use Rattle.bz_tree.proofs.{Deepest.made_depth, Deepest.leaf_depth, Climbs.handed_on, Listed.closes, Listed.closes_none, Pushed.added, Pushed.take_push, Pushed.deepest_more}
use Rattle.bz_tree.proofs.parser.Parser.closing_token.Goals as goal

pub returns-in_err-take-clause-err : goal.returns-in_err-take-clause-err
returns-in_err-take-clause-err c = handed_on _ _ _ _ c.from_residual.ensures.1 c.in_err-take.ensures.err (λ n. closes_none _ _ _ _ _ n)

pub overflow_add-result : goal.overflow_add-result
overflow_add-result c =
    let within : c.max-deep.result ≤ c.args.depth = omega (arith, c.requires.within, c.max-deep.ensures, c.in_ok-take.ensures.ok.3, leaf_depth _ _ _ _ c.in_ok-take.ensures.ok.1) in
    search rules

pub returns-clause-ok : goal.returns-clause-ok
returns-clause-ok c = (
  node_part c.args.kind (drop c.args.from c.take.new.self.stack),
  closes _ _ _ _ _ _ _ (added _ _ c.requires.from (token_at (terminals_of c.args.close)) _ _ _ _ c.in_ok-take.ensures.ok),
  c.in_ok-close.ensures ∙ ap (λ (ps : List Part). ps ++ (node_part c.args.kind (drop c.args.from c.take.new.self.stack) ∷ [])) (take_push _ _ c.requires.from _ _ c.in_ok-take.ensures.ok.2),
  made_depth c.args.kind _ _ _ refl (deepest_more _ _ c.requires.from _ _ _ _ _ _ c.requires.deep c.in_ok-take.ensures.ok c.max-deep.ensures),
)
