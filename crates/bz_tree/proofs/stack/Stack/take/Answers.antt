use Rattle.bz_tree.proofs.Words.{[], ◌++◌, ◌∙◌, ◌∷◌, ap, front_leaf, List, Part, Part as p, take}
use Rattle.bz_tree.proofs.{Deepest.leaf_depth, Pushed.leaf_made}
use Rattle.bz_tree.proofs.stack.Stack.take.Goals as goal

pub returns-clause-ok : goal.returns-clause-ok
returns-clause-ok c =
    let leaf : Part = p.Leaf (record { class = c.in-Some.front.class; gap = c.in_ok-gap.gap; token = c.in_ok-token.token }) in (
      leaf,
      leaf_made _ _ _ c.in-Some.front _ _ _ c.in-Some.ensures.answered (c.in_ok-gap.ensures ∙ c.split_at.ensures.front) (c.in_ok-token.ensures ∙ c.split_at-2.ensures.front ∙ ap (take c.in-Some.front.token) c.split_at.ensures.back) c.skip.ensures,
      c.push_reserved.ensures.items ∙ ap (λ (ps : List Part). ps ++ (leaf ∷ [])) (c.reserve.ensures.items ∙ c.self.view_is),
      leaf_depth _ _ _ (p.Leaf (front_leaf c.in-Some.front c.in-Some.text.now)) c.in-Some.ensures.answered,
    )
