use Rattle.std.proofs.Common.{◌∙◌, sym, refl}
use Rattle.bz_edit.proofs.{Going.ok_gives, Turn.as_tree, Turn.tree_there}
use Rattle.bz_edit.proofs.crossing.cross_all.Goals as goal

pub invariant_of-tree : goal.invariant_of-tree
invariant_of-tree c =
    let ok = c.cross_each.ensures.even (sym c.are_even.ensures ∙ c.if-are_even.true) in
    as_tree _ (tree_there c.args.tree.now c.tree.inside.root c.cross_each.new.root c.args.steps.now c.args.steps.now c.requires.tree c.requires.lead c.tree.view_is refl
    (ok_gives c.cross_each.result ok c.cross_each.ensures.root))

pub invariant_of-tree-2 : goal.invariant_of-tree-2
invariant_of-tree-2 c =
    as_tree _ (tree_there c.args.tree.now c.in_ok-root.root c.cross_each-2.new.root c.args.steps.now c.as_mut_slice.result.now c.requires.tree c.requires.lead
    (c.in_ok-root.ensures ∙ c.tree.view_is) (c.as_mut_slice.ensures.value ∙ c.in_ok-turned.ensures) c.in_ok-cross_each.ensures.root)
