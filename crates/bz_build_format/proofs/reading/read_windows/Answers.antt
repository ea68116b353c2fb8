use Rattle.bz_build_format.proofs.Words.{◌∙◌, Accepted, ap, Legal, Node, Reads, rules, subst, sym, with_windows}
use Rattle.bz_build_format.proofs.Windowed.{file_legal, one_tree, required, tree_read}
use Rattle.bz_build_format.proofs.reading.read_windows.Goals as goal

pub each_read-requires-clause-among : goal.each_read-requires-clause-among
each_read-requires-clause-among c =
    (required c.args.windows c.as_slice-texts.result.now c.args.tree.now c.as_slice-parts.result.now c.as_slice-texts.ensures (c.as_slice-parts.ensures ∙ ap (λ (n : Node). n.parts) c.tree.view_is) c.requires.texts).0

pub each_read-requires-clause-short : goal.each_read-requires-clause-short
each_read-requires-clause-short c =
    (required c.args.windows c.as_slice-texts.result.now c.args.tree.now c.as_slice-parts.result.now c.as_slice-texts.ensures (c.as_slice-parts.ensures ∙ ap (λ (n : Node). n.parts) c.tree.view_is) c.requires.texts).1.1.2

pub returns-in-Some : goal.returns-in-Some
returns-in-Some c = λ new.
    let is = c.as_slice-parts.ensures ∙ ap (λ (n : Node). n.parts) c.tree.view_is in
    one_tree c.one_reading.ensures c.args.windows c.as_slice-texts.result.now c.args.tree.now c.as_slice-parts.result.now new c.in-Some.read c.as_slice-texts.ensures is
    (tree_read c.args.tree.now c.as_slice-parts.result.now _ c.in-Some.read (subst Legal c.tree.view_is c.tree.invariant.0) is c.in-Some.ensures)

pub whole_text-requires : goal.whole_text-requires
whole_text-requires c =
    (required c.args.windows c.as_slice-texts.result.now c.args.tree.now c.as_slice-parts.result.now c.as_slice-texts.ensures (c.as_slice-parts.ensures ∙ ap (λ (n : Node). n.parts) c.tree.view_is) c.requires.texts).0

pub returns-in-Ok : goal.returns-in-Ok
returns-in-Ok c = λ new.
    one_tree c.one_reading.ensures c.args.windows c.as_slice-texts.result.now c.args.tree.now c.as_slice-parts.result.now new c.in-Ok.read c.as_slice-texts.ensures
    (c.as_slice-parts.ensures ∙ ap (λ (n : Node). n.parts) c.tree.view_is)
    (c.in-Ok.ensures.ok.0, subst (λ t. Reads t (with_windows c.in-Ok.read c.args.tree.now)) (c.as_slice.ensures ∙ c.in_ok-text.ensures) c.in-Ok.ensures.ok.1)

pub unreachable-requires : goal.unreachable-requires
unreachable-requires c =
    let is = c.as_slice-parts.ensures ∙ ap (λ (n : Node). n.parts) c.tree.view_is in
    let accepted : Accepted c.as_slice.result.now = subst Accepted (sym (c.as_slice.ensures ∙ c.in_ok-text.ensures))
    (required c.args.windows c.as_slice-texts.result.now c.args.tree.now c.as_slice-parts.result.now c.as_slice-texts.ensures is c.requires.texts).1 in
    search (rules, accepted, c.in-Err.ensures.err)

pub each_read-requires-clause-legal : goal.each_read-requires-clause-legal
each_read-requires-clause-legal c = file_legal c.tree.inside.root c.args.tree.now c.as_slice-parts.result.now c.tree.view_is c.tree.invariant.0 c.requires.build c.as_slice-parts.ensures
