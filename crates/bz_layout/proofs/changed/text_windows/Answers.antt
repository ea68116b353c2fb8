use Rattle.bz_layout.proofs.Words.{◌<◌, ◌∙◌, ◌≡◌, ◌≤◌, ap, AreOver, arith, depth_limit, depth_of, IsProper, laid_out, layout, length, limit, spell_node, subst, sym}
use Rattle.bz_layout.proofs.Changes.{of_some, of_none, parts_put, whole_length}
use Rattle.bz_layout.proofs.LineWindows.{shallow_over, deep_over}
use Rattle.bz_layout.proofs.changed.text_windows.Goals as goal

pub returns-in_default-clause-too_large : goal.returns-in_default-clause-too_large
returns-in_default-clause-too_large c = λ _ before l h is. of_none _ _ c.in_ok-writer.field-0 c.in_default.is (c.in_ok-writer.ensures before l h)

pub returns-then-length-gt-LENGTH_LIMIT-clause-too_large : goal.returns-then-length-gt-LENGTH_LIMIT-clause-too_large
returns-then-length-gt-LENGTH_LIMIT-clause-too_large c = λ _ before l h is.
    let whole : c.saturating_add-length.result ≡ length (layout c.args.file.now) =
    whole_length c.args.tree.now c.args.file.now c.as_slice.result.now c.as_slice-2.result.now c.in_ok-writer.field-0 c.in-Some.writer c.args.old_length _ _ c.saturating_add-length.result
    (subst (λ xs. IsProper xs) c.file.view_is c.file.invariant) (subst (λ n. length (spell_node n) ≤ limit) c.tree.view_is c.tree.invariant.1) (c.as_slice.ensures ∙ ap (λ n. n.parts) c.tree.view_is) c.as_slice-2.ensures
    c.length_gone-gone.ensures c.saturating_sub.ensures c.saturating_add-length.ensures c.in-Some.is (c.in_ok-writer.ensures before l h) is in
    omega (arith, whole, c.if-length-gt-LENGTH_LIMIT.true)

pub returns-then-not-are_windows_within-clause-too_deep : goal.returns-then-not-are_windows_within-clause-too_deep
returns-then-not-are_windows_within-clause-too_deep c = λ _ before l h is.
    let whole : c.saturating_add-length.result ≡ length (layout c.args.file.now) =
    whole_length c.args.tree.now c.args.file.now c.as_slice.result.now c.as_slice-2.result.now c.in_ok-writer.field-0 c.in-Some.writer c.args.old_length _ _ c.saturating_add-length.result
    (subst (λ xs. IsProper xs) c.file.view_is c.file.invariant) (subst (λ n. length (spell_node n) ≤ limit) c.tree.view_is c.tree.invariant.1) (c.as_slice.ensures ∙ ap (λ n. n.parts) c.tree.view_is) c.as_slice-2.ensures
    c.length_gone-gone.ensures c.saturating_sub.ensures c.saturating_add-length.ensures c.in-Some.is (c.in_ok-writer.ensures before l h) is in (
      omega (arith, whole, c.if-length-gt-LENGTH_LIMIT.false),
      subst (λ ys. depth_limit < depth_of (laid_out ys)) (c.as_slice-items.ensures ∙ c.file.view_is) (deep_over c.args.windows.now c.as_slice-items.result.now (λ within. sym c.if-not-are_windows_within.true ∙ c.are_windows_within.ensures.1 within)),
    )

pub returns-clause-put : goal.returns-clause-put
returns-clause-put c = λ before l h. parts_put c.args.tree.now before c.args.file.now _ _ _ l (of_some _ _ c.in_ok-writer.field-0 c.in-Some.writer c.in-Some.is (c.in_ok-writer.ensures before l h))

pub returns-clause-length : goal.returns-clause-length
returns-clause-length c = λ before l h is.
    let whole : c.saturating_add-length.result ≡ length (layout c.args.file.now) =
    whole_length c.args.tree.now c.args.file.now c.as_slice.result.now c.as_slice-2.result.now c.in_ok-writer.field-0 c.in-Some.writer c.args.old_length _ _ c.saturating_add-length.result
    (subst (λ xs. IsProper xs) c.file.view_is c.file.invariant) (subst (λ n. length (spell_node n) ≤ limit) c.tree.view_is c.tree.invariant.1) (c.as_slice.ensures ∙ ap (λ n. n.parts) c.tree.view_is) c.as_slice-2.ensures
    c.length_gone-gone.ensures c.saturating_sub.ensures c.saturating_add-length.ensures c.in-Some.is (c.in_ok-writer.ensures before l h) is in
    (whole, omega (arith, c.if-length-gt-LENGTH_LIMIT.false))

pub returns-clause-shallow : goal.returns-clause-shallow
returns-clause-shallow c = λ before l h shallow.
    let same = c.as_slice-items.ensures ∙ c.file.view_is in
    subst (λ ys. depth_of (laid_out ys) ≤ depth_limit) same
    (shallow_over c.args.windows.now before c.as_slice-items.result.now (c.are_windows_within.ensures.0 c.if-not-are_windows_within.false) (subst (λ ys. AreOver c.args.windows.now before ys) (sym same) h)
    (subst (λ n. depth_of n ≤ depth_limit) (sym l.laid_out) shallow))
