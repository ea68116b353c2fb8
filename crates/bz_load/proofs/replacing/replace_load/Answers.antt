use Rattle.bz_load.proofs.Words.{◌∙◌, and_parts, AreOver, Item, List, subst, sym, Window}
use Rattle.bz_load.proofs.ReplacedAgain.{all_settled}
use Rattle.bz_load.proofs.replacing.replace_load.Goals as goal

pub returns-then-are_all_plain-clause-same : goal.returns-then-are_all_plain-clause-same
returns-then-are_all_plain-clause-same c =
    let plain = and_parts _ _ (sym c.are_all_plain.ensures ∙ c.if-are_all_plain.true) in (
      λ none. sym (subst (λ (ws : List Window). AreOver ws c.args.items c.in_ok-made.made.items) none c.in_ok-made.ensures.windows),
      λ same. c.in_ok-made.ensures.settled (all_settled c.args.path.now c.args.symbols.now c.args.items plain.0 plain.1 (sym c.in_ok-made.ensures.items ∙ same)),
    )

pub returns-clause-windows : goal.returns-clause-windows
returns-clause-windows c =
    let before = c.as_slice-2.ensures.value ∙ (c.in_ok-before.ensures ∙ c.as_slice.ensures) in
    subst (λ (xs : List Item). AreOver c.in_ok-windows.windows xs c.in_ok-made-2.made.items) before (subst (λ (xs : List Item). AreOver c.in_ok-windows.windows c.as_slice-2.result.now xs) c.as_slice-3.ensures c.in_ok-windows.ensures.windows)

pub returns-clause-same : goal.returns-clause-same
returns-clause-same c =
    let before = c.as_slice-2.ensures.value ∙ (c.in_ok-before.ensures ∙ c.as_slice.ensures) in
    (λ none. sym c.as_slice-3.ensures ∙ (c.in_ok-windows.ensures.same.0 none ∙ before), λ same. c.in_ok-windows.ensures.same.1 (c.as_slice-3.ensures ∙ (same ∙ sym before)))
