use Rattle.bz_states.proofs.Words.{◌∙◌, after_token, ap, arith, less, no_leaf, sym}
use Rattle.std.proofs.lemmas.Grind.{common_steps}
use Rattle.bz_states.proofs.Lines.{leaves_more, line_found, rest_shorter}
use Rattle.bz_states.proofs.line.line_indent.Goals as goal

pub leaves-init : goal.leaves-init
leaves-init c = record { leaves = no_leaf; within = omega arith; brackets = omega (arith, c.requires) }

pub returns-in_default-class : goal.returns-in_default-class
returns-in_default-class c = line_found _ _ _ _ _ _ _ c.leaves.invariant.leaves c.leaves.invariant.within c.in-Fresh.is c.in-Some.ensures c.in_default-class.not-End c.split_at.ensures.front c.indent_of.ensures (sym c.if-from-at-2.true)

pub leaves-smaller : goal.leaves-smaller
leaves-smaller c = rw (c.after_token-place.ensures, c.token_of.ensures, c.rest_of-rest.ensures) (less _ _ c.in-Some.front c.in-Some.ensures)

pub leaves-preserved : goal.leaves-preserved
leaves-preserved c = record {
  leaves = leaves_more _ _ _ _ _ c.in-Some.front c.leaves.invariant.leaves c.in-Some.ensures (c.after_token-place.ensures ∙ ap (λ t. after_token c.in-Some.front.class t c.leaves.place) c.token_of.ensures) c.rest_of-rest.ensures;
  within = rest_shorter _ _ _ c.in-Some.front c.rest_of-rest.ensures c.leaves.invariant.within;
  brackets = grind (arith, common_steps);
}
