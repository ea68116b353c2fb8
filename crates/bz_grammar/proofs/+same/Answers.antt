use Rattle.bz_grammar.proofs.Words.{◌+◌, ◌<◌, ◌↔◌, ◌∙◌, ◌≡◌, ap, arith, Bool, false, false≢true, get_or, IsTrue, length, List, Node, None, Option, out-Part, outs-Node, Part, refl, rules, same_Some, Some, sym, take, take_more_same, ℕ}
use denote.Enum.Bare.{same_true, same_false}
use Rattle.bz_grammar.specs.contracts.kind.Kind.{the_type}
use Rattle.bz_grammar.specs.declared.tree.Part.TheVariants as p
use Rattle.bz_grammar.specs.declared.tree.Part.TheOpen as o
use Rattle.bz_grammar.proofs.+same.Goals as goal

same_next : (a b : List Part) (i : ℕ) (x y : Part) → i < length a → length a ≡ length b → x ≡ get_or a i x → y ≡ get_or b i y → x ≡ y → take i a ≡ take i b → take (i + 1) a ≡ take (i + 1) b
same_next a b i x y h as_long at_a at_b same so_far =
    take_more_same a b i x h (omega arith) so_far (sym at_a ∙ (same ∙ (at_b ∙ ap (λ d. get_or b i d) (sym same))))

abbrev opened : o.Part-F Part Node → Option Node
opened (o.Leaf l) = None
opened (o.Node n) = Some n

one_node : (x y : Part) (a b : Node) → x ≡ p.Node a → y ≡ p.Node b → x ≡ y → a ≡ b
one_node x y a b at_x at_y e =
    same_Some a b (sym (ap opened (outs-Node a)) ∙ (ap (λ z. opened (out-Part z)) (sym at_x ∙ (e ∙ at_y)) ∙ ap opened (outs-Node b)))

node_is : (a b : Node) → a.kind ≡ b.kind → a.parts ≡ b.parts → a ≡ b
node_is a b k ps =
    ap (λ z. let n : Node = record { kind = z; parts = a.parts } in n) k ∙ ap (λ z. let n : Node = record { kind = b.kind; parts = z } in n) ps

like : (x y : Part) (a b : Node) (r : Bool) (xs ys : List Part) → x ≡ p.Node a → y ≡ p.Node b → a.kind ≡ b.kind → xs ≡ a.parts → ys ≡ b.parts → IsTrue r ↔ (xs ≡ ys) → IsTrue r ↔ (x ≡ y)
like x y a b r xs ys at_x at_y kinds at_xs at_ys same = (
  λ h. at_x ∙ (ap p.Node (node_is a b kinds (sym at_xs ∙ (same.0 h ∙ at_ys))) ∙ sym at_y),
  λ e. same.1 (at_xs ∙ (ap (λ (n : Node). n.parts) (one_node x y a b at_x at_y e) ∙ sym at_ys)),
)

unlike : (x y : Part) (a b : Node) (r : Bool) → x ≡ p.Node a → y ≡ p.Node b → r ≡ false → (a.kind ≡ b.kind → ⊥) → IsTrue r ↔ (x ≡ y)
unlike x y a b r at_x at_y is differ =
    (λ h. absurd (false≢true (sym is ∙ h)), λ e. absurd (differ (ap (λ (n : Node). n.kind) (one_node x y a b at_x at_y e))))

pub same::same_parts-loop-i-preserved : goal.same::same_parts-loop-i-preserved
same::same_parts-loop-i-preserved t c =
    same_next c.args.a.now c.args.b.now c.loop-i.i c.index-a-i.result c.index-b-i.result c.loop-i-test.true c.if-a-b.false c.index-a-i.is c.index-b-i.is (c.if-not-equals.ensures.0 refl) c.loop-i.invariant

pub tree::Part::equals-returns-then-eq : goal.tree::Part::equals-returns-then-eq
tree::Part::equals-returns-then-eq t c =
    like c.args.self.now c.args.other.now c.in-Node-Node.a c.in-Node-Node.b c.same_parts.result c.as_slice.result.now c.as_slice-then-eq.result.now c.in-Node-Node.is-0 c.in-Node-Node.is-1 (same_true the_type (search rules) _ _ (sym c.if-eq.ensures)) c.as_slice.ensures c.as_slice-then-eq.ensures c.same_parts.ensures

pub tree::Part::equals-returns-else-eq : goal.tree::Part::equals-returns-else-eq
tree::Part::equals-returns-else-eq t c =
    unlike c.args.self.now c.args.other.now c.in-Node-Node.a c.in-Node-Node.b c.eq.result c.in-Node-Node.is-0 c.in-Node-Node.is-1 c.if-eq.false (same_false the_type _ _ (sym c.if-eq.ensures))
