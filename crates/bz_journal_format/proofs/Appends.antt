-- Texts appended one after_mark the other.
use Rattle.bz_journal_format.proofs.Words.{◌++◌, ◌∙◌, ◌≡◌, ap, append_assoc, codes, flat_map, kind_number, last_number, length, List, Node, Part, part_text, spaced_number, sym, ℕ}
use Rattle.bz_grammar.specs.declared.tree.Part.TheVariants as p
use Rattle.bz_journal_format.proofs.Held.{text_Node}

pub leaf_pushed : (o m a b c d e f o1 o2 o3 o4 o5 o6 o7 : List ℕ) → o1 ≡ o ++ m → o2 ≡ o1 ++ a → o3 ≡ o2 ++ b → o4 ≡ o3 ++ c → o5 ≡ o4 ++ d → o6 ≡ o5 ++ e → o7 ≡ o6 ++ f → o7 ≡ o ++ (m ++ a ++ b ++ c ++ d ++ e ++ f)
leaf_pushed o m a b c d e f o1 o2 o3 o4 o5 o6 o7 h1 h2 h3 h4 h5 h6 h7 = rw (h7, h6, h5, h4, h3, h2, h1) (simp append_assoc)

pub node_pushed : (o o1 o2 o3 o4 : List ℕ) (x : Part) (n : Node) → x ≡ p.Node n → o1 ≡ o ++ codes "node " → o2 ≡ o1 ++ spaced_number (kind_number n.kind) → o3 ≡ o2 ++ last_number (length n.parts) → o4 ≡ o3 ++ flat_map part_text n.parts → o4 ≡ o ++ part_text x
node_pushed o o1 o2 o3 o4 x n is h1 h2 h3 h4 = h4 ∙ ap (λ t. t ++ flat_map part_text n.parts) (h3 ∙ ap (λ t. t ++ last_number (length n.parts)) (h2 ∙ ap (λ t. t ++ spaced_number (kind_number n.kind)) h1)) ∙ four o (codes "node ") (spaced_number (kind_number n.kind)) (last_number (length n.parts)) (flat_map part_text n.parts) ∙ ap (λ t. o ++ t) (sym (text_Node n) ∙ ap part_text (sym is))
  where
    four : (o m a b c : List ℕ) → o ++ m ++ a ++ b ++ c ≡ o ++ (m ++ a ++ b ++ c)
    four o m a b c = simp append_assoc

-- all lines but the last
pub lines_pushed : (o j k a q t b s n w m x p d e o1 o2 o3 o4 o5 o6 o7 o8 o9 o10 o11 o12 o13 : List ℕ) → o1 ≡ o ++ j → o2 ≡ o1 ++ k → o3 ≡ o2 ++ a → o4 ≡ o3 ++ (q ++ t) → o5 ≡ o4 ++ b → o6 ≡ o5 ++ (q ++ s) → o7 ≡ o6 ++ n → o8 ≡ o7 ++ w → o9 ≡ o8 ++ m → o10 ≡ o9 ++ x → o11 ≡ o10 ++ p → o12 ≡ o11 ++ d → o13 ≡ o12 ++ e
    → o13 ≡ o ++ ((j ++ k ++ a ++ q ++ t ++ b ++ q) ++ (s ++ n ++ w ++ m ++ x ++ p) ++ d ++ e)
lines_pushed o j k a q t b s n w m x p d e o1 o2 o3 o4 o5 o6 o7 o8 o9 o10 o11 o12 o13 h1 h2 h3 h4 h5 h6 h7 h8 h9 h10 h11 h12 h13 =
    rw (h13, h12, h11, h10, h9, h8, h7, h6, h5, h4, h3, h2, h1) (simp append_assoc)

pub end_pushed : (l a b c l1 l2 l3 : List ℕ) → l1 ≡ l ++ a → l2 ≡ l1 ++ b → l3 ≡ l2 ++ c → l3 ≡ l ++ (a ++ b ++ c)
end_pushed l a b c l1 l2 l3 h1 h2 h3 = rw (h3, h2, h1) (simp append_assoc)
