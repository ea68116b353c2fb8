-- The shapes of BUILD files among those of the whole grammar.
use Rattle.bz_grammar.proofs.Words.{[], ◌<◌, ◌∷◌, ◌≡◌, arith, bzl_shape, Fits, inl, inr, IsNonterminal, Kind, Kind as k, kind_number, LegalBuild, List, Node, Node', nonterminal_has_kind, Part, Part as v, refl, Several, shape, subst, sym, true}
use Rattle.bz_grammar.specs.Shapes as s
use Rattle.bz_grammar.proofs.{Balance.no_such, Newer.AllBuild}

line_kind : (kind : Kind) → nonterminal_has_kind s.stmt kind ≡ true → kind_number kind < kind_number k.Def → kind ≡ k.Line
line_kind k.Line h g = refl
line_kind k.Def h g = absurd (omega (arith, g))
line_kind k.IfStmt h g = absurd (omega (arith, g))
line_kind k.ForStmt h g = absurd (omega (arith, g))
line_kind _ h g = no_such h

only_lines : (K : List Part → Type 0) (ps : List Part) → Several (IsNonterminal s.stmt) K ps → AllBuild ps → Several (IsNonterminal s.line) K ps
only_lines K [] h u = h
only_lines K (x ∷ xs) (inl h) u = inl h
only_lines K (v.Leaf l ∷ xs) (inr h) u = no_such h.0
only_lines K (Node' kind size row ∷ xs) (inr h) u = inr (subst (λ kd. nonterminal_has_kind s.line kd ≡ true) (sym (line_kind kind h.0 u.0.0)) refl, only_lines K xs h.1 u.1)

-- a legal tree of a BUILD file is a file of lines
pub file_lines : (n : Node) → LegalBuild n → Fits IsNonterminal (shape k.File) n.parts
file_lines n h = only_lines (Fits IsNonterminal (s.tok s.end s.done)) n.parts (subst (λ kd. Fits IsNonterminal (bzl_shape kd) n.parts) h.legal.file.root h.legal.file.shapes.0) h.build
