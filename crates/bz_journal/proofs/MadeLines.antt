-- The lines of a value that are other ones than in a tree: with them the tree is that of its layout.
use Rattle.bz_journal.proofs.Words.{[], ◌↔◌, ◌∙◌, ◌∷◌, ◌≡◌, ◌≤◌, ap, AreLinesOf, AreOver, BuildLayoutIsBuild, Bytes, depth_limit, depth_of, gives, IsProperBuild, IsTree, Item, laid_out, layout, LayoutIsAccepted, length, limit, List, Node, OneReading, Option, Part, PartWindow, Reads, refl, spell_node, subst, sym, tidied, Window, with_windows, written, written_given}
use Rattle.bz_grammar.specs.declared.kind.Kind.{Kind}
use Rattle.bz_value.specs.Windows.{AreWithin}

same_node : (a b : Node) → a.kind ≡ b.kind → a.parts ≡ b.parts → a ≡ b
same_node a b kind parts =
    ap (λ (k : Kind). let n : Node = record { kind = k; parts = a.parts } in n) kind ∙ ap (λ (ps : List Part). let n : Node = record { kind = b.kind; parts = ps } in n) parts

-- another tree has the parts of this one exactly where the text stays
pub parts_stay : OneReading → (next tree : Node) (here : Bytes) → next.kind ≡ tree.kind → IsTree next → Reads (spell_node tree) tree → spell_node tree ≡ here
    → (next.parts ≡ tree.parts) ↔ (spell_node next ≡ here)
parts_stay one next tree here kind is_tree reads is = (
  λ same. ap spell_node (same_node next tree kind same) ∙ is,
  λ same. let other : Reads (spell_node tree) next = (is_tree.0, same ∙ sym is, reads.2) in
      ap (λ (n : Node). n.parts) (one (spell_node tree) next tree other reads),
)

-- where the value is written, it gives what the tree spells
pub lines_written : (windows : List PartWindow) (tree : Node) (file : List Item) (printed : Option Bytes) → AreLinesOf windows tree (tidied file)
    → gives (spell_node (with_windows windows tree)) printed ≡ written file printed
lines_written windows tree file printed are = sym (written_given file (tidied file) (spell_node (with_windows windows tree)) refl are.reads.1 are.reads.2 are.deep printed)

-- with windows that make it the layout, the tree is what that reads as
pub lines_read : LayoutIsAccepted → BuildLayoutIsBuild → (windows : List PartWindow) (tree : Node) (items : List Item) → IsProperBuild items → length (layout items) ≤ limit → depth_of (laid_out items) ≤ depth_limit
    → with_windows windows tree ≡ laid_out items → Reads (layout items) (with_windows windows tree)
lines_read accepted build windows tree items own short deep same =
    let reads = accepted items own.0 short deep in
    subst (λ (n : Node). Reads (layout items) n) (sym same) (record { legal = reads.0; build = build items own.1 }, reads.1, reads.2)

-- what came is among the items that are there now
pub are_within : (ws : List Window) (before after : List Item) → AreOver ws before after → AreWithin ws after
are_within [] before after h = tt
are_within (w ∷ ws) before after h = (h.1, are_within ws _ _ h.3)
