-- No leaves are those of two files, and no text has two legal trees.
use Rattle.bz_grammar.proofs.Words.{◌∙◌, ◌≡◌, ap, arith, depth_of, leaves_of, Legal, LegalBuild, max, Node, one_lexing, OneFile, read_file, same_Some, spell_node, sym}
use Rattle.bz_grammar.proofs.{Spells.node_spelled, Suites.read_complete, Both.leaves_bzl_legal}

pub one_file : OneFile
one_file m n f g a b e =
    let d = max (depth_of m) (depth_of n) in
    same_Some m n (sym (read_complete d m f a (omega arith)) ∙ ap (read_file d) e ∙ read_complete d n g b (omega arith))

-- no text has two legal trees
pub one_bzl_tree : (n m : Node) → Legal n → Legal m → spell_node n ≡ spell_node m → n ≡ m
one_bzl_tree n m h k e = one_file n m h.file k.file h.indents k.indents (one_lexing (leaves_of n) (leaves_of m) (leaves_bzl_legal n h) (leaves_bzl_legal m k) (sym (node_spelled n) ∙ e ∙ node_spelled m))

pub one_tree : (n m : Node) → LegalBuild n → LegalBuild m → spell_node n ≡ spell_node m → n ≡ m
one_tree n m h k e = one_bzl_tree n m h.legal k.legal e
