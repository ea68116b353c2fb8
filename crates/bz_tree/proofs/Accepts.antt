-- What the parser reads is a legal tree of the text, and what it refuses has none.
use Rattle.bz_tree.proofs.Words.{[], ◌++◌, ◌<◌, ◌∙◌, ◌∷◌, ◌≡◌, ◌≤◌, ap, arith, both_ways, bzl_shape, cases_lt, done, end, Err, false, Fits, flat_map, has_token, IfErr, inl, inr, is_one_of, IsBuild, IsFile, IsFileOf, IsNonterminal, IsUtf8, Kind, Leaf, leaves_of, leaves_part, Legal, length, limit, List, NoBzlTree, Node, node_spelled, NoTree, or_right, Part, ReadFault, ReadFault as f, Reads, ReadsBzl, refl, Result, Several, spell_node, stmt, subst, sym, take-length, tok, token_leaf, true, ℕ}
use Rattle.std.specs.Str.{IsValidUpTo}
use Rattle.bz_lex.specs.{Leaves.AreLeaves, Leaves.AreCoded, Leaves.NoLeaves, Leaves.spell_leaves, declared.place.Place.TheVariants.Fresh}
use Rattle.bz_lex.proofs.{Coded.leaves_coded, Coded.coded_spelled, Unique.one_lexing, Coming.to_come, Coming.has_end, Coming.all_come}
use Rattle.bz_token.specs.declared.class.Class.{Class}
use Rattle.bz_token.specs.declared.class.Class.TheVariants as c
use Rattle.bz_grammar.specs.Faults.{NoFile, IsOther}
use Rattle.bz_tree.specs.{declared.parsing.Dialect.Dialect, private.Dialects.NoTreeIn, private.Dialects.ReadsIn}
use Rattle.bz_tree.specs.declared.parsing.Dialect.TheVariants as d
use Rattle.bz_grammar.proofs.{Unique.one_bzl_tree, Both.leaves_bzl_legal, Both.legal_leaves}

-- ---- the end of a file

end_among : (x : Part) (ls : List Leaf) → has_token end x ≡ true → has_end (leaves_part x ++ ls) ≡ true
end_among x ls h =
    let w = token_leaf end x h in
    subst (λ (y : Part). has_end (leaves_part y ++ ls) ≡ true) (sym w.1) (end_first w.0 ls w.2)
  where
    end_first : (l : Leaf) (ls : List Leaf) → is_one_of end l ≡ true → has_end (l ∷ ls) ≡ true
    end_first l ls h = by_class l.class refl
      where
        by_class : (k : Class) → l.class ≡ k → has_end (l ∷ ls) ≡ true
        by_class c.End e = rw e refl
        by_class k e = absurd (both_ways false refl (rw e at h))

end_after : (ls ms : List Leaf) → has_end ms ≡ true → has_end (ls ++ ms) ≡ true
end_after [] ms h = h
end_after (l ∷ ls) ms h = or_right _ (has_end (ls ++ ms)) (end_after ls ms h)

end_in : (xs : List Part) → Several (IsNonterminal stmt) (Fits IsNonterminal (tok end done)) xs → has_end (flat_map leaves_part xs) ≡ true
end_in [] h = absurd h
end_in (x ∷ xs) (inl h) = end_among x (flat_map leaves_part xs) h.0
end_in (x ∷ xs) (inr h) = end_after (leaves_part x) (flat_map leaves_part xs) (end_in xs h.1)

file_end : (n : Node) → IsFile n → has_end (leaves_of n) ≡ true
file_end n h = end_in n.parts (subst (λ (kind : Kind). Fits IsNonterminal (bzl_shape kind) n.parts) h.root h.shapes.0)

-- ---- legal trees and their leaves

-- a file of the leaves of a text of characters is a legal tree
pub legal_of : (ls : List Leaf) (n : Node) → IsFileOf ls n → AreLeaves ls → IsUtf8 (spell_leaves ls) → Legal n
legal_of ls n e h u =
    let w = legal_leaves n e.file (subst AreLeaves (sym e.leaves) h) in
    record { file = e.file; gaps = w.0; indents = e.indents; tokens = w.1; coded = subst AreCoded (sym e.leaves) (leaves_coded ls h u); depth = e.depth }

-- a legal tree is a file of its leaves
pub file_of_legal : (n : Node) (ls : List Leaf) → Legal n → leaves_of n ≡ ls → IsFileOf ls n
file_of_legal n ls h e = record { file = h.file; indents = h.indents; leaves = e; depth = h.depth }

-- a legal tree spells a text of characters
pub legal_coded : (n : Node) → Legal n → IsUtf8 (spell_node n)
legal_coded n h = subst IsUtf8 (sym (node_spelled n)) (coded_spelled (leaves_of n) h.coded)

-- ---- texts

pub reads_of : (text : List ℕ) (ls : List Leaf) (n : Node) → AreLeaves ls → spell_leaves ls ≡ text → length text ≤ limit → IsUtf8 text → IsFileOf ls n → ReadsBzl text n
reads_of text ls n h s le u e = (legal_of ls n e h (subst IsUtf8 (sym s) u), node_spelled n ∙ ap spell_leaves e.leaves ∙ s, le)

-- a file of the leaves that come is a tree of the text, since the end is among them
pub tree_of_leaves : (text : List ℕ) (ls : List Leaf) (n : Node) → ls ≡ to_come Fresh text → length text ≤ limit → IsUtf8 text → IsFileOf ls n → ReadsBzl text n
tree_of_leaves text ls n e le u w = elim (all_come text) [
  | inl a ↦ reads_of text (to_come Fresh text) n a.0 a.1 le u (subst (λ (ms : List Leaf). IsFileOf ms n) e w)
  | inr a ↦ absurd (both_ways (has_end (to_come Fresh text)) a.1 (ap has_end (sym (w.leaves ∙ e)) ∙ file_end n w.file))
]

-- the spelling of a tree that a text reads as is within the limit
pub reads_within : (text : List ℕ) (n : Node) → ReadsBzl text n → Legal n × (length (spell_node n) ≤ limit)
reads_within text n r = (r.0, rw r.1 r.2)

pub no_leaves : (text : List ℕ) → NoLeaves text → NoBzlTree text
no_leaves text h n r = h (leaves_of n) (leaves_bzl_legal n r.0) (sym (node_spelled n) ∙ r.1)

pub no_file : (text : List ℕ) (ls : List Leaf) → AreLeaves ls → spell_leaves ls ≡ text → NoFile ls → NoBzlTree text
no_file text ls h s bad n r = bad n (file_of_legal n ls r.0 (one_lexing (leaves_of n) ls (leaves_bzl_legal n r.0) h (sym (node_spelled n) ∙ r.1 ∙ sym s)))

pub no_tree_refused : (text : List ℕ) (ls : List Leaf) → ls ≡ to_come Fresh text → NoFile ls → NoBzlTree text
no_tree_refused text ls e bad = elim (all_come text) [
  | inl a ↦ no_file text (to_come Fresh text) a.0 a.1 (λ n w. bad n (subst (λ (ms : List Leaf). IsFileOf ms n) (sym e) w))
  | inr a ↦ no_leaves text a.0
]

-- a text past the limit has none
pub no_tree_so_long : (text : List ℕ) → limit < length text → NoBzlTree text
no_tree_so_long text h n r = let within = r.2 in omega arith

-- ---- texts that are not UTF-8

one_valid : (text : List ℕ) (n m : ℕ) → IsValidUpTo text n → IsValidUpTo text m → n ≡ m
one_valid text n m a b =
    elim (cases_lt n m) [
      | inl lt ↦ absurd (a.longest m lt b.front)
      | inr le ↦ elim (cases_lt m n) [
        | inl lt ↦ absurd (b.longest n lt a.front)
        | inr ge ↦ omega arith
      ]
    ]

valid_text : (text : List ℕ) (n : ℕ) → IsUtf8 text → IsValidUpTo text n → ⊥
valid_text text n u v = v.longest (length text) v.short (subst IsUtf8 (sym (take-length text)) u)

-- a text that breaks off has none
pub no_tree_coded : (text : List ℕ) (at : ℕ) → IsValidUpTo text at → NoBzlTree text
no_tree_coded text at v n r = valid_text text at (subst IsUtf8 r.1 (legal_coded n r.0)) v

abbrev NotUtf8Exactly : {X : Type 0} → Result X ReadFault → List ℕ → ℕ → Type 0
NotUtf8Exactly result text at = (result ≡ Err (f.NotUtf8 at) → (length text ≤ limit) × IsValidUpTo text at) × ((length text ≤ limit) × IsValidUpTo text at → result ≡ Err (f.NotUtf8 at))

same_at : (X : Type 0) (n at : ℕ) (one other : Result X ReadFault) → one ≡ Err (f.NotUtf8 n) → other ≡ Err (f.NotUtf8 at) → one ≡ other → n ≡ at
same_at X n at one other a b e = cc

pub answered_not_utf8 : {X : Type 0} (text : List ℕ) (n at : ℕ) → length text ≤ limit → IsValidUpTo text n → NotUtf8Exactly {X = X} (Err (f.NotUtf8 n)) text at
answered_not_utf8 {X} text n at le v =
    (λ e. (le, subst (IsValidUpTo text) (same_at X n at (Err (f.NotUtf8 n)) (Err (f.NotUtf8 at)) refl refl e) v), λ w. ap (λ (z : ℕ). Err (f.NotUtf8 z)) (one_valid text n at v w.1))

of_result : {X : Type 0} (result : Result X ReadFault) (at : ℕ) → IfErr result IsOther → result ≡ Err (f.NotUtf8 at) → ⊥
of_result result at h e = let w = subst (λ (z : Result _ ReadFault). IfErr z IsOther) e h in w

pub not_answered : {X : Type 0} (result : Result X ReadFault) (text : List ℕ) (at : ℕ) → IsUtf8 text → IfErr result IsOther → NotUtf8Exactly result text at
not_answered result text at u h = (λ e. absurd (of_result result at h e), λ w. absurd (valid_text text at u w.1))

-- ---- by the sort of files

pub reads_bzl : (dialect : Dialect) (text : List ℕ) (tree : Node) → ReadsIn dialect text tree → ReadsBzl text tree
reads_bzl d.Build text tree r = (r.0.legal, r.1, r.2)
reads_bzl d.Bzl text tree r = r

pub no_tree_in : (dialect : Dialect) (text : List ℕ) → NoBzlTree text → NoTreeIn dialect text
no_tree_in dialect text h n r = h n (reads_bzl dialect text n r)

-- the one tree of the text is none of a BUILD file
pub no_build_tree : (text : List ℕ) (tree : Node) → ReadsBzl text tree → (IsBuild tree → ⊥) → NoTree text
no_build_tree text tree r bad n h = bad (subst IsBuild (one_bzl_tree n tree h.0.legal r.0 (h.1 ∙ sym r.1)) h.0.build)

pub build_reads : (text : List ℕ) (tree : Node) → ReadsBzl text tree → IsBuild tree → Reads text tree
build_reads text tree r b = (record { legal = r.0; build = b }, r.1, r.2)
