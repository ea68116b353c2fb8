-- What a legal file says is proper, and no comment of the file is lost or doubled by it.
use Rattle.bz_hosts.proofs.Words.{[], ◌++◌, ◌+◌, ◌∷◌, ◌≡◌, All-from_recursion, all_but_last, all_joined, AllByRecursion, append_total, AreFine, AreLinesBy, AreTokens, arith, AtParts, Begins, blocks, Bytes, bzl_shape, Class, Class as c, CommentsKept, done, Expr, Fits, flat_map, Groups, groups_fine, groups_front, groups_last, groups_of, indented_lines_before, inl, inr, is_whole_statement, IsCodedLeaf, IsComment, IsLexeme, IsNonterminal, IsProperItem, Item, Item as i, item_amount, items_from, Kind as k, last_group, Leaf, leaves_of, leaves_part, Legal, LegalPart, List, map, no_such, Node, Node', not, one_if, Part, Part as p, ReadStatements, Several, Stands, stated, subst, tok, TokenStands, total, true, view_of, ViewsAreProper, whole_shape, ℕ}
use Rattle.bz_hosts.proofs.{ProperParts.IsLexed, SeenParts.all_parted, Sums.all_blocks, Sums.front_blocks, Sums.part_amount, Sums.leaf_amount, Sums.parts_leaves, HeadParts.after_stmt, KeptValues.lines_amount, KeptValues.statements_as_items, ProperBranches.AllKnown, ProperBranches.before_lines, ProperBranches.before_amount, ProperSuites.part_known, SuiteLines.Lines, InnerParts.ends_line}
use Rattle.bz_grammar.specs.Shapes as s

abbrev AreProper : List Item → Type 0
AreProper items = AllByRecursion IsProperItem items

-- ---- comment lines on their own

blocks_proper : (gs : List (List Bytes)) → Groups gs → AreProper (blocks gs)
blocks_proper [] h = tt
blocks_proper ([] ∷ gs) h = blocks_proper gs h.1
blocks_proper ((text ∷ group) ∷ gs) h = (((λ e. cc), All-from_recursion IsComment (text ∷ group) h.0), blocks_proper gs h.1)

-- ---- leaves that are tokens are lexemes

lexed_in : (class : Class) (token : List ℕ) (ls : List Leaf) → TokenStands class token ls → not (ends_line class) ≡ true → IsLexeme class token
lexed_in c.Newline token ls h e = no_such e
lexed_in c.End token ls h e = no_such e
lexed_in _ token ls h e = h.lexeme

lexed : (ls : List Leaf) → AreTokens ls → AllByRecursion IsLexed ls
lexed [] h = tt
lexed (l ∷ ls) h = (lexed_in l.class l.token ls h.0, lexed ls h.1)

-- ---- the file

statements_proper : (xs : List Expr) → AreLinesBy whole_shape is_whole_statement xs → AreProper (map i.Stmt xs)
statements_proper [] h = tt
statements_proper (x ∷ xs) h = ((h.0, h.1, h.2), statements_proper xs h.3)

module _ (number : Bytes → ℕ) where
  -- the items are proper, and keep all comments
  abbrev Keep : ℕ → ℕ → List Item → Type 0
  Keep gap all items = AreProper items × (gap + total (item_amount number) items ≡ all)

  -- statements and the end, where these lines are before the first of them
  items_proper : (lines : Lines) (xs : List Part) → AreFine lines → Several (IsNonterminal s.stmt) (Fits IsNonterminal (tok s.end done)) xs → AllKnown number xs → AtParts Stands Begins Begins xs
      → Keep (before_amount number xs []) (lines_amount number lines + total (part_amount number) xs) (items_from lines xs)
  items_proper lines [] f h g at_ = absurd h
  items_proper lines (p.Leaf l ∷ []) f (inl h) g at_ =
      let groups : List (List Bytes) = groups_of lines in (
        all_joined IsProperItem (blocks groups) [] (blocks_proper groups (groups_fine lines f)) tt,
        omega (arith, append_total (item_amount number), all_blocks number lines, leaf_amount number l),
      )
  items_proper lines (p.Leaf l ∷ y ∷ xs) f (inl h) g at_ = absurd h.1
  items_proper lines (p.Leaf l ∷ xs) f (inr h) g at_ = no_such h.0
  items_proper lines (Node' kind n r ∷ xs) f (inl h) g at_ = no_such h.0
  items_proper lines (Node' kind n r ∷ xs) f (inr h) g at_ =
      let groups : List (List Bytes) = groups_of lines in
      let fine : Groups groups = groups_fine lines f in
      let after : Lines = indented_lines_before (map stated xs) [] in
      let read : ReadStatements (List Expr) = (stated (Node' kind n r)).statement (last_group groups) after in
      let there : AtParts Stands Begins Begins xs = subst (λ z. AtParts Stands Begins z xs) (after_stmt (Node' kind n r) Begins Begins h.0) at_.1 in
      let one = g.0.statement h.0 at_.0 (last_group groups) after (groups_last groups fine) (before_lines number xs [] g.1 tt) in
      let more = items_proper read.1 xs one.1 h.1 g.1 there in
      let alone : List Item = blocks (all_but_last groups) in
      let statements : List Item = map i.Stmt read.0 in
      let following : List Item = items_from read.1 xs in (
        all_joined IsProperItem alone (statements ++ following) (blocks_proper (all_but_last groups) (groups_front groups fine)) (all_joined IsProperItem statements following (statements_proper read.0 one.0.1) more.0),
        omega (arith, append_total (item_amount number), front_blocks number lines, statements_as_items number read.0),
      )

  all_known : (xs : List Part) → AllByRecursion LegalPart xs → AllByRecursion IsLexed (flat_map leaves_part xs) → AllByRecursion IsCodedLeaf (flat_map leaves_part xs) → AllKnown number xs
  all_known [] h v u = tt
  all_known (x ∷ xs) h v u =
      let a = all_parted IsLexed (leaves_part x) (flat_map leaves_part xs) v in
      let w = all_parted IsCodedLeaf (leaves_part x) (flat_map leaves_part xs) u in
      (part_known number x h.0 a.0 w.0, all_known xs h.1 a.1 w.1)

  view_proper : (n : Node) → Legal n → Keep (before_amount number n.parts []) (before_amount number n.parts [] + total (part_amount number) n.parts) (view_of n)
  view_proper n h =
      let fits : Fits IsNonterminal (bzl_shape k.File) n.parts = subst (λ kd. Fits IsNonterminal (bzl_shape kd) n.parts) h.file.root h.file.shapes.0 in
      let known : AllKnown number n.parts = all_known n.parts h.file.shapes.1 (lexed (leaves_of n) h.tokens) h.coded in
      items_proper (indented_lines_before (map stated n.parts) []) n.parts (before_lines number n.parts [] known tt) fits known h.gaps

pub views_proper : ViewsAreProper
views_proper n h = All-from_recursion IsProperItem (view_of n) (view_proper (λ text. 0) n h).0

pub comments_kept : CommentsKept
comments_kept n h text = omega (arith, (view_proper (one_if text) n h).1, parts_leaves (one_if text) n.parts)
