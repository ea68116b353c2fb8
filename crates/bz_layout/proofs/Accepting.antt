-- The layout of a proper value is accepted: what is known of each of its statements is known of all lines.
use Rattle.bz_layout.proofs.Words.{[], ◌++◌, ◌∙◌, ◌∷◌, ◌≡◌, ◌≤◌, AllByRecursion, AreIndented, AreLeaves, AreTokens, arith, AtParts, before_next_in, Begins, Bool, Bytes, bzl_shape, comment_lines, depth_limit, depth_of, false, Fits, flat_map, gap_between_in, if◌then◌else◌, indented_lines, inl, inr, IsCodedLeaf, IsComment, IsFile, IsNonterminal, IsProper, IsProperItem, IsUtf8-nil, Item, Item as i, Kind as k, laid_out_in, LayoutIsAcceptedIn, LayoutIsTooDeepIn, leaves_of, leaves_part, left_of, Legal, LegalPart, line_feed, Lines, lines_from_in, List, Node, node_spelled, Part, part_of, recursion_from_All, refl, spell_node, Stands, statement_part, subst, sym, true}
use Rattle.bz_lex.proofs.Unique.{one_lexing}
use Rattle.bz_grammar.proofs.{Both.gaps_by_nodes, Both.leaves_bzl_legal, Unique.one_file}
use Rattle.bz_layout.proofs.{Held.at_parts, Held.parts_hold, Margins.FitsFlush, Margins.first_append, Margins.first_nothing, Margins.first_blank, Margins.lines_fit, GapLines.comments_flush, Spelled.laid_out_spelled, Statements.IsAt, Statements.IsPut, Statements.IsStatement, Statements.statement_is}

-- ---- gaps between items

if_blank : (b : Bool) → FitsFlush (if b then [] else (line_feed ∷ []))
if_blank true = first_nothing
if_blank false = first_blank

-- ---- lines

record AreLines (ps : List Part) : Type 0 where
  legal : AllByRecursion LegalPart ps
  fits : Fits IsNonterminal (bzl_shape k.File) ps
  indented : AreIndented [] ps
  there : AtParts IsPut Begins Begins ps
  tokens_there : AreTokens (flat_map leaves_part ps)

between_fits : (mode : Lines) (x y : Item) → FitsFlush (gap_between_in mode x y)
between_fits mode (i.Block texts) y = first_blank
between_fits Lines.Written (i.Stmt x) y = first_nothing
between_fits Lines.Counted (i.Stmt x) (i.Block texts) = first_blank
between_fits Lines.Counted (i.Stmt x) (i.Stmt y) = if_blank _

module _ (mode : Lines) where
  -- ---- gaps between items

  before_next_fits : (x : Item) (ys : List Item) → FitsFlush (before_next_in mode x ys)
  before_next_fits x [] = first_nothing
  before_next_fits x (y ∷ ys) = between_fits mode x y

  -- ---- lines

  lines_are : (xs : List Item) → AllByRecursion IsProperItem xs → (lines : Bytes) → FitsFlush lines → AreLines (lines_from_in mode lines xs)
  lines_are [] h lines w = record { legal = (tt, tt); fits = inl (refl, tt); indented = (tt, tt); there = (record { stands = (false, w.0.0); coded = (w.0.1, IsUtf8-nil) }, tt); tokens_there = ((refl, refl), tt) }
  lines_are (i.Block texts ∷ xs) h lines w =
      let own : Bytes = comment_lines texts in
      lines_are xs h.1 ((lines ++ own) ++ before_next_in mode (i.Block texts) xs)
      (first_append (lines ++ own) (before_next_in mode (i.Block texts) xs) (first_append lines own w (lines_fit texts (recursion_from_All IsComment texts h.0.1))) (before_next_fits (i.Block texts) xs))
  lines_are (i.Stmt x ∷ xs) h lines w =
      let own : IsStatement (x, part_of mode x) = statement_is mode x h.0.0 h.0.1 h.0.2 in
      let here : IsAt 0 (statement_part 0 lines (x, part_of mode x)) = own.laid 0 lines w in
      let next : Bytes = indented_lines (left_of 0 x) ++ before_next_in mode (i.Stmt x) xs in
      let more : AreLines (lines_from_in mode next xs) = lines_are xs h.1 next (first_append (indented_lines (left_of 0 x)) (before_next_in mode (i.Stmt x) xs) (comments_flush (left_of 0 x) (own.leaves 0)) (before_next_fits (i.Stmt x) xs)) in
      record {
        legal = (here.legal, more.legal);
        fits = inr (here.sort, more.fits);
        indented = (here.indented, more.indented);
        there = (here.there, subst (λ z. AtParts IsPut Begins z (lines_from_in mode next xs)) (sym (here.begins Begins)) more.there);
        tokens_there = here.tokens_then (flat_map leaves_part (lines_from_in mode next xs)) more.tokens_there;
      }

  all_lines : (items : List Item) → IsProper items → AreLines (laid_out_in mode items).parts
  all_lines items h = lines_are items (recursion_from_All IsProperItem items h) [] first_nothing

  file_lines : (items : List Item) → AreLines (laid_out_in mode items).parts → IsFile (laid_out_in mode items)
  file_lines items all = record { root = refl; shapes = (all.fits, all.legal) }

  file_gaps : (items : List Item) → AreLines (laid_out_in mode items).parts → AtParts Stands Begins Begins (laid_out_in mode items).parts
  file_gaps items all = at_parts IsPut Stands (λ here l q. q.stands) Begins Begins (laid_out_in mode items).parts all.there

  -- What is laid out of a proper value is legal, where it is not too deep.
  laid_out_legal : (items : List Item) → IsProper items → depth_of (laid_out_in mode items) ≤ depth_limit → Legal (laid_out_in mode items)
  laid_out_legal items h d =
      let all : AreLines (laid_out_in mode items).parts = all_lines items h in
      record {
        file = file_lines items all;
        gaps = file_gaps items all;
        indents = all.indented;
        tokens = all.tokens_there;
        coded = parts_hold IsPut IsCodedLeaf (λ here l q. q.coded) Begins Begins (laid_out_in mode items).parts all.there;
        depth = d;
      }

  -- So the layout is accepted,
  pub accepted : LayoutIsAcceptedIn mode
  accepted items h n d = (laid_out_legal items h d, laid_out_spelled mode items h, n)

  -- and where it is too deep no tree is read of the layout: it would be this one.
  pub too_deep : LayoutIsTooDeepIn mode
  too_deep items h deep new reads =
      let old : Node = laid_out_in mode items in
      let all : AreLines old.parts = all_lines items h in
      let own : AreLeaves (leaves_of old) = (gaps_by_nodes old (file_lines items all)).0 (file_gaps items all, all.tokens_there) in
      let text : spell_node new ≡ spell_node old = reads.1 ∙ sym (laid_out_spelled mode items h) in
      let leaves : leaves_of new ≡ leaves_of old = one_lexing (leaves_of new) (leaves_of old) (leaves_bzl_legal new reads.0) own (sym (node_spelled new) ∙ text ∙ node_spelled old) in
      let same : new ≡ old = one_file new old reads.0.file (file_lines items all) reads.0.indents all.indented leaves in
      let shallow : depth_of old ≤ depth_limit = subst (λ n. depth_of n ≤ depth_limit) same reads.0.depth in
      omega (arith, shallow, deep)
