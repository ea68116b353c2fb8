-- The headers of a statement with their suites, as pieces with the hosts in them.
use Rattle.bz_hosts.proofs.Words.{[], ◌++◌, ◌+◌, ◌∙◌, ◌∷◌, ◌≡◌, AllByRecursion, Along, ap, append-nil, append_assoc, arith, as_bzl, AtLeaves, Bool, branches, Bytes, comments_in, Expr, false, Fits, flat_map, flat_map-append, frame, has_token, header, Hosted, in_compound, in_node, indented_lines_before, is_inner_frame, IsNonterminal, Kind, Leaf, leaves_part, LegalPart, lines_of, List, map, measured, no_such, Node', Option, Page, Part, Part as p, ReadStatements, refl, seen, sizes, Stands, stated, Stretch, subst, suc, suite_there, SuiteRead, sym, true, whole_shape, ℕ}
use Rattle.bz_hosts.proofs.{InnerParts.in_line, InnerParts.inner_legal, InnerParts.token_inner, Nodes.part_regions, Nodes.sizes_joined, Parts.size, Parts.Solid, Parts.part_solid, QuietGaps.part_silent, SuiteLines.gap_of, SuiteLines.Lines, SuiteLines.PieceRead, SuiteLines.with_left, Colons.header_ends, Colons.InHeader, Compounds.KnownOf, HeadParts.Headed, HeadParts.BeginsWith, HostHeaders.header_read, HostHeaders.suite_hosts, HostHeaders.header_piece, HostPieces.Piece, HostPieces.same_piece, HostPieces.both_pieces, HostReads.AllLegal, HostReads.hosts_read, HostSuites.OwnPiece, KeptGaps.colon_is, SuiteHeaders.header_placed, SuiteReads.stated_gap}
use Rattle.bz_grammar.specs.Shapes as s

abbrev as_branches : Bool → Kind → List Bytes → Lines → List Part → PieceRead
as_branches first kind above left xs after = hosts_read (branches first kind [] above left (map stated xs) after)

module _ (page : Page) where
  -- headers from one on
  abbrev pub BranchesPiece : Bool → Kind → List Part → Type 0
  BranchesPiece first kind xs = (n : ℕ) (above : List Bytes) (left : Lines) → Piece page n (n + sizes (map measured xs)) (flat_map leaves_part xs) (in_compound kind n [] (map measured xs)) above (as_branches first kind above left xs)

  -- What is read of these parts where these lines are left before them. Of none nothing is read, and the lines are left.
  abbrev pub More : List Part → ℕ → ℕ → List Stretch → (Lines → PieceRead) → Type 0
  More [] m e sts more = (m ≡ e) × (sts ≡ []) × ((left after : Lines) → with_left [] left ≡ more left after)
  More (x ∷ xs) m e sts more = ((left : Lines) → Piece page m e (flat_map leaves_part (x ∷ xs)) sts (comments_in left) (more left)) × Solid x

  abbrev both_read : List Hosted × Lines → (Lines → PieceRead) → PieceRead
  both_read first more after = with_left (first.0 ++ (more first.1 after).0) (more first.1 after).1

  -- a piece, and what is read of the parts after it
  pub then_more : (n m e : ℕ) (ls : List Leaf) (sts : List Stretch) (group : List Bytes) (read : PieceRead) (back : List Part) (sts' : List Stretch) (more : Lines → PieceRead) → Piece page n m ls sts group read → More back m e sts' more
      → Piece page n e (ls ++ flat_map leaves_part back) (sts ++ sts') group (λ after. both_read (read (indented_lines_before (map stated back) after)) more after)
  then_more n m e ls sts group read [] sts' more h b =
      same_piece page n m e ls (ls ++ []) sts (sts ++ sts') group read (λ after. both_read (read after) more after) b.0 (sym (append-nil ls)) (rw (b.1, append-nil sts) refl) (λ after. rw (sym (b.2 (read after).1 after), append-nil (read after).0) refl) h
  then_more n m e ls sts group read (x ∷ xs) sts' more h b =
      let back : List Leaf = flat_map leaves_part (x ∷ xs) in
      let first : List Hosted × Lines = read (lines_of (gap_of back)) in
      same_piece page n e e (ls ++ back) (ls ++ back) (sts ++ sts') (sts ++ sts') group (both_read first more) (λ after. both_read (read (lines_of (stated x).part.gap)) more after) refl refl refl
      (λ after. ap (λ (g : Bytes). both_read (read (lines_of g)) more after) (stated_gap x (flat_map leaves_part xs) b.1))
      (both_pieces page n m e ls back sts sts' group read (more first.1) h (b.0 first.1))

  -- alternatives, or none
  abbrev pub Alternatives : Kind → List Part → Type 0
  Alternatives kind xs = (m : ℕ) → More xs m (m + sizes (map measured xs)) (in_compound kind m [] (map measured xs)) (λ left. as_branches false kind (comments_in left) left xs)

  pub no_alternatives : (kind : Kind) → Alternatives kind []
  no_alternatives kind m = (omega arith, refl, λ left after. refl)

  abbrev pub FirstSolid : List Part → Type 0
  FirstSolid [] = ⊥
  FirstSolid (x ∷ xs) = Solid x

  pub some_alternatives : (kind : Kind) (xs : List Part) → BranchesPiece false kind xs × FirstSolid xs → Alternatives kind xs
  some_alternatives kind [] w m = absurd w.1
  some_alternatives kind (x ∷ xs) w m = (λ left. w.0 m (comments_in left) left, w.1)

  -- what is known of each part of a statement
  pub record Parted (x : Part) : Type 0 where
    pub suite : IsNonterminal s.suite x → AtLeaves Stands Along x → (n : ℕ) → OwnPiece page n (n + size x) (leaves_part x) (suite_there n (n + size x) x) ((measured x).stretches n) (stated x).suffix (stated x).suite
    pub legal : LegalPart x

  -- what is in a header may be in a line
  header_legal : (xs : List Part) → AllByRecursion Parted xs → AllByRecursion InHeader xs → AllLegal xs
  header_legal [] g n = tt
  header_legal (x ∷ xs) g n = (inner_legal x (in_line x n.0.1) g.0.legal, header_legal xs g.1 n.1)

  one_header : (first : Bool) (kind : Kind) (x : Part) (xs : List Part) (c : Leaf) (own : Part) (back : List Part) → is_inner_frame (frame kind) ≡ true → Fits IsNonterminal (whole_shape kind) (x ∷ xs) → AllLegal (x ∷ xs) → AllByRecursion InHeader (x ∷ xs) → has_token s.colon_mark (p.Leaf c) ≡ true
      → AtLeaves Stands Along (p.Leaf c)
      → ((n : ℕ) → OwnPiece page n (n + size own) (leaves_part own) (suite_there n (n + size own) own) ((measured own).stretches n) (stated own).suffix (stated own).suite) → Alternatives kind back → BranchesPiece first kind (x ∷ xs ++ p.Leaf c ∷ own ∷ back)
  one_header first kind x xs c own back framed fits legal inner i at_ q b n above left =
      let hs : List Part = x ∷ xs in
      let f : ℕ = suc (n + sizes (map measured hs)) in
      let m : ℕ = f + size own in
      let ls : List Leaf = flat_map leaves_part hs ++ c ∷ leaves_part own in
      let suffix : Option Bytes = (stated own).suffix in
      let read : PieceRead = header_read kind (map seen hs) above suffix (stated own).suite in
      let more : Lines → PieceRead = λ left. as_branches false kind (comments_in left) left back in
      let sts : List Stretch = header n f (in_node (frame kind) kind n (map measured hs)) (suite_there f (f + size own) own) ∷ (measured own).stretches f in
      let one : Piece page n m ls sts above read =
      header_piece page kind n m above suffix x xs c (suite_there f (f + size own) own) (leaves_part own) ((measured own).stretches f) (stated own).suite
      f refl framed fits legal (part_regions x legal.0).some (part_silent (p.Leaf c) tt (token_inner s.colon_mark (p.Leaf c) refl i) at_) (q f) in
      let cut : ls ++ flat_map leaves_part back ≡ flat_map leaves_part (hs ++ p.Leaf c ∷ own ∷ back) =
      append_assoc (flat_map leaves_part hs) (c ∷ leaves_part own) (flat_map leaves_part back) ∙ sym (flat_map-append leaves_part hs (p.Leaf c ∷ own ∷ back)) in
      same_piece page n (m + sizes (map measured back)) (n + sizes (map measured (hs ++ p.Leaf c ∷ own ∷ back))) (ls ++ flat_map leaves_part back) (flat_map leaves_part (hs ++ p.Leaf c ∷ own ∷ back))
      (sts ++ in_compound kind m [] (map measured back)) (in_compound kind n [] (map measured (hs ++ p.Leaf c ∷ own ∷ back))) above _ (as_branches first kind above left (hs ++ p.Leaf c ∷ own ∷ back))
      (omega (arith, sizes_joined hs (p.Leaf c ∷ own ∷ back))) cut (sym (header_placed kind n f hs (p.Leaf c) own back refl inner i))
      (λ after.
      let own_read : SuiteRead = (stated own).suite (indented_lines_before (map stated back) after) in
      let others : ReadStatements (List Expr) = branches false kind [] (comments_in own_read.1) own_read.1 (map stated back) after in
      ap hosts_read (header_ends first kind above left hs (p.Leaf c) own back after inner (colon_is (p.Leaf c) i)) ∙ ap (λ (z : List Hosted). with_left z others.1) (suite_hosts first kind (map seen hs) above suffix own_read.0 others.0))
      (then_more n m (m + sizes (map measured back)) ls sts above read back (in_compound kind m [] (map measured back)) more one (b m))

  pub headed : (first : Bool) (kind : Kind) (word : Bytes) (back xs : List Part) → is_inner_frame (frame kind) ≡ true → (h : Headed kind word back xs) → KnownOf Parted h → Alternatives kind back → BranchesPiece first kind xs × FirstSolid xs
  headed first kind word back xs framed h g b =
      subst (λ zs. BranchesPiece first kind zs × FirstSolid zs) (sym h.cut) (at_mark h.front h.mark h.begins h.fits (header_legal h.front g.0 h.plain) h.plain h.colon h.gap)
    where
      at_mark : (front : List Part) (mark : Part) → BeginsWith word front → Fits IsNonterminal (whole_shape kind) front → AllLegal front → AllByRecursion InHeader front → has_token s.colon_mark mark ≡ true → AtLeaves Stands Along mark
          → BranchesPiece first kind (front ++ mark ∷ h.own ∷ back) × FirstSolid (front ++ mark ∷ h.own ∷ back)
      at_mark [] mark w fits legal inner i at_ = absurd w
      at_mark (x ∷ front) (Node' kind' z r') w fits legal inner i at_ = no_such i
      at_mark (x ∷ front) (p.Leaf c) w fits legal inner i at_ = (one_header first kind x front c h.own back framed fits legal inner i at_ (g.1.1.0.suite h.suite h.there) b, part_solid x (as_bzl x legal.0))
