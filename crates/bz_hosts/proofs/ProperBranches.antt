-- Headers of a legal file with their suites are proper, and no comment of them is lost or doubled.
use Rattle.bz_hosts.proofs.Words.{[], ◌++◌, ◌+◌, ◌∙◌, ◌∷◌, ◌≡◌, All-from_recursion, all_joined, AllByRecursion, Along, alternatives_fit, amount, and_parts, ap, append_total, AreComments, AreFine, AreLinesBy, arith, AtLeaves, AtParts, Begins, Bool, branches, Bytes, bytes_eq-Decides, Class as c, codes, comments_in, else_last, Expr, false, fine_comments, fine_lines, first_seen_gap, first_token_text, Fits, form_amount, form_of_frame, frame, Group, has_token, header_word, HostComments, indented_lines_before, inl, inr, is_alternative, is_header, is_inner_frame, IsComment, IsNonterminal, Kind, Kind as k, Leaf, lines_of, List, map, MaybeComment, no_comments, no_such, Node', Option, or_cases, Part, Part as p, plain, ProperBy, put_header, ReadStatements, refl, Seen, seen, seen_node, Stands, stated, subst, suffix_amount, SuiteRead, sym, total, true, value_fits, whole_shape, ℕ}
use Rattle.bz_hosts.proofs.{Cuts.token, Cuts.kind_cut, InnerParts.is_inner, InnerParts.InLine, InnerParts.in_line, InnerParts.token_inner, KeptParts.KeptPart, KeptParts.AllKept, KeptParts.held, KeptParts.node_kept, KeptParts.token_part, ProperParts.node_proper, QuietGaps.Silent, RowParts.Fit, RowParts.AllFit, SeenParts.Decoded, SeenParts.AllDecoded, SeenParts.all_mapped, SeenParts.node_decoded, Sums.gap_amount, Sums.part_amount, Colons.header_ends, Colons.InHeader, Compounds.First, Compounds.function, Compounds.loop, Compounds.condition, Compounds.Further, Compounds.KnownOf, Compounds.statement, HeadParts.BeginsWith, HeadParts.Headed, KeptGaps.colon_is, KeptValues.stated_amount, KeptValues.lines_amount, Stated.stated_part, ProperValues.AreSome, ProperValues.of_parts, ProperValues.branch_word, ProperValues.others_fit, ProperValues.last_further, ProperValues.suite, ProperValues.suite_line, ProperValues.suite_alternative, ProperValues.suite_begins, ProperValues.suite_proper, SuiteLines.Lines}
use Rattle.bz_grammar.specs.Shapes as s
use Rattle.bz_value.specs.declared.value.Expr.TheVariants as e

-- ---- what is read of the parts of a header

abbrev head_seen : Kind → List Part → Seen
head_seen kind hs = seen_node (frame kind) kind (map seen hs)

word_text : (word : Bytes) (l : Leaf) → has_token (s.one_keyword word) (p.Leaf l) ≡ true → l.token ≡ word
word_text word l h = elim (or_cases (s.is_terminal (s.this c.Keyword word) l) false h) [ inl i ↦ (bytes_eq-Decides l.token word).0 (and_parts _ _ i).1 | inr i ↦ no_such i ]

if_word : (word : Bytes) (hs : List Part) → BeginsWith word hs → header_word (plain (head_seen k.IfStmt hs)) ≡ word
if_word word [] h = absurd h
if_word word (Node' kind n r ∷ hs) h = no_such h
if_word word (p.Leaf l ∷ hs) h = of_parts first_token_text (form_of_frame (frame k.IfStmt) k.IfStmt (map seen (p.Leaf l ∷ hs)) no_comments) ∙ word_text word l h

first_word : {kind : Kind} {word : Bytes} {back : List Part} → First kind word back → (hs : List Part) → BeginsWith word hs → header_word (plain (head_seen kind hs)) ≡ branch_word kind word
first_word function hs h = refl
first_word loop hs h = refl
first_word (condition back) hs h = if_word (codes "if") hs h

first_header : {kind : Kind} {word : Bytes} {back : List Part} → First kind word back → is_header kind ≡ true
first_header function = refl
first_header loop = refl
first_header (condition back) = refl

header_framed : (kind : Kind) → is_header kind ≡ true → is_inner_frame (frame kind) ≡ true
header_framed k.Suite h = no_such h
header_framed _ h = refl

module _ (number : Bytes → ℕ) where
  -- ---- what is read of a part

  -- at least one statement, all of them proper, and what the lines left say is comments; with those of the gap before it these are all
  abbrev IsRead : ℕ → ℕ → ReadStatements (List Expr) → Type 0
  IsRead gap all read = AreSome read.0 × AreFine read.1 × (gap + (stated_amount number read.0 + lines_amount number read.1) ≡ all)

  -- as a statement: all is what is above it, in its gaps, and in the lines after it
  abbrev pub Reads : ℕ → ℕ → (List Bytes → Lines → ReadStatements (List Expr)) → Type 0
  Reads gap own read = (above : List Bytes) (after : Lines) → Group above → AreFine after → IsRead gap (total number above + (own + lines_amount number after)) (read above after)

  -- as a suite, with the suffix of its header
  abbrev pub Ends : Option Bytes → ℕ → (Lines → SuiteRead) → Type 0
  Ends suffix own read =
      MaybeComment suffix
      × ((after : Lines) → AreFine after
      → AreSome (read after).0.0 × Group (read after).0.1 × AreFine (read after).1
      × (suffix_amount number suffix + (stated_amount number (read after).0.0 + (total number (read after).0.1 + lines_amount number (read after).1)) ≡ own + lines_amount number after))

  abbrev pub AsStatement : Part → Type 0
  AsStatement x = IsNonterminal s.stmt x → AtLeaves Stands Begins x → Reads (gap_amount number (seen x).gap) (part_amount number x) (stated x).statement

  abbrev pub AsSuite : Part → Type 0
  AsSuite x = IsNonterminal s.suite x → AtLeaves Stands Along x → Ends (stated x).suffix (part_amount number x) (stated x).suite

  -- what is known of a part
  pub record Known (x : Part) : Type 0 where
    pub decoded : Decoded (seen x)
    pub fit : is_inner x ≡ true → Fit whole_shape x
    pub kept : InLine x → KeptPart number x
    pub silent : Silent x
    pub statement : AsStatement x
    pub suite : AsSuite x

  abbrev pub AllKnown : List Part → Type 0
  AllKnown xs = AllByRecursion Known xs

  pub all_decoded : (xs : List Part) → AllKnown xs → AllDecoded (map seen xs)
  all_decoded [] g = tt
  all_decoded (x ∷ xs) g = (g.0.decoded, all_decoded xs g.1)

  pub all_kept : (xs : List Part) → AllKnown xs → AllByRecursion InLine xs → AllKept number xs
  all_kept [] g h = tt
  all_kept (x ∷ xs) g h = (g.0.kept h.0, all_kept xs g.1 h.1)

  all_fit : (xs : List Part) → AllKnown xs → AllByRecursion InHeader xs → AllFit whole_shape xs
  all_fit [] g n = tt
  all_fit (x ∷ xs) g n = (g.0.fit n.0.1, all_fit xs g.1 n.1)

  -- the lines before the first of these parts, or after all
  pub before_lines : (xs : List Part) (after : Lines) → AllKnown xs → AreFine after → AreFine (indented_lines_before (map stated xs) after)
  before_lines [] after g f = f
  before_lines (x ∷ xs) after g f = subst (λ y. AreFine (lines_of y.gap)) (sym (stated_part x)) (fine_lines (seen x).gap g.0.decoded.coded)

  abbrev pub before_amount : List Part → Lines → ℕ
  before_amount xs after = lines_amount number (indented_lines_before (map stated xs) after)

  -- ---- headers with their suites

  -- alternatives, all of them proper, of which the last may be an else; the same of the lines left and of all comments
  abbrev AreOthers : ℕ → ℕ → ReadStatements (List Expr) → Type 0
  AreOthers gap all read = AreLinesBy whole_shape is_alternative read.0 × (else_last read.0 ≡ true) × AreFine read.1 × (gap + (stated_amount number read.0 + lines_amount number read.1) ≡ all)

  -- of what is read of these parts after a header
  abbrev OthersOf : Kind → List Part → Type 0
  OthersOf kind xs =
      (left after : Lines) → AreFine left → AreFine after
      → AreOthers (before_amount xs after) (lines_amount number left + (total (part_amount number) xs + lines_amount number after)) (branches false kind [] (comments_in left) left (map stated xs) after)

  nothing : (kind : Kind) → OthersOf kind []
  nothing kind left after l f = (tt, refl, l, omega arith)

  after_first : {kind : Kind} {word : Bytes} {back : List Part} → First kind word back → OthersOf k.IfStmt back → OthersOf kind back
  after_first function b = nothing k.Def
  after_first loop b = nothing k.ForStmt
  after_first (condition back) b = b

  -- the gap before these parts is that before a header
  abbrev GapsAt : List Part → List Part → Lines → Type 0
  GapsAt hs xs after = (before_amount xs after ≡ gap_amount number (first_seen_gap (map seen hs))) × (first_seen_gap (map seen xs) ≡ first_seen_gap (map seen hs))

  gaps_there : (word : Bytes) (hs back : List Part) (after : Lines) → BeginsWith word hs → GapsAt hs (hs ++ back) after
  gaps_there word [] back after h = absurd h
  gaps_there word (x ∷ hs) back after h = (ap (λ s. gap_amount number s.gap) (stated_part x), refl)

  silent_mark : (mark : Part) → has_token s.colon_mark mark ≡ true → Silent mark → AtLeaves Stands Along mark → part_amount number mark ≡ 0
  silent_mark mark h i at_ = token_part number mark (token s.colon_mark mark h) ∙ ap (total number) (i (token_inner s.colon_mark mark refl h) at_)

  module _ (kind : Kind) (word : Bytes) (back xs : List Part) (is : is_header kind ≡ true) (h : Headed kind word back xs) (known : KnownOf Known h) (b : OthersOf kind back) (above : List Bytes) (left after : Lines) (a : Group above) (f : AreFine after) where
    abbrev head : Expr
    head = plain (head_seen kind h.front)

    abbrev read : SuiteRead
    read = (stated h.own).suite (indented_lines_before (map stated back) after)

    abbrev comments : HostComments
    comments = record { before = above ++ (head_seen kind h.front).loose; suffix = (stated h.own).suffix }

    abbrev made : List Expr → Expr
    made others = e.Form (suite head read.0.0 read.0.1 comments others)

    abbrev more : ReadStatements (List Expr)
    more = branches false kind [] (comments_in read.1) read.1 (map stated back) after

    -- what is above the header, in its parts and those after it, and in the lines after these
    abbrev all : ℕ
    all = total number above + (total (part_amount number) xs + lines_amount number after)

    decoded : AllDecoded (map seen h.front)
    decoded = all_decoded h.front known.0

    header_proper : ProperBy whole_shape Begins head
    header_proper = node_proper whole_shape (λ kind' ys i. i) value_fits kind (frame kind) refl (header_framed kind is) Begins h.front h.fits decoded (all_fit h.front known.0 h.plain) h.here no_comments false

    header_kept : gap_amount number (head_seen kind h.front).gap + held number (head_seen kind h.front) ≡ total (part_amount number) h.front
    header_kept = node_kept number (frame kind) kind h.front (all_kept h.front known.0 (all_mapped InHeader InLine (λ x i. in_line x i.1) h.front h.plain)) (kind_cut kind h.front h.fits)

    own : Ends (stated h.own).suffix (part_amount number h.own) (stated h.own).suite
    own = known.1.1.0.suite h.suite h.there

    its_suite : AreSome read.0.0 × Group read.0.1 × AreFine read.1 × (suffix_amount number (stated h.own).suffix + (stated_amount number read.0.0 + (total number read.0.1 + lines_amount number read.1)) ≡ part_amount number h.own + before_amount back after)
    its_suite = own.1 (indented_lines_before (map stated back) after) (before_lines back after known.1.1.1 f)

    gaps : GapsAt h.front xs after
    gaps = subst (λ zs. GapsAt h.front zs after) (sym h.cut) (gaps_there word h.front (h.mark ∷ h.own ∷ back) after h.begins)

    made_is : (first : Bool) → branches first kind [] above left (map stated xs) after ≡ (put_header first made more.0, more.1)
    made_is first =
        ap (λ zs. branches first kind [] above left (map stated zs) after) h.cut
        ∙ header_ends first kind above left h.front h.mark h.own back after h.plain (colon_is h.mark h.colon)

    made_proper : (others : List Expr) → AreLinesBy whole_shape is_alternative others → alternatives_fit head others ≡ true → ProperBy whole_shape Begins (made others) × AreComments comments
    made_proper others i j = (
      suite_proper head read.0.0 read.0.1 comments others (is, header_proper, refl, i, j) its_suite.0 (All-from_recursion IsComment read.0.1 its_suite.1),
      (All-from_recursion IsComment comments.before (all_joined IsComment above (head_seen kind h.front).loose a (node_decoded (frame kind) kind (map seen h.front) decoded).loose), own.0),
    )

    made_amount : (others : List Expr) → before_amount xs after + (amount number (made others) + (lines_amount number read.1 + total (part_amount number) back)) ≡ total number above + (stated_amount number others + (total (part_amount number) xs + before_amount back after))
    made_amount others =
        let following : List Part = h.mark ∷ h.own ∷ back in
        omega (
          arith,
          form_amount number (suite head read.0.0 read.0.1 comments others),
          append_total number above (head_seen kind h.front).loose,
          header_kept,
          its_suite.3,
          silent_mark h.mark h.colon known.1.0.silent h.gap,
          gaps.0,
          ap (total (part_amount number)) h.cut ∙ append_total (part_amount number) h.front following,
        )

    others : AreOthers (before_amount back after) (lines_amount number read.1 + (total (part_amount number) back + lines_amount number after)) more
    others = b read.1 after its_suite.2 f

    as_alternative : Further word back → header_word head ≡ word → AreOthers (before_amount xs after) all (branches false kind [] above left (map stated xs) after)
    as_alternative w e =
        let one = made_proper [] tt refl in
        subst (AreOthers (before_amount xs after) all) (sym (made_is false)) (
          (suite_alternative head read.0.0 read.0.1 comments w e, one.0, one.1, others.0),
          last_further (λ zs. (branches false kind [] (comments_in read.1) read.1 (map stated zs) after).0) refl (made []) w (suite_begins head read.0.0 read.0.1 comments (codes "elif") e) others.1,
          others.2,
          omega (arith, made_amount [], others.3),
        )

    as_first : First kind word back → header_word head ≡ branch_word kind word → IsRead (gap_amount number (first_seen_gap (map seen xs))) all (branches true kind [] above left (map stated xs) after)
    as_first w e =
        let one = made_proper more.0 others.0 (others_fit (λ zs. (branches false kind [] (comments_in read.1) read.1 (map stated zs) after).0) refl head w e others.1) in
        subst (IsRead (gap_amount number (first_seen_gap (map seen xs))) all) (sym (made_is true)) (
          (refl, (suite_line head read.0.0 read.0.1 comments more.0 w e, one.0, one.1, tt)),
          others.2,
          omega (arith, made_amount more.0, others.3, gaps.0, ap (gap_amount number) gaps.1),
        )

  -- ---- all headers of a statement

  -- what is read of parts as a statement
  abbrev pub StatementOf : List Part → (List Bytes → Lines → ReadStatements (List Expr)) → Type 0
  StatementOf xs read = Reads (gap_amount number (first_seen_gap (map seen xs))) (total (part_amount number) xs) read

  further : (word : Bytes) (back xs : List Part) → Further word back → (h : Headed k.IfStmt word back xs) → KnownOf Known h → OthersOf k.IfStmt back → OthersOf k.IfStmt xs
  further word back xs w h known b left after l f = as_alternative k.IfStmt word back xs refl h known b (comments_in left) left after (fine_comments left l) f w (if_word word h.front h.begins)

  whole : (kind : Kind) (word : Bytes) (back xs : List Part) → First kind word back → (h : Headed kind word back xs) → KnownOf Known h → OthersOf k.IfStmt back → StatementOf xs (λ above after. branches true kind [] above after (map stated xs) after)
  whole kind word back xs w h known b above after a f = as_first kind word back xs (first_header w) h known (after_first w b) above after after a f w (first_word w h.front h.begins)

  pub header_statement : (kind : Kind) → is_header kind ≡ true → (xs : List Part) → Fits IsNonterminal (s.bzl_shape kind) xs → AllKnown xs → AtParts Stands Begins Begins xs → StatementOf xs (λ above after. branches true kind [] above after (map stated xs) after)
  header_statement kind i xs f g at_ = statement Known (OthersOf k.IfStmt) (λ kind' ys. StatementOf ys (λ above after. branches true kind' [] above after (map stated ys) after)) (nothing k.IfStmt) further whole kind i xs f g at_
