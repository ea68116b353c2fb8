-- The suites of a statement, each with its header: one more, and all of them as one.
use Rattle.bz_hosts.proofs.Words.{[], ◌++◌, ◌∙◌, ◌∷◌, ◌≡◌, ap, append-nil, append_assoc, Bool, branches, Bytes, comments_in, Expr, false, Form, frame, if◌then◌else◌, indented_lines_before, items-the_row-Expr, items_hidden-the_row-Expr-0, Kind, Kind as k, List, map, map-append, Option, Part, plain, ReadStatements, refl, Seen, seen_node, Stated, stated, SuiteRead, sym, true, with_suite}
use Rattle.bz_value.specs.declared.value.Expr.TheVariants as e
use Rattle.bz_value.proofs.FormParts.{items_in}
use Rattle.bz_hosts.specs.private.Gathered.{gathered, with_others}
use Rattle.bz_hosts.proofs.SuiteLines.{Lines}

-- ---- one more

-- a suite with nothing in it but its header
abbrev pub headed : Kind → List Seen → List Bytes → Option Bytes → Form
headed kind parts above suffix = record {
  kind = k.Suite;
  parts = plain (seen_node (frame kind) kind parts) ∷ [];
  seq = record { items = []; end = []; split = false };
  open_break = false;
  comments = record { before = above ++ (seen_node (frame kind) kind parts).loose; suffix = suffix };
}

-- the same suite with these statements and end comments
abbrev pub holding : Form → List Expr → List Bytes → Form
holding f statements ends = record f { seq = record f.seq { items = statements; end = ends } }

pub branch_more : (kind : Kind) (parts : List Seen) (above above' : List Bytes) (left after following lines : Lines) (x : Part) (rest : List Stated) (form : Form) (statements : List Expr) (ends : List Bytes)
    (own own' : List Form) (all : List Expr) (left_of_all : Lines) → following ≡ indented_lines_before rest after → form ≡ headed kind parts above (stated x).suffix
    → statements ≡ form.seq.items ++ ((stated x).suite following).0.0 → ends ≡ ((stated x).suite following).0.1 → lines ≡ ((stated x).suite following).1 → above' ≡ comments_in lines
    → map e.Form own ++ (with_suite false kind parts above left (stated x ∷ rest) after).0 ≡ all → (with_suite false kind parts above left (stated x ∷ rest) after).1 ≡ left_of_all → own' ≡ own ++ holding form statements ends ∷ []
    → (map e.Form own' ++ (branches false kind [] above' lines rest after).0 ≡ all) × ((branches false kind [] above' lines rest after).1 ≡ left_of_all)
branch_more kind parts above above' left after following lines x rest form statements ends own own' all left_of_all b f st en li ab h0 h1 o =
    let own_suite : SuiteRead = (stated x).suite (indented_lines_before rest after) in
    let last : Form = holding (headed kind parts above (stated x).suffix) own_suite.0.0 own_suite.0.1 in
    let more : List Expr = (branches false kind [] (comments_in own_suite.1) own_suite.1 rest after).0 in
    rw (o, st, f, en, ab, li, b) (ap (λ xs. xs ++ more) (map-append e.Form own (last ∷ [])) ∙ (append_assoc (map e.Form own) (e.Form last ∷ []) more ∙ h0), h1)

-- ---- all as one

pub others_put : (f : Form) (others : List Expr) → with_others (e.Form f) others ≡ e.Form (record f { parts = f.parts ++ others })
others_put f others =
    let items : List Expr = items-the_row-Expr _ (items_in (e.Form f)).1 in
    ap (λ ps. e.Form (record f { parts = ps ++ others; seq = record f.seq { items = items } })) (items_hidden-the_row-Expr-0 f.parts)
    ∙ ap (λ qs. e.Form (record f { parts = f.parts ++ others; seq = record f.seq { items = qs } })) (items_hidden-the_row-Expr-0 f.seq.items)

-- the first suite with the alternatives that it has so far and those that are left
abbrev pub Gathers : List Form → Form → List Form → Type 0
Gathers suites f rest = gathered (map e.Form suites) ≡ e.Form (record f { parts = f.parts ++ map e.Form rest }) ∷ []

pub gather_first : (suites rest : List Form) (f : Form) → suites ≡ f ∷ rest → Gathers suites f rest
gather_first suites rest f h = ap (λ fs. gathered (map e.Form fs)) h ∙ ap (λ y. y ∷ []) (others_put f (map e.Form rest))

pub gather_more : (suites rest rest' : List Form) (f next : Form) (parts : List Expr) → rest ≡ next ∷ rest' → parts ≡ f.parts ++ e.Form next ∷ [] → Gathers suites f rest → Gathers suites (record f { parts = parts }) rest'
gather_more suites rest rest' f next parts h i g =
    g ∙ (ap (λ fs. e.Form (record f { parts = f.parts ++ map e.Form fs }) ∷ []) h
    ∙ ap (λ ps. e.Form (record f { parts = ps }) ∷ []) (sym (append_assoc f.parts (e.Form next ∷ []) (map e.Form rest')) ∙ ap (λ ps. ps ++ map e.Form rest') (sym i)))

pub gather_done : (suites rest : List Form) (f : Form) (old new : List Expr) → rest ≡ [] → new ≡ old ++ e.Form f ∷ [] → Gathers suites f rest → new ≡ old ++ gathered (map e.Form suites)
gather_done suites rest f old new h i g =
    i ∙ ap (λ ys. old ++ ys) (sym (g ∙ (ap (λ fs. e.Form (record f { parts = f.parts ++ map e.Form fs }) ∷ []) h ∙ ap (λ ps. e.Form (record f { parts = ps }) ∷ []) (append-nil f.parts))))

-- the same suites, each by itself and as one
abbrev AsOne : ReadStatements (List Expr) → ReadStatements (List Expr) → Type 0
AsOne each one = (gathered each.0 ≡ one.0) × (each.1 ≡ one.1)

by_test : (t : Bool) (v v' w w' : ReadStatements (List Expr)) → AsOne v w → AsOne v' w' → AsOne (if t then v else v') (if t then w else w')
by_test true v v' w w' h g = h
by_test false v v' w w' h g = g

mutual
  pub as_one : (kind : Kind) (ss : List Seen) (above : List Bytes) (left : Lines) (xs : List Stated) (after : Lines) → AsOne (branches false kind ss above left xs after) (branches true kind ss above left xs after)
  as_one kind ss above left [] after = (refl, refl)
  as_one kind ss above left (x ∷ xs) after =
      by_test x.is_colon (with_suite false kind ss above left xs after) (branches false kind (ss ++ x.part ∷ []) above left xs after) (with_suite true kind ss above left xs after) (branches true kind (ss ++ x.part ∷ []) above left xs after)
      (suite_first kind ss above left xs after) (as_one kind (ss ++ x.part ∷ []) above left xs after)

  suite_first : (kind : Kind) (ss : List Seen) (above : List Bytes) (left : Lines) (xs : List Stated) (after : Lines) → AsOne (with_suite false kind ss above left xs after) (with_suite true kind ss above left xs after)
  suite_first kind ss above left [] after = (refl, refl)
  suite_first kind ss above left (x ∷ xs) after = (ap (λ y. y ∷ []) (others_put _ _), refl)
