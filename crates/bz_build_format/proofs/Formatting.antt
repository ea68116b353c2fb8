-- A formatted text is formatted to itself, and says what the text says that it was made of.
use Rattle.bz_build_format.proofs.Words.{◌∙◌, ◌≡◌, ◌≤◌, ap, BuildLayoutIsBuild, BuildViews, Bytes, bzl_formatted, BzlFixedPoint, depth_limit, depth_of, Err, FixedPoint, flags, FlagsKeepLayout, FormatsBzlTo, formatted_tree, gives, IfOk, IsProper, IsProperBuild, Item, KeepsProgram, laid_out, Lasts, layout, LayoutIsAccepted, LayoutReadsBack, length, limit, List, Node, None, Ok, OneBzlReading, OneReading, Option, program, Reads, ReadsBzl, refl, Result, subst, sym, tidied, token_times, view_of, ViewsAreProper, ViewsKeepPrograms, whole_grammar, WritingKeepsProgram, written}
use Rattle.bz_value.specs.Counted.{times}
use Rattle.bz_hosts.specs.Kept.{CommentsKept}
use Rattle.bz_passes.specs.Laws.{BuildStays, LevelKeepsComments, LevelKeepsProgram, LevelStays, ProperStays, TidySettles, TidyStays, TidyingKeepsComments}
use Rattle.bz_passes.specs.Programs.{KeptProgramsKeepTokens, TidyingKeepsProgram}
use Rattle.bz_build_format.proofs.Writes.{limited, IsGiven, given}

-- the text of the layout of a proper value, which is these items, reads as its tree
pub layout_read : LayoutIsAccepted → (text : Bytes) (items file : List Item) → items ≡ file → IsProper file → text ≡ layout items → length (layout items) ≤ limit → depth_of (laid_out items) ≤ depth_limit
    → ReadsBzl text (laid_out file)
layout_read accepted text items file same proper is short shallow =
    subst (λ (xs : List Item). ReadsBzl text (laid_out xs)) same
    (subst (λ (t : Bytes). ReadsBzl t (laid_out items)) (sym is) (accepted items (subst (λ (xs : List Item). IsProper xs) (sym same) proper) short shallow))

-- it reads as the tree of the layout of the value tidied, which says just that
pub read_back : LayoutIsAccepted → BuildLayoutIsBuild → LayoutReadsBack → ProperStays → BuildStays → TidySettles → (items : List Item) (text : Bytes) (requested printed : Option Bytes) → IsProperBuild items
    → written items requested ≡ gives text printed → Reads text (laid_out (tidied items)) × (view_of (laid_out (tidied items)) ≡ tidied items)
read_back accepted build back stays build_stays settled items text requested printed proper e =
    let tidy : List Item = tidied items in
    let good : IsProper tidy = stays whole_grammar items proper.0 in
    let is : IsGiven items text requested printed = given items text requested printed e in
    let reads : ReadsBzl text (laid_out tidy) = layout_read accepted text tidy tidy refl good is.layout_is is.long is.deep in
    ((record { legal = reads.0; build = build tidy (build_stays items proper.1) }, reads.1, reads.2), back tidy good ∙ settled items)

pub written_program : OneReading → LayoutIsAccepted → BuildLayoutIsBuild → LayoutReadsBack → ProperStays → BuildStays → TidySettles → TidyingKeepsProgram → WritingKeepsProgram
written_program one accepted build back stays build_stays settled kept items text printed proper e tree reads =
    let own = read_back accepted build back stays build_stays settled items text printed printed proper e in
    subst (KeepsProgram items) (sym (ap view_of (one text tree (laid_out (tidied items)) reads own.0) ∙ own.1)) (kept items)

pub formatted_again : OneReading → ViewsAreProper → BuildViews → CommentsKept → LayoutIsAccepted → BuildLayoutIsBuild → LayoutReadsBack → ProperStays → BuildStays → TidySettles → TidyStays → TidyingKeepsComments
    → TidyingKeepsProgram → KeptProgramsKeepTokens → ViewsKeepPrograms → FixedPoint
formatted_again one proper build_view kept accepted build back stays build_stays settles tidy_stays comments program tokens trees text formatted formats =
    let tree : Node = formats.0 in
    let items : List Item = view_of tree in
    let new : Node = laid_out (tidied items) in
    let (reads, seen) = read_back accepted build back stays build_stays settles items formatted None None (proper tree formats.1.0.legal, build_view tree formats.1.0.build) (sym formats.2) in
    let valued : (t u : Node) → Reads text t → Reads formatted u → view_of u ≡ tidied (view_of t) =
    λ t u h i. ap view_of (one formatted u new i reads) ∙ seen ∙ ap (λ (n : Node). tidied (view_of n)) (one text tree t formats.1 h) in
    let same : (t u : Node) → Reads text t → Reads formatted u → KeepsProgram (view_of t) (view_of u) =
    λ t u h i. subst (KeepsProgram (view_of t)) (sym (valued t u h i)) (program (view_of t)) in
    record {
      given = formats;
      again = (new, reads, formats.2 ∙ sym (ap (λ (xs : List Item). written xs None) seen ∙ ap (λ (xs : List Item). limited (depth_of (laid_out xs)) (layout xs) None) (tidy_stays items)));
      value = valued;
      comments = λ t u h i comment.
          sym (kept u i.0.legal comment) ∙ ap (times comment) (valued t u h i) ∙ comments comment (view_of t) ∙ kept t h.0.legal comment;
      program = same;
      tokens = λ t u h i class word other.
          ap (token_times class word) (sym (trees u)) ∙ tokens (view_of t) (view_of u) (same t u h i) class word other ∙ ap (token_times class word) (trees t);
    }

-- what holds of each text that is given
pub given_so : {E : Type 0} (Answers : Result Bytes E → Type 0) (Is : Bytes → Type 0) → ((formatted : Bytes) → Answers (Ok formatted) → Is formatted) → (result : Result Bytes E) → Answers result → IfOk result Is
given_so Answers Is all (Ok formatted) h = all formatted h
given_so Answers Is all (Err fault) h = tt

-- ---- .bzl files

-- The layout of what a text says, levelled or not, is its formatted text.
pub laid_out_given : FlagsKeepLayout → ViewsAreProper → LayoutIsAccepted → LayoutReadsBack → (text formatted : Bytes) (tree : Node) (items : List Item) → ReadsBzl text tree → items ≡ view_of tree
    → formatted ≡ layout items → length (layout items) ≤ limit → depth_of (laid_out items) ≤ depth_limit → FormatsBzlTo text (Ok formatted)
laid_out_given keeps proper accepted back text formatted tree items reads says is short shallow =
    let good : IsProper items = subst (λ (xs : List Item). IsProper xs) (sym says) (proper tree reads.0) in
    let same = (keeps items).0 in
    let same_tree = (keeps items).1 in
    let again : ReadsBzl (layout (flags items)) (laid_out (flags items)) =
    subst (λ (t : Bytes). ReadsBzl t (laid_out (flags items))) (sym same) (subst (λ (n : Node). ReadsBzl (layout items) n) (sym same_tree) (accepted items good short shallow)) in
    let lasts : Lasts tree = subst (λ (xs : List Item). ReadsBzl (layout (flags xs)) (laid_out (flags xs)) × (view_of (laid_out (flags xs)) ≡ flags xs)) says (again, ap view_of same_tree ∙ back items good) in
    (tree, reads, is ∙ sym same ∙ ap (λ (xs : List Item). layout (flags xs)) says, subst (λ (t : Bytes). length t ≤ limit) (sym is) short, lasts)

pub bzl_formatted_again : OneBzlReading → CommentsKept → LevelStays → LevelKeepsComments → LevelKeepsProgram → ViewsKeepPrograms → BzlFixedPoint
bzl_formatted_again one kept level_stays level_keeps level_program trees text formatted formats =
    let tree : Node = formats.0 in
    let lasts : Lasts tree = formats.4 in
    let new : Node = formatted_tree tree in
    let said : view_of new ≡ flags (view_of tree) = lasts.1 in
    let reads : ReadsBzl formatted new = subst (λ (t : Bytes). ReadsBzl t new) (sym formats.2) lasts.0 in
    let stays : flags (view_of new) ≡ view_of new = ap flags said ∙ level_stays (view_of tree) ∙ sym said in
    let same : formatted ≡ bzl_formatted new = formats.2 ∙ sym (ap layout (stays ∙ said)) in
    let laid_out : formatted_tree new ≡ new = ap laid_out (stays ∙ said) in
    let lasts_again : Lasts new = (subst (λ (n : Node). ReadsBzl (bzl_formatted new) n) (sym laid_out) (subst (λ (t : Bytes). ReadsBzl t new) same reads), ap view_of laid_out ∙ sym stays) in
    let valued : (t u : Node) → ReadsBzl text t → ReadsBzl formatted u → view_of u ≡ flags (view_of t) =
    λ t u h i. ap view_of (one formatted u new i reads) ∙ said ∙ ap (λ (n : Node). flags (view_of n)) (one text tree t formats.1 h) in
    record {
      given = formats;
      again = (new, reads, same, formats.3, lasts_again);
      value = valued;
      comments = λ t u h i comment.
          sym (kept u i.0 comment) ∙ ap (times comment) (valued t u h i) ∙ level_keeps comment (view_of t) ∙ kept t h.0 comment;
      program = λ t u h i. sym (trees u) ∙ ap program (valued t u h i) ∙ level_program (view_of t) ∙ trees t;
    }
