-- Each law of tidying is that of flags, of a value with newer kinds, and else that of the passes.
use Rattle.bz_passes.proofs.Words.{[], ◌++◌, ◌∙◌, ◌∷◌, ◌≡◌, All-append, All-from_recursion, ap, ap₂, AreBuild, AreOver, AreTidied, build_grammar, build_values_proper, BuildStays, by_case, by_test, Bytes, cases_Bool, cond-false, cond-true, false, flags, flags_proper, Grammar, has_newer, inl, inr, IsBuildItem, IsProperIn, IsSettled, Item, KeepsProgram, List, passed, PassesKeepProgram, program, ProperStays, subst, sym, tidied, TidiedAlone, TidiedApart, TidyingKeepsComments, TidyingKeepsProgram, TidySettles, TidyStays, times, true, whole_grammar, Window}
use Rattle.bz_passes.proofs.{Counts.flags_comments, Counts.passed_comments, Inner.flags_settled, NewerNodes.are_build, NewerNodes.flags_newer, NewerNodes.has_none, NewerNodes.passed_newer, Pieces.cut_first, Pieces.passed_alone, ProperPasses.passed_proper, SameLists.passed_program, SameSyntax.flags_program, Settling.passed_stays}

by_newer : (P : List Item → Type 0) (items : List Item) → P (flags items) → P (passed items) → P (tidied items)
by_newer P items f p = by_test P (has_newer items) (flags items) (passed items) f p

pub are_level : (items : List Item) → has_newer items ≡ true → tidied items ≡ flags items
are_level items n = cond-true (has_newer items) _ _ n

are_passed : (items : List Item) → has_newer items ≡ false → tidied items ≡ passed items
are_passed items n = cond-false (has_newer items) _ _ n

pub build_passed : (items : List Item) → AreBuild items → tidied items ≡ passed items
build_passed items b = are_passed items (has_none items b)

same_newer : (items : List Item) → has_newer (tidied items) ≡ has_newer items
same_newer items = by_newer (λ z. has_newer z ≡ has_newer items) items (flags_newer items) (passed_newer items)

pub tidy_stays : TidyStays
tidy_stays items = elim (cases_Bool (has_newer items)) [
  | inl t ↦ are_level (tidied items) (same_newer items ∙ t) ∙ (ap flags (are_level items t) ∙ (flags_settled items ∙ sym (are_level items t)))
  | inr f ↦ are_passed (tidied items) (same_newer items ∙ f) ∙ (ap passed (are_passed items f) ∙ (passed_stays items ∙ sym (are_passed items f)))
]

pub tidy_settles : TidySettles
tidy_settles items = by_newer IsSettled items (flags_settled items) (flags_settled _)

pub comments_stay : TidyingKeepsComments
comments_stay text items = by_newer (λ z. times text z ≡ times text items) items (flags_comments text items) (passed_comments text items)

pub program_stays : TidyingKeepsProgram
program_stays items = (
  (λ t. ap program (are_level items t) ∙ flags_program items),
  (λ f. subst (PassesKeepProgram items) (sym (are_passed items f)) (passed_program items)),
)

pub passed_stays_proper : (grammar : Grammar) (items : List Item) → AreBuild items → IsProperIn grammar items → IsProperIn grammar (passed items)
passed_stays_proper build_grammar items b h = passed_proper items h
passed_stays_proper whole_grammar items b h = ((build_values_proper (passed items)).0 (passed_proper items ((build_values_proper items).1 (h, b)))).0

pub proper_stays : ProperStays
proper_stays grammar items h =
    by_case (IsProperIn grammar) (has_newer items) (flags items) (passed items) (λ t. flags_proper grammar items h) (λ f. passed_stays_proper grammar items (are_build items f) h)

pub build_stays : BuildStays
build_stays items b = are_build (tidied items) (same_newer items ∙ has_none items b)

pub tidied_apart : TidiedApart
tidied_apart items others b c first =
    build_passed (items ++ others) (All-append IsBuildItem items others b c)
    ∙ (cut_first items others first ∙ sym (ap₂ (λ a b. a ++ b) (build_passed items b) (build_passed others c)))

pub tidied_alone : TidiedAlone
tidied_alone item b = build_passed (item ∷ []) (All-from_recursion IsBuildItem (item ∷ []) (b, tt)) ∙ passed_alone item

-- where items came at windows of a tidy file
pub windows_tidied : (ws vs : List Window) (old new : List Item) → AreBuild old → AreTidied ws vs old new
    → (before : List Item) → AreBuild before → tidied before ≡ before → AreOver ws before old → (new ≡ tidied old) × AreOver vs before new
windows_tidied ws vs old new b t before c tidy over =
    let own : passed before ≡ before = sym (build_passed before c) ∙ tidy in
    (t.tidy before own over ∙ sym (build_passed old b), t.over before own over)

-- ---- what `tidy` ensures of what it made

module _ (file new : List Item) (made : new ≡ tidied file) where
  pub made_settled : IsSettled new
  made_settled = subst IsSettled (sym made) (tidy_settles file)

  pub made_again : tidied new ≡ new
  made_again = ap tidied made ∙ (tidy_stays file ∙ sym made)

  pub made_comments : (text : Bytes) → times text new ≡ times text file
  made_comments text = ap (times text) made ∙ comments_stay text file

  pub made_program : KeepsProgram file new
  made_program = subst (KeepsProgram file) (sym made) (program_stays file)
