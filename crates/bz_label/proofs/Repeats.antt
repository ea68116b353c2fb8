-- The text without a repeated name, as a function, is the one that the condition describes.
use Rattle.bz_label.proofs.Words.{[], ◌&&◌, ◌++◌, ◌+◌, ◌-◌, ◌||◌, ◌∙◌, ◌∷◌, ◌≡◌, after_colon, after_slashes, and_from, and_parts, ap, append_assoc, are_whole, arith, before_colon, before_slashes, Bool, Bytes, bytes_eq, bytes_eq-Decides, cases_Bool, codes, drop, ends_is, ends_with, eqb-true, false, false_from_ne_true, has_colon, has_slash, inl, inr, is_at, is_colon, is_empty, is_path, is_repeated, is_repository, is_repository_name, is_slash, IsRepeat, IsRepository, IsUnrepeated, Label, last_piece, length, list_any-append, nat_eq, not, or_parts, refl, repeat, stays, subst, suc, suffix_len, sym, take, take-append-drop, true, true≢false, unrepeated, unsigned_Decides, ℕ}
use Rattle.bz_label.proofs.Colons.{cut_at_colon, halves, no_colon}
use Rattle.bz_label.proofs.Equal.{equal_texts}
use Rattle.bz_label.proofs.Shapes.{both_same, if_true, if_false, plain_colonless, package_colonless, repository_slashless, repository_holds, repository_from, whole_from, whole_kept, or_none}

-- ---- what is around the first two slashes

pub front_slashes : (a b : Bytes) → has_slash a ≡ false → before_slashes (a ++ codes "//" ++ b) ≡ a
front_slashes [] b h = refl
front_slashes (c ∷ []) b h = let p : (is_slash c ≡ false) × (false ≡ false) = or_parts (is_slash c) false h in rw p.0 refl
front_slashes (c ∷ d ∷ a) b h = let p : (is_slash c ≡ false) × (has_slash (d ∷ a) ≡ false) = or_parts (is_slash c) (has_slash (d ∷ a)) h in rw p.0 (ap (λ z. c ∷ z) (front_slashes (d ∷ a) b p.1))

pub two_more : (n : ℕ) → suc n + 2 ≡ suc (n + 2)
two_more n = omega arith

pub dropped : (a b : Bytes) → drop (length a + 2) (a ++ codes "//" ++ b) ≡ b
dropped [] b = refl
dropped (c ∷ a) b = rw (two_more (length a)) (dropped a b)

-- ---- a repeat, both ways

name_colonless : (s : Bytes) → (is_empty s || is_repository_name s) ≡ true → has_colon s ≡ false
name_colonless [] h = refl
name_colonless (c ∷ s) h = plain_colonless (c ∷ s) (and_parts _ _ h).1

repository_colonless : (s : Bytes) → is_repository s ≡ true → has_colon s ≡ false
repository_colonless [] h = refl
repository_colonless (c ∷ s) h =
    let p = and_parts (is_at c) (is_empty s || is_repository_name s) h in
    or_none (is_colon c) (has_colon s) (ap is_colon (eqb-true c 64 p.0)) (name_colonless s p.1)

-- what a repeat is, part by part
record Repeated (front name : Bytes) : Type 0 where
  fits : are_whole (before_slashes front) (after_slashes front) name ≡ true
  last : last_piece (after_slashes front) ≡ name
  spelled : front ≡ before_slashes front ++ codes "//" ++ after_slashes front

repeated : (front name : Bytes) → is_repeated front name ≡ true → Repeated front name
repeated front name h =
    let repository = before_slashes front in
    let path = after_slashes front in
    let whole = are_whole repository path name in
    let last = bytes_eq (last_piece path) name in
    let all = and_parts (whole && last) (bytes_eq front (repository ++ (codes "//" ++ path))) h in
    let both = and_parts whole last all.0 in
    record { fits = both.0; last = equal_texts (last_piece path) name both.1; spelled = equal_texts front _ all.1 ∙ sym (append_assoc repository (codes "//") path) }

-- what is before a repeated name
repeated_repository : (front name : Bytes) → Repeated front name → IsRepository (before_slashes front)
repeated_repository front name r =
    repository_from (before_slashes front) (and_parts (is_repository (before_slashes front)) (is_empty (after_slashes front) || is_path (after_slashes front))
    (and_parts (is_repository (before_slashes front) && (is_empty (after_slashes front) || is_path (after_slashes front))) (is_path name) r.fits).0).0

pub path_colon : (s : Bytes) → is_path (after_colon s) ≡ true → has_colon s ≡ true
path_colon s h = elim (cases_Bool (has_colon s)) [
  | inl w ↦ w
  | inr w ↦ absurd (true≢false (sym h ∙ ap is_path (no_colon s w)))
]

repeated_path : (front name : Bytes) → Repeated front name → is_path name ≡ true
repeated_path front name r = (and_parts (is_repository (before_slashes front) && (is_empty (after_slashes front) || is_path (after_slashes front))) (is_path name) r.fits).1

found : (s : Bytes) → is_repeated (before_colon s) (after_colon s) ≡ true → (label : Label) × IsRepeat s label × (before_colon s ≡ label.repository ++ codes "//" ++ label.package)
found s h =
    let front = before_colon s in
    let name = after_colon s in
    let repository = before_slashes front in
    let path = after_slashes front in
    let r = repeated front name h in
    let text : s ≡ (repository ++ codes "//") ++ (path ++ 58 ∷ name) = halves s (path_colon s (repeated_path front name r)) ∙ ap (λ z. z ++ 58 ∷ name) r.spelled ∙ append_assoc (repository ++ codes "//") path (58 ∷ name) in (
      record { repository = repository; «package» = path; name = name },
      record { written = whole_from s repository (path ++ 58 ∷ name) path name text refl r.fits; name = r.last },
      r.spelled,
    )

pub front_colonless : (repository path : Bytes) → IsRepository repository → has_colon path ≡ false → has_colon (repository ++ codes "//" ++ path) ≡ false
front_colonless repository path r h =
    list_any-append is_colon (repository ++ codes "//") path
    ∙ or_none _ _ (list_any-append is_colon repository (codes "//") ∙ or_none _ _ (repository_colonless repository (repository_holds repository r)) refl) h

-- a text that is cut at its first two slashes
pub slashes_cut : (front repository path : Bytes) → has_slash repository ≡ false → front ≡ repository ++ codes "//" ++ path → (before_slashes front ≡ repository) × (after_slashes front ≡ path)
slashes_cut front repository path h e =
    let a : before_slashes front ≡ repository = ap before_slashes e ∙ front_slashes repository path h in
    (a, ap (λ z. drop (length z + 2) front) a ∙ ap (drop (length repository + 2)) e ∙ dropped repository path)

pub and_true : (x y : Bool) → y ≡ true → (x && y) ≡ x
and_true true y h = h
and_true false y h = refl

pub repeated_cut : (front repository path name : Bytes) → has_slash repository ≡ false → front ≡ repository ++ codes "//" ++ path → (are_whole repository path name && bytes_eq (last_piece path) name) ≡ is_repeated front name
repeated_cut front repository path name h e =
    let cut = slashes_cut front repository path h e in
    sym (both_same (λ x y. are_whole x y name && bytes_eq (last_piece y) name && bytes_eq front (x ++ (codes "//" ++ y))) cut.0 cut.1
    ∙ and_true _ _ ((bytes_eq-Decides _ _).1 (e ∙ append_assoc repository (codes "//") path)))

is_found : (s : Bytes) (label : Label) → IsRepeat s label → (is_repeated (before_colon s) (after_colon s) ≡ true) × (before_colon s ≡ label.repository ++ codes "//" ++ label.package)
is_found s label r =
    let repository = label.repository in
    let path = label.package in
    let cut = (cut_at_colon s (repository ++ codes "//" ++ path) label.name (whole_kept s label r.written) (front_colonless repository path r.written.repository (package_colonless path r.written.package))).1 in (
      both_same is_repeated cut.1 cut.2 ∙ sym (repeated_cut _ repository path label.name (repository_slashless repository r.written.repository) refl)
          ∙ and_from _ _ (and_from _ _ (and_from _ _ (repository_holds repository r.written.repository) r.written.package) r.written.name) ((bytes_eq-Decides _ _).1 r.name),
      cut.1,
    )

-- what is the text without a repeated name is what the function gives, and the other way
pub the_unrepeated : (s short : Bytes) → IsUnrepeated s short → short ≡ unrepeated s
the_unrepeated s short (repeat label r e) = let f = is_found s label r in sym (if_true _ _ _ f.0 ∙ f.1 ∙ sym e)
the_unrepeated s short (stays none e) = e ∙ sym (if_false _ _ _ (false_from_ne_true _ (λ t. let f = found s t in none f.0 f.1)))

pub is_unrepeated : (s : Bytes) → IsUnrepeated s (unrepeated s)
is_unrepeated s = elim (cases_Bool (is_repeated (before_colon s) (after_colon s))) [
  | inl w ↦ let f = found s w in repeat f.0 f.1 (if_true _ _ _ w ∙ f.2)
  | inr w ↦ stays (λ label r. true≢false (sym (is_found s label r).0 ∙ w)) (if_false _ _ _ w)
]

pub unrepeated_means : (s short : Bytes) → short ≡ unrepeated s → IsUnrepeated s short
unrepeated_means s short e = subst (IsUnrepeated s) (sym e) (is_unrepeated s)

-- ---- where nothing is repeated

pub colonless_stays : (s : Bytes) → has_colon s ≡ false → s ≡ unrepeated s
colonless_stays s h = sym (if_false _ _ _ (false_from_ne_true _ (λ t. true≢false (sym (path_colon s (repeated_path _ _ (repeated (before_colon s) (after_colon s) t))) ∙ h))))

pub other_stays : (s front name : Bytes) → before_colon s ≡ front → after_colon s ≡ name → is_repeated front name ≡ false → s ≡ unrepeated s
other_stays s front name b a h = sym (if_false _ _ _ (both_same is_repeated b a ∙ h))

pub repeat_goes : (s front name : Bytes) → before_colon s ≡ front → after_colon s ≡ name → is_repeated front name ≡ true → front ≡ unrepeated s
repeat_goes s front name b a h = sym (if_true _ _ _ (both_same is_repeated b a ∙ h) ∙ b)

-- no two slashes, and another end
pub repeated_uncut : (front name : Bytes) → ((repository path : Bytes) → has_slash repository ≡ false → front ≡ repository ++ codes "//" ++ path → ⊥) → false ≡ is_repeated front name
repeated_uncut front name none = sym (false_from_ne_true _ (λ t. let r = repeated front name t in none _ _ (repository_slashless _ (repeated_repository front name r)) r.spelled))

last_cut : (path : Bytes) → (front : Bytes) × (path ≡ front ++ last_piece path)
last_cut path = (take (length path - suffix_len (λ x. not (is_slash x)) path) path, sym (take-append-drop (length path - suffix_len (λ x. not (is_slash x)) path) path))

pub other_end : (front name : Bytes) (ends : Bool) → ends ≡ ends_with nat_eq front name → ends ≡ false → false ≡ is_repeated front name
other_end front name ends w n = sym (false_from_ne_true _ (λ t.
    let r = repeated front name t in
    let path = after_slashes front in
    let cut = last_cut path in
    let before = before_slashes front ++ codes "//" in
    let all : front ≡ (before ++ cut.0) ++ name = r.spelled ∙ ap (λ z. before ++ z) (cut.1 ∙ ap (λ z. cut.0 ++ z) r.last) ∙ sym (append_assoc before cut.0 name) in
    true≢false (sym ((ends_is unsigned_Decides front name ends w).1 (before ++ cut.0) all) ∙ n)))
