-- Labels as functions are what the conditions say.
use Rattle.bz_label.proofs.Words.{[], ◌&&◌, ◌++◌, ◌+◌, ◌||◌, ◌↔◌, ◌∙◌, ◌∷◌, ◌≡◌, absolute_label, after_colon, after_slashes, and_from, and_parts, ap, are_alone, are_equal, are_whole, bare_name, before_colon, before_slashes, before_slashes_from, begins_with_at, Bool, both_ways, Bytes, bytes_eq, bytes_eq-Decides, cases_Bool, codes, colon_name, drop, drop_at, eqb-true, false, false_from_ne_true, has_colon, has_slash, has_slashes, inl, inr, is_at, is_colon, is_empty, is_equal, is_own, is_path, is_repository, is_repository_name, is_same, is_slash, IsBareName, IsColonName, IsLabel, IsOwn, IsPackageAlone, IsRepositoryAlone, IsSame, IsShortened, IsTrue, IsUnrepeated, IsWhole, kept_if, Label, label_in, last_piece, length, None, not, not-true, Option, or_parts, other, other_label, own, package_alone, refl, repository_alone, shortened, Some, subst, sym, true, true≢false, whole, ℕ}
use Rattle.std.specs.Option.{option_map_or}
use Rattle.bz_label.proofs.Colons.{IsCutIn, cut_in, halves}
use Rattle.bz_label.proofs.Equal.{equal_texts}
use Rattle.bz_label.proofs.Paths.{joined_exact}
use Rattle.bz_label.proofs.Repeats.{front_slashes, two_more, dropped, and_true, the_unrepeated, is_unrepeated}
use Rattle.bz_label.proofs.Shapes.{if_true, if_false, both_same, or_none, or_right, any_at, path_colonless, package_colonless, name_slashless, repository_slashless, repository_holds, repository_from, whole_after, whole_from, alone_from}

abbrev label_with : Bytes → Bytes → Bytes → Label
label_with repository path name = record { repository = repository; «package» = path; name = name }

same_label : (one two : Label) → one.repository ≡ two.repository → one.package ≡ two.package → one.name ≡ two.name → one ≡ two
same_label one two r p n = ap (λ x. label_with x one.package one.name) r ∙ ap (λ x. label_with two.repository x one.name) p ∙ ap (λ x. label_with two.repository two.package x) n

-- ---- a text around its first two slashes

parted : (s : Bytes) → has_slashes s ≡ true → s ≡ before_slashes s ++ codes "//" ++ after_slashes s
parted [] h = absurd (true≢false (sym h))
parted (c ∷ []) h = absurd (true≢false (sym h))
parted (c ∷ d ∷ s) h = elim (cases_Bool (is_slash c && is_slash d)) [
  | inl w ↦ let p = and_parts (is_slash c) (is_slash d) w in rw w (both_same (λ x y. x ∷ y ∷ s) (eqb-true c 47 p.0) (eqb-true d 47 p.1))
  | inr w ↦ let h' : has_slashes (d ∷ s) ≡ true = rw w at h in rw (w, two_more (length (before_slashes_from d s))) (ap (λ z. c ∷ z) (parted (d ∷ s) h'))
]

slashes_in : (a b : Bytes) → has_slashes (a ++ codes "//" ++ b) ≡ true
slashes_in [] b = refl
slashes_in (c ∷ []) b = or_right _ _ refl
slashes_in (c ∷ d ∷ a) b = or_right _ _ (slashes_in (d ∷ a) b)

and_none : (x y : Bool) → x ≡ false → (x && y) ≡ false
and_none x y h = rw h refl

past : (c : ℕ) (s : Bytes) → is_slash c ≡ false → has_slashes s ≡ false → has_slashes (c ∷ s) ≡ false
past c [] h k = refl
past c (d ∷ s) h k = or_none (is_slash c && is_slash d) (has_slashes (d ∷ s)) (and_none (is_slash c) (is_slash d) h) k

unslashed : (s : Bytes) → has_slash s ≡ false → has_slashes s ≡ false
unslashed [] h = refl
unslashed (c ∷ s) h = let p : (is_slash c ≡ false) × (has_slash s ≡ false) = or_parts (is_slash c) (has_slash s) h in past c s p.0 (unslashed s p.1)

-- a path holds no two slashes in a row
path_unslashed : (s : Bytes) → is_path s ≡ true → has_slashes s ≡ false
path_unslashed s h = false_from_ne_true _ (λ w. ((joined_exact s).0 (and_parts _ _ h).0).single (before_slashes s) (after_slashes s) (parted s w))

-- ---- a text of each form is read as its label

absolute : (current front rest : Bytes) → has_slash front ≡ false → label_in current (front ++ codes "//" ++ rest) ≡ absolute_label front rest
absolute current front rest h =
    let text = front ++ codes "//" ++ rest in
    let f : before_slashes text ≡ front = front_slashes front rest h in
    if_true (has_slashes text) _ _ (slashes_in front rest) ∙ both_same absolute_label f (ap (λ z. drop (length z + 2) text) f ∙ dropped front rest)

whole_found : (current text : Bytes) (label : Label) → IsWhole text label → label_in current text ≡ Some label
whole_found current text label h =
    let front = label.repository in
    let path = label.package in
    let name = label.name in
    let cut = cut_in path name (package_colonless path h.package) in
    ap (label_in current) (whole_after label text h) ∙ absolute current front (path ++ 58 ∷ name) (repository_slashless front h.repository)
    ∙ if_true _ _ _ cut.0
    ∙ both_same (λ x y. kept_if (are_whole front x y) front x y) cut.1 cut.2
    ∙ if_true (are_whole front path name) _ _ (and_from _ _ (and_from _ _ (repository_holds front h.repository) h.package) h.name)

alone_found : (current text : Bytes) (label : Label) → IsPackageAlone text label → label_in current text ≡ Some label
alone_found current text label h =
    let front = label.repository in
    let path = label.package in
    ap (label_in current) h.spelled ∙ absolute current front path (repository_slashless front h.repository)
    ∙ if_false (has_colon path) _ _ (path_colonless path h.package)
    ∙ if_true (are_alone front path) _ _ (and_from _ _ (repository_holds front h.repository) h.package)
    ∙ ap (λ z. Some (label_with front path z)) (sym h.name)

repository_found : (current text : Bytes) (label : Label) → IsRepositoryAlone text label → label_in current text ≡ Some label
repository_found current text label h =
    let name = label.name in
    let slashless : has_slash name ≡ false = not-true _ (and_parts _ _ (and_parts _ _ h.name).0).1 in
    ap (label_in current) h.spelled ∙ if_false (has_slashes (64 ∷ name)) _ _ (past 64 name refl (unslashed name slashless))
    ∙ if_true (is_repository_name name) _ _ h.name
    ∙ ap Some (same_label (label_with (64 ∷ name) [] name) label (sym (h.repository ∙ h.spelled)) (sym h.package) refl)

colon_found : (current text : Bytes) (label : Label) → IsColonName current text label → label_in current text ≡ Some label
colon_found current text label h =
    let name = label.name in
    ap (label_in current) h.spelled ∙ if_false (has_slashes (58 ∷ name)) _ _ (past 58 name refl (path_unslashed name h.name))
    ∙ if_true (is_path name) _ _ h.name
    ∙ ap Some (same_label (label_with [] current name) label (sym h.repository) (sym h.package) refl)

name_found : (current name : Bytes) → is_path name ≡ true → not (begins_with_at name) ≡ true → other_label current name ≡ Some (label_with [] current name)
name_found current [] h b = absurd (true≢false (sym h))
name_found current (first ∷ rest) h b =
    let colon : (is_colon first ≡ false) × (has_colon rest ≡ false) = or_parts (is_colon first) (has_colon rest) (path_colonless (first ∷ rest) h) in
    if_false (is_at first) _ _ (not-true _ b) ∙ if_false (is_colon first) _ _ colon.0 ∙ if_true (is_path (first ∷ rest)) _ _ h

bare_found : (current text : Bytes) (label : Label) → IsBareName current text label → label_in current text ≡ Some label
bare_found current text label h =
    let name = label.name in
    ap (label_in current) h.spelled ∙ if_false (has_slashes name) _ _ (path_unslashed name h.name) ∙ name_found current name h.name h.begins
    ∙ ap Some (same_label (label_with [] current name) label (sym h.repository) (sym h.package) refl)

label_found : (current text : Bytes) (label : Label) → IsLabel current text label → label_in current text ≡ Some label
label_found current text label (whole h) = whole_found current text label h
label_found current text label (package_alone h) = alone_found current text label h
label_found current text label (repository_alone h) = repository_found current text label h
label_found current text label (colon_name h) = colon_found current text label h
label_found current text label (bare_name h) = bare_found current text label h

-- ---- what is read as a label has one of the forms

kept_parts : (good : Bool) (repository path name : Bytes) (label : Label) → kept_if good repository path name ≡ Some label → (good ≡ true) × (label_with repository path name ≡ label)
kept_parts true repository path name label h = (refl, cc)
kept_parts false repository path name label h = cc

absolute_holds : (current text front rest : Bytes) (label : Label) → text ≡ front ++ codes "//" ++ rest → absolute_label front rest ≡ Some label → IsLabel current text label
absolute_holds current text front rest label e h = elim (cases_Bool (has_colon rest)) [
  | inl w ↦
      let path = before_colon rest in
      let name = after_colon rest in
      let k : (are_whole front path name ≡ true) × (label_with front path name ≡ label) = kept_parts _ front path name label (sym (if_true (has_colon rest) _ _ w) ∙ h) in
      whole (subst (IsWhole text) k.1 (whole_from text front rest path name e (halves rest w) k.0))
  | inr w ↦
      let k : (are_alone front rest ≡ true) × (label_with front rest (last_piece rest) ≡ label) = kept_parts _ front rest (last_piece rest) label (sym (if_false (has_colon rest) _ _ w) ∙ h) in
      package_alone (subst (IsPackageAlone text) k.1 (alone_from text front rest (last_piece rest) e refl k.0))
]

name_holds : (current : Bytes) (first : ℕ) (rest : Bytes) (label : Label) → is_at first ≡ false → is_colon first ≡ false → kept_if (is_path (first ∷ rest)) [] current (first ∷ rest) ≡ Some label → IsLabel current (first ∷ rest) label
name_holds current first rest label a c h =
    let k : (is_path (first ∷ rest) ≡ true) × (label_with [] current (first ∷ rest) ≡ label) = kept_parts _ [] current (first ∷ rest) label h in
    subst (IsLabel current (first ∷ rest)) k.1 (bare_name (record { repository = refl; «package» = refl; name = k.0; begins = ap not a; spelled = refl }))

other_holds : (current text : Bytes) (label : Label) → other_label current text ≡ Some label → IsLabel current text label
other_holds current [] label h = absurd (both_ways false refl cc)
other_holds current (first ∷ rest) label h = elim (cases_Bool (is_at first)) [
  | inl a ↦
      let k : (is_repository_name rest ≡ true) × (label_with (first ∷ rest) [] rest ≡ label) = kept_parts _ (first ∷ rest) [] rest label (sym (if_true (is_at first) _ _ a) ∙ h) in
      subst (IsLabel current (first ∷ rest)) k.1 (repository_alone (record { repository = refl; «package» = refl; name = k.0; spelled = ap (λ z. z ∷ rest) (eqb-true first 64 a) }))
  | inr a ↦
      let h' = sym (if_false (is_at first) _ _ a) ∙ h in
      elim (cases_Bool (is_colon first)) [
        | inl c ↦
            let k : (is_path rest ≡ true) × (label_with [] current rest ≡ label) = kept_parts _ [] current rest label (sym (if_true (is_colon first) _ _ c) ∙ h') in
            subst (IsLabel current (first ∷ rest)) k.1 (colon_name (record { repository = refl; «package» = refl; name = k.0; spelled = ap (λ z. z ∷ rest) (eqb-true first 58 c) }))
        | inr c ↦ name_holds current first rest label a c (sym (if_false (is_colon first) _ _ c) ∙ h')
      ]
]

label_holds : (current text : Bytes) (label : Label) → label_in current text ≡ Some label → IsLabel current text label
label_holds current text label h = elim (cases_Bool (has_slashes text)) [
  | inl w ↦ absolute_holds current text (before_slashes text) (after_slashes text) label (parted text w) (sym (if_true (has_slashes text) _ _ w) ∙ h)
  | inr w ↦ other_holds current text label (sym (if_false (has_slashes text) _ _ w) ∙ h)
]

pub label_exact : (current text : Bytes) (label : Label) → IsLabel current text label ↔ (label_in current text ≡ Some label)
label_exact current text label = (label_found current text label, label_holds current text label)

-- a text is one label at most
pub label_once : (current text : Bytes) (one two : Label) → IsLabel current text one → IsLabel current text two → one ≡ two
label_once current text one two h k = let both : Some one ≡ Some two = sym (label_found current text one h) ∙ label_found current text two k in cc

pub read_label : (current text : Bytes) (label : Label) → Some label ≡ label_in current text → IsLabel current text label
read_label current text label e = label_holds current text label (sym e)

pub no_label : (current text : Bytes) → None ≡ label_in current text → (label : Label) → IsLabel current text label → ⊥
no_label current text e label h = let both : ◌≡◌ {A = Option Label} None (Some label) = e ∙ label_found current text label h in absurd cc

-- ---- cut at the first slash, where another one follows it

pub slashes_cut : (current text front rest : Bytes) → has_slash front ≡ false → text ≡ front ++ codes "//" ++ rest → absolute_label front rest ≡ label_in current text
slashes_cut current text front rest h e = sym (ap (label_in current) e ∙ absolute current front rest h)

-- a text that can't be cut so may hold two slashes further on, and is no label then
kept_none : (good : Bool) (repository path name : Bytes) → (good ≡ true → ⊥) → kept_if good repository path name ≡ None
kept_none good repository path name bad = if_false good _ _ (false_from_ne_true good bad)

other_none : (current text : Bytes) → has_slashes text ≡ true → other_label current text ≡ None
other_none current [] w = refl
other_none current (first ∷ rest) w = elim (cases_Bool (is_at first)) [
  | inl a ↦ if_true (is_at first) _ _ a ∙ kept_none _ _ _ _ (λ h. true≢false (sym w ∙ past first rest (ap is_slash (eqb-true first 64 a)) (unslashed rest (name_slashless rest h))))
  | inr a ↦ if_false (is_at first) _ _ a ∙ elim (cases_Bool (is_colon first)) [
    | inl c ↦ if_true (is_colon first) _ _ c ∙ kept_none _ _ _ _ (λ h. true≢false (sym w ∙ past first rest (ap is_slash (eqb-true first 58 c)) (path_unslashed rest h)))
    | inr c ↦ if_false (is_colon first) _ _ c ∙ kept_none _ _ _ _ (λ h. true≢false (sym w ∙ path_unslashed (first ∷ rest) h))
  ]
]

absolute_none : (front rest : Bytes) → is_repository front ≡ false → absolute_label front rest ≡ None
absolute_none front rest h = elim (cases_Bool (has_colon rest)) [
  | inl w ↦ if_true (has_colon rest) _ _ w ∙ if_false _ _ _ (and_none _ _ (and_none _ _ h))
  | inr w ↦ if_false (has_colon rest) _ _ w ∙ if_false _ _ _ (and_none _ _ h)
]

pub slashes_uncut : (current text : Bytes) → ((front rest : Bytes) → has_slash front ≡ false → text ≡ front ++ codes "//" ++ rest → ⊥) → other_label current text ≡ label_in current text
slashes_uncut current text none = elim (cases_Bool (has_slashes text)) [
  | inl w ↦
      let front = before_slashes text in
      other_none current text w
      ∙ sym (if_true (has_slashes text) _ _ w ∙ absolute_none front (after_slashes text) (false_from_ne_true _ (λ good. none front _ (repository_slashless front (repository_from front good)) (parted text w))))
  | inr w ↦ sym (if_false (has_slashes text) _ _ w)
]

-- ---- whether two texts mean the same

is_equal_parts : (one two : Label) → is_equal one two ≡ true → one ≡ two
is_equal_parts one two h =
    let p = and_parts (bytes_eq one.repository two.repository && bytes_eq one.package two.package) (bytes_eq one.name two.name) h in
    let q = and_parts (bytes_eq one.repository two.repository) (bytes_eq one.package two.package) p.0 in
    same_label one two (equal_texts _ _ q.0) (equal_texts _ _ q.1) (equal_texts _ _ p.1)

equal_self : (s : Bytes) → bytes_eq s s ≡ true
equal_self s = (bytes_eq-Decides s s).1 refl

is_equal_self : (label : Label) → is_equal label label ≡ true
is_equal_self label = and_from _ _ (and_from _ _ (equal_self label.repository) (equal_self label.package)) (equal_self label.name)

both_read : (one two : Option Label) → are_equal one two ≡ true → (label : Label) × (one ≡ Some label) × (two ≡ Some label)
both_read (Some one) (Some two) h = (one, refl, ap Some (sym (is_equal_parts one two h)))
both_read (Some one) None h = absurd (true≢false (sym h))
both_read None two h = absurd (true≢false (sym h))

same_holds : (current one two : Bytes) → is_same current one two ≡ true → IsSame current one two
same_holds current one two h = elim (cases_Bool (bytes_eq one two)) [
  | inl w ↦ inl (equal_texts one two w)
  | inr w ↦
      let h' : are_equal (label_in current one) (label_in current two) ≡ true = rw w at h in
      let e : (label : Label) × (label_in current one ≡ Some label) × (label_in current two ≡ Some label) = both_read _ _ h' in
      inr (e.0, label_holds current one e.0 e.1, label_holds current two e.0 e.2)
]

same_found : (current one two : Bytes) → IsSame current one two → is_same current one two ≡ true
same_found current one two (inl e) = ap (λ b. b || are_equal (label_in current one) (label_in current two)) ((bytes_eq-Decides one two).1 e)
same_found current one two (inr l) = or_right _ _ (both_same are_equal (label_found current one l.0 l.1) (label_found current two l.0 l.2) ∙ is_equal_self l.0)

pub same_exactly : (current one two : Bytes) → IsTrue (is_same current one two) ↔ IsSame current one two
same_exactly current one two = (same_holds current one two, same_found current one two)

pub same_means : (current one two : Bytes) (answer : Bool) → answer ≡ is_same current one two → IsTrue answer ↔ IsSame current one two
same_means current one two answer e = subst (λ b. IsTrue b ↔ IsSame current one two) (sym e) (same_exactly current one two)

-- by the labels that were read
pub no_first : (current one two : Bytes) → false ≡ bytes_eq one two → None ≡ label_in current one → false ≡ is_same current one two
no_first current one two d e = sym (or_none (bytes_eq one two) _ (sym d) (ap (λ read. are_equal read (label_in current two)) (sym e)))

pub no_second : (current one two : Bytes) (label : Label) → false ≡ bytes_eq one two → Some label ≡ label_in current one → None ≡ label_in current two → false ≡ is_same current one two
no_second current one two label d e f = sym (or_none (bytes_eq one two) _ (sym d) (both_same are_equal (sym e) (sym f)))

pub both_there : (current one two : Bytes) (label another : Label) → false ≡ bytes_eq one two → Some label ≡ label_in current one → Some another ≡ label_in current two → is_equal label another ≡ is_same current one two
both_there current one two label another d e f = both_same are_equal e f ∙ sym (ap (λ b. b || are_equal (label_in current one) (label_in current two)) (sym d))

-- ---- the shorter form

-- where nothing is before the first two slashes and a colon after them, they are there
slashes_first : (s : Bytes) → is_empty (before_slashes s) ≡ true → has_colon (after_slashes s) ≡ true → has_slashes s ≡ true
slashes_first [] e c = c
slashes_first (a ∷ []) e c = e
slashes_first (a ∷ b ∷ s) e c = elim (cases_Bool (is_slash a && is_slash b)) [
  | inl w ↦ ap (λ x. x || has_slashes (b ∷ s)) w
  | inr w ↦ absurd (true≢false (sym (rw w at e)))
]

nothing : (s : Bytes) → is_empty s ≡ true → s ≡ []
nothing [] h = refl
nothing (c ∷ s) h = absurd (true≢false (sym h))

own_text : (current text : Bytes) → is_own current text ≡ true → text ≡ codes "//" ++ after_slashes text
own_text current text h =
    let rest = after_slashes text in
    let p = and_parts (is_empty (before_slashes text) && has_colon rest) _ h in
    let q = and_parts (is_empty (before_slashes text)) (has_colon rest) p.0 in
    parted text (slashes_first text q.0 q.1) ∙ ap (λ z. z ++ codes "//" ++ rest) (nothing (before_slashes text) q.0)

of_kept : (good : Bool) (current path name : Bytes) → option_map_or (λ (label : Label). bytes_eq label.package current) (kept_if good [] path name) false ≡ (bytes_eq path current && good)
of_kept true current path name = sym (and_true _ _ refl)
of_kept false current path name = sym (both_none (bytes_eq path current))
  where
    both_none : (x : Bool) → (x && false) ≡ false
    both_none true = refl
    both_none false = refl

own_read : (current rest : Bytes) → is_own current (codes "//" ++ rest) ≡ (has_colon rest && (bytes_eq (before_colon rest) current && are_whole [] (before_colon rest) (after_colon rest)))
own_read current rest = elim (cases_Bool (has_colon rest)) [
  | inl w ↦ rw w (of_kept (are_whole [] (before_colon rest) (after_colon rest)) current (before_colon rest) (after_colon rest))
  | inr w ↦ rw w refl
]

pub own_unslashed : (current text : Bytes) → ((rest : Bytes) → text ≡ codes "//" ++ rest → ⊥) → is_own current text ≡ false
own_unslashed current text none = false_from_ne_true _ (λ h. none (after_slashes text) (own_text current text h))

pub own_colonless : (current text rest : Bytes) → text ≡ codes "//" ++ rest → has_colon rest ≡ false → is_own current text ≡ false
own_colonless current text rest e h = ap (is_own current) e ∙ own_read current rest ∙ and_none (has_colon rest) _ h

pub own_cut : (current text rest path name : Bytes) → text ≡ codes "//" ++ rest → IsCutIn rest path name → is_own current text ≡ (bytes_eq path current && are_whole [] path name)
own_cut current text rest path name e cut =
    ap (is_own current) e ∙ own_read current rest ∙ ap (λ b. b && (bytes_eq (before_colon rest) current && are_whole [] (before_colon rest) (after_colon rest))) cut.0
    ∙ both_same (λ x y. bytes_eq x current && are_whole [] x y) cut.1 cut.2

-- the colon and the name are at the end
pub own_end : (text rest path name : Bytes) → text ≡ codes "//" ++ rest → rest ≡ path ++ 58 ∷ name → after_colon rest ≡ name → drop (length path) rest ≡ codes ":" ++ after_colon text
own_end text rest path name e r a =
    ap (drop (length path)) r ∙ drop_at path (58 ∷ name) (length path) refl ∙ ap (λ z. codes ":" ++ z) (sym a ∙ sym (ap after_colon e))

own_label : (current text : Bytes) → is_own current text ≡ true → (label : Label) × IsOwn current text label × (after_colon text ≡ label.name)
own_label current text h =
    let rest = after_slashes text in
    let path = before_colon rest in
    let name = after_colon rest in
    let e : text ≡ codes "//" ++ rest = own_text current text h in
    let p = and_parts (has_colon rest) (bytes_eq path current && are_whole [] path name) (sym (own_read current rest) ∙ sym (ap (is_own current) e) ∙ h) in
    let q = and_parts (bytes_eq path current) (are_whole [] path name) p.1 in
    (label_with [] path name, record { written = whole_from text [] rest path name e (halves rest p.0) q.1; repository = refl; «package» = equal_texts path current q.0 }, ap after_colon e)

own_found : (current text : Bytes) (label : Label) → IsOwn current text label → is_own current text ≡ true
own_found current text label o =
    let rest = label.package ++ 58 ∷ label.name in
    let e : text ≡ 47 ∷ 47 ∷ rest = whole_after label text o.written ∙ ap (λ z. z ++ codes "//" ++ rest) o.repository in
    ap (is_own current) e
    ∙ and_from (has_colon rest) _ (any_at is_colon label.package 58 label.name refl)
    (ap (λ read. option_map_or (λ (l : Label). bytes_eq l.package current) read false) (ap (label_in current) (sym e) ∙ whole_found current text label o.written)
    ∙ (bytes_eq-Decides label.package current).1 o.package)

pub is_shortened : (current text : Bytes) → IsShortened current text (shortened current text)
is_shortened current text = elim (cases_Bool (is_own current text)) [
  | inl w ↦ let o = own_label current text w in own o.0 o.1 (if_true _ _ _ w ∙ ap (λ z. codes ":" ++ z) o.2)
  | inr w ↦ subst (IsShortened current text) (sym (if_false (is_own current text) _ _ w)) (other (λ label o. both_ways _ w (own_found current text label o)) (is_unrepeated text))
]

-- what is the shorter form is what the function gives
the_shortened : (current text short : Bytes) → IsShortened current text short → short ≡ shortened current text
the_shortened current text short (own label o e) =
    let rest = label.package ++ 58 ∷ label.name in
    let text_is : text ≡ 47 ∷ 47 ∷ rest = whole_after label text o.written ∙ ap (λ z. z ++ codes "//" ++ rest) o.repository in
    e ∙ sym (if_true _ _ _ (own_found current text label o) ∙ ap (λ z. codes ":" ++ z) (ap after_colon text_is ∙ (cut_in label.package label.name (package_colonless label.package o.written.package)).2))
the_shortened current text short (other none h) =
    the_unrepeated text short h ∙ sym (if_false _ _ _ (false_from_ne_true _ (λ w. let o = own_label current text w in none o.0 o.1)))

pub shortened_means : (current text short : Bytes) → short ≡ shortened current text → IsShortened current text short
shortened_means current text short e = subst (IsShortened current text) (sym e) (is_shortened current text)

-- ---- a text has one shorter form

pub unrepeated_once : (text one another : Bytes) → IsUnrepeated text one → IsUnrepeated text another → one ≡ another
unrepeated_once text one another h k = the_unrepeated text one h ∙ sym (the_unrepeated text another k)

pub shortened_once : (current text one another : Bytes) → IsShortened current text one → IsShortened current text another → one ≡ another
shortened_once current text one another h k = the_shortened current text one h ∙ sym (the_shortened current text another k)
