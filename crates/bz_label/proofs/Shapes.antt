-- What the parts of labels hold, and how a text falls into them.
use Rattle.bz_label.proofs.Words.{[], ◌&&◌, ◌++◌, ◌||◌, ◌∙◌, ◌∷◌, ◌≡◌, absent, and_from, and_parts, ap, append_assoc, are_alone, are_whole, arith, Bool, Bytes, canonical_main, canonical_named, codes, eqb-true, false, has_colon, has_slash, if◌then◌else◌, is_barred, is_colon, is_empty, is_path, is_plain, is_repository, is_repository_name, is_slash, IsPackageAlone, IsRepository, IsWhole, Label, last_piece, list_any, main, named, nat_tests, not, not-true, refl, sym, true, ℕ}
use Rattle.bz_label.proofs.Cuts.{cut_once}

pub if_true : {A : Type 0} (b : Bool) (x y : A) → b ≡ true → (if b then x else y) ≡ x
if_true b x y h = rw h refl

pub if_false : {A : Type 0} (b : Bool) (x y : A) → b ≡ false → (if b then x else y) ≡ y
if_false b x y h = rw h refl

pub both_same : {X Y Z : Type 0} (f : X → Y → Z) {h h' : X} {i i' : Y} → h ≡ h' → i ≡ i' → f h i ≡ f h' i'
both_same f {h} {h'} {i} {i'} d e = ap (λ z. f z i) d ∙ ap (λ z. f h' z) e

-- a plain text holds no colon
unbarred : (byte : ℕ) → not (is_barred byte) ≡ true → is_colon byte ≡ false
unbarred byte free = grind (arith, nat_tests)

pub or_none : (x y : Bool) → x ≡ false → y ≡ false → (x || y) ≡ false
or_none x y hx hy = cc

pub plain_colonless : (text : Bytes) → is_plain text ≡ true → has_colon text ≡ false
plain_colonless [] free = refl
plain_colonless (x ∷ xs) free =
    let parts = and_parts (not (is_barred x)) (is_plain xs) free in
    or_none _ _ (unbarred x parts.0) (plain_colonless xs parts.1)

pub path_colonless : (text : Bytes) → is_path text ≡ true → has_colon text ≡ false
path_colonless text path = plain_colonless text (and_parts _ _ path).1

pub package_colonless : (text : Bytes) → (is_empty text || is_path text) ≡ true → has_colon text ≡ false
package_colonless [] path = refl
package_colonless (x ∷ xs) path = path_colonless (x ∷ xs) path

pub name_slashless : (name : Bytes) → is_repository_name name ≡ true → has_slash name ≡ false
name_slashless name good = not-true _ (and_parts _ _ (and_parts _ _ good).0).1

pub repository_slashless : (text : Bytes) → IsRepository text → has_slash text ≡ false
repository_slashless text (absent e) = ap has_slash e
repository_slashless text (main e) = ap has_slash e
repository_slashless text (canonical_main e) = ap has_slash e
repository_slashless text (named name good e) = ap has_slash e ∙ name_slashless name good
repository_slashless text (canonical_named name good e) = ap has_slash e ∙ name_slashless name good

-- a name may begin with @, so that @@REPO is @ and a name
named_at : (name : Bytes) → is_repository_name name ≡ true → is_repository_name (64 ∷ name) ≡ true
named_at name good =
    let slashless : not (has_slash name) ≡ true = (and_parts _ _ (and_parts _ _ good).0).1 in
    and_from _ _ slashless (and_parts _ _ good).1

pub or_right : (x y : Bool) → y ≡ true → (x || y) ≡ true
or_right x y h = grind (arith, nat_tests)

pub repository_holds : (text : Bytes) → IsRepository text → is_repository text ≡ true
repository_holds text (absent e) = ap is_repository e
repository_holds text (main e) = ap is_repository e
repository_holds text (canonical_main e) = ap is_repository e
repository_holds text (named name good e) = ap is_repository e ∙ or_right _ _ good
repository_holds text (canonical_named name good e) = ap is_repository e ∙ named_at name good

named_from : (name : Bytes) → (is_empty name || is_repository_name name) ≡ true → IsRepository (64 ∷ name)
named_from [] good = main refl
named_from (first ∷ rest) good = named (first ∷ rest) good refl

pub repository_from : (text : Bytes) → is_repository text ≡ true → IsRepository text
repository_from [] good = absent refl
repository_from (first ∷ name) good =
    let begins : first ≡ 64 = eqb-true _ _ (and_parts _ _ good).0 in
    rw begins (named_from name (and_parts _ _ good).1)

-- two slashes are cut out in one way
pub slashes_once : (front rest before following : Bytes) → has_slash front ≡ false → has_slash before ≡ false → front ++ 47 ∷ rest ≡ before ++ codes "//" ++ following → (front ≡ before) × (rest ≡ 47 ∷ following)
slashes_once front rest before following hf hb e = cut_once is_slash 47 47 front rest before (47 ∷ following) refl refl hf hb (e ∙ append_assoc before (codes "//") following)

-- the text of a whole label, cut at its two slashes
pub whole_after : (label : Label) (text : Bytes) → IsWhole text label → text ≡ label.repository ++ codes "//" ++ (label.package ++ 58 ∷ label.name)
whole_after label text whole = whole.spelled ∙ append_assoc (label.repository ++ codes "//" ++ label.package) (codes ":") label.name ∙ append_assoc (label.repository ++ codes "//") label.package (codes ":" ++ label.name)

-- and before its name
pub whole_kept : (text : Bytes) (label : Label) → IsWhole text label → text ≡ (label.repository ++ codes "//" ++ label.package) ++ 58 ∷ label.name
whole_kept text label h = h.spelled ∙ append_assoc (label.repository ++ codes "//" ++ label.package) (codes ":") label.name

pub any_at : (p : ℕ → Bool) (xs : Bytes) (x : ℕ) (ys : Bytes) → p x ≡ true → list_any p (xs ++ x ∷ ys) ≡ true
any_at p [] x ys h = ap (λ b. b || list_any p ys) h
any_at p (a ∷ xs) x ys h = or_right _ _ (any_at p xs x ys h)

pub whole_from : (text front rest path name : Bytes) → text ≡ front ++ codes "//" ++ rest → rest ≡ path ++ 58 ∷ name → are_whole front path name ≡ true → IsWhole text (record { repository = front; «package» = path; name = name })
whole_from text front rest path name e r fit =
    let both : (is_repository front && (is_empty path || is_path path)) ≡ true = (and_parts _ _ fit).0 in
    record {
      repository = repository_from front (and_parts _ _ both).0;
      «package» = (and_parts _ _ both).1;
      name = (and_parts _ _ fit).1;
      spelled = e ∙ ap (λ tail. front ++ codes "//" ++ tail) r ∙ sym (append_assoc (front ++ codes "//") path (58 ∷ name)) ∙ sym (append_assoc (front ++ codes "//" ++ path) (codes ":") name);
    }

pub alone_from : (text front path name : Bytes) → text ≡ front ++ codes "//" ++ path → name ≡ last_piece path → are_alone front path ≡ true → IsPackageAlone text (record { repository = front; «package» = path; name = name })
alone_from text front path name e n fit = record { repository = repository_from front (and_parts _ _ fit).0; «package» = (and_parts _ _ fit).1; name = n; spelled = e }
