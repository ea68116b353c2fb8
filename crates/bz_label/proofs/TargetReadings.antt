-- The target of a text, as a function, is the one that the condition describes.
use Rattle.bz_label.proofs.Words.{[], ◌&&◌, ◌++◌, ◌∙◌, ◌∷◌, ◌≡◌, ◌≤◌, absolute_target, after_colon, and_parts, ap, append_assoc, before_colon, Bool, Bytes, cases_Bool, codes, eqb-true, false, false_from_ne_true, has_colon, inl, inr, is_joined, is_package, is_present, is_slash, IsSpelled, IsTarget, last_piece, le-leb, leb-true, length, nat_le, None, not-true, Option, refl, relative_target, Some, subst, sym, target_if, target_in, target_of, true, true≢false, ℕ}
use Rattle.bz_label.specs.declared.target.Target.{Target}
use Rattle.bz_label.proofs.Colons.{IsCutIn, cut_in, halves}
use Rattle.bz_label.proofs.Shapes.{if_true, if_false, both_same}

-- ---- by what a text begins with, and where its colon is

unslashed_target : (text : Bytes) → ((rest : Bytes) → text ≡ codes "//" ++ rest → ⊥) → target_in text ≡ relative_target text
unslashed_target [] none = refl
unslashed_target (c ∷ []) none = refl
unslashed_target (c ∷ d ∷ rest) none = elim (cases_Bool (is_slash c && is_slash d)) [
  | inl w ↦ let p = and_parts (is_slash c) (is_slash d) w in absurd (none rest (both_same (λ x y. x ∷ y ∷ rest) (eqb-true c 47 p.0) (eqb-true d 47 p.1)))
  | inr w ↦ if_false _ _ _ w
]

relative_cut : (text path word : Bytes) → IsCutIn text path word → relative_target text ≡ target_if path word
relative_cut text path word cut = if_true _ _ _ cut.0 ∙ both_same target_if cut.1 cut.2

absolute_cut : (rest path word : Bytes) → IsCutIn rest path word → absolute_target rest ≡ target_if path word
absolute_cut rest path word cut = if_true _ _ _ cut.0 ∙ both_same target_if cut.1 cut.2

pub plain_cut : (text path word : Bytes) → ((rest : Bytes) → text ≡ codes "//" ++ rest → ⊥) → IsCutIn text path word → target_if path word ≡ target_in text
plain_cut text path word none cut = sym (unslashed_target text none ∙ relative_cut text path word cut)

pub plain_uncut : (text : Bytes) → ((rest : Bytes) → text ≡ codes "//" ++ rest → ⊥) → has_colon text ≡ false → None ≡ target_in text
plain_uncut text none h = sym (unslashed_target text none ∙ if_false _ _ _ h)

pub slashed_cut : (text rest path word : Bytes) → text ≡ codes "//" ++ rest → IsCutIn rest path word → target_if path word ≡ target_in text
slashed_cut text rest path word e cut = sym (ap target_in e ∙ absolute_cut rest path word cut)

pub slashed_uncut : (text rest : Bytes) → text ≡ codes "//" ++ rest → has_colon rest ≡ false → target_if rest (last_piece rest) ≡ target_in text
slashed_uncut text rest e h = sym (ap target_in e ∙ if_false _ _ _ h)

all_three : (a b c : Bool) → (a && b && c) ≡ true → (a ≡ true) × (b ≡ true) × (c ≡ true)
all_three true true true h = (refl, refl, refl)
all_three true true false h = absurd (true≢false (sym h))
all_three true false c h = absurd (true≢false (sym h))
all_three false b c h = absurd (true≢false (sym h))

-- ---- from the condition to the function

module _ (path word : Bytes) (good : is_package path ≡ true) (room : length path ≤ 65536) (present : is_present word ≡ true) where
  made : target_if path word ≡ Some (target_of path word)
  made = rw (good, le-leb (length path) 65536 room, present) refl

  no_colon : has_colon path ≡ false
  no_colon = not-true (has_colon path) (and_parts _ _ good).1

  by_colon : relative_target (path ++ 58 ∷ word) ≡ Some (target_of path word)
  by_colon = relative_cut (path ++ 58 ∷ word) path word (cut_in path word no_colon) ∙ made

  absolute_by_colon : absolute_target (path ++ 58 ∷ word) ≡ Some (target_of path word)
  absolute_by_colon = absolute_cut (path ++ 58 ∷ word) path word (cut_in path word no_colon) ∙ made

  absolute_alone : word ≡ last_piece path → absolute_target path ≡ Some (target_of path word)
  absolute_alone last = if_false (has_colon path) _ _ no_colon ∙ ap (target_if path) (sym last) ∙ made

-- a package doesn't begin with a slash
slashed : (c : ℕ) (path : Bytes) → is_slash c ≡ true → is_joined (c ∷ path) ≡ false
slashed c path w = rw w refl

unslashed : (c : ℕ) (path : Bytes) → is_package (c ∷ path) ≡ true → is_slash c ≡ false
unslashed c path good = false_from_ne_true _ (λ w. true≢false (sym (and_parts _ _ good).0 ∙ slashed c path w))

relative : (path word : Bytes) → is_package path ≡ true → target_in (path ++ 58 ∷ word) ≡ relative_target (path ++ 58 ∷ word)
relative [] [] good = refl
relative [] (d ∷ word) good = refl
relative (c ∷ []) word good = rw (unslashed c [] good) refl
relative (c ∷ d ∷ path) word good = rw (unslashed c (d ∷ path) good) refl

read_spelled : (text path word : Bytes) → is_package path ≡ true → length path ≤ 65536 → is_present word ≡ true → IsSpelled text path word → target_in text ≡ Some (target_of path word)
read_spelled text path word good room present (inl is) = ap target_in (is ∙ append_assoc path (codes ":") word) ∙ relative path word good ∙ by_colon path word good room present
read_spelled text path word good room present (inr (inl is)) = ap target_in (is ∙ append_assoc (codes "//" ++ path) (codes ":") word ∙ append_assoc (codes "//") path (58 ∷ word)) ∙ absolute_by_colon path word good room present
read_spelled text path word good room present (inr (inr is)) = ap target_in is.0 ∙ absolute_alone path word good room present is.1

target_read : (text : Bytes) (target : Target) → IsTarget text target → target_in text ≡ Some target
target_read text target is =
    read_spelled text target.package is.word is.package is.room is.present is.spelled
    ∙ ap (λ which. Some (record { «package» = target.package; which = which })) (sym is.which)

-- ---- from the function to the condition

record Kept (path word : Bytes) (target : Target) : Type 0 where
  pub good : is_package path ≡ true
  pub room : length path ≤ 65536
  pub present : is_present word ≡ true
  pub is : target ≡ target_of path word

kept : (path word : Bytes) (target : Target) → target_if path word ≡ Some target → Kept path word target
kept path word target h = elim (cases_Bool (is_package path && nat_le (length path) 65536 && is_present word)) [
  | inl w ↦ let h' : Some (target_of path word) ≡ Some target = rw w at h in
      let all = all_three (is_package path) (nat_le (length path) 65536) (is_present word) w in
      record { good = all.0; room = leb-true (length path) 65536 all.1; present = all.2; is = cc }
  | inr w ↦ let h' : ◌≡◌ {A = Option Target} None (Some target) = rw w at h in absurd (cc)
]

answered : (text path word : Bytes) (target : Target) → Kept path word target → IsSpelled text path word → IsTarget text target
answered text path word target k spelled = subst (IsTarget text) (sym k.is)
    (record { word = word; spelled = spelled; «package» = k.good; room = k.room; present = k.present; which = refl })

relative_answered : (text : Bytes) (target : Target) → relative_target text ≡ Some target → IsTarget text target
relative_answered text target h = elim (cases_Bool (has_colon text)) [
  | inl w ↦ let h' : target_if (before_colon text) (after_colon text) ≡ Some target = rw w at h in
      answered text (before_colon text) (after_colon text) target (kept _ _ target h') (inl (halves text w ∙ sym (append_assoc (before_colon text) (codes ":") (after_colon text))))
  | inr w ↦ let h' : ◌≡◌ {A = Option Target} None (Some target) = rw w at h in absurd (cc)
]

absolute_answered : (text rest : Bytes) (target : Target) → text ≡ codes "//" ++ rest → absolute_target rest ≡ Some target → IsTarget text target
absolute_answered text rest target is h = elim (cases_Bool (has_colon rest)) [
  | inl w ↦ let h' : target_if (before_colon rest) (after_colon rest) ≡ Some target = rw w at h in
      answered text (before_colon rest) (after_colon rest) target (kept _ _ target h') (inr (inl (is ∙ ap (λ z. codes "//" ++ z) (halves rest w)
      ∙ sym (append_assoc (codes "//" ++ before_colon rest) (codes ":") (after_colon rest) ∙ append_assoc (codes "//") (before_colon rest) (58 ∷ after_colon rest)))))
  | inr w ↦ let h' : target_if rest (last_piece rest) ≡ Some target = sym (if_false (has_colon rest) _ _ w) ∙ h in
      answered text rest (last_piece rest) target (kept _ _ target h') (inr (inr (is, refl)))
]

pub target_answered : (text : Bytes) (target : Target) → target_in text ≡ Some target → IsTarget text target
target_answered [] target h = relative_answered [] target h
target_answered (c ∷ []) target h = relative_answered (c ∷ []) target h
target_answered (c ∷ d ∷ rest) target h = elim (cases_Bool (is_slash c && is_slash d)) [
  | inl w ↦ let h' : absolute_target rest ≡ Some target = rw w at h in
      absolute_answered (c ∷ d ∷ rest) rest target (ap (λ z. z ∷ d ∷ rest) (eqb-true c 47 (and_parts _ _ w).0) ∙ ap (λ z. 47 ∷ z ∷ rest) (eqb-true d 47 (and_parts _ _ w).1)) h'
  | inr w ↦ let h' : relative_target (c ∷ d ∷ rest) ≡ Some target = rw w at h in relative_answered (c ∷ d ∷ rest) target h'
]

pub no_target : (text : Bytes) → None ≡ target_in text → (target : Target) → IsTarget text target → ⊥
no_target text e target h = let both : ◌≡◌ {A = Option Target} None (Some target) = e ∙ target_read text target h in absurd cc

-- a text is one target at most
pub target_once : (text : Bytes) (one other : Target) → IsTarget text one → IsTarget text other → one ≡ other
target_once text one other h k = let both : Some one ≡ Some other = sym (target_read text one h) ∙ target_read text other k in cc
