-- The digests of texts where one is put after the first ones, and those along a trail.
use Rattle.bz_journal.proofs.Words.{[], ◌++◌, ◌+◌, ◌<◌, ◌∙◌, ◌∷◌, ◌≡◌, Answer, ap, AreFirstDigests, arith, Bytes, Changed, Edit, History, length, length-append, length-map, List, map, map-append, Node, Ok, present, refl, sha256, slice_index_or, subst, suc, sym, take, take-map, take_all, take_more, texts_of, trail_at, zero, ℕ}
use Rattle.bz_journal.proofs.Following.{Goes}

pub put_one : (n : ℕ) (digests made texts : List Bytes) (text digest : Bytes) → digests ≡ map sha256 texts → digest ≡ sha256 text → made ≡ take n digests ++ digest ∷ []
    → made ≡ map sha256 (take n texts ++ text ∷ [])
put_one n digests made texts text digest known is put =
    put ∙ ap (λ (d : Bytes). take n digests ++ d ∷ []) is ∙ ap (λ (l : List Bytes). take n l ++ sha256 text ∷ []) known
    ∙ ap (λ (l : List Bytes). l ++ sha256 text ∷ []) (take-map sha256 n texts) ∙ sym (map-append sha256 (take n texts) (text ∷ []))

-- the digest of the next text after those of the first ones
pub hash_next : (n : ℕ) (digests made texts : List Bytes) (text digest : Bytes) → digests ≡ map sha256 (take n texts) → n < length texts → slice_index_or texts n [] ≡ text
    → digest ≡ sha256 text → made ≡ digests ++ digest ∷ [] → made ≡ map sha256 (take (n + 1) texts)
hash_next n digests made texts text digest known within there is put =
    put ∙ ap (λ (l : List Bytes). l ++ digest ∷ []) known ∙ ap (λ (d : Bytes). map sha256 (take n texts) ++ d ∷ []) (is ∙ ap sha256 (sym there))
    ∙ sym (map-append sha256 (take n texts) (slice_index_or texts n [] ∷ [])) ∙ ap (map sha256) (sym (take_more texts n [] within))

-- equal trees and steps, at equal places, have the same texts
pub same_texts : (m n : Node) (es fs : List (List Edit)) (i j : ℕ) → m ≡ n → es ≡ fs → i ≡ j → texts_of (trail_at m es i) ≡ texts_of (trail_at n fs j)
same_texts m n es fs i j tree steps at =
    ap (λ (z : Node). texts_of (trail_at z es i)) tree ∙ ap (λ (z : List (List Edit)). texts_of (trail_at n z i)) steps ∙ ap (λ (z : ℕ). texts_of (trail_at n fs z)) at

-- ---- the digests of the first texts

module _ {A B : Type 0} (f : A → B) where
  -- after the first n another one comes
  pub cut_first : (n : ℕ) (ds : List B) (xs : List A) (x : A) → ds ≡ map f (take (length ds) xs)
      → take n ds ≡ map f (take (length (take n ds)) (take n xs ++ x ∷ []))
  cut_first zero [] xs x known = refl
  cut_first zero (d ∷ ds) xs x known = refl
  cut_first (suc n) [] xs x known = refl
  cut_first (suc n) (d ∷ ds) [] x known = absurd (cc)
  cut_first (suc n) (d ∷ ds) (y ∷ ys) x known =
      let one : d ≡ f y = cc in
      let others : ds ≡ map f (take (length ds) ys) = cc in
      ap (λ (z : B). z ∷ take n ds) one ∙ ap (λ (l : List B). f y ∷ l) (cut_first n ds ys x others)

  -- those of all are those of the first ones too
  pub first_of_all : (ds : List B) (xs : List A) → ds ≡ map f xs → ds ≡ map f (take (length ds) xs)
  first_of_all ds xs known = known ∙ ap (map f) (sym (take_all (length ds) xs (omega (arith, ap length known, length-map xs f))))

  -- those of all are there
  pub all_first : (count : ℕ) (ds : List B) (xs : List A) → ds ≡ map f (take (length ds) xs) → length ds ≡ count → count ≡ length xs → ds ≡ map f xs
  all_first count ds xs known here there = known ∙ ap (map f) (take_all (length ds) xs (omega (arith, here, there)))

-- the digest of the next text
pub learn_next : (number : ℕ) (first made texts : List Bytes) (text digest : Bytes) → first ≡ map sha256 (take (length first) texts) → length first ≡ number → number < length texts
    → slice_index_or texts number [] ≡ text → digest ≡ sha256 text → made ≡ first ++ digest ∷ [] → made ≡ map sha256 (take (length made) texts)
learn_next number first made texts text digest known here within there is put =
    let grown : length made ≡ number + 1 = ap length put ∙ length-append first (digest ∷ []) ∙ ap (λ k. k + 1) here in
    subst (λ k. made ≡ map sha256 (take k texts)) (sym grown)
    (hash_next number first made texts text digest (subst (λ k. first ≡ map sha256 (take k texts)) here known) within there is put)

-- ---- the digests after an action

-- of all texts: that of a new one was put
pub digest_put : (answer : Answer) (h after : History) (n : ℕ) (digests made : List Bytes) (text digest : Bytes) → Goes answer h after → answer ≡ Ok Changed → n ≡ after.cursor
    → digests ≡ map sha256 h.texts → text ≡ present after → digest ≡ sha256 text → made ≡ take n digests ++ digest ∷ [] → made ≡ map sha256 after.texts
digest_put answer h after n digests made text digest went is at known there taken put =
    put_one n digests made h.texts text digest known taken put
    ∙ ap (λ (k : ℕ). map sha256 (take k h.texts ++ text ∷ [])) (at ∙ (went.new is).0) ∙ ap (λ (t : Bytes). map sha256 (take (h.cursor + 1) h.texts ++ t ∷ [])) there
    ∙ ap (map sha256) (sym (went.new is).1)

-- of the first texts: those of the ones that are gone were cut
pub first_cut : (answer : Answer) (h after : History) (n : ℕ) (digests made : List Bytes) → Goes answer h after → answer ≡ Ok Changed → n ≡ after.cursor
    → AreFirstDigests digests h.texts → made ≡ take n digests → AreFirstDigests made after.texts
first_cut answer h after n digests made went is at known cut =
    let new : List Bytes = take (h.cursor + 1) h.texts ++ present after ∷ [] in
    let here : take n digests ≡ map sha256 (take (length (take n digests)) new) =
    cut_first sha256 n digests h.texts (present after) known ∙ ap (λ (k : ℕ). map sha256 (take (length (take n digests)) (take k h.texts ++ present after ∷ []))) (at ∙ (went.new is).0) in
    subst (λ (l : List Bytes). AreFirstDigests l after.texts) (sym cut) (here ∙ ap (λ (l : List Bytes). map sha256 (take (length (take n digests)) l)) (sym (went.new is).1))

pub first_stay : (answer : Answer) (h after : History) (digests : List Bytes) → Goes answer h after → (answer ≡ Ok Changed → ⊥) → AreFirstDigests digests h.texts → AreFirstDigests digests after.texts
first_stay answer h after digests went other known = subst (λ (ts : List Bytes). AreFirstDigests digests ts) (sym (went.old other)) known
