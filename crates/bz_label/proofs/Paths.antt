-- Non-empty pieces joined by slashes are the texts that are not empty, neither begin nor end with a slash and hold no two in a row.
use Rattle.bz_label.proofs.Words.{[], ◌&&◌, ◌++◌, ◌↔◌, ◌∙◌, ◌∷◌, ◌≡◌, ◌⊎◌, ap, append_assoc, Bool, both_ways, Bytes, cases_Bool, codes, cond, eqb-true, false, inl, inr, is_joined, is_present, is_slash, IsSlashSeparated, IsTrue, List, list_all, onto_first, pieces_of, refl, sym, true, ℕ}

-- whether the pieces that follow are there, where a piece may have begun
abbrev goes_on : Bool → Bytes → Bool
goes_on begun [] = begun
goes_on begun (byte ∷ rest) = cond (is_slash byte) (begun && goes_on false rest) (goes_on true rest)

and_none : (x y : Bool) → y ≡ false → (x && y) ≡ false
and_none true y e = e
and_none false y e = refl

-- one more byte before a piece that has one
onto_more : (x y : ℕ) (pieces : List Bytes) → list_all is_present (onto_first x (onto_first y pieces)) ≡ list_all is_present (onto_first y pieces)
onto_more x y [] = refl
onto_more x y (piece ∷ pieces) = refl

-- both at once: of the pieces, and of the pieces where a byte is before the first
both_go : (x : ℕ) (text : Bytes) → (list_all is_present (pieces_of text) ≡ goes_on false text) × (list_all is_present (onto_first x (pieces_of text)) ≡ goes_on true text)
both_go x [] = (refl, refl)
both_go x (byte ∷ rest) = elim (cases_Bool (is_slash byte)) [
  | inl slash ↦ rw slash (refl, (both_go byte rest).0)
  | inr other ↦ rw other ((both_go byte rest).1, onto_more x byte (pieces_of rest) ∙ (both_go byte rest).1)
]

joined_goes : (path : Bytes) → is_joined path ≡ goes_on false path
joined_goes path = (both_go 0 path).0

-- ---- a path that goes on is of that shape
stops_at_end : (begun : Bool) (front : Bytes) → goes_on begun (front ++ codes "/") ≡ false
stops_at_end true [] = refl
stops_at_end false [] = refl
stops_at_end begun (byte ∷ front) = elim (cases_Bool (is_slash byte)) [
  | inl slash ↦ rw slash (and_none begun _ (stops_at_end false front))
  | inr other ↦ rw other (stops_at_end true front)
]

stops_at_two : (begun : Bool) (front rest : Bytes) → goes_on begun (front ++ 47 ∷ 47 ∷ rest) ≡ false
stops_at_two true [] rest = refl
stops_at_two false [] rest = refl
stops_at_two begun (byte ∷ front) rest = elim (cases_Bool (is_slash byte)) [
  | inl slash ↦ rw slash (and_none begun _ (stops_at_two false front rest))
  | inr other ↦ rw other (stops_at_two true front rest)
]

slashed_from : (path : Bytes) → goes_on false path ≡ true → IsSlashSeparated path
slashed_from path goes = record {
  present = λ e. both_ways _ (ap (goes_on false) e) goes;
  begins = λ rest e. both_ways _ (ap (goes_on false) e) goes;
  ends = λ front e. both_ways _ (ap (goes_on false) e ∙ stops_at_end false front) goes;
  single = λ front rest e. both_ways _ (ap (goes_on false) (e ∙ append_assoc front (codes "//") rest) ∙ stops_at_two false front rest) goes;
}

-- ---- a path that stops breaks one of the rules
pub data Stops (begun : Bool) (path : Bytes) : Type 0 where
  empty : begun ≡ false → path ≡ [] → Stops begun path
  slash_first : begun ≡ false → (rest : Bytes) → path ≡ 47 ∷ rest → Stops begun path
  slash_last : (front : Bytes) → path ≡ front ++ 47 ∷ [] → Stops begun path
  two_slashes : (front rest : Bytes) → path ≡ front ++ 47 ∷ 47 ∷ rest → Stops begun path

-- a byte more in front
after_slash : (byte : ℕ) (rest : Bytes) → byte ≡ 47 → Stops false rest → Stops true (byte ∷ rest)
after_slash byte rest e (empty b f) = slash_last [] (rw (e, f) refl)
after_slash byte rest e (slash_first b more f) = two_slashes [] more (rw (e, f) refl)
after_slash byte rest e (slash_last front f) = slash_last (byte ∷ front) (ap (λ r. byte ∷ r) f)
after_slash byte rest e (two_slashes front more f) = two_slashes (byte ∷ front) more (ap (λ r. byte ∷ r) f)

after_other : (begun : Bool) (byte : ℕ) (rest : Bytes) → Stops true rest → Stops begun (byte ∷ rest)
after_other begun byte rest (empty b f) = absurd (both_ways true b refl)
after_other begun byte rest (slash_first b more f) = absurd (both_ways true b refl)
after_other begun byte rest (slash_last front f) = slash_last (byte ∷ front) (ap (λ r. byte ∷ r) f)
after_other begun byte rest (two_slashes front more f) = two_slashes (byte ∷ front) more (ap (λ r. byte ∷ r) f)

with_slash : (begun : Bool) (byte : ℕ) (rest : Bytes) → byte ≡ 47 → (goes_on false rest ≡ true) ⊎ Stops false rest → ((begun && goes_on false rest) ≡ true) ⊎ Stops begun (byte ∷ rest)
with_slash false byte rest e h = inr (slash_first refl rest (ap (λ b. b ∷ rest) e))
with_slash true byte rest e (inl goes) = inl goes
with_slash true byte rest e (inr stops) = inr (after_slash byte rest e stops)

with_other : (begun : Bool) (byte : ℕ) (rest : Bytes) → (goes_on true rest ≡ true) ⊎ Stops true rest → (goes_on true rest ≡ true) ⊎ Stops begun (byte ∷ rest)
with_other begun byte rest (inl goes) = inl goes
with_other begun byte rest (inr stops) = inr (after_other begun byte rest stops)

goes_or_stops : (begun : Bool) (path : Bytes) → (goes_on begun path ≡ true) ⊎ Stops begun path
goes_or_stops true [] = inl refl
goes_or_stops false [] = inr (empty refl refl)
goes_or_stops begun (byte ∷ rest) = elim (cases_Bool (is_slash byte)) [
  | inl slash ↦ rw slash (with_slash begun byte rest (eqb-true _ _ slash) (goes_or_stops false rest))
  | inr other ↦ rw other (with_other begun byte rest (goes_or_stops true rest))
]

never_stops : (path : Bytes) → IsSlashSeparated path → Stops false path → ⊥
never_stops path h (empty b e) = h.present e
never_stops path h (slash_first b rest e) = h.begins rest e
never_stops path h (slash_last front e) = h.ends front e
never_stops path h (two_slashes front rest e) = h.single front rest (e ∙ sym (append_assoc front (codes "//") rest))

pub joined_exact : (path : Bytes) → IsTrue (is_joined path) ↔ IsSlashSeparated path
joined_exact path = (
  λ joined. slashed_from path (sym (joined_goes path) ∙ joined),
  λ h. elim (goes_or_stops false path) [ inl goes ↦ joined_goes path ∙ goes | inr stops ↦ absurd (never_stops path h stops) ],
)
