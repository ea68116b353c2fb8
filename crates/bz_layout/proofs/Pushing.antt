-- What is pushed onto a draft one after the other is pushed at once; and what that says of the text.
use Rattle.bz_layout.proofs.Words.{[], ◌++◌, ◌<◌, ◌∙◌, ◌∷◌, ◌≡◌, ◌≤◌, ap, append-nil, append_assoc, arith, Bytes, cases_lt, Drafted, drafted, drop, drop_all, fitting, fitting_more, if◌then◌else◌, inl, inr, le-leb, length, length-append, List, lt-leb, None, Option, pushed, refl, same_Some, Some, subst, sym, ℕ}

fits : (limit : ℕ) (text : Bytes) → length text ≤ limit → fitting limit text ≡ Some text
unfolding fitting
fits limit text l = ap (λ t. if t then Some text else None) (le-leb (length text) limit l)

too_long : (limit : ℕ) (text : Bytes) → limit < length text → fitting limit text ≡ None
unfolding fitting
too_long limit text l = ap (λ t. if t then Some text else None) (lt-leb (length text) limit l)

-- its length decides which of both it is
by_length : (limit : ℕ) (text : Bytes) (P : Option Bytes → Type 0) → (length text ≤ limit → P (Some text)) → (limit < length text → P None) → P (fitting limit text)
by_length limit text P short long = elim (cases_lt limit (length text)) [ inl l ↦ subst P (sym (too_long limit text l)) (long l) | inr l ↦ subst P (sym (fits limit text l)) (short l) ]

fitting_on : (limit : ℕ) (a b : Bytes) → fitting_more limit (fitting limit a) b ≡ fitting limit (a ++ b)
fitting_on limit a b =
    by_length limit a (λ t. fitting_more limit t b ≡ fitting limit (a ++ b)) (λ l. refl)
    (λ l. sym (too_long limit (a ++ b) (omega (arith, l, length-append a b))))

fitting_twice : (limit : ℕ) (text : Option Bytes) (a b : Bytes) → fitting_more limit (fitting_more limit text a) b ≡ fitting_more limit text (a ++ b)
fitting_twice limit None a b = refl
fitting_twice limit (Some text) a b = fitting_on limit (text ++ a) b ∙ ap (fitting limit) (append_assoc text a b)

pub pushed_none : (d : Drafted) → pushed d [] ≡ d
unfolding pushed
pushed_none d = refl

pub pushed_twice : (d : Drafted) (a b : Bytes) → pushed (pushed d a) b ≡ pushed d (a ++ b)
unfolding pushed
pushed_twice d [] b = refl
pushed_twice d (x ∷ a) [] = ap (pushed d) (sym (append-nil (x ∷ a)))
pushed_twice d (x ∷ a) (y ∷ b) = ap (λ t. record { limit = d.limit; text = t }) (fitting_twice d.limit d.text (x ∷ a) (y ∷ b))

-- what is appended to the bytes of a draft is pushed
pushed_bytes : (limit : ℕ) (old bytes : Bytes) → pushed (drafted limit old) bytes ≡ drafted limit (old ++ bytes)
unfolding pushed drafted
pushed_bytes limit old [] = ap (λ t. record { limit = limit; text = fitting limit t }) (sym (append-nil old))
pushed_bytes limit old (x ∷ bytes) = ap (λ t. record { limit = limit; text = t }) (fitting_on limit old (x ∷ bytes))

pub appended : (limit : ℕ) (old new bytes : Bytes) → new ≡ old ++ bytes → drafted limit new ≡ pushed (drafted limit old) bytes
appended limit old new bytes is = ap (drafted limit) is ∙ sym (pushed_bytes limit old bytes)

past_both : (limit : ℕ) (old bytes : Bytes) → limit < length old → drafted limit old ≡ drafted limit (old ++ bytes)
unfolding drafted
past_both limit old bytes l =
    ap (λ t. record { limit = limit; text = t }) (too_long limit old l ∙ sym (too_long limit (old ++ bytes) (omega (arith, l, length-append old bytes))))

-- past the limit nothing need be written
pub past : (limit : ℕ) (old bytes : Bytes) → limit < length old → drafted limit old ≡ pushed (drafted limit old) bytes
past limit old bytes l = past_both limit old bytes l ∙ sym (pushed_bytes limit old bytes)

-- the end of a loop over a list, of which each one was pushed
pub pushed_end : {X : Type 0} (F : List X → Bytes) (d : Drafted) (xs : List X) (k : ℕ) → F [] ≡ [] → length xs ≤ k → pushed d (F (drop k xs)) ≡ d
pushed_end F d xs k bare l = ap (λ ys. pushed d (F ys)) (drop_all k xs l) ∙ (ap (pushed d) bare ∙ pushed_none d)

-- what a draft says of all that was pushed, by its own limit and bytes
limit_of : (own limit : ℕ) (a b : Bytes) → drafted own a ≡ drafted limit b → own ≡ limit
unfolding drafted
limit_of own limit a b is = ap (λ d. d.limit) is

text_of : (own limit : ℕ) (a b : Bytes) → drafted own a ≡ drafted limit b → fitting limit a ≡ fitting limit b
unfolding drafted
text_of own limit a b is = ap (λ n. fitting n a) (sym (limit_of own limit a b is)) ∙ ap (λ d. d.text) is

pub within : (own limit : ℕ) (text front bytes : Bytes) → drafted own text ≡ pushed (drafted limit front) bytes → length text ≤ own → length text ≤ limit
within own limit text front bytes is l = subst (λ n. length text ≤ n) (limit_of own limit text (front ++ bytes) (is ∙ pushed_bytes limit front bytes)) l

pub within_is : (own limit : ℕ) (text front bytes : Bytes) → drafted own text ≡ pushed (drafted limit front) bytes → length text ≤ own → text ≡ front ++ bytes
within_is own limit text front bytes is l =
    by_length limit (front ++ bytes) (λ t. Some text ≡ t → text ≡ front ++ bytes) (λ _ same. same_Some text (front ++ bytes) same) (λ _ no_. absurd cc)
    (sym (fits limit text (within own limit text front bytes is l)) ∙ text_of own limit text (front ++ bytes) (is ∙ pushed_bytes limit front bytes))

pub longer_is : (own limit : ℕ) (text front bytes : Bytes) → drafted own text ≡ pushed (drafted limit front) bytes → own < length text → limit < length (front ++ bytes)
longer_is own limit text front bytes is l =
    let all : drafted own text ≡ drafted limit (front ++ bytes) = is ∙ pushed_bytes limit front bytes in
    let longer : limit < length text = subst (λ n. n < length text) (limit_of own limit text (front ++ bytes) all) l in
    by_length limit (front ++ bytes) (λ t. None ≡ t → limit < length (front ++ bytes)) (λ _ no_. absurd cc) (λ m _. m)
    (sym (too_long limit text longer) ∙ text_of own limit text (front ++ bytes) all)
