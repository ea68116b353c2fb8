-- A text that ends in a dot and a name.
use Rattle.bz_rule.proofs.Words.{[], ◌++◌, ◌∙◌, ◌∷◌, ◌≡◌, ◌≢◌, ap, append_assoc, append_cancel_right, Bool, Bor, Bytes, bytes_eq, bytes_eq-Decides, Decides, dotted, false, full_stop, is_text, MatchOption, None, Option, refl, same_from_decides, Some, sym, true}

abbrev joined_by : Bytes → Bytes → Bytes
joined_by front last = front ++ full_stop ∷ last

same_fronts : (text left front last : Bytes) → text ≡ joined_by left last → bytes_eq (joined_by front last) text ≡ bytes_eq front left
same_fronts text left front last is =
    let both : Decides (bytes_eq (joined_by front last) text) (joined_by front last ≡ text) = bytes_eq-Decides (joined_by front last) text in
    let one : Decides (bytes_eq front left) (front ≡ left) = bytes_eq-Decides front left in
    same_from_decides (bytes_eq (joined_by front last) text) (bytes_eq front left)
    (λ e. append_cancel_right front left (full_stop ∷ last) (both.0 e ∙ is), λ e. both.1 (ap (λ f. joined_by f last) e ∙ sym is)) one

text_left : (text left last : Bytes) (front : Option Bytes) → text ≡ joined_by left last → is_text text (dotted front (Some last)) ≡ is_text left front
text_left text left last None is = refl
text_left text left last (Some front) is = same_fronts text left front last is

not_true : (b : Bool) → (b ≡ true → ⊥) → b ≡ false
not_true true h = absurd (h refl)
not_true false h = refl

text_apart : (text last : Bytes) (front : Option Bytes) → ((f : Bytes) → text ≢ joined_by f last) → is_text text (dotted front (Some last)) ≡ false
text_apart text last None apart = refl
text_apart text last (Some front) apart = not_true (bytes_eq (joined_by front last) text) (λ e. apart front (sym ((bytes_eq-Decides (joined_by front last) text).0 e)))

-- ---- what is before a dot and a name

abbrev Before : Bytes → Bytes → Option (Bor Bytes) → Type 0
Before text end result = MatchOption result ((front : Bytes) → text ≢ front ++ end) (λ front. text ≡ front.now ++ end)

pub before_both : (text front name : Bytes) (result : Option (Bor Bytes)) → text ≡ front ++ name → Before front (full_stop ∷ []) result
    → MatchOption result ((before : Option Bytes) → is_text text (dotted before (Some name)) ≡ false)
    (λ left. (before : Option Bytes) → is_text text (dotted before (Some name)) ≡ is_text left.now before)
before_both text front name None is apart = λ before. text_apart text name before
    (λ f e. apart f (append_cancel_right front (f ++ full_stop ∷ []) name (sym is ∙ e ∙ sym (append_assoc f (full_stop ∷ []) name))))
before_both text front name (Some left) is found = λ before. text_left text left.now name before
    (is ∙ ap (λ f. f ++ name) found ∙ append_assoc left.now (full_stop ∷ []) name)

pub before_neither : (text name : Bytes) → ((front : Bytes) → text ≢ front ++ name) → (before : Option Bytes) → is_text text (dotted before (Some name)) ≡ false
before_neither text name apart before = text_apart text name before
    (λ front e. apart (front ++ full_stop ∷ []) (e ∙ sym (append_assoc front (full_stop ∷ []) name)))
