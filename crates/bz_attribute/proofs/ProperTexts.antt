-- Texts of characters, cut beside ASCII bytes: bodies of strings, shorter labels, and names joined by dots.
use Rattle.bz_attribute.proofs.Words.{[], ◌++◌, ◌<◌, ◌||◌, ◌∷◌, ◌≡◌, AllByRecursion, and_parts, ap, apostrophe, append-nil, append_assoc, AreUtf8, arith, beside_ascii, body, Bool, by_case, by_test, Bytes, bytes_eq, bytes_eq-Decides, cases_Bool, eqb-true, false, full_stop, IfSome, if◌then◌else◌, inl, inner, inr, is_plain_in, IsAttribute, IsKind, IsUtf8, List, list_all, nat_eq, None, nothing_before, onto_first, Option, or_cases, or_parts, quotation_mark, refl, shortened, slice_split, Some, subst, sym, true, ℕ}
use Rattle.std.proofs.lemmas.Str.{IsUtf8-nil, IsUtf8-append}
use Rattle.bz_label.proofs.Colons.{halves, no_colon}
use Rattle.bz_label.specs.{Pieces.is_colon, Pieces.has_colon, Read.is_own, Shorter.before_colon, Shorter.after_colon, Shorter.is_repeated, Shorter.unrepeated}
use Rattle.bz_command_syntax.specs.Identifiers.{is_identifier}
use Rattle.bz_command_syntax.proofs.Pieces.{after_word, after_word-onto_first}
pub use Rattle.bz_command_syntax.proofs.Utf8Texts.{one_ascii}

-- ---- the body of a string

between_marks : (q : ℕ) (text : Bytes) → q < 128 → is_plain_in q text ≡ true → IsUtf8 text → IsUtf8 (inner text)
between_marks q text l h u =
    let e : text ≡ q ∷ (inner text ++ q ∷ []) = (bytes_eq-Decides text (q ∷ (inner text ++ q ∷ []))).0 (and_parts (bytes_eq text (q ∷ (inner text ++ q ∷ []))) _ h).0 in
    (beside_ascii (inner text) q [] l (beside_ascii [] q (inner text ++ q ∷ []) l (subst IsUtf8 e u)).1).0

pub body_utf8 : (text : Bytes) → IsUtf8 text → IfSome (body text) IsUtf8
body_utf8 text u =
    by_case (λ (o : Option Bytes). IfSome o IsUtf8) (is_plain_in quotation_mark text || is_plain_in apostrophe text) (Some (inner text)) None
    (λ h. elim (or_cases (is_plain_in quotation_mark text) (is_plain_in apostrophe text) h) [
      | inl w ↦ between_marks quotation_mark text (omega arith) w u
      | inr w ↦ between_marks apostrophe text (omega arith) w u
    ])
    (λ h. tt)

-- ---- shorter labels

all_before : (text : Bytes) → has_colon text ≡ false → before_colon text ≡ text
all_before [] h = refl
all_before (byte ∷ rest) h = let p = or_parts (is_colon byte) (has_colon rest) h in rw p.0 (ap (λ more. byte ∷ more) (all_before rest p.1))

around_colon : (text : Bytes) → IsUtf8 text → IsUtf8 (before_colon text) × IsUtf8 (after_colon text)
around_colon text u = elim (cases_Bool (has_colon text)) [
  | inl w ↦ beside_ascii (before_colon text) 58 (after_colon text) (omega arith) (subst IsUtf8 (halves text w) u)
  | inr w ↦ (subst IsUtf8 (sym (all_before text w)) u, subst IsUtf8 (sym (no_colon text w)) IsUtf8-nil)
]

unrepeated_utf8 : (text : Bytes) → IsUtf8 text → IsUtf8 (unrepeated text)
unrepeated_utf8 text u = by_test IsUtf8 (is_repeated (before_colon text) (after_colon text)) (before_colon text) text (around_colon text u).0 u

pub shortened_utf8 : (current text : Bytes) → IsUtf8 text → IsUtf8 (shortened current text)
shortened_utf8 current text u =
    by_test IsUtf8 (is_own current text) (58 ∷ after_colon text) (unrepeated text)
    (IsUtf8-append (58 ∷ []) (after_colon text) (one_ascii 58 (omega arith)) (around_colon text u).1) (unrepeated_utf8 text u)

-- ---- names joined by dots

abbrev pieces : Bytes → List Bytes
pieces = slice_split (λ byte. nat_eq byte full_stop)

split_utf8 : (front text : Bytes) → IsUtf8 (front ++ text) → AreUtf8 (after_word front (pieces text))
split_utf8 front [] u = (u, tt)
split_utf8 front (byte ∷ rest) u =
    let cut : Bool → Type 0 = λ t. AreUtf8 (after_word front (if t then [] ∷ pieces rest else onto_first byte (pieces rest))) in
    elim (cases_Bool (nat_eq byte full_stop)) [
      | inl e ↦
          let same : byte ≡ full_stop = eqb-true byte full_stop e in
          let w = beside_ascii front byte rest (omega arith) u in
          subst cut (sym e) (subst IsUtf8 (sym (append-nil front)) w.0, nothing_before (pieces rest) (split_utf8 [] rest w.1))
      | inr e ↦
          subst cut (sym e) (subst AreUtf8 (sym (after_word-onto_first front byte (pieces rest)))
          (split_utf8 (front ++ byte ∷ []) rest (subst IsUtf8 (sym (append_assoc front (byte ∷ []) rest)) u)))
    ]

-- a list that is not empty
abbrev pub IsFull : List Bytes → Type 0
IsFull [] = ⊥
IsFull (piece ∷ more) = Unit {0}

full_onto : (byte : ℕ) (all : List Bytes) → IsFull (onto_first byte all)
full_onto byte [] = tt
full_onto byte (piece ∷ more) = tt

pub split_full : (text : Bytes) → IsFull (pieces text)
split_full [] = tt
split_full (byte ∷ rest) = by_test IsFull (nat_eq byte full_stop) ([] ∷ pieces rest) (onto_first byte (pieces rest)) tt (full_onto byte (pieces rest))

both_of : (all : List Bytes) → list_all is_identifier all ≡ true → AreUtf8 all → AllByRecursion IsAttribute all
both_of [] h u = tt
both_of (piece ∷ all) h u = let w = and_parts (is_identifier piece) (list_all is_identifier all) h in ((w.0, u.0), both_of all w.1 u.1)

pub kind_pieces : (kind : Bytes) → IsKind kind → AllByRecursion IsAttribute (pieces kind)
kind_pieces kind h = both_of (pieces kind) h.0 (nothing_before (pieces kind) (split_utf8 [] kind h.1))
