-- Notes and steps side by side, and apart again.
use Rattle.bz_resume.proofs.Words.{[], ◌∷◌, ◌≡◌, ap, arith, Edit, edits_of, entries_of, length, List, notes_of, RecordedStep, refl, Text}

pub entries_back : (es : List RecordedStep) → entries_of (notes_of es) (edits_of es) ≡ es
entries_back [] = refl
entries_back (e ∷ es) = ap (λ l. e ∷ l) (entries_back es)

pub entries_apart : (ns : List Text) (es : List (List Edit)) → length ns ≡ length es → (edits_of (entries_of ns es) ≡ es) × (notes_of (entries_of ns es) ≡ ns)
entries_apart [] [] same = (refl, refl)
entries_apart [] (e ∷ es) same = absurd (omega arith)
entries_apart (n ∷ ns) [] same = absurd (omega arith)
entries_apart (n ∷ ns) (e ∷ es) same = let rest = entries_apart ns es (omega arith) in (ap (λ l. e ∷ l) rest.0, ap (λ l. n ∷ l) rest.1)
