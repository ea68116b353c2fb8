-- Notes and steps side by side.
use Rattle.bz_journal_format.proofs.Words.{[], ◌∷◌, ◌≡◌, ap, arith, Edit, entries_of, length, List, refl, suc, ℕ}

pub entries_length : (ns : List (List ℕ)) (es : List (List Edit)) → length ns ≡ length es → length (entries_of ns es) ≡ length es
entries_length [] [] same = refl
entries_length [] (e ∷ es) same = absurd (omega arith)
entries_length (n ∷ ns) [] same = absurd (omega arith)
entries_length (n ∷ ns) (e ∷ es) same = ap (λ k. suc k) (entries_length ns es (omega arith))
