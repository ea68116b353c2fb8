-- Whether two texts are equal, as the test on bytes says it.
use Rattle.bz_label.proofs.Words.{◌≡◌, bytes_eq, bytes_eq-Decides, List, true, ℕ}

pub equal_texts : (one other : List ℕ) → bytes_eq one other ≡ true → one ≡ other
equal_texts one other e = (bytes_eq-Decides one other).0 e
