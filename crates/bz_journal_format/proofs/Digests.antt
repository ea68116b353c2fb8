-- A digest has 32 bytes.
use Rattle.bz_journal_format.proofs.Words.{[], ◌++◌, ◌<◌, ◌∷◌, arith, digest_bytes, IsBytes, IsDigest, List, sha256, slice_index, suc, w32, zero, ℕ}
use Rattle.std.specs.Int.{to_be_bytes}
use Rattle.sha2.specs.Sha256.{final_hash, initial_hash_256}
use Rattle.sha2.proofs.Facts256.{length-sha256}

word_fits : (n : ℕ) → IsBytes (to_be_bytes w32 n)
word_fits n zero = omega arith
word_fits n (suc zero) = omega arith
word_fits n (suc (suc zero)) = omega arith
word_fits n (suc (suc (suc zero))) = omega arith
word_fits n (suc (suc (suc (suc i)))) = omega arith

nil_fits : IsBytes []
nil_fits i = omega arith

cons_fits : (b : ℕ) (t : List ℕ) → b < 256 → IsBytes t → IsBytes (b ∷ t)
cons_fits b t h f zero = h
cons_fits b t h f (suc i) = f i

joined_fits : (s t : List ℕ) → IsBytes s → IsBytes t → IsBytes (s ++ t)
joined_fits [] t f g = g
joined_fits (b ∷ s) t f g = cons_fits b (s ++ t) (f 0) (joined_fits s t (λ i. f (suc i)) g)

bytes_fit : (h : List ℕ) (n : ℕ) → IsBytes (digest_bytes h n)
unfolding digest_bytes
bytes_fit h zero = nil_fits
bytes_fit h (suc n) = joined_fits (digest_bytes h n) (to_be_bytes w32 (slice_index h n)) (bytes_fit h n) (word_fits (slice_index h n))

pub digest_fits : (m : List ℕ) → IsDigest (sha256 m)
unfolding sha256
digest_fits m = (length-sha256 m, bytes_fit (final_hash initial_hash_256 m) 8)
