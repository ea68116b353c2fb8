-- The first bytes of a text.
use Rattle.bz_streams.proofs.Imported.{◌<◌, ◌≡◌, ◌≤◌, arith, Bytes, length, length-take-le, sym, take, take_all, ℕ}

pub front_cut : (count : ℕ) (text : Bytes) → count < length text → length (take count text) ≡ count
front_cut count text long = length-take-le count text (omega (arith, long))

pub whole_front : (count : ℕ) (text : Bytes) → length text ≤ count → text ≡ take count text
whole_front count text short = sym (take_all count text short)
