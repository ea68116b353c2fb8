-- Reading from the left: what each reader of the code gives. That they read just what is spelled is said by laws.
use Rattle.std.specs.Prelude.{ℕ, zero, suc, ◌+◌, ◌-◌, ◌*◌, Bool, List, [], ◌∷◌, ◌&&◌, length, take, drop, Option, Some, None, Result, Ok, Err, if◌then◌else◌, nat_eq, nat_lt, nat_le}
use Rattle.std.specs.Str.{bytes_eq}
use Rattle.hex.specs.Hex.{encode_lower, decode_sized}
use Rattle.hex.specs.declared.error.FromHexError.{FromHexError}
use Rattle.bz_items.specs.Characters.{line_feed}
use Rattle.bz_token.specs.Bytes.{is_digit}
use Rattle.bz_journal_format.specs.Spellings.{digit_zero, number_limit}

infixl 10 ◌>>=◌
-- what comes of what was read, where something was
abbrev pub ◌>>=◌ : {A B : Type 0} → Option A → (A → Option B) → Option B
None >>= f = None
(Some x) >>= f = f x

-- what was read, and the bytes after it
abbrev pub Reader : Type 0 → Type 0
Reader X = List ℕ → Option (X × List ℕ)

-- the bytes after a mark
unfoldable pub after_mark : List ℕ → List ℕ → Option (List ℕ)
after_mark mark s = if bytes_eq (take (length mark) s) mark then Some (drop (length mark) s) else None

-- this many bytes
unfoldable pub field_at : ℕ → Reader (List ℕ)
field_at n s = if nat_lt (length s) n then None else Some (take n s, drop n s)

-- a line: the bytes before the first newline
unfoldable pub ended_line_at : Reader (List ℕ)
ended_line_at [] = None
ended_line_at (b ∷ s) = if nat_eq b line_feed then Some ([], s) else (ended_line_at s >>= λ x. Some (b ∷ x.0, x.1))

-- the number whose first digits are those of n, by the digits up to the stop
unfoldable pub digits_at : ℕ → ℕ → Reader ℕ
digits_at stop n [] = None
digits_at stop n (b ∷ s) =
    if nat_eq b stop then Some (n, s)
    else (if is_digit b && nat_lt (n * 10 + (b - digit_zero)) number_limit then digits_at stop (n * 10 + (b - digit_zero)) s else None)

-- a number without leading zeros, and the stop after it
unfoldable pub number_at : ℕ → Reader ℕ
number_at stop [] = None
number_at stop (b ∷ s) =
    if nat_eq b digit_zero then (after_mark (stop ∷ []) s >>= λ r. Some (0, r))
    else (if is_digit b then digits_at stop (b - digit_zero) s else None)

-- what a decoding gives, where it gives something
abbrev pub ok_value : {A : Type 0} → Result A FromHexError → Option A
ok_value (Ok x) = Some x
ok_value (Err e) = None

-- sixty-four digits of lower case, and a newline
unfoldable pub digest_at : Reader (List ℕ)
digest_at s = do
  hex ← field_at 64 s
  digest ← ok_value (decode_sized hex.0 32)
  rest ← after_mark (line_feed ∷ []) hex.1
  if bytes_eq (encode_lower digest) hex.0 then Some (digest, rest) else None

-- this many things one after the other
unfoldable pub repeated : {X : Type 0} → Reader X → ℕ → Reader (List X)
repeated go zero s = Some ([], s)
repeated go (suc n) s = go s >>= λ x. repeated go n x.1 >>= λ y. Some (x.0 ∷ y.0, y.1)

-- a number, and this many bytes
unfoldable pub counted_at : ℕ → Reader (List ℕ)
counted_at stop s = do
  count ← number_at stop s
  field_at count.0 count.1

-- a number, and this many things
unfoldable pub listed_at : {X : Type 0} → ℕ → Reader X → Reader (List X)
listed_at stop go s = do
  count ← number_at stop s
  repeated go count.0 count.1

-- what passes a test
unfoldable pub tested : {X : Type 0} → (X → Bool) → Reader X → Reader X
tested test go s = do
  x ← go s
  if test x.0 then Some x else None

-- a number up to a limit
abbrev pub up_to : ℕ → ℕ → Reader ℕ
up_to limit stop = tested (λ n. nat_le n limit) (number_at stop)
