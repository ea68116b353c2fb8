-- The bytes of strings are those of pieces, prefixes and marks.
use Rattle.bz_token.proofs.Words.{[], ◌++◌, ◌<◌, ◌∙◌, ◌∷◌, ◌≡◌, ◌≤◌, ◌⊎◌, among, and_parts, ap, append-nil, append_assoc, arith, Bool, both_ways, Each, encode, encode_ascii, encodes, eqb, eqb-true, false, inl, inr, is_high, is_quote, IsLong, IsQuoted, IsShort, IsString, leb-true, length, length-append, List, long_end, long_plain, long_taken, lt-leb, ltb, ltb-true, or_cases, prefixes, refl, replicate, short_end, short_line, short_plain, short_taken, single, subst, suc, sym, triple, true, zero, ℕ}
use Rattle.bz_token.proofs.{Characters.BytesOf, Characters.bytes_of, Tables.is_not, Tables.one_text, Tables.every}

quote_low : (m : ℕ) → is_quote m ≡ true → m < 128
quote_low m h = elim (or_cases (eqb m 34) (eqb m 39) h) [ inl e ↦ (let i = eqb-true m 34 e in omega (arith, i)) | inr e ↦ (let i = eqb-true m 39 e in omega (arith, i)) ]

quote_not_high : (m : ℕ) → is_quote m ≡ true → is_high m ≡ false
quote_not_high m h = lt-leb 128 m (quote_low m h)

high_plain : (m b : ℕ) → is_quote m ≡ true → is_high b ≡ true → among b (m ∷ 10 ∷ 92 ∷ []) ≡ false
high_plain m b q h = rw (is_not is_high m (quote_not_high m q) b h, is_not is_high 10 refl b h, is_not is_high 92 refl b h) refl

high_long : (m b : ℕ) → is_quote m ≡ true → is_high b ≡ true → among b (m ∷ 92 ∷ []) ≡ false
high_long m b q h = rw (is_not is_high m (quote_not_high m q) b h, is_not is_high 92 refl b h) refl

-- ---- characters at the front and in the middle

head_of : (a : ℕ) (u : List ℕ) (c : ℕ) (cs : List ℕ) (b : ℕ) (t : List ℕ) → a < 128 → encode c ++ encodes cs ≡ a ∷ u → BytesOf c b t → (ds : List ℕ) × (c ∷ cs ≡ a ∷ ds) × (encodes ds ≡ u)
head_of a u c cs b t l e (x, h, inl (m, i, j)) =
    let z : encode c ≡ c ∷ [] = rw (i, j) at x in
    let f : c ∷ encodes cs ≡ a ∷ u = sym (ap (λ (s : List ℕ). s ++ encodes cs) z) ∙ e in
    let g : c ≡ a = cc in
    let k : encodes cs ≡ u = cc in
    (cs, ap (λ (d : ℕ). d ∷ cs) g, k)
head_of a u c cs b t l e (x, h, inr (m, i)) =
    let f : b ∷ (t ++ encodes cs) ≡ a ∷ u = sym (ap (λ (s : List ℕ). s ++ encodes cs) x) ∙ e in
    let g : b ≡ a = cc in
    let k : 128 ≤ a = leb-true 128 a (subst (λ (d : ℕ). is_high d ≡ true) g i) in
    absurd (omega arith)

-- an ASCII byte is a character
ascii_head : (a : ℕ) (u cs : List ℕ) → a < 128 → encodes cs ≡ a ∷ u → (ds : List ℕ) × (cs ≡ a ∷ ds) × (encodes ds ≡ u)
ascii_head a u [] l e = absurd cc
ascii_head a u (c ∷ cs) l e =
    let w = bytes_of c in
    head_of a u c cs (w.0) (w.1) l e w.2

-- ---- pieces between single marks

each_short : (m : ℕ) (t s : List ℕ) → is_quote m ≡ true → Each is_high t → IsShort m s → IsShort m (t ++ s)
each_short m [] s q e h = h
each_short m (b ∷ t) s q e h = short_plain (high_plain m b q e.0) (each_short m t s q e.1 h)

short_tail : (m b : ℕ) (s : List ℕ) → is_high b ≡ true → IsShort m (b ∷ s) → IsShort m s
short_tail m b s y (short_plain n h) = h
short_tail m b s y (short_taken h) = absurd (both_ways false refl y)
short_tail m b s y (short_line h) = absurd (both_ways false refl y)

drop_short : (m : ℕ) (t s : List ℕ) → Each is_high t → IsShort m (t ++ s) → IsShort m s
drop_short m [] s e h = h
drop_short m (b ∷ t) s e h = drop_short m t s e.1 (short_tail m b (t ++ s) e.0 h)

plain_byte : (m c b : ℕ) (t : List ℕ) → is_quote m ≡ true → BytesOf c b t → among c (m ∷ 10 ∷ 92 ∷ []) ≡ false → among b (m ∷ 10 ∷ 92 ∷ []) ≡ false
plain_byte m c b t q (e, h, inl w) n = rw w.1 n
plain_byte m c b t q (e, h, inr w) n = high_plain m b q w.1

plain_character : (m c b : ℕ) (t : List ℕ) → is_quote m ≡ true → BytesOf c b t → among b (m ∷ 10 ∷ 92 ∷ []) ≡ false → among c (m ∷ 10 ∷ 92 ∷ []) ≡ false
plain_character m c b t q (e, h, inl w) n = rw w.1 at n
plain_character m c b t q (e, h, inr w) n = high_plain m c q w.0

short_to : (m : ℕ) (cs : List ℕ) → is_quote m ≡ true → IsShort m cs → IsShort m (encodes cs)
short_to m cs q short_end = short_end
short_to m cs q (short_plain {b = c} {s = ds} n h) =
    let w = bytes_of c in
    let x = w.2 in
    rw x.0 (short_plain (plain_byte m c (w.0) (w.1) q x n) (each_short m (w.1) (encodes ds) q x.1 (short_to m ds q h)))
short_to m cs q (short_taken {b = c} {s = ds} h) =
    let w = bytes_of c in
    let x = w.2 in
    rw (encode_ascii 92 (omega arith), x.0) (short_taken (each_short m (w.1) (encodes ds) q x.1 (short_to m ds q h)))
short_to m cs q (short_line {s = ds} h) = rw (encode_ascii 92 (omega arith), encode_ascii 13 (omega arith), encode_ascii 10 (omega arith)) (short_line (short_to m ds q h))

-- a piece, or the pieces after a backslash
short_parts : (m b : ℕ) (s : List ℕ) → IsShort m (b ∷ s)
    → ((among b (m ∷ 10 ∷ 92 ∷ []) ≡ false) × IsShort m s) ⊎ (((b ≡ 92) × (a : ℕ) × (u : List ℕ) × (s ≡ a ∷ u) × IsShort m u) ⊎ ((b ≡ 92) × (u : List ℕ) × (s ≡ 13 ∷ 10 ∷ u) × IsShort m u))
short_parts m b s (short_plain n h) = inl (n, h)
short_parts m b s (short_taken {b = a} {s = u} h) = inr (inl (refl, a, u, refl, h))
short_parts m b s (short_line {s = u} h) = inr (inr (refl, u, refl, h))

-- the text after one more character
following : (a : ℕ) (u cs : List ℕ) → encodes cs ≡ a ∷ u → (c : ℕ) × (ds : List ℕ) × (t : List ℕ) × (cs ≡ c ∷ ds) × BytesOf c a t × (u ≡ t ++ encodes ds)
following a u [] e = absurd cc
following a u (c ∷ cs) e =
    let w = bytes_of c in
    let x = w.2 in
    let f : w.0 ∷ (w.1 ++ encodes cs) ≡ a ∷ u = sym (ap (λ (s : List ℕ). s ++ encodes cs) x.0) ∙ e in
    let g : w.0 ≡ a = cc in
    let k : w.1 ++ encodes cs ≡ u = cc in
    (c, cs, w.1, refl, subst (λ (b : ℕ). BytesOf c b (w.1)) g x, sym k)

nothing_of : (cs : List ℕ) → encodes cs ≡ [] → cs ≡ []
nothing_of [] e = refl
nothing_of (c ∷ cs) e =
    let w = bytes_of c in
    let x = w.2 in
    let f : w.0 ∷ (w.1 ++ encodes cs) ≡ [] = sym (ap (λ (s : List ℕ). s ++ encodes cs) x.0) ∙ e in
    absurd cc

short_from : (n m : ℕ) (cs s : List ℕ) → length cs ≤ n → is_quote m ≡ true → encodes cs ≡ s → IsShort m s → IsShort m cs
short_from n m cs [] l q e h = rw (nothing_of cs e) short_end
short_from zero m [] (b ∷ s) l q e h = short_end
short_from zero m (c ∷ cs) (b ∷ s) l q e h = absurd (omega arith)
short_from (suc n) m cs (b ∷ s) l q e h =
    elim (short_parts m b s h) [
      | inl p ↦
          let w = following b s cs e in
          let k : length cs ≡ length (w.0 ∷ w.1) = ap length w.3 in
          let i = drop_short m (w.2) (encodes (w.1)) w.4.1 (subst (IsShort m) w.5 p.1) in
          let j = short_from n m (w.1) (encodes (w.1)) (omega arith) q refl i in
          subst (IsShort m) (sym w.3) (short_plain (plain_character m (w.0) b (w.2) q w.4 p.0) j)
      | inr p ↦ elim p [
        | inl y ↦
            let x = ascii_head 92 s cs (omega arith) (e ∙ ap (λ (d : ℕ). d ∷ s) y.0) in
            let w = following (y.1) (y.2) (x.0) (x.2 ∙ y.3) in
            let k : length cs ≡ length (92 ∷ x.0) = ap length x.1 in
            let o : length (x.0) ≡ length (w.0 ∷ w.1) = ap length w.3 in
            let i = drop_short m (w.2) (encodes (w.1)) w.4.1 (subst (IsShort m) w.5 y.4) in
            let j = short_from n m (w.1) (encodes (w.1)) (omega arith) q refl i in
            subst (IsShort m) (sym (x.1 ∙ ap (λ (u : List ℕ). 92 ∷ u) w.3)) (short_taken j)
        | inr y ↦
            let x = ascii_head 92 s cs (omega arith) (e ∙ ap (λ (d : ℕ). d ∷ s) y.0) in
            let z = ascii_head 13 (10 ∷ y.1) (x.0) (omega arith) (x.2 ∙ y.2) in
            let w = ascii_head 10 (y.1) (z.0) (omega arith) z.2 in
            let k : length cs ≡ length (92 ∷ x.0) = ap length x.1 in
            let o : length (x.0) ≡ length (13 ∷ z.0) = ap length z.1 in
            let r : length (z.0) ≡ length (10 ∷ w.0) = ap length w.1 in
            let j = short_from n m (w.0) (y.1) (omega arith) q w.2 y.3 in
            subst (IsShort m) (sym (x.1 ∙ ap (λ (u : List ℕ). 92 ∷ u) (z.1 ∙ ap (λ (u : List ℕ). 13 ∷ u) w.1))) (short_line j)
      ]
    ]

-- ---- pieces between three marks

each_long : (m : ℕ) (t s : List ℕ) → is_quote m ≡ true → Each is_high t → IsLong m s → IsLong m (t ++ s)
each_long m [] s q e h = h
each_long m (b ∷ t) s q e h = long_plain 0 b (t ++ s) (omega arith) (high_long m b q e.0) (each_long m t s q e.1 h)

long_tail : (m : ℕ) (u : List ℕ) (b : ℕ) (s : List ℕ) → is_quote m ≡ true → is_high b ≡ true → u ≡ b ∷ s → IsLong m u → IsLong m s
long_tail m u b s q y e long_end = absurd cc
long_tail m u b s q y e (long_plain zero c v l n h) = let i : v ≡ s = cc in subst (IsLong m) i h
long_tail m u b s q y e (long_plain (suc k) c v l n h) =
    let i : m ≡ b = cc in
    absurd (both_ways (is_high m) (quote_not_high m q) (subst (λ (d : ℕ). is_high d ≡ true) (sym i) y))
long_tail m u b s q y e (long_taken zero c v l h) =
    let i : 92 ≡ b = cc in
    absurd (both_ways (is_high 92) refl (subst (λ (d : ℕ). is_high d ≡ true) (sym i) y))
long_tail m u b s q y e (long_taken (suc k) c v l h) =
    let i : m ≡ b = cc in
    absurd (both_ways (is_high m) (quote_not_high m q) (subst (λ (d : ℕ). is_high d ≡ true) (sym i) y))

drop_long : (m : ℕ) (t s : List ℕ) → is_quote m ≡ true → Each is_high t → IsLong m (t ++ s) → IsLong m s
drop_long m [] s q e h = h
drop_long m (b ∷ t) s q e h = drop_long m t s q e.1 (long_tail m (b ∷ (t ++ s)) b (t ++ s) q e.0 refl h)

long_byte : (m c b : ℕ) (t : List ℕ) → is_quote m ≡ true → BytesOf c b t → among c (m ∷ 92 ∷ []) ≡ false → among b (m ∷ 92 ∷ []) ≡ false
long_byte m c b t q (e, h, inl w) n = rw w.1 n
long_byte m c b t q (e, h, inr w) n = high_long m b q w.1

long_character : (m c b : ℕ) (t : List ℕ) → is_quote m ≡ true → BytesOf c b t → among b (m ∷ 92 ∷ []) ≡ false → among c (m ∷ 92 ∷ []) ≡ false
long_character m c b t q (e, h, inl w) n = rw w.1 at n
long_character m c b t q (e, h, inr w) n = high_long m c q w.0

-- ASCII bytes at the front
encodes_marks : (k m : ℕ) (s : List ℕ) → m < 128 → encodes (replicate k m ++ s) ≡ replicate k m ++ encodes s
encodes_marks zero m s l = refl
encodes_marks (suc k) m s l = rw (encode_ascii m l) (ap (λ (u : List ℕ). m ∷ u) (encodes_marks k m s l))

marks_head : (k m : ℕ) (u cs : List ℕ) → m < 128 → encodes cs ≡ replicate k m ++ u → (ds : List ℕ) × (cs ≡ replicate k m ++ ds) × (encodes ds ≡ u)
marks_head zero m u cs l e = (cs, refl, e)
marks_head (suc k) m u cs l e =
    let x = ascii_head m (replicate k m ++ u) cs l e in
    let y = marks_head k m u (x.0) l x.2 in
    (y.0, x.1 ∙ ap (λ (s : List ℕ). m ∷ s) y.1, y.2)

long_to : (m : ℕ) (cs : List ℕ) → is_quote m ≡ true → IsLong m cs → IsLong m (encodes cs)
long_to m cs q long_end = long_end
long_to m cs q (long_plain k c ds l n h) =
    let w = bytes_of c in
    let x = w.2 in
    rw (encodes_marks k m (c ∷ ds) (quote_low m q), x.0) (long_plain k (w.0) (w.1 ++ encodes ds) l (long_byte m c (w.0) (w.1) q x n) (each_long m (w.1) (encodes ds) q x.1 (long_to m ds q h)))
long_to m cs q (long_taken k c ds l h) =
    let w = bytes_of c in
    let x = w.2 in
    rw (encodes_marks k m (92 ∷ c ∷ ds) (quote_low m q), encode_ascii 92 (omega arith), x.0) (long_taken k (w.0) (w.1 ++ encodes ds) l (each_long m (w.1) (encodes ds) q x.1 (long_to m ds q h)))

long_from : (n m : ℕ) (cs s : List ℕ) → length cs ≤ n → is_quote m ≡ true → encodes cs ≡ s → IsLong m s → IsLong m cs
long_from zero m [] s l q e h = long_end
long_from zero m (c ∷ cs) s l q e h = absurd (omega arith)
long_from (suc n) m cs s l q e long_end = rw (nothing_of cs e) long_end
long_from (suc n) m cs s l q e (long_plain k b v t g h) =
    let z = marks_head k m (b ∷ v) cs (quote_low m q) e in
    let w = following b v (z.0) z.2 in
    let o : length cs ≡ length (replicate k m ++ z.0) = ap length z.1 in
    let r : length (z.0) ≡ length (w.0 ∷ w.1) = ap length w.3 in
    let i = drop_long m (w.2) (encodes (w.1)) q w.4.1 (subst (IsLong m) w.5 h) in
    let j = long_from n m (w.1) (encodes (w.1)) (omega (arith, o, r, length-append (replicate k m) (z.0))) q refl i in
    subst (IsLong m) (sym (z.1 ∙ ap (λ (u : List ℕ). replicate k m ++ u) w.3)) (long_plain k (w.0) (w.1) t (long_character m (w.0) b (w.2) q w.4 g) j)
long_from (suc n) m cs s l q e (long_taken k b v t h) =
    let z = marks_head k m (92 ∷ b ∷ v) cs (quote_low m q) e in
    let x = ascii_head 92 (b ∷ v) (z.0) (omega arith) z.2 in
    let w = following b v (x.0) x.2 in
    let o : length cs ≡ length (replicate k m ++ z.0) = ap length z.1 in
    let r : length (z.0) ≡ length (92 ∷ x.0) = ap length x.1 in
    let y : length (x.0) ≡ length (w.0 ∷ w.1) = ap length w.3 in
    let i = drop_long m (w.2) (encodes (w.1)) q w.4.1 (subst (IsLong m) w.5 h) in
    let j = long_from n m (w.1) (encodes (w.1)) (omega (arith, o, r, y, length-append (replicate k m) (z.0))) q refl i in
    subst (IsLong m) (sym (z.1 ∙ ap (λ (u : List ℕ). replicate k m ++ u) (x.1 ∙ ap (λ (u : List ℕ). 92 ∷ u) w.3))) (long_taken k (w.0) (w.1) t j)

-- ---- quoted texts

past_high : (t s v : List ℕ) (m : ℕ) (u : List ℕ) → Each is_high t → m < 128 → t ++ v ≡ s ++ (m ∷ u) → (r : List ℕ) × (s ≡ t ++ r) × (v ≡ r ++ (m ∷ u))
past_high [] s v m u h k e = (s, refl, e)
past_high (b ∷ t) [] v m u h k e =
    let i : b ≡ m = cc in
    let j : 128 ≤ m = leb-true 128 m (subst (λ (d : ℕ). is_high d ≡ true) i h.0) in
    absurd (omega arith)
past_high (b ∷ t) (c ∷ s) v m u h k e =
    let i : b ≡ c = cc in
    let j : t ++ v ≡ s ++ (m ∷ u) = cc in
    let w = past_high t s v m u h.1 k j in
    (w.0, rw i (ap (λ (x : List ℕ). c ∷ x) w.1), w.2)

one_more : (c m : ℕ) (cs ds es : List ℕ) → cs ≡ ds ++ (m ∷ es) → c ∷ cs ≡ (c ∷ ds) ++ (m ∷ es)
one_more c m cs ds es e = rw e refl

joined : (b a : ℕ) (f t g r s : List ℕ) → f ≡ b ∷ t → g ≡ r → s ≡ t ++ r → b ≡ a → f ++ g ≡ a ∷ s
joined b a f t g r s e i j k = rw (e, i, j, k) refl

-- where a mark is in the bytes, it is in the characters
mark_cut : (m : ℕ) (cs s u : List ℕ) → m < 128 → encodes cs ≡ s ++ (m ∷ u) → (ds : List ℕ) × (es : List ℕ) × (cs ≡ ds ++ (m ∷ es)) × (encodes ds ≡ s) × (encodes es ≡ u)
mark_cut m [] [] u k e = absurd cc
mark_cut m [] (a ∷ s) u k e = absurd cc
mark_cut m (c ∷ cs) [] u k e = let x = ascii_head m u (c ∷ cs) k e in ([], x.0, x.1, refl, x.2)
mark_cut m (c ∷ cs) (a ∷ s) u k e =
    let w = bytes_of c in
    let x = w.2 in
    let f : w.0 ∷ (w.1 ++ encodes cs) ≡ a ∷ (s ++ (m ∷ u)) = sym (ap (λ (s : List ℕ). s ++ encodes cs) x.0) ∙ e in
    let i : w.0 ≡ a = cc in
    let j : w.1 ++ encodes cs ≡ s ++ (m ∷ u) = cc in
    let y = past_high (w.1) s (encodes cs) m u x.1 k j in
    let z = mark_cut m cs (y.0) u k y.2 in
    (c ∷ z.0, z.1, one_more c m cs (z.0) (z.1) z.2, joined (w.0) a (encode c) (w.1) (encodes z.0) (y.0) s x.0 z.3 y.1 i, z.4)

append_encodes : (a b : List ℕ) → encodes (a ++ b) ≡ encodes a ++ encodes b
append_encodes [] b = refl
append_encodes (c ∷ a) b = ap (λ (s : List ℕ). encode c ++ s) (append_encodes a b) ∙ sym (append_assoc (encode c) (encodes a) (encodes b))

quoted_to : (cs : List ℕ) → IsQuoted cs → IsQuoted (encodes cs)
quoted_to cs (single m s q h) =
    let k = quote_low m q in
    rw (append_encodes s (m ∷ []), encode_ascii m k) (single m (encodes s) q (short_to m s q h))
quoted_to cs (triple m s q h) =
    let k = quote_low m q in
    rw (append_encodes s (m ∷ m ∷ m ∷ []), encode_ascii m k) (triple m (encodes s) q (long_to m s q h))

single_of : (m : ℕ) (cs ds es x : List ℕ) → cs ≡ m ∷ ds → ds ≡ es ++ (m ∷ x) → x ≡ [] → cs ≡ m ∷ (es ++ (m ∷ []))
single_of m cs ds es x e f g = rw (e, f, g) refl

triple_of : (m : ℕ) (cs a b c d x y z : List ℕ) → cs ≡ m ∷ a → a ≡ m ∷ b → b ≡ m ∷ c → c ≡ d ++ (m ∷ x) → x ≡ m ∷ y → y ≡ m ∷ z → z ≡ [] → cs ≡ m ∷ m ∷ m ∷ (d ++ (m ∷ m ∷ m ∷ []))
triple_of m cs a b c d x y z e f g h i j k = rw (e, f, g, h, i, j, k) refl

quoted_from : (cs u : List ℕ) → encodes cs ≡ u → IsQuoted u → IsQuoted cs
quoted_from cs u e (single m s q h) =
    let k = quote_low m q in
    let x = ascii_head m (s ++ (m ∷ [])) cs k e in
    let y = mark_cut m (x.0) s [] k x.2 in
    let i = single_of m cs (x.0) (y.0) (y.1) x.1 y.2 (nothing_of (y.1) y.4) in
    subst IsQuoted (sym i) (single m (y.0) q (short_from (length y.0) m (y.0) s (omega arith) q y.3 h))
quoted_from cs u e (triple m s q h) =
    let k = quote_low m q in
    let three = m ∷ m ∷ m ∷ [] in
    let x = ascii_head m (m ∷ m ∷ (s ++ three)) cs k e in
    let y = ascii_head m (m ∷ (s ++ three)) (x.0) k x.2 in
    let z = ascii_head m (s ++ three) (y.0) k y.2 in
    let w = mark_cut m (z.0) s (m ∷ m ∷ []) k z.2 in
    let f = ascii_head m (m ∷ []) (w.1) k w.4 in
    let g = ascii_head m [] (f.0) k f.2 in
    let i = triple_of m cs (x.0) (y.0) (z.0) (w.0) (w.1) (f.0) (g.0) x.1 y.1 z.1 w.2 f.1 g.1 (nothing_of (g.0) g.2) in
    subst IsQuoted (sym i) (triple m (w.0) q (long_from (length w.0) m (w.0) s (omega arith) q w.3 h))

-- ---- texts of ASCII

abbrev pub is_low : ℕ → Bool
is_low b = ltb b 128

pub low_encodes : (s : List ℕ) → every is_low s ≡ true → encodes s ≡ s
low_encodes [] h = refl
low_encodes (c ∷ s) h =
    let w = and_parts (is_low c) (every is_low s) h in
    rw (encode_ascii c (ltb-true c 128 w.0)) (ap (λ (u : List ℕ). c ∷ u) (low_encodes s w.1))

low_front : (p u cs : List ℕ) → every is_low p ≡ true → encodes cs ≡ p ++ u → (ds : List ℕ) × (cs ≡ p ++ ds) × (encodes ds ≡ u)
low_front [] u cs h e = (cs, refl, e)
low_front (a ∷ p) u cs h e =
    let w = and_parts (is_low a) (every is_low p) h in
    let x = ascii_head a (p ++ u) cs (ltb-true a 128 w.0) e in
    let y = low_front p u (x.0) w.1 x.2 in
    (y.0, x.1 ∙ ap (λ (s : List ℕ). a ∷ s) y.1, y.2)

-- characters whose bytes are ASCII
pub low_same : (cs : List ℕ) → every is_low (encodes cs) ≡ true → encodes cs ≡ cs
low_same cs h =
    let w = low_front (encodes cs) [] cs h (sym (append-nil (encodes cs))) in
    sym (w.1 ∙ (ap (λ (s : List ℕ). encodes cs ++ s) (nothing_of (w.0) w.2) ∙ append-nil (encodes cs)))

pub string_to : (cs : List ℕ) → IsString cs → IsString (encodes cs)
string_to cs (p, t, is, y, z) =
    let low = one_text (every is_low) prefixes refl p y in
    (p, encodes t, ap encodes is ∙ (append_encodes p t ∙ ap (λ (s : List ℕ). s ++ encodes t) (low_encodes p low)), y, quoted_to t z)

pub string_from : (cs : List ℕ) → IsString (encodes cs) → IsString cs
string_from cs (p, t, is, y, z) =
    let low = one_text (every is_low) prefixes refl p y in
    let w = low_front p t cs low is in
    (p, w.0, w.1, y, quoted_from (w.0) t w.2 z)
