-- Turns of the loop that drops repeats.
use Rattle.bz_passes.proofs.Words.{[], ◌&&◌, ◌++◌, ◌+◌, ◌-◌, ◌<◌, ◌||◌, ◌∙◌, ◌∷◌, ◌≡◌, AllByRecursion, and_parts, and_right, ap, append_assoc, AreKept, arith, between, Bool, Bytes, bytes_eq, bytes_eq-Decides, Expr, false, has_no_comment, if◌then◌else◌, is_lt, is_text_at, key_order, key_ties, key_total, last_of, length, length-append, List, list_any, list_any-append, None, NoneBefore, Option, option_map_or, Ordering, precedes, refl, repeats_at, slice_get, Some, sort_key, subst, suc, sym, text_of, tied_places, ties_last, true, without_repeats, zero, ℕ}
use Rattle.std.specs.Ordering.{ordering_reverse}
use Rattle.std.specs.declared.cmp.Ordering.TheVariants.{Less, Equal, Greater}
use Rattle.std.proofs.Math.Bool.{or_comm}
use Rattle.bz_passes.specs.private.Repeats.{precedes_last}
use Rattle.bz_passes.proofs.Keeping.{all_joined}

-- ---- keys of which none comes before the other

neither : (r s : Ordering) → r ≡ ordering_reverse s → is_lt r ≡ false → is_lt s ≡ false → r ≡ Equal
neither Less s e h k = cc
neither Equal s e h k = refl
neither Greater Less e h k = cc
neither Greater Equal e h k = cc
neither Greater Greater e h k = cc

same_key : (a b : Bytes) → is_lt (key_order a b) ≡ false → is_lt (key_order b a) ≡ false → a ≡ b
same_key a b h k = key_ties a b (neither (key_order a b) (key_order b a) (key_total.antisymm a b) h k)

-- ---- tests

or_none : (a : Bool) → (a || false) ≡ a
or_none true = refl
or_none false = refl

new_token : (b a c d p : Bool) → (a ≡ true → b ≡ true) → (b ≡ true → c ≡ d) → (c ≡ true → b ≡ true) → (a || (c && p)) ≡ (b && ((d && p) || a))
new_token true a c d p f g h = ap (λ z. a || (z && p)) (g refl) ∙ or_comm a (d && p)
new_token false true c d p f g h = let e : false ≡ true = f refl in cc
new_token false false true d p f g h = let e : false ≡ true = h refl in cc
new_token false false false d p f g h = refl

old_token : (b a c p : Bool) → (a ≡ true → b ≡ true) → (b ≡ true → c ≡ true) → (c ≡ true → b ≡ true) → (a ≡ true → p ≡ true) → (a || (c && p)) ≡ (b && p)
old_token true true c p f g h i = sym (i refl)
old_token true false c p f g h i = ap (λ z. z && p) (g refl)
old_token false true c p f g h i = let e : false ≡ true = f refl in cc
old_token false false true p f g h i = let e : false ≡ true = h refl in cc
old_token false false false p f g h i = refl

-- ---- places

module _ {X : Type 0} where
  pushed : (xs : List X) (x : X) → slice_get (xs ++ x ∷ []) (length xs) ≡ Some x
  pushed [] x = refl
  pushed (y ∷ xs) x = pushed xs x

  unchanged : (xs : List X) (x : X) (i : ℕ) → i < length xs → slice_get (xs ++ x ∷ []) i ≡ slice_get xs i
  unchanged [] x i h = absurd (omega arith)
  unchanged (y ∷ xs) x zero h = refl
  unchanged (y ∷ xs) x (suc i) h = unchanged xs x i (omega arith)

length_pushed : (kept : List Expr) (x : Expr) → length (kept ++ x ∷ []) ≡ length kept + 1
length_pushed kept x = length-append kept (x ∷ [])

last_pushed : (kept : List Expr) (x : Expr) → last_of (kept ++ x ∷ []) ≡ Some x
last_pushed kept x =
    let e : length (kept ++ x ∷ []) - 1 ≡ length kept = omega (arith, length_pushed kept x) in
    ap (slice_get (kept ++ x ∷ [])) e ∙ pushed kept x

abbrev Within : List Expr → List ℕ → Type 0
Within kept places = AllByRecursion (λ place. place < length kept) places

within_more : (kept : List Expr) (x : Expr) (places : List ℕ) → Within kept places → Within (kept ++ x ∷ []) places
within_more kept x [] h = tt
within_more kept x (place ∷ places) h = (omega (arith, length_pushed kept x, h.0), within_more kept x places h.1)

within_tied : (kept : List Expr) (d : Bool) (places : List ℕ) → Within kept places → Within kept (if d then places else [])
within_tied kept true places h = h
within_tied kept false places h = tt

stands_tied : (kept : List Expr) (d : Bool) (places : List ℕ) (text : Bytes) → repeats_at kept (if d then places else []) text ≡ (d && repeats_at kept places text)
stands_tied kept true places text = refl
stands_tied kept false places text = refl

stands_more : (kept : List Expr) (x : Expr) (places : List ℕ) (text : Bytes) → Within kept places → repeats_at (kept ++ x ∷ []) places text ≡ repeats_at kept places text
stands_more kept x [] text h = refl
stands_more kept x (place ∷ places) text h =
    ap (λ (found : Option Expr). option_map_or (λ x. bytes_eq text (text_of x)) found false || repeats_at (kept ++ x ∷ []) places text) (unchanged kept x place h.0)
    ∙ ap (λ z. is_text_at kept text place || z) (stands_more kept x places text h.1)

stands_new : (kept : List Expr) (x : Expr) (places : List ℕ) (text : Bytes) → Within kept places → repeats_at (kept ++ x ∷ []) (places ++ length kept ∷ []) text ≡ (repeats_at kept places text || bytes_eq text (text_of x))
stands_new kept x places text h =
    list_any-append (is_text_at (kept ++ x ∷ []) text) places (length kept ∷ [])
    ∙ ap (λ z. z || (is_text_at (kept ++ x ∷ []) text (length kept) || false)) (stands_more kept x places text h)
    ∙ ap (λ z. repeats_at kept places text || z) (or_none (is_text_at (kept ++ x ∷ []) text (length kept))
    ∙ ap (λ (found : Option Expr). option_map_or (λ x. bytes_eq text (text_of x)) found false) (pushed kept x))

-- ---- one later item

abbrev Sees : List Expr → List ℕ → List Bytes → Expr → Type 0
Sees kept places earlier x = (precedes_last kept x ≡ false) × (list_any (bytes_eq (text_of x)) earlier ≡ (ties_last kept x && repeats_at kept places (text_of x)))

ties_pushed : (kept : List Expr) (x y : Expr) → ties_last (kept ++ x ∷ []) y ≡ bytes_eq (sort_key x) (sort_key y)
ties_pushed kept x y = ap (λ (last : Option Expr). option_map_or (λ l. bytes_eq (sort_key l) (sort_key y)) last false) (last_pushed kept x)

precedes_pushed : (kept : List Expr) (x y : Expr) → precedes_last (kept ++ x ∷ []) y ≡ precedes y x
precedes_pushed kept x y = ap (λ (last : Option Expr). option_map_or (λ l. precedes y l) last false) (last_pushed kept x)

same_text_ties : (x y : Expr) → bytes_eq (text_of y) (text_of x) ≡ true → bytes_eq (sort_key x) (sort_key y) ≡ true
same_text_ties x y h = (bytes_eq-Decides (sort_key x) (sort_key y)).1 (ap between (sym ((bytes_eq-Decides (text_of y) (text_of x)).0 h)))

tied_alike : (kept : List Expr) (x y : Expr) → bytes_eq (sort_key x) (sort_key y) ≡ true → ties_last kept y ≡ ties_last kept x
tied_alike kept x y h =
    ap (λ (key : Bytes). option_map_or (λ last. bytes_eq (sort_key last) key) (last_of kept) false) (sym ((bytes_eq-Decides (sort_key x) (sort_key y)).0 h))

tied_through : (last : Option Expr) (x y : Expr) → option_map_or (λ l. precedes x l) last false ≡ false → precedes y x ≡ false
    → option_map_or (λ l. bytes_eq (sort_key l) (sort_key y)) last false ≡ true → bytes_eq (sort_key x) (sort_key y) ≡ true
tied_through None x y a b h = let e : false ≡ true = h in cc
tied_through (Some l) x y a b h =
    let e : sort_key l ≡ sort_key y = (bytes_eq-Decides (sort_key l) (sort_key y)).0 h in
    let f : is_lt (key_order (sort_key l) (sort_key x)) ≡ false = ap (λ key. is_lt (key_order key (sort_key x))) e ∙ b in
    (bytes_eq-Decides (sort_key x) (sort_key y)).1 (same_key (sort_key x) (sort_key l) a f ∙ e)

module _ (kept : List Expr) (places : List ℕ) (earlier : List Bytes) (x : Expr) (w : Within kept places) (mine : Sees kept places earlier x) where
  abbrev tied : List ℕ
  tied = tied_places kept x places

  within : Within kept tied
  within = within_tied kept (ties_last kept x) places w

  seen_text : (y : Expr) → repeats_at kept tied (text_of y) ≡ (ties_last kept x && repeats_at kept places (text_of y))
  seen_text y = stands_tied kept (ties_last kept x) places (text_of y)

  seen_new : (y : Expr) → precedes y x ≡ false → Sees kept places earlier y → Sees (kept ++ x ∷ []) (tied ++ length kept ∷ []) (text_of x ∷ earlier) y
  seen_new y n s =
      let e : repeats_at (kept ++ x ∷ []) (tied ++ length kept ∷ []) (text_of y) ≡ ((ties_last kept x && repeats_at kept places (text_of y)) || bytes_eq (text_of y) (text_of x)) =
      stands_new kept x tied (text_of y) within ∙ ap (λ z. z || bytes_eq (text_of y) (text_of x)) (seen_text y) in (
        precedes_pushed kept x y ∙ n,
        ap (λ z. bytes_eq (text_of y) (text_of x) || z) s.1
            ∙ (new_token (bytes_eq (sort_key x) (sort_key y)) (bytes_eq (text_of y) (text_of x)) (ties_last kept y) (ties_last kept x) (repeats_at kept places (text_of y))
            (same_text_ties x y) (tied_alike kept x y) (tied_through (last_of kept) x y mine.0 n)
            ∙ (ap (λ z. bytes_eq (sort_key x) (sort_key y) && z) (sym e)
            ∙ ap (λ z. z && repeats_at (kept ++ x ∷ []) (tied ++ length kept ∷ []) (text_of y)) (sym (ties_pushed kept x y)))),
      )

  seen_old : (y : Expr) → repeats_at kept tied (text_of x) ≡ true → precedes y x ≡ false → Sees kept places earlier y → Sees (kept ++ x ∷ []) tied (text_of x ∷ earlier) y
  seen_old y t n s =
      let joined : (ties_last kept x ≡ true) × (repeats_at kept places (text_of x) ≡ true) = and_parts (ties_last kept x) (repeats_at kept places (text_of x)) (sym (seen_text x) ∙ t) in
      let e : repeats_at (kept ++ x ∷ []) tied (text_of y) ≡ repeats_at kept places (text_of y) =
      stands_more kept x tied (text_of y) within ∙ (seen_text y ∙ ap (λ z. z && repeats_at kept places (text_of y)) joined.0) in (
        precedes_pushed kept x y ∙ n,
        ap (λ z. bytes_eq (text_of y) (text_of x) || z) s.1
            ∙ (old_token (bytes_eq (sort_key x) (sort_key y)) (bytes_eq (text_of y) (text_of x)) (ties_last kept y) (repeats_at kept places (text_of y))
            (same_text_ties x y) (λ h. tied_alike kept x y h ∙ joined.0) (tied_through (last_of kept) x y mine.0 n)
            (λ h. ap (repeats_at kept places) ((bytes_eq-Decides (text_of y) (text_of x)).0 h) ∙ joined.1)
            ∙ (ap (λ z. bytes_eq (sort_key x) (sort_key y) && z) (sym e)
            ∙ ap (λ z. z && repeats_at (kept ++ x ∷ []) tied (text_of y)) (sym (ties_pushed kept x y)))),
      )

  all_new : (rest : List Expr) → NoneBefore precedes x rest → AllByRecursion (Sees kept places earlier) rest → AllByRecursion (Sees (kept ++ x ∷ []) (tied ++ length kept ∷ []) (text_of x ∷ earlier)) rest
  all_new [] n s = tt
  all_new (y ∷ rest) n s = (seen_new y n.0 s.0, all_new rest n.1 s.1)

  all_old : (rest : List Expr) → repeats_at kept tied (text_of x) ≡ true → NoneBefore precedes x rest → AllByRecursion (Sees kept places earlier) rest → AllByRecursion (Sees (kept ++ x ∷ []) tied (text_of x ∷ earlier)) rest
  all_old [] t n s = tt
  all_old (y ∷ rest) t n s = (seen_old y t n.0 s.0, all_old rest t n.1 s.1)

  stands_earlier : list_any (bytes_eq (text_of x)) earlier ≡ repeats_at kept tied (text_of x)
  stands_earlier = mine.1 ∙ sym (seen_text x)

-- ---- the three turns

kept_goes : (kept rest all : List Expr) (earlier : List Bytes) (x : Expr) → (has_no_comment x && list_any (bytes_eq (text_of x)) earlier) ≡ false
    → kept ++ without_repeats earlier (x ∷ rest) ≡ without_repeats [] all → (kept ++ x ∷ []) ++ without_repeats (text_of x ∷ earlier) rest ≡ without_repeats [] all
kept_goes kept rest all earlier x h g =
    append_assoc kept (x ∷ []) (without_repeats (text_of x ∷ earlier) rest)
    ∙ (ap (λ (t : Bool). kept ++ (if t then without_repeats earlier rest else (x ∷ without_repeats (text_of x ∷ earlier) rest))) (sym h) ∙ g)

pub turn_new : (all kept : List Expr) (places : List ℕ) (rest : List Expr) (x : Expr) → repeats_at kept (tied_places kept x places) (text_of x) ≡ false
    → AreKept all kept places (x ∷ rest) → AreKept all (kept ++ x ∷ []) (tied_places kept x places ++ length kept ∷ []) rest
turn_new all kept places rest x f k = record {
  earlier = text_of x ∷ k.earlier;
  goes = kept_goes kept rest all k.earlier x (ap (λ z. has_no_comment x && z) (stands_earlier kept places k.earlier x k.within k.sees.0 ∙ f) ∙ and_right (has_no_comment x) false refl) k.goes;
  within = all_joined (λ place. place < length (kept ++ x ∷ [])) (tied_places kept x places) (length kept ∷ [])
      (within_more kept x (tied_places kept x places) (within_tied kept (ties_last kept x) places k.within)) (omega (arith, length_pushed kept x), tt);
  sees = all_new kept places k.earlier x k.within k.sees.0 rest k.rises.0 k.sees.1;
  rises = k.rises.1;
}

pub turn_old : (all kept : List Expr) (places : List ℕ) (rest : List Expr) (x : Expr) → repeats_at kept (tied_places kept x places) (text_of x) ≡ true → has_no_comment x ≡ false
    → AreKept all kept places (x ∷ rest) → AreKept all (kept ++ x ∷ []) (tied_places kept x places) rest
turn_old all kept places rest x t f k = record {
  earlier = text_of x ∷ k.earlier;
  goes = kept_goes kept rest all k.earlier x (ap (λ z. z && list_any (bytes_eq (text_of x)) k.earlier) f) k.goes;
  within = within_more kept x (tied_places kept x places) (within_tied kept (ties_last kept x) places k.within);
  sees = all_old kept places k.earlier x k.within k.sees.0 rest t k.rises.0 k.sees.1;
  rises = k.rises.1;
}

pub turn_dropped : (all kept : List Expr) (places : List ℕ) (rest : List Expr) (x : Expr) → repeats_at kept (tied_places kept x places) (text_of x) ≡ true → has_no_comment x ≡ true
    → AreKept all kept places (x ∷ rest) → AreKept all kept (tied_places kept x places) rest
turn_dropped all kept places rest x t h k =
    let joined : (ties_last kept x ≡ true) × (repeats_at kept places (text_of x) ≡ true) =
    and_parts (ties_last kept x) (repeats_at kept places (text_of x)) (sym (stands_tied kept (ties_last kept x) places (text_of x)) ∙ t) in
    let same : places ≡ tied_places kept x places = ap (λ (d : Bool). if d then places else []) (sym joined.0) in
    let skip : (has_no_comment x && list_any (bytes_eq (text_of x)) k.earlier) ≡ true =
    ap (λ z. z && list_any (bytes_eq (text_of x)) k.earlier) h ∙ (stands_earlier kept places k.earlier x k.within k.sees.0 ∙ t) in
    subst (λ (ps : List ℕ). AreKept all kept ps rest) same (record {
      earlier = k.earlier;
      goes = ap (λ (t : Bool). kept ++ (if t then without_repeats k.earlier rest else (x ∷ without_repeats (text_of x ∷ k.earlier) rest))) (sym skip) ∙ k.goes;
      within = k.within;
      sees = k.sees.1;
      rises = k.rises.1;
    })

-- ---- the same of lists that are these

pub turned : (all kept more : List Expr) (places found : List ℕ) (rest : List Expr) → more ≡ kept → found ≡ places → AreKept all kept places rest → AreKept all more found rest
turned all kept more places found rest d e k =
    subst (λ (ps : List ℕ). AreKept all more ps rest) (sym e) (subst (λ (xs : List Expr). AreKept all xs places rest) (sym d) k)
