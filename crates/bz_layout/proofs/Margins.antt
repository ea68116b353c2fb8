-- The gaps that the layout makes are where they may be, and are texts of characters.
use Rattle.bz_layout.proofs.Words.{[], ◌++◌, ◌+◌, ◌<◌, ◌||◌, ◌∙◌, ◌∷◌, ◌≡◌, ◌≢◌, AllByRecursion, Along, ap, append_assoc, arith, Begins, blank, Bool, Bytes, Class, Class as c, comment, comment_lines, ended, escaped, escaped_return, Expr, false, gap_after, GapStands, get_or, has_break, if◌then◌else◌, is_empty, is_flush, is_spaced, IsComment, IsGap, IsOneLine, IsUtf8, IsUtf8-append, IsUtf8-from_ascii, IsUtf8-nil, Kind, last_comment, line_feed, List, margin_lines, MaybeComment, new_line_at, no_such, None, nothing, Option, recursion_from_All, refl, replicate, root, Some, space, Spot, subst, suc, suffix_text, sym, true, unescaped, Within, zero, ℕ}
use Rattle.bz_layout.proofs.Elements.{in_line_class}

-- What may be before a token of a line: a gap, which is a text of characters. (The same may be before the first token
-- of a line as inside brackets.)
abbrev pub FitsAt : Spot → Bytes → Type 0
FitsAt Begins gap = IsGap true false gap × IsUtf8 gap
FitsAt Within gap = IsGap true false gap × IsUtf8 gap
FitsAt Along gap = IsGap false false gap × IsUtf8 gap

pub gap_stands : (class : Class) (here : Spot) (gap : Bytes) → in_line_class class ≡ true → FitsAt here gap → GapStands class here gap
gap_stands c.Newline here gap h g = no_such h
gap_stands c.End here gap h g = no_such h
gap_stands _ Begins gap h g = g.0
gap_stands _ Within gap h g = g.0
gap_stands _ Along gap h g = g.0

pub gap_coded : (here : Spot) (gap : Bytes) → FitsAt here gap → IsUtf8 gap
gap_coded Begins gap g = g.1
gap_coded Within gap g = g.1
gap_coded Along gap g = g.1

-- ---- texts of characters

low_byte : (b : ℕ) → b < 128 → (i : ℕ) → get_or (b ∷ []) i 0 < 128
low_byte b h zero = h
low_byte b h (suc i) = omega arith

-- a byte that is a character by itself, in front of a text of characters
pub coded_first : (b : ℕ) (s : Bytes) → b < 128 → IsUtf8 s → IsUtf8 (b ∷ s)
coded_first b s h u = IsUtf8-append (b ∷ []) s (IsUtf8-from_ascii (b ∷ []) (low_byte b h)) u

pub coded_byte : (b : ℕ) → b < 128 → IsUtf8 (b ∷ [])
coded_byte b h = coded_first b [] h IsUtf8-nil

-- ---- inside brackets

IsGap-append : (n u : Bool) (a b : Bytes) → IsGap n false a → IsGap n u b → IsGap n u (a ++ b)
IsGap-append n u a b (nothing i) h = subst (λ z. IsGap n u (z ++ b)) (sym i) h
IsGap-append n u a b (blank c r i k g) h = blank c (r ++ b) (ap (λ z. z ++ b) i) k (IsGap-append n u r b g h)
IsGap-append n u a b (escaped r i g) h = escaped (r ++ b) (ap (λ z. z ++ b) i) (IsGap-append n u r b g h)
IsGap-append n u a b (escaped_return r i g) h = escaped_return (r ++ b) (ap (λ z. z ++ b) i) (IsGap-append n u r b g h)
IsGap-append n u a b (unescaped r i k g) h = unescaped (r ++ b) (ap (λ z. z ++ b) i) k (IsGap-append n u r b g h)
IsGap-append n u a b (comment w r i o k g) h = comment w (r ++ b) (ap (λ z. z ++ b) i ∙ ap (λ z. 35 ∷ z) (append_assoc w (10 ∷ r) b)) o k (IsGap-append n u r b g h)
IsGap-append n u a b (last_comment w i o k) h = no_such k

pub inner_nothing : FitsAt Within []
inner_nothing = (nothing refl, IsUtf8-nil)

pub inner_append : (a b : Bytes) → FitsAt Within a → FitsAt Within b → FitsAt Within (a ++ b)
inner_append a b g h = (IsGap-append true false a b g.0 h.0, IsUtf8-append a b g.1 h.1)

pub inner_blank : (g : Bytes) → FitsAt Within g → FitsAt Within (space ∷ g)
inner_blank g h = (blank space g refl refl h.0, coded_first space g (omega arith) h.1)

pub inner_space : FitsAt Within (space ∷ [])
inner_space = inner_blank [] inner_nothing

pub inner_spaces : (n : ℕ) → FitsAt Within (replicate n space)
inner_spaces zero = inner_nothing
inner_spaces (suc n) = inner_blank (replicate n space) (inner_spaces n)

pub inner_newline : (g : Bytes) → FitsAt Within g → FitsAt Within (line_feed ∷ g)
inner_newline g h = (unescaped g refl refl h.0, coded_first line_feed g (omega arith) h.1)

pub inner_line : (m : ℕ) → FitsAt Within (new_line_at m)
inner_line m = inner_newline (replicate m space) (inner_spaces m)

one_line : (w : Bytes) → AllByRecursion (λ b. b ≢ 10) w → IsOneLine w
one_line [] h = tt
one_line (b ∷ w) h = (h.0, one_line w h.1)

-- no newline is after the `#` of a comment
pub rest_one_line : (text : Bytes) (h : IsComment text) → IsOneLine h.begins.0
rest_one_line text h =
    let all : IsOneLine (35 ∷ h.begins.0) = subst IsOneLine h.begins.1 (one_line text (recursion_from_All (λ (b : ℕ). b ≢ 10) text h.one_line)) in all.1

pub inner_comment : (text rest : Bytes) → IsComment text → FitsAt Within rest → FitsAt Within (text ++ (line_feed ∷ rest))
inner_comment text rest h g =
    (comment h.begins.0 rest (ap (λ z. z ++ (line_feed ∷ rest)) h.begins.1) (rest_one_line text h) refl g.0, IsUtf8-append text (line_feed ∷ rest) h.coded (coded_first line_feed rest (omega arith) g.1))

pub inner_above : (m : ℕ) (texts : List Bytes) → AllByRecursion IsComment texts → FitsAt Within (margin_lines m texts)
inner_above m [] h = inner_nothing
inner_above m (text ∷ texts) h = inner_comment text (replicate m space ++ margin_lines m texts) h.0 (inner_append (replicate m space) (margin_lines m texts) (inner_spaces m) (inner_above m texts h.1))

pub inner_suffix : (suffix : Option Bytes) (g : Bytes) → MaybeComment suffix → FitsAt Within g → FitsAt Within (suffix_text suffix ++ (line_feed ∷ g))
inner_suffix None g h i = inner_newline g i
inner_suffix (Some text) g h i = inner_blank (space ∷ (text ++ (line_feed ∷ g))) (inner_blank (text ++ (line_feed ∷ g)) (inner_comment text g h i))

pub inner_ended : (n m : ℕ) (texts : List Bytes) → AllByRecursion IsComment texts → (g : Bytes) × (ended n m texts ≡ line_feed ∷ g) × FitsAt Within g
inner_ended n m [] h = (replicate m space, refl, inner_spaces m)
inner_ended n m (text ∷ texts) h =
    let w = inner_ended n m texts h.1 in (
      replicate n space ++ (text ++ ended n m texts),
      refl,
      inner_append (replicate n space) (text ++ ended n m texts) (inner_spaces n) (subst (λ z. FitsAt Within (text ++ z)) (sym w.1) (inner_comment text w.0 h.0 w.2)),
    )

-- before an item of a broken sequence, and before its closing bracket
pub item_gap : (m : ℕ) (suffix : Option Bytes) (texts : List Bytes) → MaybeComment suffix → AllByRecursion IsComment texts → FitsAt Within (suffix_text suffix ++ (new_line_at m ++ margin_lines m texts))
item_gap m suffix texts s h = inner_suffix suffix (replicate m space ++ margin_lines m texts) s (inner_append (replicate m space) (margin_lines m texts) (inner_spaces m) (inner_above m texts h))

pub closer_gap : (n m : ℕ) (suffix : Option Bytes) (texts : List Bytes) → MaybeComment suffix → AllByRecursion IsComment texts → FitsAt Within (suffix_text suffix ++ ended n m texts)
closer_gap n m suffix texts s h =
    let w = inner_ended n m texts h in subst (λ z. FitsAt Within (suffix_text suffix ++ z)) (sym w.1) (inner_suffix suffix w.0 s w.2)

-- ---- in a row

abbrev pub is_begins : Spot → Bool
is_begins Begins = true
is_begins _ = false

pub none_fits : (here : Spot) → is_begins here ≡ false → FitsAt here []
none_fits Begins h = no_such (sym h)
none_fits Within h = inner_nothing
none_fits Along h = (nothing refl, IsUtf8-nil)

pub space_fits : (here : Spot) → is_begins here ≡ false → FitsAt here (space ∷ [])
space_fits Begins h = no_such (sym h)
space_fits Within h = inner_space
space_fits Along h = (blank space [] refl refl (nothing refl), coded_byte space (omega arith))

pub row_fits : (o b d : Bool) (j k : ℕ) (here : Spot) → is_begins here ≡ false → ((o || b) ≡ true → here ≡ Within) → FitsAt here (if o then new_line_at j else (if b then new_line_at k else (if d then space ∷ [] else [])))
row_fits true b d j k here h w = subst (λ z. FitsAt z (new_line_at j)) (sym (w refl)) (inner_line j)
row_fits false true d j k here h w = subst (λ z. FitsAt z (new_line_at k)) (sym (w refl)) (inner_line k)
row_fits false false true j k here h w = space_fits here h
row_fits false false false j k here h w = none_fits here h

pub after_fits : (kind : Kind) (open_break : Bool) (m : ℕ) (x : Expr) (ys : List Expr) (here : Spot) → is_begins here ≡ false → ((open_break || has_break x) ≡ true → is_empty ys ≡ false → here ≡ Within) → FitsAt here (gap_after kind open_break m x ys)
after_fits kind open_break m x [] here h w = none_fits here h
after_fits kind open_break m x (y ∷ ys) here h w = row_fits open_break (has_break x) (is_spaced kind (root x) (root y)) (if is_empty ys then m else m + 4) (m + 4) here h (λ e. w e refl)

-- ---- before the first token of a line

flush_first : (x : ℕ) (b : Bytes) → is_flush (x ∷ []) ≡ true → is_flush b ≡ true → is_flush (x ∷ b) ≡ true
flush_first x [] h k = h
flush_first x (y ∷ b) h k = k

flush_append : (a b : Bytes) → is_flush a ≡ true → is_flush b ≡ true → is_flush (a ++ b) ≡ true
flush_append [] b h k = k
flush_append (x ∷ []) b h k = flush_first x b h k
flush_append (x ∷ y ∷ a) b h k = flush_append (y ∷ a) b h k

pub flush_line : (a b : Bytes) → is_flush b ≡ true → is_flush (a ++ (line_feed ∷ b)) ≡ true
flush_line [] b h = flush_first line_feed b refl h
flush_line (x ∷ []) b h = flush_first line_feed b refl h
flush_line (x ∷ y ∷ a) b h = flush_line (y ∷ a) b h

-- what may be before the first token of a line of a BUILD file: no space and no tab is right before the token
abbrev pub FitsFlush : Bytes → Type 0
FitsFlush gap = FitsAt Begins gap × (is_flush gap ≡ true)

pub first_append : (a b : Bytes) → FitsFlush a → FitsFlush b → FitsFlush (a ++ b)
first_append a b h k = (inner_append a b h.0 k.0, flush_append a b h.1 k.1)

pub first_nothing : FitsFlush []
first_nothing = (inner_nothing, refl)

pub first_blank : FitsFlush (line_feed ∷ [])
first_blank = (inner_newline [] inner_nothing, refl)

pub lines_fit : (texts : List Bytes) → AllByRecursion IsComment texts → FitsFlush (comment_lines texts)
lines_fit [] h = first_nothing
lines_fit (text ∷ texts) h = let more = lines_fit texts h.1 in (inner_comment text (comment_lines texts) h.0 more.0, flush_line text (comment_lines texts) more.1)

-- ---- before a newline

-- a comment that the gap doesn't end, and its gap holds no newline
pub newline_gap : (suffix : Option Bytes) → MaybeComment suffix → IsGap false true (suffix_text suffix) × IsUtf8 (suffix_text suffix)
newline_gap None h = (nothing refl, IsUtf8-nil)
newline_gap (Some text) h = (
  blank space (space ∷ text) refl refl (blank space text refl refl (last_comment h.begins.0 h.begins.1 (rest_one_line text h) refl)),
  coded_first space (space ∷ text) (omega arith) (coded_first space text (omega arith) h.coded),
)
