-- What a gap says is comments: each is a text of characters, begins with `#`, holds no newline and has no blank at its end.
use Rattle.bz_value.proofs.Words.{[], ◌++◌, ◌<◌, ◌∷◌, ◌≡◌, ◌≢◌, after_first_line, All-from_recursion, all_but_last, all_in, AllByRecursion, ap, append-nil, append_assoc, arith, as_list, backslash, before_groups, Bytes, cases_Bool, comments_in, drop_at, eqb, eqb-false, eqb-true, false, first_comment, GapLine, get_or-append_seam, groups_of, if◌then◌else◌, inl, inr, is_blank, is_indent, IsComment, IsUtf8, last_group, length, length-append, line_feed, lines_from, lines_of, List, MaybeComment, nat_tests, None, number_sign, Option, others_in, put_on_first, refl, rest_of_line, Some, subst, suc, suffix_in, sym, take_at, trimmed, true, with_first, ℕ}
use Rattle.std.proofs.lemmas.Str.{IsUtf8-take, IsUtf8-drop, IsCharBoundary-before_ascii}

abbrev OneLine : Bytes → Type 0
OneLine s = AllByRecursion (λ c. c ≢ line_feed) s

line_first : (c : ℕ) (s : Bytes) → c ≢ line_feed → OneLine s → OneLine (with_first c s)
line_first c [] h i = elim (cases_Bool (is_blank c)) [ inl b ↦ rw b tt | inr b ↦ rw b (h, tt) ]
line_first c (d ∷ s) h i = (h, i)

line_trimmed : (s : Bytes) → OneLine s → OneLine (trimmed s)
line_trimmed [] h = tt
line_trimmed (c ∷ s) h = line_first c (trimmed s) h.0 (line_trimmed s h.1)

trimmed_first : (c : ℕ) (s : Bytes) → trimmed s ≡ s → trimmed (with_first c s) ≡ with_first c s
trimmed_first c [] h = elim (cases_Bool (is_blank c)) [ inl b ↦ rw b refl | inr b ↦ rw b (rw b refl) ]
trimmed_first c (d ∷ s) h = ap (with_first c) h

pub trimmed_twice : (s : Bytes) → trimmed (trimmed s) ≡ trimmed s
trimmed_twice [] = refl
trimmed_twice (c ∷ s) = trimmed_first c (trimmed s) (trimmed_twice s)

marked : (s : Bytes) → with_first number_sign s ≡ number_sign ∷ s
marked [] = refl
marked (d ∷ s) = refl

-- ---- texts of characters, cut before an ASCII byte

cut_before : (front : Bytes) (c : ℕ) (rest : Bytes) → c < 128 → IsUtf8 (front ++ c ∷ rest) → IsUtf8 front × IsUtf8 (c ∷ rest)
cut_before front c rest l u =
    let seam = IsCharBoundary-before_ascii (front ++ c ∷ rest) (length front) (omega (arith, length-append front (c ∷ rest))) (omega (arith, get_or-append_seam front c rest 0)) in (
      subst IsUtf8 (take_at front (c ∷ rest) (length front) refl) (IsUtf8-take (front ++ c ∷ rest) (length front) u seam),
      subst IsUtf8 (drop_at front (c ∷ rest) (length front) refl) (IsUtf8-drop (front ++ c ∷ rest) (length front) u seam),
    )

blank_low : (c : ℕ) → is_blank c ≡ true → c < 128
blank_low c h = grind (arith, nat_tests)

coded_first : (front : Bytes) (c : ℕ) (s : Bytes) → IsUtf8 ((front ++ c ∷ []) ++ s) → IsUtf8 (front ++ with_first c s)
coded_first front c [] u =
    let v = subst IsUtf8 (append-nil (front ++ c ∷ [])) u in
    elim (cases_Bool (is_blank c)) [
      | inl b ↦ rw b (subst IsUtf8 (sym (append-nil front)) (cut_before front c [] (blank_low c b) v).0)
      | inr b ↦ rw b v
    ]
coded_first front c (d ∷ s) u = subst IsUtf8 (append_assoc front (c ∷ []) (d ∷ s)) u

coded_trimmed : (front s : Bytes) → IsUtf8 (front ++ s) → IsUtf8 (front ++ trimmed s)
coded_trimmed front [] u = u
coded_trimmed front (c ∷ s) u = coded_first front c (trimmed s) (coded_trimmed (front ++ c ∷ []) s (subst IsUtf8 (sym (append_assoc front (c ∷ []) s)) u))

-- ---- comments

comment_of : (s : Bytes) → OneLine s → IsUtf8 (number_sign ∷ s) → IsComment (trimmed (number_sign ∷ s))
comment_of s h u = record {
  begins = (trimmed s, marked (trimmed s));
  one_line = All-from_recursion (λ c. c ≢ line_feed) (trimmed (number_sign ∷ s)) (line_trimmed (number_sign ∷ s) ((λ e. cc), h));
  no_blank_end = trimmed_twice (number_sign ∷ s);
  coded = coded_trimmed [] (number_sign ∷ s) u;
}

-- each comment of the lines is one
abbrev pub AreFine : List GapLine → Type 0
AreFine ls = AllByRecursion (λ line. MaybeComment line.comment) ls

-- of a gap, or of what is left of one after some bytes
record FineGap (front g : Bytes) : Type 0 where
  lines : (indent : ℕ) → AreFine (lines_from indent g)
  following : AreFine (rest_of_line g).lines
  one_line : OneLine (rest_of_line g).words
  coded : IsUtf8 (front ++ (rest_of_line g).words)

abbrev AllFine : Bytes → Type 0
AllFine g = (front : Bytes) → IsUtf8 (front ++ g) → FineGap front g

fine_newline : (c : ℕ) (g front : Bytes) → c ≡ line_feed → FineGap (front ++ c ∷ []) g → IsUtf8 (front ++ c ∷ g) → FineGap front (c ∷ g)
fine_newline c g front e v u = subst (λ d. FineGap front (d ∷ g)) (sym e) (record {
  lines = λ indent. (tt, v.lines 0);
  following = v.lines 0;
  one_line = tt;
  coded = subst IsUtf8 (sym (append-nil front)) (cut_before front c g (omega arith) u).0;
})

fine_mark : (c : ℕ) (g front : Bytes) → eqb c line_feed ≡ false → eqb c number_sign ≡ true → FineGap (front ++ c ∷ []) g → IsUtf8 (front ++ c ∷ (rest_of_line g).words) → FineGap (number_sign ∷ []) g → FineGap front (c ∷ g)
fine_mark c g front b m v on w = record {
  lines = λ indent. rw m (comment_of (rest_of_line g).words w.one_line w.coded, v.following);
  following = rw b v.following;
  one_line = rw b (eqb-false c line_feed b, v.one_line);
  coded = rw b on;
}

fine_other : (c : ℕ) (g front : Bytes) → eqb c line_feed ≡ false → eqb c number_sign ≡ false → FineGap (front ++ c ∷ []) g → IsUtf8 (front ++ c ∷ (rest_of_line g).words) → FineGap front (c ∷ g)
fine_other c g front b m v on = record {
  lines = λ indent. elim (cases_Bool (eqb c backslash)) [ inl e ↦ rw (m, b, e) (tt, v.following) | inr e ↦ rw (m, b, e) (v.lines (if is_indent c then suc indent else 0)) ];
  following = rw b v.following;
  one_line = rw b (eqb-false c line_feed b, v.one_line);
  coded = rw b on;
}

fine_later : (c : ℕ) (g : Bytes) → AllFine g → AllFine (c ∷ g)
fine_later c g w front u =
    let v : FineGap (front ++ c ∷ []) g = w (front ++ c ∷ []) (subst IsUtf8 (sym (append_assoc front (c ∷ []) g)) u) in
    let on : IsUtf8 (front ++ c ∷ (rest_of_line g).words) = subst IsUtf8 (append_assoc front (c ∷ []) (rest_of_line g).words) v.coded in
    elim (cases_Bool (eqb c line_feed)) [
      | inl b ↦ fine_newline c g front (eqb-true c line_feed b) v u
      | inr b ↦ elim (cases_Bool (eqb c number_sign)) [
        | inl m ↦ fine_mark c g front b m v on (w (number_sign ∷ []) (subst (λ d. IsUtf8 (d ∷ g)) (eqb-true c number_sign m) (cut_before front c g (let i = eqb-true c number_sign m in omega arith) u).1))
        | inr m ↦ fine_other c g front b m v on
      ]
    ]

fine_from : (g : Bytes) → AllFine g
fine_from [] front u = record { lines = λ indent. tt; following = tt; one_line = tt; coded = u }
fine_from (c ∷ g) front u = fine_later c g (fine_from g) front u

pub fine_lines : (g : Bytes) → IsUtf8 g → AreFine (lines_of g)
fine_lines g u = (fine_from g [] u).lines 0

-- ---- the comments that a gap says

abbrev pub Group : List Bytes → Type 0
Group group = AllByRecursion IsComment group

pub all_joined : {X : Type 0} (P : X → Type 0) (xs ys : List X) → AllByRecursion P xs → AllByRecursion P ys → AllByRecursion P (xs ++ ys)
all_joined P [] ys h i = i
all_joined P (x ∷ xs) ys h i = (h.0, all_joined P xs ys h.1 i)

pub fine_listed : (o : Option Bytes) → MaybeComment o → Group (as_list o)
fine_listed None h = tt
fine_listed (Some text) h = (h, tt)

pub fine_comments : (ls : List GapLine) → AreFine ls → Group (comments_in ls)
fine_comments [] h = tt
fine_comments (line ∷ ls) h = all_joined IsComment (as_list line.comment) (comments_in ls) (fine_listed line.comment h.0) (fine_comments ls h.1)

fine_first : (ls : List GapLine) → AreFine ls → MaybeComment (first_comment ls)
fine_first [] h = tt
fine_first (line ∷ ls) h = h.0

pub fine_after : (ls : List GapLine) → AreFine ls → AreFine (after_first_line ls)
fine_after [] h = tt
fine_after (line ∷ ls) h = h.1

pub suffix_fine : (g : Bytes) → IsUtf8 g → MaybeComment (suffix_in g)
suffix_fine g u = fine_first (lines_of g) (fine_lines g u)

pub others_fine : (g : Bytes) → IsUtf8 g → Group (others_in g)
others_fine g u = fine_comments (after_first_line (lines_of g)) (fine_after (lines_of g) (fine_lines g u))

pub all_fine : (g : Bytes) → IsUtf8 g → Group (all_in g)
all_fine g u = fine_comments (lines_of g) (fine_lines g u)

-- ---- groups

abbrev pub Groups : List (List Bytes) → Type 0
Groups gs = AllByRecursion Group gs

on_first_fine : (text : Bytes) (gs : List (List Bytes)) → IsComment text → Groups gs → Groups (put_on_first text gs)
on_first_fine text [] h i = ((h, tt), tt)
on_first_fine text (g ∷ gs) h i = ((h, i.0), i.1)

before_fine : (o : Option Bytes) (gs : List (List Bytes)) → MaybeComment o → Groups gs → Groups (before_groups o gs)
before_fine None gs h i = (tt, i)
before_fine (Some text) gs h i = on_first_fine text gs h i

pub groups_fine : (ls : List GapLine) → AreFine ls → Groups (groups_of ls)
groups_fine [] h = (tt, tt)
groups_fine (line ∷ ls) h = before_fine line.comment (groups_of ls) h.0 (groups_fine ls h.1)

pub groups_front : (gs : List (List Bytes)) → Groups gs → Groups (all_but_last gs)
groups_front [] h = tt
groups_front (g ∷ []) h = tt
groups_front (g ∷ next ∷ gs) h = (h.0, groups_front (next ∷ gs) h.1)

pub groups_last : (gs : List (List Bytes)) → Groups gs → Group (last_group gs)
groups_last [] h = tt
groups_last (g ∷ []) h = h.0
groups_last (g ∷ next ∷ gs) h = groups_last (next ∷ gs) h.1
