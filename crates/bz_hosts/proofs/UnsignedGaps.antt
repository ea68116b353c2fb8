-- A gap without a number sign has no comment.
use Rattle.bz_hosts.proofs.Words.{[], ◌++◌, ◌+◌, ◌∙◌, ◌∷◌, ◌≡◌, ◌⊎◌, above_after, add-one, all_in, AllByRecursion, and_parts, ap, append-nil, as_list, Bool, Bytes, cases_Bool, comments_in, drop, false, first_seen_gap, GapLine, get_or, has_newline, if◌then◌else◌, inl, inr, is_indent, is_unsigned, item_gap, line_feed, lines_from, lines_of, List, map, nat_eq, None, not, not-true, number_sign, Option, others_in, Part, refl, replicate, rest_of_line, Seen, seen, Some, some_newline, subst, suc, suffix_in, sym, true, zero, ℕ}
use Rattle.bz_items.specs.Characters.{backslash, space}
use Rattle.bz_hosts.proofs.Gathered.{none_in}

-- ---- what is known of a gap

abbrev Spacing : Bytes → Type 0
Spacing gap = (count : ℕ) × ((gap ≡ replicate count space) ⊎ (gap ≡ line_feed ∷ replicate count space))

spaces_quiet : (count : ℕ) → true ≡ is_unsigned (replicate count space)
spaces_quiet zero = refl
spaces_quiet (suc count) = spaces_quiet count

pub spacing_quiet : (gap : Bytes) → Spacing gap → true ≡ is_unsigned gap
spacing_quiet gap (count, inl spaces) = spaces_quiet count ∙ ap is_unsigned (sym spaces)
spacing_quiet gap (count, inr line) = spaces_quiet count ∙ ap is_unsigned (sym line)

spaces_still : (count indent : ℕ) → false ≡ some_newline (lines_from indent (replicate count space))
spaces_still zero indent = refl
spaces_still (suc count) indent = spaces_still count (suc indent)

pub spacing_breaks : (gap bytes : Bytes) (begins : Bool) → Spacing gap → bytes ≡ gap → begins ≡ nat_eq (get_or bytes 0 0) line_feed → begins ≡ has_newline gap
spacing_breaks gap bytes begins (zero, inl spaces) i b = b ∙ (ap (λ g. nat_eq (get_or g 0 0) line_feed) (i ∙ spaces) ∙ ap has_newline (sym spaces))
spacing_breaks gap bytes begins (suc count, inl spaces) i b = b ∙ (ap (λ g. nat_eq (get_or g 0 0) line_feed) (i ∙ spaces) ∙ (spaces_still (suc count) 0 ∙ ap has_newline (sym spaces)))
spacing_breaks gap bytes begins (count, inr line) i b = b ∙ (ap (λ g. nat_eq (get_or g 0 0) line_feed) (i ∙ line) ∙ ap has_newline (sym line))

-- ---- no number sign

abbrev Bare : List GapLine → Type 0
Bare lines = AllByRecursion (λ line. line.comment ≡ None) lines

bare_from : (g : Bytes) → is_unsigned g ≡ true → ((indent : ℕ) → Bare (lines_from indent g)) × Bare (rest_of_line g).lines
bare_from [] h = (λ indent. tt, tt)
bare_from (c ∷ g) h =
    let w = and_parts (not (nat_eq c number_sign)) (is_unsigned g) h in
    let sign = not-true (nat_eq c number_sign) w.0 in
    let rest = bare_from g w.1 in
    elim (cases_Bool (nat_eq c line_feed)) [
      | inl feed ↦ (λ indent. rw (sign, feed) (refl, rest.0 0), rw feed (rest.0 0))
      | inr other ↦ (
        λ indent. elim (cases_Bool (nat_eq c backslash)) [ inl slash ↦ rw (sign, other, slash) (refl, rest.1) | inr plain ↦ rw (sign, other, plain) (rest.0 (if is_indent c then suc indent else 0)) ],
        rw other rest.1,
      )
    ]

lines_bare : (g : Bytes) → is_unsigned g ≡ true → Bare (lines_of g)
lines_bare g h = (bare_from g h).0 0

comments_bare : (lines : List GapLine) → Bare lines → comments_in lines ≡ []
comments_bare [] h = refl
comments_bare (line ∷ lines) h = ap (λ o. as_list o ++ comments_in lines) h.0 ∙ comments_bare lines h.1

all_quiet : (g : Bytes) → is_unsigned g ≡ true → all_in g ≡ []
all_quiet g h = comments_bare (lines_of g) (lines_bare g h)

-- at a glance, by which no comment is in the gap
pub gap_quiet : (gap : Bytes) (quiet : Bool) (old : List Bytes) → quiet ≡ is_unsigned gap → quiet ≡ true → old ≡ old ++ all_in gap
gap_quiet gap quiet old q t = sym (ap (λ texts. old ++ texts) (all_quiet gap (sym q ∙ t)) ∙ append-nil old)

others_quiet : (g : Bytes) → is_unsigned g ≡ true → others_in g ≡ []
others_quiet g h = (none_in g (all_quiet g h)).1

suffix_quiet : (g : Bytes) → is_unsigned g ≡ true → suffix_in g ≡ None
suffix_quiet g h = no_text (suffix_in g) (none_in g (all_quiet g h)).0
  where
    no_text : (o : Option Bytes) → as_list o ≡ [] → o ≡ None
    no_text None e = refl
    no_text (Some text) e = cc

-- ---- after an item, from its mark on

above_at : (ss : List Seen) → is_unsigned (first_seen_gap ss) ≡ true → is_unsigned (first_seen_gap (drop 1 ss)) ≡ true → above_after ss ≡ []
above_at [] h k = refl
above_at (mark ∷ []) h k = others_quiet mark.gap h
above_at (mark ∷ t ∷ ss) h k = ap (λ texts. texts ++ others_in t.gap) (all_quiet mark.gap h) ∙ others_quiet t.gap k

suffix_at : (ss : List Seen) → is_unsigned (first_seen_gap ss) ≡ true → is_unsigned (first_seen_gap (drop 1 ss)) ≡ true → suffix_in (item_gap ss) ≡ None
suffix_at [] h k = refl
suffix_at (mark ∷ []) h k = suffix_quiet mark.gap h
suffix_at (mark ∷ t ∷ ss) h k = suffix_quiet t.gap k

next_gap : (ps : List Part) (at : ℕ) → first_seen_gap (map seen (drop (suc at) ps)) ≡ first_seen_gap (drop 1 (map seen (drop at ps)))
next_gap [] zero = refl
next_gap [] (suc at) = refl
next_gap (x ∷ ps) zero = refl
next_gap (x ∷ ps) (suc at) = next_gap ps at

pub nothing_after : (ps : List Part) (at : ℕ) → is_unsigned (first_seen_gap (map seen (drop at ps))) ≡ true → is_unsigned (first_seen_gap (map seen (drop (at + 1) ps))) ≡ true →
    (above_after (map seen (drop at ps)) ≡ []) × (suffix_in (item_gap (map seen (drop at ps))) ≡ None)
nothing_after ps at h k =
    let next : is_unsigned (first_seen_gap (drop 1 (map seen (drop at ps)))) ≡ true =
    subst (λ (g : Bytes). is_unsigned g ≡ true) (ap (λ k. first_seen_gap (map seen (drop k ps))) (add-one at) ∙ next_gap ps at) k in
    (above_at (map seen (drop at ps)) h next, suffix_at (map seen (drop at ps)) h next)
