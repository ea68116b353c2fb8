-- Comments that are joined, in the steps of the code.
use Rattle.bz_load.proofs.Words.{[], ◌++◌, ◌∙◌, ◌∷◌, ◌≡◌, above, all_comments_joined, ap, append-nil, append_assoc, Bytes, comments_joined, false, HostComments, is_some, List, no_comments, None, Option, option_map_or, refl, Some, suffix_alone, sym, true, true≢false}

joined_none : (before : List Bytes) (own : Option Bytes) → comments_joined (record { before = before; suffix = own }) (suffix_alone None) ≡ record { before = before; suffix = own }
joined_none before None = ap (λ (lines : List Bytes). record { before = lines; suffix = None }) (append-nil before)
joined_none before (Some own) = ap (λ (lines : List Bytes). record { before = lines; suffix = Some own }) (append-nil before)

pub none_taken : (own : HostComments) → own ≡ comments_joined own (suffix_alone None)
none_taken own = sym (joined_none own.before own.suffix)

pub suffix_above : (own : HostComments) (text : Bytes) → is_some own.suffix ≡ true → record { before = own.before ++ text ∷ []; suffix = own.suffix } ≡ comments_joined own (suffix_alone (Some text))
suffix_above own text there = by own.suffix there
  where
    by : (suffix : Option Bytes) → is_some suffix ≡ true → record { before = own.before ++ text ∷ []; suffix = suffix } ≡ comments_joined (record { before = own.before; suffix = suffix }) (suffix_alone (Some text))
    by None h = absurd (true≢false (sym h))
    by (Some suffix) h = refl

pub suffix_taken : (own : HostComments) (text : Bytes) → is_some own.suffix ≡ false → record { before = own.before; suffix = Some text } ≡ comments_joined own (suffix_alone (Some text))
suffix_taken own text none = by own.suffix none
  where
    by : (suffix : Option Bytes) → is_some suffix ≡ false → record { before = own.before; suffix = Some text } ≡ comments_joined (record { before = own.before; suffix = suffix }) (suffix_alone (Some text))
    by None h = ap (λ (lines : List Bytes). record { before = lines; suffix = Some text }) (sym (append-nil own.before))
    by (Some suffix) h = absurd (true≢false h)

-- lines above, then a suffix
pub joined_steps : (own other : HostComments) (lines : List Bytes) → lines ≡ own.before ++ other.before → comments_joined (record { before = lines; suffix = own.suffix }) (suffix_alone other.suffix) ≡ comments_joined own other
joined_steps own other lines is = by own.suffix
  where
    by : (suffix : Option Bytes) → comments_joined (record { before = lines; suffix = suffix }) (suffix_alone other.suffix) ≡ comments_joined (record { before = own.before; suffix = suffix }) other
    by None = ap (λ (before : List Bytes). record { before = before; suffix = other.suffix }) (append-nil lines ∙ is)
    by (Some suffix) =
        let last : List Bytes = option_map_or (λ text. text ∷ []) other.suffix [] in
        ap (λ (before : List Bytes). record { before = before; suffix = Some suffix }) (ap (λ before. before ++ last) is ∙ append_assoc own.before other.before last)

pub all_joined_more : (own : HostComments) (xs ys : List HostComments) → all_comments_joined own (xs ++ ys) ≡ all_comments_joined (all_comments_joined own xs) ys
all_joined_more own [] ys = refl
all_joined_more own (x ∷ xs) ys = all_joined_more (comments_joined own x) xs ys

joined_last : (own : HostComments) (xs : List HostComments) (last : HostComments) → comments_joined (all_comments_joined own xs) last ≡ all_comments_joined own (xs ++ last ∷ [])
joined_last own xs last = sym (all_joined_more own xs (last ∷ []))

-- lines above, whatever the suffix is
lines_above : (own : HostComments) (lines : List Bytes) → record { before = own.before ++ lines; suffix = own.suffix } ≡ comments_joined own (above lines)
lines_above own lines = by own.suffix
  where
    by : (suffix : Option Bytes) → record { before = own.before ++ lines; suffix = suffix } ≡ comments_joined (record { before = own.before; suffix = suffix }) (above lines)
    by None = refl
    by (Some suffix) = ap (λ (before : List Bytes). record { before = own.before ++ before; suffix = Some suffix }) (sym (append-nil lines))

-- the comments of a load: those above it, the path's, those above its symbols and at its end, and the suffixes
pub load_joined : (old between new : HostComments) (first path over end : List Bytes) (symbols : List HostComments) (suffix : Option Bytes)
    → between ≡ all_comments_joined (record { before = (((old.before ++ first) ++ path) ++ over) ++ end; suffix = old.suffix }) symbols
    → new ≡ comments_joined between (suffix_alone suffix)
    → new ≡ all_comments_joined old (above (first ++ (path ++ (over ++ end))) ∷ symbols ++ suffix_alone suffix ∷ [])
load_joined old between new first path over end symbols suffix b n =
    let begun : record { before = (((old.before ++ first) ++ path) ++ over) ++ end; suffix = old.suffix } ≡ comments_joined old (above (first ++ (path ++ (over ++ end)))) =
    ap (λ (lines : List Bytes). record { before = lines; suffix = old.suffix }) (append_assoc ((old.before ++ first) ++ path) over end ∙ (append_assoc (old.before ++ first) path (over ++ end) ∙ append_assoc old.before first (path ++ (over ++ end)))) ∙ lines_above old (first ++ (path ++ (over ++ end))) in
    n
    ∙ (ap (λ own. comments_joined own (suffix_alone suffix)) (b ∙ ap (λ own. all_comments_joined own symbols) begun)
    ∙ joined_last (comments_joined old (above (first ++ (path ++ (over ++ end))))) symbols (suffix_alone suffix))

-- those of what goes around a load
pub all_around : (f g h : List HostComments) (one two three : HostComments) → one ≡ all_comments_joined no_comments f → two ≡ all_comments_joined one g → three ≡ all_comments_joined two h
    → three ≡ all_comments_joined no_comments (f ++ (g ++ h))
all_around f g h one two three a b c =
    c ∙ (ap (λ cs. all_comments_joined cs h) (b ∙ ap (λ cs. all_comments_joined cs g) a)
    ∙ (sym (all_joined_more (all_comments_joined no_comments f) g h) ∙ sym (all_joined_more no_comments f (g ++ h))))
