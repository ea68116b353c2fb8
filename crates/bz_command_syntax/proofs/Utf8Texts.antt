-- What is UTF-8 and cut beside ASCII stays UTF-8.
use Rattle.bz_command_syntax.proofs.Imported.{[], ◌&&◌, ◌++◌, ◌+◌, ◌<◌, ◌==◌, ◌||◌, ◌∙◌, ◌∷◌, ◌≡◌, after_word, and_parts, ap, append-nil, append_assoc, AreUtf8, arith, backslash, begins_with_space, Bool, Bytes, cases_Bool, cut_at, drop, drop_at, eqb-true, escaped, false, filter, flat_map, get_or, get_or-append_seam, IfSome, inl, inr, is_escaped, is_nonempty, IsCharBoundary-after_ascii, IsCharBoundary-before_ascii, IsUtf8, IsUtf8-append, IsUtf8-drop, IsUtf8-from_ascii, IsUtf8-take, length, length-append, letter_n, line_feed, List, None, not, Option, option_map, or_cases, pieces, position, quotation_mark, quoted_of, refl, Some, space, subst, sym, take, take_at, true, words_of, ℕ}
use Rattle.std.proofs.{lemmas.Str.Ascii.IsAscii-from_all, lemmas.List.Elements.All-cons, lemmas.List.Quantifiers.position-Some}
use Rattle.bz_command_syntax.proofs.{Pieces.after_word-onto_first, Strings.written_plain}

-- a text on both sides of an ASCII byte
pub beside_ascii : (front : Bytes) (byte : ℕ) (rest : Bytes) → byte < 128 → IsUtf8 (front ++ byte ∷ rest) → IsUtf8 front × IsUtf8 rest
beside_ascii front byte rest h u =
    let all : Bytes = front ++ byte ∷ rest in
    let long : length all ≡ length front + length (byte ∷ rest) = length-append front (byte ∷ rest) in
    let here : get_or all (length front) 0 ≡ byte = get_or-append_seam front byte rest 0 in
    let more : front ++ byte ∷ rest ≡ (front ++ byte ∷ []) ++ rest = sym (append_assoc front (byte ∷ []) rest) in
    let past : drop (length front + 1) all ≡ rest =
    ap (drop (length front + 1)) more ∙ drop_at (front ++ byte ∷ []) rest (length front + 1) (length-append front (byte ∷ [])) in (
      subst IsUtf8 (take_at front (byte ∷ rest) (length front) refl) (IsUtf8-take all (length front) u (IsCharBoundary-before_ascii all (length front) (omega arith) (omega arith))),
      subst IsUtf8 past (IsUtf8-drop all (length front + 1) u (IsCharBoundary-after_ascii all (length front) u (omega arith) (omega arith))),
    )

-- both sides of a cut
pub cut_utf8 : (byte : ℕ) (text : Bytes) → byte < 128 → IsUtf8 text → IfSome (cut_at byte text) (λ parts. IsUtf8 parts.0 × IsUtf8 parts.1)
cut_utf8 byte text l u = by (position (λ each. each == byte) text) refl
  where
    by : (found : Option ℕ) → position (λ each. each == byte) text ≡ found → IfSome {T = Bytes × Bytes} (option_map (λ at. (take at text, drop (at + 1) text)) found) (λ parts. IsUtf8 parts.0 × IsUtf8 parts.1)
    by None e = tt
    by (Some at) e =
        let found = position-Some (λ each. each == byte) text at 0 e in
        let here : get_or text at 0 ≡ byte = eqb-true (get_or text at 0) byte found.1 in
        let low : get_or text at 0 < 128 = omega (arith, here) in
        (IsUtf8-take text at u (IsCharBoundary-before_ascii text at found.0 low), IsUtf8-drop text (at + 1) u (IsCharBoundary-after_ascii text at u found.0 low))

pub one_ascii : (byte : ℕ) → byte < 128 → IsUtf8 (byte ∷ [])
one_ascii byte h = IsUtf8-from_ascii (byte ∷ []) (IsAscii-from_all (byte ∷ []) (All-cons (λ b. b < 128) byte [] h (λ k d l. absurd (omega arith))))

-- ---- a word between quotation marks

-- a byte that has a backslash before it is ASCII, as what is written for it
abbrev IsWritten : ℕ → Type 0
IsWritten byte = (byte < 128) × IsUtf8 (escaped byte)

two_ascii : (second : ℕ) → second < 128 → IsUtf8 (backslash ∷ second ∷ [])
two_ascii second h = IsUtf8-append (backslash ∷ []) (second ∷ []) (one_ascii backslash (omega arith)) (one_ascii second h)

written : (byte : ℕ) → is_escaped byte ≡ true → IsWritten byte
written byte h = elim (or_cases (byte == line_feed) (byte == quotation_mark || byte == backslash) h) [
  | inl e ↦ subst IsWritten (sym (eqb-true byte line_feed e)) (omega arith, two_ascii letter_n (omega arith))
  | inr e ↦ elim (or_cases (byte == quotation_mark) (byte == backslash) e) [
    | inl f ↦ subst IsWritten (sym (eqb-true byte quotation_mark f)) (omega arith, two_ascii quotation_mark (omega arith))
    | inr f ↦ subst IsWritten (sym (eqb-true byte backslash f)) (omega arith, two_ascii backslash (omega arith))
  ]
]

escapes_utf8 : (front rest : Bytes) → IsUtf8 (front ++ rest) → IsUtf8 (front ++ flat_map escaped rest)
escapes_utf8 front [] u = u
escapes_utf8 front (byte ∷ rest) u = elim (cases_Bool (is_escaped byte)) [
  | inl e ↦
      let w = written byte e in
      let v = beside_ascii front byte rest w.0 u in
      IsUtf8-append front (escaped byte ++ flat_map escaped rest) v.0 (IsUtf8-append (escaped byte) (flat_map escaped rest) w.1 (escapes_utf8 [] rest v.1))
  | inr e ↦
      subst (λ (text : Bytes). IsUtf8 (front ++ (text ++ flat_map escaped rest))) (sym (written_plain byte e))
      (rw append_assoc at (escapes_utf8 (front ++ byte ∷ []) rest (rw append_assoc u)))
]

pub quoted_utf8 : (word : Bytes) → IsUtf8 word → IsUtf8 (quoted_of word)
quoted_utf8 word u =
    IsUtf8-append (quotation_mark ∷ flat_map escaped word) (quotation_mark ∷ [])
    (IsUtf8-append (quotation_mark ∷ []) (flat_map escaped word) (one_ascii quotation_mark (omega arith)) (escapes_utf8 [] word u))
    (one_ascii quotation_mark (omega arith))

-- ---- the words of a text

pub nothing_before : (all : List Bytes) → AreUtf8 (after_word [] all) → AreUtf8 all
nothing_before [] u = tt
nothing_before (piece ∷ all) u = u

pieces_utf8 : (front : Bytes) (following : Bool) (text : Bytes) → IsUtf8 (front ++ text) → AreUtf8 (after_word front (pieces following text))
pieces_utf8 front following [] u = (u, tt)
pieces_utf8 front following (byte ∷ rest) u = elim (cases_Bool (byte == space && not following)) [
  | inl e ↦
      let same : byte ≡ space = eqb-true byte space ((and_parts (byte == space) (not following) e).0) in
      let w = beside_ascii front byte rest (omega arith) u in
      rw e (subst IsUtf8 (sym (append-nil front)) w.0, nothing_before (pieces (byte == backslash) rest) (pieces_utf8 [] (byte == backslash) rest w.1))
  | inr e ↦ elim (cases_Bool (byte == backslash && begins_with_space rest)) [
    | inl f ↦
        let same : byte ≡ backslash = eqb-true byte backslash ((and_parts (byte == backslash) (begins_with_space rest) f).0) in
        let w = beside_ascii front byte rest (omega arith) u in
        rw (e, f) (pieces_utf8 front (byte == backslash) rest (IsUtf8-append front rest w.0 w.1))
    | inr f ↦ rw (e, f, after_word-onto_first front byte (pieces (byte == backslash) rest)) (pieces_utf8 (front ++ byte ∷ []) (byte == backslash) rest (rw append_assoc u))
  ]
]

filter_utf8 : (all : List Bytes) → AreUtf8 all → AreUtf8 (filter is_nonempty all)
filter_utf8 [] u = tt
filter_utf8 ([] ∷ all) u = filter_utf8 all u.1
filter_utf8 ((byte ∷ piece) ∷ all) u = (u.0, filter_utf8 all u.1)

pub words_utf8 : (text : Bytes) → IsUtf8 text → AreUtf8 (words_of text)
words_utf8 text u = filter_utf8 (pieces false text) (nothing_before (pieces false text) (pieces_utf8 [] false text u))
