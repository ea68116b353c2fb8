-- The words of a text, byte by byte.
use Rattle.bz_command_syntax.proofs.Imported.{[], ◌&&◌, ◌++◌, ◌==◌, ◌∷◌, ◌≡◌, ap, append-nil, append_assoc, backslash, begins_with_space, Bool, Bytes, cases_Bool, false, filter, inl, inr, is_nonempty, List, not, onto_first, pieces, refl, space, sym, true, words_after, words_of, ℕ}
pub use Rattle.bz_command_syntax.specs.Words.{after_word}

pub after_word-onto_first : (word : Bytes) (byte : ℕ) (all : List Bytes) → after_word word (onto_first byte all) ≡ after_word (word ++ byte ∷ []) all
after_word-onto_first word byte [] = refl
after_word-onto_first word byte (piece ∷ more) = ap (λ first. first ∷ more) (sym (append_assoc word (byte ∷ []) piece))

-- there is a piece, so it goes after nothing as it is
after_word-none : (following : Bool) (text : Bytes) → after_word [] (pieces following text) ≡ pieces following text
after_word-none following [] = refl
after_word-none following (byte ∷ rest) = elim (cases_Bool (byte == space && not following)) [
  | inl e ↦ rw e refl
  | inr e ↦ elim (cases_Bool (byte == backslash && begins_with_space rest)) [
    | inl f ↦ rw (e, f) (after_word-none (byte == backslash) rest)
    | inr f ↦ rw (e, f) (some (pieces (byte == backslash) rest))
  ]
]
  where
    some : (all : List Bytes) → after_word [] (onto_first byte all) ≡ onto_first byte all
    some [] = refl
    some (piece ∷ more) = refl

apart : (word : Bytes) (more : List Bytes) → filter is_nonempty (word ∷ more) ≡ filter is_nonempty (word ∷ []) ++ filter is_nonempty more
apart [] more = refl
apart (byte ∷ word) more = refl

pub words_begin : (text : Bytes) → words_after [] false text ≡ words_of text
unfolding words_after
words_begin text = ap (filter is_nonempty) (after_word-none false text)

pub words_at_space : (word : Bytes) (following : Bool) (byte : ℕ) (rest : Bytes) → (byte == space && not following) ≡ true
    → words_after word following (byte ∷ rest) ≡ filter is_nonempty (word ∷ []) ++ words_after [] (byte == backslash) rest
unfolding words_after
words_at_space word following byte rest e = rw (e, after_word-none (byte == backslash) rest, append-nil word) (apart word (pieces (byte == backslash) rest))

pub words_at_backslash : (word : Bytes) (following : Bool) (byte : ℕ) (rest : Bytes) → (byte == space && not following) ≡ false
    → (byte == backslash && begins_with_space rest) ≡ true → words_after word following (byte ∷ rest) ≡ words_after word (byte == backslash) rest
unfolding words_after
words_at_backslash word following byte rest e f = rw (e, f) refl

pub words_at_byte : (word : Bytes) (following : Bool) (byte : ℕ) (rest : Bytes) → (byte == space && not following) ≡ false
    → (byte == backslash && begins_with_space rest) ≡ false → words_after word following (byte ∷ rest) ≡ words_after (word ++ byte ∷ []) (byte == backslash) rest
unfolding words_after
words_at_byte word following byte rest e f = rw (e, f, after_word-onto_first word byte (pieces (byte == backslash) rest)) refl

pub words_end : (word : Bytes) (following : Bool) → words_after word following [] ≡ filter is_nonempty (word ∷ [])
unfolding words_after
words_end word following = ap (λ w. filter is_nonempty (w ∷ [])) (append-nil word)

-- a word that ends goes to the others
pub word_ended : (words all : List Bytes) (word next : Bytes) (following : Bool) (byte : ℕ) (rest : Bytes) → (byte == space && not following) ≡ true
    → all ≡ words ++ filter is_nonempty (word ∷ []) → next ≡ [] → all ++ words_after next (byte == backslash) rest ≡ words ++ words_after word following (byte ∷ rest)
word_ended words all word next following byte rest e more fresh =
    rw (more, fresh, append_assoc) (ap (λ (xs : List Bytes). words ++ xs) (sym (words_at_space word following byte rest e)))
