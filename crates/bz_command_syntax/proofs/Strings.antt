-- A word between quotation marks is a lexeme of class String.
use Rattle.bz_command_syntax.proofs.Imported.{[], ◌++◌, ◌==◌, ◌||◌, ◌∙◌, ◌∷◌, ◌≡◌, among, ap, backslash, Bytes, cases_Bool, Class as class, escaped, false, flat_map, inl, inr, is_escaped, IsLexeme, IsShort, line_feed, list_any, or_parts, quotation_mark, quoted_of, refl, short_end, short_plain, short_taken, single, ℕ}

-- a byte that is written as it is
pub written_plain : (byte : ℕ) → is_escaped byte ≡ false → escaped byte ≡ byte ∷ []
written_plain byte h = let w = or_parts (byte == line_feed) (byte == quotation_mark || byte == backslash) h in rw (w.0, w.1) refl

short_more : (byte : ℕ) (rest : Bytes) → IsShort quotation_mark rest → IsShort quotation_mark (escaped byte ++ rest)
short_more byte rest l = elim (cases_Bool (byte == line_feed)) [
  | inl e ↦ rw e (short_taken l)
  | inr e ↦ elim (cases_Bool (byte == quotation_mark || byte == backslash)) [
    | inl f ↦ rw (e, f) (short_taken l)
    | inr f ↦
        let w = or_parts (byte == quotation_mark) (byte == backslash) f in
        let plain : among byte (quotation_mark ∷ line_feed ∷ backslash ∷ []) ≡ false = rw (w.0, e, w.1) refl in
        rw (e, f) (short_plain plain l)
  ]
]

short_text : (word : Bytes) → IsShort quotation_mark (flat_map escaped word)
short_text [] = short_end
short_text (byte ∷ word) = short_more byte (flat_map escaped word) (short_text word)

pub quoted_lexeme : (word : Bytes) → IsLexeme class.String (quoted_of word)
quoted_lexeme word = ([], quoted_of word, refl, refl, single quotation_mark (flat_map escaped word) refl (short_text word))

-- ---- a word of plain characters is written as it is

plain_text : (word : Bytes) → list_any is_escaped word ≡ false → flat_map escaped word ≡ word
plain_text [] h = refl
plain_text (byte ∷ word) h =
    let w = or_parts (is_escaped byte) (list_any is_escaped word) h in
    ap (λ (front : Bytes). front ++ flat_map escaped word) (written_plain byte w.0) ∙ ap (λ (rest : Bytes). byte ∷ rest) (plain_text word w.1)

pub quoted_plain : (word : Bytes) → list_any is_escaped word ≡ false → quoted_of word ≡ quotation_mark ∷ word ++ quotation_mark ∷ []
quoted_plain word h = rw (plain_text word h) refl
