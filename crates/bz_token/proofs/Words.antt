-- What the proofs of this crate speak of, from std, from the crates below and from its own specs.
pub use Rattle.bz_token.specs.Bytes.{among, brackets_and_comma, is_digit, is_e, is_hexadecimal, is_high, is_letter, is_o, is_octal, is_quote, is_sign, is_solid, is_x, separators}
pub use Rattle.bz_token.specs.Characters.{ByCharacters, is_letter_character, IsWordOfCharacters}
pub use Rattle.bz_token.specs.Laws.{AllTokens, Begins, ClassOfNumber, Cuts, EachKeyword, EachMark, EachNumber, numbers, OneToken, OpensAfterPrefix, Separated}
pub use Rattle.bz_token.specs.Lexemes.{Each, hexadecimal, in_table, is_keyword, is_mark, is_prefix, IsDigits, IsExponent, IsLetters, IsLexeme, IsLong, IsNumber, IsQuoted, IsShort, IsSigned, IsString, IsWord, keywords, long_end, long_plain, long_taken, marks, MayBeExponent, none, octal, one, point_first, pointed, prefixes, scaled, short_end, short_line, short_plain, short_taken, single, SomeOf, three, triple, whole}
pub use Rattle.bz_token.specs.Tokens.{IsToken, NoToken, OpensString, TokenAt}
pub use Rattle.bz_token.specs.declared.class.Class.{Class}
pub use Rattle.bz_token.specs.declared.state.Quote.{Quote}
pub use Rattle.bz_token.specs.declared.state.Quote.TheVariants.{Double, Single}
pub use Rattle.bz_token.specs.declared.state.State.{State}
pub use Rattle.bz_token.specs.declared.state.State.TheVariants.{Bang, Closed, Empty, Ended, Exponent, ExponentMark, ExponentSign, Fraction, Greater, Hex, HexMark, High, HighMark, HighOther, Less, Long, LongOne, LongTaken, LongTwo, Oct, OctMark, Opened, Operator, Point, PrefixB, PrefixBoth, PrefixR, Short, ShortReturn, ShortTaken, Slash, Star, Start, Whole, Word, Zero}
pub use Rattle.bz_token.specs.private.Machine.{after, and_next, longest, one_longer, or_best, or_found, or_here, takes}
pub use Rattle.bz_token.specs.private.Scanner.{before_third, doubled_move, ends, is_in_string, keyword_or_name, lone_marks, long_move, mark_start, may_end, move, number_start, operator_marks, quote_byte, quote_or_word, reads, text_start, word_move}
unfoldable pub use Rattle.bz_token.specs.private.Scanner.{longest_front}
pub use Rattle.std.proofs.Common.{[], ◌&&◌, ◌++◌, ◌+◌, ◌-◌, ◌/◌, ◌<◌, ◌||◌, ◌∙◌, ◌∷◌, ◌≡◌, ◌≢◌, ◌≤◌, ◌⊎◌, add-one, ap, append-nil, append_assoc, arith, Bool, bytes_eq, codes, drop, drop-cons, drop_of_length-le, eq-eqb, eqb, eqb-true, false, get_or, IfSome, if◌then◌else◌, inl, inr, is_none, is_some, IsCharBoundary, IsTrue, IsUtf8, le-leb, le-ltb, leb, leb-false, leb-true, length, length-append, length-drop, length-take-le, List, lt-ltb, ltb, ltb-true, ne_eqb, None, not, Option, refl, replicate, rules, Some, subst, suc, sym, take, take-append-drop, true, zero, ℕ}
pub use Rattle.std.proofs.Math.Seq.{get_or-append_seam, take-length}
pub use Rattle.std.proofs.lemmas.Bool.{and_from, and_left, and_parts, and_right, both_ways, cases_Bool, cases_eq, cases_lt, lt-leb, not-true, not_from_false, or_cases, or_left, or_parts, or_right}
pub use Rattle.std.proofs.lemmas.Bool.Decides.{nat_tests}
pub use Rattle.std.proofs.lemmas.Option.{none-some, same_Some}
pub use Rattle.std.proofs.lemmas.Str.{encode_ascii, lead_after_ascii}
pub use Rattle.std.specs.Option.{option_or}
pub use lib.Utf8.{encodes, next}
unfoldable pub use lib.Utf8.{encode}
