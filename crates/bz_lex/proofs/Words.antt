-- What the proofs of this crate speak of, from std, from the crates below and from its own specs.
pub use Rattle.bz_lex.specs.Fronts.{after_front, AnswersFront, front_leaf, front_token, IsFront, IsGapFront, IsLexemeFront, IsLexemeStop, NoLeaf, NoTokenFor}
pub use Rattle.bz_lex.specs.Gaps.{blank, comment, escaped, escaped_return, IsGap, IsOneLine, last_comment, nothing, unescaped}
pub use Rattle.bz_lex.specs.Laws.{CodedLeaves, OneLexing}
pub use Rattle.bz_lex.specs.Leaves.{AreCoded, AreLeaves, IsCodedLeaf, NoLeaves, spell_leaves, Stand}
pub use Rattle.bz_lex.specs.Lexing.{AreLexemes, NoLexemes}
pub use Rattle.bz_lex.specs.Places.{After, after_token, deeper, end, end_at_once, first, Fresh, inner, Inside, is_closing, is_opening, Last, later, May, newline, newlines_at, next, no_newline, Over, Place, same_depth, shallower}
pub use Rattle.bz_lex.specs.Stops.{IsFaultAt, LexedTo, no_token, NothingBegins, StopsAt, StopsFor, token_more}
pub use Rattle.bz_lex.specs.declared.front.Front.{Front}
pub use Rattle.bz_lex.specs.declared.gap.GapFront.{GapFront}
pub use Rattle.bz_lex.specs.declared.gap.GapState.{GapState}
pub use Rattle.bz_lex.specs.declared.gap.GapState.TheVariants.{Comment, Escape, EscapeReturn, Open}
pub use Rattle.bz_lex.specs.declared.leaf.Leaf.{Leaf}
pub use Rattle.bz_lex.specs.private.GapStates.{and_then, broken_off, gap_move, gap_state_after, is_end, Stops}
pub use Rattle.bz_token.proofs.Boundaries.{boundary, boundary_at}
pub use Rattle.bz_token.proofs.Tokens.{no_class, none_token, some_token, third_token, whole_rest}
pub use Rattle.bz_token.specs.Bytes.{is_blank, is_quote, is_solid}
pub use Rattle.bz_token.specs.Tokens.{IsToken, NoToken, OpensString, TokenAt}
pub use Rattle.bz_token.specs.declared.class.Class.{Class}
pub use Rattle.bz_token.specs.declared.class.Class.TheVariants.{End, Keyword, Mark, Name, Newline, Number, String}
pub use Rattle.std.proofs.Common.{[], ◌&&◌, ◌*◌, ◌++◌, ◌+◌, ◌-◌, ◌<◌, ◌==◌, ◌||◌, ◌∙◌, ◌∷◌, ◌≡◌, ◌≢◌, ◌≤◌, ◌⊎◌, add-one, ap, append-nil, append_assoc, arith, Bool, cond, drop, drop-cons, drop_at, drop_of_length-le, eqb, eqb-true, false, get_or, if◌then◌else◌, inl, inr, IsCharBoundary, IsUtf8, length, length-append, length-drop, length-take-le, List, map, MatchOption, min, nat_eq, ne_eqb, None, Option, refl, slice_get, Some, subst, suc, sym, take, take-append-drop, take-suc, take_at, true, zero, ℕ}
pub use Rattle.std.proofs.Math.Seq.{drop-append_seam, get_or-append_seam, take-append_seam, take-length}
pub use Rattle.std.proofs.lemmas.Bool.{and_parts, and_right, both_ways, cases_Bool, cases_lt, eqb-false, or_cases, or_parts}
pub use Rattle.std.proofs.lemmas.List.{append_cancel_left, map-append}
pub use Rattle.std.proofs.lemmas.Option.{get_or_from_slice_get, none-some, same_Some, slice_get-get_or, slice_get_past, slice_get_within}
pub use Rattle.std.proofs.lemmas.Str.{IsCharBoundary-after_ascii, IsCharBoundary-before_ascii, IsCharBoundary-from_rest, IsCharBoundary-start, IsUtf8-append, IsUtf8-drop, IsUtf8-nil, IsUtf8-take}
