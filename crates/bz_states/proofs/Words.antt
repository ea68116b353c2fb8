-- What the proofs of this crate speak of, from std, from the crates below and from its own specs.
pub use Rattle.bz_grammar.specs.Reading.{starts_with}
pub use Rattle.bz_grammar.specs.Shapes.{any, is_class, is_one_of, Terminal, this}
pub use Rattle.bz_lex.proofs.Coming.{come_first, come_none, less, to_come}
pub use Rattle.bz_lex.proofs.Lists.{front_text, left}
pub use Rattle.bz_lex.specs.Fronts.{after_front, AnswersFront, front_leaf, front_token, IsFront, NoLeaf}
pub use Rattle.bz_lex.specs.Gaps.{are_indents, indent, IsGap}
pub use Rattle.bz_lex.specs.Places.{after_token, next, open_brackets}
pub use Rattle.bz_lex.specs.Stops.{BeginsLine, leaf_more, LeavesTo, no_leaf}
pub use Rattle.bz_lex.specs.declared.front.Front.{Front}
pub use Rattle.bz_lex.specs.declared.place.Place.{Place}
pub use Rattle.bz_states.specs.Symbols.{DecidesFirst, example, keyword_table, known, mark_table, symbol_of_token, SymbolEntry}
pub use Rattle.bz_states.specs.Tokens.{bare, terminals_of}
pub use Rattle.bz_states.specs.declared.symbol.Symbol.{Symbol}
pub use Rattle.std.proofs.Common.{[], ◌&&◌, ◌++◌, ◌+◌, ◌-◌, ◌<◌, ◌^◌, ◌||◌, ◌↔◌, ◌∙◌, ◌∷◌, ◌≡◌, ◌≢◌, ◌≤◌, ap, append_assoc, arith, Bool, bytes_eq, codes, cond, drop, false, inl, inr, IsTrue, length, length-append, length-drop, List, None, not, Option, refl, Some, subst, sym, take, take-append-drop, true, ℕ}
pub use Rattle.std.proofs.lemmas.Bool.{and_from, and_parts, both_ways, cases_Bool, not-true}
