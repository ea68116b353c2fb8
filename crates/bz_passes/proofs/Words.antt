-- What the proofs of this crate speak of, from std, from the crates below and from its own specs.
pub use Rattle.bz_label.proofs.Orders.{key_ties, key_total}
pub use Rattle.bz_label.proofs.Repeats.{is_unrepeated, the_unrepeated}
pub use Rattle.bz_label.proofs.Shorter.{unrepeated_same, unrepeated_stays}
pub use Rattle.bz_label.specs.Pieces.{has_slash, is_at, is_colon, is_joined, is_present, last_piece}
pub use Rattle.bz_label.specs.Shorter.{after_colon, after_slashes, before_colon, before_slashes, is_repeated}
pub use Rattle.bz_layout.proofs.FlaggedProper.{flags_proper}
pub use Rattle.bz_layout.specs.Flags.{each_with_flags, settled_split}
pub use Rattle.bz_passes.specs.Changes.{after_passes, labels_changed, lists_and_arguments}
unfoldable pub use Rattle.bz_passes.specs.Changes.{arguments_changed, attribute_changed, list_changed}
pub use Rattle.bz_passes.specs.Joined.{begins_with_load, item_tidied, TidiedAlone, TidiedApart}
pub use Rattle.bz_passes.specs.Laws.{BuildStays, ProperStays, SortingIsTheOne, TidyingKeepsComments, TidySettles, TidyStays}
pub use Rattle.bz_passes.specs.Lists.{above_first, any_marked, begins_with, has_no_comment, in_order, is_marked, is_taken, keep_marks, keep_sorted, marked_by, MovesMarks, other_comments, precedes, settled_list, sorted, stands_in, with_marks_moved, without_marks, without_repeats}
pub use Rattle.bz_passes.specs.Newer.{has_newer, has_newer_node, is_newer_kind, item_newer, newer, row_newer}
pub use Rattle.bz_passes.specs.Passes.{argument_order, argument_precedes, arguments_in, begins_single, each_on_strings, has_character, in_double, is_run_load, labelled, labels_in, leave_alone, lists_in, load_path, load_precedes, loads, name_precedes, of_rule, on_assigned, on_attribute, on_call, on_label_value, on_labels, on_list_value, on_list_values, on_rule_arguments, on_statement, on_string, on_strings, on_taken, passed, path_order, path_precedes, quotes_in, rule_kind, shorter_string, symbol_precedes, symbols_in, taken, tidied, with_double}
pub use Rattle.bz_passes.specs.Programs.{HoldsTheStrings, IsSameLabel, IsSameList, IsSameString, IsUnescaped, itself, KeepsProgram, KeptProgramsKeepTokens, PassesKeepProgram, renamed, TidyingKeepsProgram, turned, turned_thrice, unchanged}
pub use Rattle.bz_passes.specs.Sorting.{GivesTheOne, insert_by, IsSorting, IsSortingByRuns, next_run, NoneBefore, one_run, Rises, sort_by}
pub use Rattle.bz_passes.specs.Syntax.{each_syntax, one_if_token, program, row_token_sum, syntax_of, token_sum, token_times}
pub use Rattle.bz_passes.specs.Words.{above, apostrophe, AreBuild, AreOver, AreWithin, backslash, between, body, Bytes, bytes_order, Class, comments_of, dotted_name, end_of-Expr, Expr, first_text, flags, Form', fronts, fronts_among, Grammar, has_class, has_kind, inner, inside, is_broken, is_class, is_empty, is_label_attribute, is_none, is_plain_in, is_quote_mark, is_sorted, is_text, IsBuildItem, IsLong, IsProperIn, IsSettled, IsShort, IsString, Item, item_with_flags, items_of, key_order, Kind, kind_number, local_name, marks_of, more_of-Expr, no_comments, on_first, on_items, on_lists, on_rest, on_row, on_third, parts_of, quotation_mark, Row_of-Expr, text_of, times, Token, total, unrepeated, Window, with_above, with_flags, with_text}
pub use Rattle.bz_passes.specs.private.Borders.{all_joined, any_touched, AreInOrder, AreLoads, AreSetApart, AreTidied, ends_with_load, first_precedes, IsMoved, IsPlaceBack, IsPlaceOf, IsStillToTidy, last_passes, one_at, precedes_last, tidied_over, touches}
pub use Rattle.bz_passes.specs.private.Ranks.{name_ranks, path_ranks}
pub use Rattle.bz_passes.specs.private.Repeats.{AreKept, Climbs, is_passed, is_text_at, last_of, repeats_at, sort_key, tied_places, ties_last}
pub use Rattle.bz_rule.proofs.Forms.{dotted_name_Form, fronts_Form}
pub use Rattle.bz_rule.proofs.ProperChanges.{by_case, by_test, EachStays, first_stays, items_stay, lists_stay, row_stays, Stays, string_in_place, Strung, third_stays}
pub use Rattle.bz_rule.proofs.ProperItems.{all_kept}
pub use Rattle.bz_rule.specs.QuoteMarks.{begins_thrice}
pub use Rattle.bz_rule.specs.Values.{with_items, with_parts}
pub use Rattle.bz_token.specs.Lexemes.{is_prefix, IsQuoted, long_end, long_plain, short_end, short_line, short_plain, short_taken, single, triple}
pub use Rattle.bz_value.proofs.BuildValues.{build_values_proper}
pub use Rattle.bz_value.proofs.Totals.{append_total, form_amount}
pub use Rattle.bz_value.specs.BuildValues.{AreBuildExprs, IsBuildExpr, IsProperBuild}
pub use Rattle.bz_value.specs.Comments.{HostComments}
pub use Rattle.bz_value.specs.Frames.{Frame, frame, has_brackets, sequence}
pub use Rattle.bz_value.specs.LineShapes.{build_grammar, whole_grammar}
pub use Rattle.bz_value.specs.Proper.{AreComments, IsComment, IsProper, IsProperItem, IsProperItemIn}
pub use Rattle.bz_value.specs.declared.value.Expr.{items-the_row-Expr, items_hidden-the_row-Expr-0}
pub use Rattle.bz_value.specs.declared.value.Form.{Form}
pub use Rattle.std.proofs.Common.{[], ◌&&◌, ◌*◌, ◌++◌, ◌+◌, ◌-◌, ◌<◌, ◌||◌, ◌∙◌, ◌∷◌, ◌≡◌, ◌≤◌, ◌⊎◌, All, ap, append-nil, append_assoc, ap₂, arith, Bool, Bor, bytes_eq, codes, Contains, drop, drop-drop, drop-set-lt, drop_at, false, filter, get_or, get_or-drop, get_or-set_other, IfOk, if◌then◌else◌, inl, inr, insert, is_lt, is_some, IsPermutation, IsSortedBy, IsUtf8, length, length-append, length-drop, length-set, length-take-le, List, map, nat_eq, nat_le, nat_lt, None, not, Ok, Option, refl, replicate, rules, set, slice_get, slice_range, Some, subst, suc, sum_by, sym, take, take-add, take-append-drop, take-take, take_all, take_at, true, true≢false, zero, ℕ}
pub use Rattle.std.proofs.Math.Path.{fun_ext}
pub use Rattle.std.proofs.Math.Seq.{get_or-append_seam, take-append_seam}
pub use Rattle.std.proofs.lemmas.Bool.{and_from, and_left, and_parts, and_right, cases_Bool, cond-false, cond-true, false_from_ne_true, not-false, not-true, or_from, or_parts, true_from_ne_false}
pub use Rattle.std.proofs.lemmas.Bool.Decides.{nat_tests}
pub use Rattle.std.proofs.lemmas.Grind.{common_steps}
pub use Rattle.std.proofs.lemmas.List.{append_cancel_right, drop-append-le, drop-map, drop_all, drop_more, length-map, map-append, take-map, take_more, take_more_set}
pub use Rattle.std.proofs.lemmas.List.Elements.{All-append, All-drop, All-from_recursion, All-map, All-take, All-weaker, recursion_from_All}
pub use Rattle.std.proofs.lemmas.List.Folds.{list_any-append}
pub use Rattle.std.proofs.lemmas.List.MinMax.{ranks_by}
pub use Rattle.std.proofs.lemmas.List.Sorted.{All-permutation, answers_always, IsPartitionPoint-from_clause, IsPermutation-cons, IsPermutation-filter_both, IsPermutation-map, IsPermutation-middle, IsPermutation-refl, IsPermutation-sym, IsPermutation-trans, length_permutation, list_any-IsPermutation, sum_by-IsPermutation}
pub use Rattle.std.proofs.lemmas.Slice.Eq.{bytes_eq-Decides}
pub use Rattle.std.specs.Bool.{beq}
pub use Rattle.std.specs.Char.{to_ascii_lowercase}
pub use Rattle.std.specs.Cmp.{IsStrictWeakOrder}
pub use Rattle.std.specs.List.{AllAdjacentBelow, AllByRecursion, AllWithin, IsAllAdjacentAnswer, list_all, list_any}
pub use Rattle.std.specs.List.Sorted.{IsPartitionedBy, IsPartitionPoint, IsStableBy, ties}
pub use Rattle.std.specs.Option.{option_map_or}
pub use Rattle.std.specs.declared.cmp.Ordering.{Ordering}
pub use borrow.Rule.Slice.PartMut.{put_mid}
