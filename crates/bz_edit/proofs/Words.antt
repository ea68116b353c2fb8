-- What the proofs of this crate speak of, from std, from the crates below and from its own specs.
pub use Rattle.bz_edit.specs.Between.{back, front, inside, Least, middle, middle_edit, middles, one_deeper, or_whole, pair, pairs, pairs_or_middles, pairs_row, step, StepCuts, StepIsLeast, whole}
pub use Rattle.bz_edit.specs.Places.{as_node, child, covered, has_place, if_node, node_in, on_item, on_node, opened_node, parts_put}
pub use Rattle.bz_edit.specs.Same.{same_kind, same_leaf, same_open, same_part, same_row}
pub use Rattle.bz_edit.specs.Shown.{EachStep, IsKeptTrail, LeadsTo, Moves, StartsSmall, StepsAreBetween, StepsLead, TakesUp, Text, texts_of, trees_around, trees_of}
pub use Rattle.bz_edit.specs.Steps.{all_even, all_there, AllApart, AreApart, below, CountsFit, EachPair, edit_place, here, if_below, if_here, is_even, IsBefore, IsStep, LeavesAlone, MayFollow, splice_all, spliced, swap_list, swap_node, swap_part, swap_row, turned, turned_all, uncovered, weight, weight_of, WellFormed}
pub use Rattle.bz_edit.specs.Trails.{are_even, AreLeast, AreSteps, crossed, HasLeast, IsSmall, IsTrail, IsTree, LeadOn, reached, StepLeads, steps_back, steps_forward, Trail, trail_at, trees}
pub use Rattle.bz_edit.specs.Windows.{AreThere, window_parts, with_windows}
pub use Rattle.bz_edit.specs.declared.edit.Edit.{Edit}
pub use Rattle.bz_edit.specs.declared.part_windows.PartWindow.{PartWindow}
pub use Rattle.bz_edit.specs.private.Plans.{AreEven, blank_part, parts_in, plan, planned, row_parts, total_length}
pub use Rattle.bz_edit.specs.private.Tests.{all_follow, counts_fit, follows_at, may_follow, next_follows}
pub use Rattle.bz_grammar.proofs.Nested.{items_of_row, leaf_or_node, part_ind, row_of}
pub use Rattle.bz_grammar.proofs.Spells.{leaves_Node, node_spelled, spell_Node}
pub use Rattle.bz_grammar.specs.Kinds.{kind_number}
pub use Rattle.bz_grammar.specs.Legal.{Accepted, IsNonterminal, Legal, LegalPart}
pub use Rattle.bz_grammar.specs.Spell.{leaves_of, leaves_part, limit, spell_node, spell_part, within_limit}
pub use Rattle.bz_grammar.specs.declared.kind.Kind.{Kind}
pub use Rattle.bz_grammar.specs.declared.tree.Node.{Node}
pub use Rattle.bz_grammar.specs.declared.tree.Part.{end_of-Part, items-the_row-Part, more_of-Part, Part, Row_of-Part}
pub use Rattle.bz_grammar.specs.declared.tree.Part.TheViews.{out-Part, outs-Leaf, outs-Node, roll-out-Part, roll-Part, the_lemmas}
pub use Rattle.bz_lex.specs.declared.leaf.Leaf.{Leaf}
pub use Rattle.std.proofs.Common.{[], ⊎_elim, ◌&&◌, ◌*◌, ◌++◌, ◌+◌, ◌-◌, ◌<◌, ◌^◌, ◌∙◌, ◌∷◌, ◌≡◌, ◌≢◌, ◌≤◌, ◌⊎◌, All, ap, append-nil, append_assoc, arith, Bool, bytes_eq, cond, Decides, drop, drop-drop, drop-set-lt, drop_at, drop_of_length-le, eq-eqb, eqb, eqb-true, Err, false, flat_map, get_or, get_or-drop, get_or-take, IfOk, if◌then◌else◌, inl, inr, is_some, IsOk, le-leb, leb-true, length, length-append, length-drop, length-set, length-take-le, List, map, min, nat_eq, nat_le, nat_lt, ne_eqb, None, not, Ok, OnOk, Option, refl, replicate, Result, reverse, rules, slice_get, slice_index_or, slice_range, slice_set, Some, subst, suc, sym, take, take-add, take-append-drop, take-take, take_all, take_at, true, true≢false, zero, ℕ}
pub use Rattle.std.proofs.Math.Seq.{drop-append-add, take-length}
pub use Rattle.std.proofs.lemmas.Bool.{and_from, and_parts, cases_Bool, cases_eq, cases_lt, false≢true}
pub use Rattle.std.proofs.lemmas.Bool.Decides.{Decides-and, Decides-eqb, Decides-like, Decides-ltb, Decides-or, eqb_tells, nat_tests}
pub use Rattle.std.proofs.lemmas.Grind.{reverse_onto}
pub use Rattle.std.proofs.lemmas.List.{drop-append-le, drop-take, drop_all, drop_more, get_or-append_right, get_or-reverse, get_or_append_left, get_or_at, length-map, length-replicate, length-reverse, map-append, reverse-append, reverse-reverse, set_split, take-append-le, take-set-le, take_more, take_more_set}
pub use Rattle.std.proofs.lemmas.Option.{same_Some, slice_get_read}
pub use Rattle.std.proofs.lemmas.Slice.{between_is, drop-append-drop, drop-put_mid, take-put_mid}
pub use Rattle.std.specs.List.{AllByRecursion, IsAllAdjacentAnswer}
pub use Rattle.std.specs.Vec.Iter.{into_iter_items}
