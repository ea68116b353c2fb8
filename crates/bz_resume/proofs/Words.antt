-- What the proofs of this crate speak of, from std, from the crates below and from its own specs.
pub use Rattle.bz_edit.proofs.Keeps.{present_text, texts_length, trees_length}
pub use Rattle.bz_edit.proofs.Planning.{length_total, parts_Node}
pub use Rattle.bz_edit.proofs.Puts.{child_found}
pub use Rattle.bz_edit.proofs.Sizes.{counted, few_parts}
pub use Rattle.bz_edit.specs.Places.{child, covered, has_place, if_node, node_in, opened_node}
pub use Rattle.bz_edit.specs.Steps.{below, CountsFit, here, if_below, if_here, IsBefore, MayFollow, splice_all, spliced, swap_list, swap_part, turned_all, WellFormed}
pub use Rattle.bz_edit.specs.Trails.{LeadOn, steps_back, steps_forward, trees}
pub use Rattle.bz_edit.specs.private.Plans.{parts_in, total_length}
pub use Rattle.bz_files.proofs.Folders.{other_stays, reads_back}
pub use Rattle.bz_files.specs.Folder.{SameBut, with_file}
pub use Rattle.bz_files.specs.Pair.{AreReplaced, IsChecking, IsKeeping, IsNew, RewritesHeld, with_both}
pub use Rattle.bz_grammar.proofs.Nested.{items_of_row, leaf_or_node, part_ind, row_of}
pub use Rattle.bz_grammar.proofs.Spells.{depth_Node, leaves_Node, spell_Node}
pub use Rattle.bz_grammar.proofs.Split.{all_back, all_both, all_front, IsLast, leaves_both, lines_split}
pub use Rattle.bz_grammar.proofs.Unique.{one_tree}
pub use Rattle.bz_grammar.specs.Spell.{deepest, depth_part, leaves_part, spell_part}
pub use Rattle.bz_grammar.specs.declared.kind.Kind.{Kind}
pub use Rattle.bz_grammar.specs.declared.tree.Part.{items-the_row-Part}
pub use Rattle.bz_grammar.specs.declared.tree.Part.TheViews.{outs-Node}
pub use Rattle.bz_items.specs.Characters.{line_feed}
pub use Rattle.bz_journal_format.specs.Spellings.{IsDigest, number_limit}
pub use Rattle.bz_journal_format.specs.Texts.{AreSmallParts, IsEdit, IsHeld, IsNotedStep, IsRead, IsSmallPart, row_length}
pub use Rattle.bz_journal_format.specs.declared.content.Version.TheVariants.{One, Two}
pub use Rattle.bz_resume.specs.Journals.{AreSmall, BeginsNoJournal, History, Journal, journal_text, MaySave, NoJournal, record_of, stands, text_at}
pub use Rattle.bz_resume.specs.Pair.{journal_name}
pub use Rattle.bz_resume.specs.Resumed.{IsResumed, IsStale, StandsFor, trail_of}
pub use Rattle.bz_resume.specs.Resuming.{Holds, IsRecordedBy, KeepsHeld, MayResume, OthersStay, present, Resumes, Survives, WhereResuming}
pub use Rattle.bz_resume.specs.Words.{all_there, AreWholeLines, bare_end, class_number, depth_limit, Edit, Elapses, end_of-Part, entries_of, file_with, FileFault, FileStamp, Folder, Ghosts, IsNote, IsOtherVersion, IsRecord, IsSmall, IsTrail, IsTree, IsUntouched, KeepsOrder, kind_number, Leaf, LegalBuild, limit, more_of-Part, Moves, new_name, Node, Node', NoTree, pair_acts, Part, Read, Reads, Record, record_text, RecordedStep, Rises, Row_of-Part, sha256, short_limit, spell_node, StepLeads, swap_node, Text, texts_of, Trail, trail_at, Version, with_act, with_acts}
pub use Rattle.bz_resume.specs.declared.pair_fault.PairFault.{PairFault}
pub use Rattle.bz_resume.specs.declared.resumed.Resumed.{Resumed}
pub use Rattle.bz_resume.specs.private.Agreement.{as_taken, edits_of, HasStood, IsCounted, IsOpened, MayLead, NoneAgrees, notes_of, RecordAgrees, recorded_trail, standing_place, StepAgrees, StepsAgree, StepsAgreeAround}
pub use Rattle.bz_resume.specs.private.Alone.{AreAlone, AreLined, AreTouchedAlone, EndsLine, IsAlone, IsAloneAt, IsHeldAlone, IsTouchedAlone}
pub use Rattle.bz_resume.specs.private.Outlines.{marked, outline_leaf, outline_list, outline_node, outline_part, outline_row}
pub use Rattle.std.proofs.Common.{[], ⊎_elim, ◌&&◌, ◌*◌, ◌++◌, ◌+◌, ◌<◌, ◌^◌, ◌↔◌, ◌∙◌, ◌∷◌, ◌≡◌, ◌≢◌, ◌≤◌, ◌⊎◌, ap, append-nil, append_assoc, arith, Bool, bytes_eq, codes, drop, drop_at, eqb-true, Err, false, flat_map, get_or, IfErr, if◌then◌else◌, inl, inr, IsErr, IsErrOf, IsOk, IsTrue, IsUtf8, leb-true, length, length-append, length-take-le, List, lt-ltb, map, MatchOption, nat_eq, nat_lt, None, not, Ok, OnOk, Option, refl, Result, reverse, slice_get, slice_index_or, Some, subst, suc, sym, take, take-append-drop, take_at, true, true≢false, unwrap_or, zero, ℕ}
pub use Rattle.std.proofs.lemmas.Bool.{and_parts, cases_Bool, cond-false, false≢true}
pub use Rattle.std.proofs.lemmas.Grind.{reverse_onto}
pub use Rattle.std.proofs.lemmas.List.{drop_more, get_or_at, length-map, length-reverse, map-append, reverse-reverse, take-append-le}
pub use Rattle.std.proofs.lemmas.Option.{same_Some, slice_get_within}
pub use Rattle.std.proofs.lemmas.Result.{on_ok_weaker}
pub use Rattle.std.proofs.lemmas.Slice.Eq.{bytes_eq-Decides}
pub use Rattle.std.specs.FinMap.{get}
pub use Rattle.std.specs.List.{AllByRecursion, list_all}
