-- What the proofs of this crate speak of, from std, from the crates below and from its own specs.
pub use Rattle.bz_files.specs.Failing.{FailurePlan, GoesAsPlanned, IsNextCall, no_plan}
pub use Rattle.bz_files.specs.Folder.{Elapses, Folder, folder_of, IsReplaced, IsReplacing, IsUntouched, new_name, SameBeside, SameBut, Text, with_file, with_named}
pub use Rattle.bz_files.specs.Log.{folder_after, folder_in, plan_in, shown_entry, StoodSince, waiting_in}
pub use Rattle.bz_files.specs.Orders.{Act, act_of, BreaksOff, Failed, Flushed, GaveUp, IsMadeFor, IsRegular, journal_acts, KeepsOrder, Made, pair_acts, place_acts, ReadsRegular, rewrite_acts, Saw, SawAgain, TookPlace, WasSeen, with_act, with_acts}
pub use Rattle.bz_files.specs.Pair.{AreReplaced, IsChecking, IsKeeping, IsNew, PutsFiles, PutsNewest, RewritesHeld}
pub use Rattle.bz_files.specs.declared.files.FileFault.{FileFault}
pub use Rattle.std.proofs.Common.{[], ⊎_elim, ◌++◌, ◌+◌, ◌<◌, ◌||◌, ◌∙◌, ◌∷◌, ◌≡◌, ◌≢◌, ◌≤◌, All, ap, append_assoc, arith, Bool, bytes_eq, codes, cond, drop, Err, false, fold, get_or, inl, inr, IsErrAnd, length, length-append, length-take, List, map, nat_cmp, Ok, OnOk, Option, option_map, pos, refl, Result, reverse, rules, Some, string_bytes, subst, sym, take, take_all, true, ℕ}
pub use Rattle.std.proofs.lemmas.Bool.{cases_Bool, cases_lt, false≢true}
pub use Rattle.std.proofs.lemmas.List.{get_or_append_left, map-append, reverse-append, take-append-le, take_more}
pub use Rattle.std.proofs.lemmas.List.Sums.{fold-append}
pub use Rattle.std.proofs.lemmas.Result.{err_from_is_err_and, on_err_weaker, on_ok_weaker}
pub use Rattle.std.specs.Cmp.Lexicographic.{slice_cmp}
pub use Rattle.std.specs.FinMap.{empty, get, get-empty, get-insert}
pub use Rattle.std.specs.List.{list_any}
