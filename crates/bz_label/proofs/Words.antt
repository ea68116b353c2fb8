-- What the proofs of this crate speak of, from std, from the crates below and from its own specs.
pub use Rattle.bz_items.specs.Characters.{Bytes}
pub use Rattle.bz_label.specs.Forms.{are_alone, are_whole, is_repository}
pub use Rattle.bz_label.specs.Keys.{bytes_order, group_of, is_cut, key_order, key_pieces}
pub use Rattle.bz_label.specs.Labels.{absent, bare_name, canonical_main, canonical_named, colon_name, is_barred, is_path, is_plain, is_repository_name, IsBareName, IsColonName, IsLabel, IsOwn, IsPackageAlone, IsRepeat, IsRepository, IsRepositoryAlone, IsSame, IsShortened, IsUnrepeated, IsWhole, main, named, other, own, package_alone, repeat, repository_alone, stays, whole}
pub use Rattle.bz_label.specs.Pieces.{begins_with_at, has_colon, has_slash, is_at, is_colon, is_empty, is_joined, is_present, is_slash, IsSlashSeparated, last_piece, pieces_of}
pub use Rattle.bz_label.specs.Read.{absolute_label, are_equal, has_slashes, is_equal, is_own, is_same, kept_if, label_in, other_label, shortened}
pub use Rattle.bz_label.specs.Shorter.{after_colon, after_slashes, before_colon, before_slashes, before_slashes_from, is_repeated, unrepeated}
pub use Rattle.bz_label.specs.Tables.{is_in, is_label_attribute, is_list_attribute, is_sorted, priority_at, priority_of, sorted_attributes}
pub use Rattle.bz_label.specs.TargetRead.{absolute_target, relative_target, target_if, target_in}
pub use Rattle.bz_label.specs.Targets.{decimal, is_package, IsSpelled, IsTarget, target_of, which_of}
pub use Rattle.bz_label.specs.declared.label.Label.{Label}
pub use Rattle.std.proofs.Common.{[], ◌&&◌, ◌++◌, ◌+◌, ◌-◌, ◌<◌, ◌==◌, ◌^◌, ◌||◌, ◌↔◌, ◌∙◌, ◌∷◌, ◌≡◌, ◌≤◌, ◌⊎◌, add-one, ap, append_assoc, arith, Bool, bytes_eq, codes, cond, drop, drop-cons, drop_at, eqb-true, false, get_or, get_or-take, if◌then◌else◌, inl, inr, IsTrue, le-leb, leb-true, length, length-take, List, min, nat_cmp, nat_eq, nat_le, nat_lt, None, not, Option, position, refl, rules, Some, subst, suc, sym, take, take-append-drop, tests, true, true≢false, ℕ}
pub use Rattle.std.proofs.lemmas.Bool.{and_from, and_parts, both_ways, cases_Bool, false_from_ne_true, not-true, or_parts}
pub use Rattle.std.proofs.lemmas.Bool.Decides.{nat_tests}
pub use Rattle.std.proofs.lemmas.Cmp.{lists_total, nat_cmp_total, nat_list_cmp_total, on_total, then_total, tied_itself}
pub use Rattle.std.proofs.lemmas.List.{take_rest}
pub use Rattle.std.proofs.lemmas.List.Folds.{list_any-append, list_any_none}
pub use Rattle.std.proofs.lemmas.List.Sums.{fails_before_first, suffix_len_is}
pub use Rattle.std.proofs.lemmas.Result.{err_from_is_err_and}
pub use Rattle.std.proofs.lemmas.Slice.Eq.{bytes_eq-Decides, ends_is, text_from_reads}
pub use Rattle.std.specs.Cmp.{IsTotalOrder, unsigned_Decides}
pub use Rattle.std.specs.List.{ends_with, list_all, list_any, onto_first, position_or_len, suffix_len}
pub use Rattle.std.specs.Ordering.{is_ne, ordering_then}
pub use Rattle.std.specs.declared.cmp.Ordering.{Ordering}
pub use Rattle.std.specs.declared.cmp.Ordering.TheVariants.{Equal, Greater, Less}
