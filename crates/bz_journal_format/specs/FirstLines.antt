-- The lines of digests and steps that are kept for the bytes of a further record.
use Rattle.std.specs.Prelude.{◌≡◌, ◌≤◌, List, length, take}
use Rattle.std.specs.List.{flat_map}
use Rattle.bz_edit.specs.declared.edit.Edit.{Edit}
use Rattle.bz_items.specs.Characters.{Bytes}
use Rattle.bz_journal_format.specs.Contents.{entries_of}
use Rattle.bz_journal_format.specs.Texts.{digest_text, entry_text}
use Rattle.bz_journal_format.specs.declared.content.Version.{Version}
use Rattle.bz_journal_format.specs.declared.kept.KeptLines.{KeptLines}

-- they are those of the first digests, and of the first steps with their notes
pub record AreFirstLines (v : Version) (digests notes : List Bytes) (steps : List (List Edit)) (kept : KeptLines) : Type 0 where
  pub few_digests : kept.digests ≤ length digests
  pub digest_lines : kept.digest_lines.items ≡ flat_map digest_text (take kept.digests digests)
  pub few_steps : kept.steps ≤ length steps
  pub step_lines : kept.step_lines.items ≡ flat_map (entry_text v) (entries_of (take kept.steps notes) (take kept.steps steps))

-- they are those of all
pub record AreAllLines (v : Version) (digests notes : List Bytes) (steps : List (List Edit)) (kept : KeptLines) : Type 0 where
  pub all_digests : kept.digests ≡ length digests
  pub digest_lines : kept.digest_lines.items ≡ flat_map digest_text digests
  pub all_steps : kept.steps ≡ length steps
  pub step_lines : kept.step_lines.items ≡ flat_map (entry_text v) (entries_of notes steps)
