-- What buildifier's words and effects are, as contracts see them.
use Rattle.std.specs.Prelude.{◌≡◌, List, map, Err}
use Rattle.bz_buildifier.specs.Words.{IsAmong, fault_of, kind_of, Bytes}
use Rattle.bz_buildifier.specs.FormatRun as r
use Rattle.bz_buildifier.specs.Modes as m
use Rattle.bz_buildifier.specs.declared.effect.Effect.{Effect}
use Rattle.bz_buildifier.specs.declared.format_line.FormatLine.{FormatLine}
use Rattle.bz_buildifier.specs.declared.format_line.FormatUsage.{FormatUsage}
use Rattle.bz_buildifier.specs.declared.format_line.FormatUsage.TheVariants as u

abbrev pub seen_line : FormatLine → m.FormatLine
seen_line line = record { mode = line.options.mode; file_type = line.options.file_type; files = map (λ file. file.now) line.files.items }

-- why these words are no line of buildifier's, where memory is not the cause
abbrev pub IsUsageOf : List Bytes → FormatUsage → Type 0
IsUsageOf words (u.Line error) = (m.format_line words ≡ Err m.clap_fault) × IsAmong (kind_of error) (fault_of m.buildifier_app words)
IsUsageOf words (u.NoMode name) = m.format_line words ≡ Err (m.no_mode name.now)
IsUsageOf words (u.NoType name) = m.format_line words ≡ Err (m.no_type name.now)
IsUsageOf words u.Memory = Unit {0}

-- an effect as the code holds it
abbrev pub effect_seen : r.Effect → Effect
effect_seen effect = record { status = effect.status; cut = effect.cut; closes = effect.closes }
