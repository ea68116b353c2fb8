-- What was read, as contracts see it.
use Rattle.std.specs.Prelude.{map, option_map, Option, Some, None}
use Rattle.bz_command_line.specs.Requested as a
use Rattle.bz_command_line.specs.Line as l
use Rattle.bz_command_line.specs.declared.{requested.Requested.Requested, requested.Request.Request, pattern.PatternFault.PatternFault, verb.Refused.Refused, requested.UsageFault.UsageFault, script.ScriptFault.ScriptFault, line.Given.Given, line.CommandLine.CommandLine, line.LineFault.LineFault}
use Rattle.bz_command_line.specs.declared.pattern.PatternFault.TheVariants as t
use Rattle.bz_command_line.specs.declared.requested.UsageFault.TheVariants as u
use Rattle.bz_command_line.specs.declared.script.ScriptFault.TheVariants as s
use Rattle.bz_command_line.specs.declared.line.Given.TheVariants as g
use Rattle.bz_command_line.specs.declared.line.LineFault.TheVariants as f

abbrev pub given_in : Given → l.Given
given_in (g.Operands operands) = l.operands (map (λ s. s.now) operands.items)
given_in (g.Script file) = l.script file.now

abbrev pub line_in : CommandLine → l.CommandLine
line_in line = record { options = line.options; given = given_in line.given }

-- why words are no line, where memory is not the cause
abbrev pub line_usage_in : LineFault → Option l.LineUsage
line_usage_in (f.Clap error) = Some l.of_clap
line_usage_in (f.NoProfile name) = Some (l.no_profile name.now)
line_usage_in f.BesideScript = Some l.beside_script
line_usage_in f.BesideStdout = Some l.beside_stdout
line_usage_in f.Memory = None

abbrev pub request_in : Request → a.Request
request_in request = record { verb = request.verb; text = request.text.now }

abbrev pub requested_in : Requested → a.Requested
requested_in requested = record { commands = map request_in requested.commands.items; targets = requested.targets.items }

abbrev pub pattern_in : PatternFault → a.PatternFault
pattern_in (t.Syntax at reason) = a.syntax at reason.now
pattern_in t.TooLarge = a.too_large

abbrev pub refused_in : Refused → a.Refused
refused_in refused = record { profile = refused.profile; operand = refused.operand.now; fault = refused.fault; pattern = option_map pattern_in refused.pattern }

-- why operands request nothing, where memory is not the cause
abbrev pub usage_in : UsageFault → Option a.Usage
usage_in (u.Operand refused) = Some (a.of_operand (refused_in refused))
usage_in u.NoCommand = Some a.no_command
usage_in u.NoTarget = Some a.no_target
usage_in u.Memory = None

-- why the lines of a file request nothing, where memory is not the cause
abbrev pub script_usage_in : ScriptFault → Option a.Usage
script_usage_in (s.Line number fault) = option_map (a.in_line number) (usage_in fault)
script_usage_in s.NoLine = Some a.no_line
script_usage_in (s.Nul number) = Some (a.nul number)
script_usage_in s.Memory = None
