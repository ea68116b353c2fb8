use Rattle.bz_grammar.proofs.Joining.{lines_join, bzl_lines_join}
use Rattle.bz_grammar.proofs.laws.lines_join.Goals as goal

pub returns-clause-build : goal.returns-clause-build
returns-clause-build c = lines_join

pub returns-clause-bzl : goal.returns-clause-bzl
returns-clause-bzl c = bzl_lines_join
