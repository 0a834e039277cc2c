use Rattle.std.proofs.Common.{◌≡◌, ◌+◌, ◌≤◌, length, []}
use Rattle.std.specs.List.{All}
use Rattle.nxf_terminals.specs.Input.{input_of}
use Rattle.tptp_lex.specs.Lexing.{IsSpan}
use Rattle.syntax_definitions.specs.steps.ReadStatements.{read_statement}
use Rattle.nxf_tree.specs.Profiles.{has_includes, most_arguments, levels_of}
use Rattle.syntax_definitions.specs.Files.{statement_parts}
use Rattle.syntax_definitions.specs.steps.ReadFiles.{read_parts}
use Rattle.nxf_grammar.proofs.file.parts.Given as goal

abbrev pub invariant-loop-rest : goal.invariant-loop-rest
invariant-loop-rest l = record {
  same : read_parts (read_statement (has_includes l.profile) (most_arguments l.profile) (levels_of l.profile)) (statement_parts (input_of l.profile l.bytes l.initial.rest)) 1 [] ≡ read_parts (read_statement (has_includes l.profile) (most_arguments l.profile) (levels_of l.profile)) (statement_parts (input_of l.profile l.bytes l.rest)) (l.number + 1) l.found;
  counted : l.number + length l.rest ≤ length l.initial.rest;
  within : All (IsSpan (length l.bytes)) l.rest;
}

abbrev pub decreases-loop-rest : goal.decreases-loop-rest
decreases-loop-rest l = length l.rest
