use Rattle.std.proofs.Common.{◌≡◌, ◌+◌, length}
use Rattle.syntax_definitions.specs.steps.ReadFiles as spec
use Rattle.nxf_grammar.proofs.file.first_len.Given as goal

abbrev pub invariant-loop-len : goal.invariant-loop-len
invariant-loop-len l = record { value : spec.first_len l.initial.cursor ≡ l.len + spec.first_len l.cursor; all : l.len + length l.cursor ≡ length l.initial.cursor }

abbrev pub decreases-loop-len : goal.decreases-loop-len
decreases-loop-len l = length l.cursor
