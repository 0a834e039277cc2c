use Rattle.std.proofs.Common.{List, subst, arith, rules}
use Rattle.std.proofs.lemmas.Grind.{common_steps}
use Rattle.tptp_lex.specs.declared.token.Token.{Token}
use Rattle.nxf_terminals.specs.Input.{input_of}
use Rattle.nxf_tree.specs.Profiles.{has_includes, most_arguments, levels_of}
use Rattle.syntax_definitions.specs.Files.{statement_parts, AreRead}
use Rattle.syntax_definitions.specs.steps.ReadFiles.{Explains}
use Rattle.grammar_laws.proofs.ExactFiles.{parts_read, file_refused}
use Rattle.nxf_grammar.proofs.file.read_lexed.Goals as goal

pub returns-clause-read : goal.returns-clause-read
returns-clause-read c =
    subst (λ (ts : List Token). AreRead (has_includes c.args.profile) (most_arguments c.args.profile) (levels_of c.args.profile) (statement_parts (input_of c.args.profile c.args.bytes.now ts)) c.in_ok-statements.statements) c.as_slice.ensures.items
    (parts_read (has_includes c.args.profile) (most_arguments c.args.profile) (levels_of c.args.profile) _ c.in_ok-statements.statements c.in_ok-statements.ensures)

pub returns-in_err-statements-clause-refused : goal.returns-in_err-statements-clause-refused
returns-in_err-statements-clause-refused c =
    let h = subst (λ (ts : List Token). Explains (has_includes c.args.profile) (most_arguments c.args.profile) (levels_of c.args.profile) (statement_parts (input_of c.args.profile c.args.bytes.now ts)) c.in_err-statements.field-0.0) c.as_slice.ensures.items
    (file_refused (has_includes c.args.profile) (most_arguments c.args.profile) (levels_of c.args.profile) _ c.in_err-statements.field-0.0 c.in_err-statements.ensures) in
    first_of (search rules, grind (arith, common_steps))
