use Rattle.std.proofs.Common.{◌+◌, ◌++◌, ◌∷◌, [], List, length, sym, ap, subst, ◌∙◌, arith, rules}
use Rattle.std.proofs.lemmas.Grind.{common_steps}
use Rattle.std.specs.List.{All}
use Rattle.std.proofs.lemmas.List.Elements.{All-drop}
use Rattle.tptp_lex.specs.declared.token.Token.{Token}
use Rattle.nxf_terminals.specs.Input.{input_of}
use Rattle.tptp_lex.specs.Lexing.{IsSpan}
use Rattle.nxf_tree.specs.declared.tree.Statement.{Statement}
use Rattle.nxf_tree.specs.Profiles.{has_includes, most_arguments, levels_of}
use Rattle.syntax_definitions.specs.steps.ReadStatements.{read_statement}
use Rattle.syntax_definitions.specs.Files.{statement_parts}
use Rattle.syntax_definitions.specs.steps.ReadFiles.{read_parts, answer}
use Rattle.grammar_laws.proofs.ExactFiles.{first_part, none_left, part_refused}
use Rattle.nxf_grammar.proofs.file.parts.Goals as goal

pub returns-in_err-part : goal.returns-in_err-part
returns-in_err-part c =
    let one = read_statement (has_includes c.args.profile) (most_arguments c.args.profile) (levels_of c.args.profile) in
    let e = c.loop-rest.invariant.same ∙ first_part one c.args.profile c.args.bytes.now c.loop-rest.rest.now c.split_at.result.0.now c.split_at.result.1.now c.first_len.result (c.loop-rest.number + 1) c.loop-rest.found (omega (arith, c.loop-rest-test.true)) c.first_len.ensures.value c.split_at.ensures.front c.split_at.ensures.back in
    let h = part_refused _ _ _ _ _ c.in_err-part.ensures e in
    first_of (search rules, grind (arith, common_steps))

pub loop-rest-preserved : goal.loop-rest-preserved
loop-rest-preserved c =
    let one = read_statement (has_includes c.args.profile) (most_arguments c.args.profile) (levels_of c.args.profile) in
    let e = c.loop-rest.invariant.same ∙ first_part one c.args.profile c.args.bytes.now c.loop-rest.rest.now c.split_at.result.0.now c.split_at.result.1.now c.first_len.result (c.loop-rest.number + 1) c.loop-rest.found (omega (arith, c.loop-rest-test.true)) c.first_len.ensures.value c.split_at.ensures.front c.split_at.ensures.back in
    record {
      same = e ∙ ap (λ o. answer o (c.loop-rest.number + 1) (λ s. read_parts one (statement_parts (input_of c.args.profile c.args.bytes.now c.split_at.result.1.now)) (c.loop-rest.number + 1 + 1) (c.loop-rest.found ++ s ∷ []))) c.in_ok-part.ensures
          ∙ ap (λ (x : List Statement). read_parts one (statement_parts (input_of c.args.profile c.args.bytes.now c.split_at.result.1.now)) (c.loop-rest.number + 1 + 1) x) (sym c.in_ok-push.ensures.pushed);
      counted = omega (arith, c.loop-rest.invariant.counted, c.first_len.ensures.some (omega (arith, c.loop-rest-test.true)), c.split_at.ensures.back_len);
      within = subst (λ (x : List Token). All (IsSpan (length c.args.bytes.now)) x) (sym c.split_at.ensures.back) (All-drop (IsSpan (length c.args.bytes.now)) c.first_len.result c.loop-rest.rest.now c.loop-rest.invariant.within);
    }

pub returns : goal.returns
returns c = c.loop-rest.invariant.same ∙ none_left (read_statement (has_includes c.args.profile) (most_arguments c.args.profile) (levels_of c.args.profile)) c.args.profile c.args.bytes.now c.loop-rest.rest.now (c.loop-rest.number + 1) c.loop-rest.found (omega (arith, c.loop-rest-test.false))
