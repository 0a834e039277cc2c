use Rattle.std.proofs.Common.{Ok, length, arith, sym, ◌∙◌}
use Rattle.std.proofs.lemmas.Bool.{eqb-false, eqb-true}
use Rattle.std.proofs.lemmas.List.{take_rest}
use Rattle.tptp_lex.proofs.Pieces.{so_far_more, all_lexed, bad_place}
use Rattle.tptp_lex.proofs.OneAnswer.{lexed_only, refused_only}
use Rattle.tptp_lex.proofs.Spans.{no_more_tokens}
use Rattle.tptp_lex.proofs.lexer.lex.Goals as goal

pub refusal-requires : goal.refusal-requires
refusal-requires c = bad_place c.args.bytes.now c.loop-rest.rest.now c.loop-rest.at c.loop-rest.tokens.items c.loop-rest.invariant (sym c.front.ensures.value ∙ c.in_default.is) (omega (arith, eqb-false (length c.loop-rest.rest.now) 0 (sym c.loop-rest-test.ensures)))

pub loop-rest-preserved : goal.loop-rest-preserved
loop-rest-preserved c =
    rw (take_rest c.loop-rest.rest.now c.in-Some.len)
    (so_far_more c.args.bytes.now c.loop-rest.rest.now c.loop-rest.at c.in-Some.len c.in-Some.lexeme c.loop-rest.tokens.items _ c.loop-rest.invariant (sym c.front.ensures.value ∙ c.in-Some.is) c.in-Some.ensures.within.1 c.in_ok-push_token.ensures.ok)

pub returns-clause-lexed_exactly : goal.returns-clause-lexed_exactly
returns-clause-lexed_exactly c = lexed_only c.args.bytes.now (Ok c.loop-rest.tokens.items) (all_lexed c.args.bytes.now c.loop-rest.rest.now c.loop-rest.at c.loop-rest.tokens.items c.loop-rest.invariant (eqb-true (length c.loop-rest.rest.now) 0 (sym c.loop-rest-test.ensures))) tt

pub returns-clause-refused_exactly : goal.returns-clause-refused_exactly
returns-clause-refused_exactly c = refused_only c.args.bytes.now (Ok c.loop-rest.tokens.items) (all_lexed c.args.bytes.now c.loop-rest.rest.now c.loop-rest.at c.loop-rest.tokens.items c.loop-rest.invariant (eqb-true (length c.loop-rest.rest.now) 0 (sym c.loop-rest-test.ensures))) tt

pub invariant_of-result : goal.invariant_of-result
invariant_of-result c =
    let lexed = all_lexed c.args.bytes.now c.loop-rest.rest.now c.loop-rest.at c.loop-rest.tokens.items c.loop-rest.invariant (eqb-true (length c.loop-rest.rest.now) 0 (sym c.loop-rest-test.ensures)) in
    let few = no_more_tokens c.args.bytes.now c.loop-rest.tokens.items lexed in
    omega (arith, few, c.requires)
