use mathlib.Core.Logic.{inl}
use Rattle.syntax_definitions.specs.Gathered.{Reads, spelled, not_lexed, not_read}
use Rattle.syntax_definitions.specs.declared.gather_error.GatherError.TheVariants.{Lex, Syntax}
use Rattle.nxf_include.proofs.Promising.{read_statements, problem_depth}
use Rattle.nxf_include.proofs.OneFile.{refusal_or_memory}
use Rattle.nxf_include.proofs.reading.read.Goals as goal

pub returns-in-Err-Bad-clause-answers : goal.returns-in-Err-Bad-clause-answers
returns-in-Err-Bad-clause-answers c =
    let h = rw c.in-Err-Bad.field-0-is at c.in-Err-Bad.ensures.refused in
    refusal_or_memory (Reads c.args.name.now c.args.bytes.now) (Lex c.args.name.now c.in-Err-Bad.at) c.not_lexed.result (not_lexed h.0) c.not_lexed.ensures

pub returns-in-Err-Unclosed-clause-answers : goal.returns-in-Err-Unclosed-clause-answers
returns-in-Err-Unclosed-clause-answers c =
    let h = rw c.in-Err-Unclosed.field-0-is at c.in-Err-Unclosed.ensures.refused in
    refusal_or_memory (Reads c.args.name.now c.args.bytes.now) (Lex c.args.name.now c.in-Err-Unclosed.at) c.not_lexed-in-Err-Unclosed.result (not_lexed h.0) c.not_lexed-in-Err-Unclosed.ensures

pub returns-in-Ok-read_file-clause-answers : goal.returns-in-Ok-read_file-clause-answers
returns-in-Ok-read_file-clause-answers c = inl (spelled (c.in-Ok.tokens, c.in-Ok.ensures.lexed, c.in-Ok-read_file.ensures.read))

pub returns-in-Ok-read_file-clause-read : goal.returns-in-Ok-read_file-clause-read
returns-in-Ok-read_file-clause-read c =
    read_statements c.in-Ok-read_file.file.statements c.in-Ok-read_file.ensures.regular c.in-Ok-read_file.ensures.allowed (problem_depth _ c.in-Ok-read_file.ensures.depth) c.in-Ok-read_file.ensures.levels

pub returns-in-Err-Syntax-clause-answers : goal.returns-in-Err-Syntax-clause-answers
returns-in-Err-Syntax-clause-answers c =
    let h = rw c.in-Err-Syntax.field-0-is at c.in-Err-Syntax.ensures.refused in
    refusal_or_memory (Reads c.args.name.now c.args.bytes.now) (Syntax c.args.name.now c.in-Err-Syntax.place) c.not_read.result (not_read c.in-Ok.ensures.lexed h) c.not_read.ensures
