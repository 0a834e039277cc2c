use Rattle.grammar_laws.proofs.ExactFiles.{file_only, fault_only}
use Rattle.reading_laws.proofs.FineFiles.{all_regular_here, all_regular_any, all_shallow, all_light}
use Rattle.reading_laws.proofs.ReadLevels.{few_levels}
use Rattle.nxf_grammar.proofs.file.read_file.Goals as goal

pub returns-clause-read_exactly : goal.returns-clause-read_exactly
returns-clause-read_exactly c = file_only c.args.profile c.args.bytes.now c.args.tokens.now c.read_lexed.result c.requires c.read_lexed.ensures.read c.read_lexed.ensures.refused

pub returns-clause-refused_exactly : goal.returns-clause-refused_exactly
returns-clause-refused_exactly c = fault_only c.args.profile c.args.bytes.now c.args.tokens.now c.read_lexed.result c.read_lexed.ensures.read c.read_lexed.ensures.refused

pub returns-clause-depth : goal.returns-clause-depth
returns-clause-depth c = all_shallow c.args.profile c.args.bytes.now c.args.tokens.now c.requires c.read_lexed.result c.read_lexed.ensures.read

pub returns-clause-levels : goal.returns-clause-levels
returns-clause-levels c = few_levels c.args.profile c.args.bytes.now c.args.tokens.now c.read_lexed.result c.read_lexed.ensures.read

pub returns-clause-weight : goal.returns-clause-weight
returns-clause-weight c = all_light c.args.profile c.args.bytes.now c.args.tokens.now c.requires c.read_lexed.result c.read_lexed.ensures.read

pub returns-clause-regular : goal.returns-clause-regular
returns-clause-regular c = all_regular_any c.args.profile c.args.bytes.now c.args.tokens.now c.requires c.read_lexed.result c.read_lexed.ensures.read

pub returns-clause-allowed : goal.returns-clause-allowed
returns-clause-allowed c = all_regular_here c.args.profile c.args.bytes.now c.args.tokens.now c.requires c.read_lexed.result c.read_lexed.ensures.read
