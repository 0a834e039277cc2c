use Rattle.plain_tokens.proofs.OneToken.{name-law, object-law, numeral-law}
use Rattle.plain_tokens.proofs.printed_token_law.Goals as goal

pub returns : goal.returns
returns c = record { name = name-law; object = object-law; numeral = numeral-law }
