use Rattle.dsdl_parse.proofs.Tokens.{are_tokens}
use Rattle.dsdl_parse.proofs.words.Words.new.Goals as goal

pub invariant_of-result : goal.invariant_of-result
invariant_of-result c = are_tokens c.args.line.now c.requires
