use Rattle.dsdl_parse.proofs.Parsed.{parsed}
use Rattle.dsdl_parse.proofs.laws.one_parsing.Goals as goal

pub returns : goal.returns
returns c = parsed c.one_reading.ensures
