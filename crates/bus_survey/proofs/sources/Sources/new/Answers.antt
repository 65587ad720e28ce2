use Rattle.std.proofs.Common.{false}
use Rattle.std.proofs.lemmas.List.{get_or-replicate}
use Rattle.bus_survey.proofs.sources.Sources.new.Goals as goal

pub returns : goal.returns
returns c = λ node low. get_or-replicate 128 node false false low
