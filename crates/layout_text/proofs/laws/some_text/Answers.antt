use Rattle.layout_text.proofs.SomeText.{some_text}
use Rattle.layout_text.proofs.laws.some_text.Goals as goal

pub returns : goal.returns
returns c = some_text
