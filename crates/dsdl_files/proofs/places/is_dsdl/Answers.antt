use Rattle.std.specs.Prelude.{codes}
use Rattle.std.proofs.lemmas.Str.Pattern.{ends_text}
use Rattle.dsdl_files.proofs.places.is_dsdl.Goals as goal

pub returns : goal.returns
returns c = ends_text c.ends_with.result (codes ".dsdl") c.args.path.now c.ends_with.ensures.cases
