use Rattle.std.proofs.Common.{sym, None, arith}
use Rattle.std.proofs.lemmas.Str.Pattern.{split_once_first}
use Rattle.cy_outside.proofs.Below.{no_slash}
use Rattle.cy_outside.proofs.paths.first_name.Goals as goal

pub returns-in-None-clause-folder : goal.returns-in-None-clause-folder
returns-in-None-clause-folder c = sym (no_slash c.args.path.now (split_once_first 47 c.args.path.now None c.in-None.ensures.cases (omega arith)))
