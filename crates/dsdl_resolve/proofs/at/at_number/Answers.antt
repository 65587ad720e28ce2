use Rattle.dsdl_resolve.proofs.Clear.{told}
use Rattle.dsdl_resolve.proofs.Rereading.{path_is}
use Rattle.dsdl_resolve.proofs.at.at_number.Goals as goal

pub returns : goal.returns
returns c = told _ _ (λ path line why r. (path_is c.args.files.now c.args.number c.index-files-number.result path c.requires c.index-files-number.is r.0, r.1, r.2)) c.at.result c.at.ensures
