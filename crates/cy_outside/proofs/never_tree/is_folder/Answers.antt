use Rattle.std.proofs.Common.{◌∙◌, sym, rules, tests}
use Rattle.std.proofs.lemmas.Iterator.{YieldsList-from_slice}
use Rattle.std.proofs.lemmas.Iterator.Search.{any_from_yields_List}
use Rattle.std.specs.Prelude.{is_some}
use Rattle.cy_outside.specs.declared.file.File.{File}
use Rattle.cy_outside.specs.Files.{rest_in}
use Rattle.cy_outside.proofs.Stored.{list_any_files}
use Rattle.cy_outside.proofs.never_tree.is_folder.Goals as goal

pub returns : goal.returns
returns c =
    any_from_yields_List (λ (file : File). is_some (rest_in c.args.path.now file.path)) _ _ _ c.any.ensures.ran
    (YieldsList-from_slice c.args.files.now cc) (λ x b q k. search (rules, tests))
    ∙ sym (list_any_files (λ file. is_some (rest_in c.args.path.now file)) c.args.files.now)
