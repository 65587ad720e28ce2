use Rattle.std.proofs.Common.{◌∙◌, sym, rules, tests}
use Rattle.std.proofs.lemmas.Iterator.{YieldsList-from_slice}
use Rattle.std.proofs.lemmas.Iterator.Search.{any_from_yields_List}
use Rattle.cy_outside.specs.declared.file.File.{File}
use Rattle.cy_outside.specs.Files.{is_folder}
use Rattle.cy_outside.specs.Memory.{files_of}
use Rattle.cy_outside.proofs.Stored.{list_any_files}
use Rattle.cy_outside.proofs.never_tree.has_clash.Goals as goal

pub returns : goal.returns
returns c =
    any_from_yields_List (λ (file : File). is_folder (files_of c.args.files.now) file.path) _ _ _ c.any.ensures.ran
    (YieldsList-from_slice c.args.files.now cc) (λ x b q k. search (rules, tests))
    ∙ sym (list_any_files (is_folder (files_of c.args.files.now)) c.args.files.now)
