use Rattle.std.proofs.Common.{◌≡◌, List, sym, subst, map}
use Rattle.std.proofs.lemmas.Result.{IfOk-weaker}
use Rattle.dsdl_files.specs.declared.file.DsdlFile.{DsdlFile}
use Rattle.dsdl_files.specs.Order.{IsAscending}
use Rattle.dsdl_files.specs.Folders.{name_below}
use Rattle.dsdl_files.proofs.Named.{names_ascend}
use Rattle.dsdl_files.proofs.folder.read_within.Goals as goal

pub returns-clause-ascending : goal.returns-clause-ascending
returns-clause-ascending g c =
    let root = c.args.root.now in
    let names : IsAscending (map (name_below root) c.in_ok-paths.paths) =
    names_ascend root c.in_ok-paths.paths c.in_ok-paths.ensures.below c.in_ok-paths.ensures.ascending in
    IfOk-weaker c.read_files.result
    (λ (files : List DsdlFile). map (λ (file : DsdlFile). file.path) files ≡ map (name_below root) c.in_ok-paths.paths)
    (λ (files : List DsdlFile). IsAscending (map (λ (file : DsdlFile). file.path) files))
    (λ files e. subst IsAscending (sym e) names) c.read_files.ensures.names
