use Rattle.std.proofs.Common.{sym, subst, false}
use Rattle.std_types.specs.Held.{HoldsBytes}
use Rattle.file_service.specs.Names.{found}
use Rattle.file_service.specs.Replies.{ListsFolder}
use Rattle.file_service.proofs.Members.{name_fits}
use Rattle.file_service.proofs.Told.{folder_lists}
use Rattle.file_service.proofs.served.list_folder.Goals as goal

pub returns-in_ok-name-in-Ok-clause-answer : goal.returns-in_ok-name-in-Ok-clause-answer
returns-in_ok-name-in-Ok-clause-answer g c =
    let told = g.T.Tree.files c.args.tree.now in
    let folder = c.args.folder.now in
    subst (λ n. ListsFolder told folder c.args.index (record { name = n; failed = false })) (sym c.in_ok-name-in-Ok.ensures)
    (folder_lists told folder c.in-Ok.listing c.args.index c.in-Ok.ensures.lists)

pub returns-in_ok-name-in-Ok-clause-fits : goal.returns-in_ok-name-in-Ok-clause-fits
returns-in_ok-name-in-Ok-clause-fits g c =
    subst (HoldsBytes 255) (sym c.in_ok-name-in-Ok.ensures) (name_fits (found c.in-Ok.listing) c.args.index)
