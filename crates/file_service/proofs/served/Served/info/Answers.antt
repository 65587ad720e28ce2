use Rattle.std.proofs.Common.{◌≡◌, ◌∙◌, sym, ap, subst, true}
use Rattle.cy_outside.specs.Files.{Sizes}
use Rattle.file_service.specs.declared.place.Place.TheVariants.{At}
use Rattle.file_service.specs.Paths.{place_of}
use Rattle.file_service.specs.Replies.{IsInfo, info}
use Rattle.file_service.proofs.Told.{info_file, info_folder, info_nothing, info_failed}
use Rattle.file_service.proofs.served.Served.info.Goals as goal
use Rattle.file_service.proofs.served.Served.info.Goals.{in-Ok-File, in-Ok-Folder, in-Ok-Absent, in-Err}

pub returns-clause-answer : goal.returns-clause-answer
returns-clause-answer g c =
    let told = g.T.Tree.files c.args.tree.now in
    let path = c.as_str.result.now in
    let is : At path ≡ place_of c.args.self.now.root.now c.args.path.now =
    ap At c.as_str.ensures ∙ sym c.in-At.is ∙ c.in_ok-place_of.ensures.place in
    subst (λ p. IsInfo told p c.match-size.result) is
    (elim c.match-size.branch as (λ _. IsInfo told (At path) c.match-size.result) [
      | in-Ok-File w ↦
          subst (IsInfo told (At path)) (sym (w.result-is ∙ w.info-in-Ok-File.ensures ∙ ap (λ n. info 0 n true true) w.min.ensures))
          (info_file told path w.in-Ok-File.size (subst (Sizes told path) w.in-Ok-File.field-0-is w.in-Ok-File.ensures.sizes))
      | in-Ok-Folder w ↦
          subst (IsInfo told (At path)) (sym (w.result-is ∙ w.info-in-Ok-Folder.ensures))
          (info_folder told path (subst (Sizes told path) w.in-Ok-Folder.field-0-is w.in-Ok-Folder.ensures.sizes))
      | in-Ok-Absent w ↦
          subst (IsInfo told (At path)) (sym (w.result-is ∙ w.info-in-Ok-Absent.ensures))
          (info_nothing told path (subst (Sizes told path) w.in-Ok-Absent.field-0-is w.in-Ok-Absent.ensures.sizes))
      | in-Err w ↦ subst (IsInfo told (At path)) (sym (w.result-is ∙ w.info-in-Err.ensures)) (info_failed told path)
    ])
