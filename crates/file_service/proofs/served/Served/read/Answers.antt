use Rattle.std.proofs.Common.{◌≡◌, ◌∙◌, ◌≤◌, length, sym, ap, subst, arith}
use Rattle.cy_outside.specs.Causes.{IsWithin}
use Rattle.cy_outside.specs.Files.{Reads}
use Rattle.file_service.specs.declared.place.Place.TheVariants.{At}
use Rattle.file_service.specs.Paths.{place_of}
use Rattle.file_service.specs.Replies.{IsRead, read_of}
use Rattle.file_service.proofs.Told.{read_bytes, read_folder, read_nothing, read_failed}
use Rattle.file_service.proofs.served.Served.read.Goals as goal
use Rattle.file_service.proofs.served.Served.read.Goals.{in-Ok-Bytes, in-Ok-Folder, in-Ok-Absent, in-Err}

pub returns-clause-answer : goal.returns-clause-answer
returns-clause-answer g c =
    let told = g.T.Tree.files c.args.tree.now in
    let buf = c.read_at.new.buf in
    let path = c.as_str.result.now in
    let is : At path ≡ place_of c.args.self.now.root.now c.args.path.now =
    ap At c.as_str.ensures ∙ sym c.in-At.is ∙ c.in_ok-place_of.ensures.place in
    subst (λ p. IsRead told p c.args.offset (read_of c.match-read_at.result buf)) is
    (elim c.match-read_at.branch as (λ _. IsRead told (At path) c.args.offset (read_of c.match-read_at.result buf)) [
      | in-Ok-Bytes w ↦
          let n = w.in-Ok-Bytes.count in
          let within : n ≤ length buf = omega (arith, subst (λ a. IsWithin a (length c.args.buf.now)) w.in-Ok-Bytes.field-0-is w.in-Ok-Bytes.ensures.within) in
          let room : length buf ≡ 256 = omega arith in
          subst (λ d. IsRead told (At path) c.args.offset (read_of d buf)) (sym w.result-is)
          (read_bytes told path buf c.args.offset n room (omega arith)
          (subst (Reads told path c.args.offset buf) w.in-Ok-Bytes.field-0-is w.in-Ok-Bytes.ensures.reads))
      | in-Ok-Folder w ↦
          subst (λ d. IsRead told (At path) c.args.offset (read_of d buf)) (sym (w.result-is ∙ w.no_bytes-in-Ok-Folder.ensures))
          (read_folder told path buf c.args.offset (subst (Reads told path c.args.offset buf) w.in-Ok-Folder.field-0-is w.in-Ok-Folder.ensures.reads))
      | in-Ok-Absent w ↦
          subst (λ d. IsRead told (At path) c.args.offset (read_of d buf)) (sym (w.result-is ∙ w.no_bytes-in-Ok-Absent.ensures))
          (read_nothing told path buf c.args.offset (subst (Reads told path c.args.offset buf) w.in-Ok-Absent.field-0-is w.in-Ok-Absent.ensures.reads))
      | in-Err w ↦
          subst (λ d. IsRead told (At path) c.args.offset (read_of d buf)) (sym (w.result-is ∙ w.no_bytes-in-Err.ensures))
          (read_failed told path c.args.offset)
    ])
