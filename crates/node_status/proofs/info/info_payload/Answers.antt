use Rattle.std.proofs.Common.{◌≡◌, ◌∙◌, sym, append_assoc}
use Rattle.node_status.specs.Status.{info_bytes, info_payload}
use Rattle.node_status.proofs.StatusBytes.{info_encoding}
use Rattle.node_status.proofs.info.info_payload.Goals as goal

pub returns : goal.returns
unfolding info_payload
returns c =
    let info = c.args.info.now in
    let written : c.put-4.new.payload ≡ info_bytes info = rw (
      c.put-4.ensures,
      c.put-3.ensures,
      c.as_slice.ensures,
      c.push.ensures,
      c.len.ensures,
      c.put-2.ensures,
      c.put.ensures,
      c.to_le_bytes.ensures,
      c.put_version-3.ensures,
      c.put_version-2.ensures,
      c.put_version.ensures,
      c.new-payload.ensures,
    ) (simp append_assoc) in
    written ∙ sym (info_encoding info c.requires)
