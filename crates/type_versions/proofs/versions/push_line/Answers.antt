use Rattle.type_versions.proofs.Grown.{with_line}
use Rattle.type_versions.proofs.versions.push_line.Goals as goal

pub returns : goal.returns
returns c =
    with_line c.push_bytes-3.result c.args.text.now.items c.push_id.new.text.items c.push_bytes.new.text.items c.push_id-2.new.text.items c.push_bytes-2.new.text.items c.push_verdict.new.text.items c.push_bytes-3.new.text.items _ _ _ c.in_ok-push_id.ensures c.in_ok-push_bytes.ensures c.in_ok-push_id-2.ensures c.in_ok-push_bytes-2.ensures c.in_ok-push_verdict.ensures c.push_bytes-3.ensures
