use Rattle.type_versions.proofs.Grown.{with_four}
use Rattle.type_versions.proofs.versions.push_refusal.Goals as goal

pub returns : goal.returns
returns c =
    with_four c.push_bytes-4.result c.args.text.now.items c.push_bytes.new.text.items c.push_bytes-2.new.text.items c.push_bytes-3.new.text.items c.push_bytes-4.new.text.items _ _ _ _ c.in_ok-push_bytes.ensures c.in_ok-push_bytes-2.ensures c.in_ok-push_bytes-3.ensures c.push_bytes-4.ensures
