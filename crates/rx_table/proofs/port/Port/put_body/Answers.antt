use Rattle.std.proofs.Common.{◌∙◌, sym, ap, arith}
use Rattle.std.specs.Option.{option_copied_mut}
use Rattle.rx_session.specs.Seen.{record_of}
use Rattle.rx_table.proofs.Buffered.{buffered-step}
use Rattle.rx_table.proofs.PutBodies.{entries-put, entries-past}
use Rattle.rx_table.proofs.port.Port.put_body.Goals as goal

pub returns-then-index-len-clause-entries : goal.returns-then-index-len-clause-entries
returns-then-index-len-clause-entries g c =
    entries-put (record_of c.args.frame.now) c.args.self.now.sessions.entries c.args.index c.put_body.new.self c.unwrap-session.result.now
    (sym c.get_index_mut.ensures.value ∙ ap option_copied_mut c.unwrap-session.ensures) c.put_body.ensures.state

pub returns-then-index-len-clause-buffered : goal.returns-then-index-len-clause-buffered
returns-then-index-len-clause-buffered g c =
    buffered-step c.args.self.now.sessions.entries c.args.index c.put_body.new.self c.unwrap-session.result.now (sym c.get_index_mut.ensures.value ∙ ap option_copied_mut c.unwrap-session.ensures) c.put_body.ensures.size

pub returns-else-index-len-clause-entries : goal.returns-else-index-len-clause-entries
returns-else-index-len-clause-entries g c =
    sym (entries-past (record_of c.args.frame.now) c.args.self.now.sessions.entries c.args.index (omega arith))
