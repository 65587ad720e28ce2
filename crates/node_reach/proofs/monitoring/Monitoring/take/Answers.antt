use Rattle.std.proofs.Common.{◌≡◌, ◌∙◌, Option, option_map, sym, subst, arith}
use Rattle.node_reach.specs.Monitored.{monitor_ears, beats, messages, beat_of, with_message}
use Rattle.node_reach.specs.Monitors.{Renews}
use Rattle.node_reach.specs.Told.{owned}
use Rattle.node_reach.specs.Transfers.{Transfer, HasBegunBy, transfer_at}
use Rattle.node_reach.proofs.Begun.{transfer_begun}
use Rattle.node_reach.proofs.Ears.{up_to_later}
use Rattle.node_reach.proofs.monitoring.Monitoring.take.Goals as goal

pub returns-clause-takes : goal.returns-clause-takes
returns-clause-takes c = λ own past h.
    let ears = monitor_ears own in
    let rec = c.args.rec.now in
    let ok = c.in_ok-heard.ensures {u = tt} in
    let told : option_map owned c.transfer-transfer.result ≡ transfer_at ears rec past = c.transfer-transfer.ensures.told ∙ ok.told ears past h.hears in
    let begun = transfer_begun ears rec past (up_to_later c.args.self.now.ear.latest rec.moment past c.requires.moment h.hears.moments) in
    let learned = (c.in_ok-renewal.ensures {u = tt}).learns (beats own past) (messages own past) (subst (λ (t : Option Transfer). HasBegunBy rec.moment t) (sym told) begun) h.knows in
    let renewed = subst (λ (t : Option Transfer). Renews (beat_of t (beats own past)) (beats own past) (with_message t (messages own past)) c.hear-2.new.self c.in_ok-renewal.renewal) told learned in (
      record {
        hears = ok.hears ears past h.hears;
        knows = renewed.0;
        latest = c.hear.ensures.latest;
        records = omega (arith, h.records);
      },
      renewed.1,
    )
