use Rattle.std.proofs.Common.{◌∙◌, ◌∷◌, sym, ap, subst}
use Rattle.line_text.specs.Buffer.{text_of}
use Rattle.log_loop.proofs.Plain.{plain_heard}
use Rattle.net_monitor.specs.Renewals.{IsCalm}
use Rattle.node_reach.specs.declared.monitoring.Monitoring.{Monitoring}
use Rattle.node_reach.specs.Monitored.{beats}
use Rattle.node_reach.specs.Monitors.{Monitors}
use Rattle.node_reach.specs.Watched.{nobody, watch_text, watch_end}
use Rattle.node_reach.specs.Watches.{count_with}
use Rattle.node_reach.proofs.Changes.{watches_next}
use Rattle.node_reach.proofs.Results.{on_ok}
use Rattle.node_reach.proofs.watching.WatchingListener.hear.Goals as goal

pub returns-clause-heard : goal.returns-clause-heard
returns-clause-heard c = on_ok _ _ c.tell_renewal.result (λ text. plain_heard (λ first. watch_text) (λ first. watch_end) _ _ _ _ _ _ (λ first past h.
    let old = c.args.self.now in
    let new = c.tell_renewal.new.self in
    let rec = c.args.rec.now in
    let between = c.tell_gone.new.self in
    let renewal = c.in_ok-renewal.renewal in
    let told = (c.in_ok-tell_gone.ensures {u = tt}).gone (beats nobody past) h.monitors.knows.beats_are (subst (λ k. IsCalm k old.calm (beats nobody past)) (sym h.clock_is) h.is_calm) in
    let taken = (c.in_ok-renewal.ensures {u = tt}).takes nobody past (subst (λ (m : Monitoring). Monitors nobody m past) (sym c.tell_gone.ensures.monitoring) h.monitors) in
    watches_next old new rec past renewal between.calm (text_of c.args.gathered.now) (text_of c.tell_gone.new.gathered) (text_of c.tell_renewal.new.gathered) h c.requires.moment c.requires.count
    (subst (λ (m : Monitoring). Monitors nobody m (rec ∷ past)) (sym c.tell_renewal.ensures.monitoring) taken.0)
    (ap (λ (m : Monitoring). m.ear.latest) c.tell_renewal.ensures.monitoring ∙ c.take.ensures.latest)
    taken.1 told c.tell_renewal.ensures.calm
    (c.tell_renewal.ensures.restarts ∙ ap (λ n. count_with n renewal) c.tell_gone.ensures.restarts)
    text)) c.tell_renewal.ensures.text
