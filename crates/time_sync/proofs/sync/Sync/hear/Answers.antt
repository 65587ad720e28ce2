use Rattle.std.proofs.Common.{refl, sym, ap, ◌∙◌}
use Rattle.time_sync.specs.Pairs.{Message}
use Rattle.time_sync.proofs.Kept.{stands_after, offset_then}
use Rattle.time_sync.proofs.sync.Sync.hear.Goals as goal
use Rattle.time_sync.proofs.sync.Sync.hear.Goals.{in-Some, in-None}

pub returns-clause-stands : goal.returns-clause-stands
returns-clause-stands c = λ past k.
    let e : Message = record { moment = c.args.moment; source = c.args.source; tid = c.args.tid; stamp = c.args.stamp } in
    let a = c.args.self.now in
    elim c.match-last_of.branch [
      | in-Some w ↦ stands_after past a _ e _ k c.requires.order a.full
          (record { moment = refl; tid = refl; offset = w.offset-is ∙ w.offset_after-offset.ensures ∙ sym (ap (λ o. offset_then o e) (sym c.last_of.ensures ∙ w.in-Some.is)) })
          refl refl
      | in-None w ↦ stands_after past a _ e _ k c.requires.order a.full
          (record { moment = refl; tid = refl; offset = w.offset-is ∙ sym (ap (λ o. offset_then o e) (sym c.last_of.ensures ∙ w.in-None.is)) })
          refl refl
    ]
