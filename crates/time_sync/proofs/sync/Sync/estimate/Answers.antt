use Rattle.std.proofs.Common.{◌<◌, sym, ◌∙◌}
use Rattle.time_sync.proofs.Kept.{estimate_stands, estimate_none}
use Rattle.time_sync.proofs.sync.Sync.estimate.Goals as goal

pub returns-in-Some : goal.returns-in-Some
returns-in-Some c = λ past k.
    let below : c.in-Some.source < 128 = c.in-Some.ensures.below in
    c.estimate_of.ensures ∙ sym (estimate_stands c.args.moment c.in-Some.source past c.args.self.now k below (sym c.master.ensures.least ∙ c.in-Some.is))

pub returns-in-None : goal.returns-in-None
returns-in-None c = λ past k. sym (estimate_none c.args.moment past c.args.self.now k (sym c.master.ensures.least ∙ c.in-None.is))
