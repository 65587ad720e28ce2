use Rattle.std.proofs.Common.{◌∙◌, ◌+◌, ◌-◌, ◌^◌, min, max, ap}
use Rattle.bus_survey.proofs.MoreLemmas.{record_more}
use Rattle.bus_survey.proofs.bus_counts.BusCounts.add.Goals as goal

pub returns : goal.returns
returns c = λ past few e.
    let old = c.args.self.now in
    record_more past c.args.rec.now old c.args.is_frame _ _ _ _ few e c.requires c.saturating_add-self.ensures
    (c.saturating_add-self-2.ensures ∙ ap (λ n. min (old.discarded + n) (2 ^ 64 - 1)) c.from.ensures)
    c.unwrap_or.ensures
    (c.max-self.ensures ∙ ap (λ t. max old.silence t) c.time_from.ensures)
