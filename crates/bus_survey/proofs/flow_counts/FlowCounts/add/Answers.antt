use Rattle.std.proofs.Common.{◌∙◌, ◌∷◌, cond, sym, ap, arith}
use Rattle.tail_frame.specs.Frames.{seen}
use Rattle.bus_survey.specs.Counts.{start_of, starts}
use Rattle.bus_survey.specs.Starts.{kept_starts}
use Rattle.bus_survey.proofs.CountLemmas.{starts_few}
use Rattle.bus_survey.proofs.MoreLemmas.{frame_more}
use Rattle.bus_survey.proofs.flow_counts.FlowCounts.add.Goals as goal

pub returns-then-frame : goal.returns-then-frame
returns-then-frame c = λ past few short e.
    let f = seen c.args.frame.now in
    frame_more past f c.args.self.now _ _ _ few short c.requires e c.saturating_add-self.ensures c.saturating_add-self-2.ensures
    (c.add.ensures (starts past) (omega (arith, few, starts_few past)) (ap (λ o. o.starts) e) ∙ ap (λ b. kept_starts (cond b (start_of f ∷ starts past) (starts past))) (sym c.if-frame.true))

pub returns-else-frame : goal.returns-else-frame
returns-else-frame c = λ past few short e.
    let f = seen c.args.frame.now in
    frame_more past f c.args.self.now _ _ _ few short c.requires e c.saturating_add-self.ensures c.saturating_add-self-2.ensures
    (ap (λ o. o.starts) e ∙ ap (λ b. kept_starts (cond b (start_of f ∷ starts past) (starts past))) (sym c.if-frame.false))
