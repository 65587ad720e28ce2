use Rattle.std.proofs.Common.{◌∙◌, ◌∷◌, ◌+◌, ◌-◌, ◌^◌, min, cond, sym, ap}
use Rattle.bus_survey.specs.Starts.{kept_waits, moments}
use Rattle.bus_survey.proofs.MoreLemmas.{start_more}
use Rattle.bus_survey.proofs.starts.Starts.add.Goals as goal

pub returns-then-not-is_copy : goal.returns-then-not-is_copy
returns-then-not-is_copy c = λ past few e.
    let old = c.args.self.now in
    let s = c.args.start in
    start_more past s old _ _ _ _ c.is_copy-is_copy.result c.is_gap-is_gap.result few e c.is_copy-is_copy.ensures c.is_gap-is_gap.ensures
    c.saturating_add-self.ensures
    (c.saturating_add-self-2.ensures ∙ ap (λ n. min (old.copies + n) (2 ^ 64 - 1)) c.from.ensures)
    (c.saturating_add-self-3.ensures ∙ ap (λ n. min (old.gaps + n) (2 ^ 64 - 1)) c.from-2.ensures)
    (c.add.ensures (moments past) (ap (λ o. o.waits) e) ∙ ap (λ b. kept_waits (cond b (moments past) (s.moment ∷ moments past))) (sym c.if-not-is_copy.true))

pub returns-else-not-is_copy : goal.returns-else-not-is_copy
returns-else-not-is_copy c = λ past few e.
    let old = c.args.self.now in
    let s = c.args.start in
    start_more past s old _ _ _ _ c.is_copy-is_copy.result c.is_gap-is_gap.result few e c.is_copy-is_copy.ensures c.is_gap-is_gap.ensures
    c.saturating_add-self.ensures
    (c.saturating_add-self-2.ensures ∙ ap (λ n. min (old.copies + n) (2 ^ 64 - 1)) c.from.ensures)
    (c.saturating_add-self-3.ensures ∙ ap (λ n. min (old.gaps + n) (2 ^ 64 - 1)) c.from-2.ensures)
    (ap (λ o. o.waits) e ∙ ap (λ b. kept_waits (cond b (moments past) (s.moment ∷ moments past))) (sym c.if-not-is_copy.false))
