use Rattle.std.proofs.Common.{refl, arith}
use Rattle.tail_frame.specs.Frames.{seen}
use Rattle.rx_table.specs.Views.{states_of}
use Rattle.rx_table.proofs.Heard.{heard-later}
use Rattle.node_reach.specs.PortTypes.{type_schema}
use Rattle.node_reach.proofs.Ears.{hears_none, hears_some, told_none, told_some}
use Rattle.node_reach.proofs.ear.Ear.hear.Goals as goal

pub step-requires : goal.step-requires
step-requires c =
    let old = c.args.self.now in heard-later old.latest c.in-Some.frame.moment (states_of type_schema old.table) (omega (arith, (c.in-Some.ensures {u = tt}).moment)) old.in_time

pub invariant_of-self-in-None : goal.invariant_of-self-in-None
invariant_of-self-in-None c =
    let old = c.args.self.now in record { in_time = heard-later old.latest c.args.rec.now.moment (states_of type_schema old.table) c.requires.moment old.in_time }

pub returns-in_ok-met-in-Some-clause-hears : goal.returns-in_ok-met-in-Some-clause-hears
returns-in_ok-met-in-Some-clause-hears c =
    (λ ears past h. hears_some c.args.self.now _ c.args.rec.now (record { own = refl; timeout = c.step.ensures.keeps.timeout; ports = c.step.ensures.keeps.ports; latest = refl; behind = c.requires.moment }) ears past h (seen c.in-Some.frame) (c.in-Some.ensures {u = tt}).value (c.in_ok-met-in-Some.ensures {u = tt}).stands)

pub returns-in_ok-met-in-Some-clause-told : goal.returns-in_ok-met-in-Some-clause-told
returns-in_ok-met-in-Some-clause-told c = λ ears past h.
    told_some c.args.self.now c.args.rec.now ears past h c.outcome_tells.ensures (seen c.in-Some.frame) _ (c.in-Some.ensures {u = tt}).value (c.in_ok-met-in-Some.ensures {u = tt}).told

pub returns-in-None-clause-hears : goal.returns-in-None-clause-hears
returns-in-None-clause-hears c =
    (λ ears past h. hears_none c.args.self.now _ c.args.rec.now (record { own = refl; timeout = refl; ports = refl; latest = refl; behind = c.requires.moment }) ears past h (c.in-None.ensures {u = tt}).value refl)

pub returns-in-None-clause-told : goal.returns-in-None-clause-told
returns-in-None-clause-told c = λ ears past h. told_none c.args.self.now c.args.rec.now ears past h (c.in-None.ensures {u = tt}).value
