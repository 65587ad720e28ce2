use Rattle.std.proofs.Common.{◌∙◌, refl, sym, ap, subst, List}
use Rattle.tail_frame.specs.Frames.{seen}
use Rattle.rx_session.specs.Extents.{extent_bytes}
use Rattle.rx_session.specs.Seen.{record_of}
use Rattle.rx_table.specs.Ports.{Answer, PortState, ports_of, is_of_session}
use Rattle.rx_table.specs.Places.{table_answer}
use Rattle.rx_table.specs.Table.{states, logged, HeardBy, StandsFor, Told}
use Rattle.rx_table.proofs.PutBodies.{stands-put, heard-met, told-put, idle-put}
use Rattle.rx_table.proofs.table.Table.feed.Goals as goal

pub returns-in-Ok : goal.returns-in-Ok
returns-in-Ok g c =
    let extent = extent_bytes g.S.Shape.shape in
    let r = record_of c.args.frame.now in
    let old = c.args.self.now in
    let mid = states extent c.step.new.self.ports.items in
    let is = c.put_whole.ensures.states in
    let met = c.in-Ok.met in
    let step = c.in-Ok.ensures in
    let keeps = c.in-Ok.ensures.keeps in
    let put = c.put_whole.ensures.keeps in
    let told = c.lend.ensures ∙ (ap (λ (ps : List PortState). table_answer ps r met) is ∙ told-put r mid met) in (
      (
        refl,
        λ _. tt,
        (
          record { timeout = put.timeout ∙ keeps.timeout; ports = put.ports ∙ keeps.ports; shapes = put.shapes ∙ keeps.shapes },
          λ now le. subst (HeardBy now) (sym is) (heard-met r now mid met (step.heard now le)),
          λ log st. subst (StandsFor old.timeout (logged (seen c.args.frame.now) log)) (sym is) (stands-put r old.timeout (logged (seen c.args.frame.now) log) mid met (step.stands log st)),
          λ h. is ∙ (idle-put r mid met (sym (ap is_of_session told) ∙ h) ∙ step.idle (sym (ap is_of_session told) ∙ h)),
          tt,
        ),
      ),
      record {
        after = tt;
        told = λ log st. subst (λ (answer : Answer). Told old.timeout (ports_of (states extent old.ports.items)) (seen c.args.frame.now) log answer) (sym told) (step.told log st);
        memory = tt;
      },
    )
