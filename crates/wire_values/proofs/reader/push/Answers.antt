use Rattle.std.proofs.Common.{◌≡◌, sym, subst, ap, ◌∙◌}
use Rattle.dsdl_types.specs.Reading.{and_then, Got}
use Rattle.dsdl_types.specs.Values.{More}
use Rattle.dsdl_types.specs.Views.{val, vals}
use Rattle.wire_values.specs.Reads.{with_front, Goes}
use Rattle.wire_values.proofs.Readings.{front_push}
use Rattle.wire_values.proofs.reader.push.Goals as goal
use Rattle.wire_values.proofs.reader.push.Goals.{in-Ok, in-Err}

pub returns : goal.returns
returns c = λ r.
    let before = with_front (vals c.args.values.now.items) (and_then r (λ ws. Got (More (val c.args.value) ws))) in
    let now = with_front (vals c.push.new.self.items) r in
    elim c.match-push.branch [
      | in-Ok w ↦
          let h : before ≡ now = front_push c.args.values.now.items c.args.value r ∙ ap (λ l. with_front (vals l) r) (sym w.in-Ok.ensures.items) in
          subst (λ res. Goes res before now) (sym w.result-is) h
      | in-Err w ↦ subst (λ res. Goes res before now) (sym w.result-is) tt
    ]
