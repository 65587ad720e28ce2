use Rattle.std.proofs.Common.{◌∷◌}
use Rattle.bit_length.specs.Lengths.{Has}
use Rattle.bit_length.specs.Moved.{Moved}
use Rattle.bit_length.specs.Runs.{InSome}
use Rattle.bit_length.proofs.SetLemmas.{same_join}
use Rattle.bit_length.proofs.listed.listed.Goals as goal

pub returns-clause-same : goal.returns-clause-same
returns-clause-same c =
    let items = c.in_ok-members_of.field-0.items in
    same_join (Has c.in_order.result) (Has items) (Moved c.args.by (InSome c.args.step (c.args.last.now ∷ c.args.others.now))) c.in_order.ensures.same c.in_ok-members_of.ensures
