use Rattle.bit_length.proofs.SetLemmas.{last_run, other_runs, value_parts}
use Rattle.bit_length.proofs.ListedLemmas.{listed_value}
use Rattle.bit_length.proofs.run_set.RunSet.members.Goals as goal

pub listed-requires-clause-others : goal.listed-requires-clause-others
listed-requires-clause-others c =
    rw c.as_slice-others.ensures.value (other_runs c.self.inside.step c.self.inside.others.items c.self.inside.last c.self.invariant)

pub listed-requires-clause-last : goal.listed-requires-clause-last
listed-requires-clause-last c =
    last_run c.self.inside.step c.self.inside.others.items c.self.inside.last c.self.invariant

pub listed-requires-clause-short : goal.listed-requires-clause-short
listed-requires-clause-short c =
    let parts = value_parts c.self.inside.step c.self.inside.others.items c.self.inside.last c.args.self.now c.self.invariant c.self.view_is in
    rw c.as_slice-others.ensures.value (λ n h. c.requires n ((parts n).1 h))

pub returns : goal.returns
returns c =
    let same = rw c.as_slice-others.ensures.value at c.in_ok-listed.ensures.same in
    listed_value c.args.by c.self.inside.step c.self.inside.others.items c.self.inside.last c.args.self.now c.in_ok-listed.field-0 c.self.invariant c.self.view_is c.count-room.ensures.ascending c.in_ok-listed.ensures.order same
