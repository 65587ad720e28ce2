use Rattle.std.proofs.Common.{None, sym, ap, ◌∙◌}
use Rattle.pnp_alloc.specs.Allocation.{owners, greatest_free, given_to}
use Rattle.pnp_alloc.proofs.Kept.{node_stands, greatest_stands, stands_given, stands_same, full_same}
use Rattle.pnp_alloc.proofs.allocator.Allocator.want.Goals as goal

pub returns-in-Some-greatest_free-clause-stands : goal.returns-in-Some-greatest_free-clause-stands
returns-in-Some-greatest_free-clause-stands c = λ own past s.
    let a = c.args.self.now in
    stands_given own c.args.uid c.in-Some-greatest_free.node past a c.give.new.self s
    (node_stands own c.args.uid past a _ s c.node_of.ensures ∙ c.in_default.is)
    (sym (greatest_stands own past a s) ∙ sym c.greatest_free.ensures ∙ c.in-Some-greatest_free.is)
    c.give.ensures.used c.give.ensures.owners

pub returns-in-Some-greatest_free-clause-answer : goal.returns-in-Some-greatest_free-clause-answer
returns-in-Some-greatest_free-clause-answer c = λ own past s.
    let a = c.args.self.now in
    sym (ap (λ o. given_to o (greatest_free own past (owners own past))) (node_stands own c.args.uid past a _ s c.node_of.ensures ∙ c.in_default.is)
    ∙ ap (λ o. given_to None o) (sym (greatest_stands own past a s) ∙ sym c.greatest_free.ensures ∙ c.in-Some-greatest_free.is))

pub returns-in-None-clause-stands : goal.returns-in-None-clause-stands
returns-in-None-clause-stands c = λ own past s.
    let a = c.args.self.now in
    stands_same own c.args.uid past a s
    (full_same own c.args.uid past
    (node_stands own c.args.uid past a _ s c.node_of.ensures ∙ c.in_default.is)
    (sym (greatest_stands own past a s) ∙ sym c.greatest_free.ensures ∙ c.in-None.is))

pub returns-in-None-clause-answer : goal.returns-in-None-clause-answer
returns-in-None-clause-answer c = λ own past s.
    let a = c.args.self.now in
    sym (ap (λ o. given_to o (greatest_free own past (owners own past))) (node_stands own c.args.uid past a _ s c.node_of.ensures ∙ c.in_default.is)
    ∙ ap (λ o. given_to None o) (sym (greatest_stands own past a s) ∙ sym c.greatest_free.ensures ∙ c.in-None.is))
