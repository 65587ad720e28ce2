use Rattle.std.proofs.Common.{◌≡◌, ◌∙◌, ◌+◌, ℕ, suc, ap, sym, subst, min, List, length, arith}
use Rattle.rx_table.specs.declared.port.Port.{Port}
use Rattle.rx_table.specs.SubjectPlaces.{ArePlaces, with_code}
use Rattle.rx_table.specs.Table.{held_in}
use Rattle.rx_table.proofs.Buffered.{held_in-append}
use Rattle.rx_table.proofs.SubjectPlaces.{places-append}
use Rattle.rx_table.proofs.table.Table.append.Goals as goal

pub invariant_of-self-clause-sum : goal.invariant_of-self-clause-sum
invariant_of-self-clause-sum g c =
    c.args.self.now.sum
    ∙ ap (λ n. min n 18446744073709551615)
    (sym (ap (λ (t : List (Port g.row.S.Denot)). held_in t) c.in-Ok.ensures.items ∙ held_in-append c.args.self.now.ports.items c.args.port c.requires.empty))

pub invariant_of-self-clause-places : goal.invariant_of-self-clause-places
invariant_of-self-clause-places g c =
    let ports = c.args.self.now.ports.items in
    let subjects = c.args.self.now.subjects in
    let code = c.len.result + 1 in
    let is : code ≡ suc (length ports) = let n = c.len.ensures in omega arith in
    subst (λ (t : List ℕ). ArePlaces t c.push.new.self.items) (sym c.put.ensures)
    (subst (λ (t : List (Port g.row.S.Denot)). ArePlaces (with_code subjects c.args.port.kind c.args.port.port code) t) (sym c.in-Ok.ensures.items)
    (places-append subjects ports c.args.port code c.args.self.now.places c.requires.absent is))
