use Rattle.std.proofs.Common.{◌≤◌, ℕ, List, subst, arith}
use Rattle.frame_log.specs.Reads.{bus_in, Reads}
use Rattle.frame_log.proofs.ReadsLemmas.{reads-stored}
use Rattle.frame_log.proofs.buses.Buses.at.Goals as goal

pub returns-then-equal_before-self-clause-reads : goal.returns-then-equal_before-self-clause-reads
returns-then-equal_before-self-clause-reads c =
    let i = c.self.inside in
    let le : i.first.len ≤ c.equal_before.result = c.if-equal_before-self.true in
    let short : i.first.len ≤ 16 = omega (arith, le, c.equal_before.ensures.within) in
    subst (λ (b : List (List ℕ)). Reads (bus_in b) c.args.s.now i.first.len 0) c.self.view_is
    (reads-stored (bus_in i.names) c.args.s.now i.first.text i.first.len c.equal_before.result 0 le short c.equal_before.ensures.same (c.self.invariant.0 short))

pub returns-then-equal_before-self-2-clause-reads : goal.returns-then-equal_before-self-2-clause-reads
returns-then-equal_before-self-2-clause-reads c =
    let i = c.self.inside in
    let le : i.second.len ≤ c.equal_before-2.result = c.if-equal_before-self-2.true in
    let short : i.second.len ≤ 16 = omega (arith, le, c.equal_before-2.ensures.within) in
    subst (λ (b : List (List ℕ)). Reads (bus_in b) c.args.s.now i.second.len 1) c.self.view_is
    (reads-stored (bus_in i.names) c.args.s.now i.second.text i.second.len c.equal_before-2.result 1 le short c.equal_before-2.ensures.same (c.self.invariant.1 short))

pub returns-then-equal_before-self-3-clause-reads : goal.returns-then-equal_before-self-3-clause-reads
returns-then-equal_before-self-3-clause-reads c =
    let i = c.self.inside in
    let le : i.third.len ≤ c.equal_before-3.result = c.if-equal_before-self-3.true in
    let short : i.third.len ≤ 16 = omega (arith, le, c.equal_before-3.ensures.within) in
    subst (λ (b : List (List ℕ)). Reads (bus_in b) c.args.s.now i.third.len 2) c.self.view_is
    (reads-stored (bus_in i.names) c.args.s.now i.third.text i.third.len c.equal_before-3.result 2 le short c.equal_before-3.ensures.same (c.self.invariant.2 short))
