use Rattle.std.proofs.Common.{rules, take, arith}
use Rattle.std.proofs.lemmas.List.{take_more_set, get_or-set_other}
use Rattle.bit_length.proofs.MergeLemmas.{take_joined, take_next}
use Rattle.bit_length.proofs.merge.take_run.Goals as goal

pub returns-then-touches-clause-takes : goal.returns-then-touches-clause-takes
returns-then-touches-clause-takes c =
    let h = c.touches.ensures.0 c.if-touches.true in
    rw c.max.ensures (take_joined (take c.args.kept c.args.runs.now) c.args.last c.args.next h.0 h.1)

pub returns-clause-takes : goal.returns-clause-takes
returns-clause-takes c =
    let runs = c.args.runs.now in
    let kept = c.args.kept in
    rw (take_more_set runs kept c.args.last c.requires.within) (take_next (take kept runs) c.args.last c.args.next (λ h. let t = c.touches.ensures.1 h in search rules))

pub returns-clause-rest : goal.returns-clause-rest
returns-clause-rest c = λ k d lt. get_or-set_other c.args.runs.now c.args.kept k c.args.last d (λ e. omega arith)
