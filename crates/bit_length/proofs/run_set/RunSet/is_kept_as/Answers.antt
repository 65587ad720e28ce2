use Rattle.std.proofs.Common.{◌∙◌, sym}
use Rattle.bit_length.proofs.SameLemmas.{kept_as}
use Rattle.bit_length.proofs.run_set.RunSet.is_kept_as.Goals as goal

pub returns : goal.returns
returns c = λ e.
    let same = rw (c.as_slice.ensures.value, c.as_slice-2.ensures.value) at c.are_same.ensures in
    kept_as c.self.inside.step c.o.inside.step c.self.inside.others.items c.o.inside.others.items c.self.inside.last c.o.inside.last c.args.self.now c.args.o.now c.if-self-o.false (sym c.is.ensures ∙ c.if-not-is.false) (same e) c.self.view_is c.o.view_is
