use Rattle.std.proofs.Common.{sym, subst, true, IfOk}
use Rattle.std.proofs.lemmas.Result.{IfOk-weaker}
use Rattle.bit_length.specs.Lengths.{Has, Same, Pads}
use Rattle.layout.specs.Sets.{Leads}
use Rattle.layout.proofs.Sets.{pads_lead, same_trans}
use Rattle.layout.proofs.composite.leads.Goals as goal

pub pad-requires : goal.pad-requires
pad-requires c = λ n h.
    c.requires n (subst (λ d. Leads d (Has c.args.places) n) (sym c.if-aligned.true) ((pads_lead (Has c.args.places) n).0 h))

pub returns-then-aligned : goal.returns-then-aligned
returns-then-aligned c =
    subst (λ d. IfOk c.pad.result (λ s. Same (Has s) (Leads d (Has c.args.places)))) (sym c.if-aligned.true)
    (IfOk-weaker c.pad.result (λ s. Same (Has s) (Pads (Has c.args.places) 8)) (λ s. Same (Has s) (Leads true (Has c.args.places))) (λ s a. same_trans a (pads_lead (Has c.args.places))) c.pad.ensures)
