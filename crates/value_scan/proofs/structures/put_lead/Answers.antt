use Rattle.std.proofs.Common.{◌∙◌, ◌++◌, ◌-◌, ap, sym}
use Rattle.std.proofs.lemmas.List.{append-nil}
use Rattle.dsdl_types.specs.Encoding.{lead}
use Rattle.value_scan.specs.Written.{written}
use Rattle.value_scan.proofs.structures.put_lead.Goals as goal

pub returns-else-is_aligned-clause-bits : goal.returns-else-is_aligned-clause-bits
returns-else-is_aligned-clause-bits c =
    sym (append-nil (written c.args.out.now))
    ∙ ap (λ d. written c.args.out.now ++ lead d (c.args.out.now.place - c.args.start)) (sym c.if-is_aligned.false ∙ c.is_aligned.ensures)
