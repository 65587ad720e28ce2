use Rattle.std.proofs.Common.{◌≡◌, Some, sym, ◌∙◌, arith}
use Rattle.dsdl_clash.specs.Clashes.{first_clash, ports_clash}
use Rattle.dsdl_clash.proofs.ClashLemmas.{first_within}
use Rattle.dsdl_resolve.proofs.Clear.{told}
use Rattle.dsdl_resolve.proofs.clashes.check_ports.Goals as goal

pub at_number-requires : goal.at_number-requires
at_number-requires c =
    let first : first_clash ports_clash c.args.definitions.now ≡ Some c.in-Some.file = sym c.in_ok-first_port_clash.ensures ∙ c.in-Some.is in
    omega (arith, first_within ports_clash c.args.definitions.now c.in-Some.file first, c.requires)

pub returns-in-Some-clause-refused : goal.returns-in-Some-clause-refused
returns-in-Some-clause-refused c =
    told _ _ (λ path line why r. record { file = c.in-Some.file; first = sym c.in_ok-first_port_clash.ensures ∙ c.in-Some.is; named = r.0; no_line = r.1; is = r.2 })
    c.at_number.result c.at_number.ensures
