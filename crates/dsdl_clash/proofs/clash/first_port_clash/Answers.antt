use Rattle.std.proofs.Common.{[], sym, ◌∙◌}
use Rattle.dsdl_clash.proofs.ClashLemmas.{no_ports}
use Rattle.dsdl_clash.proofs.clash.first_port_clash.Goals as goal

pub returns-then-have_no_port : goal.returns-then-have_no_port
returns-then-have_no_port c = sym (no_ports [] c.args.definitions.now (sym c.have_no_port.ensures ∙ c.if-have_no_port.true))
