use Rattle.std.proofs.Common.{sym}
use Rattle.dsdl_clash.proofs.OrderLemmas.{equal, greater}
use Rattle.dsdl_clash.proofs.numbers.next_number.Goals as goal

pub returns-in-Less-clause-reached : goal.returns-in-Less-clause-reached
returns-in-Less-clause-reached c = λ reached.
    greater c.args.definitions.now c.args.number c.args.i c.index-definitions-number.result c.index-definitions-i.result c.requires.at c.requires.within c.index-definitions-number.is c.index-definitions-i.is reached (sym c.in-Less.ensures)

pub returns-in-Equal-clause-reached : goal.returns-in-Equal-clause-reached
returns-in-Equal-clause-reached c = λ reached.
    equal c.args.definitions.now c.args.number c.args.i c.index-definitions-number.result c.index-definitions-i.result c.requires.at c.requires.within c.index-definitions-number.is c.index-definitions-i.is reached (sym c.in-Equal.ensures)
