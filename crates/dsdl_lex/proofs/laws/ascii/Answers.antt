use Rattle.dsdl_lex.proofs.Printable.{ascii, printable}
use Rattle.dsdl_lex.proofs.laws.ascii.Goals as goal

pub returns-clause-ascii : goal.returns-clause-ascii
returns-clause-ascii c = ascii

pub returns-clause-printable : goal.returns-clause-printable
returns-clause-printable c = printable
