use Rattle.std.proofs.Common.{refl, []}
use Rattle.dsdl_resolve.proofs.Filing.{file_begin, keeps_none}
use Rattle.dsdl_resolve.proofs.file.OpenFile.begin.Goals as goal

pub returns-clause-file : goal.returns-clause-file
returns-clause-file c = λ S. file_begin _ S c.args.lines.now (c.begin.ensures S [] c.nothing.ensures refl (keeps_none S)) refl
