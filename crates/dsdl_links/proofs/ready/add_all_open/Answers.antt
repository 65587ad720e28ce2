use Rattle.std.proofs.Common.{get_or}
use Rattle.dsdl_links.proofs.Among.{among_at}
use Rattle.dsdl_links.proofs.ready.add_all_open.Goals as goal

pub add_open-requires-clause-within : goal.add_open-requires-clause-within
add_open-requires-clause-within c = c.requires.within (get_or c.args.files.now c.loop-file.file-index 0) (among_at c.args.files.now c.loop-file.file-index 0 c.loop-file-test.true)
