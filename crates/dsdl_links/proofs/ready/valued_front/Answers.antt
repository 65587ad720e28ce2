use Rattle.std.proofs.Common.{get_or}
use Rattle.dsdl_links.proofs.Among.{among_at}
use Rattle.dsdl_links.proofs.ready.valued_front.Goals as goal

pub bounds-valued-links : goal.bounds-valued-links
bounds-valued-links c = c.requires.within (get_or c.args.links.now c.loop-front.front 0) (among_at c.args.links.now c.loop-front.front 0 c.loop-front-test.true)
