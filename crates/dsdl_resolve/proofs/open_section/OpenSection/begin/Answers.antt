use Rattle.std.proofs.Common.{refl}
use Rattle.dsdl_resolve.proofs.Opening.{open_begin}
use Rattle.dsdl_resolve.proofs.open_section.OpenSection.begin.Goals as goal

pub returns : goal.returns
returns c = λ scope front stands last keeps.
    open_begin _ scope front c.args.lines.now c.empty-2.ensures c.empty-3.ensures refl refl c.new.ensures c.empty.ensures.totals c.empty.ensures.within c.whole_of.ensures.union c.whole_of.ensures.fields stands last keeps
