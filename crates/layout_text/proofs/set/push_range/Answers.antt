use Rattle.std.proofs.Common.{◌≡◌, sym}
use Rattle.layout_text.specs.Sets.{first, last}
use Rattle.layout_text.proofs.Ascending.{first_is, last_is}
use Rattle.layout_text.proofs.set.push_range.Goals as goal

pub returns : goal.returns
returns c =
    let a : first c.args.set.now ≡ c.min.result = sym (first_is c.args.set.now c.min.result c.requires.ascending c.min.ensures) in
    let b : last c.args.set.now ≡ c.max.result = sym (last_is c.args.set.now c.max.result c.requires.ascending c.max.ensures.greatest) in
    rw (a, b, sym c.requires.count) c.push_ends.ensures
