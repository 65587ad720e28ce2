use Rattle.std.proofs.Common.{rules, ◌≡◌, ◌-◌, subst}
use Rattle.frag.specs.Wire.{IsLeastPadding, padding}
use Rattle.frag.proofs.Sizes.{least_padding}
use Rattle.frag.proofs.size.padding.Goals as goal

pub returns-clause-least : goal.returns-clause-least
unfolding padding
returns-clause-least c =
    let same : padding c.args.mtu c.args.len ≡ c.fitting.result - c.last_size-size.result = search rules in
    subst (IsLeastPadding c.args.mtu c.args.len) same (least_padding c.args.mtu c.args.len c.requires.mtu)
