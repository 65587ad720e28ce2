use Rattle.std.proofs.Common.{◌+◌, ◌-◌, ◌/◌, sym, ap, ◌∙◌, arith}
use Rattle.frag.proofs.Sizes.{one_frame, more_frames}
use Rattle.frag.proofs.size.count.Goals as goal

pub returns-then-len-room : goal.returns-then-len-room
returns-then-len-room c payload e = ap (λ n. n + 1) (sym (one_frame c.args.mtu payload c.requires.mtu (omega arith)))

pub returns-else-len-room : goal.returns-else-len-room
returns-else-len-room c payload e =
    ap (λ n. (n + 1) / (c.args.mtu - 1) + 1) (sym e)
    ∙ ap (λ n. n + 1) (sym (more_frames c.args.mtu payload c.requires.mtu (omega arith)))
