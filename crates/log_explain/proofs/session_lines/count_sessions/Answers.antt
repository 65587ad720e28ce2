use Rattle.std.proofs.Common.{◌≡◌, [], drop, length, ◌≤◌, ap, arith}
use Rattle.std.proofs.Math.ListN.{drop_of_length-le}
use Rattle.log_explain.specs.SessionLines.{count_in}
use Rattle.log_explain.proofs.session_lines.count_sessions.Goals as goal

pub returns : goal.returns
returns g c =
    let items = c.args.table.now.ports.items in
    let past : length items ≤ c.loop-place.place = omega arith in
    let none : drop c.loop-place.place items ≡ [] = drop_of_length-le items past in
    let zero_is : count_in (drop c.loop-place.place items) ≡ 0 = ap count_in none in
    omega (arith, zero_is, c.loop-place.invariant.0, c.loop-place.invariant.1)
