use Rattle.std.proofs.Common.{arith}
use Rattle.node_status.proofs.StatusBytes.{heartbeat_encoding, heartbeat_exact}
use Rattle.node_status.proofs.heartbeat.heartbeat_at.Goals as goal

pub returns-clause-exact : goal.returns-clause-exact
returns-clause-exact c =
    heartbeat_exact c.args.health c.args.mode c.args.code c.args.tick c.requires.health c.requires.mode (omega (arith, c.ranges.code)) c.requires.tick

pub returns-clause-bytes : goal.returns-clause-bytes
returns-clause-bytes c =
    heartbeat_encoding c.args.health c.args.mode c.args.code c.args.tick c.requires.health c.requires.mode (omega (arith, c.ranges.code)) c.requires.tick
