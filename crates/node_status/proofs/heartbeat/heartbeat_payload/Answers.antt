use Rattle.std.proofs.Common.{◌≡◌, ◌∙◌, ℕ, ◌<◌, ◌^◌, min, List, [], ◌∷◌, sym, ap, arith}
use Rattle.std.specs.Prelude.{slice_index_or}
use Rattle.std.specs.Int.{w32, to_le_bytes}
use Rattle.node_status.specs.Status.{heartbeat_payload}
use Rattle.node_status.proofs.StatusBytes.{heartbeat_encoding}
use Rattle.node_status.proofs.heartbeat.heartbeat_payload.Goals as goal

abbrev item : List ℕ → ℕ → ℕ
item bytes place = slice_index_or bytes place 0

-- the bytes of the uptime one by one, before the others
abbrev written : ℕ → ℕ → ℕ → List ℕ → List ℕ
written health mode code uptime =
    item uptime 0 ∷ item uptime 1 ∷ item uptime 2 ∷ item uptime 3 ∷ health ∷ mode ∷ code ∷ []

pub returns : goal.returns
unfolding heartbeat_payload
returns c =
    let a = c.args in
    let r = c.requires in
    let uptime = min a.seconds 0xFFFFFFFF in
    let said : c.min-uptime.result ≡ uptime = c.min-uptime.ensures in
    let four = c.to_le_bytes-seconds.ensures ∙ ap (to_le_bytes w32) said in
    let code : a.code < 2 ^ 8 = omega (arith, c.ranges.code) in
    let bytes = heartbeat_encoding a.health a.mode a.code uptime r.health r.mode code (omega arith) in
    ap (written a.health a.mode a.code) four ∙ sym bytes
