-- The bytes of all sessions' buffers are those that a log makes a table hold.
use Rattle.std.proofs.Common.{◌≡◌, ℕ, ◌-◌, ◌*◌, ◌^◌, ◌<◌, ◌≤◌, List, [], ◌∷◌, length, min, arith}
use Rattle.std.proofs.Math.Nat.{mul-le-mul_left, mul-le-mul_right}
use Rattle.transfer_crc.specs.Crc.{crc_of}
use Rattle.rx_table.specs.Keys.{KeyedFrame}
use Rattle.rx_table.specs.Ports.{Port, PortState, ports_of, held_of, held, bound}
use Rattle.rx_table.specs.Laws.{EachPort}
use Rattle.rx_table.specs.Table.{IsPort, IsTable, StandsFor}
use Rattle.rx_table.proofs.Lengths.{held_within}

product : (a b : ℕ) → a ≤ 128 → b ≤ 2 ^ 29 → a * b ≤ 2 ^ 36
product a b l m = let x = mul-le-mul_right b l in let y = mul-le-mul_left 128 m in omega arith

bound-small : (ports : List Port) → EachPort IsPort ports → bound ports ≤ length ports * 2 ^ 36
bound-small [] x = omega arith
bound-small (p ∷ ports) x =
    let one = product p.sources p.extent x.0.few x.0.small in
    let more = bound-small ports x.1 in
    omega arith

bound-fits : (ports : List Port) → IsTable ports → bound ports < 2 ^ 64
bound-fits ports t = let l = bound-small ports t.each in let n = t.few in omega arith

pub held-is : (timeout sum : ℕ) (log : List KeyedFrame) (ps : List PortState) → StandsFor timeout log ps → sum ≡ min (held_of ps) (2 ^ 64 - 1) → sum ≡ held (ports_of ps) log
held-is timeout sum log ps st e =
    let same = held_within.held_is crc_of timeout log ps st.sessions in
    let within = held_within.within (ports_of ps) log in
    let fits = bound-fits (ports_of ps) st.table in
    omega arith

pub held-within : (timeout sum : ℕ) (log : List KeyedFrame) (ps : List PortState) → StandsFor timeout log ps → sum ≡ min (held_of ps) (2 ^ 64 - 1) → sum ≤ bound (ports_of ps)
held-within timeout sum log ps st e =
    let same = held-is timeout sum log ps st e in
    let within = held_within.within (ports_of ps) log in
    omega arith
