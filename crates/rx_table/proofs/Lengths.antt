-- How much a table holds.
use Rattle.std.proofs.Common.{◌≡◌, ◌∙◌, ℕ, ◌+◌, ◌*◌, ◌≤◌, List, [], ◌∷◌, length, refl, ap, arith}
use Rattle.std.proofs.Math.Nat.{mul-le-mul_right}
use Rattle.rx_table.specs.Keys.{KeyedFrame}
use Rattle.rx_table.specs.Admitted.{admitted}
use Rattle.rx_table.specs.Ports.{Port, Entry, PortState, sources_of, ports_of, EachStands, TableStands, buffered, held_of, held, bound}
use Rattle.rx_table.specs.Laws.{HeldWithin}
use Rattle.rx_table.proofs.Admissions.{admitted_few}

buffered_is : (crc : List ℕ → ℕ) (timeout : ℕ) (p : Port) (log : List KeyedFrame) (es : List Entry) → EachStands crc timeout p log es → buffered es ≡ length (sources_of es) * p.extent
buffered_is crc timeout p log [] x = grind arith
buffered_is crc timeout p log (e ∷ es) x = let size = x.1 in let more = buffered_is crc timeout p log es x.2 in grind arith

held_is : (crc : List ℕ → ℕ) (timeout : ℕ) (log : List KeyedFrame) (ps : List PortState) → TableStands crc timeout log ps → held_of ps ≡ held (ports_of ps) log
held_is crc timeout log [] x = refl
held_is crc timeout log (p ∷ ps) x =
    ap (λ n. n + held_of ps) (buffered_is crc timeout p.port log p.entries x.0.sessions ∙ ap (λ ss. length ss * p.port.extent) x.0.sources_are)
    ∙ ap (λ n. length (admitted p.port.kind p.port.port p.port.sources log) * p.port.extent + n) (held_is crc timeout log ps x.1)

within : (ports : List Port) (log : List KeyedFrame) → held ports log ≤ bound ports
within [] log = omega arith
within (p ∷ ps) log = let one = mul-le-mul_right p.extent (admitted_few p.kind p.port p.sources log) in let more = within ps log in omega (arith, one, more)

pub held_within : HeldWithin
held_within = record { admitted_few = admitted_few; held_is = held_is; within = within }
