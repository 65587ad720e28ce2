-- The payloads of a log are short, and there are 20,000 transfers.
use Rattle.std.proofs.Common.{◌≡◌, ℕ, zero, suc, ◌+◌, ◌*◌, ◌<◌, ◌≤◌, map, refl, arith}
use Rattle.std.specs.Prelude.{All}
use Rattle.std.specs.List.{range_with_len}
use Rattle.std.proofs.lemmas.List.Elements.{All-nil, All-cons}
use Rattle.std.proofs.lemmas.List.FromFn.{length-map-range_with_len}
use Rattle.log_gen.specs.Rules.{payload_byte, payload_of, payload_size, transfers, transfers_each}
use Rattle.log_gen.specs.Laws.{ArePayloads}

bytes_from : (number j a n : ℕ) → All (λ b. b < 256) (map (payload_byte number j) (range_with_len a n))
bytes_from number j a zero = All-nil (λ b. b < 256)
bytes_from number j a (suc n) =
    All-cons (λ b. b < 256) (payload_byte number j a) (map (payload_byte number j) (range_with_len (a + 1) n)) (omega arith) (bytes_from number j (a + 1) n)

pub are_payloads : (number : ℕ) → ArePayloads (payload_of number)
are_payloads number j =
    let size = payload_size number j in (omega (arith, length-map-range_with_len (payload_byte number j) 0 size), bytes_from number j 0 size)

pub four_each : transfers ≡ 4 * transfers_each
unfolding transfers transfers_each
four_each = refl

pub transfers_few : transfers ≤ 20000
unfolding transfers
transfers_few = omega arith
