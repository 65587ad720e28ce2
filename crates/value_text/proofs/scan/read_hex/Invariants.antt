use Rattle.std.proofs.Common.{◌≡◌, ℕ, ◌<◌, ◌*◌, ◌-◌, ◌^◌, ◌/◌, ◌++◌, List, drop}
use Rattle.value_text.specs.Words.{hex_digits}
use Rattle.value_text.proofs.scan.read_hex.Given as goal

-- the digits so far are read
abbrev pub invariant-loop : goal.invariant-loop
invariant-loop l = record {
  fits : l.number < 2 ^ (4 * l.counter);
  reads : (n : ℕ) (rest : List ℕ) → n < 2 ^ (4 * l.digits) → drop l.initial.at l.line ≡ hex_digits l.digits n ++ rest →
      (l.number ≡ n / 2 ^ (4 * (l.digits - l.counter))) × (drop l.at l.line ≡ hex_digits (l.digits - l.counter) n ++ rest);
}
