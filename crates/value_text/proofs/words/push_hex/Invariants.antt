use Rattle.std.proofs.Common.{◌≡◌, ◌++◌, string_bytes}
use Rattle.value_text.specs.Words.{hex_digits}
use Rattle.value_text.proofs.words.push_hex.Given as goal

-- the digits so far and those that are left are all
abbrev pub invariant-loop-k : goal.invariant-loop-k
invariant-loop-k l =
    string_bytes l.text ++ hex_digits l.k l.number ≡ string_bytes l.initial.text ++ hex_digits l.digits l.number
