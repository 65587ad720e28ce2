-- The bytes of hex.
use Rattle.std.proofs.Common.{◌≡◌, ◌∙◌, ◌<◌, ◌^◌, ℕ, List, Ok, arith, get_or, length, subst, sym}
use Rattle.std.specs.List.{All}
use Rattle.std.proofs.lemmas.Grind.{get_or_default_zero}
use Rattle.hex.specs.Hex.{decode_sized}
use Rattle.hex.proofs.HexLemmas.{decode_of-ok, decode_sized-ok, decode_sized-twice}

-- what decodes into room for n bytes is n bytes
pub decode_sized-bytes : (s : List ℕ) (n : ℕ) (bytes : List ℕ) → decode_sized s n ≡ Ok bytes → (length bytes ≡ n) × All (λ b. b < 2 ^ 8) bytes
decode_sized-bytes s n bytes h =
    let len = decode_sized-ok s n bytes h in
    let found = decode_of-ok s bytes (sym (decode_sized-twice s n len) ∙ h) in
    (omega (arith, len, found.2), λ k d less. let low : get_or bytes k 0 < 2 ^ 8 = found.3 k in subst (λ b. b < 2 ^ 8) (sym (get_or_default_zero bytes k d less)) low)
