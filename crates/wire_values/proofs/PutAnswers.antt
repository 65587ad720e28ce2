-- Bits for which there is room are put
use Rattle.std.proofs.Common.{◌≡◌, ◌∙◌, ℕ, ◌+◌, ◌*◌, ◌<◌, true, false, List, length, sym, ap, arith}
use Rattle.std.proofs.lemmas.Bool.{false≢true}
use Rattle.std.specs.Prelude.{Result, Ok, Err, OnOk, OnErr}
use Rattle.std.specs.Result.{is_err}
use Rattle.cy_bits.specs.Bits.{bits, bits_of}
use Rattle.cy_bits.specs.Put.{put_bits}
use Rattle.cy_bits.proofs.BitFacts.{length_bits_of}
use Rattle.wire_values.specs.Puts.{HasRoom, Puts}

pub never_full : {T E : Type 0} (r : Result T E) → is_err r ≡ true → (out : List ℕ) (p w v : ℕ) → HasRoom out p (bits_of w v) → OnErr r (8 * length out < p + w) → ⊥
never_full (Ok x) e out p w v room full = false≢true e
never_full (Err d) e out p w v room full = absurd (omega (arith, room.room, full, length_bits_of w v))

pub put_done : {T E : Type 0} (r : Result T E) → is_err r ≡ false → (old new : List ℕ) (p q w v : ℕ) → OnOk r (q ≡ p + w) → OnOk r (bits new ≡ put_bits (bits old) p (bits_of w v)) → Puts old p new q (bits_of w v)
put_done (Ok x) e old new p q w v place written = record { place = place ∙ ap (λ n. p + n) (sym (length_bits_of w v)); written = written }
put_done (Err d) e old new p q w v place written = absurd (false≢true (sym e))
