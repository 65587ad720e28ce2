-- A stamp that was read has 56 bits.
use Rattle.std.proofs.Common.{◌≡◌, ℕ, ◌/◌, ◌^◌, ◌<◌, List, Some, pos, subst, arith}
use Rattle.cy_bits.specs.Bits.{bits, number}
use Rattle.cy_bits.proofs.BitPlaces.{number_below}
use Rattle.std.proofs.Common.{take}
use Rattle.dsdl_types.specs.Schemas.{extent_of}
use Rattle.dsdl_types.specs.Values.{Val, Num, Parts, Empty, More}
use Rattle.wire_values.specs.Payloads.{payload_value}
use Rattle.std_types.specs.Times.{synchronization_of}
use Rattle.std_types.specs.Types.{schema_of}
use Rattle.std_types.specs.declared.std_name.StdName.TheVariants.{Synchronization}

-- the stamp of a value
abbrev pub stamp_of : Val → ℕ
stamp_of v = (synchronization_of v).previous_transmission_timestamp_microsecond

pub stamp_low : (payload : List ℕ) (v : Val) → Some v ≡ payload_value (schema_of Synchronization) payload → stamp_of v < 2 ^ 56
unfolding payload_value schema_of
stamp_low payload v e =
    let b = bits (take (extent_of (schema_of Synchronization) / 8) payload) in
    let n : ℕ = number (take 56 b) in
    let low : n < 2 ^ 56 = number_below 56 b in
    let w : Val = Parts (More (Num (pos n)) Empty) in
    let is : w ≡ v = cc in
    subst (λ (x : Val). stamp_of x < 2 ^ 56) is (omega arith)
