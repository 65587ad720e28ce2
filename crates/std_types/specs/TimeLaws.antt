-- The structs and the values of the standard types of time determine each other.
use Rattle.std.specs.Prelude.{◌≡◌, [], ◌∷◌, refl, false}
use Rattle.std.proofs.Common.{sym, ◌∙◌}
use Rattle.dsdl_types.specs.Stored.{IsStored}
use Rattle.dsdl_types.specs.Values.{Val, Parts}
use Rattle.dsdl_types.specs.Views.{in_row}
use Rattle.std_types.specs.Fields.{natural_back, natural_forth, parts_are}
use Rattle.std_types.specs.Held.{part}
use Rattle.std_types.specs.Times.{synchronized_timestamp_value, synchronized_timestamp_of}
use Rattle.std_types.specs.Times.{FitsSynchronizedTimestamp, synchronization_value}
use Rattle.std_types.specs.Times.{synchronization_of, FitsSynchronization}
use Rattle.std_types.specs.Schemas.{synchronized_timestamp, synchronization}
use Rattle.std_types.specs.declared.time.SynchronizedTimestamp.{SynchronizedTimestamp}
use Rattle.std_types.specs.declared.time.Synchronization.{Synchronization}

pub synchronized_timestamp_back : (x : SynchronizedTimestamp) → FitsSynchronizedTimestamp x
    → IsStored synchronized_timestamp (synchronized_timestamp_value x) × (synchronized_timestamp_of (synchronized_timestamp_value x) ≡ x)
synchronized_timestamp_back x f = ((f, tt), λ i. record { microsecond = natural_back 64 x.microsecond f i })

pub synchronized_timestamp_forth : (v : Val) → IsStored synchronized_timestamp v
    → FitsSynchronizedTimestamp (synchronized_timestamp_of v) × (synchronized_timestamp_value (synchronized_timestamp_of v) ≡ v)
synchronized_timestamp_forth v h =
    let fields = parts_are synchronized_timestamp refl v h in
    let microsecond_held = natural_forth 56 false (part 0 v) fields.1.0 in
    (microsecond_held.0, (λ i. Parts (in_row (microsecond_held.1 i ∷ []))) ∙ sym fields.0)

pub synchronization_back : (x : Synchronization) → FitsSynchronization x
    → IsStored synchronization (synchronization_value x) × (synchronization_of (synchronization_value x) ≡ x)
synchronization_back x f = (
  (f, tt),
  λ i. record {
    previous_transmission_timestamp_microsecond = natural_back 64 x.previous_transmission_timestamp_microsecond f i;
  },
)

pub synchronization_forth : (v : Val) → IsStored synchronization v
    → FitsSynchronization (synchronization_of v) × (synchronization_value (synchronization_of v) ≡ v)
synchronization_forth v h =
    let fields = parts_are synchronization refl v h in
    let previous_transmission_timestamp_microsecond_held = natural_forth 56 false (part 0 v) fields.1.0 in
    (previous_transmission_timestamp_microsecond_held.0, (λ i. Parts (in_row (previous_transmission_timestamp_microsecond_held.1 i ∷ []))) ∙ sym fields.0)
