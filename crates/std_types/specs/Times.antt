-- The values of the standard types of time, and what the structs hold of values.
use Rattle.std.specs.Prelude.{◌^◌, ◌<◌, [], ◌∷◌}
use Rattle.dsdl_types.specs.Values.{Parts, Val}
use Rattle.dsdl_types.specs.Views.{in_row}
use Rattle.std_types.specs.Held.{natural, natural_value, part}
use Rattle.std_types.specs.declared.time.SynchronizedTimestamp.{SynchronizedTimestamp}
use Rattle.std_types.specs.declared.time.Synchronization.{Synchronization}

-- time.SynchronizedTimestamp.1.0
abbrev pub synchronized_timestamp_value : SynchronizedTimestamp → Val
synchronized_timestamp_value x = Parts (in_row (natural_value x.microsecond ∷ []))

abbrev pub synchronized_timestamp_of : Val → SynchronizedTimestamp
synchronized_timestamp_of v = record { microsecond = natural 64 (part 0 v) }

abbrev pub FitsSynchronizedTimestamp : SynchronizedTimestamp → Type 0
FitsSynchronizedTimestamp x = x.microsecond < 2 ^ 64

-- time.Synchronization.1.0
abbrev pub synchronization_value : Synchronization → Val
synchronization_value x = Parts (in_row (natural_value x.previous_transmission_timestamp_microsecond ∷ []))

abbrev pub synchronization_of : Val → Synchronization
synchronization_of v = record { previous_transmission_timestamp_microsecond = natural 64 (part 0 v) }

abbrev pub FitsSynchronization : Synchronization → Type 0
FitsSynchronization x = x.previous_transmission_timestamp_microsecond < 2 ^ 64
