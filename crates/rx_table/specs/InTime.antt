-- That no session of a table heard anything later than a moment can be true in one way alone.
use Rattle.std.specs.Prelude.{ℕ, List, [], ◌∷◌}
use Rattle.std.specs.Coded.{×_prop, Unit-prop, le_prop}
use Rattle.rx_table.specs.Ports.{Entry, PortState}
use Rattle.rx_table.specs.Table.{EntriesHeard, HeardBy}

EntriesHeard-prop : (now : ℕ) (es : List Entry) → IsProp (EntriesHeard now es)
EntriesHeard-prop now [] = Unit-prop
EntriesHeard-prop now (e ∷ es) = ×_prop le_prop (EntriesHeard-prop now es)

pub HeardBy-prop : (now : ℕ) (ps : List PortState) → IsProp (HeardBy now ps)
HeardBy-prop now [] = Unit-prop
HeardBy-prop now (p ∷ ps) = ×_prop (EntriesHeard-prop now p.entries) (HeardBy-prop now ps)
