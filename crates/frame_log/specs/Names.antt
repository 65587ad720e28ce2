-- A kept name of a bus.
use Rattle.std.specs.Prelude.{◌≤◌, ℕ, List}
use Rattle.frame_log.specs.declared.buses.Name.{Name}
use Rattle.frame_log.specs.Reads.{bus_in, Reads}

-- a name of at most 16 bytes is read as bus k
abbrev pub IsName : List (List ℕ) → ℕ → Name → Type 0
IsName buses k name = name.len ≤ 16 → Reads (bus_in buses) name.text name.len k
