-- By what definitions clash.
use Rattle.std.specs.Prelude.{ℕ, List, slice_index_or, min}
use Rattle.dsdl_clash.specs.Clashes.{Clash, versions_clash, ports_clash}
use Rattle.dsdl_clash.specs.declared.clash.By.{By}
use Rattle.dsdl_clash.specs.declared.clash.By.TheVariants as by

abbrev pub clash_of : By → Clash
clash_of by.Version = versions_clash
clash_of by.Port = ports_clash

-- A number before which no definition clashes with that of another number, by the number of the
-- first definition of each one's full name.
abbrev pub first_rival : By → List ℕ → ℕ → ℕ
first_rival by.Version names at = min (slice_index_or names at 0) at
first_rival by.Port names at = 0
