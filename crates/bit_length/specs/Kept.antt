-- What is kept of runs beside them.
use Rattle.std.specs.Prelude.{◌≡◌, ℕ, ◌<◌, ◌≤◌, ◌^◌, List, length}
use Rattle.bit_length.specs.declared.kept.Kept.TheInside.{Inside}
use Rattle.bit_length.specs.declared.runs.Owned.{Owned}
use Rattle.bit_length.specs.declared.runs.Owned.TheVariants as owned
use Rattle.bit_length.specs.Ascending.{Ascend}
use Rattle.bit_length.specs.Lengths.{Has, IsGreatest, IsLeast}
use Rattle.bit_length.specs.Moved.{AreMultiples}

-- what is kept is true of the runs
pub record IsKept (kept : Inside) : Type 0 where
  pub least : IsLeast (Has kept.runs) kept.least
  pub greatest : IsGreatest (Has kept.runs) kept.greatest
  pub short : kept.greatest ≤ 2 ^ 32
  pub count : kept.count ≡ length kept.runs
  pub ascending : Ascend kept.runs
  pub positive : 0 < kept.divisor
  pub divides : AreMultiples (Has kept.runs) kept.divisor

-- the members of runs, whoever has them
abbrev pub members_in : Owned → List ℕ
members_in (owned.Alone ns) = ns
members_in (owned.Together ns) = ns
