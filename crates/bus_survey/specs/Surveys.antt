-- What is kept of the records of a log.
use Rattle.std.specs.Prelude.{◌≡◌, ℕ, List, length}
use Rattle.tail_frame.specs.declared.logged.Record.{Record}
use Rattle.bus_survey.specs.Buses.{discarded, bus_counts}
use Rattle.bus_survey.specs.Counts.{AreShort}
use Rattle.bus_survey.specs.Flows.{frames}
use Rattle.bus_survey.specs.Ranks.{IsTableOf}
use Rattle.bus_survey.specs.Sources.{AreSources}
use Rattle.bus_survey.specs.declared.surveying.Surveying.{Surveying}

-- a survey of buses with these names heard these records
pub record Surveys (names : List (List ℕ)) (now : Surveying) (past : List Record) : Type 0 where
  pub names_are : now.names ≡ names
  pub buses_are : now.buses.counts ≡ bus_counts past
  pub flows_are : IsTableOf (frames past) now.flows.counts.entries
  pub sources_are : AreSources (frames past) now.sources.heard
  pub records_are : now.records ≡ length past
  pub discarded_are : now.discarded ≡ discarded past
  pub short : AreShort (frames past)
