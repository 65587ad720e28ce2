-- How a session fared.
use Rattle.std.specs.Prelude.{ℕ, Option}
use Rattle.rx_table.specs.Keys.{SessionKey}
use Rattle.log_explain.specs.declared.tally.Tally.{Tally}

-- a session: its key, the bus that is active, and what is counted of its lines
pub record Session : Type 0 where
  pub key : SessionKey
  pub bus : Option ℕ
  pub tally : Tally
