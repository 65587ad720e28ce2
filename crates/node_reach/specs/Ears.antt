-- What a node that listens has heard, and what it tells of a record.
use Rattle.std.specs.Prelude.{◌≡◌, ◌≤◌, ℕ, List, [], ◌∷◌, Option, Some, None, option_map, ⊤}
use Rattle.rx_table.specs.Heard.{frames}
use Rattle.rx_table.specs.Places.{table_answer}
use Rattle.rx_table.specs.Ports.{PortState}
use Rattle.rx_table.specs.Table.{StandsFor, keyed}
use Rattle.rx_table.specs.Views.{states_of, subscriptions}
use Rattle.rx_table.specs.declared.fed.Met.{Met}
use Rattle.tail_frame.specs.Frames.{FrameOf, key_record, seen}
use Rattle.tail_frame.specs.declared.logged.Record.{Record}
use Rattle.node_reach.specs.PortTypes.{type_schema}
use Rattle.node_reach.specs.Told.{answered}
use Rattle.node_reach.specs.Transfers.{Transfer, Ears, transfer_at}
use Rattle.node_reach.specs.declared.ear.Ear.{Ear}
use Rattle.node_reach.specs.declared.ear.Heard.{Heard}

abbrev pub states_in : Ear → List PortState
states_in ear = states_of type_schema ear.table

-- no record is after this moment
abbrev pub AllUpTo : ℕ → List Record → Type 0
AllUpTo moment [] = ⊤
AllUpTo moment (rec ∷ past) = (rec.moment ≤ moment) × AllUpTo moment past

-- it listens with these ears, and stands for these records
pub record Hears (ears : Ears) (ear : Ear) (past : List Record) : Type 0 where
  pub own : ear.own ≡ ears.own
  pub timeout : ear.table.timeout ≡ ears.timeout
  pub ports : subscriptions type_schema ear.table ≡ ears.ports
  pub sessions : StandsFor ears.timeout (frames ears.own past) (states_in ear)
  pub moments : AllUpTo ear.latest past

-- an ear that takes a record stands for it too
abbrev pub Takes : Record → Ear → Ear → Type 0
Takes rec old new = (ears : Ears) (past : List Record) → Hears ears old past → Hears ears new (rec ∷ past)

-- this is the transfer that ends at the next record
abbrev pub Tells : Ear → Record → Option Transfer → Type 0
Tells ear rec t = (ears : Ears) (past : List Record) → Hears ears ear past → t ≡ transfer_at ears rec past

abbrev pub told_of : Ear → Option FrameOf → Met → Option Transfer
told_of ear None met = None
told_of ear (Some f) met = answered (keyed f) (table_answer (states_in ear) (key_record f) met)

-- the transfer that the ear tells of a record, by what that came to
abbrev pub told : Ear → Heard → Option Transfer
told ear heard = told_of ear (option_map seen heard.frame) heard.met
