-- What a `Force` answers at one frame, and the records that it stands for.
use Rattle.std.specs.Prelude.{◌≡◌, ℕ, Bool, true, false, ◌&&◌, ◌==◌, ◌+◌, nat_lt, unwrap_or}
use Rattle.std.specs.Prelude.{if◌then◌else◌, List, Option, Some, None}
use Rattle.tail_frame.specs.Chains.{KeyRecord}
use Rattle.redundancy.specs.Force.{force, heard, last_heard, late}
use Rattle.redundancy.specs.declared.force.Force.{Force}
use Rattle.redundancy.specs.declared.force.Heard.{Heard}
use Rattle.redundancy.specs.declared.force.Heard.TheVariants.{Elsewhere, Here}

-- None where a frame is elsewhere, else whether it is late; from the bus in force and the moment
-- last heard
abbrev pub hear : ℕ → Option ℕ → ℕ → ℕ → ℕ → Bool → Option Bool
hear timeout None heard bus moment start = if start then Some false else None
hear timeout (Some c) heard bus moment start =
    if c == bus then Some (nat_lt (heard + timeout) moment)
    else if start && nat_lt (heard + timeout) moment then Some true else None

-- the answer as an option: None elsewhere, else whether the frame is late
abbrev pub lateness_of : Heard → Option Bool
lateness_of Elsewhere = None
lateness_of (Here late) = Some late

-- what is kept after a frame with that answer: a frame elsewhere changes nothing
abbrev pub force_then : Force → ℕ → ℕ → Option Bool → Force
force_then f bus moment None = f
force_then f bus moment (Some late) = record { bus = Some bus; heard = moment }

-- what the records say of one more record: None where it isn't heard, else whether it is late
abbrev pub answer_at : ℕ → KeyRecord → List KeyRecord → Option Bool
answer_at timeout r past = if heard timeout r past then Some (late timeout r past) else None

-- what a `Force` keeps is what these records of a key give: the bus in force, and the moment last
-- heard or 0
pub record ForceStands (timeout : ℕ) (past : List KeyRecord) (f : Force) : Type 0 where
  pub bus : f.bus ≡ force timeout past
  pub heard : f.heard ≡ unwrap_or (last_heard timeout past) 0

-- the frame of a call, as a record of the key
pub record IsFrameOf (bus moment : ℕ) (start : Bool) (r : KeyRecord) : Type 0 where
  pub bus_is : r.bus ≡ bus
  pub moment_is : r.moment ≡ moment
  pub start_is : r.start ≡ start
