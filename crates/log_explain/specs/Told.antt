-- What a session's fields say of a record of its key.
use Rattle.std.specs.Prelude.{ℕ, Bool, not, ◌-◌, ◌==◌, ◌&&◌, if◌then◌else◌, nat_lt, Option, Some}
use Rattle.std.specs.Prelude.{None, option_map}
use Rattle.redundancy.specs.Hear.{hear}
use Rattle.rx_session.specs.Session.{Part, Session, is_last}
use Rattle.tail_frame.specs.Chains.{KeyRecord, differs}
use Rattle.transfer_crc.specs.Crc.{crc_more}
use Rattle.log_explain.specs.Reasons.{begun_reason, no_change}
use Rattle.log_explain.specs.declared.reasons.reason.Change.{Change}
use Rattle.log_explain.specs.declared.reasons.reason.Reason.{Reason}
use Rattle.log_explain.specs.declared.reasons.reason.Reason.TheVariants.{Unknown, NoSession, Standby, Copy}
use Rattle.log_explain.specs.declared.reasons.reason.Reason.TheVariants.{Delivered, BadCrc, Taken, StrayNone}
use Rattle.log_explain.specs.declared.reasons.reason.Reason.TheVariants.{StrayTid, StrayToggle}
use Rattle.log_explain.specs.declared.reasons.reason.Silence.{Silence}

-- for how long a bus has been silent that was last heard at a moment
abbrev pub told_silence : ℕ → KeyRecord → ℕ → Silence
told_silence heard r bus = record { bus = bus; micros = r.moment - heard }

abbrev pub told_unheard : ℕ → KeyRecord → Option ℕ → Reason
told_unheard heard r None = Unknown
told_unheard heard r (Some bus) = Standby (told_silence heard r bus)

abbrev pub told_from : ℕ → KeyRecord → Option ℕ → Option Silence
told_from heard r None = None
told_from heard r (Some bus) = if bus == r.bus then None else Some (told_silence heard r bus)

abbrev pub told_change : Session → KeyRecord → Change
told_change s r = record { over = option_map (λ (p : Part). p.first) s.part; from = told_from s.heard r s.bus }

-- a running reassembly takes the record
abbrev pub told_taken : KeyRecord → Part → Reason
told_taken r p =
    if not r.end then Taken p.first
    else if crc_more p.crc r.body == 0 then Delivered p.first no_change
    else BadCrc p.first

abbrev pub told_of_part : KeyRecord → Option Part → Reason
told_of_part r None = StrayNone
told_of_part r (Some p) =
    if not (r.tid == p.tid) then StrayTid p.tid
    else if differs r.toggle p.toggle then StrayToggle p.first
    else told_taken r p

-- the record is heard, and late or not
abbrev pub told_here : ℕ → Session → KeyRecord → Bool → Reason
told_here last s r late =
    if not r.start then told_of_part r s.part
    else if not late && is_last s.last r.tid then Copy last
    else begun_reason r (told_change s r)

abbrev pub told_heard : ℕ → Session → KeyRecord → Option Bool → Reason
told_heard last s r None = told_unheard s.heard r s.bus
told_heard last s r (Some late) = told_here last s r late

-- where the session's last delivery ends on this line
abbrev pub told : ℕ → ℕ → Session → KeyRecord → Reason
told timeout last s r = told_heard last s r (hear timeout s.bus s.heard r.bus r.moment r.start)

-- a record of a source that has no session, on a port where so many have one, of so many that may
abbrev pub told_new : ℕ → ℕ → KeyRecord → Reason
told_new sessions sources r =
    if not r.start then Unknown
    else if nat_lt sessions sources then begun_reason r no_change
    else NoSession
