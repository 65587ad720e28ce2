-- A session's fields and what it answers, as the definitions see them.
use Rattle.std.specs.Prelude.{ℕ, Bool, true, false, List, length, replicate, take, Option, Some}
use Rattle.std.specs.Prelude.{None}
use Rattle.tail_frame.specs.Chains.{KeyRecord}
use Rattle.tail_frame.specs.Frames.{seen, key_record}
use Rattle.tail_frame.specs.declared.frame.Frame.{Frame}
use Rattle.transfer_crc.specs.Crc.{crc_more}
use Rattle.rx_session.specs.Session.{
  Session as Kept,
  Part as KeptPart,
  Outcome as Answer,
  Ignored as AnswerIgnored,
  Held as AnswerHeld,
  BadCrc as AnswerBadCrc,
  Delivered as AnswerDelivered,
  accept,
  advance,
}
use Rattle.rx_session.specs.declared.session.Part.{Part}
use Rattle.rx_session.specs.declared.session.Session.{Session}
use Rattle.rx_session.specs.declared.outcome.Outcome.{Outcome}
use Rattle.rx_session.specs.declared.outcome.Outcome.TheVariants.{Ignored, Held, BadCrc, Delivered}
use Rattle.rx_session.specs.declared.outcome.Step as step

-- the record of its key that a frame is
abbrev pub record_of : Frame → KeyRecord
record_of frame = key_record (seen frame)

abbrev pub part_of : Part → KeptPart
part_of p = record { tid = p.tid; toggle = p.toggle; first = p.first; moment = p.moment; taken = p.taken; crc = p.crc }

abbrev pub some_part : Option Part → Option KeptPart
some_part None = None
some_part (Some p) = Some (part_of p)

-- what a session keeps
abbrev pub kept : {S : Type 0} → Session S → Kept
kept s = record { bus = s.force.bus; heard = s.force.heard; last = s.last; part = some_part s.part; buffer = s.buffer }

-- a session that was just opened, with this extent in bytes
abbrev pub fresh : ℕ → Kept
fresh extent = record { bus = None; heard = 0; last = None; part = None; buffer = replicate extent 0 }

-- what an outcome says
abbrev pub outcome_answer : Outcome → Answer
outcome_answer Ignored = AnswerIgnored
outcome_answer Held = AnswerHeld
outcome_answer BadCrc = AnswerBadCrc
outcome_answer (Delivered d) = AnswerDelivered d.bus d.priority d.tid d.first d.last d.moment d.payload.now

-- what a step on a record says, with this payload of a whole transfer and this buffer of the
-- session behind it
abbrev pub step_told : List ℕ → List ℕ → KeyRecord → step.Step → Answer
step_told whole buffer r step.TheVariants.Ignored = AnswerIgnored
step_told whole buffer r step.TheVariants.Held = AnswerHeld
step_told whole buffer r step.TheVariants.BadCrc = AnswerBadCrc
step_told whole buffer r step.TheVariants.Whole = AnswerDelivered r.bus r.priority r.tid r.line r.line r.moment whole
step_told whole buffer r (step.TheVariants.Delivered b) = AnswerDelivered r.bus r.priority r.tid b.first r.line b.moment (take b.count buffer)

-- the same with the payload of a whole transfer lent from its frame: the body, cut to the length of
-- the buffer
abbrev pub step_answer : List ℕ → KeyRecord → step.Step → Answer
step_answer buffer r step = step_told (take (length buffer) r.body) buffer r step

-- whether a step says that its frame is a whole transfer
abbrev pub says_whole : step.Step → Bool
says_whole step.TheVariants.Ignored = false
says_whole step.TheVariants.Held = false
says_whole step.TheVariants.BadCrc = false
says_whole step.TheVariants.Whole = true
says_whole (step.TheVariants.Delivered b) = false

-- the session after a frame, and what is answered
abbrev pub accepted : ℕ → Kept → Frame → Kept × Answer
accepted timeout s frame = accept crc_more 0xFFFF timeout s (record_of frame)

-- the same where the bytes of a whole transfer stay in its frame
abbrev pub stepped : ℕ → Kept → Frame → Kept × Answer
stepped timeout s frame = advance crc_more 0xFFFF timeout s (record_of frame)
