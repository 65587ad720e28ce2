-- What one frame does to a session, as a function of the session's fields.
use Rattle.std.specs.Prelude.{ℕ, Bool, false, not, ◌&&◌, ◌==◌, ◌+◌, ◌-◌, ◌^◌, min, if◌then◌else◌}
use Rattle.std.specs.Prelude.{List, length, take, Option, Some, None}
use Rattle.cy_bits.specs.Put.{put_at}
use Rattle.tail_frame.specs.Chains.{KeyRecord, differs}
use Rattle.redundancy.specs.Hear.{hear}

-- a running reassembly: its transfer-ID, the toggle that is expected next, the line and the moment
-- of its first frame, the number of bytes taken and their CRC
pub record Part : Type 0 where
  pub tid : ℕ
  pub toggle : Bool
  pub first : ℕ
  pub moment : ℕ
  pub taken : ℕ
  pub crc : ℕ

-- a session: the bus in force and the moment last heard, the transfer-ID last delivered, the
-- running reassembly, and the buffer, whose length is the extent in bytes
pub record Session : Type 0 where
  pub bus : Option ℕ
  pub heard : ℕ
  pub last : Option ℕ
  pub part : Option Part
  pub buffer : List ℕ

-- what is answered; a delivery has the bus, transfer-ID, line and moment of its first frame, and
-- the priority and the line of its last one
pub data Outcome : Type 0 where
  Ignored : Outcome
  Held : Outcome
  BadCrc : Outcome
  Delivered : (bus priority tid first last moment : ℕ) → (payload : List ℕ) → Outcome

-- a count of bytes, which stays at the greatest 64-bit number
abbrev pub capped : ℕ → ℕ
capped n = min n (2 ^ 64 - 1)

-- whether this is the transfer-ID last delivered
abbrev pub is_last : Option ℕ → ℕ → Bool
is_last None tid = false
is_last (Some t) tid = t == tid

-- whether a record that came to this outcome is a whole transfer, which its one frame begins and
-- ends
abbrev pub is_whole : KeyRecord → Outcome → Bool
is_whole r Ignored = false
is_whole r Held = false
is_whole r BadCrc = false
is_whole r (Delivered bus priority tid first last moment payload) = r.start && r.end

-- a session after a record, but with this buffer where the record is a whole transfer
abbrev pub in_frame : List ℕ → KeyRecord → Session × Outcome → Session × Outcome
in_frame buffer r after = (
  record {
    bus = after.0.bus;
    heard = after.0.heard;
    last = after.0.last;
    part = after.0.part;
    buffer = if is_whole r after.1 then buffer else after.0.buffer;
  },
  after.1,
)

-- a buffer with these bytes in front, where no reassembly runs
abbrev pub put_idle : Option Part → List ℕ → List ℕ → List ℕ
put_idle None buffer bytes = put_at buffer 0 bytes
put_idle (Some part) buffer bytes = buffer

-- a session with the bytes of a record in front of its buffer, where no reassembly runs
abbrev pub with_body : Session → KeyRecord → Session
with_body s r = record { bus = s.bus; heard = s.heard; last = s.last; part = s.part; buffer = put_idle s.part s.buffer r.body }

-- `crc_more sum bytes` is the CRC of more bytes after those with this CRC, and `crc_start` that of
-- no bytes
module _ (crc_more : ℕ → List ℕ → ℕ) (crc_start timeout : ℕ) where
  -- a start frame begins reassembly anew; one that is also an end is delivered at once
  abbrev pub begin : Session → KeyRecord → Session × Outcome
  begin s r =
      let put = put_at s.buffer 0 r.body in
      if r.end
      then (
        record { bus = s.bus; heard = s.heard; last = Some r.tid; part = None; buffer = put },
        Delivered r.bus r.priority r.tid r.line r.line r.moment (take (length r.body) put),
      )
      else (
        record {
          bus = s.bus;
          heard = s.heard;
          last = s.last;
          part = Some (record { tid = r.tid; toggle = not r.toggle; first = r.line; moment = r.moment; taken = capped (length r.body); crc = crc_more crc_start r.body });
          buffer = put;
        },
        Held,
      )

  -- the end of a running reassembly: the CRC over all bytes decides. A payload is the bytes without
  -- the last two, as far as the buffer reaches
  abbrev pub finish : Session → Part → KeyRecord → Session × Outcome
  finish s p r =
      let put = put_at s.buffer p.taken r.body in
      if crc_more p.crc r.body == 0
      then (
        record { bus = s.bus; heard = s.heard; last = Some p.tid; part = None; buffer = put },
        Delivered r.bus r.priority p.tid p.first r.line p.moment (take (capped (p.taken + length r.body) - 2) put),
      )
      else (record { bus = s.bus; heard = s.heard; last = s.last; part = None; buffer = put }, BadCrc)

  -- a frame that the running reassembly expects
  abbrev pub take_in : Session → Part → KeyRecord → Session × Outcome
  take_in s p r =
      if r.end
      then finish s p r
      else (
        record {
          bus = s.bus;
          heard = s.heard;
          last = s.last;
          part = Some (record { tid = p.tid; toggle = not r.toggle; first = p.first; moment = p.moment; taken = capped (p.taken + length r.body); crc = crc_more p.crc r.body });
          buffer = put_at s.buffer p.taken r.body;
        },
        Held,
      )

  -- a frame that isn't a start: taken exactly where its transfer-ID and its toggle are those
  -- expected
  abbrev pub go_on : Session → Option Part → KeyRecord → Session × Outcome
  go_on s None r = (s, Ignored)
  go_on s (Some p) r = if (r.tid == p.tid) && not (differs r.toggle p.toggle) then take_in s p r else (s, Ignored)

  -- a frame that is heard: a start frame that isn't late and has the transfer-ID last delivered is
  -- ignored
  abbrev pub on_heard : Session → Bool → KeyRecord → Session × Outcome
  on_heard s late r =
      if r.start
      then (if not late && is_last s.last r.tid then (s, Ignored) else begin s r)
      else go_on s s.part r

  -- after the answer of the redundant buses: a frame elsewhere changes nothing
  abbrev pub after_hear : Session → Option Bool → KeyRecord → Session × Outcome
  after_hear s None r = (s, Ignored)
  after_hear s (Some late) r = on_heard (record { bus = Some r.bus; heard = r.moment; last = s.last; part = s.part; buffer = s.buffer }) late r

  -- the session after a frame of its key, and what is answered
  abbrev pub accept : Session → KeyRecord → Session × Outcome
  accept s r = after_hear s (hear timeout s.bus s.heard r.bus r.moment r.start) r

  -- the same, but the bytes of a whole transfer stay in its frame alone
  abbrev pub advance : Session → KeyRecord → Session × Outcome
  advance s r = in_frame s.buffer r (accept s r)
