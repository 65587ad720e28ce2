-- A record as it is read: the frame that it is, or the first rule that it breaks.
use Rattle.std.specs.Prelude.{ℕ, ◌-◌, length, take, Option, Some, None, Result, Ok, Err}
use Rattle.can_id.specs.Identifiers.{ident_of}
use Rattle.can_id.specs.declared.ident.Ident.{Ident}
use Rattle.tail_frame.specs.Frames.{FrameOf, broken_by, last_byte, tail_of}
use Rattle.tail_frame.specs.declared.discard.Discard.{Discard}
use Rattle.tail_frame.specs.declared.discard.Discard.TheVariants.{Identifier, Empty}
use Rattle.tail_frame.specs.declared.logged.Record.{Record}

-- a frame, or the rule that it breaks, if it breaks one
abbrev pub frame_or : FrameOf → Option Discard → Result FrameOf Discard
frame_or f None = Ok f
frame_or f (Some why) = Err why

-- the last data byte is the tail; without data there is none
abbrev pub read_at : Record → Ident → Option ℕ → Result FrameOf Discard
read_at rec ident None = Err Empty
read_at rec ident (Some byte) = let size = length rec.bytes - 1 in
    frame_or (record {
      line = rec.line;
      moment = rec.moment;
      bus = rec.bus;
      ident = ident;
      tail = tail_of byte;
      body = take size rec.bytes;
    }) (broken_by ident (tail_of byte) size)

abbrev pub read_by : Record → Option Ident → Result FrameOf Discard
read_by rec None = Err Identifier
read_by rec (Some ident) = read_at rec ident (last_byte rec.bytes)

-- the frame that a record is, or the first rule that it breaks
abbrev pub read_of : Record → Result FrameOf Discard
read_of rec = read_by rec (ident_of rec.ident)
