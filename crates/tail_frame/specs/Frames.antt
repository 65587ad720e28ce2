-- The frames that records are.
use Rattle.std.specs.Prelude.{◌+◌, ◌-◌, ◌*◌, ◌^◌, ◌==◌, ◌&&◌, not, nat_lt, ℕ, Bool, true}
use Rattle.std.specs.Prelude.{false, if◌then◌else◌, Option, Some, None, is_some}
use Rattle.std.specs.Prelude.{List, length, take, slice_get}
use Rattle.std.specs.Option.{option_and_then}
use Rattle.can_id.specs.Identifiers.{field, flag, is_set, ident_of, priority_of}
use Rattle.can_id.specs.declared.ident.Ident.{Ident}
use Rattle.can_id.specs.declared.ident.Ident.TheVariants as ident
use Rattle.tail_frame.specs.Chains.{KeyRecord}
use Rattle.tail_frame.specs.declared.discard.Discard.{Discard}
use Rattle.tail_frame.specs.declared.discard.Discard.TheVariants.{Identifier, Empty, Toggle}
use Rattle.tail_frame.specs.declared.discard.Discard.TheVariants.{Anonymous, Short, Bare}
use Rattle.tail_frame.specs.declared.frame.Frame.{Frame}
use Rattle.tail_frame.specs.declared.logged.Record.{Record}
use Rattle.tail_frame.specs.declared.tail.Tail.{Tail}

-- the tail that a byte says
abbrev pub tail_of : ℕ → Tail
tail_of byte = record { start = is_set byte 7; end = is_set byte 6; toggle = is_set byte 5; tid = field byte 0 5 }

-- the byte of a tail
abbrev pub tail_byte : Tail → ℕ
tail_byte tail = flag tail.start * 2 ^ 7 + flag tail.end * 2 ^ 6 + flag tail.toggle * 2 ^ 5 + tail.tid

-- a record whose identifier and tail are those of a frame; the body is the bytes before the tail
pub record FrameOf : Type 0 where
  pub line : ℕ
  pub moment : ℕ
  pub bus : ℕ
  pub ident : Ident
  pub tail : Tail
  pub body : List ℕ

-- what a frame is without its place in memory
abbrev pub seen : Frame → FrameOf
seen f = record { line = f.line; moment = f.moment; bus = f.bus; ident = f.ident; tail = f.tail; body = f.body.now }

-- whether the sender has no node-ID
abbrev pub is_anonymous : Ident → Bool
is_anonymous (ident.Message priority subject source) = false
is_anonymous (ident.Anonymous priority subject pseudo) = true
is_anonymous (ident.Service priority is_request service destination source) = false

-- whether the frame is a whole transfer
abbrev pub is_whole : Tail → Bool
is_whole tail = tail.start && tail.end

-- the first rule that a frame with so many bytes before the tail breaks, if it breaks one: a start
-- has toggle 1, an anonymous frame is a whole transfer, each frame but the last has at least 7
-- bytes, and only a whole transfer may have none
abbrev pub broken_by : Ident → Tail → ℕ → Option Discard
broken_by ident tail size =
    if tail.start && not tail.toggle then Some Toggle
    else if is_anonymous ident && not (is_whole tail) then Some Anonymous
    else if not tail.end && nat_lt size 7 then Some Short
    else if not (is_whole tail) && (size == 0) then Some Bare
    else None

-- whether such a frame is discarded
abbrev pub is_discarded : Ident → Tail → ℕ → Bool
is_discarded ident tail size = is_some (broken_by ident tail size)

-- the frame that a record with this identifier and this last data byte is
abbrev pub framed : Record → Ident → ℕ → Option FrameOf
framed rec ident byte = let size = length rec.bytes - 1 in
    if is_discarded ident (tail_of byte) size then None else Some (record {
      line = rec.line;
      moment = rec.moment;
      bus = rec.bus;
      ident = ident;
      tail = tail_of byte;
      body = take size rec.bytes;
    })

-- the last data byte
abbrev pub last_byte : List ℕ → Option ℕ
last_byte bytes = slice_get bytes (length bytes - 1)

-- the frame that a record is: none where its identifier says nothing, it has no data, or it is
-- discarded
abbrev pub frame_of : Record → Option FrameOf
frame_of rec = option_and_then (λ ident. option_and_then (framed rec ident) (last_byte rec.bytes)) (ident_of rec.ident)

-- why a record with this identifier and this last data byte is no frame, if it is none
abbrev pub discard_at : Record → Ident → Option ℕ → Option Discard
discard_at rec ident None = Some Empty
discard_at rec ident (Some byte) = broken_by ident (tail_of byte) (length rec.bytes - 1)

abbrev pub discard_by : Record → Option Ident → Option Discard
discard_by rec None = Some Identifier
discard_by rec (Some ident) = discard_at rec ident (last_byte rec.bytes)

-- why a record is no frame, if it is none
abbrev pub discard_of : Record → Option Discard
discard_of rec = discard_by rec (ident_of rec.ident)

-- the record of its key that a frame is
abbrev pub key_record : FrameOf → KeyRecord
key_record f = record {
  line = f.line;
  moment = f.moment;
  bus = f.bus;
  priority = priority_of f.ident;
  start = f.tail.start;
  end = f.tail.end;
  toggle = f.tail.toggle;
  tid = f.tail.tid;
  body = f.body;
}
