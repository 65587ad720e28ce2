-- The frames that a node hears, and the records of a session among those of a log, the newest
-- first.
use Rattle.std.specs.Prelude.{ℕ, Bool, true, false, not, ◌&&◌, ◌==◌, if◌then◌else◌, List, [], ◌∷◌}
use Rattle.std.specs.Prelude.{Option, Some, None, option_and_then}
use Rattle.can_id.specs.declared.ident.Ident.{Ident}
use Rattle.can_id.specs.declared.ident.Ident.TheVariants.{Message, Anonymous, Service}
use Rattle.tail_frame.specs.Frames.{FrameOf, frame_of}
use Rattle.tail_frame.specs.declared.logged.Record.{Record}
use Rattle.rx_table.specs.Keys.{SessionKey, KeyedFrame, bears_on}
use Rattle.rx_table.specs.Table.{logged, keyed as keyed_frame}

-- whether a frame is for the node: it isn't the node's own, and where it is of a service it is sent
-- to the node
abbrev pub is_for : ℕ → Ident → Bool
is_for node (Message priority subject source) = not (source == node)
is_for node (Anonymous priority subject pseudo) = true
is_for node (Service priority is_request service destination source) = not (source == node) && (destination == node)

abbrev pub if_for : ℕ → Option FrameOf → Option FrameOf
if_for node None = None
if_for node (Some f) = if is_for node f.ident then Some f else None

-- the frame that a record is, where it isn't discarded and is for the node
abbrev pub frame_for : ℕ → Record → Option FrameOf
frame_for node rec = if_for node (frame_of rec)

-- a log with a frame in front, if there is one
abbrev pub with_frame : Option FrameOf → List KeyedFrame → List KeyedFrame
with_frame None log = log
with_frame (Some f) log = logged f log

-- the frames for the node that belong to sessions, of records with the newest first
abbrev pub frames : ℕ → List Record → List KeyedFrame
frames node [] = []
frames node (rec ∷ past) = with_frame (frame_for node rec) (frames node past)

-- the frame of a session that a record is, to the node: discarded frames, anonymous ones, the
-- node's own and those of services for other nodes are none
abbrev pub heard_as : ℕ → Record → Option KeyedFrame
heard_as node rec = option_and_then keyed_frame (frame_for node rec)

-- a frame put before others, if there is one
abbrev pub onto : Option KeyedFrame → List KeyedFrame → List KeyedFrame
onto None log = log
onto (Some f) log = f ∷ log

-- whether that frame is of a key
abbrev pub is_of : SessionKey → Option KeyedFrame → Bool
is_of key None = false
is_of key (Some f) = bears_on key f

-- `keyed` says which frame of which key a record is, if it is one
module _ (keyed : Record → Option KeyedFrame) where
  -- the frames that records are, the newest first
  abbrev pub frames_of : List Record → List KeyedFrame
  frames_of [] = []
  frames_of (rec ∷ past) = onto (keyed rec) (frames_of past)

  -- the records that are frames of a key
  abbrev pub records_of : SessionKey → List Record → List Record
  records_of key [] = []
  records_of key (rec ∷ past) = if is_of key (keyed rec) then rec ∷ records_of key past else records_of key past
