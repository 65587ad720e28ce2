-- The frames that wait to leave on each bus of a node. Of all lists of frames the first is that of
-- the plan's first bus.
use Rattle.std.specs.Prelude.{ℕ, zero, suc, Bool, ◌==◌, ◌||◌, if◌then◌else◌, ◌+◌, nat_le, List, []}
use Rattle.std.specs.Prelude.{◌∷◌, ◌++◌, length, map, Option, Some, None}
use Rattle.tx_queue.specs.Waiting.{free, least, needed, out_frames}
use Rattle.tx_queue.specs.declared.frame.OutFrame.{OutFrame}
use Rattle.report_lines.specs.declared.line.Line.{Line}
use Rattle.report_lines.specs.declared.line.Line.TheVariants.{Tx, Full}

-- whether frames can have this size, classic CAN's or CAN FD's
abbrev pub is_frame_size : ℕ → Bool
is_frame_size m = (m == 8) || (m == 64)

-- a transfer that a node sends on every bus: its identifier, transfer-ID, port and payload
pub record Sends : Type 0 where
  pub ident : ℕ
  pub tid : ℕ
  pub port : ℕ
  pub payload : List ℕ

-- the list of a bus: the size of its frames, how many leave after a step at most, how many may
-- wait, and those that do
pub record Queue : Type 0 where
  pub mtu : ℕ
  pub rate : ℕ
  pub places : ℕ
  pub waiting : List OutFrame

-- the number of a transfer's frames on a bus
abbrev pub needs : Sends → Queue → ℕ
needs x q = needed q.mtu x.payload x.tid

-- the number of places that are free
abbrev pub room : Queue → ℕ
room q = free q.places q.waiting

-- whether all frames of a transfer find a place
abbrev pub takes : Sends → Queue → Bool
takes x q = nat_le (needs x q) (room q)

-- the list behind a transfer: all of its frames are at the end, or none of them
abbrev pub push : Sends → Queue → Queue
push x q =
    if takes x q
    then record q { waiting = q.waiting ++ out_frames x.ident q.mtu x.payload x.tid }
    else q

abbrev pub push_all : Option Sends → List Queue → List Queue
push_all None qs = qs
push_all (Some x) qs = map (push x) qs

-- the line on a bus whose list hasn't places enough
abbrev pub full_line : ℕ → ℕ → Sends → Queue → List Line
full_line moment bus x q =
    if takes x q
    then []
    else Full (record { moment = moment; bus = bus; port = x.port; needed = needs x q; free = room q }) ∷ []

-- those of the buses from a place on
abbrev pub fulls_from : ℕ → ℕ → Sends → List Queue → List Line
fulls_from moment bus x [] = []
fulls_from moment bus x (q ∷ qs) = full_line moment bus x q ++ fulls_from moment (bus + 1) x qs

abbrev pub fulls : ℕ → Option Sends → List Queue → List Line
fulls moment None qs = []
fulls moment (Some x) qs = fulls_from moment 0 x qs

-- the frames that leave of these, at most so many: each is the first of those with the least
-- identifier
abbrev pub leave : ℕ → List OutFrame → List OutFrame
leave zero fs = []
leave (suc n) [] = []
leave (suc n) (f ∷ fs) = (least f fs).0 ∷ leave n (least f fs).1

-- and those that stay
abbrev pub stay : ℕ → List OutFrame → List OutFrame
stay zero fs = fs
stay (suc n) [] = []
stay (suc n) (f ∷ fs) = stay n (least f fs).1

abbrev pub tx_line : ℕ → ℕ → OutFrame → Line
tx_line moment bus f = Tx (record { moment = moment; bus = bus; ident = f.ident; bytes = f.bytes })

-- the lines on what leaves a bus: at most its rate
abbrev pub bus_lines : ℕ → ℕ → Queue → List Line
bus_lines moment bus q = map (tx_line moment bus) (leave q.rate q.waiting)

-- those of the buses from a place on, bus by bus
abbrev pub leaving_from : ℕ → ℕ → List Queue → List Line
leaving_from moment bus [] = []
leaving_from moment bus (q ∷ qs) = bus_lines moment bus q ++ leaving_from moment (bus + 1) qs

abbrev pub leaving : ℕ → List Queue → List Line
leaving moment qs = leaving_from moment 0 qs

-- the list once they left
abbrev pub drained : Queue → Queue
drained q = record q { waiting = stay q.rate q.waiting }

-- the lists are emptied in rounds; in each of them at most its rate leaves of each bus
abbrev pub rounds : ℕ → ℕ → List Queue → List Line
rounds zero moment qs = []
rounds (suc n) moment qs = leaving moment qs ++ rounds n moment (map drained qs)

-- the number of frames that wait
abbrev pub waiting : List Queue → ℕ
waiting [] = 0
waiting (q ∷ qs) = length q.waiting + waiting qs
