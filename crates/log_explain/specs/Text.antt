-- The text of lines.
use Rattle.std.specs.Prelude.{ℕ, List, [], ◌∷◌, ◌++◌, codes, decimal, Option, Some, None, unwrap_or}
use Rattle.std.specs.Prelude.{slice_get}
use Rattle.can_id.specs.declared.key.Kind.{Kind}
use Rattle.can_id.specs.declared.key.Kind.TheVariants.{Message, Request, Response}
use Rattle.line_text.specs.Text.{line_of, moment_text, spaced}
use Rattle.tail_frame.specs.declared.discard.Discard.{Discard}
use Rattle.tail_frame.specs.declared.discard.Discard.TheVariants as discard
use Rattle.log_explain.specs.declared.reasons.reason.Change.{Change}
use Rattle.log_explain.specs.declared.reasons.reason.Reason.{Reason}
use Rattle.log_explain.specs.declared.reasons.reason.Reason.TheVariants.{
  Discarded,
  Own,
  Elsewhere,
  Unsubscribed,
  Unknown,
  NoSession,
  Standby,
  Copy,
  Begun,
  Delivered,
  BadCrc,
  Taken,
  StrayNone,
  StrayTid,
  StrayToggle,
}
use Rattle.log_explain.specs.declared.reasons.reason.Silence.{Silence}
use Rattle.log_explain.specs.Sessions.{Session}
use Rattle.log_explain.specs.declared.line.FrameLine.{FrameLine}
use Rattle.log_explain.specs.declared.line.Transfer.{Transfer}
use Rattle.log_explain.specs.declared.tally.Tally.{Tally}

-- words with a space before each
abbrev pub before : List (List ℕ) → List ℕ
before [] = []
before (word ∷ words) = 32 ∷ (word ++ before words)

-- the name of a bus
abbrev pub name_of : List (List ℕ) → ℕ → List ℕ
name_of names bus = unwrap_or (slice_get names bus) []

abbrev pub name_or : List (List ℕ) → Option ℕ → List ℕ
name_or names None = codes "-"
name_or names (Some bus) = name_of names bus

abbrev pub kind_word : Kind → List ℕ
kind_word Message = codes "msg"
kind_word Request = codes "req"
kind_word Response = codes "res"

-- a sender's node-ID; an anonymous message has none
abbrev pub source_word : Option ℕ → List ℕ
source_word None = codes "-"
source_word (Some source) = decimal source

abbrev pub transfer_words : Option Transfer → List (List ℕ)
transfer_words None = codes "-" ∷ codes "-" ∷ codes "-" ∷ codes "-" ∷ []
transfer_words (Some t) =
    kind_word t.key.kind ∷ decimal t.key.port ∷ source_word t.key.source ∷ decimal t.tid ∷ []

abbrev pub discard_word : Discard → List ℕ
discard_word discard.Identifier = codes "identifier"
discard_word discard.Empty = codes "empty"
discard_word discard.Toggle = codes "toggle"
discard_word discard.Anonymous = codes "anonymous"
discard_word discard.Short = codes "short"
discard_word discard.Bare = codes "bare"

abbrev pub silence_words : List (List ℕ) → Silence → List (List ℕ)
silence_words names s = name_of names s.bus ∷ decimal s.micros ∷ []

abbrev pub over_words : Option ℕ → List (List ℕ)
over_words None = []
over_words (Some first) = codes "over" ∷ decimal first ∷ []

abbrev pub from_words : List (List ℕ) → Option Silence → List (List ℕ)
from_words names None = []
from_words names (Some s) = codes "from" ∷ silence_words names s

abbrev pub change_words : List (List ℕ) → Change → List (List ℕ)
change_words names change = over_words change.over ++ from_words names change.from

abbrev pub reason_words : List (List ℕ) → Reason → List (List ℕ)
reason_words names (Discarded why) = codes "discarded" ∷ discard_word why ∷ []
reason_words names Own = codes "own" ∷ []
reason_words names (Elsewhere node) = codes "elsewhere" ∷ decimal node ∷ []
reason_words names Unsubscribed = codes "unsubscribed" ∷ []
reason_words names Unknown = codes "unknown" ∷ []
reason_words names NoSession = codes "nosession" ∷ []
reason_words names (Standby silence) = codes "standby" ∷ silence_words names silence
reason_words names (Copy line) = codes "copy" ∷ decimal line ∷ []
reason_words names (Begun change) = codes "begun" ∷ change_words names change
reason_words names (Delivered first change) =
    codes "delivered" ∷ decimal first ∷ change_words names change
reason_words names (BadCrc first) = codes "badcrc" ∷ decimal first ∷ []
reason_words names (Taken first) = codes "taken" ∷ decimal first ∷ []
reason_words names StrayNone = codes "stray" ∷ codes "none" ∷ []
reason_words names (StrayTid tid) = codes "stray" ∷ codes "tid" ∷ decimal tid ∷ []
reason_words names (StrayToggle first) = codes "stray" ∷ codes "toggle" ∷ decimal first ∷ []

-- where a record stands, when it was received, and on which bus
abbrev pub place_words : List (List ℕ) → FrameLine → List (List ℕ)
place_words names line =
    codes "frame" ∷ decimal line.line ∷ moment_text line.moment ∷ name_of names line.bus ∷ []

-- the words of a line before its reason
abbrev pub front_words : List (List ℕ) → FrameLine → List (List ℕ)
front_words names line = place_words names line ++ transfer_words line.transfer

-- the line on a record
abbrev pub frame_text : List (List ℕ) → FrameLine → List ℕ
frame_text names line = spaced (front_words names line) ++ line_of (reason_words names line.reason)

abbrev pub tally_words : Tally → List (List ℕ)
tally_words t =
    codes "delivered" ∷ decimal t.delivered ∷ codes "badcrc" ∷ decimal t.badcrc
    ∷ codes "copies" ∷ decimal t.copies ∷ codes "standby" ∷ decimal t.standby
    ∷ codes "stray" ∷ decimal t.stray
    ∷ codes "abandoned" ∷ decimal t.abandoned ∷ codes "handovers" ∷ decimal t.handovers
    ∷ codes "gaps" ∷ decimal t.gaps ∷ []

-- the line on a session
abbrev pub session_text : List (List ℕ) → Session → List ℕ
session_text names s = line_of (
    codes "session" ∷ kind_word s.key.kind ∷ decimal s.key.port ∷ decimal s.key.source
    ∷ name_or names s.bus ∷ tally_words s.tally)

abbrev pub sessions_text : List (List ℕ) → List Session → List ℕ
sessions_text names [] = []
sessions_text names (s ∷ sessions) = session_text names s ++ sessions_text names sessions

-- the last line: how many records, and how many sessions
abbrev pub end_text : ℕ → ℕ → List ℕ
end_text records sessions =
    line_of (codes "end" ∷ codes "records" ∷ decimal records
    ∷ codes "sessions" ∷ decimal sessions ∷ [])
