-- The text of what `explain` writes tells its lines.
use Rattle.std.specs.Prelude.{◌≡◌, ◌≢◌, ◌<◌, ◌^◌, ℕ, List, [], ◌∷◌, ◌++◌, length, IfSome, IsTrue, ⊤}
use Rattle.std.specs.List.{All, AllPairs}
use Rattle.std.specs.Prelude.{codes}
use Rattle.node_plan.specs.Names.{is_bus_name}
use Rattle.log_explain.specs.declared.reasons.reason.Change.{Change}
use Rattle.log_explain.specs.declared.reasons.reason.Reason.{Reason}
use Rattle.log_explain.specs.declared.reasons.reason.Reason.TheVariants.{
  BadCrc,
  Begun,
  Copy,
  Delivered,
  Discarded,
  Elsewhere,
  NoSession,
  Own,
  Standby,
  StrayNone,
  StrayTid,
  StrayToggle,
  Taken,
  Unknown,
  Unsubscribed,
}
use Rattle.log_explain.specs.declared.reasons.reason.Silence.{Silence}
use Rattle.log_explain.specs.Counts.{last}
use Rattle.log_explain.specs.Lines.{of_session}
use Rattle.log_explain.specs.Sessions.{Session}
use Rattle.log_explain.specs.Text.{end_text, frame_text, session_text}
use Rattle.log_explain.specs.declared.line.FrameLine.{FrameLine}
use Rattle.log_explain.specs.declared.line.Transfer.{Transfer}
use Rattle.log_explain.specs.declared.tally.Tally.{Tally}

-- a line of the text: on a record, on a session, and the last one, with the numbers of both
pub data Line : Type 0 where
  OnRecord : FrameLine → Line
  OnSession : Session → Line
  AtEnd : ℕ → ℕ → Line

abbrev pub line_text : List (List ℕ) → Line → List ℕ
line_text names (OnRecord line) = frame_text names line
line_text names (OnSession session) = session_text names session
line_text names (AtEnd records sessions) = end_text records sessions

-- the text of lines, where these are the names of the buses
abbrev pub text : List (List ℕ) → List Line → List ℕ
text names [] = []
text names (line ∷ lines) = line_text names line ++ text names lines

-- ---- lines with a text of their own

-- buses with names of letters, digits and `_`, of which no two are the same
pub record AreNames (names : List (List ℕ)) : Type 0 where
  pub words : All (λ name. IsTrue (is_bus_name name)) names
  pub differ : AllPairs (λ a b. a ≢ b) names

abbrev pub IsNumber : ℕ → Type 0
IsNumber n = n < 2 ^ 64

pub record IsTransfer (t : Transfer) : Type 0 where
  pub port : IsNumber t.key.port
  pub source : IfSome t.key.source IsNumber
  pub tid : IsNumber t.tid

module _ (names : List (List ℕ)) where
  abbrev pub IsBus : ℕ → Type 0
  IsBus bus = bus < length names

  pub record IsSilence (s : Silence) : Type 0 where
    pub bus : IsBus s.bus
    pub micros : IsNumber s.micros

  pub record IsChange (change : Change) : Type 0 where
    pub over : IfSome change.over IsNumber
    pub from : IfSome change.from IsSilence

  abbrev pub IsReason : Reason → Type 0
  IsReason (Discarded why) = ⊤
  IsReason Own = ⊤
  IsReason (Elsewhere node) = IsNumber node
  IsReason Unsubscribed = ⊤
  IsReason Unknown = ⊤
  IsReason NoSession = ⊤
  IsReason (Standby silence) = IsSilence silence
  IsReason (Copy line) = IsNumber line
  IsReason (Begun change) = IsChange change
  IsReason (Delivered first change) = IsNumber first × IsChange change
  IsReason (BadCrc first) = IsNumber first
  IsReason (Taken first) = IsNumber first
  IsReason StrayNone = ⊤
  IsReason (StrayTid tid) = IsNumber tid
  IsReason (StrayToggle first) = IsNumber first

  -- a line on a record, with numbers that 64 bits hold and buses that have a name
  pub record IsOnRecord (line : FrameLine) : Type 0 where
    pub number : IsNumber line.line
    pub moment : IsNumber line.moment
    pub bus : IsBus line.bus
    pub transfer : IfSome line.transfer IsTransfer
    pub reason : IsReason line.reason

  pub record IsTally (t : Tally) : Type 0 where
    pub delivered : IsNumber t.delivered
    pub badcrc : IsNumber t.badcrc
    pub copies : IsNumber t.copies
    pub standby : IsNumber t.standby
    pub stray : IsNumber t.stray
    pub abandoned : IsNumber t.abandoned
    pub handovers : IsNumber t.handovers
    pub gaps : IsNumber t.gaps

  -- the same of a line on a session. The text doesn't tell its last delivery: that is the last one
  -- that the lines on records before it, the newest first, tell of the session
  pub record IsOnSession (past : List FrameLine) (s : Session) : Type 0 where
    pub port : IsNumber s.key.port
    pub source : IsNumber s.key.source
    pub bus : IfSome s.bus IsBus
    pub tally : IsTally s.tally
    pub last_is : s.tally.last ≡ last (of_session s.key past)

  -- lines behind these lines on records
  abbrev pub AreBehind : List FrameLine → List Line → Type 0
  AreBehind past [] = ⊤
  AreBehind past (OnRecord line ∷ lines) = IsOnRecord line × AreBehind (line ∷ past) lines
  AreBehind past (OnSession s ∷ lines) = IsOnSession past s × AreBehind past lines
  AreBehind past (AtEnd records sessions ∷ lines) =
      IsNumber records × IsNumber sessions × AreBehind past lines

  abbrev pub AreLines : List Line → Type 0
  AreLines lines = AreBehind [] lines

-- no two lists of lines have one text
abbrev pub TextTells : Type 0
TextTells =
    (names : List (List ℕ)) (a b : List Line)
    → AreNames names → AreLines names a → AreLines names b → text names a ≡ text names b → a ≡ b

-- lines on a message of two frames with an empty record between them on another bus, on its
-- session, and the last one
pub record Example : Type 0 where
  pub names : List (List ℕ)
  pub lines : List Line
  pub named : AreNames names
  pub are : AreLines names lines
  pub text_is : text names lines ≡
      codes "frame 1 0.250000 can0 msg 1234 42 7 begun over 12 from can1 300000" ++ 10
      ∷ codes "frame 3 12.000001 can1 - - - - discarded empty" ++ 10
      ∷ codes "frame 4 12.000020 can0 msg 1234 42 7 delivered 1" ++ 10
      ∷ codes "session msg 1234 42 can0 delivered 1 badcrc 0 copies 0 standby 0 stray 0 "
      ++ codes "abandoned 1 handovers 1 gaps 0" ++ 10
      ∷ codes "end records 3 sessions 1" ++ 10 ∷ []
