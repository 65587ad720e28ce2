-- What answering the lines that are held does.
use Rattle.std.specs.Prelude.{◌≡◌, ◌⊎◌, ◌≤◌, ◌++◌, ℕ, List, [], ◌∷◌, Option, Err, length}
use mathlib.Core.List.{reverse_aux}
use Rattle.cy_outside.specs.Written.{behind, Begins}
use Rattle.gathered_text.specs.Gathered.{Gathered}
use Rattle.line_loop.specs.Heard.{Met}
use Rattle.line_loop.specs.Lines.{Lines, lines_of, last_line, with_last}
use Rattle.line_loop.specs.Reply.{Voice, Answers, AreAnswered}
use Rattle.line_loop.specs.declared.ended.LinesEnded.{LinesEnded}
use Rattle.line_loop.specs.declared.ended.LinesEnded.TheVariants as end
use Rattle.line_loop.specs.declared.listener.LineStop.{LineStop}
use Rattle.line_loop.specs.declared.listener.LineStop.TheVariants as stop

-- a listener has heard these lines, and this is their number
pub record HasHeardAll {S : Type 0} (met : Met S) (first now : S) (count : ℕ)
    (past : List (List ℕ)) : Type 0 where
  pub heard : met first now past
  pub number : count ≡ length past

-- a listener has heard some lines, of which this holds
pub record HasCome {S : Type 0} (met : Met S) (first now : S) (count : ℕ)
    (does : List (List ℕ) → Type 0) : Type 0 where
  pub past : List (List ℕ)
  pub hears : HasHeardAll met first now count past
  pub goes : does past

-- whatever a listener was at first and has heard: this holds of that
abbrev pub Stays : {S : Type 0} → Met S → S → ℕ → (S → List (List ℕ) → Type 0) → Type 0
Stays {S} heard old count stays =
    (first : S) (past : List (List ℕ)) → HasHeardAll heard first old count past → stays first past

-- the same of that and the lines that it has heard then
abbrev pub Comes : {S : Type 0} → Met S → S → S → ℕ → ℕ
    → (S → List (List ℕ) → List (List ℕ) → Type 0) → Type 0
Comes heard old new count count_new goes =
    Stays heard old count (λ first past. HasCome heard first new count_new (goes first past))

-- lines in front of others
abbrev pub in_front : List (List ℕ) → Lines → Lines
in_front before lines = record lines { ended = before ++ lines.ended }

-- the first of these bytes are whole lines, behind the lines before, which are answered by this
-- text; these are all lines then
pub record Answered {R : Type 0} (v : Voice R) (past : List (List ℕ)) (bytes : List ℕ)
    (new : List (List ℕ)) (left text : List ℕ) : Type 0 where
  pub whole : List ℕ
  pub lines : List (List ℕ)
  pub parts : bytes ≡ whole ++ left
  pub split : (others : List ℕ) → lines_of (whole ++ others) ≡ in_front lines (lines_of others)
  pub answered : AreAnswered v past lines text
  pub all : new ≡ reverse_aux lines past

-- the first line of these bytes is refused, whatever bytes come behind them
abbrev pub Refuses : {R : Type 0} → Voice R → List (List ℕ) → List ℕ → R → Type 0
Refuses v past bytes refusal = (most : ℕ) → most ≤ v.bounds.line → (others : List ℕ)
    → (line : List ℕ) × (behind : List (List ℕ)) × (with_last most (lines_of (bytes ++ others)) ≡ line ∷ behind)
    × Answers v past line (Err refusal)

-- some lines are answered, behind them one is refused, and this is said: answers and last words
pub record IsRefused {R : Type 0} (v : Voice R) (past : List (List ℕ)) (bytes : List ℕ)
    (refusal : R) (said : List ℕ) : Type 0 where
  pub new : List (List ℕ)
  pub left : List ℕ
  pub text : List ℕ
  pub words : List ℕ
  pub answered : Answered v past bytes new left text
  pub refused : Refuses v new left refusal
  pub last : v.last new words
  pub parts : said ≡ text ++ words

-- some lines are answered, and a beginning of the answers is written
pub record IsBroken {R : Type 0} (v : Voice R) (past : List (List ℕ)) (bytes gathered : List ℕ)
    (before after : Option (List ℕ)) : Type 0 where
  pub new : List (List ℕ)
  pub left : List ℕ
  pub text : List ℕ
  pub answered : Answered v past bytes new left text
  pub written : Begins (gathered ++ text) before after

-- some lines are answered, behind them one is refused, and a beginning of what is said is written
pub record IsCut {R : Type 0} (v : Voice R) (past : List (List ℕ)) (bytes gathered : List ℕ)
    (before after : Option (List ℕ)) : Type 0 where
  pub refusal : R
  pub said : List ℕ
  pub refused : IsRefused v past bytes refusal said
  pub written : Begins (gathered ++ said) before after

-- why no further line is answered
abbrev pub Stops : {R : Type 0} → Voice R → List (List ℕ) → List ℕ → List ℕ → Option (List ℕ)
    → Option (List ℕ) → LinesEnded R → Type 0
Stops v past bytes gathered before after (end.Refused refusal) =
    (said : List ℕ) × IsRefused v past bytes refusal said × (after ≡ behind before (gathered ++ said))
Stops v past bytes gathered before after end.WriteFault =
    IsBroken v past bytes gathered before after ⊎ IsCut v past bytes gathered before after
Stops v past bytes gathered before after end.NoMemory = IsBroken v past bytes gathered before after
Stops v past bytes gathered before after end.Ok = ⊥
Stops v past bytes gathered before after end.TooLong = ⊥
Stops v past bytes gathered before after end.ReadFault = ⊥

-- some lines are answered, and the answers are gathered
pub record Goes {R : Type 0} (v : Voice R) (past : List (List ℕ)) (bytes : List ℕ)
    (new : List (List ℕ)) (left old waiting : List ℕ)
    (before after : Option (List ℕ)) : Type 0 where
  pub text : List ℕ
  pub answered : Answered v past bytes new left text
  pub gathered : Gathered (old ++ text) waiting before after

-- the last words behind what is gathered, and all of it was written
abbrev pub IsClosed : (List ℕ → Type 0) → List ℕ → Option (List ℕ) → Option (List ℕ) → Type 0
IsClosed last gathered before after =
    (words : List ℕ) × last words × (after ≡ behind before (gathered ++ words))

-- the last words could not be gathered, or not all of it was written
abbrev pub IsUnclosed : {R : Type 0} → (List ℕ → Type 0) → List ℕ → Option (List ℕ)
    → Option (List ℕ) → LinesEnded R → Type 0
IsUnclosed last gathered before after end.WriteFault =
    (words : List ℕ) × last words × Begins (gathered ++ words) before after
IsUnclosed last gathered before after end.NoMemory = after ≡ before
IsUnclosed last gathered before after end.Ok = ⊥
IsUnclosed last gathered before after (end.Refused refusal) = ⊥
IsUnclosed last gathered before after end.TooLong = ⊥
IsUnclosed last gathered before after end.ReadFault = ⊥

-- the end is this refusal, behind the last words
abbrev pub IsRefusal : {R : Type 0} → (List ℕ → Type 0) → R → List ℕ → Option (List ℕ)
    → Option (List ℕ) → LinesEnded R → Type 0
IsRefusal last refusal gathered before after (end.Refused r) =
    (r ≡ refusal) × IsClosed last gathered before after
IsRefusal last refusal gathered before after ended = IsUnclosed last gathered before after ended

-- the end that a stop makes, whatever the listener was at first and has heard
abbrev pub IsStop : {S R : Type 0} → Met S → (S → List (List ℕ) → List ℕ → Type 0) → S → LineStop R
    → List ℕ → Option (List ℕ) → Option (List ℕ) → LinesEnded R → Type 0
IsStop {S} heard last now (stop.Refused refusal) gathered before after ended =
    (first : S) (past : List (List ℕ)) → heard first now past
    → IsRefusal (last first past) refusal gathered before after ended
IsStop heard last now stop.NoMemory gathered before after ended =
    (ended ≡ end.NoMemory) × (after ≡ before)

-- what is said at the end of the input to these bytes, the last line or none, and how it ends
abbrev pub IsLastReply : {R : Type 0} → Voice R → List (List ℕ) → List ℕ → List ℕ → LinesEnded R
    → Type 0
IsLastReply v past bytes text end.Ok =
    (answer words : List ℕ) × AreAnswered v past (last_line 0 bytes) answer
    × v.last (reverse_aux (last_line 0 bytes) past) words × (text ≡ answer ++ words)
IsLastReply v past bytes text (end.Refused refusal) =
    (last_line 0 bytes ≡ bytes ∷ []) × Answers v past bytes (Err refusal) × v.last past text
IsLastReply v past bytes text end.TooLong = ⊥
IsLastReply v past bytes text end.ReadFault = ⊥
IsLastReply v past bytes text end.WriteFault = ⊥
IsLastReply v past bytes text end.NoMemory = ⊥

-- how it ends at the end of the input: all that is said was written, a beginning of it, or nothing
abbrev pub EndsBy : {R : Type 0} → Voice R → List (List ℕ) → List ℕ → Option (List ℕ)
    → Option (List ℕ) → LinesEnded R → Type 0
EndsBy {R} v past bytes before after end.WriteFault = (text : List ℕ) × (ended : LinesEnded R)
    × IsLastReply v past bytes text ended × Begins text before after
EndsBy v past bytes before after end.NoMemory = after ≡ before
EndsBy v past bytes before after ended =
    (text : List ℕ) × IsLastReply v past bytes text ended × (after ≡ behind before text)

-- the end of an input whose lines are all answered
abbrev pub IsWhole : {R : Type 0} → (List ℕ → Type 0) → List ℕ → Option (List ℕ) → Option (List ℕ)
    → LinesEnded R → Type 0
IsWhole last gathered before after end.Ok = IsClosed last gathered before after
IsWhole last gathered before after ended = IsUnclosed last gathered before after ended

-- how it ends where the input has more bytes than count
abbrev pub IsOverlong : {R : Type 0} → (List ℕ → Type 0) → Option (List ℕ) → Option (List ℕ)
    → LinesEnded R → Type 0
IsOverlong last before after end.TooLong = IsClosed last [] before after
IsOverlong last before after ended = IsUnclosed last [] before after ended
