-- Records written as the lines of a log: `(SECONDS.MICROS) BUS IDENT#HEX`. Lists of records have
-- the newest first.
use Rattle.std.specs.Prelude.{◌≡◌, ◌≢◌, ◌<◌, ◌≤◌, ◌+◌, ◌*◌, ◌^◌, ℕ, List, [], ◌∷◌, ◌++◌, length}
use Rattle.std.specs.Prelude.{get_or, reverse, codes, All, Some, None, ⊤}
use Rattle.hex.specs.Hex.{encode_upper}
use Rattle.line_text.specs.Text.{moment_text, ident_text}
use Rattle.tail_frame.specs.declared.logged.Record.{Record}
use Rattle.frame_log.specs.Line.{Frame, bus_at, said_of}
use Rattle.frame_log.specs.Log.{log_of}

-- the name of a bus
abbrev pub name_at : List (List ℕ) → ℕ → List ℕ
name_at names bus = get_or names bus []

-- the line of a record, without its newline
abbrev pub record_text : List (List ℕ) → Record → List ℕ
record_text names r = 40 ∷ moment_text r.moment ++ 41 ∷ 32 ∷ name_at names r.bus ++ 32 ∷ ident_text r.ident ++ 35 ∷ encode_upper r.bytes

-- the lines of records, the oldest first
abbrev pub records_text : List (List ℕ) → List Record → List ℕ
records_text names [] = []
records_text names (r ∷ past) = records_text names past ++ record_text names r ++ 10 ∷ []

-- a name has 1 to 15 bytes, none of them a space or a newline
pub record IsBusName (name : List ℕ) : Type 0 where
  pub some : 1 ≤ length name
  pub most : length name ≤ 15
  pub no_space : All (λ b. b ≢ 32) name
  pub no_newline : All (λ b. b ≢ 10) name

-- a record of classic CAN that a line can hold, on a bus that is the first of its name
pub record IsWritten (names : List (List ℕ)) (r : Record) : Type 0 where
  pub moment : r.moment < 10 ^ 18
  pub ident : r.ident ≤ 0x1FFF_FFFF
  pub size : length r.bytes ≤ 8
  pub bytes : All (λ b. b < 256) r.bytes
  pub name : IsBusName (name_at names r.bus)
  pub first : bus_at names (name_at names r.bus) ≡ Some r.bus

-- the moment of the newest record, and 0 where there is none
abbrev pub newest_moment : List Record → ℕ
newest_moment [] = 0
newest_moment (r ∷ past) = r.moment

-- the moment of the oldest of these, and where there is none that of a record behind them
abbrev pub oldest_moment : ℕ → List Record → ℕ
oldest_moment moment [] = moment
oldest_moment moment (r ∷ past) = oldest_moment r.moment past

-- a record may come next: it has the next line, isn't before the newest one, and is at most 10^11
-- behind the oldest one
pub record IsNext (names : List (List ℕ)) (r : Record) (past : List Record) : Type 0 where
  pub written : IsWritten names r
  pub line : r.line ≡ length past + 1
  pub in_time : newest_moment past ≤ r.moment
  pub within : r.moment ≤ oldest_moment r.moment past + 100_000_000_000

-- each may
abbrev pub InTurn : List (List ℕ) → List Record → Type 0
InTurn names [] = ⊤
InTurn names (r ∷ past) = IsNext names r past × InTurn names past

-- what a line reads as
pub record IsReadLine (names : List (List ℕ)) (r : Record) : Type 0 where
  pub said : said_of names (record_text names r) ≡ Frame r.moment r.bus r.ident r.bytes
  pub one_line : All (λ b. b ≢ 10) (record_text names r)
  pub short : length (record_text names r) ≤ 63

abbrev pub LineIsRead : Type 0
LineIsRead = (names : List (List ℕ)) (r : Record) → IsWritten names r → IsReadLine names r

-- the text of records in turn reads as these records
abbrev pub LogIsRead : Type 0
LogIsRead =
    (names : List (List ℕ)) (records : List Record) → InTurn names records → length (records_text names records) ≤ 2 ^ 28
    → log_of names (records_text names records) ≡ record { records = reverse records; refusal = None }

abbrev pub TextIsShort : Type 0
TextIsShort = (names : List (List ℕ)) (records : List Record) → InTurn names records → length (records_text names records) ≤ 64 * length records

-- records of two buses in turn, and their text
pub record Example : Type 0 where
  pub names : List (List ℕ)
  pub records : List Record
  pub in_turn : InTurn names records
  pub text : records_text names records ≡ codes "(0.000300) can1 107D5501#A0" ++ 10 ∷ codes "(12.345678) can0 0000000F#0010FFE1" ++ 10 ∷ []
