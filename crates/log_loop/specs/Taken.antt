-- What the input gave whole before it failed.
use Rattle.std.specs.Prelude.{◌≡◌, ◌^◌, ℕ, List, Option, None, map, take}
use Rattle.tail_frame.specs.declared.logged.Record.{Record}
use Rattle.cy_outside.specs.Written.{behind}
use Rattle.frame_log.specs.Input.{Took}
use Rattle.frame_log.specs.Log.{log_of_lines, lines_of, start}
use Rattle.log_loop.specs.Gone.{FirstOf}
use Rattle.log_loop.specs.Voice.{Voice, said, newest_first}

-- the records of the lines that end among these bytes, of which 2 ^ 28 count; the newest first
abbrev pub whole_records : List (List ℕ) → List ℕ → List Record
whole_records names bytes = newest_first (log_of_lines names None (lines_of (take (2 ^ 28) bytes)).0 start)

-- none of the lines that end among these bytes, of which 2 ^ 28 count, is refused
abbrev pub NoneRefused : List (List ℕ) → List ℕ → Type 0
NoneRefused names bytes =
    (log_of_lines names None (lines_of (take (2 ^ 28) bytes)).0 start).refusal ≡ None

-- none of the lines that end among these bytes is refused, and the first of these events are those
-- of these lines
pub record AreOfBytes {E : Type 0} (names : List (List ℕ)) (v : Voice E) (events : List E)
    (bytes : List ℕ) (came : List E) : Type 0 where
  pub unrefused : NoneRefused names bytes
  pub first : FirstOf events came
  pub records_are : map v.record_of came ≡ whole_records names bytes

-- what was heard and what is written are the events of the lines that were taken, each of them
-- whole, and no other
pub record IsOfTaken {E : Type 0} (names : List (List ℕ)) (v : Voice E) (heard : List E → Type 0) (events : List E)
    (left new before after : Option (List ℕ)) : Type 0 where
  pub taken : List ℕ
  pub took : Took left new taken
  pub came : List E
  pub are : AreOfBytes names v events taken came
  pub hears : heard came
  pub written : after ≡ behind before (said v came)
