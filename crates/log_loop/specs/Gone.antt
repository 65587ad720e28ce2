-- What a loop over a log has done, by how it ended.
use Rattle.std.specs.Prelude.{◌≡◌, ◌⊎◌, ◌++◌, ◌∷◌, [], ℕ, List, Option, Some, None, ⊤}
use Rattle.cy_outside.specs.Written.{behind, Begins}
use Rattle.frame_log.specs.Refusals.{refusal_of}
use Rattle.frame_log.specs.declared.error.LogError.{LogError}
use Rattle.frame_log.specs.declared.error.LogError.TheVariants as error
use Rattle.frame_log.specs.declared.error.LogWhy.TheVariants as why
use Rattle.log_loop.specs.Voice.{Voice, said, whole_text}
use Rattle.log_loop.specs.declared.ended.Ended.{Ended}
use Rattle.log_loop.specs.declared.ended.Ended.TheVariants as end
use Rattle.log_loop.specs.declared.next.Stop.{Stop}
use Rattle.log_loop.specs.declared.next.Stop.TheVariants as stop

-- What holds of a listener that met these events: it heard them, has said its last words behind
-- them, broke off on the newest of them, or in its last words behind them.
pub record Stages (E : Type 0) : Type 1 where
  pub heard : List E → Type 0
  pub ended : List E → Type 0
  pub broke : List E → Type 0
  pub cut_short : List E → Type 0

abbrev pub stages : {E : Type 0} → (List E → Type 0) → (List E → Type 0) → (List E → Type 0)
    → (List E → Type 0) → Stages E
stages heard ended broke cut_short =
    record { heard = heard; ended = ended; broke = broke; cut_short = cut_short }

-- where only what is written counts, nothing is said of who heard the events
abbrev pub any_stages : (E : Type 0) → Stages E
any_stages E = record { heard = λ past. ⊤; ended = λ past. ⊤; broke = λ past. ⊤; cut_short = λ past. ⊤ }

-- it heard these events, or has said its last words behind them
abbrev pub HeardOrEnded : {E : Type 0} → Stages E → List E → Type 0
HeardOrEnded s past = s.heard past ⊎ s.ended past

-- the first of some events: those that came, before newer ones
pub record FirstOf {E : Type 0} (events came : List E) : Type 0 where
  pub newer : List E
  pub parts : events ≡ newer ++ came

-- this holds of all events of a log, and all that is said of them was written
pub record Settled {E : Type 0} (v : Voice E) (done : List E → Type 0) (events : List E) (refusal : Option LogError)
    (before after : Option (List ℕ)) : Type 0 where
  pub hears : done events
  pub written : after ≡ behind before (whole_text v events refusal)

-- the first events were heard, and exactly what is said on them was written
pub record Upto {E : Type 0} (v : Voice E) (heard : List E → Type 0) (events : List E)
    (before after : Option (List ℕ)) : Type 0 where
  pub came : List E
  pub first : FirstOf events came
  pub hears : heard came
  pub written : after ≡ behind before (said v came)

-- this holds of the first events, and a beginning of what is said on these was written, so one of
-- all that is said of them all
pub record Begun {E : Type 0} (v : Voice E) (done : List E → Type 0) (events : List E) (refusal : Option LogError)
    (before after : Option (List ℕ)) : Type 0 where
  pub came : List E
  pub first : FirstOf events came
  pub is : done came
  pub begins : Begins (said v came) before after
  pub written : Begins (whole_text v events refusal) before after

-- this holds of all events of a log that was read to its end, and a beginning of all that is said
-- of it was written
pub record BegunWhole {E : Type 0} (v : Voice E) (done : List E → Type 0) (events : List E) (refusal : Option LogError)
    (before after : Option (List ℕ)) : Type 0 where
  pub is : done events
  pub read : refusal ≡ None
  pub written : Begins (whole_text v events refusal) before after

-- the events before the newest of these
abbrev pub before_newest : {E : Type 0} → List E → List E
before_newest [] = []
before_newest (newest ∷ past) = past

-- the listener broke off on the newest of the first events, or before the first, and a beginning of
-- what is said on those before it was written, so one of all that is said of them all
pub record BrokenOff {E : Type 0} (v : Voice E) (broke : List E → Type 0) (events : List E)
    (refusal : Option LogError) (before after : Option (List ℕ)) : Type 0 where
  pub came : List E
  pub first : FirstOf events came
  pub is : broke came
  pub begins : Begins (said v (before_newest came)) before after
  pub written : Begins (whole_text v events refusal) before after

-- it broke off in its last words behind all events of a log that was read to its end, and a
-- beginning of what is said on these was written, so one of all that is said of it
pub record CutShort {E : Type 0} (v : Voice E) (cut_short : List E → Type 0) (events : List E)
    (refusal : Option LogError) (before after : Option (List ℕ)) : Type 0 where
  pub is : cut_short events
  pub read : refusal ≡ None
  pub begins : Begins (said v events) before after
  pub written : Begins (whole_text v events refusal) before after

-- What was done over a log with these events that ends so. At its end the listener has said its
-- last words behind all of them. Where the output failed, it heard the first of them, or has said
-- its last words behind all of them. Where memory was wanting, it broke off on the newest of the
-- first of them, or in its last words behind all of them.
abbrev pub Gone : {E : Type 0} → Voice E → Stages E → List E → Option LogError → Ended
    → Option (List ℕ) → Option (List ℕ) → Type 0
Gone v s events refusal end.Ok before after =
    (refusal ≡ None) × Settled v s.ended events refusal before after
Gone v s events refusal (end.Log line why) before after =
    (refusal ≡ Some (refusal_of line why)) × Settled v s.heard events refusal before after
Gone v s events refusal end.LogLong before after =
    (refusal ≡ Some error.LogLong) × Settled v s.heard events refusal before after
Gone v s events refusal end.ReadFault before after = Upto v s.heard events before after
Gone v s events refusal end.WriteFault before after =
    Begun v s.heard events refusal before after ⊎ BegunWhole v s.ended events refusal before after
Gone v s events refusal end.NoMemory before after =
    BrokenOff v s.broke events refusal before after
    ⊎ CutShort v s.cut_short events refusal before after

-- how a loop ends that the log ended
abbrev pub refused : LogError → Ended
refused (error.BadLine line) = end.Log line why.BadLine
refused (error.TimeBack line) = end.Log line why.TimeBack
refused (error.UnknownBus line) = end.Log line why.UnknownBus
refused (error.TooFar line) = end.Log line why.TooFar
refused error.LogLong = end.LogLong
refused error.Failed = end.ReadFault

-- how a loop ends that came to no further record
abbrev pub stopped : Stop → Ended
stopped (stop.Log error) = refused error
stopped stop.Write = end.WriteFault

-- how a loop ends that came to the end of its log
abbrev pub IsFinish : Ended → Type 0
IsFinish end.Ok = ⊤
IsFinish end.WriteFault = ⊤
IsFinish end.NoMemory = ⊤
IsFinish other = ⊥
