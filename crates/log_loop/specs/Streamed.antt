-- How far the input was taken before what is said on what it gave was written.
use Rattle.std.specs.Prelude.{◌≡◌, ◌⊎◌, ◌<◌, ◌≤◌, ◌+◌, ◌^◌, ◌++◌, ◌∷◌, ℕ, List, Option, length}
use Rattle.cy_outside.specs.Written.{behind}
use Rattle.frame_log.specs.Input.{Took}
use Rattle.log_loop.specs.Gone.{FirstOf, Stages, HeardOrEnded}
use Rattle.log_loop.specs.Taken.{AreOfBytes}
use Rattle.log_loop.specs.Voice.{Voice, said}
use Rattle.log_loop.specs.declared.ended.Ended.{Ended}
use Rattle.log_loop.specs.declared.ended.Ended.TheVariants as end

-- this text at least was written behind what stood before
abbrev pub HasWritten : List ℕ → Option (List ℕ) → Option (List ℕ) → Type 0
HasWritten text before after = (more : List ℕ) × (after ≡ behind before (text ++ more))

-- what is said on the events of the lines that end among these bytes was written
pub record HasSaid {E : Type 0} (names : List (List ℕ)) (v : Voice E) (events : List E) (bytes : List ℕ)
    (before after : Option (List ℕ)) : Type 0 where
  pub came : List E
  pub are : AreOfBytes names v events bytes came
  pub written : HasWritten (said v came) before after

-- these events were heard, with some newer ones of all; behind them the last words may have been
-- said
pub record IsHeard {E : Type 0} (s : Stages E) (events came : List E) : Type 0 where
  pub newer : List E
  pub first : FirstOf events (newer ++ came)
  pub hears : HeardOrEnded s (newer ++ came)

-- the events of the lines that end among these bytes were heard
pub record HearsBytes {E : Type 0} (names : List (List ℕ)) (v : Voice E) (s : Stages E) (events : List E)
    (bytes : List ℕ) : Type 0 where
  pub came : List E
  pub are : AreOfBytes names v events bytes came
  pub hears : IsHeard s events came

-- the listener broke off on the next of all events behind these
pub record BrokeNext {E : Type 0} (s : Stages E) (events past : List E) : Type 0 where
  pub next : E
  pub first : FirstOf events (next ∷ past)
  pub is : s.broke (next ∷ past)

-- it broke off so, or in its last words behind these events
abbrev pub BrokeBehind : {E : Type 0} → Stages E → List E → List E → Type 0
BrokeBehind s events past = BrokeNext s events past ⊎ (FirstOf events past × s.cut_short past)

-- it broke off behind the events of the lines that end among these bytes, and some newer ones
pub record BreaksBehind {E : Type 0} (names : List (List ℕ)) (v : Voice E) (s : Stages E)
    (events : List E) (bytes : List ℕ) : Type 0 where
  pub came : List E
  pub are : AreOfBytes names v events bytes came
  pub newer : List E
  pub broke : BrokeBehind s events (newer ++ came)

-- However it ended: at most 2 ^ 28 bytes and one more are taken. Of each front of the bytes that
-- were taken, behind which more than 8,192 bytes were taken, no line is refused, and what is said
-- is written. Its events were heard too; where memory was wanting, the listener broke off behind
-- them.
pub record IsStreamed {E : Type 0} (names : List (List ℕ)) (v : Voice E) (s : Stages E) (events : List E)
    (left new : Option (List ℕ)) (how : Ended) (before after : Option (List ℕ)) : Type 0 where
  pub taken : List ℕ
  pub took : Took left new taken
  pub few : length taken ≤ 2 ^ 28 + 1
  pub written : (front more : List ℕ) → taken ≡ front ++ more → 8192 < length more
      → HasSaid names v events front before after
  pub hears : (how ≡ end.NoMemory → ⊥) → (front more : List ℕ) → taken ≡ front ++ more
      → 8192 < length more
      → HearsBytes names v s events front
  pub broke : how ≡ end.NoMemory → (front more : List ℕ) → taken ≡ front ++ more
      → 8192 < length more
      → BreaksBehind names v s events front
