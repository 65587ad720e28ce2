-- What is counted of the frames of one flow. Frames are a list with the newest first; `past` is
-- what came before.
use Rattle.std.specs.Prelude.{ℕ, ◌+◌, ◌≤◌, if◌then◌else◌, List, [], ◌∷◌, length, map, ⊤}
use Rattle.tail_frame.specs.Frames.{FrameOf}
use Rattle.bus_survey.specs.Flows.{flows, of_flow}
use Rattle.bus_survey.specs.Starts.{kept_starts}
use Rattle.bus_survey.specs.declared.flow.Flow.{Flow}
use Rattle.bus_survey.specs.declared.flow_counts.FlowCounts.{FlowCounts}
use Rattle.bus_survey.specs.declared.starts.Start.{Start}

-- the data bytes of frames, with the tails
abbrev pub data_bytes : List FrameOf → ℕ
data_bytes [] = 0
data_bytes (f ∷ past) = data_bytes past + (length f.body + 1)

-- a frame as the start of a transfer
abbrev pub start_of : FrameOf → Start
start_of f = record { tid = f.tail.tid; moment = f.moment }

-- the starts among frames
abbrev pub starts : List FrameOf → List Start
starts [] = []
starts (f ∷ past) = if f.tail.start then start_of f ∷ starts past else starts past

-- what is kept of frames
abbrev pub kept_frames : List FrameOf → FlowCounts
kept_frames past = record { frames = length past; bytes = data_bytes past; starts = kept_starts (starts past) }

-- each flow of frames, in their order, with what is kept of it
abbrev pub table : List FrameOf → List (Flow × FlowCounts)
table past = map (λ flow. (flow, kept_frames (of_flow flow past))) (flows past)

-- frames as a bus carries them: each has at most 64 bytes of data
abbrev pub AreShort : List FrameOf → Type 0
AreShort [] = ⊤
AreShort (f ∷ past) = (length f.body ≤ 63) × AreShort past
