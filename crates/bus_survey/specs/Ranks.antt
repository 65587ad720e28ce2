-- A number for each flow, so that flows come in the order of their numbers.
use Rattle.std.specs.List.Sorted.{IsPermutation}
use Rattle.tail_frame.specs.Frames.{FrameOf}
use Rattle.bus_survey.specs.Counts.{table}
use Rattle.std.specs.Prelude.{◌<◌, ℕ, ◌+◌, ◌*◌, List, [], ◌∷◌, map, Option, Some, None, ⊤}
use Rattle.bus_survey.specs.Flows.{flow_of, kind_number}
use Rattle.bus_survey.specs.declared.flow.Flow.{Flow}
use Rattle.bus_survey.specs.declared.flow.Sender.{Sender}
use Rattle.bus_survey.specs.declared.flow.Sender.TheVariants.{Node, Anonymous}
use Rattle.bus_survey.specs.declared.flow_counts.FlowCounts.{FlowCounts}

abbrev pub sender_number : Sender → ℕ
sender_number (Node node) = node
sender_number Anonymous = 256

abbrev pub receiver_number : Option ℕ → ℕ
receiver_number None = 0
receiver_number (Some node) = node + 1

-- the number of a flow
abbrev pub rank : Flow → ℕ
rank flow =
    (((kind_number flow.kind * 65536 + flow.port) * 512 + sender_number flow.sender) * 512 + receiver_number flow.destination) * 256
    + flow.bus

abbrev pub IsSender : Sender → Type 0
IsSender (Node node) = node < 256
IsSender Anonymous = ⊤

-- the parts of its number don't run into one another
abbrev pub IsRanked : Flow → Type 0
IsRanked flow = (flow.port < 65536) × IsSender flow.sender × (receiver_number flow.destination < 512) × (flow.bus < 256)

-- the same of the flow of each frame
abbrev pub AreRanked : List FrameOf → Type 0
AreRanked [] = ⊤
AreRanked (f ∷ past) = IsRanked (flow_of f) × AreRanked past

-- each flow of frames at its number, in their order, with what is kept of it
abbrev pub ranked_table : List FrameOf → List (ℕ × (Flow × FlowCounts))
ranked_table past = map (λ e. (rank e.0, e)) (table past)

-- entries by numbers tell of frames: they are those of the table, in any order, and no two flows
-- have the same number
abbrev pub IsTableOf : List FrameOf → List (ℕ × (Flow × FlowCounts)) → Type 0
IsTableOf past entries = IsPermutation (ranked_table past) entries × AreRanked past
