-- The lines that are written.
use Rattle.std.specs.Prelude.{ℕ, List, [], ◌∷◌, ◌++◌, codes, decimal, Option, Some, None, unwrap_or}
use Rattle.std.specs.Prelude.{slice_get}
use Rattle.line_text.specs.Text.{moment_text, line_of}
use Rattle.bus_survey.specs.declared.bus_counts.BusCounts.{BusCounts}
use Rattle.bus_survey.specs.declared.flow.Flow.{Flow}
use Rattle.bus_survey.specs.declared.flow.FlowKind.{FlowKind}
use Rattle.bus_survey.specs.declared.flow.FlowKind.TheVariants.{Message, Request, Response}
use Rattle.bus_survey.specs.declared.flow.Sender.{Sender}
use Rattle.bus_survey.specs.declared.flow.Sender.TheVariants.{Node, Anonymous}
use Rattle.bus_survey.specs.declared.flow_counts.FlowCounts.{FlowCounts}

-- a moment, a number; `-` where there is none
abbrev pub moment_or : Option ℕ → List ℕ
moment_or None = codes "-"
moment_or (Some moment) = moment_text moment

abbrev pub number_or : Option ℕ → List ℕ
number_or None = codes "-"
number_or (Some n) = decimal n

abbrev pub kind_word : FlowKind → List ℕ
kind_word Message = codes "msg"
kind_word Request = codes "req"
kind_word Response = codes "res"

abbrev pub sender_word : Sender → List ℕ
sender_word (Node node) = decimal node
sender_word Anonymous = codes "-"

-- the name of a bus
abbrev pub name_of : List (List ℕ) → ℕ → List ℕ
name_of names bus = unwrap_or (slice_get names bus) []

-- what a bus carries
abbrev pub bus_line : List ℕ → BusCounts → List ℕ
bus_line name counts = line_of (
    codes "bus" ∷ name ∷ codes "records" ∷ decimal counts.records ∷ codes "discarded" ∷ decimal counts.discarded
    ∷ codes "first" ∷ moment_or counts.first ∷ codes "last" ∷ moment_or counts.last
    ∷ codes "silence" ∷ decimal counts.silence ∷ [])

-- what is counted of a flow
abbrev pub count_words : FlowCounts → List (List ℕ)
count_words counts =
    codes "frames" ∷ decimal counts.frames ∷ codes "starts" ∷ decimal counts.starts.count
    ∷ codes "copies" ∷ decimal counts.starts.copies ∷ codes "gaps" ∷ decimal counts.starts.gaps
    ∷ codes "bytes" ∷ decimal counts.bytes
    ∷ codes "every" ∷ number_or counts.starts.waits.least ∷ number_or counts.starts.waits.greatest ∷ []

-- what a flow carries
abbrev pub flow_line : List (List ℕ) → Flow → FlowCounts → List ℕ
flow_line names flow counts = line_of (
    codes "port" ∷ kind_word flow.kind ∷ decimal flow.port ∷ sender_word flow.sender ∷ number_or flow.destination
    ∷ name_of names flow.bus ∷ count_words counts)

-- the last line: records of all buses, those that are no frame, and the nodes that sent frames
abbrev pub end_line : ℕ → ℕ → ℕ → List ℕ
end_line records discarded nodes = line_of (
    codes "end" ∷ codes "records" ∷ decimal records ∷ codes "discarded" ∷ decimal discarded
    ∷ codes "nodes" ∷ decimal nodes ∷ [])

-- the lines of buses with these names and these counts, the first one first
abbrev pub bus_lines : List (List ℕ) → List BusCounts → List ℕ
bus_lines [] counts = []
bus_lines (name ∷ names) [] = []
bus_lines (name ∷ names) (c ∷ counts) = bus_line name c ++ bus_lines names counts

-- the lines of flows with their counts, the first one first
abbrev pub flow_lines : List (List ℕ) → List (Flow × FlowCounts) → List ℕ
flow_lines names [] = []
flow_lines names (e ∷ entries) = flow_line names e.0 e.1 ++ flow_lines names entries
