-- The rules by which a log is made of a number.
use Rattle.std.specs.Prelude.{ℕ, zero, suc, Bool, ◌+◌, ◌*◌, ◌%◌, ◌==◌, ◌&&◌, nat_le, if◌then◌else◌}
use Rattle.std.specs.Prelude.{List, [], ◌∷◌, ◌++◌, map, codes}
use Rattle.std.specs.List.{range_with_len, flat_map}
use Rattle.frag.specs.declared.sent.Pair.{Pair}
use Rattle.frag.specs.declared.sent.Sent.{Sent}
use Rattle.log_text.specs.Written.{record_text, records_text}
use Rattle.log_gen.specs.Rows.{record_with, records_of, rows, sent_of, pairs_of}
use Rattle.log_gen.specs.declared.row.Row.{Row}
use Rattle.log_gen.specs.declared.way.Way.{Way}
use Rattle.log_gen.specs.declared.way.Way.TheVariants as way

-- how many transfers there are
unfoldable pub transfers : ℕ
transfers = 20000

-- how many of them each source sends
unfoldable pub transfers_each : ℕ
transfers_each = 5000

-- the payload of transfer j has up to 39 bytes
abbrev pub payload_size : ℕ → ℕ → ℕ
payload_size number j = (7 * j + number) % 40

abbrev pub payload_byte : ℕ → ℕ → ℕ → ℕ
payload_byte number j i = (i + j + number) % 256

abbrev pub payload_of : ℕ → ℕ → List ℕ
payload_of number j = map (payload_byte number j) (range_with_len 0 (payload_size number j))

-- one of five transfers is damaged, and of another the first frame stands twice
abbrev pub way_by : ℕ → ℕ → Way
way_by k remainder =
    if remainder == 0 then (if k % 2 == 0 then way.Missing else way.Headless)
    else (if remainder == 2 then way.Twice else way.Whole)

-- whether bus 0 is silent as a source sends its transfer k
abbrev pub is_silent : ℕ → ℕ → Bool
is_silent k bus = (bus == 0) && (nat_le 2000 k && nat_le k 2999)

-- how transfer k of a source stands on a bus
abbrev pub way_of : ℕ → ℕ → ℕ → Way
way_of number k bus = if is_silent k bus then way.Missing else way_by k ((k + bus + number) % 5)

-- the names of the buses
abbrev pub bus_names : List (List ℕ)
bus_names = codes "can0" ∷ codes "can1" ∷ codes "can2" ∷ []

-- the lines of the plan
abbrev pub plan_lines : List (List ℕ)
plan_lines =
    codes "plan 1" ∷ codes "node 10" ∷ codes "bus can0" ∷ codes "bus can1" ∷ codes "bus can2"
    ∷ codes "silent" ∷ codes "sub 100 4 raw 64" ∷ []

-- a line with its newline
abbrev pub with_newline : List ℕ → List ℕ
with_newline line = line ++ 10 ∷ []

-- the plan, whatever the number is
abbrev pub plan_text : List ℕ
plan_text = flat_map with_newline plan_lines

-- all frames of the log, the newest first
abbrev pub all_rows : ℕ → List Row
all_rows number = rows (payload_of number) (way_of number) transfers

-- these frames as a log
abbrev pub text_of_rows : ℕ → List Row → List ℕ
text_of_rows number past = records_text bus_names (records_of (payload_of number) past)

-- the log
abbrev pub log_text : ℕ → List ℕ
log_text number = text_of_rows number (all_rows number)

-- the sources, counted from 0
abbrev pub sources : List ℕ
sources = range_with_len 0 4

-- what a source sent, counted from 0
abbrev pub sent_by : ℕ → ℕ → Sent
sent_by number s = sent_of (payload_of number) transfers_each s

-- the pairs of its frames
abbrev pub origin_by : ℕ → ℕ → List Pair
origin_by number s = pairs_of s (all_rows number)

-- a text so many times in a row
abbrev pub times : ℕ → List ℕ → List ℕ
times zero text = []
times (suc n) text = times n text ++ text

-- the line of a frame with these bytes
abbrev pub line_of : Row → List ℕ → List ℕ
line_of r bytes = record_text bus_names (record_with r 1 bytes) ++ 10 ∷ []
