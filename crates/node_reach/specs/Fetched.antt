-- What `fetch` says of a log: the requests that are made, and what became of the file. Lists of
-- records and events have the newest first; `past` is what came before.
use Rattle.std.specs.Prelude.{ℕ, zero, suc, ◌+◌, ◌^◌, ◌==◌, if◌then◌else◌, true, List, [], ◌∷◌}
use Rattle.std.specs.Prelude.{◌++◌, codes, decimal, length, Option, Some, None, option_map}
use Rattle.std.specs.Option.{option_and_then}
use Rattle.hex.specs.Hex.{encode_upper}
use Rattle.can_id.specs.Identifiers.{bits}
use Rattle.can_id.specs.declared.ident.Ident.TheVariants.{Service}
use Rattle.can_id.specs.declared.key.Kind.TheVariants.{Response}
use Rattle.dsdl_types.specs.Laws.{encoding}
use Rattle.file_client.specs.Fetch.{Event, reply, late, offset_of, fetched, answer}
use Rattle.file_client.specs.declared.event.FetchOut.{FetchOut}
use Rattle.file_client.specs.declared.event.FetchOut.TheVariants.{Ask, Wait, Done, Refused, GaveUp}
use Rattle.file_client.specs.declared.event.FetchOut.TheVariants.{TooLong}
use Rattle.frag.specs.Wire.{frames}
use Rattle.line_text.specs.Text.{moment_text, line_of}
use Rattle.log_loop.specs.Voice.{Voice, plain_voice}
use Rattle.wire_values.specs.Payloads.{payload_value}
use Rattle.std_types.specs.Files.{read_request_value, read_reply_of}
use Rattle.std_types.specs.Ports.{file_read_service}
use Rattle.std_types.specs.Types.{schema_of}
use Rattle.std_types.specs.declared.file.ReadReply.{ReadReply}
use Rattle.std_types.specs.declared.std_name.StdName.TheVariants.{ReadRequest as read_request}
use Rattle.std_types.specs.declared.std_name.StdName.TheVariants.{ReadReply as read_reply}
use Rattle.tail_frame.specs.declared.logged.Record.{Record}
use Rattle.node_reach.specs.Buses.{bus_names}
use Rattle.node_reach.specs.Lines.{tx_lines}
use Rattle.node_reach.specs.Ticks.{first_moment, tick_moment, last_tick, ticks_before}
use Rattle.node_reach.specs.Transfers.{Transfer, Ears, port_for, transfer_at}
use Rattle.node_reach.specs.declared.client.Client.{Client}

-- a client with this node-ID that reads the file at a path of a server
abbrev pub client_of : ℕ → ℕ → List ℕ → Client
client_of own server path = record { own = own; server = server; path = path }

-- the most bytes that a file may have
abbrev pub file_limit : ℕ
file_limit = 2 ^ 20

-- a node that listens to the responses of file servers
abbrev pub file_ears : ℕ → Ears
file_ears own = record {
  own = own;
  timeout = 2000000;
  ports = port_for Response file_read_service (schema_of read_reply) ∷ [];
}

-- a response with this transfer-ID, as the client sees it
abbrev pub reply_by : ℕ → ReadReply → Event
reply_by tid r = reply tid r.error.value r.data

-- the reply that a payload with this transfer-ID is, if it reads as one
abbrev pub reply_of : ℕ → List ℕ → Option Event
reply_of tid payload = option_map (λ v. reply_by tid (read_reply_of v)) (payload_value (schema_of read_reply) payload)

-- a transfer of the server is a reply, and that of another node isn't
abbrev pub reply_in : ℕ → Transfer → Option Event
reply_in server t = if t.key.source == server then reply_of t.tid t.payload else None

-- the reply of the server that ends at a record, if one does
abbrev pub reply_at : ℕ → ℕ → Record → List Record → Option Event
reply_at own server rec past = option_and_then (reply_in server) (transfer_at (file_ears own) rec past)

-- events with so many Lates behind them
abbrev pub lates : ℕ → List Event → List Event
lates zero past = past
lates (suc n) past = late ∷ lates n past

-- events with a reply, if there is one
abbrev pub with_reply : Option Event → List Event → List Event
with_reply None past = past
with_reply (Some event) past = event ∷ past

-- the events of records: Tick 0 is none, each later tick a Late
abbrev pub events : Client → List Record → List Event
events client [] = []
events client (rec ∷ past) = with_reply (reply_at client.own client.server rec past) (lates (ticks_before rec past) (events client past))

-- the events before a record, with its ticks
abbrev pub events_before : Client → Record → List Record → List Event
events_before client rec past = lates (ticks_before rec past) (events client past)

-- the payload of a request for the bytes of a file from an offset on
unfoldable pub request_payload : ℕ → List ℕ → List ℕ
request_payload offset path =
    encoding (schema_of read_request) (read_request_value (record { offset = offset; path = path }))

-- a request is made
abbrev pub ask_line : ℕ → ℕ → ℕ → List ℕ
ask_line moment tid offset = line_of (codes "ask" ∷ moment_text moment ∷ decimal tid ∷ decimal offset ∷ [])

-- the line of a request, and those of its frames
abbrev pub request_text : Client → ℕ → ℕ → ℕ → List ℕ
request_text client moment tid offset =
    ask_line moment tid offset
    ++ tx_lines moment (bits (Service 4 true file_read_service client.server client.own)) (frames 8 (request_payload offset client.path) tid) bus_names

-- what is said where the client answers an event so
abbrev pub answer_text : Client → ℕ → FetchOut → List ℕ
answer_text client moment (Ask tid offset) = request_text client moment tid offset
answer_text client moment Wait = []
answer_text client moment Done = []
answer_text client moment (Refused code) = []
answer_text client moment (GaveUp offset) = []
answer_text client moment (TooLong n) = []

-- what is said on an event
abbrev pub event_text : Client → ℕ → Event → List Event → List ℕ
event_text client moment event past = answer_text client moment (answer file_limit event past)

-- what is said on so many ticks behind this one, each of them a Late
abbrev pub lates_text : Client → ℕ → ℕ → ℕ → List Event → List ℕ
lates_text client first tick zero past = []
lates_text client first tick (suc n) past =
    lates_text client first tick n past
    ++ event_text client (tick_moment first (tick + n + 1)) late (lates n past)

-- what is said on the ticks before a record: Tick 0 is at the first record's moment, and request 0
-- is made
abbrev pub ticks_text : Client → Record → List Record → List ℕ
ticks_text client rec [] = request_text client rec.moment 0 0
ticks_text client rec (older ∷ past) =
    lates_text client (first_moment older past) (last_tick (older ∷ past)) (ticks_before rec (older ∷ past)) (events client (older ∷ past))

-- what is said on a reply, if there is one
abbrev pub reply_text : Client → ℕ → Option Event → List Event → List ℕ
reply_text client moment None past = []
reply_text client moment (Some event) past = event_text client moment event past

-- what is said on a record, and on the ticks before it
abbrev pub step_text : Client → Record → List Record → List ℕ
step_text client rec past =
    ticks_text client rec past
    ++ reply_text client rec.moment (reply_at client.own client.server rec past) (events_before client rec past)

-- bytes as hex digits, and a hyphen where there are none
abbrev pub bytes_text : List ℕ → List ℕ
bytes_text [] = codes "-"
bytes_text (byte ∷ bytes) = encode_upper (byte ∷ bytes)

abbrev pub file_line : List ℕ → List ℕ
file_line file = line_of (codes "file" ∷ decimal (length file) ∷ bytes_text file ∷ [])

-- what is said at the end: the file, why there is none, or that the request at an offset is still
-- out
abbrev pub end_text : ℕ → List ℕ → Option FetchOut → List ℕ
end_text offset file (Some Done) = file_line file
end_text offset file (Some (Refused code)) = line_of (codes "refused" ∷ decimal code ∷ [])
end_text offset file (Some (GaveUp at)) = line_of (codes "gave" ∷ codes "up" ∷ decimal at ∷ [])
end_text offset file (Some (TooLong n)) = line_of (codes "too" ∷ codes "long" ∷ decimal n ∷ [])
end_text offset file _ = line_of (codes "open" ∷ decimal offset ∷ [])

-- what became of the file after these events
abbrev pub outcome_text : List Event → List ℕ
outcome_text past = let state = fetched file_limit past in end_text (offset_of state) state.file state.end

-- the last line
abbrev pub last_text : Client → List Record → List ℕ
last_text client past = outcome_text (events client past)

-- what a client says over a log
abbrev pub fetch_voice : Client → Voice Record
fetch_voice client = plain_voice (step_text client) (last_text client)
