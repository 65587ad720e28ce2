use Rattle.std.specs.Prelude.{IfSome}
use Rattle.std.proofs.Common.{◌≡◌, ◌∙◌, ℕ, List, ◌++◌, Option, ap, subst}
use Rattle.tail_frame.specs.declared.logged.Record.{Record}
use Rattle.cy_outside.specs.Written.{behind}
use Rattle.file_client.specs.Fetch.{offset_of, fetched}
use Rattle.file_client.specs.Laws.{FetchLaws}
use Rattle.file_client.specs.declared.event.FetchOut.{FetchOut}
use Rattle.frame_log.specs.Log.{Log, log_of}
use Rattle.frame_log.specs.declared.error.LogError.{LogError}
use Rattle.log_loop.proofs.Listened.{listened_none}
use Rattle.log_loop.proofs.Plain.{plain_comes, plain_events}
use Rattle.log_loop.specs.Gone.{any_stages, Gone}
use Rattle.log_loop.specs.Listened.{HasListened}
use Rattle.log_loop.specs.Voice.{AreEventsOf, said, newest_first, end_part}
use Rattle.log_loop.specs.declared.ended.Ended.{Ended}
use Rattle.log_loop.specs.declared.ended.Ended.TheVariants as end
use Rattle.node_reach.specs.Buses.{bus_names}
use Rattle.node_reach.specs.Fetched.{client_of, file_limit, events, file_line, end_text, fetch_voice, step_text, last_text}
use Rattle.node_reach.specs.FetchedFile.{IsFetched, WritesFile}
use Rattle.node_reach.specs.declared.client.Client.{Client}
use Rattle.log_loop.proofs.Weaker.{has_listened}
use Rattle.node_reach.proofs.file_fetch.fetch.Goals as goal

-- what is said at the end of a log by which a file was fetched
last_is : FetchLaws → (client : Client) (file : List ℕ) (log : Log) → IsFetched client file log → last_text client (newest_first log) ≡ file_line file
last_is laws client file log f =
    let past = events client (newest_first log) in
    ap (λ (o : Option FetchOut). end_text (offset_of (fetched file_limit past)) (fetched file_limit past).file o) f.done
    ∙ ap file_line (laws.whole file file_limit past f.fair f.done)

-- a log was heard to its end by a client alone: its events are its records
wrote_file : FetchLaws → (client : Client) (file : List ℕ) (log : Log) (past : List Record) (before after : Option (List ℕ)) → past ≡ newest_first log → Gone (fetch_voice client) (any_stages Record) past log.refusal end.Ok before after
    → IsFetched client file log → after ≡ behind before (said (fetch_voice client) (newest_first log) ++ file_line file)
wrote_file laws client file log past before after is gone f =
    let v = fetch_voice client in
    gone.1.written
    ∙ ap (behind before)
    (ap (λ (p : List Record). said v p ++ end_part v p log.refusal) is
    ∙ (ap (λ (r : Option LogError). said v (newest_first log) ++ end_part v (newest_first log) r) gone.0
    ∙ ap (λ (t : List ℕ). said v (newest_first log) ++ t) (last_is laws client file log f)))

written_file : FetchLaws → (client : Client) (told new : Option (List ℕ)) (ended : Ended) (before after : Option (List ℕ)) → HasListened bus_names (fetch_voice client) (any_stages Record) told new ended before after → WritesFile client told ended before after
written_file laws client told new ended before after h bytes file is ok f =
    let v = fetch_voice client in
    let same : h.bytes ≡ bytes = subst (λ (t : Option (List ℕ)). IfSome t (λ (left : List ℕ). h.bytes ≡ left)) is h.is in
    let of_log : AreEventsOf v (newest_first (log_of bus_names bytes)) h.events = subst (λ (b : List ℕ). AreEventsOf v (newest_first (log_of bus_names b)) h.events) same h.of_log in
    let gone : Gone v (any_stages Record) h.events (log_of bus_names bytes).refusal end.Ok before after =
    subst (λ (e : Ended). Gone v (any_stages Record) h.events (log_of bus_names bytes).refusal e before after) ok
    (subst (λ (b : List ℕ). Gone v (any_stages Record) h.events (log_of bus_names b).refusal ended before after) same h.gone) in
    let log = log_of bus_names bytes in wrote_file laws client file log h.events before after (plain_events (step_text client) (last_text client) (newest_first log) h.events of_log) gone f

none_listened : (client : Client) (told before : Option (List ℕ)) → HasListened bus_names (fetch_voice client) (any_stages Record) told told end.NoMemory before before
none_listened client told before = listened_none bus_names (fetch_voice client) (any_stages Record) (plain_comes (step_text client) (last_text client)) told before tt

pub returns-in_default-clause-listened : goal.returns-in_default-clause-listened
returns-in_default-clause-listened g c = none_listened (client_of c.args.own c.args.server c.args.path.now) (g.L.Source.left c.args.input.now) (g.O.Sink.written c.args.out.now)

pub returns-in_default-new-clause-listened : goal.returns-in_default-new-clause-listened
returns-in_default-new-clause-listened g c = none_listened (client_of c.args.own c.args.server c.args.path.now) (g.L.Source.left c.args.input.now) (g.O.Sink.written c.args.out.now)

pub returns-clause-listened : goal.returns-clause-listened
returns-clause-listened g c =
    let left = g.L.Source.left c.args.input.now in
    let new = g.L.Source.left c.listen.new.input in
    let before = g.O.Sink.written c.args.out.now in
    let after = g.O.Sink.written c.listen.new.out in
    let a = c.in-Ok-new.fetching.asking.client in
    let is : a ≡ record { own = c.args.own; server = c.args.server; path = c.args.path.now } =
    (c.in-Ok-new.ensures {u = tt}).client ∙ ap (λ (p : List ℕ). record { own = c.args.own; server = c.args.server; path = p }) (c.in-Ok.ensures {u = tt}) in
    subst (λ (b : Client). HasListened bus_names (fetch_voice b) (any_stages Record) left new c.listen.result before after) is
    (subst (λ (names : List (List ℕ)). HasListened names (fetch_voice a) (any_stages Record) left new c.listen.result before after) c.bus_names.ensures
    (has_listened c.bus_names.result (fetch_voice a) _ left new c.listen.result before after c.listen.ensures.listened))

pub returns-clause-fetched : goal.returns-clause-fetched
returns-clause-fetched g c = λ bytes file told ok f.
    written_file c.fetch_laws.ensures _ (g.L.Source.left c.args.input.now) (g.L.Source.left c.listen.new.input) c.listen.result (g.O.Sink.written c.args.out.now) (g.O.Sink.written c.listen.new.out)
    (returns-clause-listened g c) bytes file told ok f
