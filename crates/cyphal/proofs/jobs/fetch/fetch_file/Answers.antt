use Rattle.std.proofs.Common.{List, ℕ, refl, subst}
use Rattle.node_reach.specs.Buses.{bus_names}
use Rattle.node_reach.specs.Fetched.{client_of, fetch_voice}
use Rattle.node_run.specs.ValueLines.{flow}
use Rattle.cyphal.specs.jobs.Fetch.{HasFetched}
use Rattle.cyphal.proofs.statuses.Reach.{ends_as_log, no_usage, cause_of}
use Rattle.cyphal.proofs.jobs.fetch.fetch_file.Goals as goal

pub returns-clause-answer : goal.returns-clause-answer
returns-clause-answer g c h =
    let client = client_of c.args.file.own.number c.args.file.server.number c.as_bytes-path.result.now in
    ends_as_log bus_names (fetch_voice client) _ _ c.fetch.result _ _ c.status_of.result c.status_of.ensures h c.fetch.ensures.listened

pub returns-clause-usage : goal.returns-clause-usage
returns-clause-usage g c = no_usage c.fetch.result c.status_of.result c.status_of.ensures

pub returns-clause-cause : goal.returns-clause-cause
returns-clause-cause g c tree =
    cause_of c.fetch.result c.status_of.result c.status_of.ensures _ _ refl c.fetch.ensures.read c.fetch.ensures.write c.fetch.ensures.unread c.fetch.ensures.unwritten

pub returns-clause-ran : goal.returns-clause-ran
returns-clause-ran g c =
    let told = flow (g.L.Source.left c.args.input.now) (g.L.Source.left c.fetch.new.input) (g.O.Sink.written c.args.out.now) (g.O.Sink.written c.fetch.new.out) in
    subst (λ (path : List ℕ). HasFetched (client_of c.args.file.own.number c.args.file.server.number path) c.status_of.result told) c.as_bytes-path.ensures.value
    (record {
      listened = record {
        ended = c.fetch.result;
        is = c.status_of.ensures;
        listened = c.fetch.ensures.listened;
      };
      fetched = c.fetch.ensures.fetched;
    })
