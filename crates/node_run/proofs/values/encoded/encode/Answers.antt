use Rattle.std.proofs.Common.{subst}
use Rattle.dsdl_types.specs.Views.{sch}
use Rattle.line_loop.specs.Gone.{HasGone}
use Rattle.line_loop.specs.Reply.{line_voice}
use Rattle.value_lines.specs.declared.refusal.Refusal.TheVariants as refusal
use Rattle.value_lines.specs.Encoded.{Encodes}
use Rattle.node_run.specs.NamedTypes.{message_named}
use Rattle.node_run.specs.ValueLines.{flow}
use Rattle.node_run.proofs.LineStatuses.{has_answered, are_taken, answered_still, streamed_still}
use Rattle.node_run.proofs.values.encoded.encode.Goals as goal

pub returns-in-Err-clause-did : goal.returns-in-Err-clause-did
returns-in-Err-clause-did g c =
    answered_still Encodes (message_named c.args.names.now c.args.name.now) c.args.name.now (g.L.Source.left c.args.input.now) (g.O.Sink.written c.args.out.now) c.in-Err.status c.in-Err.ensures.missing

pub returns-in-Err-clause-taken : goal.returns-in-Err-clause-taken
returns-in-Err-clause-taken g c =
    let message = message_named c.args.names.now c.args.name.now in
    let left = g.L.Source.left c.args.input.now in
    let written = g.O.Sink.written c.args.out.now in
    are_taken Encodes message c.args.name.now c.in-Err.status (flow left left written written)
    (answered_still Encodes message c.args.name.now left written c.in-Err.status c.in-Err.ensures.missing)

pub returns-in-Err-clause-streamed : goal.returns-in-Err-clause-streamed
returns-in-Err-clause-streamed g c =
    streamed_still Encodes (message_named c.args.names.now c.args.name.now) c.args.name.now (g.L.Source.left c.args.input.now) (g.O.Sink.written c.args.out.now)

pub returns-clause-did : goal.returns-clause-did
returns-clause-did g c =
    let told = flow (g.L.Source.left c.args.input.now) (g.L.Source.left c.listen_lines.new.input) (g.O.Sink.written c.args.out.now) (g.O.Sink.written c.listen_lines.new.out) in
    let gone = subst (λ s. HasGone (line_voice (Encodes (sch s)) (λ n. refusal.Text n) c.bounds.result) told.left told.new c.listen_lines.result told.before told.after) c.new-encoder.ensures c.listen_lines.ensures.gone in
    has_answered Encodes (message_named c.args.names.now c.args.name.now) c.args.name.now (sch c.in-Ok.schema.now) c.in-Ok.ensures.found c.bounds.result c.bounds.ensures c.listen_lines.result c.status_of.result c.status_of.ensures told gone

pub returns-clause-taken : goal.returns-clause-taken
returns-clause-taken g c =
    let message = message_named c.args.names.now c.args.name.now in
    let told = flow (g.L.Source.left c.args.input.now) (g.L.Source.left c.listen_lines.new.input) (g.O.Sink.written c.args.out.now) (g.O.Sink.written c.listen_lines.new.out) in
    are_taken Encodes message c.args.name.now c.status_of.result told (returns-clause-did g c)
