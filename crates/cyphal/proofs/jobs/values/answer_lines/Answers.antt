use Rattle.std.proofs.Common.{inl, inr, true, false}
use Rattle.dsdl_types.specs.declared.namespace.Namespace.{Namespace}
use Rattle.node_run.specs.NamedTypes.{message_named}
use Rattle.node_run.specs.ValueLines.{flow}
use Rattle.cyphal.specs.MayEnd.{of_root, of_values}
use Rattle.cyphal.specs.jobs.Values.{answers_by}
use Rattle.cyphal.proofs.Causes.{ends_so_over, no_write, not_settled, took_nothing}
use Rattle.cyphal.proofs.statuses.Among.{of_first, of_second, root_among, values_among}
use Rattle.cyphal.proofs.statuses.Values.{answered_ends, no_usage, refused_none}
use Rattle.cyphal.proofs.jobs.values.answer_lines.Goals as goal

pub returns-in-Err-clause-cause : goal.returns-in-Err-clause-cause
returns-in-Err-clause-cause g c =
    let err = c.in-Err.ensures in
    ends_so_over Namespace _ _ _ err.cause _ _ _ (no_write c.args.root.now (g.T.Tree.files c.args.tree.now) c.in-Err.status err.refused) true false

pub returns-in-Err-clause-ran : goal.returns-in-Err-clause-ran
returns-in-Err-clause-ran g c =
    let err = c.in-Err.ensures in
    inl (took_nothing Namespace _ _ _ err.cause _ _ _ (no_write c.args.root.now (g.T.Tree.files c.args.tree.now) c.in-Err.status err.refused) _ (not_settled c.args.root.now (g.T.Tree.files c.args.tree.now) c.in-Err.status err.refused))

pub returns-clause-answer : goal.returns-clause-answer
returns-clause-answer g c h =
    let names = c.in-Ok.names in
    let name = c.args.name.now in
    let told = flow (g.L.Source.left c.args.input.now) (g.L.Source.left c.answer_in.new.input) (g.O.Sink.written c.args.out.now) (g.O.Sink.written c.answer_in.new.out) in
    (h, inr (record { names = names; is = c.in-Ok.ensures.loaded; rules = c.in-Ok.ensures.sound; ends = answered_ends (answers_by c.args.direction) (message_named names name) name told c.answer_in.result h c.answer_in.ensures.did }))

pub returns-in-Err-clause-among : goal.returns-in-Err-clause-among
returns-in-Err-clause-among g c =
    let stat = c.in-Err.status in
    of_first (of_root stat) (of_values stat) (root_among c.args.root.now (g.T.Tree.files c.args.tree.now) stat c.in-Err.ensures.refused)

pub returns-clause-among : goal.returns-clause-among
returns-clause-among g c =
    let stat = c.answer_in.result in
    of_second (of_root stat) (of_values stat) (values_among (answers_by c.args.direction) _ c.args.name.now stat _ c.answer_in.ensures.did)

pub returns-clause-usage : goal.returns-clause-usage
returns-clause-usage g c = no_usage (answers_by c.args.direction) _ c.args.name.now _ c.answer_in.result c.answer_in.ensures.did

pub returns-clause-cause : goal.returns-clause-cause
returns-clause-cause g c =
    let names = c.in-Ok.names in
    let name = c.args.name.now in
    let told = flow (g.L.Source.left c.args.input.now) (g.L.Source.left c.answer_in.new.input) (g.O.Sink.written c.args.out.now) (g.O.Sink.written c.answer_in.new.out) in record {
      read = λ e. inr (c.answer_in.ensures.read e);
      untaken = λ e. absurd cc;
      refused = λ e. c.answer_in.ensures.untaken (refused_none (answers_by c.args.direction) (message_named names name) name told c.answer_in.result e c.answer_in.ensures.did);
      early = λ _. c.in-Ok.ensures.cause;
      write = c.answer_in.ensures.write;
      unread = c.answer_in.ensures.unread;
      unwritten = c.answer_in.ensures.unwritten;
      unserved = λ _ e. c.in-Ok.ensures.cause;
    }
