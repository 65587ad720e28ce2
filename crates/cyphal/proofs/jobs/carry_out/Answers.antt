use Rattle.std.proofs.Common.{◌≡◌, false, inl, inr, refl, subst, sym}
use Rattle.cyphal.specs.Words.{asked_by}
use Rattle.cyphal.specs.jobs.{job_of}
use Rattle.cyphal.specs.declared.words.Accepted.{Accepted}
use Rattle.cyphal.proofs.CarriedOut.{for_given, printed_out, read_out}
use Rattle.cyphal.proofs.TreeCalls.{given_calls, no_calls}
use Rattle.cyphal.proofs.statuses.Among.{compile_among, compat_among, versions_among, changes_among, gen_among, log_among}
use Rattle.cyphal.proofs.jobs.carry_out.Goals as goal

pub returns-in-Compile-clause-done : goal.returns-in-Compile-clause-done
returns-in-Compile-clause-done g c =
    let done = c.compile_root.ensures in
    for_given _ _ _ _ _ _ c.in-Compile.is
    (printed_out _ _ c.compile_root.result _ _ refl c.nothing.result c.nothing.ensures _ _ _ _ refl refl done.answer (compile_among _ _ c.compile_root.result done.answer) done.cause done.ran (λ d n. (d, n)))

pub returns-in-Compat-clause-done : goal.returns-in-Compat-clause-done
returns-in-Compat-clause-done g c =
    let done = c.compat_types.ensures in
    for_given _ _ _ _ _ _ c.in-Compat.is
    (printed_out _ _ c.compat_types.result _ _ refl c.nothing-in-Compat.result c.nothing-in-Compat.ensures _ _ _ _ refl refl done.answer (compat_among _ _ _ _ c.compat_types.result done.answer) done.cause done.ran (λ d n. (d, n)))

pub returns-in-Versions-clause-done : goal.returns-in-Versions-clause-done
returns-in-Versions-clause-done g c =
    let done = c.compare_versions.ensures in
    for_given _ _ _ _ _ _ c.in-Versions.is
    (printed_out _ _ c.compare_versions.result _ _ refl c.nothing-in-Versions.result c.nothing-in-Versions.ensures _ _ _ _ refl refl done.answer (versions_among _ _ c.compare_versions.result done.answer) done.cause done.ran (λ d n. (d, n)))

pub returns-in-Changes-clause-done : goal.returns-in-Changes-clause-done
returns-in-Changes-clause-done g c =
    let done = c.tell_changes.ensures in
    for_given _ _ _ _ _ _ c.in-Changes.is
    (printed_out _ _ c.tell_changes.result _ _ refl c.nothing-in-Changes.result c.nothing-in-Changes.ensures _ _ _ _ refl refl done.answer (changes_among _ _ _ c.tell_changes.result done.answer) done.cause done.ran (λ d n. (d, n)))

pub returns-in-Encode-clause-done : goal.returns-in-Encode-clause-done
returns-in-Encode-clause-done g c =
    let done = c.answer_lines.ensures in
    for_given _ _ _ _ _ _ c.in-Encode.is
    (read_out _ _ c.answer_lines.result _ _ refl c.nothing-in-Encode.result c.nothing-in-Encode.ensures g.L.Source.left _ _ _ _ refl done.answer done.among done.cause done.ran (λ d n. (d, n)))

pub returns-in-Decode-clause-done : goal.returns-in-Decode-clause-done
returns-in-Decode-clause-done g c =
    let done = c.answer_lines-in-Decode.ensures in
    for_given _ _ _ _ _ _ c.in-Decode.is
    (read_out _ _ c.answer_lines-in-Decode.result _ _ refl c.nothing-in-Decode.result c.nothing-in-Decode.ensures g.L.Source.left _ _ _ _ refl done.answer done.among done.cause done.ran (λ d n. (d, n)))

pub returns-in-Run-clause-done : goal.returns-in-Run-clause-done
returns-in-Run-clause-done g c =
    for_given _ _ _ _ _ _ c.in-Run.is c.run_plan.ensures.done

pub returns-in-Bound-clause-done : goal.returns-in-Bound-clause-done
returns-in-Bound-clause-done g c =
    let done = c.bound_plan.ensures in
    for_given _ _ _ _ _ _ c.in-Bound.is
    (printed_out _ _ c.bound_plan.result _ _ refl c.nothing-in-Bound.result c.nothing-in-Bound.ensures _ _ _ _ refl refl done.answer done.among done.cause done.ran (λ d n. (d, n)))

pub returns-in-Migrate-clause-done : goal.returns-in-Migrate-clause-done
returns-in-Migrate-clause-done g c =
    let done = c.migrate_plan.ensures in
    for_given _ _ _ _ _ _ c.in-Migrate.is
    (printed_out _ _ c.migrate_plan.result _ _ refl c.nothing-in-Migrate.result c.nothing-in-Migrate.ensures _ _ _ _ refl refl done.answer done.among done.cause done.ran (λ d n. (d, n)))

pub returns-in-Gen-clause-done : goal.returns-in-Gen-clause-done
returns-in-Gen-clause-done g c =
    let done = c.generated.ensures in
    for_given _ _ _ _ _ _ c.in-Gen.is
    (printed_out _ _ c.generated.result _ _ refl c.nothing-in-Gen.result c.nothing-in-Gen.ensures _ _ _ _ refl refl done.answer (gen_among _ c.generated.result _ _ done.ran) (done.cause (g.T.Tree.faults c.args.tree.now)) (inr done.ran) (λ d n. (d, n)))

pub returns-in-Monitor-clause-done : goal.returns-in-Monitor-clause-done
returns-in-Monitor-clause-done g c =
    let done = c.hear_log.ensures in
    for_given _ _ _ _ _ _ c.in-Monitor.is
    (read_out _ _ c.hear_log.result _ _ refl c.nothing-in-Monitor.result c.nothing-in-Monitor.ensures g.L.Source.left _ _ _ _ refl done.answer (log_among done.ran.ended c.hear_log.result done.ran.is) (done.cause (g.T.Tree.faults c.args.tree.now)) (inr done.ran) (λ d n. (d, n)))

pub returns-in-Allocate-clause-done : goal.returns-in-Allocate-clause-done
returns-in-Allocate-clause-done g c =
    let done = c.hear_log-in-Allocate.ensures in
    for_given _ _ _ _ _ _ c.in-Allocate.is
    (read_out _ _ c.hear_log-in-Allocate.result _ _ refl c.nothing-in-Allocate.result c.nothing-in-Allocate.ensures g.L.Source.left _ _ _ _ refl done.answer (log_among done.ran.ended c.hear_log-in-Allocate.result done.ran.is) (done.cause (g.T.Tree.faults c.args.tree.now)) (inr done.ran) (λ d n. (d, n)))

pub returns-in-Fetch-clause-done : goal.returns-in-Fetch-clause-done
returns-in-Fetch-clause-done g c =
    let done = c.fetch_file.ensures in
    for_given _ _ _ _ _ _ c.in-Fetch.is
    (read_out _ _ c.fetch_file.result _ _ refl c.nothing-in-Fetch.result c.nothing-in-Fetch.ensures g.L.Source.left _ _ _ _ refl done.answer (log_among done.ran.listened.ended c.fetch_file.result done.ran.listened.is) (done.cause (g.T.Tree.faults c.args.tree.now)) (inr done.ran) (λ d n. (d, n)))

pub returns-in-Order-clause-done : goal.returns-in-Order-clause-done
returns-in-Order-clause-done g c =
    let done = c.order_lines.ensures in
    for_given _ _ _ _ _ _ c.in-Order.is
    (read_out _ _ c.order_lines.result _ _ refl c.nothing-in-Order.result c.nothing-in-Order.ensures g.L.Source.left _ _ _ _ refl done.answer (log_among done.ran.ended c.order_lines.result done.ran.is) (done.cause (g.T.Tree.faults c.args.tree.now)) (inr done.ran) (λ d n. (d, n)))

pub returns-in-Survey-clause-done : goal.returns-in-Survey-clause-done
returns-in-Survey-clause-done g c =
    let done = c.survey_buses.ensures in
    for_given _ _ _ _ _ _ c.in-Survey.is
    (read_out _ _ c.survey_buses.result _ _ refl c.nothing-in-Survey.result c.nothing-in-Survey.ensures g.L.Source.left _ _ _ _ refl done.answer (log_among done.ran.ended c.survey_buses.result done.ran.is) (done.cause (g.T.Tree.faults c.args.tree.now)) (inr done.ran) (λ d n. (d, n)))

pub returns-in-Nodes-clause-done : goal.returns-in-Nodes-clause-done
returns-in-Nodes-clause-done g c =
    let done = c.watch_nodes.ensures in
    for_given _ _ _ _ _ _ c.in-Nodes.is
    (read_out _ _ c.watch_nodes.result _ _ refl c.nothing-in-Nodes.result c.nothing-in-Nodes.ensures g.L.Source.left _ _ _ _ refl done.answer (log_among done.ran.ended c.watch_nodes.result done.ran.is) (done.cause (g.T.Tree.faults c.args.tree.now)) (inr done.ran) (λ d n. (d, n)))

pub returns-in-Explain-clause-done : goal.returns-in-Explain-clause-done
returns-in-Explain-clause-done g c =
    let done = c.explain_plan.ensures in
    for_given _ _ _ _ _ _ c.in-Explain.is
    (read_out _ _ c.explain_plan.result _ _ refl c.nothing-in-Explain.result c.nothing-in-Explain.ensures g.L.Source.left _ _ _ _ refl done.answer done.among done.cause done.ran (λ d n. (d, n)))

pub returns-in-Compile-clause-called : goal.returns-in-Compile-clause-called
returns-in-Compile-clause-called g c = λ _. given_calls _ _ _ _ _ c.in-Compile.is c.compile_root.ensures.calls

pub returns-in-Compat-clause-called : goal.returns-in-Compat-clause-called
returns-in-Compat-clause-called g c = λ _. given_calls _ _ _ _ _ c.in-Compat.is c.compat_types.ensures.calls

pub returns-in-Changes-clause-called : goal.returns-in-Changes-clause-called
returns-in-Changes-clause-called g c = λ _. given_calls _ _ _ _ _ c.in-Changes.is c.tell_changes.ensures.calls

pub returns-in-Encode-clause-called : goal.returns-in-Encode-clause-called
returns-in-Encode-clause-called g c = λ _. given_calls _ _ _ _ _ c.in-Encode.is c.answer_lines.ensures.calls

pub returns-in-Decode-clause-called : goal.returns-in-Decode-clause-called
returns-in-Decode-clause-called g c = λ _. given_calls _ _ _ _ _ c.in-Decode.is c.answer_lines-in-Decode.ensures.calls

pub returns-in-Bound-clause-called : goal.returns-in-Bound-clause-called
returns-in-Bound-clause-called g c = λ _. given_calls _ _ _ _ _ c.in-Bound.is c.bound_plan.ensures.calls

pub returns-in-Migrate-clause-called : goal.returns-in-Migrate-clause-called
returns-in-Migrate-clause-called g c = λ _. given_calls _ _ _ _ _ c.in-Migrate.is c.migrate_plan.ensures.calls

pub returns-in-Explain-clause-called : goal.returns-in-Explain-clause-called
returns-in-Explain-clause-called g c = λ _. given_calls _ _ _ _ _ c.in-Explain.is c.explain_plan.ensures.calls

pub returns-in-Run-clause-called : goal.returns-in-Run-clause-called
returns-in-Run-clause-called g c h = elim h [
  | inl serves ↦ absurd (subst (λ (it : Accepted). (job_of (asked_by it)).serves ≡ false → ⊥) (sym c.in-Run.is) (λ e. cc) serves)
  | inr refused ↦ given_calls _ _ _ _ _ c.in-Run.is (c.run_plan.ensures.refused refused)
]

pub returns-in-Gen-clause-called : goal.returns-in-Gen-clause-called
returns-in-Gen-clause-called g c = λ _. given_calls _ _ _ _ _ c.in-Gen.is (no_calls (λ files. 0) _ _)

pub returns-in-Monitor-clause-called : goal.returns-in-Monitor-clause-called
returns-in-Monitor-clause-called g c = λ _. given_calls _ _ _ _ _ c.in-Monitor.is (no_calls (λ files. 0) _ _)

pub returns-in-Allocate-clause-called : goal.returns-in-Allocate-clause-called
returns-in-Allocate-clause-called g c = λ _. given_calls _ _ _ _ _ c.in-Allocate.is (no_calls (λ files. 0) _ _)

pub returns-in-Fetch-clause-called : goal.returns-in-Fetch-clause-called
returns-in-Fetch-clause-called g c = λ _. given_calls _ _ _ _ _ c.in-Fetch.is (no_calls (λ files. 0) _ _)

pub returns-in-Order-clause-called : goal.returns-in-Order-clause-called
returns-in-Order-clause-called g c = λ _. given_calls _ _ _ _ _ c.in-Order.is (no_calls (λ files. 0) _ _)

pub returns-in-Survey-clause-called : goal.returns-in-Survey-clause-called
returns-in-Survey-clause-called g c = λ _. given_calls _ _ _ _ _ c.in-Survey.is (no_calls (λ files. 0) _ _)

pub returns-in-Nodes-clause-called : goal.returns-in-Nodes-clause-called
returns-in-Nodes-clause-called g c = λ _. given_calls _ _ _ _ _ c.in-Nodes.is (no_calls (λ files. 0) _ _)

pub returns-in-Versions-clause-called : goal.returns-in-Versions-clause-called
returns-in-Versions-clause-called g c = λ _. given_calls _ _ _ _ _ c.in-Versions.is c.compare_versions.ensures.calls

pub returns-in-Compile-clause-needed : goal.returns-in-Compile-clause-needed
returns-in-Compile-clause-needed g c = λ _ _. given_calls _ _ _ _ _ c.in-Compile.is c.compile_root.ensures.calls

pub returns-in-Compat-clause-needed : goal.returns-in-Compat-clause-needed
returns-in-Compat-clause-needed g c = λ _ _. given_calls _ _ _ _ _ c.in-Compat.is c.compat_types.ensures.calls

pub returns-in-Changes-clause-needed : goal.returns-in-Changes-clause-needed
returns-in-Changes-clause-needed g c = λ _ _. given_calls _ _ _ _ _ c.in-Changes.is c.tell_changes.ensures.calls

pub returns-in-Encode-clause-needed : goal.returns-in-Encode-clause-needed
returns-in-Encode-clause-needed g c = λ _ _. given_calls _ _ _ _ _ c.in-Encode.is c.answer_lines.ensures.calls

pub returns-in-Decode-clause-needed : goal.returns-in-Decode-clause-needed
returns-in-Decode-clause-needed g c = λ _ _. given_calls _ _ _ _ _ c.in-Decode.is c.answer_lines-in-Decode.ensures.calls

pub returns-in-Bound-clause-needed : goal.returns-in-Bound-clause-needed
returns-in-Bound-clause-needed g c = λ _ _. given_calls _ _ _ _ _ c.in-Bound.is c.bound_plan.ensures.calls

pub returns-in-Migrate-clause-needed : goal.returns-in-Migrate-clause-needed
returns-in-Migrate-clause-needed g c = λ _ _. given_calls _ _ _ _ _ c.in-Migrate.is c.migrate_plan.ensures.calls

pub returns-in-Explain-clause-needed : goal.returns-in-Explain-clause-needed
returns-in-Explain-clause-needed g c = λ _ _. given_calls _ _ _ _ _ c.in-Explain.is c.explain_plan.ensures.calls

pub returns-in-Run-clause-needed : goal.returns-in-Run-clause-needed
returns-in-Run-clause-needed g c = λ fault input. given_calls _ _ _ _ _ c.in-Run.is (c.run_plan.ensures.needed fault input)

pub returns-in-Gen-clause-needed : goal.returns-in-Gen-clause-needed
returns-in-Gen-clause-needed g c = λ _ _. given_calls _ _ _ _ _ c.in-Gen.is (no_calls (λ files. 0) _ _)

pub returns-in-Monitor-clause-needed : goal.returns-in-Monitor-clause-needed
returns-in-Monitor-clause-needed g c = λ _ _. given_calls _ _ _ _ _ c.in-Monitor.is (no_calls (λ files. 0) _ _)

pub returns-in-Allocate-clause-needed : goal.returns-in-Allocate-clause-needed
returns-in-Allocate-clause-needed g c = λ _ _. given_calls _ _ _ _ _ c.in-Allocate.is (no_calls (λ files. 0) _ _)

pub returns-in-Fetch-clause-needed : goal.returns-in-Fetch-clause-needed
returns-in-Fetch-clause-needed g c = λ _ _. given_calls _ _ _ _ _ c.in-Fetch.is (no_calls (λ files. 0) _ _)

pub returns-in-Order-clause-needed : goal.returns-in-Order-clause-needed
returns-in-Order-clause-needed g c = λ _ _. given_calls _ _ _ _ _ c.in-Order.is (no_calls (λ files. 0) _ _)

pub returns-in-Survey-clause-needed : goal.returns-in-Survey-clause-needed
returns-in-Survey-clause-needed g c = λ _ _. given_calls _ _ _ _ _ c.in-Survey.is (no_calls (λ files. 0) _ _)

pub returns-in-Nodes-clause-needed : goal.returns-in-Nodes-clause-needed
returns-in-Nodes-clause-needed g c = λ _ _. given_calls _ _ _ _ _ c.in-Nodes.is (no_calls (λ files. 0) _ _)

pub returns-in-Versions-clause-needed : goal.returns-in-Versions-clause-needed
returns-in-Versions-clause-needed g c = λ _ _. given_calls _ _ _ _ _ c.in-Versions.is c.compare_versions.ensures.calls
