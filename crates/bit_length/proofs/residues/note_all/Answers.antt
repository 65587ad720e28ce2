use Rattle.std.proofs.Common.{◌+◌, take, get_or}
use Rattle.std.proofs.lemmas.List.{take_all}
use Rattle.std.proofs.lemmas.List.Elements.{All-get_or}
use Rattle.bit_length.specs.Moved.{Moved}
use Rattle.bit_length.specs.Runs.{IsRun, InRun, InSome}
use Rattle.bit_length.proofs.MovedLemmas.{moved_either, short_run}
use Rattle.bit_length.proofs.ReachLemmas.{notes_then, notes_nothing}
use Rattle.bit_length.proofs.SetLemmas.{no_run, InSome-at}
use Rattle.bit_length.proofs.SumLemmas.{taken_more}
use Rattle.bit_length.proofs.residues.note_all.Goals as goal

pub loop-run-init : goal.loop-run-init
loop-run-init c = record {
  notes = notes_nothing c.args.by c.args.step c.args.reaches.now;
  most = c.requires.most;
}

pub note-requires-clause-short : goal.note-requires-clause-short
note-requires-clause-short c =
    let s = c.args.step in
    let runs = c.args.runs.now in
    let i = c.loop-run.run-index in
    short_run c.args.by s (get_or runs i no_run) (InSome s runs) (All-get_or (IsRun s) runs i no_run c.loop-run-test.true c.requires.runs) (λ n h. InSome-at s runs i n c.loop-run-test.true h) c.requires.short

pub loop-run-preserved : goal.loop-run-preserved
loop-run-preserved c =
    let s = c.args.step in
    let by = c.args.by in
    let runs = c.args.runs.now in
    let i = c.loop-run.run-index in
    let before = InSome s (take i runs) in
    let more = InSome s (take (i + 1) runs) in
    let run = InRun s (get_or runs i no_run) in
    record {
      notes = notes_then s c.args.reaches.now c.loop-run.reaches c.note.new.reaches (Moved by before) (Moved by run) (Moved by more) c.loop-run.auto.reaches (moved_either by before run more (taken_more s runs i c.loop-run-test.true)) c.loop-run.invariant.notes c.note.ensures.notes;
      most = c.note.ensures.most;
    }

pub returns : goal.returns
returns c = record {
  notes = rw (take_all c.loop-run.run-index c.args.runs.now c.loop-run-test.false) at c.loop-run.invariant.notes;
  most = c.loop-run.invariant.most;
}
