-- In which requests the tree failed in a run, and how often it was called.
use Rattle.std.specs.Prelude.{◌≡◌, ◌≤◌, ◌⊎◌, ◌+◌, ◌-◌, ◌^◌, ℕ, List, [], ◌∷◌, Option, length}
use Rattle.file_service.specs.Causes.{TellsFault}
use Rattle.node_core.specs.Files.{is_failed}
use Rattle.report_lines.specs.LineSinks.{put_behind}
use Rattle.node_core.specs.Steps.{Heard, Step, Tick, failed_at, failed_lines}
use Rattle.node_core.specs.declared.file_reply.FileReply.{FileReply}
use Rattle.node_core.specs.declared.file_reply.FileReply.TheVariants as files

-- how often a tree failed, and how often it was called
pub record TreeCounts : Type 0 where
  pub faults : ℕ
  pub calls : ℕ

abbrev pub tree_counts : ℕ → ℕ → TreeCounts
tree_counts faults calls = record { faults = faults; calls = calls }

-- the lines of failed requests that a sink told before, those that it tells now, and the tree's
-- counts before and now
pub record Failures : Type 0 where
  pub old : Option (List ℕ)
  pub new : Option (List ℕ)
  pub before : TreeCounts
  pub now : TreeCounts

abbrev pub failures : Option (List ℕ) → Option (List ℕ) → TreeCounts → TreeCounts → Failures
failures old new before now = record { old = old; new = new; before = before; now = now }

-- 1 where a request of a file was answered, by what the tree told of the file, and else 0
abbrev pub one_if_file : FileReply → ℕ
one_if_file files.NoFile = 0
one_if_file (files.Info reply) = 1
one_if_file (files.Name done) = 1
one_if_file (files.Bytes reply) = 1

-- the same of a step; in a tick none is
abbrev pub file_request_at : Step → ℕ
file_request_at (Heard rec file) = one_if_file file
file_request_at (Tick number moment) = 0

-- how many requests of files these steps answered
abbrev pub file_requests : List Step → ℕ
file_requests [] = 0
file_requests (step ∷ past) = file_requests past + file_request_at step

-- the count rose by one at least for each of these lines, or stands at its end
abbrev pub HasRisen : List ℕ → ℕ → ℕ → Type 0
HasRisen lines old new = (length lines + old ≤ new) ⊎ (2 ^ 64 - 1 ≤ new)

-- The lines are told on which requests of these steps ended in which the tree failed, and its count
-- of faults rose by as many. It was called at most once for each request of a file of these steps,
-- and at most once more, in a step that broke off behind them.
pub record TellsFailures (all : List Step) (f : Failures) : Type 0 where
  pub told : f.new ≡ put_behind f.old (failed_lines all)
  pub rose : HasRisen (failed_lines all) f.before.faults f.now.faults
  pub called : f.now.calls ≤ f.before.calls + file_requests all + 1

-- None broke off: the tree failed in no other request, so where there is none its count of faults
-- stays, and it was called at most once for each request of a file.
pub record AreFailures (all : List Step) (f : Failures) : Type 0 where
  pub tells : TellsFailures all f
  pub kept : failed_lines all ≡ [] → f.now.faults ≡ f.before.faults
  pub called : f.now.calls ≤ f.before.calls + file_requests all

-- the same of one step
pub record FailsAs (file : FileReply) (step : Step) (f : Failures) : Type 0 where
  pub told : f.new ≡ put_behind f.old (failed_at step)
  pub cause : TellsFault (is_failed file) f.before.faults f.now.faults
  pub called : f.now.calls ≤ f.before.calls + file_request_at step

-- a step broke off: nothing more is told, the count of faults doesn't fall, and the tree was called
-- at most once
pub record FailsUntold (f : Failures) : Type 0 where
  pub told : f.new ≡ f.old
  pub count : f.before.faults ≤ f.now.faults
  pub called : f.now.calls ≤ f.before.calls + 1
