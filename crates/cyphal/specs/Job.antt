-- What is said of a command: each file of specs/jobs/ makes one job.
use Rattle.std.specs.Prelude.{◌≡◌, ◌≢◌, ◌≤◌, ◌+◌, ℕ, Bool, true, false, List, Option, IfSome}
use Rattle.cy_outside.specs.Files.{Files}
use Rattle.cy_outside.specs.Outside.{Rose}
use Rattle.node_run.specs.Failures.{Failures}
use Rattle.node_run.specs.Ran.{Reported, no_numbers}
use Rattle.node_run.specs.ValueLines.{Flow, flow}
use Rattle.node_run.specs.declared.status.Status.{Status}
use Rattle.node_run.specs.declared.status.Status.TheVariants as status
use Rattle.cyphal.specs.Cause.{Outside}

-- what the outside tells as the call begins: the files of the tree, the bytes of the input, and
-- what was written before
pub record Told : Type 0 where
  pub files : Option Files
  pub input : Option (List ℕ)
  pub written : Option (List ℕ)

abbrev pub told_by : Option Files → Option (List ℕ) → Option (List ℕ) → Told
told_by files input written = record { files = files; input = input; written = written }

-- what a call came to: its status, what it reported, in which requests of files the tree failed
-- and how often it was called, what is left of the input, and what is written at its end
pub record Outcome : Type 0 where
  pub status : Status
  pub reported : Reported
  pub failures : Failures
  pub left : Option (List ℕ)
  pub written : Option (List ℕ)

abbrev pub outcome : Status → Reported → Failures → Option (List ℕ) → Option (List ℕ) → Outcome
outcome stat put failures left written =
    record { status = stat; reported = put; failures = failures; left = left; written = written }

-- what a command came to that is given neither an input nor a sink of lines: its status, and what
-- was written before and after it
pub record Printed : Type 0 where
  pub status : Status
  pub before : Option (List ℕ)
  pub after : Option (List ℕ)

abbrev pub printed : Status → Option (List ℕ) → Option (List ℕ) → Printed
printed stat before after = record { status = stat; before = before; after = after }

-- the same of any command
abbrev pub print_of : Told → Outcome → Printed
print_of told came = printed came.status told.written came.written

-- no line was put, nothing was counted, and no request was told in which the tree failed
pub record ReportsNothing (came : Outcome) : Type 0 where
  pub lines : came.reported.new ≡ came.reported.old
  pub counted : came.reported.numbers ≡ no_numbers
  pub failed : came.failures.new ≡ came.failures.old

-- a command with its arguments
pub record Job : Type 1 where
  -- whether it calls anything of the tree
  pub calls_tree : Bool
  -- how many calls of a tree with these files it needs at most before it takes of the input
  pub needs : Files → ℕ
  -- whether it takes of the input
  pub takes_input : Bool
  -- whether it answers requests of files of the tree
  pub serves : Bool
  -- whether it can end with a status, whatever is told
  pub may_end : Status → Bool
  -- whether all that decides its status is told
  pub is_told : Told → Bool
  -- a status is what it asks for, as far as what is told decides it
  pub expects : Told → Status → Type 0
  -- what it did, where it did something
  pub did : Told → Outcome → Type 0

-- a tree was called at most so often, where its files are told
abbrev pub CallsAtMost : (Files → ℕ) → Option Files → ℕ → ℕ → Type 0
CallsAtMost most told old new = IfSome told (λ files. new ≤ old + most files)

-- the statuses that may come at any time
abbrev pub is_fault : Status → Bool
is_fault status.ReadFault = true
is_fault status.WriteFault = true
is_fault status.NoMemory = true
is_fault other = false

-- the statuses of a command that came to the end of what counts of its input, or of what it
-- compares
abbrev pub is_settled : Status → Bool
is_settled status.Ok = true
is_settled (status.Log n why) = true
is_settled (status.Text n) = true
is_settled (status.Unreadable n path why) = true
is_settled (status.NotNewer path why) = true
is_settled status.LogLong = true
is_settled other = false

-- nothing was run, written or taken: no write failed, a read fault is one of the tree, and at any
-- other status the tree's count stays
pub record NotDone {L : Type 0} (told : Told) (came : Outcome) (old new : Outside L) : Type 0 where
  pub empty : ReportsNothing came
  pub written : came.written ≡ told.written
  pub not_settled : is_settled came.status ≡ false
  pub not_write : ¬ (came.status ≡ status.WriteFault)
  pub left : came.left ≡ told.input
  pub source : new.source ≡ old.source
  pub tree : came.status ≡ status.ReadFault → Rose old.tree new.tree
  pub kept : came.status ≢ status.ReadFault → new.tree ≡ old.tree

-- what a command that is given no sink of lines came to
abbrev pub flow_of : Told → Outcome → Flow
flow_of told came = flow told.input came.left told.written came.written

-- a command that is given neither an input nor a sink of lines wrote nothing
pub record WroteNothing (print : Printed) : Type 0 where
  pub written : print.after ≡ print.before
  pub not_settled : is_settled print.status ≡ false
  pub not_write : ¬ (print.status ≡ status.WriteFault)

-- the same of a command that is given an input: it took nothing either, a read fault is one of the
-- tree, and at any other status the tree's count stays
pub record TookNothing {L : Type 0} (print : Printed) (old new : Outside L) : Type 0 where
  pub nothing : WroteNothing print
  pub source : new.source ≡ old.source
  pub tree : print.status ≡ status.ReadFault → Rose old.tree new.tree
  pub kept : print.status ≢ status.ReadFault → new.tree ≡ old.tree
