-- Why a command ended as it did.
use Rattle.std.specs.Prelude.{◌≡◌, ◌≢◌, ◌⊎◌, ◌==◌, ◌||◌, ℕ, Bool, true, false}
use Rattle.cy_outside.specs.Outside.{Rose}
use Rattle.node_run.specs.declared.status.Status.{Status}
use Rattle.node_run.specs.declared.status.Status.TheVariants as status

-- the counts of faults of a tree and an output
pub record Counts : Type 0 where
  pub tree : ℕ
  pub out : ℕ

abbrev pub counts : ℕ → ℕ → Counts
counts tree out = record { tree = tree; out = out }

-- of a command that is given no input: a fault comes only where a count rose, that of the output
-- rises at a write fault alone, and that of the tree at a read fault alone
pub record HasCause (stat : Status) (old new : Counts) : Type 0 where
  pub usage : ¬ (stat ≡ status.Usage)
  pub read : stat ≡ status.ReadFault → Rose old.tree new.tree
  pub write : stat ≡ status.WriteFault → Rose old.out new.out
  pub unwritten : stat ≢ status.WriteFault → new.out ≡ old.out
  pub kept : stat ≢ status.ReadFault → new.tree ≡ old.tree

-- the counts of a tree, an input and an output, and the input
pub record Outside (L : Type 0) : Type 0 where
  pub tree : ℕ
  pub input : ℕ
  pub out : ℕ
  pub source : L

abbrev pub outside : {L : Type 0} → ℕ → ℕ → ℕ → L → Outside L
outside tree input out source = record { tree = tree; input = input; out = out; source = source }

-- the statuses of what is refused before any of the input is taken
abbrev pub is_refused : Status → Bool
is_refused status.Usage = true
is_refused (status.Dsdl file line why) = true
is_refused (status.Plan line why) = true
is_refused (status.NotNewer path why) = true
is_refused (status.NoFile path) = true
is_refused other = false

-- the same of the numbers with which a program ends
abbrev pub is_refusal : ℕ → Bool
is_refusal code = code == 1 || code == 2 || code == 3 || code == 7 || code == 12

-- The same of any command: the count of the input rises at a read fault alone. By whether it takes
-- of the input: where it does not, where it is refused, or where the tree failed, the input stays
-- as it was. And by whether it serves files: where it does not, the tree's count rises at a read
-- fault alone; where it does, that count stays where it is refused. That the tree fails in a
-- request of a file is no status.
pub record HasCauseOver {L : Type 0} (takes serves : Bool) (stat : Status)
    (old new : Outside L) : Type 0 where
  pub read : stat ≡ status.ReadFault
      → (Rose old.tree new.tree × (new.source ≡ old.source)) ⊎ Rose old.input new.input
  pub untaken : takes ≡ false → new.source ≡ old.source
  pub refused : is_refused stat ≡ true → new.source ≡ old.source
  pub early : is_refused stat ≡ true → new.tree ≡ old.tree
  pub write : stat ≡ status.WriteFault → Rose old.out new.out
  pub unread : stat ≢ status.ReadFault → new.input ≡ old.input
  pub unwritten : stat ≢ status.WriteFault → new.out ≡ old.out
  pub unserved : serves ≡ false → stat ≢ status.ReadFault → new.tree ≡ old.tree

-- the tree failed before any of the input was taken
pub record TreeFailed {L : Type 0} (stat : Status) (old new : Outside L) : Type 0 where
  pub read_fault : stat ≡ status.ReadFault
  pub rose : Rose old.tree new.tree
  pub source : new.source ≡ old.source

-- a call ended as it was to end, or memory was wanting, or the tree failed before any of the input
-- was taken
abbrev pub EndsAsDue : {L : Type 0} → Status → Status → Outside L → Outside L → Type 0
EndsAsDue due stat old new =
    (stat ≡ due) ⊎ ((stat ≡ status.NoMemory) ⊎ TreeFailed stat old new)
