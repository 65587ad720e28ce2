-- What every call of a tree keeps, whether its files are told or not.
use Rattle.std.specs.Prelude.{◌≡◌, ◌≤◌, ℕ, Bool, true, false, List, Result, Ok, Err, drop, ⊤}
use Rattle.cy_outside.specs.Outside.{Rose}
use Rattle.cy_outside.specs.Calls.{one_more}
use Rattle.cy_outside.specs.declared.tree.TreeError.{TreeError}
use Rattle.cy_outside.specs.declared.tree.TreeError.TheVariants.{Failed, NoMemory}
use Rattle.cy_outside.specs.declared.tree.Got.{Got}
use Rattle.cy_outside.specs.declared.tree.Got.TheVariants.{Bytes, Absent, Folder}

-- a call failed only where its count rose; every other answer leaves the count as it was
abbrev pub HasTreeCause : {T : Type 0} → ℕ → ℕ → Result T TreeError → Type 0
HasTreeCause old new (Ok answer) = new ≡ old
HasTreeCause old new (Err Failed) = Rose old new
HasTreeCause old new (Err NoMemory) = new ≡ old

-- a call that failed counted one fault, and every other answer leaves the count as it was
abbrev pub CountsFault : {T : Type 0} → ℕ → ℕ → Result T TreeError → Type 0
CountsFault old new (Ok answer) = new ≡ old
CountsFault old new (Err Failed) = new ≡ one_more old
CountsFault old new (Err NoMemory) = new ≡ old

-- no more bytes than the buffer has room for
abbrev pub IsWithin : Got → ℕ → Type 0
IsWithin (Bytes n) room = n ≤ room
IsWithin Absent room = ⊤
IsWithin Folder room = ⊤

-- the buffer is as it was behind the bytes that it got
abbrev pub IsLeft : Got → List ℕ → List ℕ → Type 0
IsLeft (Bytes n) before after = drop n after ≡ drop n before
IsLeft Absent before after = after ≡ before
IsLeft Folder before after = after ≡ before

-- a call of a tree failed exactly where it was to fail
abbrev pub FailsWhere : {T : Type 0} → Bool → Result T TreeError → Type 0
FailsWhere is_failing (Ok answer) = is_failing ≡ false
FailsWhere is_failing (Err Failed) = is_failing ≡ true
FailsWhere is_failing (Err NoMemory) = is_failing ≡ false
