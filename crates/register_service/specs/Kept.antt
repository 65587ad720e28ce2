-- What holds of the registers of a node after every call, and what is asked of their guard.
use Rattle.std.specs.Prelude.{◌≡◌, ◌≢◌, ℕ, ◌<◌, ◌≤◌, ◌^◌, Bool, true, IsTrue, List, length}
use Rattle.std.specs.Prelude.{slice_index_or}
use Rattle.std.specs.List.{All, AllPairs}
use Rattle.std.specs.Fn.{Shared}
use denote.Ref.{Bor}
use Rattle.std_types.specs.RegisterValues.{FitsRegisterValue}
use Rattle.std_types.specs.declared.register_value.RegisterValue.{RegisterValue}
use Rattle.std_types.specs.declared.registers.Register.{Register}
use Rattle.register_service.specs.declared.service.Registers.{Registers}
use Rattle.register_service.specs.Variants.{variant}
use Rattle.register_service.specs.RegisterMap.{Request, after}
use Rattle.register_service.specs.Within.{is_within}

-- registers of a node: at most 256, with distinct names of at most 255 bytes, and values that are
-- register values
pub record AreRegisters (registers : List Register) : Type 0 where
  pub few : length registers ≤ 256
  pub distinct : AllPairs (λ r s. r.name ≢ s.name) registers
  pub short : All (λ r. length r.name ≤ 255) registers
  pub fit : All (λ r. FitsRegisterValue r.value) registers

-- each within its limits
abbrev pub AreWithin : List Register → Type 0
AreWithin registers = All (λ r. IsTrue (is_within r.limits r.value)) registers

pub record AreKept (registers : List Register) : Type 0 where
  pub sound : AreRegisters registers
  pub within : AreWithin registers

-- r is the register with this number
abbrev pub IsAt : List Register → ℕ → Register → Type 0
IsAt registers number r = (number < length registers) × (r ≡ slice_index_or registers number r)

-- a value that a guard can be asked about: one of the register's variant
abbrev pub IsOfVariant : Register → RegisterValue → Type 0
IsOfVariant r v = (variant v ≡ variant r.value) × FitsRegisterValue v

-- a guard of registers, by what may be asked and answered: it may be asked about each number of a
-- register with each value of its variant, and yes means that the value is within the register's
-- limits
pub record IsGuard {G : Type 0} (g : Shared G (ℕ × (Bor RegisterValue × Unit {0})) Bool) (guard : G)
    (registers : List Register) : Type 0 where
  pub callable : (i : ℕ) (r : Register) (p : Bor RegisterValue) → i < length registers
      → r ≡ slice_index_or registers i r → IsOfVariant r p.now
      → g.pre guard (i, (p, tt))
  pub within : (i : ℕ) (r : Register) (p : Bor RegisterValue) → i < length registers
      → r ≡ slice_index_or registers i r → IsOfVariant r p.now
      → g.post guard (i, (p, tt)) true → IsTrue (is_within r.limits p.now)

-- a guard of the register r with the number i: it may be asked about each value of its variant, and
-- yes means that the value is within the register's limits
pub record IsGuardOf {G : Type 0} (g : Shared G (ℕ × (Bor RegisterValue × Unit {0})) Bool)
    (guard : G) (i : ℕ) (r : Register) : Type 0 where
  pub callable : (p : Bor RegisterValue) → IsOfVariant r p.now → g.pre guard (i, (p, tt))
  pub within : (p : Bor RegisterValue) → IsOfVariant r p.now → g.post guard (i, (p, tt)) true
      → IsTrue (is_within r.limits p.now)

-- the guard answers by a function of the register's number and the value
abbrev pub AllowsBy : {G : Type 0} → Shared G (ℕ × (Bor RegisterValue × Unit {0})) Bool → G
    → (ℕ → RegisterValue → Bool) → Type 0
AllowsBy g guard allowed = (i : ℕ) (p : Bor RegisterValue) (b : Bool) → i < 2 ^ 16 → g.post guard (i, (p, tt)) b → b ≡ allowed i p.now

-- registers behind their guard: what `open` makes and every call keeps
pub record AreGuarded {G : Type 0} (g : Shared G (ℕ × (Bor RegisterValue × Unit {0})) Bool)
    (registers : Registers G) : Type 0 where
  pub kept : AreKept registers.list.items
  pub guard : IsGuard g registers.guard registers.list.items

-- registers that were opened with a list, and a guard that answers by a function, hold what that
-- list holds after these requests, of which the newest is first
pub record Stand {G : Type 0} (g : Shared G (ℕ × (Bor RegisterValue × Unit {0})) Bool)
    (allowed : ℕ → RegisterValue → Bool) (opened : List Register) (past : List Request)
    (registers : Registers G) : Type 0 where
  pub allows : AllowsBy g registers.guard allowed
  pub holds : registers.list.items ≡ after allowed opened past
