-- The laws of registers, over every list of requests, of which the newest is first.
use Rattle.std.specs.Prelude.{◌≡◌, ◌≢◌, ℕ, ◌≤◌, ◌↔◌, Bool, false, ◌&&◌, if◌then◌else◌, IsTrue, List}
use Rattle.std.specs.Prelude.{[], ◌∷◌, ◌++◌, Some, None, length, ⊤}
use Rattle.std.specs.List.{All}
use Rattle.std.specs.Str.{bytes_eq}
use Rattle.std_types.specs.RegisterValues.{FitsRegisterValue}
use Rattle.std_types.specs.declared.register_value.RegisterValue.{RegisterValue}
use Rattle.std_types.specs.declared.register_value.RegisterValue.TheVariants as V
use Rattle.std_types.specs.declared.registers.Register.{Register}
use Rattle.register_service.specs.Kept.{AreKept, AreRegisters, IsAt, IsOfVariant}
use Rattle.register_service.specs.RegisterMap.{Access, Listing, Request, access_reply, after}
use Rattle.register_service.specs.RegisterMap.{after_access, name_at, replies, reply, takes}
use Rattle.register_service.specs.Within.{is_allowed, is_within, limits_of}

-- the value that a register has by the requests: that of the newest access to its name with a value
-- that it takes, else the one that it was opened with
abbrev pub last_written : (RegisterValue → Bool) → List ℕ → RegisterValue → List Request
    → RegisterValue
last_written takes name opened [] = opened
last_written takes name opened (Access n v ∷ past) =
    if bytes_eq name n && takes v then v else last_written takes name opened past
last_written takes name opened (Listing number ∷ past) = last_written takes name opened past

-- no register has this name
abbrev pub IsUnknown : List ℕ → List Register → Type 0
IsUnknown name registers = All (λ r. r.name ≢ name) registers

-- each value that these requests bear is a register value
abbrev pub AllFit : List Request → Type 0
AllFit [] = ⊤
AllFit (Access name v ∷ past) = FitsRegisterValue v × AllFit past
AllFit (Listing number ∷ past) = AllFit past

-- answers that allow a register no value of its variant outside its limits
abbrev pub KeepWithin : (ℕ → RegisterValue → Bool) → List Register → Type 0
KeepWithin allowed registers = (i : ℕ) (r : Register) (v : RegisterValue) → IsAt registers i r → IsOfVariant r v
    → IsTrue (allowed i v) → IsTrue (is_within r.limits v)

-- what holds after requests to registers that were opened, where a guard answers by allowed; r is
-- the register with the number i as it was opened
pub record HoldAfter (allowed : ℕ → RegisterValue → Bool) (opened : List Register)
    (past : List Request) : Type 0 where
  -- there are as many, and each is as it was opened, but for its value: the last one written to its
  -- name that it takes
  pub number : length (after allowed opened past) ≡ length opened
  pub value : (i : ℕ) (r : Register) → AreRegisters opened → IsAt opened i r
      → IsAt (after allowed opened past) i (record r { value = last_written (takes allowed i r) r.name r.value past })
  pub read_only : (i : ℕ) (r : Register) → AreRegisters opened → IsAt opened i r → r.mutable ≡ false
      → IsAt (after allowed opened past) i r
  -- an access to it is answered with the value that it has by all requests, the access too
  pub known : (i : ℕ) (r : Register) (v : RegisterValue) → AreRegisters opened → IsAt opened i r
      → access_reply allowed (after allowed opened past) r.name v
      ≡ reply r.mutable (last_written (takes allowed i r) r.name r.value (Access r.name v ∷ past))
  -- an access to an unknown name is answered with the empty value, not mutable, and changes nothing
  pub unknown : (name : List ℕ) (v : RegisterValue) → IsUnknown name opened
      → access_reply allowed (after allowed opened past) name v ≡ reply false V.Empty
  pub unknown_stays : (name : List ℕ) (v : RegisterValue) → IsUnknown name opened
      → after allowed opened (Access name v ∷ past) ≡ after allowed opened past
  -- a read changes nothing
  pub read : (name : List ℕ)
      → after allowed opened (Access name V.Empty ∷ past) ≡ after allowed opened past
  -- a listing gives the names in the order in which they were opened
  pub listed : (i : ℕ) → name_at (after allowed opened past) i ≡ name_at opened i
  -- the limits never change
  pub limits : limits_of (after allowed opened past) ≡ limits_of opened
  -- each register stays within its limits where the guard keeps it there
  pub within : KeepWithin allowed opened → AreKept opened → AllFit past
      → AreKept (after allowed opened past)

pub record RegisterLaws : Type 0 where
  pub after_all : (allowed : ℕ → RegisterValue → Bool) (opened : List Register) (past : List Request) → HoldAfter allowed opened past
  -- later requests find what the earlier ones left
  pub parts : (allowed : ℕ → RegisterValue → Bool) (opened : List Register) (newer past : List Request)
      → after allowed opened (newer ++ past) ≡ after allowed (after allowed opened past) newer
  pub replies_in_parts : (allowed : ℕ → RegisterValue → Bool) (opened : List Register) (newer past : List Request)
      → replies allowed opened (newer ++ past) ≡ replies allowed (after allowed opened past) newer ++ replies allowed opened past
  -- an access changes no limits, so that one list of them counts for a whole run
  pub limits_stay : (allowed : ℕ → RegisterValue → Bool) (registers : List Register) (name : List ℕ) (v : RegisterValue)
      → limits_of (after_access allowed registers name v) ≡ limits_of registers
  -- the reply to an access is that to a read behind it
  pub read_again : (allowed : ℕ → RegisterValue → Bool) (registers : List Register) (name : List ℕ) (v : RegisterValue) → AreRegisters registers
      → access_reply allowed (after_access allowed registers name v) name V.Empty ≡ access_reply allowed registers name v
  -- each name is listed once, and nothing past the last
  pub listed_once : (registers : List Register) (i j : ℕ) (name : List ℕ) → AreRegisters registers
      → name_at registers i ≡ Some name → name_at registers j ≡ Some name → i ≡ j
  pub listed_all : (registers : List Register) (i : ℕ)
      → (name_at registers i ≡ None) ↔ (length registers ≤ i)
  -- a guard that goes by the limits keeps registers within them
  pub by_limits : (registers : List Register)
      → KeepWithin (is_allowed (limits_of registers)) registers
