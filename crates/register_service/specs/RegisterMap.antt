-- The register map: what registers answer to a list of accesses and listings, and what they hold
-- after it. A register's number is its place in the list, counted from 0. As names are distinct,
-- the list is a finite map from name to number, mutability, value and limits.
use Rattle.std.specs.Prelude.{◌≡◌, ℕ, ◌+◌, ◌==◌, Bool, false, not, ◌&&◌, ◌||◌, if◌then◌else◌, List}
use Rattle.std.specs.Prelude.{[], ◌∷◌, Option, Some, None, slice_get, slice_set}
use Rattle.std.specs.Str.{bytes_eq}
use Rattle.std.specs.Option.{option_map}
use Rattle.std_types.specs.declared.register.AccessReply.{AccessReply}
use Rattle.std_types.specs.declared.register.ListReply.{ListReply}
use Rattle.std_types.specs.declared.register_value.RegisterValue.{RegisterValue}
use Rattle.std_types.specs.declared.register_value.RegisterValue.TheVariants as V
use Rattle.std_types.specs.declared.registers.Register.{Register}
use Rattle.register_service.specs.Variants.{count, is_text, variant}

-- the register with a name, and its number, counted from one on
abbrev pub entry_from : ℕ → List ℕ → List Register → Option (ℕ × Register)
entry_from number name [] = None
entry_from number name (r ∷ rs) = if bytes_eq r.name name then Some (number, r) else entry_from (number + 1) name rs

abbrev pub entry : List ℕ → List Register → Option (ℕ × Register)
entry name registers = entry_from 0 name registers

-- whether a value is one that the register can be written with: not empty, of its variant, and with
-- as many items as it has, unless it is a string or unstructured
abbrev pub is_alike : RegisterValue → RegisterValue → Bool
is_alike held v = not (variant v == 0) && ((variant v == variant held) && (is_text v || (count v == count held)))

-- whether a register takes a value: it is mutable, the value is alike, and the guard says yes
abbrev pub takes : (ℕ → RegisterValue → Bool) → ℕ → Register → RegisterValue → Bool
takes allowed number r v = r.mutable && (is_alike r.value v && allowed number v)

-- the reply to an access: whether the register is mutable, and its value after the access; the time
-- is unknown, and nothing outlasts a restart
abbrev pub reply : Bool → RegisterValue → AccessReply
reply mutable v = record { timestamp = record { microsecond = 0 }; mutable = mutable; persistent = false; value = v }

-- an unknown register is answered with the empty value, not mutable
abbrev pub reply_at : (ℕ → RegisterValue → Bool) → Option (ℕ × Register) → RegisterValue
    → AccessReply
reply_at allowed None v = reply false V.Empty
reply_at allowed (Some e) v = reply e.1.mutable (if takes allowed e.0 e.1 v then v else e.1.value)

-- the registers after an access to the one with this number
abbrev pub written_at : (ℕ → RegisterValue → Bool) → List Register → Option (ℕ × Register)
    → RegisterValue → List Register
written_at allowed registers None v = registers
written_at allowed registers (Some e) v =
    if takes allowed e.0 e.1 v then slice_set registers e.0 (record e.1 { value = v }) else registers

abbrev pub access_reply : (ℕ → RegisterValue → Bool) → List Register → List ℕ → RegisterValue
    → AccessReply
access_reply allowed registers name v = reply_at allowed (entry name registers) v

abbrev pub after_access : (ℕ → RegisterValue → Bool) → List Register → List ℕ → RegisterValue
    → List Register
after_access allowed registers name v = written_at allowed registers (entry name registers) v

-- an access to registers left these and was answered so: as the guard allowed the value or not
pub record IsAccess (registers : List Register) (name : List ℕ) (v : RegisterValue)
    (left : List Register) (r : AccessReply) : Type 0 where
  pub allows : Bool
  pub leaves : left ≡ after_access (λ number w. allows) registers name v
  pub answers : r ≡ access_reply (λ number w. allows) registers name v

-- the name of the register with a number
abbrev pub name_at : List Register → ℕ → Option (List ℕ)
name_at registers number = option_map (λ r. r.name) (slice_get registers number)

-- the reply to a listing: that name, or the empty one past the last register
abbrev pub listed : Option (List ℕ) → ListReply
listed None = record { name = [] }
listed (Some name) = record { name = name }

abbrev pub list_reply : List Register → ℕ → ListReply
list_reply registers number = listed (name_at registers number)

-- what a client asks
pub data Request : Type 0 where
  Access : List ℕ → RegisterValue → Request
  Listing : ℕ → Request

-- what it is answered
pub data Reply : Type 0 where
  Accessed : AccessReply → Reply
  Listed : ListReply → Reply

abbrev pub after_request : (ℕ → RegisterValue → Bool) → List Register → Request → List Register
after_request allowed registers (Access name v) = after_access allowed registers name v
after_request allowed registers (Listing number) = registers

abbrev pub reply_to : (ℕ → RegisterValue → Bool) → List Register → Request → Reply
reply_to allowed registers (Access name v) = Accessed (access_reply allowed registers name v)
reply_to allowed registers (Listing number) = Listed (list_reply registers number)

-- the registers after a list of requests, with the newest first
abbrev pub after : (ℕ → RegisterValue → Bool) → List Register → List Request → List Register
after allowed registers [] = registers
after allowed registers (q ∷ past) = after_request allowed (after allowed registers past) q

-- the replies to a list of requests, with the newest first
abbrev pub replies : (ℕ → RegisterValue → Bool) → List Register → List Request → List Reply
replies allowed registers [] = []
replies allowed registers (q ∷ past) = reply_to allowed (after allowed registers past) q ∷ replies allowed registers past
