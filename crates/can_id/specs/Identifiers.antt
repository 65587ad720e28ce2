-- The identifiers of frames: the fields of each number, and the number of each set of fields.
use Rattle.std.specs.Prelude.{
  ◌≡◌,
  ◌≢◌,
  ◌<◌,
  ◌+◌,
  ◌*◌,
  ◌/◌,
  ◌%◌,
  ◌^◌,
  ◌==◌,
  ℕ,
  Bool,
  true,
  false,
  if◌then◌else◌,
  Option,
  Some,
  None,
}
use Rattle.std.specs.Prelude.{nat_lt, not, ◌||◌}
use Rattle.can_id.specs.declared.ident.Ident.{Ident}
use Rattle.can_id.specs.declared.ident.Ident.TheVariants.{Message, Anonymous, Service}
use Rattle.can_id.specs.declared.key.Key.{Key}
use Rattle.can_id.specs.declared.key.Kind.TheVariants.{Message as message, Request as request}
use Rattle.can_id.specs.declared.key.Kind.TheVariants.{Response as response}

-- the number that `count` bits of n make, from bit `at` on
abbrev pub field : ℕ → ℕ → ℕ → ℕ
field n at count = n / 2 ^ at % 2 ^ count

-- whether a bit of n is set
abbrev pub is_set : ℕ → ℕ → Bool
is_set n at = field n at 1 == 1

-- what a message's identifier says: bits 22 and 21 are ignored
abbrev pub message_of : ℕ → Ident
message_of n = if is_set n 24
    then Anonymous (field n 26 3) (field n 8 13) (field n 0 7)
    else Message (field n 26 3) (field n 8 13) (field n 0 7)

-- what a service's identifier says
abbrev pub service_of : ℕ → Ident
service_of n = Service (field n 26 3) (is_set n 24) (field n 14 9) (field n 7 7) (field n 0 7)

-- whether a frame with this identifier is discarded
abbrev pub is_discarded : ℕ → Bool
is_discarded n = not (nat_lt n (2 ^ 29)) || (is_set n 23 || (if is_set n 25 then field n 7 7 == field n 0 7 else is_set n 7))

-- what an identifier says
abbrev pub ident_of : ℕ → Option Ident
ident_of n = if is_discarded n then None else if is_set n 25 then Some (service_of n) else Some (message_of n)

-- a test as a bit
abbrev pub flag : Bool → ℕ
flag true = 1
flag false = 0

-- the bits of an identifier, where a message has the number r in bits 22 and 21
abbrev pub bits_with : ℕ → Ident → ℕ
bits_with r (Message priority subject source) = priority * 2 ^ 26 + r * 2 ^ 21 + subject * 2 ^ 8 + source
bits_with r (Anonymous priority subject pseudo) = priority * 2 ^ 26 + 2 ^ 24 + r * 2 ^ 21 + subject * 2 ^ 8 + pseudo
bits_with r (Service priority is_request service destination source) =
    priority * 2 ^ 26 + 2 ^ 25 + flag is_request * 2 ^ 24 + service * 2 ^ 14 + destination * 2 ^ 7 + source

-- the identifier as it is sent: bits 22 and 21 of a message are set
abbrev pub bits : Ident → ℕ
bits = bits_with 3

-- the fields are within their ranges, and a service isn't its own destination
abbrev pub IsIdent : Ident → Type 0
IsIdent (Message priority subject source) = (priority < 8) × (subject < 8192) × (source < 128)
IsIdent (Anonymous priority subject pseudo) = (priority < 8) × (subject < 8192) × (pseudo < 128)
IsIdent (Service priority is_request service destination source) =
    (priority < 8) × (service < 512) × (destination < 128) × (source < 128) × (source ≢ destination)

-- the number is an identifier of it: bits 22 and 21 of a message may be any
abbrev pub IsIdentifierOf : ℕ → Ident → Type 0
IsIdentifierOf n ident = IsIdent ident × ((r : ℕ) × (r < 4) × (n ≡ bits_with r ident))

-- the key of the session that a frame belongs to
abbrev pub key_of : Ident → Key
key_of (Message priority subject source) = record { kind = message; port = subject; source = Some source }
key_of (Anonymous priority subject pseudo) = record { kind = message; port = subject; source = None }
key_of (Service priority is_request service destination source) =
    record { kind = if is_request then request else response; port = service; source = Some source }

-- the priority
abbrev pub priority_of : Ident → ℕ
priority_of (Message priority subject source) = priority
priority_of (Anonymous priority subject pseudo) = priority
priority_of (Service priority is_request service destination source) = priority

-- the receiver's node-ID; a message has none
abbrev pub destination_of : Ident → Option ℕ
destination_of (Message priority subject source) = None
destination_of (Anonymous priority subject pseudo) = None
destination_of (Service priority is_request service destination source) = Some destination
