-- What a line of a log says.
use Rattle.std.specs.Prelude.{ℕ, Bool, true, false, List, [], ◌∷◌, ◌++◌, ◌+◌, ◌-◌, ◌*◌, ◌==◌, ◌&&◌}
use Rattle.std.specs.Prelude.{◌||◌, Option, Some, None, if◌then◌else◌, length, nat_le, nat_lt, take}
use Rattle.std.specs.Prelude.{drop, unwrap_or}
use Rattle.std.specs.Str.{bytes_eq}

-- what a line says: it has no form, it is skipped, its bus isn't there, or it has a frame with its
-- moment, bus, identifier and bytes
pub data Said : Type 0 where
  NoForm : Said
  Nothing : Said
  UnknownBus : Said
  Frame : ℕ → ℕ → ℕ → List ℕ → Said

-- a step of reading, which ends where the text has no such form
infixl 10 ◌>>=◌
abbrev pub ◌>>=◌ : {A B : Type 0} → Option A → (A → Option B) → Option B
None >>= f = None
(Some a) >>= f = f a

-- what follows the byte b, which stands in front
abbrev pub after : ℕ → List ℕ → Option (List ℕ)
after b [] = None
after b (x ∷ s) = if x == b then Some s else None

-- what stands before the first byte b, and behind it
abbrev pub cut : ℕ → List ℕ → Option (List ℕ × List ℕ)
cut b [] = None
cut b (x ∷ s) = if x == b then Some ([], s) else (do
  p ← cut b s
  Some (x ∷ p.0, p.1))

-- the first n bytes, and the others
abbrev pub front : ℕ → List ℕ → Option (List ℕ × List ℕ)
front n s = if nat_lt (length s) n then None else Some (take n s, drop n s)

-- the number of these digits, behind the number n
abbrev pub decimal_from : ℕ → List ℕ → Option ℕ
decimal_from n [] = Some n
decimal_from n (b ∷ s) = if nat_lt b 48 || nat_lt 57 b then None else decimal_from (n * 10 + (b - 48)) s

-- the value of a hex digit of either case, and 16 of any other byte
abbrev pub hex_digit : ℕ → ℕ
hex_digit b = if nat_le 48 b && nat_le b 57 then b - 48
    else (if nat_le 65 b && nat_le b 70 then b - 55 else (if nat_le 97 b && nat_le b 102 then b - 87 else 16))

-- the number of these hex digits, behind the number n
abbrev pub hex_from : ℕ → List ℕ → Option ℕ
hex_from n [] = Some n
hex_from n (b ∷ s) = if nat_lt 15 (hex_digit b) then None else hex_from (n * 16 + hex_digit b) s

-- SECONDS, 1 to 12 digits, and the point
abbrev pub seconds_of : List ℕ → Option (ℕ × List ℕ)
seconds_of s = do
  p ← cut 46 s
  seconds ← decimal_from 0 p.0
  if (length p.0 == 0) || nat_lt 12 (length p.0) then None else Some (seconds, p.1)

-- MICROS, six digits, and `) `
abbrev pub micros_of : List ℕ → Option (ℕ × List ℕ)
micros_of s = do
  p ← front 6 s
  micros ← decimal_from 0 p.0
  a ← after 41 p.1
  b ← after 32 a
  Some (micros, b)

-- BUS, 1 to 15 bytes, and the space
abbrev pub bus_of : List ℕ → Option (List ℕ × List ℕ)
bus_of s = do
  p ← cut 32 s
  if (length p.0 == 0) || nat_lt 15 (length p.0) then None else Some p

-- IDENT, n hex digits, and `#`
abbrev pub ident_of : ℕ → List ℕ → Option (ℕ × List ℕ)
ident_of n s = do
  p ← front n s
  ident ← hex_from 0 p.0
  a ← after 35 p.1
  Some (ident, a)

-- the bytes of pairs of hex digits
abbrev pub pairs_of : List ℕ → Option (List ℕ)
pairs_of [] = Some []
pairs_of (a ∷ []) = None
pairs_of (a ∷ b ∷ s) = if nat_lt 15 (hex_digit a) || nat_lt 15 (hex_digit b) then None else (do
  bytes ← pairs_of s
  Some ((hex_digit a * 16 + hex_digit b) ∷ bytes))

-- these bytes in front of others
abbrev pub with_front : List ℕ → Option (List ℕ) → Option (List ℕ)
with_front bytes others = do
  more ← others
  Some (bytes ++ more)

-- the lengths of data: of classic CAN, and of CAN FD
abbrev pub is_length : Bool → ℕ → Bool
is_length false n = nat_le n 8
is_length true n = nat_le n 8 || (n == 12) || (n == 16) || (n == 20) || (n == 24) || (n == 32) || (n == 48) || (n == 64)

-- HEX of a valid length
abbrev pub bytes_of : Bool → List ℕ → Option (List ℕ)
bytes_of fd s = do
  bytes ← pairs_of s
  if is_length fd (length bytes) then Some bytes else None

-- nothing, or one digit
abbrev pub is_at_most_digit : List ℕ → Bool
is_at_most_digit [] = true
is_at_most_digit (b ∷ []) = nat_le 48 b && nat_le b 57
is_at_most_digit (b ∷ c ∷ s) = false

-- `F` and HEX
abbrev pub fd_bytes_of : List ℕ → Option (List ℕ)
fd_bytes_of s = do
  p ← front 1 s
  flags ← hex_from 0 p.0
  bytes_of true p.1

-- HEX, or behind `#` that of CAN FD
abbrev pub hex_or : List ℕ → Option (List ℕ) → Option (Option (List ℕ))
hex_or s None = bytes_of false s >>= (λ bytes. Some (Some bytes))
hex_or s (Some t) = fd_bytes_of t >>= (λ bytes. Some (Some bytes))

-- the same, or behind `R` at most one digit, which gives no bytes
abbrev pub remote_or : List ℕ → Option (List ℕ) → Option (Option (List ℕ))
remote_or s None = hex_or s (after 35 s)
remote_or s (Some t) = if is_at_most_digit t then Some None else None

-- DATA: HEX; `#F` and HEX; or `R` and at most one digit
abbrev pub data_of : List ℕ → Option (Option (List ℕ))
data_of s = remote_or s (after 82 s)

-- ` R` or ` T`
abbrev pub is_flag : List ℕ → Bool
is_flag (a ∷ b ∷ []) = (a == 32) && ((b == 82) || (b == 84))
is_flag s = false

-- the text without a flag at its end
abbrev pub unflagged : List ℕ → List ℕ
unflagged s = let n = length s - 2 in (if is_flag (drop n s) then take n s else s)

-- the number of the bus with this name
abbrev pub bus_at : List (List ℕ) → List ℕ → Option ℕ
bus_at [] name = None
bus_at (b ∷ bs) name = if bytes_eq b name then Some 0 else (do
  n ← bus_at bs name
  Some (n + 1))

-- what a frame says on a bus, or on none
abbrev pub frame_on : ℕ → ℕ → List ℕ → Option ℕ → Said
frame_on moment ident bytes None = UnknownBus
frame_on moment ident bytes (Some bus) = Frame moment bus ident bytes

-- what a frame says, whose identifier has 8 digits: it is skipped where the identifier is above
-- 1FFFFFFF, or where it has no data
abbrev pub frame_of : List (List ℕ) → ℕ → List ℕ → ℕ → Option (List ℕ) → Said
frame_of buses moment name ident None = Nothing
frame_of buses moment name ident (Some bytes) = if nat_lt 0x1FFF_FFFF ident then Nothing else frame_on moment ident bytes (bus_at buses name)

-- what stands behind an identifier of 8 digits; one of three digits is skipped
abbrev pub behind_ident : List (List ℕ) → ℕ → List ℕ → List ℕ → Option (ℕ × List ℕ) → Option Said
behind_ident buses moment name s None = do
  i ← ident_of 3 s
  bytes ← data_of (unflagged i.1)
  Some Nothing
behind_ident buses moment name s (Some i) = do
  bytes ← data_of (unflagged i.1)
  Some (frame_of buses moment name i.0 bytes)

-- IDENT#DATA
abbrev pub behind_bus : List (List ℕ) → ℕ → List ℕ → List ℕ → Option Said
behind_bus buses moment name s = behind_ident buses moment name s (ident_of 8 s)

-- `(SECONDS.MICROS) BUS IDENT#DATA`
abbrev pub form_of : List (List ℕ) → List ℕ → Option Said
form_of buses text = do
  a ← after 40 text
  seconds ← seconds_of a
  micros ← micros_of seconds.1
  bus ← bus_of micros.1
  behind_bus buses (seconds.0 * 1_000_000 + micros.0) bus.0 bus.1

-- the line without a carriage return at its end
abbrev pub without_return : List ℕ → List ℕ
without_return line = let n = length line - 1 in (if bytes_eq (drop n line) (13 ∷ []) then take n line else line)

-- an empty text is skipped
abbrev pub said_of_text : List (List ℕ) → List ℕ → Said
said_of_text buses text = if length text == 0 then Nothing else unwrap_or (form_of buses text) NoForm

-- what a line says to a node with these buses: one of more than 4,096 bytes has no form
abbrev pub said_of : List (List ℕ) → List ℕ → Said
said_of buses line = if nat_lt 4096 (length line) then NoForm else said_of_text buses (without_return line)
