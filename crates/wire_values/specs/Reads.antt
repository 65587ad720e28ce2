-- What a reader of the code answers.
use Rattle.std.specs.Prelude.{◌≡◌, ℕ, suc, ◌+◌, ◌-◌, ◌*◌, ◌%◌, ◌^◌, ◌≤◌, OnOk, nat_lt}
use Rattle.std.specs.Prelude.{if◌then◌else◌, Bool, true, false, List, [], map, reverse, take, drop}
use Rattle.std.specs.Prelude.{length, Result, Ok, Err, ℤ, pos, negsuc}
use Rattle.cy_bits.specs.Bits.{bits, gap, Cursor}
use Rattle.dsdl_types.specs.Paths.{step_of}
use Rattle.dsdl_types.specs.Reach.{header_or, reach}
use Rattle.dsdl_types.specs.Reading.{Read, Got, Bad, BadDelimiter, Name, and_then, fields, own}
use Rattle.dsdl_types.specs.Reading.{part, row, under, within}
use Rattle.dsdl_types.specs.Schemas.{Sch, Flds, End, is_delimited}
use Rattle.dsdl_types.specs.Values.{Val, Vals, join}
use Rattle.dsdl_types.specs.Views.{named, val, vals, why_of, with_field}
use Rattle.dsdl_types.specs.declared.schema.Field.{Field}
use Rattle.dsdl_types.specs.declared.value.Value.{Value}
use Rattle.wire_values.specs.Forms.{type_in}
use Rattle.wire_values.specs.declared.stop.Stop.{Stop}
use Rattle.wire_values.specs.declared.stop.Stop.TheVariants as S

-- the bits of bytes from a place on
abbrev pub behind : List ℕ → ℕ → List Bool
behind bytes place = drop place (bits bytes)

-- so many bytes stand from a place on, and are these
abbrev pub IsWindow : List ℕ → ℕ → ℕ → List ℕ → Type 0
IsWindow bytes place count w =
    (8 * count ≤ length (behind bytes place)) × (bits w ≡ take (8 * count) (behind bytes place))

-- so many bits past the end from a place on, a reader is still at 2^40 at most
abbrev pub Near : List ℕ → ℕ → ℕ → Type 0
Near bytes place more = place + (length (behind bytes place) + more) ≤ 2 ^ 40

-- The bits can't be read, for what the code says of it: where, the last step first, and why.
abbrev pub Fails : {A : Type 0} → Stop → Read A → Type 0
Fails S.NoMemory r = Unit {0}
Fails (S.Refused refusal) r = r ≡ Bad (reverse (map step_of refusal.steps)) (why_of refusal.why)

-- The reading is what was answered, and goes on at this place of the bytes.
abbrev pub Gives : {X A : Type 0} → (X → A) → Result X Stop → List ℕ → ℕ → Read A → Type 0
Gives view (Ok x) bytes place r = r ≡ Got (view x) place (behind bytes place)
Gives view (Err e) bytes place r = Fails e r

-- What was left to read before is what is left now, or it fails.
abbrev pub Goes : {X A : Type 0} → Result X Stop → Read A → Read A → Type 0
Goes (Ok x) before now = before ≡ now
Goes (Err e) before now = Fails e before

-- values that were read, and then the rest
abbrev pub with_front : Vals → Read Vals → Read Vals
with_front vs r = and_then r (λ ws. Got (join vs ws))

-- a reader inside a window of so many bytes
abbrev pub window_read : {A : Type 0} → (ℕ → List Bool → Read A) → ℕ → ℕ → List Bool → Read A
window_read f c p rest =
    if nat_lt (length rest) (8 * c)
    then Bad [] (BadDelimiter c)
    else within (p + 8 * c) (drop (8 * c) rest) (f 0 (take (8 * c) rest))

-- a number of w bits in two's complement
abbrev pub signed_of : ℕ → ℕ → ℤ
signed_of w n = if nat_lt n (2 ^ (w - 1)) then pos n else negsuc (2 ^ w - 1 - n)

-- the bits up to the next multiple of 8, for a type that begins at one
abbrev pub skipped : Bool → ℕ → ℕ
skipped true p = gap p
skipped false p = 0

-- ---- the clauses of readers, of where they are before and after

-- What is read by a definition from where the reader was is what was answered, and the reader is
-- behind it.
abbrev pub Answers : {X A : Type 0} → (ℕ → List Bool → Read A) → (X → A) → Result X Stop → Cursor
    → Cursor → Type 0
Answers f view res old new = Gives view res new.bytes new.place (f old.place (behind old.bytes old.place))

abbrev pub IsNear : Cursor → ℕ → Type 0
IsNear at more = Near at.bytes at.place more

-- with so many bits past the end for what is read, others may follow
abbrev pub StaysNear : {X : Type 0} → ℕ → Result X Stop → Cursor → Cursor → Type 0
StaysNear most res old new = (more : ℕ) → IsNear old (most + more) → OnOk res (IsNear new more)

-- at a multiple of 8, for a type that begins at one
abbrev pub IsWhole : Bool → Cursor → Type 0
IsWhole d at = d ≡ true → at.place % 8 ≡ 0

abbrev pub StaysWhole : {X : Type 0} → Bool → Result X Stop → Cursor → Type 0
StaysWhole d res at = d ≡ true → OnOk res (at.place % 8 ≡ 0)

-- so many bits past the end for a part
abbrev pub part_reach : Sch → ℕ
part_reach s = header_or (is_delimited s) (reach s)

-- One item more was read: the others are left.
abbrev pub ReadsItem : {X : Type 0} → Sch → ℕ → Result X Stop → List Value → Cursor → List Value
    → Cursor → Type 0
ReadsItem s i res values old more new =
    (n : ℕ) → Goes res
    (with_front (vals values) (row (part s) (suc n) i old.place (behind old.bytes old.place)))
    (with_front (vals more) (row (part s) n (suc i) new.place (behind new.bytes new.place)))

-- the field in front of others, and alone
abbrev pub in_front : Field → Flds → Flds
in_front field fs = with_field (named field).0 (named field).1 fs

abbrev pub alone : Field → Flds
alone field = in_front field End

-- One field more was read: the others are left.
abbrev pub ReadsField : {X : Type 0} → Field → Result X Stop → List Value → Cursor → List Value
    → Cursor → Type 0
ReadsField field res values old more new =
    (fs : Flds) → Goes res
    (with_front (vals values) (fields (in_front field fs) old.place (behind old.bytes old.place)))
    (with_front (vals more) (fields fs new.place (behind new.bytes new.place)))

-- the reader of a field or a variant by its name
abbrev pub named_read : Field → ℕ → List Bool → Read Val
named_read field p x = under (Name (named field).0) (part (type_in field) p x)

-- the value is what a schema reads from where the reader was, and the reader is behind it
abbrev pub IsReadAs : Sch → Value → Cursor → Cursor → Type 0
IsReadAs s v old new = own s old.place (behind old.bytes old.place) ≡ Got (val v) new.place (behind new.bytes new.place)
