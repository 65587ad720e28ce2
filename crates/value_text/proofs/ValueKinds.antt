-- What kind of value each schema has.
use Rattle.std.proofs.Common.{◌≡◌, ℕ, ◌^◌, ◌<◌, ◌&&◌, ℤ, pos, negsuc, Bool, true, false, refl}
use Rattle.std.proofs.lemmas.Bool.{false≢true, ltb-true}
use Rattle.dsdl_types.specs.Fits.{FitsSimple, IsNumber, AllOf, AreItems, AreParts, IsTagged, IsFirst, IsEmpty}
use Rattle.dsdl_types.specs.Schemas.{PBool, PUint, PInt, PFloat}
use Rattle.dsdl_types.specs.Values.{Val, Vals, Truth, Num, Raw, Items, Parts, Tagged, Empty, More, items_of, parts_of, tag_of, inner_of, first, others}
use Rattle.value_text.specs.Texts.{is_byte}

pub is_bool : (v : Val) → FitsSimple PBool v → (b : Bool) × (v ≡ Truth b)
is_bool (Truth b) h = (b, refl)
is_bool (Num z) h = absurd h
is_bool (Raw n) h = absurd h
is_bool (Items vs) h = absurd h
is_bool (Parts vs) h = absurd h
is_bool (Tagged t v) h = absurd h

pub is_uint : (w : ℕ) (c : Bool) (v : Val) → FitsSimple (PUint w c) v → (z : ℤ) × IsNumber z × (v ≡ Num z)
is_uint w c (Truth b) h = absurd h
is_uint w c (Num z) h = (z, h, refl)
is_uint w c (Raw n) h = absurd h
is_uint w c (Items vs) h = absurd h
is_uint w c (Parts vs) h = absurd h
is_uint w c (Tagged t v) h = absurd h

pub is_int : (w : ℕ) (v : Val) → FitsSimple (PInt w) v → (z : ℤ) × IsNumber z × (v ≡ Num z)
is_int w (Truth b) h = absurd h
is_int w (Num z) h = (z, h, refl)
is_int w (Raw n) h = absurd h
is_int w (Items vs) h = absurd h
is_int w (Parts vs) h = absurd h
is_int w (Tagged t v) h = absurd h

pub is_raw : (w : ℕ) (c : Bool) (v : Val) → FitsSimple (PFloat w c) v → (n : ℕ) × (n < 2 ^ w) × (v ≡ Raw n)
is_raw w c (Truth b) h = absurd h
is_raw w c (Num z) h = absurd h
is_raw w c (Raw n) h = (n, h, refl)
is_raw w c (Items vs) h = absurd h
is_raw w c (Parts vs) h = absurd h
is_raw w c (Tagged t v) h = absurd h

pub are_items : (N : ℕ → Type 0) (P : Val → Type 0) (v : Val) → AreItems N P v → (v ≡ Items (items_of v)) × AllOf P (items_of v)
are_items N P (Truth b) h = absurd h
are_items N P (Num z) h = absurd h
are_items N P (Raw n) h = absurd h
are_items N P (Items vs) h = (refl, h.1)
are_items N P (Parts vs) h = absurd h
are_items N P (Tagged t v) h = absurd h

pub are_parts : (P : Vals → Type 0) (v : Val) → AreParts P v → (v ≡ Parts (parts_of v)) × P (parts_of v)
are_parts P (Truth b) h = absurd h
are_parts P (Num z) h = absurd h
are_parts P (Raw n) h = absurd h
are_parts P (Items vs) h = absurd h
are_parts P (Parts vs) h = (refl, h)
are_parts P (Tagged t v) h = absurd h

pub is_tagged : (P : ℕ → Val → Type 0) (v : Val) → IsTagged P v → (v ≡ Tagged (tag_of v) (inner_of v)) × P (tag_of v) (inner_of v)
is_tagged P (Truth b) h = absurd h
is_tagged P (Num z) h = absurd h
is_tagged P (Raw n) h = absurd h
is_tagged P (Items vs) h = absurd h
is_tagged P (Parts vs) h = absurd h
is_tagged P (Tagged t v) h = (refl, h)

pub is_empty : (vs : Vals) → IsEmpty vs → vs ≡ Empty
is_empty Empty h = refl
is_empty (More v vs) h = absurd h

pub is_first : (P : Val → Type 0) (Q : Vals → Type 0) (vs : Vals) → IsFirst P Q vs → (vs ≡ More (first vs) (others vs)) × P (first vs) × Q (others vs)
is_first P Q Empty h = absurd h
is_first P Q (More v vs) h = (refl, h.0, h.1)

pub both : (a b : Bool) → a && b ≡ true → (a ≡ true) × (b ≡ true)
both true b h = (refl, h)
both false b h = absurd (false≢true h)

pub byte_is : (v : Val) → is_byte v ≡ true → (n : ℕ) × (n < 256) × (v ≡ Num (pos n))
byte_is (Num (pos n)) h = (n, ltb-true n 256 h, refl)
byte_is (Num (negsuc n)) h = absurd (false≢true h)
byte_is (Truth b) h = absurd (false≢true h)
byte_is (Raw n) h = absurd (false≢true h)
byte_is (Items vs) h = absurd (false≢true h)
byte_is (Parts vs) h = absurd (false≢true h)
byte_is (Tagged t v) h = absurd (false≢true h)
