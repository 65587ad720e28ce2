-- What bits read as: a value, or the first place and cause that refuses them (Cyphal Specification,
-- section 3.7). Bits past the end are zeros, since `take` and `drop` give none there and the number
-- of no bits is 0.
use Rattle.std.specs.Prelude.{ℕ, zero, suc, ◌+◌, ◌*◌, ◌-◌, ◌^◌, ◌==◌, nat_lt, if◌then◌else◌, Bool}
use Rattle.std.specs.Prelude.{true, false, List, [], ◌∷◌, length, take, drop, pos, negsuc}
use Rattle.cy_bits.specs.Bits.{number, gap}
use Rattle.dsdl_types.specs.Schemas.{Prim, Sch, Flds, PBool, PUint, PInt, PFloat, Simple, Fixed}
use Rattle.dsdl_types.specs.Schemas.{Var, Struct, Union, End, Pad, Field, is_aligned, is_delimited}
use Rattle.dsdl_types.specs.Schemas.{length_field_bits, tag_bits, width, variants}
use Rattle.dsdl_types.specs.Values.{Val, Vals, Truth, Num, Raw, Items, Parts, Tagged, Empty, More}

-- a step of the path to a part: a field or variant by its name, or an item by its place
pub data Step : Type 0 where
  Name : List ℕ → Step
  Index : ℕ → Step

-- Why bits are refused, with the number that was read: a tag of no variant, a length field above
-- the capacity, or a delimiter header that counts more bytes than are left in what stands around
-- it.
pub data Why : Type 0 where
  BadTag : ℕ → Why
  BadLength : ℕ → Why
  BadDelimiter : ℕ → Why

-- what was read with the place and the bits behind it, or the path and the cause of a refusal
pub data Read (A : Type 0) : Type 0 where
  Got : A → ℕ → List Bool → Read A
  Bad : List Step → Why → Read A

abbrev pub and_then : {A B : Type 0} → Read A → (A → ℕ → List Bool → Read B) → Read B
and_then (Got a p rest) f = f a p rest
and_then (Bad path why) f = Bad path why

abbrev pub under : {A : Type 0} → Step → Read A → Read A
under s (Got a p rest) = Got a p rest
under s (Bad path why) = Bad (s ∷ path) why

-- a value of a primitive from its raw bits, a signed one from two's complement
abbrev pub value_of : Prim → ℕ → Val
value_of PBool n = Truth (n == 1)
value_of (PUint w c) n = Num (pos n)
value_of (PInt w) n = Num (if nat_lt n (2 ^ (w - 1)) then pos n else negsuc (2 ^ w - 1 - n))
value_of (PFloat w c) n = Raw n

-- on to the next multiple of 8
abbrev pub align : {A : Type 0} → A → ℕ → List Bool → Read A
align a p rest = Got a (p + gap p) (drop (gap p) rest)

-- a reader that begins at a multiple of 8, if it has to
abbrev pub aligned : {A : Type 0} → Bool → (ℕ → List Bool → Read A) → ℕ → List Bool → Read A
aligned false f p rest = f p rest
aligned true f p rest = f (p + gap p) (drop (gap p) rest)

-- what was read in a window, and the place and the bits behind the window
abbrev pub within : {A : Type 0} → ℕ → List Bool → Read A → Read A
within p rest (Got a q own) = Got a p rest
within p rest (Bad path why) = Bad path why

-- A reader behind its delimiter header, if it has one. The bytes that the header counts are a
-- window of their own, which begins at the place 0; reading goes on behind it.
abbrev pub delimited : {A : Type 0} → Bool → (ℕ → List Bool → Read A) → ℕ → List Bool → Read A
delimited false f p rest = f p rest
delimited true f p rest =
    let c = number (take 32 rest) in
    let behind = drop 32 rest in
    if nat_lt (length behind) (8 * c)
    then Bad [] (BadDelimiter c)
    else within (p + 32 + 8 * c) (drop (8 * c) behind) (f 0 (take (8 * c) behind))

-- so many items in a row, of which the next has the number i
abbrev pub row : (ℕ → List Bool → Read Val) → ℕ → ℕ → ℕ → List Bool → Read Vals
row f zero i p rest = Got Empty p rest
row f (suc n) i p rest = and_then (under (Index i) (f p rest)) (λ v q more. and_then (row f n (suc i) q more) (λ vs. Got (More v vs)))

-- The cases of the serialized form.
abbrev mutual
  -- a type's own bits, from the place p, of which `rest` are left
  pub own : Sch → ℕ → List Bool → Read Val
  own (Simple t) p rest = Got (value_of t (number (take (width t) rest))) (p + width t) (drop (width t) rest)
  own (Fixed s n) p rest = and_then (row (delimited (is_delimited s) (own s)) n 0 p rest) (λ vs. Got (Items vs))
  own (Var s cap) p rest =
      let n = number (take (length_field_bits cap) rest) in
      if nat_lt cap n
      then Bad [] (BadLength n)
      else and_then (row (delimited (is_delimited s) (own s)) n 0 (p + length_field_bits cap) (drop (length_field_bits cap) rest)) (λ vs. Got (Items vs))
  own (Struct fs o) p rest = and_then (fields fs p rest) (λ vs q more. align (Parts vs) q more)
  own (Union fs o) p rest =
      let n = number (take (tag_bits (variants fs)) rest) in
      and_then (variant fs n n (p + tag_bits (variants fs)) (drop (tag_bits (variants fs)) rest)) (λ v q more. align (Tagged n v) q more)

  pub fields : Flds → ℕ → List Bool → Read Vals
  fields End p rest = Got Empty p rest
  fields (Pad n fs) p rest = fields fs (p + n) (drop n rest)
  fields (Field name s fs) p rest =
      and_then (under (Name name) (aligned (is_aligned s) (delimited (is_delimited s) (own s)) p rest))
      (λ v q more. and_then (fields fs q more) (λ vs. Got (More v vs)))

  -- the variant of a tag, where k variants are left to skip
  pub variant : Flds → ℕ → ℕ → ℕ → List Bool → Read Val
  variant End tag k p rest = Bad [] (BadTag tag)
  variant (Pad n fs) tag k p rest = variant fs tag k p rest
  variant (Field name s fs) tag zero p rest = under (Name name) (delimited (is_delimited s) (own s) p rest)
  variant (Field name s fs) tag (suc k) p rest = variant fs tag k p rest

-- a type as a part of another: behind its delimiter header, where it has one
abbrev pub part : Sch → ℕ → List Bool → Read Val
part s = delimited (is_delimited s) (own s)
