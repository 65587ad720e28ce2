-- What is read is stored, and what is stored fits
use Rattle.std.proofs.Common.{◌≡◌, ℕ, zero, suc, ◌+◌, ◌*◌, ◌-◌, ◌^◌, ◌<◌, ◌≤◌, Bool, true, false, cond, List, [], ◌∷◌, length, take, drop, ℤ, refl, ap, ◌∙◌, subst, arith}
use Rattle.std.specs.Prelude.{nat_lt, pos, negsuc}
use Rattle.std.proofs.lemmas.Bool.{ltb-true, ltb-false}
use Rattle.std.proofs.lemmas.Bool.Decides.{nat_tests}
use Rattle.std.proofs.lemmas.Nat.{pow_pos}
use Rattle.std.proofs.Math.Nat.{pow-succ'}
use Rattle.std.proofs.Math.Pow.{pow_mono}
use Rattle.cy_bits.specs.Bits.{number, bits, gap}
use Rattle.dsdl_types.specs.Schemas.{Prim, Sch, Flds, PBool, PUint, PInt, PFloat, Simple, Fixed, Var, Struct, Union, End, Pad, Field, is_aligned, is_delimited, length_field_bits, tag_bits, width, variants}
use Rattle.dsdl_types.specs.Values.{Val, Vals, Truth, Num, Raw, Items, Parts, Tagged, Empty, More, count}
use Rattle.dsdl_types.specs.Reading.{Read, Got, Bad, Step, Name, Index, value_of, and_then, under, within, delimited, aligned, own, fields, variant, part, row}
use Rattle.dsdl_types.specs.Fits.{Fits, FitFields, FitsVariant, FitsSimple, IsNumber, AllOf, AreItems, AreParts, IsTagged, IsFirst}
use Rattle.dsdl_types.specs.Stored.{IsStored, AreStored, IsStoredVariant, IsStoredSimple, IsUnsigned, IsSigned, stored_width}
use Rattle.dsdl_types.specs.Sound.{IsSound, AreSound, IsSoundPrim}
use Rattle.dsdl_types.specs.Laws.{Reads}

-- where it is a value, the value is as said
abbrev pub Gives : {A : Type 0} → (A → Type 0) → Read A → Type 0
Gives P (Got a p rest) = P a
Gives P (Bad path why) = Unit {0}

gives_then : {A B : Type 0} (P : A → Type 0) (Q : B → Type 0) (r : Read A) (g : A → ℕ → List Bool → Read B) →
    Gives P r → ((a : A) (p : ℕ) (rest : List Bool) → P a → Gives Q (g a p rest)) → Gives Q (and_then r g)
gives_then P Q (Got a p rest) g h k = k a p rest h
gives_then P Q (Bad path why) g h k = tt

gives_under : {A : Type 0} (P : A → Type 0) (s : Step) (r : Read A) → Gives P r → Gives P (under s r)
gives_under P s (Got a p rest) h = h
gives_under P s (Bad path why) h = tt

gives_within : {A : Type 0} (P : A → Type 0) (p : ℕ) (rest : List Bool) (r : Read A) → Gives P r → Gives P (within p rest r)
gives_within P p rest (Got a q more) h = h
gives_within P p rest (Bad path why) h = tt

gives_cond : {A : Type 0} (P : A → Type 0) (b : Bool) (r s : Read A) → (b ≡ true → Gives P r) → (b ≡ false → Gives P s) → Gives P (cond b r s)
gives_cond P true r s h k = h refl
gives_cond P false r s h k = k refl

gives_delimited : {A : Type 0} (P : A → Type 0) (d : Bool) (f : ℕ → List Bool → Read A) → ((p : ℕ) (x : List Bool) → Gives P (f p x)) →
    (p : ℕ) (x : List Bool) → Gives P (delimited d f p x)
gives_delimited P false f h p x = h p x
gives_delimited P true f h p x =
    let c = number (take 32 x) in
    gives_cond P (nat_lt (length (drop 32 x)) (8 * c)) _ _ (λ _. tt)
    (λ _. gives_within P (p + 32 + 8 * c) (drop (8 * c) (drop 32 x)) (f 0 (take (8 * c) (drop 32 x))) (h 0 (take (8 * c) (drop 32 x))))

gives_aligned : {A : Type 0} (P : A → Type 0) (d : Bool) (f : ℕ → List Bool → Read A) → ((p : ℕ) (x : List Bool) → Gives P (f p x)) →
    (p : ℕ) (x : List Bool) → Gives P (aligned d f p x)
gives_aligned P false f h p x = h p x
gives_aligned P true f h p x = h (p + gap p) (drop (gap p) x)

-- so many values, each as said
abbrev Row : (Val → Type 0) → ℕ → Vals → Type 0
Row P n vs = (count vs ≡ n) × AllOf P vs

gives_row : (P : Val → Type 0) (f : ℕ → List Bool → Read Val) → ((p : ℕ) (x : List Bool) → Gives P (f p x)) →
    (n i p : ℕ) (x : List Bool) → Gives (Row P n) (row f n i p x)
gives_row P f h zero i p x = (refl, tt)
gives_row P f h (suc n) i p x =
    gives_then P (Row P (suc n)) (under (Index i) (f p x)) _ (gives_under P (Index i) (f p x) (h p x))
    (λ v q y one_fits. gives_then (Row P n) (Row P (suc n)) (row f n (suc i) q y) _ (gives_row P f h n (suc i) q y)
    (λ vs t z all_fit. (ap suc all_fit.0, (one_fits, all_fit.1))))

number_below : (w : ℕ) (x : List Bool) → number (take w x) < 2 ^ w
unfolding number
number_below zero x = omega arith
number_below (suc w) [] = omega (arith, pow_pos (suc w))
number_below (suc w) (true ∷ x) = omega (arith, number_below w x)
number_below (suc w) (false ∷ x) = omega (arith, number_below w x)

stored_wide : (w : ℕ) → w ≤ 64 → w ≤ stored_width w
stored_wide w most = grind (arith, nat_tests)

half : (w : ℕ) → 1 ≤ w → 2 ^ w ≡ 2 * 2 ^ (w - 1)
half zero some = absurd (omega arith)
half (suc w) some = let e : w ≡ suc w - 1 = omega arith in pow-succ' 2 w ∙ ap (λ k. 2 * 2 ^ k) e

unsigned_stored : (w n : ℕ) → w ≤ 64 → n < 2 ^ w → n < 2 ^ stored_width w
unsigned_stored w n most h = omega (arith, pow_mono {i = w} {j = stored_width w} (stored_wide w most))

signed_stored : (w n : ℕ) (b : Bool) → nat_lt n (2 ^ (w - 1)) ≡ b → 2 ≤ w → w ≤ 64 → n < 2 ^ w →
    IsSigned (stored_width w) (cond b (pos n) (negsuc (2 ^ w - 1 - n)))
signed_stored w n true e some most h =
    omega (arith, ltb-true n (2 ^ (w - 1)) e, pow_mono {i = w - 1} {j = stored_width w - 1} (omega (arith, stored_wide w most)))
signed_stored w n false e some most h =
    omega (arith, half w (omega arith), ltb-false n (2 ^ (w - 1)) e, pow_mono {i = w - 1} {j = stored_width w - 1} (omega (arith, stored_wide w most)))

simple_stored : (t : Prim) → IsSoundPrim t → (n : ℕ) → n < 2 ^ width t → IsStoredSimple t (value_of t n)
simple_stored PBool sound n h = tt
simple_stored (PUint w c) sound n h = unsigned_stored w n sound.1 h
simple_stored (PInt w) sound n h = signed_stored w n (nat_lt n (2 ^ (w - 1))) refl sound.0 sound.1 h
simple_stored (PFloat w c) sound n h = h

mutual
  own_stored : (s : Sch) → IsSound s → (p : ℕ) (x : List Bool) → Gives (IsStored s) (own s p x)
  own_stored (Simple t) sound p x = simple_stored t sound (number (take (width t) x)) (number_below (width t) x)
  own_stored (Fixed s n) sound p x =
      gives_then (Row (IsStored s) n) (IsStored (Fixed s n)) (row (part s) n 0 p x) _
      (gives_row (IsStored s) (part s) (gives_delimited (IsStored s) (is_delimited s) (own s) (own_stored s sound)) n 0 p x)
      (λ vs q y h. h)
  own_stored (Var s cap) sound p x =
      let n = number (take (length_field_bits cap) x) in
      let q = p + length_field_bits cap in
      let y = drop (length_field_bits cap) x in
      gives_cond (IsStored (Var s cap)) (nat_lt cap n) _ _ (λ _. tt)
      (λ few. gives_then (Row (IsStored s) n) (IsStored (Var s cap)) (row (part s) n 0 q y) _
      (gives_row (IsStored s) (part s) (gives_delimited (IsStored s) (is_delimited s) (own s) (own_stored s sound.1)) n 0 q y)
      (λ vs t z h. (omega (arith, h.0, ltb-false cap n few), h.1)))
  own_stored (Struct fs o) sound p x =
      gives_then (AreStored fs) (IsStored (Struct fs o)) (fields fs p x) _ (fields_stored fs sound.1 p x) (λ vs q y h. h)
  own_stored (Union fs o) sound p x =
      let w = tag_bits (variants fs) in
      let n = number (take w x) in
      gives_then (IsStoredVariant fs n) (IsStored (Union fs o)) (variant fs n n (p + w) (drop w x)) _
      (variant_stored fs sound.2 n n (p + w) (drop w x)) (λ v q y h. h)

  fields_stored : (fs : Flds) → AreSound fs → (p : ℕ) (x : List Bool) → Gives (AreStored fs) (fields fs p x)
  fields_stored End sound p x = tt
  fields_stored (Pad n fs) sound p x = fields_stored fs sound (p + n) (drop n x)
  fields_stored (Field name s fs) sound p x =
      let read = aligned (is_aligned s) (part s) p x in
      let stored = gives_aligned (IsStored s) (is_aligned s) (part s) (gives_delimited (IsStored s) (is_delimited s) (own s) (own_stored s sound.0)) p x in
      gives_then (IsStored s) (AreStored (Field name s fs)) (under (Name name) read) _ (gives_under (IsStored s) (Name name) read stored)
      (λ v q y one_fits. gives_then (AreStored fs) (AreStored (Field name s fs)) (fields fs q y) _ (fields_stored fs sound.1 q y)
      (λ vs t z all_fit. (one_fits, all_fit)))

  variant_stored : (fs : Flds) → AreSound fs → (tag k p : ℕ) (x : List Bool) → Gives (IsStoredVariant fs k) (variant fs tag k p x)
  variant_stored End sound tag k p x = tt
  variant_stored (Pad n fs) sound tag k p x = variant_stored fs sound tag k p x
  variant_stored (Field name s fs) sound tag zero p x =
      gives_under (IsStored s) (Name name) (part s p x) (gives_delimited (IsStored s) (is_delimited s) (own s) (own_stored s sound.0) p x)
  variant_stored (Field name s fs) sound tag (suc k) p x = variant_stored fs sound.1 tag k p x

pub readings_stored : (s : Sch) → IsSound s → (b : List ℕ) (v : Val) → Reads s b v → IsStored s v
readings_stored s sound b v (p, rest, is) = subst (Gives (IsStored s)) is (own_stored s sound 0 (bits b))

all_more : (P Q : Val → Type 0) → ((v : Val) → P v → Q v) → (vs : Vals) → AllOf P vs → AllOf Q vs
all_more P Q f Empty h = tt
all_more P Q f (More v vs) h = (f v h.0, all_more P Q f vs h.1)

items_more : (N : ℕ → Type 0) (P Q : Val → Type 0) → ((v : Val) → P v → Q v) → (v : Val) → AreItems N P v → AreItems N Q v
items_more N P Q f (Items vs) h = (h.0, all_more P Q f vs h.1)
items_more N P Q f v h = h

parts_more : (P Q : Vals → Type 0) → ((vs : Vals) → P vs → Q vs) → (v : Val) → AreParts P v → AreParts Q v
parts_more P Q f (Parts vs) h = f vs h
parts_more P Q f v h = h

tagged_more : (P Q : ℕ → Val → Type 0) → ((t : ℕ) (v : Val) → P t v → Q t v) → (v : Val) → IsTagged P v → IsTagged Q v
tagged_more P Q f (Tagged t v) h = f t v h
tagged_more P Q f v h = h

first_more : (P Q : Val → Type 0) (R S : Vals → Type 0) → ((v : Val) → P v → Q v) → ((vs : Vals) → R vs → S vs) →
    (vs : Vals) → IsFirst P R vs → IsFirst Q S vs
first_more P Q R S f g Empty h = h
first_more P Q R S f g (More v vs) h = (f v h.0, g vs h.1)

width_most : (w : ℕ) → (stored_width w ≤ 64) × (stored_width w - 1 ≤ 63)
width_most w = grind (arith, nat_tests)

unsigned_number : (w : ℕ) (z : ℤ) → IsUnsigned (stored_width w) z → IsNumber z
unsigned_number w (pos n) h = omega (arith, pow_mono {i = stored_width w} {j = 64} (width_most w).0)
unsigned_number w (negsuc n) h = absurd h

signed_number : (w : ℕ) (z : ℤ) → IsSigned (stored_width w) z → IsNumber z
signed_number w (pos n) h = omega (arith, pow_mono {i = stored_width w - 1} {j = 63} (width_most w).1)
signed_number w (negsuc n) h = omega (arith, pow_mono {i = stored_width w - 1} {j = 63} (width_most w).1)

simple_fits : (t : Prim) (v : Val) → IsStoredSimple t v → FitsSimple t v
simple_fits PBool (Truth b) h = tt
simple_fits (PUint w c) (Num z) h = unsigned_number w z h
simple_fits (PInt w) (Num z) h = signed_number w z h
simple_fits (PFloat w c) (Raw n) h = h
simple_fits _ _ h = absurd h

mutual
  pub stored_fits : (s : Sch) (v : Val) → IsStored s v → Fits s v
  stored_fits (Simple t) v h = simple_fits t v h
  stored_fits (Fixed s n) v h = items_more (λ k. k ≡ n) (IsStored s) (Fits s) (stored_fits s) v h
  stored_fits (Var s cap) v h = items_more (λ k. k ≤ cap) (IsStored s) (Fits s) (stored_fits s) v h
  stored_fits (Struct fs o) v h = parts_more (AreStored fs) (FitFields fs) (fields_fit fs) v h
  stored_fits (Union fs o) v h = tagged_more (IsStoredVariant fs) (FitsVariant fs) (variant_fits fs) v h

  fields_fit : (fs : Flds) (vs : Vals) → AreStored fs vs → FitFields fs vs
  fields_fit End vs h = h
  fields_fit (Pad n fs) vs h = fields_fit fs vs h
  fields_fit (Field name s fs) vs h = first_more (IsStored s) (Fits s) (AreStored fs) (FitFields fs) (stored_fits s) (fields_fit fs) vs h

  variant_fits : (fs : Flds) (k : ℕ) (v : Val) → IsStoredVariant fs k v → FitsVariant fs k v
  variant_fits End k v h = h
  variant_fits (Pad n fs) k v h = variant_fits fs k v h
  variant_fits (Field name s fs) zero v h = stored_fits s v h
  variant_fits (Field name s fs) (suc k) v h = variant_fits fs k v h
