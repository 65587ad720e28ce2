-- What the fields of structs hold of values, and the values of what they hold, determine each
-- other.
use Rattle.std.specs.Prelude.{◌≡◌, ℕ, suc, ◌-◌, ◌^◌, ◌<◌, ◌≤◌, Bool, true, false, List, [], ◌∷◌, ℤ}
use Rattle.std.specs.Prelude.{pos, negsuc, min, length, refl, ◌+◌, ◌++◌, take, drop, replicate}
use Rattle.std.specs.List.{All}
use Rattle.std.proofs.Common.{sym, ap, ◌∙◌, subst}
use Rattle.std.proofs.Math.Nat.{min-eq_left}
use Rattle.std.proofs.Math.Seq.{take-length}
use Rattle.std.proofs.lemmas.List.{append-nil}
use Rattle.cy_bits.specs.Put.{put_at}
use Rattle.std.proofs.Math.Pow.{le_ones}
use Rattle.std.proofs.lemmas.Bool.{false≢true}
use Rattle.std.proofs.lemmas.List.Elements.{All-nil, All-cons, All-head, All-tail}
use Rattle.dsdl_types.specs.Schemas.{Sch, Flds, PBool, PUint, PInt, PFloat, Simple, Fixed, Var}
use Rattle.dsdl_types.specs.Schemas.{Struct, Union, End, Pad, Field}
use Rattle.dsdl_types.specs.Values.{Val, Vals, Truth, Num, Raw, Items, Parts, Empty, More, count}
use Rattle.dsdl_types.specs.Values.{items_of}
use Rattle.dsdl_types.specs.Fits.{AllOf, AreItems}
use Rattle.dsdl_types.specs.Stored.{IsStored, AreStored, IsSigned, stored_width}
use Rattle.dsdl_types.specs.Views.{in_row}
use Rattle.std_types.specs.Held.{natural, natural_value, integer, float_bits, truth_of, part}
use Rattle.std_types.specs.Held.{part_or, row_of, list_of, naturals_value, naturals_of}
use Rattle.std_types.specs.Held.{integers_value, integers_of, floats_value, floats_of, truths_value}
use Rattle.std_types.specs.Held.{truths_of, HoldsNaturals, HoldsIntegers, HoldsBytes, alone}
use Rattle.std_types.specs.Held.{unique_id_of, IsUniqueId}
use Rattle.std_types.specs.Schemas.{uint, sint, float, bool, bytes, sealed}

below_min : (w n : ℕ) → n < 2 ^ w → min n (2 ^ w - 1) ≡ n
below_min w n h = min-eq_left (le_ones w h)

-- ---- numbers

pub natural_back : (w n : ℕ) → n < 2 ^ w → natural w (natural_value n) ≡ n
natural_back w n h = below_min w n h

pub natural_forth : (k : ℕ) (c : Bool) (v : Val) → IsStored (Simple (PUint k c)) v →
    (natural (stored_width k) v < 2 ^ stored_width k) × (natural_value (natural (stored_width k) v) ≡ v)
natural_forth k c (Num (pos n)) h =
    let same = below_min (stored_width k) n h in
    (subst (λ m. m < 2 ^ stored_width k) (sym same) h, ap natural_value same)
natural_forth k c (Num (negsuc n)) h = absurd h
natural_forth k c _ h = absurd h

pub integer_back : (w : ℕ) (z : ℤ) → IsSigned w z → integer w (Num z) ≡ z
integer_back w (pos n) h = ap pos (below_min (w - 1) n h)
integer_back w (negsuc n) h = ap negsuc (below_min (w - 1) n h)

pub integer_forth : (k : ℕ) (v : Val) → IsStored (Simple (PInt k)) v →
    IsSigned (stored_width k) (integer (stored_width k) v) × (Num (integer (stored_width k) v) ≡ v)
integer_forth k (Num z) h =
    let same = integer_back (stored_width k) z h in
    (subst (λ m. IsSigned (stored_width k) m) (sym same) h, ap Num same)
integer_forth k _ h = absurd h

pub float_back : (w n : ℕ) → n < 2 ^ w → float_bits w (Raw n) ≡ n
float_back w n h = below_min w n h

pub float_forth : (w : ℕ) (c : Bool) (v : Val) → IsStored (Simple (PFloat w c)) v →
    (float_bits w v < 2 ^ w) × (Raw (float_bits w v) ≡ v)
float_forth w c (Raw n) h =
    let same = below_min w n h in
    (subst (λ m. m < 2 ^ w) (sym same) h, ap Raw same)
float_forth w c _ h = absurd h

pub truth_forth : (v : Val) → IsStored (Simple PBool) v → Truth (truth_of v) ≡ v
truth_forth (Truth b) h = refl
truth_forth _ h = absurd h

-- ---- arrays

-- so many items at most, or exactly, each of which a field holds
abbrev pub Holds : {A : Type 0} → (ℕ → Type 0) → (A → Type 0) → List A → Type 0
Holds N P xs = N (length xs) × All P xs

count_row : {A : Type 0} (f : A → Val) (xs : List A) → count (row_of f xs) ≡ length xs
count_row f [] = refl
count_row f (x ∷ xs) = ap suc (count_row f xs)

length_list : {A : Type 0} (g : Val → A) (vs : Vals) → length (list_of g vs) ≡ count vs
length_list g Empty = refl
length_list g (More v vs) = ap suc (length_list g vs)

row_back : {A : Type 0} (P : A → Type 0) (Q : Val → Type 0) (f : A → Val) (g : Val → A) →
    ((x : A) → P x → Q (f x) × (g (f x) ≡ x)) → (xs : List A) → All P xs → AllOf Q (row_of f xs) × (list_of g (row_of f xs) ≡ xs)
row_back P Q f g each [] h = (tt, refl)
row_back P Q f g each (x ∷ xs) h =
    let one = each x (All-head P x xs h) in
    let more = row_back P Q f g each xs (All-tail P x xs h) in
    ((one.0, more.0), λ i. one.1 i ∷ more.1 i)

row_forth : {A : Type 0} (P : A → Type 0) (Q : Val → Type 0) (f : A → Val) (g : Val → A) →
    ((v : Val) → Q v → P (g v) × (f (g v) ≡ v)) → (vs : Vals) → AllOf Q vs → All P (list_of g vs) × (row_of f (list_of g vs) ≡ vs)
row_forth P Q f g each Empty h = (All-nil P, refl)
row_forth P Q f g each (More v vs) h =
    let one = each v h.0 in
    let more = row_forth P Q f g each vs h.1 in
    (All-cons P (g v) (list_of g vs) one.0 more.0, λ i. More (one.1 i) (more.1 i))

pub items_back : {A : Type 0} (N : ℕ → Type 0) (P : A → Type 0) (Q : Val → Type 0) (f : A → Val) (g : Val → A) →
    ((x : A) → P x → Q (f x) × (g (f x) ≡ x)) → (xs : List A) → Holds N P xs →
    AreItems N Q (Items (row_of f xs)) × (list_of g (row_of f xs) ≡ xs)
items_back N P Q f g each xs h =
    let all = row_back P Q f g each xs h.1 in
    ((subst N (sym (count_row f xs)) h.0, all.0), all.1)

pub items_forth : {A : Type 0} (N : ℕ → Type 0) (P : A → Type 0) (Q : Val → Type 0) (f : A → Val) (g : Val → A) →
    ((v : Val) → Q v → P (g v) × (f (g v) ≡ v)) → (v : Val) → AreItems N Q v →
    Holds N P (list_of g (items_of v)) × (Items (row_of f (list_of g (items_of v))) ≡ v)
items_forth N P Q f g each (Items vs) h =
    let all = row_forth P Q f g each vs h.1 in
    ((subst N (sym (length_list g vs)) h.0, all.0), ap Items all.1)
items_forth N P Q f g each _ h = absurd h

-- at most so many items
abbrev AtMost : ℕ → ℕ → Type 0
AtMost cap n = n ≤ cap

natural_each : (w : ℕ) → stored_width w ≡ w → (n : ℕ) → n < 2 ^ w
    → IsStored (uint w) (natural_value n) × (natural w (natural_value n) ≡ n)
natural_each w e n h = (subst (λ k. n < 2 ^ k) (sym e) h, natural_back w n h)

natural_of_each : (w : ℕ) → stored_width w ≡ w → (v : Val) → IsStored (uint w) v
    → (natural w v < 2 ^ w) × (natural_value (natural w v) ≡ v)
natural_of_each w e v h = subst (λ k. (natural k v < 2 ^ k) × (natural_value (natural k v) ≡ v)) e (natural_forth w true v h)

pub naturals_back : (w : ℕ) → stored_width w ≡ w → (cap : ℕ) (xs : List ℕ)
    → HoldsNaturals w cap xs →
    IsStored (Var (uint w) cap) (naturals_value xs) × (naturals_of w (naturals_value xs) ≡ xs)
naturals_back w e cap = items_back (AtMost cap) (λ n. n < 2 ^ w) (IsStored (uint w)) natural_value (natural w) (natural_each w e)

pub naturals_forth : (w : ℕ) → stored_width w ≡ w → (cap : ℕ) (v : Val)
    → IsStored (Var (uint w) cap) v →
    HoldsNaturals w cap (naturals_of w v) × (naturals_value (naturals_of w v) ≡ v)
naturals_forth w e cap = items_forth (AtMost cap) (λ n. n < 2 ^ w) (IsStored (uint w)) natural_value (natural w) (natural_of_each w e)

abbrev zeros : ℕ → List ℕ
zeros n = replicate n 0

-- so many bytes put over as many zeros
put_whole : (xs : List ℕ) → length xs ≡ 16 → put_at (zeros 16) 0 xs ≡ xs
put_whole xs e =
    (λ i. take 0 (zeros 16) ++ take (length (zeros 16) - 0) xs ++ drop (0 + e i) (zeros 16))
    ∙ append-nil (take 16 xs)
    ∙ subst (λ n. take n xs ≡ xs) e (take-length xs)

pub unique_id_back : (xs : List ℕ) → IsUniqueId xs
    → IsStored (Fixed (uint 8) 16) (naturals_value xs) × (unique_id_of (naturals_value xs) ≡ xs)
unique_id_back xs h =
    let r = items_back (λ n. n ≡ 16) (λ n. n < 2 ^ 8) (IsStored (uint 8)) natural_value (natural 8) (natural_each 8 refl) xs h in
    (r.0, ap (λ l. put_at (zeros 16) 0 l) r.1 ∙ put_whole xs h.0)

pub unique_id_forth : (v : Val) → IsStored (Fixed (uint 8) 16) v
    → IsUniqueId (unique_id_of v) × (naturals_value (unique_id_of v) ≡ v)
unique_id_forth v h =
    let r = items_forth (λ n. n ≡ 16) (λ n. n < 2 ^ 8) (IsStored (uint 8)) natural_value (natural 8) (natural_of_each 8 refl) v h in
    let same = put_whole (naturals_of 8 v) r.0.0 in
    (subst IsUniqueId (sym same) r.0, ap naturals_value same ∙ r.1)

integer_each : (w : ℕ) → stored_width w ≡ w → (z : ℤ) → IsSigned w z
    → IsStored (sint w) (Num z) × (integer w (Num z) ≡ z)
integer_each w e z h = (subst (λ k. IsSigned k z) (sym e) h, integer_back w z h)

integer_of_each : (w : ℕ) → stored_width w ≡ w → (v : Val) → IsStored (sint w) v
    → IsSigned w (integer w v) × (Num (integer w v) ≡ v)
integer_of_each w e v h = subst (λ k. IsSigned k (integer k v) × (Num (integer k v) ≡ v)) e (integer_forth w v h)

pub integers_back : (w : ℕ) → stored_width w ≡ w → (cap : ℕ) (xs : List ℤ)
    → HoldsIntegers w cap xs →
    IsStored (Var (sint w) cap) (integers_value xs) × (integers_of w (integers_value xs) ≡ xs)
integers_back w e cap = items_back (AtMost cap) (λ z. IsSigned w z) (IsStored (sint w)) Num (integer w) (integer_each w e)

pub integers_forth : (w : ℕ) → stored_width w ≡ w → (cap : ℕ) (v : Val)
    → IsStored (Var (sint w) cap) v →
    HoldsIntegers w cap (integers_of w v) × (integers_value (integers_of w v) ≡ v)
integers_forth w e cap = items_forth (AtMost cap) (λ z. IsSigned w z) (IsStored (sint w)) Num (integer w) (integer_of_each w e)

float_each : (w n : ℕ) → n < 2 ^ w → IsStored (float w) (Raw n) × (float_bits w (Raw n) ≡ n)
float_each w n h = (h, float_back w n h)

pub floats_back : (w cap : ℕ) (xs : List ℕ) → HoldsNaturals w cap xs →
    IsStored (Var (float w) cap) (floats_value xs) × (floats_of w (floats_value xs) ≡ xs)
floats_back w cap = items_back (AtMost cap) (λ n. n < 2 ^ w) (IsStored (float w)) Raw (float_bits w) (float_each w)

pub floats_forth : (w cap : ℕ) (v : Val) → IsStored (Var (float w) cap) v →
    HoldsNaturals w cap (floats_of w v) × (floats_value (floats_of w v) ≡ v)
floats_forth w cap = items_forth (AtMost cap) (λ n. n < 2 ^ w) (IsStored (float w)) Raw (float_bits w) (float_forth w true)

pub truths_back : (cap : ℕ) (xs : List Bool) → length xs ≤ cap
    → IsStored (Var bool cap) (truths_value xs) × (truths_of (truths_value xs) ≡ xs)
truths_back cap xs h = items_back (AtMost cap) (λ b. Unit {0}) (IsStored bool) Truth truth_of (λ b u. (tt, refl)) xs (h, λ k d l. tt)

pub truths_forth : (cap : ℕ) (v : Val) → IsStored (Var bool cap) v
    → (length (truths_of v) ≤ cap) × (truths_value (truths_of v) ≡ v)
truths_forth cap v h =
    let r = items_forth (AtMost cap) (λ b. Unit {0}) (IsStored bool) Truth truth_of (λ w k. (tt, truth_forth w k)) v h in
    (r.0.0, r.1)

-- ---- structures

-- the fields of a structure; of another schema none
abbrev pub fields_of : Sch → Flds
fields_of (Struct fs o) = fs
fields_of _ = End

abbrev pub is_struct : Sch → Bool
is_struct (Struct fs o) = true
is_struct _ = false

-- the values of fields that aren't padding, by their numbers
abbrev pub each_of : Flds → (ℕ → Val) → List Val
each_of End f = []
each_of (Pad n fs) f = each_of fs f
each_of (Field name s fs) f = f 0 ∷ each_of fs (λ k. f (suc k))

abbrev pub AreEachStored : Flds → (ℕ → Val) → Type 0
AreEachStored End f = Unit {0}
AreEachStored (Pad n fs) f = AreEachStored fs f
AreEachStored (Field name s fs) f = IsStored s (f 0) × AreEachStored fs (λ k. f (suc k))

fields_are : (fs : Flds) (v : Val) (vs : Vals) → AreStored fs vs →
    (vs ≡ in_row (each_of fs (λ k. part_or v vs k))) × AreEachStored fs (λ k. part_or v vs k)
fields_are End v Empty h = (refl, tt)
fields_are End v (More w ws) h = absurd h
fields_are (Pad n fs) v vs h = fields_are fs v vs h
fields_are (Field name s fs) v Empty h = absurd h
fields_are (Field name s fs) v (More w ws) h =
    let r = fields_are fs v ws h.1 in
    (ap (λ us. More w us) r.0, (h.0, r.1))

in_parts : (fs : Flds) (v : Val) → IsStored (Struct fs (record { extent = 0; sealed = true })) v →
    (v ≡ Parts (in_row (each_of fs (λ k. part k v)))) × AreEachStored fs (λ k. part k v)
in_parts fs (Parts vs) h = let r = fields_are fs (Parts vs) vs h in (ap Parts r.0, r.1)
in_parts fs _ h = absurd h

-- a value of a structure is the values of its fields, each of its type
pub parts_are : (s : Sch) → is_struct s ≡ true → (v : Val) → IsStored s v →
    (v ≡ Parts (in_row (each_of (fields_of s) (λ k. part k v)))) × AreEachStored (fields_of s) (λ k. part k v)
parts_are (Struct fs o) e v h = in_parts fs v h
parts_are (Simple t) e v h = absurd (false≢true e)
parts_are (Fixed s n) e v h = absurd (false≢true e)
parts_are (Var s n) e v h = absurd (false≢true e)
parts_are (Union fs o) e v h = absurd (false≢true e)

-- a structure of one field, and its value
pub alone_is : (name : List ℕ) (s : Sch) (v : Val) → IsStored (sealed (Field name s End)) v
    → (v ≡ alone (part 0 v)) × IsStored s (part 0 v)
alone_is name s v h = let p = parts_are (sealed (Field name s End)) refl v h in (p.0, p.1.0)

pub alone_forth : {A : Type 0} (name : List ℕ) (s : Sch) (F : A → Type 0) (value : A → Val) (of : Val → A) →
    ((v : Val) → IsStored s v → F (of v) × (value (of v) ≡ v)) →
    (v : Val) → IsStored (sealed (Field name s End)) v → F (of (part 0 v)) × (alone (value (of (part 0 v))) ≡ v)
alone_forth name s F value of each v h =
    let p = alone_is name s v h in
    let r = each (part 0 v) p.1 in
    (r.0, (λ i. alone (r.1 i)) ∙ sym p.0)

pub byte_array_back : (name : List ℕ) (cap : ℕ) (xs : List ℕ) → HoldsBytes cap xs →
    IsStored (sealed (Field name (bytes cap) End)) (alone (naturals_value xs)) × (naturals_of 8 (part 0 (alone (naturals_value xs))) ≡ xs)
byte_array_back name cap xs h = let r = naturals_back 8 refl cap xs h in ((r.0, tt), r.1)

pub byte_array_forth : (name : List ℕ) (cap : ℕ) (v : Val)
    → IsStored (sealed (Field name (bytes cap) End)) v →
    HoldsBytes cap (naturals_of 8 (part 0 v)) × (alone (naturals_value (naturals_of 8 (part 0 v))) ≡ v)
byte_array_forth name cap = alone_forth name (bytes cap) (HoldsBytes cap) naturals_value (naturals_of 8) (naturals_forth 8 refl cap)
