-- A value has no misfit exactly where it is one of the schema
use Rattle.std.proofs.Common.{◌≡◌, ℕ, zero, suc, ◌≤◌, ◌==◌, ◌^◌, ◌&&◌, Bool, true, false, List, refl, ap, ◌∙◌, arith, pos, negsuc, ℤ}
use Rattle.std.proofs.lemmas.Bool.{false≢true, ltb-true, lt-ltb, eqb-true}
use Rattle.std.proofs.lemmas.Bool.Decides.{nat_tests}
use Rattle.std.specs.Prelude.{Option, Some, None, nat_le}
use Rattle.dsdl_types.specs.Fits.{Fits, FitFields, FitsVariant, FitsSimple, IsNumber, AllOf, AreItems, AreParts, IsTagged}
use Rattle.dsdl_types.specs.Reading.{Step, Name, Index}
use Rattle.dsdl_types.specs.Schemas.{Prim, Sch, Flds, PBool, PUint, PInt, PFloat, Simple, Fixed, Var, Struct, Union, End, Pad, Field, variants}
use Rattle.dsdl_types.specs.Values.{Val, Vals, Truth, Num, Raw, Items, Parts, Tagged, Empty, More, count}
use Rattle.wire_values.specs.Laws.{FitsOrMisfit}
use Rattle.wire_values.specs.Misfits.{below, either, first_misfit, in_items, in_parts, in_variant, is_number, is_simple, misfit, misfit_fields, misfit_variant, unless}

abbrev Path : Type 0
Path = Option (List Step)

unless_none : (b : Bool) (m : Path) → unless b m ≡ None → (b ≡ true) × (m ≡ None)
unless_none true m e = (refl, e)
unless_none false m e = cc

below_none : (s : Step) (m : Path) → below s m ≡ None → m ≡ None
below_none s None e = refl
below_none s (Some steps) e = cc

either_none : (m n : Path) → either m n ≡ None → (m ≡ None) × (n ≡ None)
either_none None n e = (refl, e)
either_none (Some steps) n e = cc

both : (a b : Bool) → a && b ≡ true → (a ≡ true) × (b ≡ true)
both true b h = (refl, h)
both false b h = absurd (false≢true h)

le_from : (a b : ℕ) → nat_le a b ≡ true → a ≤ b
le_from a b h = grind (arith, nat_tests)

le_to : (a b : ℕ) → a ≤ b → nat_le a b ≡ true
le_to a b h = grind (arith, nat_tests)

eq_to : (a b : ℕ) → a ≡ b → (a == b) ≡ true
eq_to a b h = grind (arith, nat_tests)

-- ---- primitives

number_from : (z : ℤ) → is_number z ≡ true → IsNumber z
number_from (pos n) h = ltb-true n (2 ^ 64) h
number_from (negsuc n) h = ltb-true n (2 ^ 63) h

number_to : (z : ℤ) → IsNumber z → is_number z ≡ true
number_to (pos n) h = lt-ltb n (2 ^ 64) h
number_to (negsuc n) h = lt-ltb n (2 ^ 63) h

simple_from : (t : Prim) (v : Val) → is_simple t v ≡ true → FitsSimple t v
simple_from PBool (Truth b) h = tt
simple_from (PUint w c) (Num z) h = number_from z h
simple_from (PInt w) (Num z) h = number_from z h
simple_from (PFloat w c) (Raw n) h = ltb-true n (2 ^ w) h
simple_from t v h = absurd (false≢true h)

simple_to : (t : Prim) (v : Val) → FitsSimple t v → is_simple t v ≡ true
simple_to PBool (Truth b) h = refl
simple_to (PUint w c) (Num z) h = number_to z h
simple_to (PInt w) (Num z) h = number_to z h
simple_to (PFloat w c) (Raw n) h = lt-ltb n (2 ^ w) h
simple_to t v h = absurd h

-- ---- arrays

all_from : (f : Val → Path) (P : Val → Type 0) → ((v : Val) → f v ≡ None → P v) → (i : ℕ) (vs : Vals) → first_misfit f i vs ≡ None → AllOf P vs
all_from f P h i Empty e = tt
all_from f P h i (More v vs) e =
    let b = either_none (below (Index i) (f v)) (first_misfit f (suc i) vs) e in
    (h v (below_none (Index i) (f v) b.0), all_from f P h (suc i) vs b.1)

all_to : (f : Val → Path) (P : Val → Type 0) → ((v : Val) → P v → f v ≡ None) → (i : ℕ) (vs : Vals) → AllOf P vs → first_misfit f i vs ≡ None
all_to f P h i Empty a = refl
all_to f P h i (More v vs) a = ap (λ m. either (below (Index i) m) (first_misfit f (suc i) vs)) (h v a.0) ∙ all_to f P h (suc i) vs a.1

items_from : (least most : ℕ) (N : ℕ → Type 0) (f : Val → Path) (P : Val → Type 0) → ((k : ℕ) → least ≤ k → k ≤ most → N k) → ((v : Val) → f v ≡ None → P v) → (v : Val) → in_items least most f v ≡ None → AreItems N P v
items_from least most N f P many h (Items vs) e =
    let u = unless_none (nat_le least (count vs) && nat_le (count vs) most) (first_misfit f 0 vs) e in
    let b = both (nat_le least (count vs)) (nat_le (count vs) most) u.0 in
    (many (count vs) (le_from least (count vs) b.0) (le_from (count vs) most b.1), all_from f P h 0 vs u.1)
items_from least most N f P many h (Truth b) e = cc
items_from least most N f P many h (Num z) e = cc
items_from least most N f P many h (Raw n) e = cc
items_from least most N f P many h (Parts vs) e = cc
items_from least most N f P many h (Tagged t v) e = cc

items_to : (least most : ℕ) (N : ℕ → Type 0) (f : Val → Path) (P : Val → Type 0) → ((k : ℕ) → N k → (least ≤ k) × (k ≤ most)) → ((v : Val) → P v → f v ≡ None) → (v : Val) → AreItems N P v → in_items least most f v ≡ None
items_to least most N f P many h (Items vs) a =
    let m = many (count vs) a.0 in
    let test : nat_le least (count vs) && nat_le (count vs) most ≡ true = (λ i. le_to least (count vs) m.0 i && le_to (count vs) most m.1 i) in
    ap (λ b. unless b (first_misfit f 0 vs)) test ∙ all_to f P h 0 vs a.1
items_to least most N f P many h (Truth b) a = absurd a
items_to least most N f P many h (Num z) a = absurd a
items_to least most N f P many h (Raw n) a = absurd a
items_to least most N f P many h (Parts vs) a = absurd a
items_to least most N f P many h (Tagged t v) a = absurd a

-- ---- composites

parts_from : (n : ℕ) (f : Vals → Path) (P : Vals → Type 0) → ((vs : Vals) → count vs ≡ n → f vs ≡ None → P vs) → (v : Val) → in_parts n f v ≡ None → AreParts P v
parts_from n f P h (Parts vs) e = let u = unless_none (count vs == n) (f vs) e in h vs (eqb-true (count vs) n u.0) u.1
parts_from n f P h (Truth b) e = cc
parts_from n f P h (Num z) e = cc
parts_from n f P h (Raw k) e = cc
parts_from n f P h (Items vs) e = cc
parts_from n f P h (Tagged t v) e = cc

parts_to : (n : ℕ) (f : Vals → Path) (P : Vals → Type 0) → ((vs : Vals) → P vs → (count vs ≡ n) × (f vs ≡ None)) → (v : Val) → AreParts P v → in_parts n f v ≡ None
parts_to n f P h (Parts vs) a = let b = h vs a in ap (λ t. unless t (f vs)) (eq_to (count vs) n b.0) ∙ b.1
parts_to n f P h (Truth b) a = absurd a
parts_to n f P h (Num z) a = absurd a
parts_to n f P h (Raw k) a = absurd a
parts_to n f P h (Items vs) a = absurd a
parts_to n f P h (Tagged t v) a = absurd a

tagged_from : (f : ℕ → Val → Path) (P : ℕ → Val → Type 0) → ((t : ℕ) (v : Val) → f t v ≡ None → P t v) → (v : Val) → in_variant f v ≡ None → IsTagged P v
tagged_from f P h (Tagged t v) e = h t v e
tagged_from f P h (Truth b) e = cc
tagged_from f P h (Num z) e = cc
tagged_from f P h (Raw n) e = cc
tagged_from f P h (Items vs) e = cc
tagged_from f P h (Parts vs) e = cc

tagged_to : (f : ℕ → Val → Path) (P : ℕ → Val → Type 0) → ((t : ℕ) (v : Val) → P t v → f t v ≡ None) → (v : Val) → IsTagged P v → in_variant f v ≡ None
tagged_to f P h (Tagged t v) a = h t v a
tagged_to f P h (Truth b) a = absurd a
tagged_to f P h (Num z) a = absurd a
tagged_to f P h (Raw n) a = absurd a
tagged_to f P h (Items vs) a = absurd a
tagged_to f P h (Parts vs) a = absurd a

mutual
  own_from : (s : Sch) (v : Val) → misfit s v ≡ None → Fits s v
  own_from (Simple t) v e = simple_from t v (unless_none (is_simple t v) None e).0
  own_from (Fixed s n) v e = items_from n n (λ k. k ≡ n) (λ x. misfit s x) (λ x. Fits s x) (λ k a b. omega arith) (own_from s) v e
  own_from (Var s cap) v e = items_from 0 cap (λ k. k ≤ cap) (λ x. misfit s x) (λ x. Fits s x) (λ k a b. b) (own_from s) v e
  own_from (Struct fs o) v e = parts_from (variants fs) (λ vs. misfit_fields fs vs) (λ vs. FitFields fs vs) (fields_from fs) v e
  own_from (Union fs o) v e = tagged_from (λ t x. misfit_variant fs t x) (λ t x. FitsVariant fs t x) (variant_from fs) v e

  fields_from : (fs : Flds) (vs : Vals) → count vs ≡ variants fs → misfit_fields fs vs ≡ None → FitFields fs vs
  fields_from End Empty c e = tt
  fields_from End (More v vs) c e = absurd (omega arith)
  fields_from (Pad n fs) vs c e = fields_from fs vs c e
  fields_from (Field name s fs) Empty c e = absurd (omega arith)
  fields_from (Field name s fs) (More v vs) c e =
      let b = either_none (below (Name name) (misfit s v)) (misfit_fields fs vs) e in
      (own_from s v (below_none (Name name) (misfit s v) b.0), fields_from fs vs (omega arith) b.1)

  variant_from : (fs : Flds) (k : ℕ) (v : Val) → misfit_variant fs k v ≡ None → FitsVariant fs k v
  variant_from End k v e = cc
  variant_from (Pad n fs) k v e = variant_from fs k v e
  variant_from (Field name s fs) zero v e = own_from s v (below_none (Name name) (misfit s v) e)
  variant_from (Field name s fs) (suc k) v e = variant_from fs k v e

mutual
  own_to : (s : Sch) (v : Val) → Fits s v → misfit s v ≡ None
  own_to (Simple t) v h = ap (λ b. unless b None) (simple_to t v h)
  own_to (Fixed s n) v h = items_to n n (λ k. k ≡ n) (λ x. misfit s x) (λ x. Fits s x) (λ k e. (omega arith, omega arith)) (own_to s) v h
  own_to (Var s cap) v h = items_to 0 cap (λ k. k ≤ cap) (λ x. misfit s x) (λ x. Fits s x) (λ k e. (omega arith, e)) (own_to s) v h
  own_to (Struct fs o) v h = parts_to (variants fs) (λ vs. misfit_fields fs vs) (λ vs. FitFields fs vs) (fields_to fs) v h
  own_to (Union fs o) v h = tagged_to (λ t x. misfit_variant fs t x) (λ t x. FitsVariant fs t x) (variant_to fs) v h

  fields_to : (fs : Flds) (vs : Vals) → FitFields fs vs → (count vs ≡ variants fs) × (misfit_fields fs vs ≡ None)
  fields_to End Empty h = (refl, refl)
  fields_to End (More v vs) h = absurd h
  fields_to (Pad n fs) vs h = fields_to fs vs h
  fields_to (Field name s fs) Empty h = absurd h
  fields_to (Field name s fs) (More v vs) h =
      let r = fields_to fs vs h.1 in
      (ap suc r.0, ap (λ m. either (below (Name name) m) (misfit_fields fs vs)) (own_to s v h.0) ∙ r.1)

  variant_to : (fs : Flds) (k : ℕ) (v : Val) → FitsVariant fs k v → misfit_variant fs k v ≡ None
  variant_to End k v h = absurd h
  variant_to (Pad n fs) k v h = variant_to fs k v h
  variant_to (Field name s fs) zero v h = ap (λ m. below (Name name) m) (own_to s v h)
  variant_to (Field name s fs) (suc k) v h = variant_to fs k v h

pub fits_or_misfit : FitsOrMisfit
fits_or_misfit s v = (own_from s v, own_to s v)
