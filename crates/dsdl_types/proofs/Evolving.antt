-- A newer type reads what an older one wrote, and the other way round
use Rattle.std.proofs.Common.{◌≡◌, ℕ, zero, suc, ◌+◌, ◌*◌, ◌-◌, ◌/◌, ◌≤◌, min, Bool, true, false, List, [], ◌∷◌, ◌++◌, length, take, drop, replicate, refl, sym, ap, ◌∙◌, subst, arith, append_assoc, inl, inr}
use Rattle.std.proofs.Math.Seq.{take-append-add}
use Rattle.std.specs.Prelude.{◌⊎◌}
use Rattle.cy_bits.specs.Bits.{bits, bytes, bytes_up_to, zeros}
use Rattle.dsdl_types.specs.Schemas.{Sch, Flds, Simple, Fixed, Var, Struct, Union, End, Pad, Field, is_aligned, is_composite, is_delimited, extent_of}
use Rattle.dsdl_types.specs.Values.{Val, Vals, Items, Parts, Tagged, Empty, More, on_items}
use Rattle.dsdl_types.specs.Reading.{Read, Got, Bad, Step, Why, own}
use Rattle.dsdl_types.specs.Encoding.{own_bits}
use Rattle.dsdl_types.specs.Fits.{Fits, FitFields, FitsVariant, AllOf}
use Rattle.dsdl_types.specs.Cast.{cast, cast_fields, cast_variant}
use Rattle.dsdl_types.specs.Sound.{IsSound}
use Rattle.dsdl_types.specs.Greatest.{longest}
use Rattle.dsdl_types.specs.Newer.{Newer, convert, convert_fields, convert_variant, newer_simple, newer_fixed, newer_var, sealed_struct, sealed_union, newer_struct, newer_union}
use Rattle.dsdl_types.specs.Laws.{Reads, Unreadable, ReadsOnce, encoding, with_zeros, RoundTrip, ReadsPadded, Evolution}
use Rattle.cy_bits.proofs.BitFacts.{bits-append, bits_zero, bits_bytes, zeros-append}
use Rattle.dsdl_types.proofs.Lengths.{own_whole, own_most}
use Rattle.dsdl_types.proofs.Akins.{Akin, newer_akin, same_akin}
use Rattle.dsdl_types.proofs.Conversion.{Ends, own_reads}

length_bytes : (n : ℕ) (l : List Bool) → length (bytes_up_to n l) ≡ n
length_bytes zero l = refl
length_bytes (suc n) l = ap suc (length_bytes n (drop 8 l))

pub bits_encoding : (l : List Bool) (k : ℕ) → bits (with_zeros (bytes l) k) ≡ l ++ zeros (8 * ((length l + 7) / 8) - length l + 8 * k)
bits_encoding l k =
    let g = 8 * ((length l + 7) / 8) - length l in
    bits-append (bytes l) (replicate k 0)
    ∙ ap (λ x. x ++ bits (replicate k 0)) (bits_bytes ((length l + 7) / 8) l (omega arith))
    ∙ ap (λ x. (l ++ zeros g) ++ x) (bits_zero k)
    ∙ append_assoc l (zeros g) (zeros (8 * k))
    ∙ ap (λ x. l ++ x) (zeros-append g (8 * k))

ends_zeros : (d : Bool) (m : ℕ) → Ends d (zeros m)
ends_zeros false m = tt
ends_zeros true m = (m, refl)

pub reads_zeros : (a b : Sch) → Akin a b → IsSound a → IsSound b → (v : Val) → Fits a v → (k : ℕ) → Reads b (with_zeros (encoding a v) k) (convert a b (cast a v))
reads_zeros a b h i j v f k =
    let m = 8 * ((length (own_bits a v) + 7) / 8) - length (own_bits a v) + 8 * k in
    let z = own_reads a b h i j v f 0 (zeros m) (λ _. refl) (ends_zeros (is_delimited a) m) in
    (z.to, z.left, ap (λ x. own b 0 x) (bits_encoding (own_bits a v) k) ∙ z.is)

take_replicate : (n k : ℕ) → take {A = ℕ} n (replicate k 0) ≡ replicate (min n k) 0
take_replicate zero k = let e : 0 ≡ min zero k = omega arith in ap (λ n. replicate n 0) e
take_replicate (suc n) zero = let e : 0 ≡ min (suc n) zero = omega arith in ap (λ n. replicate n 0) e
take_replicate (suc n) (suc k) = let e : suc (min n k) ≡ min (suc n) (suc k) = omega arith in ap (λ l. 0 ∷ l) (take_replicate n k) ∙ ap (λ n. replicate n 0) e

pub cut_zeros : (b : List ℕ) (c k : ℕ) → length b ≤ c → take c (with_zeros b k) ≡ with_zeros b (min (c - length b) k)
cut_zeros b c k h =
    let e : c ≡ length b + (c - length b) = omega arith in
    ap (λ n. take n (b ++ replicate k 0)) e
    ∙ take-append-add b (replicate k 0) (c - length b)
    ∙ ap (λ x. b ++ x) (take_replicate (c - length b) k)

pub composite_bounds : (s : Sch) → IsSound s → is_composite s ≡ true → (longest s ≤ extent_of s) × (is_aligned s ≡ true)
composite_bounds (Simple t) i h = cc
composite_bounds (Fixed s n) i h = cc
composite_bounds (Var s n) i h = cc
composite_bounds (Struct fs f) i h = (i.0.0, refl)
composite_bounds (Union fs f) i h = (i.0.0, refl)

-- no encoding is longer than the extent
pub encoding_most : (s : Sch) (v : Val) → IsSound s → is_composite s ≡ true → Fits s v → length (encoding s v) ≤ extent_of s / 8
encoding_most s v i c f =
    let b = composite_bounds s i c in
    omega (arith, length_bytes ((length (own_bits s v) + 7) / 8) (own_bits s v), own_most s v i f, own_whole s v b.1, b.0)

with_none : (b : List ℕ) → with_zeros b 0 ≡ b
with_none [] = refl
with_none (x ∷ b) = ap (λ l. x ∷ l) (with_none b)

reads_padded : (a b : Sch) → Akin a b → IsSound a → IsSound b → (v : Val) → Fits a v → (c : ℕ) → (is_composite b ≡ true → length (encoding a v) ≤ c) → ReadsPadded b (encoding a v) (convert a b (cast a v)) c
reads_padded a b h i j v f c room =
    let w = convert a b (cast a v) in
    record {
      plain = subst (λ x. Reads b x w) (with_none (encoding a v)) (reads_zeros a b h i j v f 0);
      zeros = λ k. reads_zeros a b h i j v f k;
      zeros_cut = λ y k. subst (λ x. Reads b x w) (sym (cut_zeros (encoding a v) c k (room y))) (reads_zeros a b h i j v f (min (c - length (encoding a v)) k));
    }

same_kind : (a b : Sch) → Newer a b → (is_composite a ≡ is_composite b) × (extent_of a ≡ extent_of b)
same_kind _ _ newer_simple = (refl, refl)
same_kind _ _ (newer_fixed k) = (refl, refl)
same_kind _ _ (newer_var k) = (refl, refl)
same_kind _ _ (sealed_struct s e) = (refl, refl)
same_kind _ _ (sealed_union s e) = (refl, refl)
same_kind _ _ (newer_struct s k) = (refl, refl)
same_kind _ _ (newer_union s e k) = (refl, refl)

pub evolution_holds : Evolution
evolution_holds n o i j h =
    let k = newer_akin n o h in
    let s = same_kind n o h in
    record {
      to_old = λ v f. reads_padded n o k.0 i j v f (extent_of n / 8) (λ y. encoding_most n v i (s.0 ∙ y) f);
      to_new = λ w f. reads_padded o n k.1 j i w f (extent_of n / 8) (λ y. subst (λ e. length (encoding o w) ≤ e / 8) (sym s.1) (encoding_most o w j (sym s.0 ∙ y) f));
    }

got_value : {A : Type 0} (r : Read A) (a b : A) (p q : ℕ) (x y : List Bool) → r ≡ Got a p x → r ≡ Got b q y → a ≡ b
got_value r a b p q x y e h = cc

abbrev bad : List Step → Why → Read Val
bad path why = Bad path why

bad_path : (path path' : List Step) (why why' : Why) → bad path why ≡ bad path' why' → path ≡ path'
bad_path path path' why why' e = cc

bad_why : (path path' : List Step) (why why' : Why) → bad path why ≡ bad path' why' → why ≡ why'
bad_why path path' why why' e = cc

items_same : (s : Sch) → ((v : Val) → Fits s v → convert s s (cast s v) ≡ cast s v) → (vs : Vals) → AllOf (Fits s) vs → on_items (convert s s) (on_items (cast s) vs) ≡ on_items (cast s) vs
items_same s h Empty f = refl
items_same s h (More v vs) f = λ i. More (h v f.0 i) (items_same s h vs f.1 i)

-- A type reads its own values back
mutual
  own_same : (s : Sch) (v : Val) → Fits s v → convert s s (cast s v) ≡ cast s v
  own_same (Simple t) v f = refl
  own_same (Fixed s n) (Items vs) f = ap Items (items_same s (own_same s) vs f.1)
  own_same (Fixed s n) v f = absurd f
  own_same (Var s n) (Items vs) f = ap Items (items_same s (own_same s) vs f.1)
  own_same (Var s n) v f = absurd f
  own_same (Struct fs g) (Parts vs) f = ap Parts (fields_same fs vs f)
  own_same (Struct fs g) v f = absurd f
  own_same (Union fs g) (Tagged t v) f = ap (λ x. Tagged t x) (variant_same fs t v f)
  own_same (Union fs g) v f = absurd f

  fields_same : (fs : Flds) (vs : Vals) → FitFields fs vs → convert_fields fs fs (cast_fields fs vs) ≡ cast_fields fs vs
  fields_same End vs f = refl
  fields_same (Pad n fs) vs f = fields_same fs vs f
  fields_same (Field name s fs) Empty f = absurd f
  fields_same (Field name s fs) (More v vs) f = λ i. More (own_same s v f.0 i) (fields_same fs vs f.1 i)

  variant_same : (fs : Flds) (k : ℕ) (v : Val) → FitsVariant fs k v → convert_variant fs fs k (cast_variant fs k v) ≡ cast_variant fs k v
  variant_same End k v f = refl
  variant_same (Pad n fs) k v f = variant_same fs k v f
  variant_same (Field name s fs) zero v f = own_same s v f
  variant_same (Field name s fs) (suc k) v f = variant_same fs k v f

pub round_trips : (s : Sch) → RoundTrip s
round_trips s i v f k = subst (λ x. Reads s (with_zeros (encoding s v) k) x) (own_same s v f) (reads_zeros s s (same_akin s s refl) i i v f k)

pub reads_once : (s : Sch) (b : List ℕ) → ReadsOnce s b
reads_once s b = record {
  either = which (own s 0 (bits b)) refl;
  not_both = λ v path why h k. let e : Got v h.0 h.1 ≡ Bad path why = sym h.2 ∙ k in cc;
  one_value = λ v w h k. let e : Got v h.0 h.1 ≡ Got w k.0 k.1 = sym h.2 ∙ k.2 in cc;
  one_path = λ path path' why why' h k. bad_path path path' why why' (sym h ∙ k);
  one_why = λ path path' why why' h k. bad_why path path' why why' (sym h ∙ k);
}
  where
    which : (r : Read Val) → own s 0 (bits b) ≡ r → ((v : Val) × Reads s b v) ⊎ ((path : List Step) × (why : Why) × Unreadable s b path why)
    which (Got v p rest) e = inl (v, (p, rest, e))
    which (Bad path why) e = inr (path, why, e)
