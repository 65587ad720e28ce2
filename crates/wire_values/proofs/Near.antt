-- How far a reader gets
use Rattle.std.proofs.Common.{◌≡◌, ◌∙◌, ℕ, suc, ◌+◌, ◌*◌, ◌-◌, ◌<◌, ◌≤◌, ◌^◌, Bool, true, false, List, length, take, refl, sym, ap, arith}
use Rattle.std.proofs.lemmas.Bool.{false≢true}
use Rattle.std.proofs.lemmas.List.{length-drop, length-take-le}
use Rattle.cy_bits.specs.Bits.{bits}
use Rattle.dsdl_types.specs.Reach.{header_or, reach, reach_fields, reach_variant}
use Rattle.dsdl_types.specs.Reading.{Got, Name, Index, and_then, under, own, part, fields, variant}
use Rattle.dsdl_types.specs.Schemas.{Sch, Flds, Simple, Fixed, Var, Struct, Union, End, is_aligned, is_delimited, is_composite, extent_of}
use Rattle.dsdl_types.specs.Sound.{IsSound}
use Rattle.dsdl_types.specs.Values.{Val, Vals, Items, More, Empty}
use Rattle.dsdl_types.specs.Views.{Kind, Typed, Padding, is_padding, type_of, with_field}
use Rattle.dsdl_types.proofs.Evolving.{composite_bounds}
use Rattle.dsdl_types.proofs.Reaching.{own_reach, fields_reach, variant_reach}
use Rattle.dsdl_types.proofs.Longer.{under_got}
use Rattle.dsdl_types.proofs.ReachBound.{reach_most}
use Rattle.wire_values.specs.Reads.{Near, behind, skipped}
use Rattle.wire_values.specs.Rules.{HasRules}

-- behind a part
pub part_near : (s : Sch) (b c : List ℕ) (p q : ℕ) (v : Val) (more : ℕ) → part s p (behind b p) ≡ Got v q (behind c q) →
    Near b p (header_or (is_delimited s) (reach s) + more) → Near c q more
part_near s b c p q v more e h =
    let one : own (Fixed s 1) p (behind b p) ≡ Got (Items (More v Empty)) q (behind c q) =
    ap (λ r. and_then (and_then (under (Index 0) r) (λ v q x. and_then (Got Empty q x) (λ vs. Got (More v vs)))) (λ vs. Got (Items vs))) e in
    omega (arith, h, own_reach (Fixed s 1) p (behind b p) (Items (More v Empty)) q (behind c q) one)

pub fields_near : (fs : Flds) (b c : List ℕ) (p q : ℕ) (vs : Vals) (more : ℕ) → fields fs p (behind b p) ≡ Got vs q (behind c q) →
    Near b p (reach_fields fs + more) → Near c q more
fields_near fs b c p q vs more e h = omega (arith, h, fields_reach fs p (behind b p) vs q (behind c q) e)

pub variant_near : (fs : Flds) (tag : ℕ) (b c : List ℕ) (p q : ℕ) (v : Val) (more : ℕ) → variant fs tag tag p (behind b p) ≡ Got v q (behind c q) →
    Near b p (reach_variant fs + more) → Near c q more
variant_near fs tag b c p q v more e h = omega (arith, h, variant_reach fs tag tag p (behind b p) v q (behind c q) e)

-- behind so many bits
pub skip_near : (b c : List ℕ) (p q w more : ℕ) → c ≡ b → q ≡ p + w → Near b p (w + more) → Near c q more
skip_near b c p q w more e f h =
    let g : length (behind c q) ≤ length (behind b p) = omega (arith, ap (λ x. length (behind x q)) e, length-drop q (bits b), length-drop p (bits b), f) in
    omega (arith, h, f, g)

-- less is near where more is
pub nearer : (b : List ℕ) (p m n : ℕ) → m ≤ n → Near b p n → Near b p m
nearer b p m n h k = omega (arith, h, k)

-- ---- fields in front of others

pub reach_front : (name : List ℕ) (k : Kind) (fs : Flds) → reach_fields (with_field name k fs) ≡ reach_fields (with_field name k End) + reach_fields fs
reach_front name (Typed s) fs = omega arith
reach_front name (Padding n) fs = omega arith

pub reach_named : (name : List ℕ) (k : Kind) (fs : Flds) → is_padding k ≡ false → reach_fields (with_field name k fs) ≡ 7 + header_or (is_delimited (type_of k)) (reach (type_of k)) + reach_fields fs
reach_named name (Typed s) fs p = refl
reach_named name (Padding n) fs p = absurd (false≢true (sym p))

pub reach_variant_named : (name : List ℕ) (k : Kind) (fs : Flds) → is_padding k ≡ false → header_or (is_delimited (type_of k)) (reach (type_of k)) ≤ reach_variant (with_field name k fs)
reach_variant_named name (Typed s) fs p = omega arith
reach_variant_named name (Padding n) fs p = absurd (false≢true (sym p))

pub reach_variant_behind : (name : List ℕ) (k : Kind) (fs : Flds) → reach_variant fs ≤ reach_variant (with_field name k fs)
reach_variant_behind name (Typed s) fs = omega arith
reach_variant_behind name (Padding n) fs = omega arith

-- ---- a window

delimited_composite : (s : Sch) → is_delimited s ≡ true → is_composite s ≡ true
delimited_composite (Simple t) h = h
delimited_composite (Fixed s n) h = h
delimited_composite (Var s n) h = h
delimited_composite (Struct fs o) h = refl
delimited_composite (Union fs o) h = refl

pub extent_most : (s : Sch) → IsSound s → extent_of s ≤ 2 ^ 32
extent_most (Simple t) h = omega arith
extent_most (Fixed s n) h = omega arith
extent_most (Var s n) h = omega arith
extent_most (Struct fs o) h = h.0.1
extent_most (Union fs o) h = h.0.1

pub composite_near : (s : Sch) → HasRules s → is_composite s ≡ true → reach s ≤ 2 ^ 33
composite_near s h c = omega (arith, reach_most s, h.2, (composite_bounds s h.1 c).0, extent_most s h.1)

-- the bits of a window's own bytes
pub window_near : (s : Sch) (w : List ℕ) (x : List Bool) (c : ℕ) → HasRules s → is_delimited s ≡ true → c < 2 ^ 32 → 8 * c ≤ length x → bits w ≡ take (8 * c) x → Near w 0 (reach s)
window_near s w x c h d small room e =
    let n : length (bits w) ≡ 8 * c = ap length e ∙ length-take-le (8 * c) x room in
    omega (arith, composite_near s h (delimited_composite s d), n)

-- behind a field that isn't padding
pub field_near : (name : List ℕ) (k : Kind) (b c d : List ℕ) (p q r : ℕ) (v : Val) (more : ℕ) → is_padding k ≡ false → c ≡ b → q ≡ p + skipped (is_aligned (type_of k)) p →
    under (Name name) (part (type_of k) q (behind c q)) ≡ Got v r (behind d r) → Near b p (reach_fields (with_field name k End) + more) → Near d r more
field_near name k b c d p q r v more h e f reads near =
    let reach_is = reach_named name k End h in
    let s = skipped_most (is_aligned (type_of k)) p in
    let room : Near b p (skipped (is_aligned (type_of k)) p + (header_or (is_delimited (type_of k)) (reach (type_of k)) + more)) = omega (arith, near, reach_is, s) in
    part_near (type_of k) c d q r v more (under_got (Name name) (part (type_of k) q (behind c q)) v r (behind d r) reads)
    (skip_near b c p q (skipped (is_aligned (type_of k)) p) (header_or (is_delimited (type_of k)) (reach (type_of k)) + more) e f room)
  where
    skipped_most : (d : Bool) (p : ℕ) → skipped d p ≤ 7
    skipped_most true p = omega arith
    skipped_most false p = omega arith

-- at the beginning of a field that isn't padding
pub begin_near : (name : List ℕ) (k : Kind) (b c : List ℕ) (p q : ℕ) → is_padding k ≡ false → c ≡ b → q ≡ p + skipped (is_aligned (type_of k)) p →
    Near b p (reach_fields (with_field name k End)) → Near c q (header_or (is_delimited (type_of k)) (reach (type_of k)))
begin_near name k b c p q h e f near =
    let reach_is = reach_named name k End h in
    let s = skipped_most (is_aligned (type_of k)) p in
    let room : Near b p (skipped (is_aligned (type_of k)) p + header_or (is_delimited (type_of k)) (reach (type_of k))) = omega (arith, near, reach_is, s) in
    skip_near b c p q (skipped (is_aligned (type_of k)) p) (header_or (is_delimited (type_of k)) (reach (type_of k))) e f room
  where
    skipped_most : (d : Bool) (p : ℕ) → skipped d p ≤ 7
    skipped_most true p = omega arith
    skipped_most false p = omega arith

-- the items that are left
pub items_left : (n i m : ℕ) → i < n → (n - i) * m ≡ m + (n - (i + 1)) * m
items_left n i m h = let e : n - i ≡ suc (n - (i + 1)) = omega arith in ap (λ k. k * m) e ∙ (let f : suc (n - (i + 1)) * m ≡ m + (n - (i + 1)) * m = grind arith in f)

pub items_all : (n m : ℕ) → (n - 0) * m ≡ n * m
items_all n m = let e : n - 0 ≡ n = omega arith in ap (λ k. k * m) e
