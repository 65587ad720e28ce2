-- Steps of writing in the code
use Rattle.std.proofs.Common.{◌≡◌, ◌∙◌, ℕ, suc, ◌+◌, ◌-◌, ◌/◌, ◌%◌, ◌<◌, ◌≤◌, Bool, true, false, List, [], ◌∷◌, ◌++◌, length, drop, refl, sym, ap, subst, arith, length-append, append_assoc}
use Rattle.std.proofs.Common.{inl, inr}
use Rattle.std.proofs.lemmas.Bool.{false≢true, cases_lt}
use Rattle.std.proofs.lemmas.List.{length-replicate}
use Rattle.cy_bits.specs.Bits.{bits, bits_of, zeros, gap}
use Rattle.cy_bits.specs.Put.{put_bits}
use Rattle.cy_bits.proofs.BitFacts.{length_bits_of}
use Rattle.cy_bits.proofs.BitPlaces.{length_bits}
use Rattle.cy_bits.proofs.BitPuts.{put_append, put_again, put_none, zero_bits}
use Rattle.dsdl_types.specs.Encoding.{with_header, field_bits, lead, own_bits, padded, part_bits, variant_bits}
use Rattle.dsdl_types.specs.Schemas.{Sch, Flds, End, Pad, is_aligned, is_delimited}
use Rattle.dsdl_types.specs.Schemas as D
use Rattle.dsdl_types.specs.Fits.{AllOf, AreItems, FitFields, Fits, FitsVariant, IsFirst}
use Rattle.dsdl_types.specs.Values.{Val, Vals, More, count, items_of}
use Rattle.dsdl_types.specs.Values as V
use Rattle.dsdl_types.specs.declared.value.Value.{Value}
use Rattle.dsdl_types.specs.Views.{Kind, Typed, Padding, is_padding, type_of, with_field, vals}
use Rattle.dsdl_types.proofs.Lengths.{gap_same}
use Rattle.wire_values.specs.Puts.{HasRoom, Puts}
use Rattle.wire_values.specs.Rules.{HaveRules}
use Rattle.wire_values.proofs.Schemata.{behind_rules, vals_end}

-- with what is left, all is put
pub record Left (old : List ℕ) (from : ℕ) (new : List ℕ) (to : ℕ) (all left : List Bool) : Type 0 where
  pub place : to + length left ≡ from + length all
  pub size : length new ≡ length old
  pub written : put_bits (bits new) to left ≡ put_bits (bits old) from all

pub left_start : (out : List ℕ) (p : ℕ) (l m : List Bool) → l ≡ m → Left out p out p l m
left_start out p l m e = record {
  place = ap (λ x. p + length x) (sym e);
  size = refl;
  written = ap (λ x. put_bits (bits out) p x) (sym e);
}

pub left_end : (old new : List ℕ) (p q : ℕ) (all left : List Bool) → left ≡ [] → Left old p new q all left → Puts old p new q all
left_end old new p q all left e h = record {
  place = omega (arith, h.place, ap length e);
  written = sym (put_none (bits new) q) ∙ ap (λ x. put_bits (bits new) q x) (sym e) ∙ h.written;
}

pub left_room : (old new : List ℕ) (p q : ℕ) (all left : List Bool) → HasRoom old p all → Left old p new q all left → HasRoom new q left
left_room old new p q all left r h = record { room = omega (arith, r.room, h.place, h.size); small = omega (arith, r.small, h.size) }

-- one more piece
pub left_next : (old mid new : List ℕ) (p q r : ℕ) (all left l m : List Bool) → HasRoom old p all → Left old p mid q all left → left ≡ l ++ m → Puts mid q new r l → length new ≡ length mid → Left old p new r all m
left_next old mid new p q r all left l m room h e puts same =
    let n : length left ≡ length l + length m = ap length e ∙ length-append l m in
    record {
      place = omega (arith, h.place, puts.place, n);
      size = same ∙ h.size;
      written = (λ i. put_bits (puts.written i) (puts.place i) m)
          ∙ put_append (bits mid) q l m (omega (arith, room.room, h.place, h.size, n, length_bits mid))
          ∙ ap (λ x. put_bits (bits mid) q x) (sym e) ∙ h.written;
    }

-- ---- two pieces

pub room_at : (out : List ℕ) (p : ℕ) (l m : List Bool) → l ≡ m → HasRoom out p l → HasRoom out p m
room_at out p l m e h = subst (λ x. HasRoom out p x) e h

pub puts_at : (old new : List ℕ) (p q : ℕ) (l m : List Bool) → l ≡ m → Puts old p new q l → Puts old p new q m
puts_at old new p q l m e h = subst (λ x. Puts old p new q x) e h

pub room_front : (out : List ℕ) (p : ℕ) (l m : List Bool) → HasRoom out p (l ++ m) → HasRoom out p l
room_front out p l m h = record { room = omega (arith, h.room, length-append l m); small = h.small }

pub room_behind : (old new : List ℕ) (p q : ℕ) (l m : List Bool) → HasRoom old p (l ++ m) → Puts old p new q l → length new ≡ length old → HasRoom new q m
room_behind old new p q l m h puts same = record { room = omega (arith, h.room, length-append l m, puts.place, same); small = omega (arith, h.small, same) }

pub puts_both : (old mid new : List ℕ) (p q r : ℕ) (l m : List Bool) → HasRoom old p (l ++ m) → Puts old p mid q l → Puts mid q new r m → Puts old p new r (l ++ m)
puts_both old mid new p q r l m room one two = record {
  place = omega (arith, one.place, two.place, length-append l m);
  written = two.written ∙ (λ i. put_bits (one.written i) (one.place i) m) ∙ put_append (bits old) p l m (omega (arith, room.room, length-append l m, length_bits old));
}

pub puts_nothing : (out : List ℕ) (p q : ℕ) (l : List Bool) → l ≡ [] → q ≡ p → Puts out p out q l
puts_nothing out p q l e f = record {
  place = omega (arith, f, ap length e);
  written = sym (put_none (bits out) p) ∙ ap (λ x. put_bits (bits out) p x) (sym e);
}

-- ---- a delimiter header, which is put again once the length is known

pub header_length : (n m : ℕ) (l : List Bool) → length (bits_of 32 n ++ l) ≡ length (bits_of 32 m ++ l)
header_length n m l = omega (arith, length-append (bits_of 32 n) l, length-append (bits_of 32 m) l, length_bits_of 32 n, length_bits_of 32 m)

pub header_room : (out : List ℕ) (p n m : ℕ) (l : List Bool) → HasRoom out p (bits_of 32 n ++ l) → HasRoom out p (bits_of 32 m ++ l)
header_room out p n m l h = record { room = omega (arith, h.room, header_length n m l); small = h.small }

pub header_again : (old mid new : List ℕ) (p q r n : ℕ) (l : List Bool) → HasRoom old p (bits_of 32 0 ++ l) → Puts old p mid q (bits_of 32 0 ++ l) → Puts mid p new r (bits_of 32 n) → n ≡ length l / 8 →
    Puts old p new q (with_header true l)
header_again old mid new p q r n l room one two e =
    let again = put_again (bits old) p (bits_of 32 0) (bits_of 32 n) l (omega (arith, room.room, length_bits old)) (length_bits_of 32 0 ∙ sym (length_bits_of 32 n)) in
    let same : bits_of 32 n ++ l ≡ with_header true l = ap (λ k. bits_of 32 k ++ l) e in
    record {
      place = one.place ∙ ap (λ k. p + k) (header_length 0 (length l / 8) l);
      written = two.written ∙ ap (λ x. put_bits x p (bits_of 32 n)) one.written ∙ again ∙ ap (λ x. put_bits (bits old) p x) same;
    }

-- the bytes between a header and the end
pub bytes_counted : (p q : ℕ) (l : List Bool) → q ≡ p + length (bits_of 32 0 ++ l) → (q - p - 32) / 8 ≡ length l / 8
bytes_counted p q l e = let f : q - p - 32 ≡ length l = omega (arith, e, length-append (bits_of 32 0) l, length_bits_of 32 0) in ap (λ k. k / 8) f

pub part_counted : (s : Sch) (v : Val) (d : Bool) → is_delimited s ≡ d → part_bits s v ≡ with_header d (own_bits s v)
part_counted s v d e = ap (λ x. with_header x (own_bits s v)) e

-- ---- places

-- zeros up to a multiple of 8, in a structure that begins at one
pub padded_here : (p q : ℕ) (l : List Bool) → p % 8 ≡ 0 → q ≡ p + length l → l ++ zeros (gap q) ≡ padded l
padded_here p q l whole e = let g : gap q ≡ gap (length l) = gap_same q (length l) (omega (arith, whole, e)) in ap (λ k. l ++ zeros k) g

pub lead_here : (d : Bool) (p q : ℕ) → p % 8 ≡ 0 → p ≤ q → lead d q ≡ lead d (q - p)
lead_here false p q whole past = refl
lead_here true p q whole past = ap (λ k. zeros k) (gap_same q (q - p) (omega (arith, whole, past)))

pub lead_whole : (p q : ℕ) → q ≡ p + length (lead true p) → q % 8 ≡ 0
lead_whole p q e = omega (arith, e, length-replicate (gap p) false)

-- ---- fields

-- a field in front of others, by what it is
pub front_bits : (name : List ℕ) (k : Kind) (fs : Flds) (p : ℕ) (v : Val) (vs : Vals) → is_padding k ≡ false →
    field_bits (with_field name k fs) p (More v vs)
    ≡ (lead (is_aligned (type_of k)) p ++ part_bits (type_of k) v) ++ field_bits fs (p + length (lead (is_aligned (type_of k)) p ++ part_bits (type_of k) v)) vs
front_bits name (Padding n) fs p v vs h = absurd (false≢true (sym h))
front_bits name (Typed s) fs p v vs h =
    let a = lead (is_aligned s) p in
    let b = part_bits s v in
    let e : p + (length a + length b) ≡ p + length (a ++ b) = omega (arith, length-append a b) in
    sym (append_assoc a b (field_bits fs (p + (length a + length b)) vs)) ∙ ap (λ k. (a ++ b) ++ field_bits fs k vs) e

pub padding_bits : (name : List ℕ) (n : ℕ) (k : Kind) (fs : Flds) (p : ℕ) (vs : Vals) → k ≡ Padding n → field_bits (with_field name k fs) p vs ≡ bits_of n 0 ++ field_bits fs (p + n) vs
padding_bits name n k fs p vs e = ap (λ z. field_bits (with_field name z fs) p vs) e ∙ ap (λ l. l ++ field_bits fs (p + n) vs) (sym (zero_bits n))

-- ---- variants

pub variant_front : (name : List ℕ) (k : Kind) (fs : Flds) (left : ℕ) (v : Val) → is_padding k ≡ false → left ≡ 0 → variant_bits (with_field name k fs) left v ≡ part_bits (type_of k) v
variant_front name (Typed s) fs left v h z = ap (λ m. variant_bits (D.Field name s fs) m v) z
variant_front name (Padding n) fs left v h z = absurd (false≢true (sym h))

-- ---- what fits

all_of : (N : ℕ → Type 0) (P : Val → Type 0) (v : Val) → AreItems N P v → AllOf P (items_of v)
all_of N P (V.Items vs) h = h.1
all_of N P (V.Truth b) h = absurd h
all_of N P (V.Num z) h = absurd h
all_of N P (V.Raw n) h = absurd h
all_of N P (V.Parts vs) h = absurd h
all_of N P (V.Tagged t v) h = absurd h

pub fixed_fit : (s : Sch) (n : ℕ) (v : Val) (vs : Vals) → vs ≡ items_of v → Fits (D.Fixed s n) v → AllOf (λ x. Fits s x) vs
fixed_fit s n v vs e h = subst (λ x. AllOf (λ y. Fits s y) x) (sym e) (all_of (λ k. k ≡ n) (λ x. Fits s x) v h)

pub var_fit : (s : Sch) (n : ℕ) (v : Val) (vs : Vals) → vs ≡ items_of v → Fits (D.Var s n) v → AllOf (λ x. Fits s x) vs
var_fit s n v vs e h = subst (λ x. AllOf (λ y. Fits s y) x) (sym e) (all_of (λ k. k ≤ n) (λ x. Fits s x) v h)

pub field_fits : (name : List ℕ) (k : Kind) (fs : Flds) (v : Val) (vs : Vals) → is_padding k ≡ false → FitFields (with_field name k fs) (More v vs) → Fits (type_of k) v × FitFields fs vs
field_fits name (Typed s) fs v vs h fit = fit
field_fits name (Padding n) fs v vs h fit = absurd (false≢true (sym h))

-- a value is left for a field that isn't padding
pub value_left : (name : List ℕ) (k : Kind) (fs : Flds) (values : List Value) (next : ℕ) → is_padding k ≡ false → FitFields (with_field name k fs) (vals (drop next values)) → next < length values
value_left name (Padding n) fs values next h fit = absurd (false≢true (sym h))
value_left name (Typed s) fs values next h fit = elim (cases_lt next (length values)) [
  | inl low ↦ low
  | inr high ↦ absurd (subst (λ vs. IsFirst (λ v. Fits s v) (λ ws. FitFields fs ws) vs) (vals_end values next high) fit)
]

pub variant_fits : (name : List ℕ) (k : Kind) (fs : Flds) (left : ℕ) (v : Val) → is_padding k ≡ false → left ≡ 0 → FitsVariant (with_field name k fs) left v → Fits (type_of k) v
variant_fits name (Typed s) fs left v h z fit = subst (λ m. FitsVariant (D.Field name s fs) m v) z fit
variant_fits name (Padding n) fs left v h z fit = absurd (false≢true (sym h))

pub count_vals : (values : List Value) → length values ≡ count (vals values)
count_vals [] = refl
count_vals (v ∷ values) = ap suc (count_vals values)

-- ---- fields that are left

pub record FieldsLeft (old : List ℕ) (p : ℕ) (all : List Bool) (fs : Flds) (vs : Vals) (new : List ℕ) (q : ℕ) : Type 0 where
  pub rules : HaveRules fs
  pub fit : FitFields fs vs
  pub past : p ≤ q
  pub left : Left old p new q all (field_bits fs (q - p) vs)

pub padding_room : (old mid : List ℕ) (p q n : ℕ) (all : List Bool) (name : List ℕ) (k : Kind) (fs : Flds) (vs : Vals) → HasRoom old p all → k ≡ Padding n → FieldsLeft old p all (with_field name k fs) vs mid q → HasRoom mid q (bits_of n 0)
padding_room old mid p q n all name k fs vs room e h =
    let left = field_bits (with_field name k fs) (q - p) vs in
    let r : HasRoom mid q left = left_room old mid p q all left room h.left in
    room_front mid q (bits_of n 0) (field_bits fs (q - p + n) vs) (room_at mid q left (bits_of n 0 ++ field_bits fs (q - p + n) vs) (padding_bits name n k fs (q - p) vs e) r)

pub padding_written : (old mid new : List ℕ) (p q r n : ℕ) (all : List Bool) (name : List ℕ) (k : Kind) (fs : Flds) (vs : Vals) → HasRoom old p all → k ≡ Padding n → FieldsLeft old p all (with_field name k fs) vs mid q →
    Puts mid q new r (bits_of n 0) → length new ≡ length mid → FieldsLeft old p all fs vs new r
padding_written old mid new p q r n all name k fs vs room e h puts same =
    let bits_are = padding_bits name n k fs (q - p) vs e in
    let here : q - p + n ≡ r - p = omega (arith, puts.place, length_bits_of n 0, h.past) in
    let rest : field_bits (with_field name k fs) (q - p) vs ≡ bits_of n 0 ++ field_bits fs (r - p) vs = bits_are ∙ ap (λ j. bits_of n 0 ++ field_bits fs j vs) here in
    record {
      rules = behind_rules name k fs h.rules;
      fit = padding_fit name k fs vs e h.fit;
      past = omega (arith, puts.place, h.past);
      left = left_next old mid new p q r all (field_bits (with_field name k fs) (q - p) vs) (bits_of n 0) (field_bits fs (r - p) vs) room h.left rest puts same;
    }
  where
    padding_fit : (name : List ℕ) (k : Kind) (fs : Flds) (vs : Vals) → k ≡ Padding n → FitFields (with_field name k fs) vs → FitFields fs vs
    padding_fit name k fs vs e h = subst (λ z. FitFields (with_field name z fs) vs) e h

field_rest : (old mid : List ℕ) (p q : ℕ) (all : List Bool) (name : List ℕ) (k : Kind) (fs : Flds) (v : Val) (vs : Vals) → p % 8 ≡ 0 → is_padding k ≡ false → FieldsLeft old p all (with_field name k fs) (More v vs) mid q →
    field_bits (with_field name k fs) (q - p) (More v vs)
    ≡ (lead (is_aligned (type_of k)) q ++ part_bits (type_of k) v) ++ field_bits fs (q - p + length (lead (is_aligned (type_of k)) q ++ part_bits (type_of k) v)) vs
field_rest old mid p q all name k fs v vs whole typed h =
    front_bits name k fs (q - p) v vs typed
    ∙ ap (λ a. (a ++ part_bits (type_of k) v) ++ field_bits fs (q - p + length (a ++ part_bits (type_of k) v)) vs) (sym (lead_here (is_aligned (type_of k)) p q whole h.past))

pub field_room : (old mid : List ℕ) (p q : ℕ) (all : List Bool) (name : List ℕ) (k : Kind) (fs : Flds) (v : Val) (vs : Vals) → HasRoom old p all → p % 8 ≡ 0 → is_padding k ≡ false → FieldsLeft old p all (with_field name k fs) (More v vs) mid q →
    HasRoom mid q (lead (is_aligned (type_of k)) q ++ part_bits (type_of k) v)
field_room old mid p q all name k fs v vs room whole typed h =
    let left = field_bits (with_field name k fs) (q - p) (More v vs) in
    let piece = lead (is_aligned (type_of k)) q ++ part_bits (type_of k) v in
    let rest = field_bits fs (q - p + length piece) vs in
    room_front mid q piece rest (room_at mid q left (piece ++ rest) (field_rest old mid p q all name k fs v vs whole typed h) (left_room old mid p q all left room h.left))

pub field_written : (old mid new : List ℕ) (p q r : ℕ) (all : List Bool) (name : List ℕ) (k : Kind) (fs : Flds) (v : Val) (vs : Vals) → HasRoom old p all → p % 8 ≡ 0 → is_padding k ≡ false → FieldsLeft old p all (with_field name k fs) (More v vs) mid q →
    Puts mid q new r (lead (is_aligned (type_of k)) q ++ part_bits (type_of k) v) → length new ≡ length mid → FieldsLeft old p all fs vs new r
field_written old mid new p q r all name k fs v vs room whole typed h puts same =
    let piece = lead (is_aligned (type_of k)) q ++ part_bits (type_of k) v in
    let here : q - p + length piece ≡ r - p = omega (arith, puts.place, h.past) in
    let rest : field_bits (with_field name k fs) (q - p) (More v vs) ≡ piece ++ field_bits fs (r - p) vs =
    field_rest old mid p q all name k fs v vs whole typed h ∙ ap (λ j. piece ++ field_bits fs j vs) here in
    record {
      rules = behind_rules name k fs h.rules;
      fit = (field_fits name k fs v vs typed h.fit).1;
      past = omega (arith, puts.place, h.past);
      left = left_next old mid new p q r all (field_bits (with_field name k fs) (q - p) (More v vs)) piece (field_bits fs (r - p) vs) room h.left rest puts same;
    }

-- the same at equal places
pub moved : (old : List ℕ) (p : ℕ) (all : List Bool) (fs : Flds) (values : List Value) (a b : List ℕ) (q r n m : ℕ) → a ≡ b → q ≡ r → n ≡ m → FieldsLeft old p all fs (vals (drop m values)) b r → FieldsLeft old p all fs (vals (drop n values)) a q
moved old p all fs values a b q r n m e f g h =
    subst (λ x. FieldsLeft old p all fs (vals (drop n values)) x q) (sym e) (subst (λ x. FieldsLeft old p all fs (vals (drop n values)) b x) (sym f) (subst (λ x. FieldsLeft old p all fs (vals (drop x values)) b r) (sym g) h))
