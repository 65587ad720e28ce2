-- Sets of lengths beside the lengths of types
use Rattle.std.proofs.Common.{◌≡◌, ◌≢◌, ℕ, zero, suc, ◌+◌, ◌-◌, ◌%◌, ◌^◌, ◌≤◌, Bool, true, false, not, List, refl, sym, ap, ◌∙◌, subst, arith, Result, Err, IfOk, le_trans}
use Rattle.std.proofs.lemmas.Result.{IfOk-weaker}
use Rattle.std.proofs.lemmas.Bool.{false≢true}
use Rattle.bit_length.specs.Lengths.{Numbers, Has, Same, Only, Delimited, Sums, Repeats, UpTo, Pads, padded, IsLongBeyond}
use Rattle.bit_length.specs.declared.LengthError.{LengthError}
use Rattle.bit_length.specs.declared.LengthError.TheVariants as error
use Rattle.dsdl_types.specs.Schemas.{Prim, Sch, Outline, width, Simple, Fixed, Var, Struct, Union, is_composite, is_delimited, extent_of, length_field_bits, tag_bits, variants}
use Rattle.dsdl_types.specs.Rules.{IsExtent, IsOutline, IsFormed}
use Rattle.dsdl_types.specs.Greatest.{up, longest, longest_fields, longest_variant, as_part}
use Rattle.dsdl_types.specs.Lengths.{AsPart, InRow, Length, Size}
use Rattle.dsdl_types.proofs.Greatest.{at_most}
use Rattle.layout.specs.declared.row.Row.{Row}
use Rattle.layout.specs.Layouts.{IsLayout}
use Rattle.layout.specs.Sets.{Leads, IsShort}

-- a set without a member above 2^32 isn't refused as too long
pub never_long : (r : Result (List ℕ) LengthError) (S : Numbers) → IsLongBeyond r S → IsShort S → (g : ℕ) → r ≢ Err (error.Long g)
never_long r S long short g e =
    let k = (long g).0 e in
    let m = short g k.0.0 in
    absurd (omega (arith, k.1, m))

pub padded_is_up : (n : ℕ) → padded 8 n ≡ up n
padded_is_up n = omega arith

pub pads_lead : (S : Numbers) → Same (Pads S 8) (Leads true S)
pads_lead S n = (
  λ (m, x, e). (m, x, e ∙ padded_is_up m),
  λ (m, x, e). (m, x, e ∙ sym (padded_is_up m)),
)

pub stays_lead : (S : Numbers) → Same S (Leads false S)
stays_lead S n = (λ x. (n, x, refl), λ (m, x, e). subst S (sym e) x)

pub same_trans : {S T U : Numbers} → Same S T → Same T U → Same S U
same_trans h k n = (λ x. (k n).0 ((h n).0 x), λ x. (h n).1 ((k n).1 x))

-- the length as a part is at most the greatest
pub size_most : (s : Sch) (n : ℕ) → Size s n → n ≤ as_part (is_delimited s) (extent_of s) (longest s)
size_most s n h = part (is_delimited s) h
  where
    part : (d : Bool) → AsPart d (extent_of s) (λ m. Length s m) n → n ≤ as_part d (extent_of s) (longest s)
    part false k = at_most s n k
    part true k = omega (arith, k.1, k.2)

repeats_are : (S T : Numbers) → Same S T → (k : ℕ) → Same (Repeats S k) (InRow T k)
repeats_are S T h zero n = (λ e. e, λ e. e)
repeats_are S T h (suc k) n = (
  λ (a, b, x, y, e). (a, b, (h a).0 x, (repeats_are S T h k b).0 y, e),
  λ (a, b, x, y, e). (a, b, (h a).1 x, (repeats_are S T h k b).1 y, e),
)

pub fixed_lengths : (s : Sch) (k : ℕ) (S : Numbers) → Same S (Size s) → Same (Repeats S k) (Length (Fixed s k))
fixed_lengths s k S h = repeats_are S (Size s) h k

pub fixed_short : (s : Sch) (k : ℕ) (S : Numbers) → Same S (Size s) → longest (Fixed s k) ≤ 2 ^ 32 → IsShort (Repeats S k)
fixed_short s k S h most n x = le_trans (at_most (Fixed s k) n ((fixed_lengths s k S h n).0 x)) most

pub var_lengths : (s : Sch) (cap : ℕ) (S P U : Numbers) → Same S (Size s) → Same P (Only (length_field_bits cap)) → Same U (UpTo S cap) → Same (Sums P U) (Length (Var s cap))
var_lengths s cap S P U h p u n = (
  λ (a, b, x, y, e).
      let (k, few, z) = (u b).0 y in
      (k, b, few, (repeats_are S (Size s) h k b).0 z, e ∙ ap (λ w. w + b) ((p a).0 x)),
  λ (k, b, few, z, e). (length_field_bits cap, b, (p (length_field_bits cap)).1 refl, (u b).1 (k, few, (repeats_are S (Size s) h k b).1 z), e),
)

pub var_short : (s : Sch) (cap : ℕ) (S P U : Numbers) → Same S (Size s) → Same P (Only (length_field_bits cap)) → Same U (UpTo S cap) → longest (Var s cap) ≤ 2 ^ 32 → IsShort (Sums P U)
var_short s cap S P U h p u most n x = le_trans (at_most (Var s cap) n ((var_lengths s cap S P U h p u n).0 x)) most

pub items_short : (s : Sch) (cap : ℕ) (S : Numbers) → Same S (Size s) → longest (Var s cap) ≤ 2 ^ 32 → IsShort (UpTo S cap)
items_short s cap S h most n (k, few, z) =
    let m = at_most (Var s cap) (length_field_bits cap + n) (k, n, few, (repeats_are S (Size s) h k n).0 z, refl) in
    omega (arith, m, most)

-- the result of a call as the lengths of a type, along an equation of the type
pub lengths_are : {E : Type 0} (r : Result (List ℕ) E) (S : Numbers) (x y : Sch) → IfOk r (λ s. Same (Has s) S) → Same S (Length x) → y ≡ x → IfOk r (λ s. Same (Has s) (Length y))
lengths_are r S x y h k e =
    subst (λ z. IfOk r (λ s. Same (Has s) (Length z))) (sym e)
    (IfOk-weaker r (λ s. Same (Has s) S) (λ s. Same (Has s) (Length x)) (λ s a. same_trans a k) h)

pub delimited_sizes : (s : Sch) (e : ℕ) → is_delimited s ≡ true → e ≡ extent_of s → Same (Delimited e) (Size s)
delimited_sizes s e d e_is n =
    let part : AsPart true (extent_of s) (λ m. Length s m) n ≡ Size s n = ap (λ b. AsPart b (extent_of s) (λ m. Length s m) n) (sym d) in (
      λ (k, most, h). subst (λ T. T) part (k, omega (arith, most, e_is), h),
      λ h. let (k, most, x) = subst (λ T. T) (sym part) h in (k, omega (arith, most, e_is), x),
    )

pub own_sizes : (s : Sch) → is_delimited s ≡ false → Same (Length s) (Size s)
own_sizes s d n =
    let part : AsPart false (extent_of s) (λ m. Length s m) n ≡ Size s n = ap (λ b. AsPart b (extent_of s) (λ m. Length s m) n) (sym d) in
    (λ h. subst (λ T. T) part h, λ h. subst (λ T. T) (sym part) h)

pub delimited_short : (s : Sch) (e : ℕ) → is_delimited s ≡ true → e ≡ extent_of s → as_part (is_delimited s) (extent_of s) (longest s) ≤ 2 ^ 32 → IsShort (Delimited e)
delimited_short s e d e_is short n (k, most, h) =
    let m : as_part true (extent_of s) (longest s) ≤ 2 ^ 32 = subst (λ b. as_part b (extent_of s) (longest s) ≤ 2 ^ 32) d short in
    omega (arith, m, most, h, e_is)

pub own_short : (s : Sch) → is_delimited s ≡ false → as_part (is_delimited s) (extent_of s) (longest s) ≤ 2 ^ 32 → longest s ≤ 2 ^ 32
own_short s d short = subst (λ b. as_part b (extent_of s) (longest s) ≤ 2 ^ 32) d short

outline_whole : (sealed : Bool) (greatest extent : ℕ) → IsExtent sealed greatest extent → not sealed ≡ true → extent % 8 ≡ 0
outline_whole true greatest extent h d = absurd (false≢true d)
outline_whole false greatest extent h d = h.1

pub delimited_whole : (s : Sch) → IsFormed s → is_delimited s ≡ true → extent_of s % 8 ≡ 0
delimited_whole (Simple t) h d = refl
delimited_whole (Fixed s n) h d = refl
delimited_whole (Var s cap) h d = refl
delimited_whole (Struct fs o) h d = outline_whole o.sealed (up (longest_fields fs 0)) o.extent h.0.0 d
delimited_whole (Union fs o) h d = outline_whole o.sealed (up (tag_bits (variants fs) + longest_variant fs)) o.extent h.0.0 d

outline_most : (greatest : ℕ) (o : Outline) → IsOutline greatest o → greatest ≤ 2 ^ 32
outline_most greatest o h = below o.sealed h.0
  where
    below : (sealed : Bool) → IsExtent sealed greatest o.extent → greatest ≤ 2 ^ 32
    below true e = omega (arith, e, h.1)
    below false e = omega (arith, e.0, h.1)

-- a composite that keeps the rules has no length above the limit
pub composite_short : (s : Sch) → IsFormed s → is_composite s ≡ true → longest s ≤ 2 ^ 32
composite_short (Simple t) h c = absurd (false≢true c)
composite_short (Fixed s n) h c = absurd (false≢true c)
composite_short (Var s cap) h c = absurd (false≢true c)
composite_short (Struct fs o) h c = outline_most (up (longest_fields fs 0)) o h.0
composite_short (Union fs o) h c = outline_most (up (tag_bits (variants fs) + longest_variant fs)) o h.0

-- ---- along equations

pub leads_along : (S : Numbers) (row offsets : List ℕ) (d e : Bool) → row ≡ offsets → d ≡ e → Same (Has offsets) (Leads d S) → Same (Has row) (Leads e S)
leads_along S row offsets d e r k h = subst (λ l. Same (Has l) (Leads e S)) (sym r) (subst (λ a. Same (Has offsets) (Leads a S)) k h)

pub short_along : (x y : Sch) → x ≡ y → longest x ≤ 2 ^ 32 → longest y ≤ 2 ^ 32
short_along x y e h = subst (λ z. longest z ≤ 2 ^ 32) e h

pub whole_along : (x y : Sch) (rows : List Row) (lengths : List ℕ) → x ≡ y → IsLayout y rows lengths → Same (Has lengths) (Length x)
whole_along x y rows lengths e h = subst (λ z. Same (Has lengths) (Length z)) (sym e) h.whole

pub sizes_are : {E : Type 0} (r : Result (List ℕ) E) (S : Numbers) (x : Sch) → IfOk r (λ s. Same (Has s) S) → Same S (Size x) → IfOk r (λ s. Same (Has s) (Size x))
sizes_are r S x h k = IfOk-weaker r (λ s. Same (Has s) S) (λ s. Same (Has s) (Size x)) (λ s a. same_trans a k) h

pub only_along : (x : Sch) (t : Prim) → x ≡ Simple t → Same (Only (width t)) (Length x)
only_along x t e = subst (λ y. Same (Only (width t)) (Length y)) (sym e) (λ n. (λ h. h, λ h. h))
