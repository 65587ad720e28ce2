-- The way past the fields of a structure
use Rattle.std.proofs.Common.{◌≡◌, ◌↔◌, ℕ, ◌+◌, ◌^◌, ◌<◌, ◌≤◌, Bool, true, false, List, length, refl, sym, ap, ◌∙◌, subst, arith, le_refl, drop, get_or}
use Rattle.bit_length.specs.Lengths.{Has, Same, Only, Pads}
use Rattle.dsdl_types.specs.Schemas.{Flds, Outline, Struct, End, Pad, Field, is_aligned, is_delimited, extent_of}
use Rattle.dsdl_types.specs.Greatest.{up, from_lead, longest, longest_fields, as_part}
use Rattle.dsdl_types.specs.Lengths.{Length, EndsAt}
use Rattle.dsdl_types.specs.Rules.{IsFormed, AreFormed}
use Rattle.dsdl_types.specs.Views.{Kind, Typed, Padding, with_field, named, flds}
use Rattle.dsdl_types.specs.declared.schema.Field as C
use Rattle.dsdl_types.proofs.Cuts.{fields_mono}
use Rattle.dsdl_types.proofs.Lengths.{up_most}
use Rattle.dsdl_types.proofs.Greatest.{ends_most}
use Rattle.layout.specs.Ends.{EndsBehind}
use Rattle.layout.specs.Sets.{IsShort}
use Rattle.layout.proofs.Walks.{Passes}
use Rattle.layout.proofs.Sets.{padded_is_up}
use Rattle.layout.proofs.Types.{flds_next, flds_end}

lead_more : (d : Bool) (p : ℕ) → p ≤ from_lead d p
lead_more false p = le_refl p
lead_more true p = omega arith

pub fields_from : (fs : Flds) (p : ℕ) → p ≤ longest_fields fs p
fields_from End p = le_refl p
fields_from (Pad n fs) p = omega (arith, fields_from fs (p + n))
fields_from (Field name s fs) p =
    let m = as_part (is_delimited s) (extent_of s) (longest s) in
    omega (arith, lead_more (is_aligned s) p, fields_from fs (from_lead (is_aligned s) p + m))

-- ---- a field and the rest, as the field alone and then the rest

ends_through : (name : List ℕ) (k : Kind) (rest : Flds) (p n : ℕ) →
    EndsAt (with_field name k rest) p n ↔ ((q : ℕ) × EndsAt (with_field name k End) p q × EndsAt rest q n)
ends_through name (Typed s) rest p n = (
  λ (m, y, h). (from_lead (is_aligned s) p + m, (m, y, refl), h),
  λ (q, (m, y, e), h). (m, y, subst (λ z. EndsAt rest z n) e h),
)
ends_through name (Padding b) rest p n = (
  λ h. (p + b, refl, h),
  λ (q, e, h). subst (λ z. EndsAt rest z n) e h,
)

longest_through : (name : List ℕ) (k : Kind) (rest : Flds) (p : ℕ) →
    longest_fields (with_field name k rest) p ≡ longest_fields rest (longest_fields (with_field name k End) p)
longest_through name (Typed s) rest p = refl
longest_through name (Padding b) rest p = refl

formed_through : (name : List ℕ) (k : Kind) (rest : Flds) → AreFormed (with_field name k rest) → AreFormed (with_field name k End) × AreFormed rest
formed_through name (Typed s) rest h = ((h.0, tt), h.1)
formed_through name (Padding b) rest h = ((h.0, h.1, tt), h.2)

-- ---- from the first field on

pub passes_start : (fs : Flds) (o : Outline) (rest : Flds) (ends : List ℕ) → IsFormed (Struct fs o) → longest (Struct fs o) ≤ 2 ^ 32 → Same (Has ends) (Only 0) →
    fs ≡ rest → Passes fs rest ends
passes_start fs o rest ends formed short start e = subst (λ z. Passes fs z ends) e (record {
  arrives = λ n. (λ h. (0, (start 0).1 refl, h), λ (p, x, h). subst (λ z. EndsAt fs z n) ((start p).0 x) h);
  farthest = 0;
  within = λ p x. let z : p ≡ 0 = (start p).0 x in omega (arith, z);
  short = omega (arith, short);
  formed = formed.1;
})

module _ (fs : Flds) (name : List ℕ) (k : Kind) (rest : Flds) (ends : List ℕ) (w : Passes fs (with_field name k rest) ends) where
  pub alone_formed : AreFormed (with_field name k End)
  alone_formed = (formed_through name k rest w.formed).0

  alone_most : (p : ℕ) → p ≤ w.farthest → longest_fields (with_field name k End) p ≤ 2 ^ 32
  alone_most p le =
      let one = with_field name k End in
      let most : longest_fields rest (longest_fields one w.farthest) ≤ 2 ^ 32 = subst (λ m. m ≤ 2 ^ 32) (longest_through name k rest w.farthest) w.short in
      omega (arith, fields_mono one p w.farthest le, fields_from rest (longest_fields one w.farthest), most)

  pub alone_small : longest_fields (with_field name k End) 0 ≤ 2 ^ 32
  alone_small = alone_most 0 (omega arith)

  pub alone_short : (p : ℕ) → Has ends p → longest_fields (with_field name k End) p ≤ 2 ^ 32
  alone_short p x = alone_most p (w.within p x)

  pub passes_field : (new : List ℕ) → Same (Has new) (EndsBehind (with_field name k End) (Has ends)) → Passes fs rest new
  passes_field new behind = record {
    arrives = λ n. (
      λ h.
          let (p, x, y) = (w.arrives n).0 h in
          let (q, z, r) = (ends_through name k rest p n).0 y in
          (q, (behind q).1 (p, x, z), r),
      λ (q, y, r).
          let (p, x, z) = (behind q).0 y in
          (w.arrives n).1 (p, x, (ends_through name k rest p n).1 (q, z, r)),
    );
    farthest = longest_fields (with_field name k End) w.farthest;
    within = λ q y.
        let (p, x, z) = (behind q).0 y in
        ends_most (with_field name k End) p w.farthest q (w.within p x) z;
    short = subst (λ m. m ≤ 2 ^ 32) (longest_through name k rest w.farthest) w.short;
    formed = (formed_through name k rest w.formed).1;
  }

-- ---- past the last field

pub end_short : (fs : Flds) (ends : List ℕ) → Passes fs End ends → IsShort (Pads (Has ends) 8)
end_short fs ends w n (p, x, e) = omega (arith, e, padded_is_up p, up_most p w.farthest (w.within p x), w.short)

pub end_lengths : (fs : Flds) (o : Outline) (ends : List ℕ) → Passes fs End ends → Same (Pads (Has ends) 8) (Length (Struct fs o))
end_lengths fs o ends w n = (
  λ (p, x, e). (p, (w.arrives p).1 (p, x, refl), e ∙ padded_is_up p),
  λ (m, h, e). let (p, x, m_is) = (w.arrives m).0 h in (p, x, e ∙ ap up m_is ∙ sym (padded_is_up p)),
)

-- ---- the next field of the code

pub at_field : (fs : Flds) (ends : List ℕ) (items : List C.Field) (i : ℕ) (x : C.Field) → Passes fs (flds (drop i items)) ends → i < length items → x ≡ get_or items i x →
    Passes fs (with_field (named x).0 (named x).1 (flds (drop (i + 1) items))) ends
at_field fs ends items i x w h e = subst (λ z. Passes fs z ends) (flds_next items i x h e) w

pub at_end : (fs : Flds) (ends : List ℕ) (items : List C.Field) (i : ℕ) → Passes fs (flds (drop i items)) ends → length items ≤ i → Passes fs End ends
at_end fs ends items i w h = subst (λ z. Passes fs z ends) (flds_end items i h) w
