-- The way through the variants of a union
use Rattle.std.proofs.Common.{◌≡◌, ◌⊎◌, inl, inr, ℕ, suc, ◌+◌, ◌-◌, ◌^◌, ◌<◌, ◌≤◌, List, [], ◌∷◌, ◌++◌, length, refl, sym, ap, ◌∙◌, subst, arith, append_assoc, Option, Some, None, drop, get_or}
use Rattle.bit_length.specs.Lengths.{Has, Same, Only, Sums, Pads}
use Rattle.dsdl_types.specs.Schemas.{Sch, Flds, Outline, Union, End, Pad, Field, is_delimited, extent_of, tag_bits, variants}
use Rattle.dsdl_types.specs.Greatest.{up, longest, longest_variant, as_part}
use Rattle.dsdl_types.specs.Lengths.{Size}
use Rattle.dsdl_types.specs.Rules.{IsFormed, NoPadding}
use Rattle.dsdl_types.proofs.Greatest.{variant_most}
use Rattle.layout.specs.declared.row.Row.{Row}
use Rattle.layout.specs.Layouts.{typed_fields, AreRows, IsLayout, cast_of}
use Rattle.layout.specs.Sets.{HasIn, IsShort}
use Rattle.layout.proofs.Walks.{Joins}
use Rattle.layout.proofs.Sets.{padded_is_up}
use Rattle.layout.proofs.Fields.{rows_push, append_none}
use Rattle.layout.proofs.Types.{flds_next, flds_end, variant_typed, body_count}
use Rattle.dsdl_types.specs.Views.{type_of, named, flds, body_of}
use Rattle.dsdl_types.specs.declared.schema.Body.{Body, out-Body}
use Rattle.dsdl_types.specs.declared.schema.Field as C

pub joins_start : (fs : Flds) (o : Outline) (rest : Flds) (rows : List Row) → IsFormed (Union fs o) → longest (Union fs o) ≤ 2 ^ 32 → fs ≡ rest → rows ≡ [] → Joins fs o rest rows None
joins_start fs o rest rows formed short e none =
    subst (λ r. Joins fs o rest r None) (sym none) (subst (λ z. Joins fs o z [] None) e from_all)
  where
    from_all : Joins fs o fs [] None
    from_all = record {
      done = [];
      split = refl;
      each = tt;
      none = refl;
      joined = λ n. (λ h. inr h, λ h. elim h [ inl x ↦ absurd x | inr y ↦ y ]);
      short = omega (arith, short);
      formed = formed.3;
      no_padding = formed.2;
    }

pub tag_of_body : (b : Body) (tag : List ℕ) (p n : ℕ) → Same (Has tag) (Only p) → p ≡ tag_bits n → n ≡ length (out-Body b).fields → IsFormed (Union (body_of b).0 (body_of b).1) →
    Same (Has tag) (Only (tag_bits (variants (body_of b).0)))
tag_of_body b tag p n h e l formed =
    let count : variants (body_of b).0 ≡ n = body_count b n l formed.2 in
    subst (λ q. Same (Has tag) (Only q)) (e ∙ ap (λ m. tag_bits m) (sym count)) h

pub variant_formed : (fs : Flds) (o : Outline) (name : List ℕ) (s : Sch) (rest : Flds) (rows : List Row) (lengths : Option (List ℕ)) → Joins fs o (Field name s rest) rows lengths →
    IsFormed s × (as_part (is_delimited s) (extent_of s) (longest s) ≤ 2 ^ 32)
variant_formed fs o name s rest rows lengths j = (j.formed.0, omega (arith, j.short))

pub joins_field : (fs : Flds) (o : Outline) (name : List ℕ) (s : Sch) (rest : Flds) (rows : List Row) (lengths : Option (List ℕ)) (row : Row) (new : List ℕ) → Joins fs o (Field name s rest) rows lengths →
    row.name ≡ name → row.cast ≡ cast_of s → Same (Has row.offsets) (Only (tag_bits (variants fs))) → Same (Has row.lengths) (Size s) →
    Same (Has new) (λ n. HasIn lengths n ⊎ Has row.lengths n) → Joins fs o rest (rows ++ row ∷ []) (Some new)
joins_field fs o name s rest rows lengths row new j named casts tag len join = record {
  done = j.done ++ (name, s) ∷ [];
  split = j.split ∙ sym (append_assoc j.done ((name, s) ∷ []) (typed_fields rest));
  each = rows_push (Union fs o) 0 j.done rows (name, s) row j.each (record { name = named; offsets = tag; lengths = len; cast = casts });
  none = tt;
  joined = λ n. (
    λ h. elim ((j.joined n).0 h) [
      | inl x ↦ inl ((join n).1 (inl x))
      | inr y ↦ elim y [ inl z ↦ inl ((join n).1 (inr ((len n).1 z))) | inr z ↦ inr z ]
    ],
    λ h. elim h [
      | inl x ↦ elim ((join n).0 x) [ inl y ↦ (j.joined n).1 (inl y) | inr y ↦ (j.joined n).1 (inr (inl ((len n).0 y))) ]
      | inr z ↦ (j.joined n).1 (inr (inr z))
    ],
  );
  short = omega (arith, j.short);
  formed = j.formed.1;
  no_padding = j.no_padding;
}

-- the lengths of the variants behind the tag, before the end is padded
pub union_within : (fs : Flds) (o : Outline) (rows : List Row) (tag lengths : List ℕ) → Joins fs o End rows (Some lengths) → Same (Has tag) (Only (tag_bits (variants fs))) →
    (n : ℕ) → Sums (Has tag) (Has lengths) n → n ≤ tag_bits (variants fs) + longest_variant fs
union_within fs o rows tag lengths j tags n (a, m, x, y, e) =
    omega (arith, e, (tags a).0 x, variant_most fs m ((j.joined m).1 (inl y)))

pub union_short : (fs : Flds) (o : Outline) (rows : List Row) (tag lengths : List ℕ) → Joins fs o End rows (Some lengths) → Same (Has tag) (Only (tag_bits (variants fs))) →
    longest (Union fs o) ≤ 2 ^ 32 → IsShort (Sums (Has tag) (Has lengths))
union_short fs o rows tag lengths j tags short n h = omega (arith, union_within fs o rows tag lengths j tags n h, short)

pub union_pad_short : (fs : Flds) (o : Outline) (rows : List Row) (tag lengths sums : List ℕ) → Joins fs o End rows (Some lengths) → Same (Has tag) (Only (tag_bits (variants fs))) →
    Same (Has sums) (Sums (Has tag) (Has lengths)) → longest (Union fs o) ≤ 2 ^ 32 → IsShort (Pads (Has sums) 8)
union_pad_short fs o rows tag lengths sums j tags sum short n (m, x, e) =
    let most = union_within fs o rows tag lengths j tags m ((sum m).0 x) in
    omega (arith, e, padded_is_up m, most, short)

pub joins_layout : (fs : Flds) (o : Outline) (rows : List Row) (tag lengths sums out : List ℕ) → Joins fs o End rows (Some lengths) → Same (Has tag) (Only (tag_bits (variants fs))) →
    Same (Has sums) (Sums (Has tag) (Has lengths)) → Same (Has out) (Pads (Has sums) 8) → IsLayout (Union fs o) rows out
joins_layout fs o rows tag lengths sums out j tags sum pad = record {
  each = subst (λ d. AreRows (Union fs o) 0 d rows) (sym (j.split ∙ append_none j.done)) j.each;
  whole = λ n. (
    λ h.
        let (q, x, e) = (pad n).0 h in
        let (a, m, y, z, q_is) = (sum q).0 x in
        (m, (j.joined m).1 (inl z), e ∙ padded_is_up q ∙ ap up (q_is ∙ ap (λ t. t + m) ((tags a).0 y))),
    λ (m, h, e).
        let t = tag_bits (variants fs) in
        let z : Has lengths m = elim ((j.joined m).0 h) [ inl z ↦ z | inr w ↦ absurd w ] in
        (pad n).1 (t + m, (sum (t + m)).1 (t, m, (tags t).1 refl, z, refl), e ∙ sym (padded_is_up (t + m))),
  );
}

fields_count : (fs : Flds) → length (typed_fields fs) ≡ variants fs
fields_count End = refl
fields_count (Pad n fs) = fields_count fs
fields_count (Field name s fs) = ap suc (fields_count fs)

-- a union has variants, and so lengths
pub some_lengths : (fs : Flds) (o : Outline) (rows : List Row) → Joins fs o End rows None → IsFormed (Union fs o) → ⊥
some_lengths fs o rows j (outline, two, none, formed) =
    let e : typed_fields fs ≡ [] = j.split ∙ ap (λ d. d ++ []) j.none in
    let n : variants fs ≡ 0 = sym (fields_count fs) ∙ ap length e in
    absurd (omega (arith, n, two))

-- ---- the next variant of the code

pub at_variant : (fs : Flds) (o : Outline) (rows : List Row) (lengths : Option (List ℕ)) (items : List C.Field) (i : ℕ) (x : C.Field) → Joins fs o (flds (drop i items)) rows lengths → i < length items →
    x ≡ get_or items i x → Joins fs o (Field (named x).0 (type_of (named x).1) (flds (drop (i + 1) items))) rows lengths
at_variant fs o rows lengths items i x j h e =
    let rest = flds (drop (i + 1) items) in
    let next = flds_next items i x h e in
    subst (λ z. Joins fs o z rows lengths) (next ∙ variant_typed (named x).0 (named x).1 rest (subst NoPadding next j.no_padding)) j

pub at_end : (fs : Flds) (o : Outline) (rows : List Row) (lengths : Option (List ℕ)) (items : List C.Field) (i : ℕ) → Joins fs o (flds (drop i items)) rows lengths → length items ≤ i → Joins fs o End rows lengths
at_end fs o rows lengths items i j h = subst (λ z. Joins fs o z rows lengths) (flds_end items i h) j
