-- The lengths of a union: its tag and a variant.
use Rattle.std.proofs.Common.{◌≡◌, ◌⊎◌, inl, inr, ℕ, ◌+◌, ◌-◌, ◌<◌, ◌≤◌, ◌^◌, ◌==◌, ◌&&◌, true, List, [], ◌∷◌, ◌++◌, length, take, drop, get_or, map, Result, Ok, Err, IfOk, refl, sym, ap, ◌∙◌, subst, arith}
use Rattle.std.proofs.lemmas.List.{take-append-drop, take_more, take_all}
use Rattle.bit_length.specs.Lengths.{Numbers, Has, Same, Only, Joins, Sums}
use Rattle.bit_length.specs.declared.LengthError.{LengthError}
use Rattle.dsdl_types.specs.Greatest.{longest_variant}
use Rattle.dsdl_types.specs.Lengths.{VariantLength, Size}
use Rattle.dsdl_types.specs.Rules.{AreFormed, IsFormed, NoPadding}
use Rattle.dsdl_types.specs.Schemas.{Sch, Flds, End, Pad, Field, tag_bits, variants}
use Rattle.dsdl_types.specs.Views.{Kind, Typed, Padding, with_field, in_order, named, flds, kind_of, sch, type_of}
use Rattle.dsdl_types.specs.declared.schema.Field.{Field as FieldOf, out-Field}
use Rattle.dsdl_types.proofs.Greatest.{variant_most}
use Rattle.layout.specs.Sets.{IsShortPart, IsShort}
use Rattle.bit_length.specs.Ascending.{Ascend}
use Rattle.bit_length.proofs.AscendingLemmas.{one_below}
use Rattle.const_expr.proofs.MemberSizes.{Tells, some_tells, both_tell, equal_tells, variant_tells, told, tells}
use Rattle.const_expr.specs.Sizes.{is_variant}
use Rattle.dsdl_resolve.specs.Said.{offsets, is_offset}
use Rattle.dsdl_resolve.proofs.OffsetEnds.{flds_append, formed_split}
use Rattle.dsdl_resolve.proofs.Onto.{onto, flds_more, variant_typed}

-- ---- one variant more
module _ (name : List ℕ) (s : Sch) where
  variant_front : (fs : Flds) (n : ℕ) → VariantLength (onto fs name (Typed s)) n → VariantLength fs n ⊎ Size s n
  variant_front End n (inl h) = inr h
  variant_front End n (inr h) = absurd h
  variant_front (Pad m fs) n h = variant_front fs n h
  variant_front (Field other t fs) n (inl h) = inl (inl h)
  variant_front (Field other t fs) n (inr h) = elim (variant_front fs n h) [ inl x ↦ inl (inr x) | inr x ↦ inr x ]

  variant_old : (fs : Flds) (n : ℕ) → VariantLength fs n → VariantLength (onto fs name (Typed s)) n
  variant_old End n h = absurd h
  variant_old (Pad m fs) n h = variant_old fs n h
  variant_old (Field other t fs) n (inl h) = inl h
  variant_old (Field other t fs) n (inr h) = inr (variant_old fs n h)

  variant_new : (fs : Flds) (n : ℕ) → Size s n → VariantLength (onto fs name (Typed s)) n
  variant_new End n h = inl h
  variant_new (Pad m fs) n h = variant_new fs n h
  variant_new (Field other t fs) n h = inr (variant_new fs n h)

  formed_new : (fs : Flds) → AreFormed (onto fs name (Typed s)) → IsFormed s
  formed_new End h = h.0
  formed_new (Pad m fs) h = formed_new fs h.2
  formed_new (Field other t fs) h = formed_new fs h.1

unpadded : (fs : Flds) (name : List ℕ) (k : Kind) → NoPadding (onto fs name k) → k ≡ Typed (type_of k)
unpadded End name (Typed s) h = refl
unpadded End name (Padding n) h = absurd h
unpadded (Pad m fs) name k h = absurd h
unpadded (Field other t fs) name k h = unpadded fs name k h

-- ---- the first of some variants
longest_first : (xs ys : List (List ℕ × Kind)) (name : List ℕ) (k : Kind) → longest_variant (in_order xs) ≤ longest_variant (in_order (xs ++ ys)) →
    longest_variant (with_field name k (in_order xs)) ≤ longest_variant (with_field name k (in_order (xs ++ ys)))
longest_first xs ys name (Typed s) le = omega arith
longest_first xs ys name (Padding n) le = le

longest_split : (xs ys : List (List ℕ × Kind)) → longest_variant (in_order xs) ≤ longest_variant (in_order (xs ++ ys))
longest_split [] ys = omega arith
longest_split (x ∷ xs) ys = longest_first xs ys x.0 x.1 (longest_split xs ys)

packed_split : (xs ys : List (List ℕ × Kind)) → NoPadding (in_order (xs ++ ys)) → NoPadding (in_order xs)
packed_split [] ys h = tt
packed_split (x ∷ xs) ys h = first x.0 x.1 (packed_split xs ys) h
  where
    first : (name : List ℕ) (k : Kind) → (NoPadding (in_order (xs ++ ys)) → NoPadding (in_order xs)) → NoPadding (with_field name k (in_order (xs ++ ys))) → NoPadding (with_field name k (in_order xs))
    first name (Typed s) next h = next h
    first name (Padding n) next h = h

-- a union with a variant has a field
pub some_field : (fields : List FieldOf) → 0 < variants (flds fields) → 0 < length fields
some_field [] h = absurd (omega arith)
some_field (f ∷ fields) h = omega arith

module _ (fields : List FieldOf) (i : ℕ) (f : FieldOf) (lt : i < length fields) (is : f ≡ get_or fields i f) (formed : AreFormed (flds fields)) (packed : NoPadding (flds fields)) where
  abbrev type : Sch
  type = sch (out-Field f).schema

  whole_is : take (i + 1) fields ++ drop (i + 1) fields ≡ fields
  whole_is = take-append-drop (i + 1) fields

  untyped : flds (take (i + 1) fields) ≡ onto (flds (take i fields)) (named f).0 (named f).1
  untyped = ap flds (take_more fields i f lt ∙ ap (λ x. take i fields ++ x ∷ []) (sym is)) ∙ flds_more (take i fields) f

  packed_front : NoPadding (flds (take (i + 1) fields))
  packed_front = packed_split (map named (take (i + 1) fields)) (map named (drop (i + 1) fields)) (subst NoPadding (flds_append (take (i + 1) fields) (drop (i + 1) fields)) (subst (λ l. NoPadding (flds l)) (sym whole_is) packed))

  typed : kind_of (out-Field f).schema ≡ Typed (sch (out-Field f).schema)
  typed = unpadded (flds (take i fields)) (named f).0 (named f).1 (subst NoPadding untyped packed_front)

  more_flds : flds (take (i + 1) fields) ≡ onto (flds (take i fields)) (named f).0 (Typed (sch (out-Field f).schema))
  more_flds = untyped ∙ ap (λ k. onto (flds (take i fields)) (named f).0 k) typed

  pub variant_formed : IsFormed (sch (out-Field f).schema)
  variant_formed =
      formed_new (named f).0 type (flds (take i fields))
      (subst AreFormed more_flds (formed_split (map named (take (i + 1) fields)) (map named (drop (i + 1) fields))
      (subst AreFormed (flds_append (take (i + 1) fields) (drop (i + 1) fields)) (subst (λ l. AreFormed (flds l)) (sym whole_is) formed))))

  pub variant_short : longest_variant (flds fields) ≤ 2 ^ 32 → IsShortPart (sch (out-Field f).schema)
  variant_short h =
      let front : longest_variant (flds (take (i + 1) fields)) ≤ longest_variant (flds fields) =
      subst (λ l. longest_variant (flds (take (i + 1) fields)) ≤ longest_variant (flds l)) whole_is
      (subst (λ fs. longest_variant (flds (take (i + 1) fields)) ≤ longest_variant fs) (sym (flds_append (take (i + 1) fields) (drop (i + 1) fields)))
      (longest_split (map named (take (i + 1) fields)) (map named (drop (i + 1) fields)))) in
      let last = ap longest_variant more_flds ∙ variant_typed (named f).0 type (flds (take i fields)) in
      omega (arith, h, front, last)

  pub variants_next : (joined lengths new : List ℕ) → Same (Has joined) (VariantLength (flds (take i fields))) → Same (Has lengths) (Size (sch (out-Field f).schema)) → Same (Has new) (Joins (Has joined) (Has lengths)) →
      Same (Has new) (VariantLength (flds (take (i + 1) fields)))
  variants_next joined lengths new old size more n = subst (λ fs. (Has new n → VariantLength fs n) × (VariantLength fs n → Has new n)) (sym more_flds) (
    λ h. elim ((more n).0 h) [
      | inl x ↦ variant_old (named f).0 type (flds (take i fields)) n ((old n).0 x)
      | inr x ↦ variant_new (named f).0 type (flds (take i fields)) n ((size n).0 x)
    ],
    λ h. elim (variant_front (named f).0 type (flds (take i fields)) n h) [
      | inl x ↦ (more n).1 (inl ((old n).1 x))
      | inr x ↦ (more n).1 (inr ((size n).1 x))
    ],
  )

  pub first_variant : i ≡ 0 → (lengths : List ℕ) → Same (Has lengths) (Size (sch (out-Field f).schema)) → Same (Has lengths) (VariantLength (flds (take (i + 1) fields)))
  first_variant zero lengths size n =
      let empty : flds (take i fields) ≡ End = ap (λ j. flds (take j fields)) zero in
      subst (λ fs. (Has lengths n → VariantLength fs n) × (VariantLength fs n → Has lengths n)) (sym (more_flds ∙ ap (λ fs. onto fs (named f).0 (Typed type)) empty)) (
        λ h. inl ((size n).0 h),
        λ h. elim h [ inl x ↦ (size n).1 x | inr x ↦ absurd x ],
      )

pub all_variants : (fields : List FieldOf) (i : ℕ) (joined : List ℕ) → length fields ≤ i → Same (Has joined) (VariantLength (flds (take i fields))) → Same (Has joined) (VariantLength (flds fields))
all_variants fields i joined le same = subst (λ l. Same (Has joined) (VariantLength (flds l))) (take_all i fields le) same

-- ---- the tag and a variant
module _ (fields : List FieldOf) (tag joined : List ℕ) (v : ℕ) (count : v ≡ variants (flds fields)) (tags : Same (Has tag) (Only (tag_bits v))) (same : Same (Has joined) (VariantLength (flds fields)))
    (short : tag_bits v + longest_variant (flds fields) ≤ 2 ^ 32) where
  within_sum : (n : ℕ) → Sums (Has tag) (Has joined) n → n ≤ 2 ^ 32
  within_sum n (a, b, x, y, e) = omega (arith, (tags a).0 x, variant_most (flds fields) b ((same b).0 y), e, short)

  pub sum_short : IsShort (Sums (Has tag) (Has joined))
  sum_short n h = within_sum n h

  abbrev IsSum : ℕ → Type 0
  IsSum n = (m : ℕ) × (m ≤ n) × (VariantLength (flds fields) m × (n ≡ tag_bits (variants (flds fields)) + m))

  sum_tells : (n : ℕ) → Tells (is_offset true (flds fields) n) (IsSum n)
  sum_tells n =
      some_tells n (λ m. is_variant (flds fields) m && (n == tag_bits (variants (flds fields)) + m)) (λ m. VariantLength (flds fields) m × (n ≡ tag_bits (variants (flds fields)) + m))
      (λ m. both_tell (is_variant (flds fields) m) (n == tag_bits (variants (flds fields)) + m) (VariantLength (flds fields) m) (n ≡ tag_bits (variants (flds fields)) + m)
      (variant_tells (flds fields) m) (equal_tells n (tag_bits (variants (flds fields)) + m)))

  there : (n : ℕ) → Sums (Has tag) (Has joined) n → IsSum n
  there n (a, b, x, y, e) =
      let tag_is : a ≡ tag_bits (variants (flds fields)) = (tags a).0 x ∙ ap tag_bits count in
      (b, omega arith, ((same b).0 y, e ∙ ap (λ t. t + b) tag_is))

  back : (n : ℕ) → IsSum n → Sums (Has tag) (Has joined) n
  back n (m, le, (x, e)) = (tag_bits v, m, (tags (tag_bits v)).1 refl, (same m).1 x, e ∙ ap (λ w. tag_bits w + m) (sym count))

  pub are_union_offsets : (ns : List ℕ) → Ascend ns → Same (Has ns) (Sums (Has tag) (Has joined)) → ns ≡ offsets true fields
  are_union_offsets ns up sums =
      one_below (2 ^ 32 + 1) (is_offset true (flds fields)) ns up
      (λ k h. let x = (sums k).0 h in (omega (arith, within_sum k x), tells (is_offset true (flds fields) k) (IsSum k) (sum_tells k) (there k x)))
      (λ k lt t. (sums k).1 (back k (told (is_offset true (flds fields) k) (IsSum k) (sum_tells k) t)))

-- ---- the sets of calls
pub of_ok : (r : Result (List ℕ) LengthError) (s : List ℕ) (S : Numbers) → IfOk r (λ t. Same (Has t) S) → r ≡ Ok s → Same (Has s) S
of_ok (Ok t) s S h e = subst (λ l. Same (Has l) S) (let same : t ≡ s = cc in same) h
of_ok (Err x) s S h e = absurd (cc)

pub tag_of : (r : Result (List ℕ) LengthError) (s : List ℕ) (n m : ℕ) → IfOk r (λ t. Same (Has t) (Only n)) → r ≡ Ok s → n ≡ m → Same (Has s) (Only m)
tag_of r s n m h e same = subst (λ k. Same (Has s) (Only k)) same (of_ok r s (Only n) h e)
