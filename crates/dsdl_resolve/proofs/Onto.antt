-- Fields with one more at the end.
use Rattle.std.proofs.Common.{◌≡◌, ℕ, suc, ◌+◌, ◌≤◌, List, [], ◌∷◌, ◌++◌, map, refl, ap, ◌∙◌, arith}
use Rattle.std.specs.Prelude.{max}
use Rattle.std.proofs.lemmas.List.{map-append}
use Rattle.dsdl_types.specs.Greatest.{as_part, from_lead, longest, longest_fields, longest_variant}
use Rattle.dsdl_types.specs.Rules.{IsFormed, AreFormed, NoPadding, nesting, nesting_of, nodes, nodes_of}
use Rattle.dsdl_types.specs.Schemas.{Sch, Flds, End, Pad, Field, is_aligned, is_delimited, extent_of, variants}
use Rattle.dsdl_types.specs.Views.{Kind, Typed, Padding, with_field, in_order, named, flds}
use Rattle.dsdl_types.specs.declared.schema.Field.{Field as FieldOf}

-- fields with one more behind them
abbrev pub onto : Flds → List ℕ → Kind → Flds
onto End name k = with_field name k End
onto (Pad n fs) name k = Pad n (onto fs name k)
onto (Field other s fs) name k = Field other s (onto fs name k)

front_onto : (name other : List ℕ) (k j : Kind) (fs : Flds) → with_field name k (onto fs other j) ≡ onto (with_field name k fs) other j
front_onto name other (Typed s) j fs = refl
front_onto name other (Padding n) j fs = refl

in_order_more : (xs : List (List ℕ × Kind)) (x : List ℕ × Kind) → in_order (xs ++ x ∷ []) ≡ onto (in_order xs) x.0 x.1
in_order_more [] x = refl
in_order_more (y ∷ ys) x = ap (λ fs. with_field y.0 y.1 fs) (in_order_more ys x) ∙ front_onto y.0 x.0 y.1 x.1 (in_order ys)

pub flds_more : (fs : List FieldOf) (f : FieldOf) → flds (fs ++ f ∷ []) ≡ onto (flds fs) (named f).0 (named f).1
flds_more fs f = ap in_order (map-append named fs (f ∷ [])) ∙ in_order_more (map named fs) (named f)

-- the greatest length of a type as a part of another
abbrev pub part_of : Sch → ℕ
part_of s = as_part (is_delimited s) (extent_of s) (longest s)

module _ (name : List ℕ) (s : Sch) where
  pub formed_typed : (fs : Flds) → AreFormed fs → IsFormed s → AreFormed (onto fs name (Typed s))
  formed_typed End h k = (k, tt)
  formed_typed (Pad n fs) h k = (h.0, h.1, formed_typed fs h.2 k)
  formed_typed (Field other t fs) h k = (h.0, formed_typed fs h.1 k)

  pub longest_typed : (fs : Flds) (p : ℕ) → longest_fields (onto fs name (Typed s)) p ≡ from_lead (is_aligned s) (longest_fields fs p) + part_of s
  longest_typed End p = refl
  longest_typed (Pad n fs) p = longest_typed fs (p + n)
  longest_typed (Field other t fs) p = longest_typed fs (from_lead (is_aligned t) p + part_of t)

  pub variant_typed : (fs : Flds) → longest_variant (onto fs name (Typed s)) ≡ max (longest_variant fs) (part_of s)
  variant_typed End = omega arith
  variant_typed (Pad n fs) = variant_typed fs
  variant_typed (Field other t fs) = omega (arith, variant_typed fs)

  pub nesting_typed : (fs : Flds) → nesting_of (onto fs name (Typed s)) ≡ max (nesting_of fs) (nesting s)
  nesting_typed End = omega arith
  nesting_typed (Pad n fs) = nesting_typed fs
  nesting_typed (Field other t fs) = omega (arith, nesting_typed fs)

  pub nodes_typed : (fs : Flds) → nodes_of (onto fs name (Typed s)) ≡ nodes_of fs + nodes s
  nodes_typed End = omega arith
  nodes_typed (Pad n fs) = nodes_typed fs
  nodes_typed (Field other t fs) = omega (arith, nodes_typed fs)

  pub variants_typed : (fs : Flds) → variants (onto fs name (Typed s)) ≡ suc (variants fs)
  variants_typed End = refl
  variants_typed (Pad n fs) = variants_typed fs
  variants_typed (Field other t fs) = ap (λ n. suc n) (variants_typed fs)

  pub no_padding_typed : (fs : Flds) → NoPadding fs → NoPadding (onto fs name (Typed s))
  no_padding_typed End h = tt
  no_padding_typed (Pad n fs) h = h
  no_padding_typed (Field other t fs) h = no_padding_typed fs h

module _ (name : List ℕ) (n : ℕ) where
  pub formed_padding : (fs : Flds) → AreFormed fs → (1 ≤ n) × (n ≤ 64) → AreFormed (onto fs name (Padding n))
  formed_padding End h k = (k.0, k.1, tt)
  formed_padding (Pad m fs) h k = (h.0, h.1, formed_padding fs h.2 k)
  formed_padding (Field other t fs) h k = (h.0, formed_padding fs h.1 k)

  pub longest_padding : (fs : Flds) (p : ℕ) → longest_fields (onto fs name (Padding n)) p ≡ longest_fields fs p + n
  longest_padding End p = refl
  longest_padding (Pad m fs) p = longest_padding fs (p + m)
  longest_padding (Field other t fs) p = longest_padding fs (from_lead (is_aligned t) p + part_of t)

  pub variant_padding : (fs : Flds) → longest_variant (onto fs name (Padding n)) ≡ longest_variant fs
  variant_padding End = refl
  variant_padding (Pad m fs) = variant_padding fs
  variant_padding (Field other t fs) = ap (λ l. max (part_of t) l) (variant_padding fs)

  pub nesting_padding : (fs : Flds) → nesting_of (onto fs name (Padding n)) ≡ nesting_of fs
  nesting_padding End = refl
  nesting_padding (Pad m fs) = nesting_padding fs
  nesting_padding (Field other t fs) = ap (λ d. max (nesting t) d) (nesting_padding fs)

  pub nodes_padding : (fs : Flds) → nodes_of (onto fs name (Padding n)) ≡ nodes_of fs
  nodes_padding End = refl
  nodes_padding (Pad m fs) = nodes_padding fs
  nodes_padding (Field other t fs) = ap (λ d. nodes t + d) (nodes_padding fs)

  pub variants_padding : (fs : Flds) → variants (onto fs name (Padding n)) ≡ variants fs
  variants_padding End = refl
  variants_padding (Pad m fs) = variants_padding fs
  variants_padding (Field other t fs) = ap (λ v. suc v) (variants_padding fs)
