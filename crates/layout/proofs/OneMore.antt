-- One field more behind others
use Rattle.std.proofs.Common.{◌≡◌, ℕ, ◌+◌, ◌^◌, ◌≤◌, Bool, false, List, refl, sym, ap, ◌∙◌, subst, arith}
use Rattle.bit_length.specs.Lengths.{Numbers, Same, Only, Sums}
use Rattle.dsdl_types.specs.Schemas.{Sch, Flds, End, Pad, is_aligned, is_delimited, extent_of}
use Rattle.dsdl_types.specs.Schemas as D
use Rattle.dsdl_types.specs.Greatest.{from_lead, longest, longest_fields, as_part}
use Rattle.dsdl_types.specs.Lengths.{Size}
use Rattle.dsdl_types.specs.Rules.{IsFormed, AreFormed}
use Rattle.dsdl_types.specs.Views.{Kind, Padding, is_padding, type_of, with_field}
use Rattle.layout.specs.Sets.{Leads, IsShort, IsShortPart}
use Rattle.layout.specs.Ends.{EndsBehind}
use Rattle.layout.proofs.Sets.{size_most}
use Rattle.layout.proofs.Types.{field_typed}

module _ (name : List ℕ) (k : Kind) (b : ℕ) (is : k ≡ Padding b) where
  pad_is : with_field name k End ≡ Pad b End
  pad_is = ap (λ z. with_field name z End) is

  pub pad_few : AreFormed (with_field name k End) → b ≤ 2 ^ 32
  pad_few h = let g = subst AreFormed pad_is h in omega (arith, g.1)

  pub pad_short : (S padding : Numbers) → Same padding (Only b) → ((p : ℕ) → S p → longest_fields (with_field name k End) p ≤ 2 ^ 32) → IsShort (Sums S padding)
  pad_short S padding pad short n (p, c, x, y, e) =
      let g : p + b ≤ 2 ^ 32 = subst (λ fs. longest_fields fs p ≤ 2 ^ 32) pad_is (short p x) in
      omega (arith, g, (pad c).0 y, e)

  pub pad_ends : (S padding new : Numbers) → Same padding (Only b) → Same new (Sums S padding) → Same new (EndsBehind (with_field name k End) S)
  pad_ends S padding new pad sum n = subst (λ fs. (new n → EndsBehind fs S n) × (EndsBehind fs S n → new n)) (sym pad_is) (
    λ y. let (p, c, x, z, e) = (sum n).0 y in (p, x, e ∙ ap (λ d. p + d) ((pad c).0 z)),
    λ (p, x, e). (sum n).1 (p, b, x, (pad b).1 refl, e),
  )

module _ (name : List ℕ) (k : Kind) (is : is_padding k ≡ false) where
  one : Flds
  one = D.Field name (type_of k) End

  one_is : with_field name k End ≡ D.Field name (type_of k) End
  one_is = field_typed name k End is

  pub typed_formed : AreFormed (with_field name k End) → IsFormed (type_of k)
  typed_formed h = (subst AreFormed one_is h).0

  pub typed_short : longest_fields (with_field name k End) 0 ≤ 2 ^ 32 → IsShortPart (type_of k)
  typed_short h =
      let s = type_of k in
      let g : from_lead (is_aligned s) 0 + as_part (is_delimited s) (extent_of s) (longest s) ≤ 2 ^ 32 = subst (λ fs. longest_fields fs 0 ≤ 2 ^ 32) one_is h in
      omega (arith, g)

  pub typed_leads : (S : Numbers) (d : Bool) → d ≡ is_aligned (type_of k) → ((p : ℕ) → S p → longest_fields (with_field name k End) p ≤ 2 ^ 32) → IsShort (Leads d S)
  typed_leads S d e short n (p, x, at) =
      let s = type_of k in
      let g : from_lead (is_aligned s) p + as_part (is_delimited s) (extent_of s) (longest s) ≤ 2 ^ 32 = subst (λ fs. longest_fields fs p ≤ 2 ^ 32) one_is (short p x) in
      let same : n ≡ from_lead (is_aligned s) p = at ∙ ap (λ z. from_lead z p) e in
      omega (arith, g, same)

  pub typed_sums : (S begins lengths : Numbers) (d : Bool) → d ≡ is_aligned (type_of k) → Same begins (Leads d S) → Same lengths (Size (type_of k)) →
      ((p : ℕ) → S p → longest_fields (with_field name k End) p ≤ 2 ^ 32) → IsShort (Sums begins lengths)
  typed_sums S begins lengths d e lead len short n (a, m, x, y, at) =
      let s = type_of k in
      let (p, z, a_is) = (lead a).0 x in
      let g : from_lead (is_aligned s) p + as_part (is_delimited s) (extent_of s) (longest s) ≤ 2 ^ 32 = subst (λ fs. longest_fields fs p ≤ 2 ^ 32) one_is (short p z) in
      let same : a ≡ from_lead (is_aligned s) p = a_is ∙ ap (λ w. from_lead w p) e in
      omega (arith, g, same, at, size_most s m ((len m).0 y))

  pub typed_ends : (S begins lengths new : Numbers) (d : Bool) → d ≡ is_aligned (type_of k) → Same begins (Leads d S) → Same lengths (Size (type_of k)) → Same new (Sums begins lengths) →
      Same new (EndsBehind (with_field name k End) S)
  typed_ends S begins lengths new d e lead len sum n =
      let s = type_of k in
      subst (λ fs. (new n → EndsBehind fs S n) × (EndsBehind fs S n → new n)) (sym one_is) (
        λ y.
            let (a, m, x, z, at) = (sum n).0 y in
            let (p, w, a_is) = (lead a).0 x in
            (p, w, (m, (len m).0 z, at ∙ ap (λ c. c + m) (a_is ∙ ap (λ c. from_lead c p) e))),
        λ (p, x, (m, y, at)).
            let lead_is : from_lead (is_aligned s) p ≡ from_lead d p = ap (λ c. from_lead c p) (sym e) in
            (sum n).1 (from_lead (is_aligned s) p, m, (lead (from_lead (is_aligned s) p)).1 (p, x, lead_is), (len m).1 y, at),
      )
