-- A section within the limits.
use Rattle.std.proofs.Common.{◌≡◌, ℕ, zero, suc, ◌^◌, ◌≤◌, Bool, true, false, Option, Some, None, IfNone, refl, subst, arith}
use Rattle.dsdl_types.specs.Greatest.{longest_variant}
use Rattle.dsdl_types.specs.Schemas.{Flds, End, Pad, Field, variants}
use Rattle.dsdl_resolve.specs.Said.{greatest_in, greatest_union}
use Rattle.dsdl_resolve.specs.Totals.{AreTotals, AreCounted, AreWithin, end_of}
use Rattle.dsdl_resolve.specs.declared.totals.Totals.{Totals}

no_variants : (fs : Flds) → variants fs ≡ 0 → longest_variant fs ≡ 0
no_variants End e = refl
no_variants (Pad n fs) e = no_variants fs e
no_variants (Field name s fs) e = absurd (omega arith)

union_within : (k : ℕ) (fs : Flds) → variants fs ≡ k → greatest_union k fs ≤ 2 ^ 32 → longest_variant fs ≤ 2 ^ 32
union_within zero fs e le = omega (arith, no_variants fs e)
union_within (suc k) fs e le = omega arith

pub end_within : (union : Bool) (fs : Flds) → greatest_in union fs ≤ 2 ^ 32 → end_of union fs ≤ 2 ^ 32
end_within true fs le = union_within (variants fs) fs refl le
end_within false fs le = omega arith

pub within_totals : (t : Totals) (union : Bool) (fs : Flds) (g : ℕ) → AreTotals t union fs → AreCounted t → g ≡ greatest_in union fs → g ≤ 2 ^ 32 → t.nesting ≤ 32 → t.nodes ≤ 2 ^ 20 → AreWithin t
within_totals t union fs g h counted same le flat few = record {
  variants = counted.variants;
  end = omega (arith, h.end, end_within union fs (subst (λ n. n ≤ 2 ^ 32) same le));
  nodes = few;
  nesting = flat;
}

pub if_none : {A : Type 0} (r : Option A) (P Q : Type 0) → (P → Q) → IfNone r P → IfNone r Q
if_none None P Q f h = f h
if_none (Some x) P Q f h = h
