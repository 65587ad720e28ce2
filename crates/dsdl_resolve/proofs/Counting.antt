-- How large the structure or the union of a section is.
use Rattle.std.proofs.Common.{◌≡◌, ℕ, suc, ◌+◌, Bool, true, false, List, Option, Some, None, if◌then◌else◌, sym, ap, subst, arith}
use Rattle.dsdl_types.specs.Rules.{nodes_of, nesting_of}
use Rattle.dsdl_types.specs.Views.{flds, sch, type_of}
use Rattle.dsdl_types.specs.declared.definition.Parts.{Parts}
use Rattle.dsdl_types.specs.declared.definition.Parts.TheVariants as parts
use Rattle.dsdl_types.specs.declared.schema.Body.{roll-Body}
use Rattle.dsdl_types.specs.declared.schema.Field.{Field}
use Rattle.dsdl_types.specs.declared.schema.Schema.{Schema}
use Rattle.dsdl_types.specs.declared.schema.Schema.TheVariants as schema
use Rattle.dsdl_types.proofs.Equations.{kind_struct, kind_union}
use Rattle.dsdl_resolve.specs.Judged.{body_of, composite_of}
use Rattle.dsdl_resolve.specs.Places.{AreCountsIn, IsMessageOf}
use Rattle.dsdl_resolve.specs.Said.{Said}
use Rattle.dsdl_resolve.specs.Totals.{AreCountsOf}
use Rattle.dsdl_resolve.specs.declared.counts.Counts.{Counts}

module _ (counts : Counts) (fields : List Field) (nodes : counts.nodes ≡ 1 + nodes_of (flds fields)) (nesting : counts.nesting ≡ 1 + nesting_of (flds fields)) where
  struct_counts : (n : ℕ) (sealed : Bool) → AreCountsOf counts (sch (schema.Struct (roll-Body (record { fields = fields; extent = n; sealed = sealed }))))
  struct_counts n sealed = let deep : counts.nesting ≡ suc (nesting_of (flds fields)) = omega (arith, nesting) in subst (AreCountsOf counts) (sym (ap type_of (kind_struct fields n sealed))) (record { nodes = nodes; nesting = deep })

  union_counts : (n : ℕ) (sealed : Bool) → AreCountsOf counts (sch (schema.Union (roll-Body (record { fields = fields; extent = n; sealed = sealed }))))
  union_counts n sealed = let deep : counts.nesting ≡ suc (nesting_of (flds fields)) = omega (arith, nesting) in subst (AreCountsOf counts) (sym (ap type_of (kind_union fields n sealed))) (record { nodes = nodes; nesting = deep })

pub section_counts : (counts : Counts) (said : Said) → counts.nodes ≡ 1 + nodes_of (flds said.fields) → counts.nesting ≡ 1 + nesting_of (flds said.fields) → AreCountsOf counts (sch (composite_of said))
section_counts counts said nodes nesting = at said.union said.extent
  where
    at : (union : Bool) (extent : Option ℕ) → AreCountsOf counts (sch (if union then schema.Union (body_of said extent) else schema.Struct (body_of said extent)))
    at true (Some n) = union_counts counts said.fields nodes nesting n false
    at true None = union_counts counts said.fields nodes nesting _ true
    at false (Some n) = struct_counts counts said.fields nodes nesting n false
    at false None = struct_counts counts said.fields nodes nesting _ true

pub parts_counted : (counts : Counts) (s : Schema) (p : Parts) → IsMessageOf s p → AreCountsOf counts (sch s) → AreCountsIn counts p
parts_counted counts s (parts.Message t) same h = subst (λ x. AreCountsOf counts (sch x)) (sym same) h
parts_counted counts s (parts.Service request response) same h = tt
