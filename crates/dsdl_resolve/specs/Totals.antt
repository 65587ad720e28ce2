-- How large types and sections are, in numbers.
use Rattle.std.specs.Prelude.{◌≡◌, ℕ, ◌+◌, ◌^◌, ◌≤◌, max, Bool, true, false}
use Rattle.dsdl_types.specs.Greatest.{from_lead, longest, longest_fields, longest_variant, as_part}
use Rattle.dsdl_types.specs.Rules.{IsSchema, IsItem, nodes, nodes_of, nesting, nesting_of}
use Rattle.dsdl_types.specs.Schemas.{Sch, Flds, Fixed, Var, is_aligned, is_delimited, extent_of}
use Rattle.dsdl_types.specs.Schemas.{variants}
use Rattle.dsdl_resolve.specs.declared.counts.Counts.{Counts}
use Rattle.dsdl_resolve.specs.declared.measure.Measure.{Measure}
use Rattle.dsdl_resolve.specs.declared.totals.Totals.{Totals}

-- how large a type is
pub record AreCountsOf (counts : Counts) (s : Sch) : Type 0 where
  pub nodes : counts.nodes ≡ nodes s
  pub nesting : counts.nesting ≡ nesting s

-- the type of an array's items; a type that is no array itself
abbrev pub item_type : Sch → Sch
item_type (Fixed s n) = s
item_type (Var s n) = s
item_type s = s

-- the numbers of a type as a part of another
pub record IsMeasure (m : Measure) (s : Sch) : Type 0 where
  pub longest : m.longest ≡ as_part (is_delimited s) (extent_of s) (longest s)
  pub aligned : m.aligned ≡ is_aligned s
  pub nodes : m.nodes ≡ nodes s
  pub nesting : m.nesting ≡ nesting s

-- numbers that are small enough to be counted on
pub record IsSmall (m : Measure) : Type 0 where
  pub longest : m.longest ≤ 2 ^ 54
  pub some_node : 1 ≤ m.nodes
  pub nodes : m.nodes ≤ 2 ^ 41
  pub nesting : m.nesting ≤ 33

-- a type that keeps the rules, or an array of such
abbrev pub IsPartType : Sch → Type 0
IsPartType (Fixed s n) = IsItem s × IsSchema s × (n ≤ 2 ^ 20)
IsPartType (Var s n) = IsItem s × IsSchema s × (n ≤ 2 ^ 20)
IsPartType s = IsSchema s

-- where the fields of a structure end at most, or the greatest length of a variant
abbrev pub end_of : Bool → Flds → ℕ
end_of true fs = longest_variant fs
end_of false fs = longest_fields fs 0

-- where a field of this length ends at most behind others, or the greatest length with this variant
abbrev pub next_end : Bool → ℕ → Bool → ℕ → ℕ
next_end true end aligned length = max end length
next_end false end aligned length = from_lead aligned end + length

-- the numbers of the fields of a section
pub record AreTotals (t : Totals) (union : Bool) (fs : Flds) : Type 0 where
  pub kind : t.union ≡ union
  pub variants : t.variants ≡ variants fs
  pub end : t.end ≡ end_of union fs
  pub nodes : t.nodes ≡ nodes_of fs
  pub nesting : t.nesting ≡ nesting_of fs

-- numbers that are small enough to be counted on
pub record AreCounted (t : Totals) : Type 0 where
  pub variants : t.variants ≤ t.nodes
  pub end : t.end ≤ 2 ^ 60
  pub nodes : t.nodes ≤ 2 ^ 50

-- numbers of a section that no rule refuses
pub record AreWithin (t : Totals) : Type 0 where
  pub variants : t.variants ≤ t.nodes
  pub end : t.end ≤ 2 ^ 32
  pub nodes : t.nodes ≤ 2 ^ 20
  pub nesting : t.nesting ≤ 32
