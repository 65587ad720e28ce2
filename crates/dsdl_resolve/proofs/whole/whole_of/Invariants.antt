use Rattle.std.proofs.Common.{◌≡◌, ◌≤◌, false, take}
use Rattle.std.specs.List.{list_any, count_by}
use Rattle.dsdl_resolve.specs.Place.{is_union_section}
use Rattle.dsdl_resolve.specs.Says.{is_entry, is_field, is_split}
use Rattle.dsdl_resolve.proofs.whole.whole_of.Given as goal

abbrev pub invariant-loop-line : goal.invariant-loop-line
invariant-loop-line l = record {
  plain : list_any is_split (take l.line-index l.lines) ≡ false;
  begun : l.begun ≡ list_any is_entry (take l.line-index l.lines);
  union : l.whole.union ≡ is_union_section (take l.line-index l.lines);
  fields : l.whole.fields ≡ count_by is_field (take l.line-index l.lines);
  few : l.whole.fields ≤ l.line-index;
}
