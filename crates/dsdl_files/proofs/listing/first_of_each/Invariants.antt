use Rattle.std.proofs.Common.{◌≡◌, ◌++◌, ℕ, List}
use Rattle.std.specs.List.{list_any}
use Rattle.std.specs.Str.{bytes_eq}
use Rattle.cy_outside.specs.declared.tree.Entry.{Entry}
use Rattle.dsdl_files.specs.Steps.{NamesDiffer, first_of_each}
use Rattle.dsdl_files.proofs.listing.first_of_each.Given as goal

abbrev pub invariant-loop-entry : goal.invariant-loop-entry
invariant-loop-entry l = record {
  whole : l.fn.entries ≡ l.yielded ++ l.entry-iterator.rest.items;
  kept : NamesDiffer l.fn.entries → l.firsts ≡ l.yielded;
  firsts : l.firsts ≡ first_of_each l.yielded;
  differ : NamesDiffer l.firsts;
  names : (name : List ℕ) → list_any (bytes_eq name) l.names ≡ list_any (λ (e : Entry). bytes_eq e.name name) l.yielded;
}
