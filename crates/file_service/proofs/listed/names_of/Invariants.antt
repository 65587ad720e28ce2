use Rattle.std.proofs.Common.{◌≡◌, ◌++◌, map, string_bytes}
use Rattle.cy_outside.specs.declared.tree.Entry.{Entry}
use Rattle.file_service.specs.Names.{listed}
use Rattle.file_service.proofs.listed.names_of.Given as goal

abbrev pub invariant-loop-entry : goal.invariant-loop-entry
invariant-loop-entry l = record {
  whole : l.fn.entries ≡ l.yielded ++ l.entry-iterator.rest.items;
  names : map (λ t. string_bytes t) l.names.keys ≡ listed (map (λ (e : Entry). e.name) l.yielded);
}
