use Rattle.std.proofs.Common.{◌≡◌, ◌+◌, ℕ, List, length, true}
use Rattle.std.specs.Prelude.{IfSome}
use Rattle.cy_outside.specs.Files.{is_folder}
use Rattle.dsdl_files.specs.Folders.{is_below, is_at_or_below}
use Rattle.dsdl_files.proofs.Members.{In}
use Rattle.dsdl_files.proofs.Standing.{Stands}
use Rattle.dsdl_files.proofs.Told.{ToldCalls}
use Rattle.dsdl_files.proofs.found.find_files.Given as goal

abbrev pub invariant-loop-folder : goal.invariant-loop-folder
invariant-loop-folder g l = let t = g.T.Tree in record {
  told : t.files l.tree ≡ t.files l.fn.tree;
  faults : t.faults l.tree ≡ t.faults l.fn.tree;
  calls : ToldCalls (t.files l.fn.tree) l.root l.found.folders (t.calls l.tree) (t.calls l.fn.tree);
  within : (p : List ℕ) → In p l.found.folders → is_at_or_below l.root p ≡ true;
  below : (p : List ℕ) → In p l.found.files → is_below l.root p ≡ true;
  root : IfSome (t.files l.fn.tree) (λ files. is_folder files l.root ≡ true);
  stands : IfSome (t.files l.fn.tree) (λ files. Stands files l.root l.entries l.found.room l.found.folders l.found.files);
}

abbrev pub decreases-loop-folder : goal.decreases-loop-folder
decreases-loop-folder g l = length l.found.folders + l.found.room
