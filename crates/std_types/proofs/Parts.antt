-- The fields of a structure, by their numbers
use Rattle.std.proofs.Common.{◌≡◌, ℕ, zero, suc, List, [], ◌∷◌, Some, None, slice_get, refl, ap}
use Rattle.dsdl_types.specs.Values.{Val}
use Rattle.dsdl_types.specs.Views.{val, vals}
use Rattle.dsdl_types.specs.declared.value.Value.{Value}
use Rattle.std_types.specs.Held.{part_or}

pub part_found : (v : Val) (xs : List Value) (k : ℕ) (x : Value) → slice_get xs k ≡ Some x → part_or v (vals xs) k ≡ val x
part_found v [] k x e = cc
part_found v (y ∷ xs) zero x e = let same : y ≡ x = cc in ap val same
part_found v (y ∷ xs) (suc k) x e = part_found v xs k x e

pub part_missing : (v : Val) (xs : List Value) (k : ℕ) → slice_get xs k ≡ None → part_or v (vals xs) k ≡ v
part_missing v [] k e = refl
part_missing v (y ∷ xs) zero e = cc
part_missing v (y ∷ xs) (suc k) e = part_missing v xs k e
