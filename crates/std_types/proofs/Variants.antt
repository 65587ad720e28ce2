-- A register's value by the tag and the value of its variant
use Rattle.std.proofs.Common.{◌≡◌, refl}
use Rattle.dsdl_types.specs.Values.{Tagged, tag_of, inner_of}
use Rattle.std_types.specs.RegisterValues.{variant_value}
use Rattle.std_types.specs.declared.register_value.RegisterValue.{RegisterValue}
use Rattle.std_types.specs.declared.register_value.RegisterValue.TheVariants as V

pub variant_tagged : (x : RegisterValue) → Tagged (tag_of (variant_value x)) (inner_of (variant_value x)) ≡ variant_value x
variant_tagged V.Empty = refl
variant_tagged (V.String xs) = refl
variant_tagged (V.Unstructured xs) = refl
variant_tagged (V.Bit xs) = refl
variant_tagged (V.Integer64 xs) = refl
variant_tagged (V.Integer32 xs) = refl
variant_tagged (V.Integer16 xs) = refl
variant_tagged (V.Integer8 xs) = refl
variant_tagged (V.Natural64 xs) = refl
variant_tagged (V.Natural32 xs) = refl
variant_tagged (V.Natural16 xs) = refl
variant_tagged (V.Natural8 xs) = refl
variant_tagged (V.Real64 xs) = refl
variant_tagged (V.Real32 xs) = refl
variant_tagged (V.Real16 xs) = refl
