-- The variants of a register's value and the values of the union determine each other.
use Rattle.std.specs.Prelude.{ℕ, zero, suc, ◌≡◌, ◌≤◌, length, refl, codes}
use Rattle.std.proofs.Common.{sym, ap}
use Rattle.dsdl_types.specs.Schemas.{Sch, Flds, Union, End, Var}
use Rattle.dsdl_types.specs.Stored.{IsStored, IsStoredVariant}
use Rattle.dsdl_types.specs.Values.{Val, Tagged}
use Rattle.std_types.specs.Fields.{alone_forth, floats_back, floats_forth, integers_back}
use Rattle.std_types.specs.Fields.{integers_forth, naturals_back, naturals_forth, parts_are}
use Rattle.std_types.specs.Fields.{truths_back, truths_forth}
use Rattle.std_types.specs.Held.{HoldsBytes, HoldsIntegers, HoldsNaturals, floats_of, floats_value}
use Rattle.std_types.specs.Held.{integers_of, integers_value, naturals_of, naturals_value}
use Rattle.std_types.specs.Held.{truths_of, truths_value}
use Rattle.std_types.specs.RegisterValues.{FitsRegisterValue, made_at, makers, variant_of}
use Rattle.std_types.specs.RegisterValues.{variant_value}
use Rattle.std_types.specs.Schemas.{bool, empty, float, register_value, sint, uint}
use Rattle.std_types.specs.declared.register_value.RegisterValue.{RegisterValue}
use Rattle.std_types.specs.declared.register_value.RegisterValue.TheVariants as V

pub variant_back : (x : RegisterValue) → FitsRegisterValue x
    → IsStored register_value (variant_value x) × (variant_of (variant_value x) ≡ x)
variant_back V.Empty f = (tt, refl)
variant_back (V.String xs) f = let kept = naturals_back 8 refl 256 xs f in ((kept.0, tt), ap V.String kept.1)
variant_back (V.Unstructured xs) f = let kept = naturals_back 8 refl 256 xs f in ((kept.0, tt), ap V.Unstructured kept.1)
variant_back (V.Bit xs) f = let kept = truths_back 2048 xs f in ((kept.0, tt), ap V.Bit kept.1)
variant_back (V.Integer64 xs) f = let kept = integers_back 64 refl 32 xs f in ((kept.0, tt), ap V.Integer64 kept.1)
variant_back (V.Integer32 xs) f = let kept = integers_back 32 refl 64 xs f in ((kept.0, tt), ap V.Integer32 kept.1)
variant_back (V.Integer16 xs) f = let kept = integers_back 16 refl 128 xs f in ((kept.0, tt), ap V.Integer16 kept.1)
variant_back (V.Integer8 xs) f = let kept = integers_back 8 refl 256 xs f in ((kept.0, tt), ap V.Integer8 kept.1)
variant_back (V.Natural64 xs) f = let kept = naturals_back 64 refl 32 xs f in ((kept.0, tt), ap V.Natural64 kept.1)
variant_back (V.Natural32 xs) f = let kept = naturals_back 32 refl 64 xs f in ((kept.0, tt), ap V.Natural32 kept.1)
variant_back (V.Natural16 xs) f = let kept = naturals_back 16 refl 128 xs f in ((kept.0, tt), ap V.Natural16 kept.1)
variant_back (V.Natural8 xs) f = let kept = naturals_back 8 refl 256 xs f in ((kept.0, tt), ap V.Natural8 kept.1)
variant_back (V.Real64 xs) f = let kept = floats_back 64 32 xs f in ((kept.0, tt), ap V.Real64 kept.1)
variant_back (V.Real32 xs) f = let kept = floats_back 32 64 xs f in ((kept.0, tt), ap V.Real32 kept.1)
variant_back (V.Real16 xs) f = let kept = floats_back 16 128 xs f in ((kept.0, tt), ap V.Real16 kept.1)

abbrev variants_of : Sch → Flds
variants_of (Union fs o) = fs
variants_of _ = End

tagged_forth : (tag : ℕ) (v : Val) → IsStoredVariant (variants_of register_value) tag v →
    FitsRegisterValue (made_at makers tag v) × (variant_value (made_at makers tag v) ≡ Tagged tag v)
tagged_forth zero v h = (tt, ap (λ w. Tagged 0 w) (sym (parts_are empty refl v h).0))
tagged_forth (suc zero) v h =
    let held = alone_forth (codes "value") (Var (uint 8) 256) (HoldsBytes 256) naturals_value (naturals_of 8) (naturals_forth 8 refl 256) v h in
    (held.0, ap (λ w. Tagged 1 w) held.1)
tagged_forth (suc (suc zero)) v h =
    let held = alone_forth (codes "value") (Var (uint 8) 256) (HoldsBytes 256) naturals_value (naturals_of 8) (naturals_forth 8 refl 256) v h in
    (held.0, ap (λ w. Tagged 2 w) held.1)
tagged_forth (suc (suc (suc zero))) v h =
    let held = alone_forth (codes "value") (Var bool 2048) (λ xs. length xs ≤ 2048) truths_value truths_of (truths_forth 2048) v h in
    (held.0, ap (λ w. Tagged 3 w) held.1)
tagged_forth (suc (suc (suc (suc zero)))) v h =
    let held = alone_forth (codes "value") (Var (sint 64) 32) (HoldsIntegers 64 32) integers_value (integers_of 64) (integers_forth 64 refl 32) v h in
    (held.0, ap (λ w. Tagged 4 w) held.1)
tagged_forth (suc (suc (suc (suc (suc zero))))) v h =
    let held = alone_forth (codes "value") (Var (sint 32) 64) (HoldsIntegers 32 64) integers_value (integers_of 32) (integers_forth 32 refl 64) v h in
    (held.0, ap (λ w. Tagged 5 w) held.1)
tagged_forth (suc (suc (suc (suc (suc (suc zero)))))) v h =
    let held = alone_forth (codes "value") (Var (sint 16) 128) (HoldsIntegers 16 128) integers_value (integers_of 16) (integers_forth 16 refl 128) v h in
    (held.0, ap (λ w. Tagged 6 w) held.1)
tagged_forth (suc (suc (suc (suc (suc (suc (suc zero))))))) v h =
    let held = alone_forth (codes "value") (Var (sint 8) 256) (HoldsIntegers 8 256) integers_value (integers_of 8) (integers_forth 8 refl 256) v h in
    (held.0, ap (λ w. Tagged 7 w) held.1)
tagged_forth (suc (suc (suc (suc (suc (suc (suc (suc zero)))))))) v h =
    let held = alone_forth (codes "value") (Var (uint 64) 32) (HoldsNaturals 64 32) naturals_value (naturals_of 64) (naturals_forth 64 refl 32) v h in
    (held.0, ap (λ w. Tagged 8 w) held.1)
tagged_forth (suc (suc (suc (suc (suc (suc (suc (suc (suc zero))))))))) v h =
    let held = alone_forth (codes "value") (Var (uint 32) 64) (HoldsNaturals 32 64) naturals_value (naturals_of 32) (naturals_forth 32 refl 64) v h in
    (held.0, ap (λ w. Tagged 9 w) held.1)
tagged_forth (suc (suc (suc (suc (suc (suc (suc (suc (suc (suc zero)))))))))) v h =
    let held = alone_forth (codes "value") (Var (uint 16) 128) (HoldsNaturals 16 128) naturals_value (naturals_of 16) (naturals_forth 16 refl 128) v h in
    (held.0, ap (λ w. Tagged 10 w) held.1)
tagged_forth (suc (suc (suc (suc (suc (suc (suc (suc (suc (suc (suc zero))))))))))) v h =
    let held = alone_forth (codes "value") (Var (uint 8) 256) (HoldsNaturals 8 256) naturals_value (naturals_of 8) (naturals_forth 8 refl 256) v h in
    (held.0, ap (λ w. Tagged 11 w) held.1)
tagged_forth (suc (suc (suc (suc (suc (suc (suc (suc (suc (suc (suc (suc zero)))))))))))) v h =
    let held = alone_forth (codes "value") (Var (float 64) 32) (HoldsNaturals 64 32) floats_value (floats_of 64) (floats_forth 64 32) v h in
    (held.0, ap (λ w. Tagged 12 w) held.1)
tagged_forth (suc (suc (suc (suc (suc (suc (suc (suc (suc (suc (suc (suc (suc zero))))))))))))) v h =
    let held = alone_forth (codes "value") (Var (float 32) 64) (HoldsNaturals 32 64) floats_value (floats_of 32) (floats_forth 32 64) v h in
    (held.0, ap (λ w. Tagged 13 w) held.1)
tagged_forth (suc (suc (suc (suc (suc (suc (suc (suc (suc (suc (suc (suc (suc (suc zero)))))))))))))) v h =
    let held = alone_forth (codes "value") (Var (float 16) 128) (HoldsNaturals 16 128) floats_value (floats_of 16) (floats_forth 16 128) v h in
    (held.0, ap (λ w. Tagged 14 w) held.1)
tagged_forth (suc (suc (suc (suc (suc (suc (suc (suc (suc (suc (suc (suc (suc (suc (suc tag))))))))))))))) v h = absurd h

pub variant_forth : (v : Val) → IsStored register_value v
    → FitsRegisterValue (variant_of v) × (variant_value (variant_of v) ≡ v)
variant_forth (Tagged tag v) h = tagged_forth tag v h
variant_forth _ h = absurd h
