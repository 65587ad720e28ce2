-- A primitive as a part of another type.
use Rattle.std.proofs.Common.{◌≡◌, ℕ, ◌+◌, Bool, false, List, ◌++◌, length, refl, sym, subst}
use Rattle.std.proofs.lemmas.List.{append-nil}
use Rattle.std.specs.Prelude.{codes}
use Rattle.dsdl_types.specs.Encoding.{own_bits, part_bits}
use Rattle.dsdl_types.specs.Fits.{Fits}
use Rattle.dsdl_types.specs.Schemas as D
use Rattle.dsdl_types.specs.Views.{Kind, Typed, with_field}
use Rattle.value_text.specs.Texts.{value_text}
use Rattle.value_text.specs.Words.{lead}
use Rattle.value_scan.specs.Scanned.{Leaves, Scans}
use Rattle.value_scan.proofs.Steps.{named_left, plain_part}

pub simple_part : (s : D.Sch) (p : D.Prim) (before after : List ℕ) (old new : List Bool) → s ≡ D.Simple p →
    Scans (λ v. Fits (D.Simple p) v) (λ v. value_text (D.Simple p) v) (λ v. own_bits (D.Simple p) v) before after old new →
    Scans (λ v. Fits s v) (λ v. value_text s v) (λ v. part_bits s v) before after old new
simple_part s p before after old new e own =
    subst (λ t. Scans (λ v. Fits t v) (λ v. value_text t v) (λ v. part_bits t v) before after old new) (sym e) (plain_part (D.Simple p) before after old new refl own)

-- as a field
pub simple_left : (name : List ℕ) (k : Kind) (t : D.Prim) (first : Bool) (before mid after : List ℕ) (w0 w1 : List Bool) (p q : ℕ) → k ≡ Typed (D.Simple t) →
    before ≡ lead first ++ (name ++ (codes ": " ++ mid)) → q + length w0 ≡ p + length w1 →
    Scans (λ v. Fits (D.Simple t) v) (λ v. value_text (D.Simple t) v) (λ v. own_bits (D.Simple t) v) mid after w0 w1 →
    (fs : D.Flds) → Leaves before after w0 w1 first (with_field name k fs) p false fs q
simple_left name k t first before mid after w0 w1 p q e f g own fs =
    subst (λ z. Leaves before after w0 w1 first (with_field name z fs) p false fs q) (sym e)
    (named_left name (Typed (D.Simple t)) first before mid after w0 w0 w1 p q refl f (sym (append-nil w0)) g (plain_part (D.Simple t) mid after w0 w1 refl own) fs)
