-- The first difference of two structures or unions
use Rattle.std.proofs.Common.{◌≡◌, ℕ, length, Option, sym, ap, ◌∙◌, arith, rules}
use Rattle.std.specs.Prelude.{nat_lt, nat_le, ◌==◌, if◌then◌else◌}
use Rattle.std.proofs.lemmas.Bool.Decides.{nat_tests}
use Rattle.dsdl_types.specs.Schemas.{field_count}
use Rattle.dsdl_types.specs.Schemas as D
use Rattle.dsdl_types.specs.Difference.{Difference, Count, same_fields, here, unless, outlined, difference, difference_fields}
use Rattle.dsdl_types.specs.Views.{Typed, kind_of, type_of, sch, body_of}
use Rattle.dsdl_types.specs.declared.schema.Schema.{Schema}
use Rattle.dsdl_types.specs.declared.schema.Schema.TheVariants as S
use Rattle.dsdl_types.specs.declared.schema.Schema.TheFolds.{the_lemmas}
use Rattle.dsdl_types.specs.declared.schema.Body.{Body, out-Body}
use Rattle.compat_check.proofs.Fields.{body_count}

kind_struct : (b : Body) → kind_of (S.Struct b) ≡ Typed (D.Struct (body_of b).0 (body_of b).1)
kind_struct b = search (rules, the_lemmas)

kind_union : (b : Body) → kind_of (S.Union b) ≡ Typed (D.Union (body_of b).0 (body_of b).1)
kind_union b = search (rules, the_lemmas)

fewer : (n m : ℕ) (d : Option Difference) → unless (nat_le m n) Count d ≡ (if nat_lt n m then here Count else d)
fewer n m d = grind (arith, nat_tests)

-- two bodies with fields enough, as two structures
pub structs : (s t : Schema) (new old : Body) (n m : ℕ) → s ≡ S.Struct new → t ≡ S.Struct old → n ≡ length (out-Body new).fields → m ≡ length (out-Body old).fields →
    outlined (body_of new).1 (body_of old).1 (same_fields (body_of new).0 (body_of old).0) (unless (nat_le m n) Count (difference_fields (body_of new).0 (body_of old).0))
    ≡ difference (sch s) (sch t)
structs s t new old n m e f p q =
    let fs = (body_of new).0 in
    let gs = (body_of old).0 in
    let n_is = p ∙ sym (body_count new) in
    let m_is = q ∙ sym (body_count old) in
    (λ i. outlined (body_of new).1 (body_of old).1 (same_fields fs gs) ((fewer (n_is i) (m_is i) (difference_fields fs gs)) i))
    ∙ sym (λ i. difference (type_of ((ap kind_of e ∙ kind_struct new) i)) (type_of ((ap kind_of f ∙ kind_struct old) i)))

-- two bodies with as many variants, as two unions
pub unions : (s t : Schema) (new old : Body) (n m : ℕ) → s ≡ S.Union new → t ≡ S.Union old → n ≡ length (out-Body new).fields → m ≡ length (out-Body old).fields →
    outlined (body_of new).1 (body_of old).1 (same_fields (body_of new).0 (body_of old).0) (unless (n == m) Count (difference_fields (body_of new).0 (body_of old).0))
    ≡ difference (sch s) (sch t)
unions s t new old n m e f p q =
    let fs = (body_of new).0 in
    let gs = (body_of old).0 in
    let n_is = p ∙ sym (body_count new) in
    let m_is = q ∙ sym (body_count old) in
    (λ i. outlined (body_of new).1 (body_of old).1 (same_fields fs gs) (unless (n_is i == m_is i) Count (difference_fields fs gs)))
    ∙ sym (λ i. difference (type_of ((ap kind_of e ∙ kind_union new) i)) (type_of ((ap kind_of f ∙ kind_union old) i)))
