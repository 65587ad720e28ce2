-- What is said of two schemas.
use Rattle.std.proofs.Common.{◌≡◌, ◌≢◌, ◌∙◌, ◌↔◌, Bool, true, false, cond, None, Some, Option, refl, sym, ap, subst, inl, inr}
use Rattle.std.proofs.lemmas.Bool.{cases_Bool, false≢true}
use Rattle.dsdl_types.specs.Schemas.{Sch}
use Rattle.dsdl_types.specs.Difference.{Difference, same, difference}
use Rattle.dsdl_types.specs.Newer.{bare, Newer}
use Rattle.dsdl_types.proofs.Comparing.{compares}
use Rattle.compat_check.specs.Verdicts.{verdict_of}
use Rattle.compat_check.specs.declared.verdict.Verdict.{Verdict}
use Rattle.compat_check.specs.declared.verdict.Verdict.TheVariants.{Yes}
use Rattle.type_changes.specs.Laws.{IsNewer, SameBytes}
use Rattle.type_changes.specs.Names.{equal}
use Rattle.type_changes.specs.Said.{compared}
use Rattle.type_changes.specs.declared.change.Change.{Change}
use Rattle.type_changes.specs.declared.change.Change.TheVariants.{Same, Renamed, Compared}
use Rattle.type_changes.proofs.Equal.{equal_is, same_bare, bare_same, bare_newer}

abbrev chosen : Bool → Bool → Verdict → Change
chosen equal same verdict = cond equal Same (cond same Renamed (Compared verdict))

is_same : (b c : Bool) (v : Verdict) → chosen b c v ≡ Same → b ≡ true
is_same true c v e = refl
is_same false true v e = absurd cc
is_same false false v e = absurd cc

is_renamed : (b c : Bool) (v : Verdict) → chosen b c v ≡ Renamed → (b ≡ false) × (c ≡ true)
is_renamed true c v e = absurd cc
is_renamed false true v e = (refl, refl)
is_renamed false false v e = absurd cc

renamed : (b c : Bool) (v : Verdict) → b ≡ false → c ≡ true → chosen b c v ≡ Renamed
renamed b c v e f = ap (λ x. chosen x c v) e ∙ ap (λ x. chosen false x v) f

pub same_law : (new old : Sch) → (compared new old ≡ Same) ↔ (new ≡ old)
same_law new old = (
  λ e. (equal_is new old).0 (is_same (equal new old) (same new old) (verdict_of (difference new old)) e),
  λ e. ap (λ b. chosen b (same new old) (verdict_of (difference new old))) ((equal_is new old).1 e),
)

apart : (new old : Sch) → new ≢ old → equal new old ≡ false
apart new old ne = elim (cases_Bool (equal new old)) [ inl e ↦ absurd (ne ((equal_is new old).0 e)) | inr e ↦ e ]

pub renamed_law : (new old : Sch) → (compared new old ≡ Renamed) ↔ ((bare new ≡ bare old) × (new ≢ old))
renamed_law new old =
    let v = verdict_of (difference new old) in (
      λ e. (let p = is_renamed (equal new old) (same new old) v e in
          (same_bare new old p.1, λ one. false≢true (sym p.0 ∙ (equal_is new old).1 one))),
      λ p. renamed (equal new old) (same new old) v (apart new old p.1) (bare_same new old p.0),
    )

no_difference : (d : Option Difference) → verdict_of d ≡ Yes → d ≡ None
no_difference None e = refl
no_difference (Some d) e = absurd cc

newer_from : (b c : Bool) (v : Verdict) (P : Type 0) → (b ≡ true → P) → (c ≡ true → P) → (v ≡ Yes → P) → IsNewer (chosen b c v) → P
newer_from true c v P f g h i = f refl
newer_from false true v P f g h i = g refl
newer_from false false v P f g h i = h i

newer_to : (b c : Bool) (v : Verdict) → v ≡ Yes → IsNewer (chosen b c v)
newer_to true c v e = tt
newer_to false true v e = tt
newer_to false false v e = e

pub newer_law : (new old : Sch) → IsNewer (compared new old) ↔ Newer new old
newer_law new old =
    let v = verdict_of (difference new old) in (
      newer_from (equal new old) (same new old) v (Newer new old)
          (λ e. bare_newer new old (ap bare ((equal_is new old).0 e)))
          (λ e. bare_newer new old (same_bare new old e))
          (λ e. (compares new old).0 (no_difference (difference new old) e)),
      λ n. newer_to (equal new old) (same new old) v (ap verdict_of ((compares new old).1 n)),
    )

-- one schema writes and reads alike
pub same_bytes : (new old : Sch) → new ≡ old → SameBytes new old
same_bytes new old e = subst (λ x. SameBytes new x) e (record {
  writes = λ v. refl;
  reads = λ bytes v. (λ r. r, λ r. r);
  refuses = λ bytes path why. (λ r. r, λ r. r);
})
