-- The status of the run of a number's log.
use Rattle.std.proofs.Common.{◌≡◌, ◌⊎◌, ◌∙◌, ℕ, true, false, List, Option, refl, ap, sym, inl, inr}
use Rattle.node_run.specs.Generated.{HasGenerated}
use Rattle.node_run.specs.declared.status.Status.{Status}
use Rattle.node_run.specs.declared.status.Status.TheVariants as status
use Rattle.cyphal.specs.Job.{is_fault}

-- there are three
pub one_of : (number : ℕ) (stat : Status) (before after : Option (List ℕ)) → HasGenerated number stat before after → (stat ≡ status.Ok) ⊎ ((stat ≡ status.WriteFault) ⊎ (stat ≡ status.NoMemory))
one_of number status.Ok before after h = inl refl
one_of number status.Usage before after h = absurd h
one_of number (status.Dsdl file line why) before after h = absurd h
one_of number (status.Plan line why) before after h = absurd h
one_of number (status.Log line why) before after h = absurd h
one_of number (status.Text line) before after h = absurd h
one_of number (status.Unreadable line path why) before after h = absurd h
one_of number (status.NotNewer path why) before after h = absurd h
one_of number status.LogLong before after h = absurd h
one_of number (status.NoFile path) before after h = absurd h
one_of number status.ReadFault before after h = absurd h
one_of number status.WriteFault before after h = inr (inl refl)
one_of number status.NoMemory before after h = inr (inr refl)

-- none of them but Ok is no fault
pub ok_of : (stat : Status) → (stat ≡ status.Ok) ⊎ ((stat ≡ status.WriteFault) ⊎ (stat ≡ status.NoMemory)) → is_fault stat ≡ false → stat ≡ status.Ok
ok_of stat o e =
    elim o [
      | inl a ↦ a
      | inr b ↦ elim b [ inl a ↦ (let t : true ≡ false = ap is_fault (sym a) ∙ e in absurd cc) | inr a ↦ (let t : true ≡ false = ap is_fault (sym a) ∙ e in absurd cc) ]
    ]

-- and neither Usage nor a read fault is one
pub no_usage : (stat : Status) → (stat ≡ status.Ok) ⊎ ((stat ≡ status.WriteFault) ⊎ (stat ≡ status.NoMemory)) → stat ≡ status.Usage → ⊥
no_usage stat o e = elim o [ inl a ↦ cc | inr b ↦ elim b [ inl a ↦ cc | inr a ↦ cc ] ]

pub no_read : (stat : Status) → (stat ≡ status.Ok) ⊎ ((stat ≡ status.WriteFault) ⊎ (stat ≡ status.NoMemory)) → stat ≡ status.ReadFault → ⊥
no_read stat o e = elim o [ inl a ↦ cc | inr b ↦ elim b [ inl a ↦ cc | inr a ↦ cc ] ]
