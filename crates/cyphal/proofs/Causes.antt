-- Why a command ended before its work: what it called the tree for was refused, or failed.
use Rattle.std.proofs.Common.{◌≡◌, ◌≢◌, ◌∙◌, ◌⊎◌, inl, inr, ℕ, Bool, true, false, List, Option, Err, refl, sym, ap, subst}
use Rattle.cy_outside.specs.Files.{Files}
use Rattle.cy_outside.specs.Outside.{Rose}
use Rattle.node_run.specs.Loaded.{HasLoadCause, IsNotLoaded}
use Rattle.node_run.specs.declared.status.Status.{Status}
use Rattle.node_run.specs.declared.status.Status.TheVariants as status
use Rattle.cyphal.specs.Cause.{counts, is_refused, outside, HasCause, HasCauseOver}
use Rattle.cyphal.specs.Job.{is_settled, printed, TookNothing}

-- what is refused is no read fault
pub refused_apart : (stat : Status) → is_refused stat ≡ true → stat ≢ status.ReadFault
refused_apart stat refused e = let bad : true ≡ false = sym refused ∙ ap is_refused e in cc

-- a root that has no namespace is neither of these
pub no_usage : (root : List ℕ) (told : Option Files) (stat : Status) → IsNotLoaded root told stat → stat ≢ status.Usage
no_usage root told stat n e = subst (λ (s : Status). IsNotLoaded root told s) e n

pub no_write : (root : List ℕ) (told : Option Files) (stat : Status) → IsNotLoaded root told stat → stat ≢ status.WriteFault
no_write root told stat n e = subst (λ (s : Status). IsNotLoaded root told s) e n

-- nor is one of its statuses that of a command that came to its end
pub not_settled : (root : List ℕ) (told : Option Files) (stat : Status) → IsNotLoaded root told stat → is_settled stat ≡ false
not_settled root told (status.NoFile path) n = refl
not_settled root told (status.Dsdl path line why) n = refl
not_settled root told status.ReadFault n = refl
not_settled root told status.NoMemory n = refl
not_settled root told other n = absurd n

-- nor is a path that has no file a read fault
pub no_file_apart : (path : List ℕ) (stat : Status) → (stat ≡ status.NoFile path) ⊎ (stat ≡ status.NoMemory) → stat ≢ status.ReadFault
no_file_apart path stat (inl e) fault = cc
no_file_apart path stat (inr e) fault = cc

-- the cause of a status is one, whatever was asked for
pub same_cause : (A B : Type 0) (old new : ℕ) (stat : Status) → HasLoadCause {T = A} old new (Err stat) → HasLoadCause {T = B} old new (Err stat)
same_cause A B old new status.ReadFault c = c
same_cause A B old new other c = c

-- where the tree's count stayed, a status that is no read fault is well caused
pub kept_cause : (T : Type 0) (old new : ℕ) (stat : Status) → new ≡ old → stat ≢ status.ReadFault → HasLoadCause {T = T} old new (Err stat)
kept_cause T old new status.ReadFault kept apart = absurd (apart refl)
kept_cause T old new other kept apart = kept

module _ (T : Type 0) (old new : ℕ) (stat : Status) (cause : HasLoadCause {T = T} old new (Err stat)) where
  -- its count rose at a read fault
  fault_rose : stat ≡ status.ReadFault → Rose old new
  fault_rose e = subst (λ (s : Status). HasLoadCause {T = T} old new (Err s)) e cause

  -- and stayed at any other status
  others_keep : stat ≢ status.ReadFault → new ≡ old
  others_keep apart = by_status stat cause apart
    where
      by_status : (s : Status) → HasLoadCause {T = T} old new (Err s) → s ≢ status.ReadFault → new ≡ old
      by_status status.ReadFault c apart = absurd (apart refl)
      by_status other c apart = c

  -- so is the cause of a command that ends with it, and is given no input
  pub ends_so : (out : ℕ) → stat ≢ status.Usage → stat ≢ status.WriteFault → HasCause stat (counts old out) (counts new out)
  ends_so out usage write = record {
    usage = usage;
    read = fault_rose;
    write = λ e. absurd (write e);
    unwritten = λ _. refl;
    kept = others_keep;
  }

  module _ {L : Type 0} (input out : ℕ) (source : L) (write : stat ≢ status.WriteFault) where
    -- and of any other
    pub ends_so_over : (takes serves : Bool) → HasCauseOver takes serves stat (outside old input out source) (outside new input out source)
    ends_so_over takes serves = record {
      read = λ e. inl (fault_rose e, refl);
      untaken = λ _. refl;
      refused = λ _. refl;
      early = λ e. others_keep (refused_apart stat e);
      write = λ e. absurd (write e);
      unread = λ _. refl;
      unwritten = λ _. refl;
      unserved = λ _. others_keep;
    }

    -- it took nothing
    pub took_nothing : (written : Option (List ℕ)) → is_settled stat ≡ false → TookNothing (printed stat written written) (outside old input out source) (outside new input out source)
    took_nothing written early = record {
      nothing = record { written = refl; not_settled = early; not_write = write };
      source = refl;
      tree = fault_rose;
      kept = others_keep;
    }
