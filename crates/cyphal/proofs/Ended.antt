-- Where neither the input nor the output failed.
use Rattle.std.proofs.Common.{◌≡◌, inl, inr, Bool, false, true, refl}
use Rattle.cyphal.specs.ErrorLine.{code_of}
use Rattle.cy_outside.specs.Outside.{Rose}
use Rattle.node_run.specs.declared.status.Status.{Status}
use Rattle.node_run.specs.declared.status.Status.TheVariants as status
use Rattle.cyphal.specs.Cause.{Outside, EndsAsDue, HasCauseOver, is_refusal, is_refused}
use Rattle.cyphal.specs.Job.{is_fault}

module _ {L : Type 0} (due : Status) (old new : Outside L) (takes serves : Bool) where
  -- the call ended as it was to end, or memory was wanting, or the tree failed before any of the input was taken
  pub completed : (stat : Status) → (is_fault stat ≡ false → stat ≡ due) → HasCauseOver takes serves stat old new
      → ¬ Rose old.input new.input → ¬ Rose old.out new.out → EndsAsDue due stat old new
  completed status.Ok e c x y = inl (e refl)
  completed status.Usage e c x y = inl (e refl)
  completed (status.Dsdl file n why) e c x y = inl (e refl)
  completed (status.Plan n why) e c x y = inl (e refl)
  completed (status.Log n why) e c x y = inl (e refl)
  completed (status.Text line) e c x y = inl (e refl)
  completed (status.Unreadable line path why) e c x y = inl (e refl)
  completed (status.NotNewer path why) e c x y = inl (e refl)
  completed status.LogLong e c x y = inl (e refl)
  completed (status.NoFile path) e c x y = inl (e refl)
  completed status.ReadFault e c x y =
      elim (c.read refl) [ inl f ↦ inr (inr (record { read_fault = refl; rose = f.0; source = f.1 })) | inr f ↦ absurd (x f) ]
  completed status.WriteFault e c x y = absurd (y (c.write refl))
  completed status.NoMemory e c x y = inr (inl refl)

-- the number 0 is that of Ok alone
pub is_ok : (stat : Status) → code_of stat ≡ 0 → stat ≡ status.Ok
is_ok status.Ok e = refl
is_ok status.Usage e = absurd cc
is_ok (status.Dsdl file n why) e = absurd cc
is_ok (status.Plan n why) e = absurd cc
is_ok (status.Log n why) e = absurd cc
is_ok (status.Text line) e = absurd cc
is_ok (status.Unreadable line path why) e = absurd cc
is_ok (status.NotNewer path why) e = absurd cc
is_ok status.LogLong e = absurd cc
is_ok (status.NoFile path) e = absurd cc
is_ok status.ReadFault e = absurd cc
is_ok status.WriteFault e = absurd cc
is_ok status.NoMemory e = absurd cc

-- the number 8 is that of a read fault alone
pub is_read_fault : (stat : Status) → code_of stat ≡ 8 → stat ≡ status.ReadFault
is_read_fault status.ReadFault e = refl
is_read_fault status.Ok e = absurd cc
is_read_fault status.Usage e = absurd cc
is_read_fault (status.Dsdl file n why) e = absurd cc
is_read_fault (status.Plan n why) e = absurd cc
is_read_fault (status.Log n why) e = absurd cc
is_read_fault (status.Text line) e = absurd cc
is_read_fault (status.Unreadable line path why) e = absurd cc
is_read_fault (status.NotNewer path why) e = absurd cc
is_read_fault status.LogLong e = absurd cc
is_read_fault (status.NoFile path) e = absurd cc
is_read_fault status.WriteFault e = absurd cc
is_read_fault status.NoMemory e = absurd cc

-- a status whose number is that of a refusal is one
pub is_refused_by : (stat : Status) → is_refusal (code_of stat) ≡ true → is_refused stat ≡ true
is_refused_by status.Usage e = refl
is_refused_by (status.Dsdl file n why) e = refl
is_refused_by (status.Plan n why) e = refl
is_refused_by (status.NotNewer path why) e = refl
is_refused_by (status.NoFile path) e = refl
is_refused_by status.Ok e = absurd cc
is_refused_by (status.Log n why) e = absurd cc
is_refused_by (status.Text line) e = absurd cc
is_refused_by (status.Unreadable line path why) e = absurd cc
is_refused_by status.LogLong e = absurd cc
is_refused_by status.ReadFault e = absurd cc
is_refused_by status.WriteFault e = absurd cc
is_refused_by status.NoMemory e = absurd cc
