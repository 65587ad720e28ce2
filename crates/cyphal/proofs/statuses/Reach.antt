-- The status of a command that hears a log without a plan is that of the log's end.
use Rattle.std.proofs.Common.{◌≡◌, ◌≢◌, ◌∙◌, inr, ℕ, true, false, List, Option, Some, None, refl, sym, ap}
use Rattle.cy_outside.specs.Outside.{Rose}
use Rattle.frame_log.specs.Log.{log_of}
use Rattle.frame_log.specs.declared.error.LogError.{LogError}
use Rattle.tail_frame.specs.declared.logged.Record.{Record}
use Rattle.log_loop.specs.Gone.{Gone, any_stages}
use Rattle.log_loop.specs.Listened.{HasListened as Listened}
use Rattle.log_loop.specs.Voice.{Voice}
use Rattle.log_loop.specs.declared.ended.Ended.{Ended}
use Rattle.log_loop.specs.declared.ended.Ended.TheVariants as end
use Rattle.node_run.specs.Ran.{status_of}
use Rattle.node_run.specs.declared.status.Status.{Status}
use Rattle.node_run.specs.declared.status.Status.TheVariants as status
use Rattle.cyphal.specs.Cause.{Outside, is_refused, HasCauseOver}
use Rattle.cyphal.specs.Job.{is_fault}
use Rattle.cyphal.specs.LogEnds.{ending, EndsAsLog}
use Rattle.cyphal.proofs.LogEnds.{named}

module _ (names : List (List ℕ)) (said : Voice Record) where
  -- an end that is no fault is that of the log
  ended_so : (events : List Record) (refusal : Option LogError) (how : Ended) (before after : Option (List ℕ)) → is_fault (status_of how) ≡ false
      → Gone said (any_stages Record) events refusal how before after → status_of how ≡ ending refusal
  ended_so events refusal end.Ok before after h g = ap ending (sym g.0)
  ended_so events refusal (end.Log line w) before after h g = sym (ap ending g.0 ∙ named line w)
  ended_so events refusal end.LogLong before after h g = ap ending (sym g.0)
  ended_so events refusal end.ReadFault before after h g = absurd cc
  ended_so events refusal end.WriteFault before after h g = absurd cc
  ended_so events refusal end.NoMemory before after h g = absurd cc

  -- of the log that the input has, where it is told
  pub ends_as_log : (input left : Option (List ℕ)) (how : Ended) (before after : Option (List ℕ)) (stat : Status) → stat ≡ status_of how → is_fault stat ≡ false
      → Listened names said (any_stages Record) input left how before after → EndsAsLog names input stat
  ends_as_log None left how before after stat e h g = tt
  ends_as_log (Some bytes) left how before after stat e h g =
      e
      ∙ (ended_so g.events (log_of names g.bytes).refusal how before after (sym (ap is_fault e) ∙ h) g.gone
      ∙ ap (λ (b : List ℕ). ending (log_of names b).refusal) g.is)

-- no end of a log is a refusal before it
no_refusal : (ended : Ended) → is_refused (status_of ended) ≡ true → ⊥
no_refusal end.Ok e = absurd cc
no_refusal (end.Log line w) e = absurd cc
no_refusal end.LogLong e = absurd cc
no_refusal end.ReadFault e = absurd cc
no_refusal end.WriteFault e = absurd cc
no_refusal end.NoMemory e = absurd cc

-- each status is that of one end
read_end : (ended : Ended) → status_of ended ≡ status.ReadFault → ended ≡ end.ReadFault
read_end end.Ok e = absurd cc
read_end (end.Log line w) e = absurd cc
read_end end.LogLong e = absurd cc
read_end end.ReadFault e = refl
read_end end.WriteFault e = absurd cc
read_end end.NoMemory e = absurd cc

write_end : (ended : Ended) → status_of ended ≡ status.WriteFault → ended ≡ end.WriteFault
write_end end.Ok e = absurd cc
write_end (end.Log line w) e = absurd cc
write_end end.LogLong e = absurd cc
write_end end.ReadFault e = absurd cc
write_end end.WriteFault e = refl
write_end end.NoMemory e = absurd cc

pub no_usage : (ended : Ended) (stat : Status) → stat ≡ status_of ended → stat ≡ status.Usage → ⊥
no_usage ended stat e u = no_refusal ended (sym (ap is_refused e) ∙ ap is_refused u)

-- the cause of a command that is given no tree
pub cause_of : {L : Type 0} (ended : Ended) (stat : Status) → stat ≡ status_of ended → (old new : Outside L) → new.tree ≡ old.tree → (ended ≡ end.ReadFault → Rose old.input new.input)
    → (ended ≡ end.WriteFault → Rose old.out new.out) → (ended ≢ end.ReadFault → new.input ≡ old.input) → (ended ≢ end.WriteFault → new.out ≡ old.out) → HasCauseOver true false stat old new
cause_of ended stat e old new tree read write unread unwritten = record {
  read = λ s. inr (read (read_end ended (sym e ∙ s)));
  untaken = λ s. absurd cc;
  refused = λ s. absurd (no_refusal ended (sym (ap is_refused e) ∙ s));
  early = λ _. tree;
  write = λ s. write (write_end ended (sym e ∙ s));
  unread = λ s. unread (λ f. s (e ∙ ap status_of f));
  unwritten = λ s. unwritten (λ f. s (e ∙ ap status_of f));
  unserved = λ _ s. tree;
}
