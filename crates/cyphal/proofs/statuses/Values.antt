-- The status of lines of values.
use Rattle.std.proofs.Common.{◌≡◌, ◌∙◌, ℕ, true, false, List, ◌++◌, Option, Some, None, IfSome, refl, sym, ap, subst, append-nil}
use Rattle.dsdl_types.specs.Schemas.{Sch}
use Rattle.line_loop.specs.Gone.{HasGone, Said}
use Rattle.line_loop.specs.Input.{IsTaken}
use Rattle.line_loop.specs.Reply.{IsReply}
use Rattle.line_loop.specs.declared.ended.LinesEnded.{LinesEnded}
use Rattle.line_loop.specs.declared.ended.LinesEnded.TheVariants as end
use Rattle.value_lines.specs.declared.refusal.Refusal.{Refusal}
use Rattle.value_lines.specs.declared.refusal.Refusal.TheVariants as refusal
use Rattle.node_run.specs.ValueLines.{Answering, values_voice, lines_status, Flow, AnsweredUntil, HasAnsweredLines, EndsIn, Ends}
use Rattle.node_run.specs.declared.status.Status.{Status}
use Rattle.node_run.specs.declared.status.Status.TheVariants as status
use Rattle.cyphal.specs.Cause.{is_refused}
use Rattle.cyphal.specs.Job.{is_fault}

-- the ends of a loop that came to the end of what counts of its input
abbrev IsWhole : LinesEnded Refusal → Type 0
IsWhole end.Ok = Unit {0}
IsWhole (end.Refused r) = Unit {0}
IsWhole end.TooLong = Unit {0}
IsWhole other = ⊥

-- what holds of the bytes that are told
over : (told : Option (List ℕ)) (P : List ℕ → Type 0) → ((bytes : List ℕ) → told ≡ Some bytes → P bytes) → IfSome told P
over None P h = tt
over (Some bytes) P h = h bytes refl

module _ (answers : Answering) (schema : Sch) (told : Flow) (bytes : List ℕ) (is : told.left ≡ Some bytes) where
  -- the bytes that were taken, and those behind them, are those of the input
  all_told : (taken rest : List ℕ) → IsTaken told.left told.new taken rest → bytes ≡ taken ++ rest
  all_told taken rest t = (subst (λ (o : Option (List ℕ)). IsTaken o told.new taken rest) is t).0

  replied : (all : List ℕ) (ended : LinesEnded Refusal) → bytes ≡ all → Said (values_voice answers schema) all ended told.before told.after → EndsIn (values_voice answers schema) bytes (lines_status ended)
  replied all ended e said = record {
    text = said.text;
    ended = ended;
    reply = subst (λ (b : List ℕ). IsReply (values_voice answers schema) b said.text ended) (sym e) said.reply;
    is = refl;
  }

  ends_in : (ended : LinesEnded Refusal) → IsWhole ended → HasGone (values_voice answers schema) told.left told.new ended told.before told.after → EndsIn (values_voice answers schema) bytes (lines_status ended)
  ends_in end.Ok w g =
      let none : g.taken ++ g.rest ≡ g.taken = ap (λ (t : List ℕ). g.taken ++ t) g.gone.0 ∙ append-nil g.taken in
      replied g.taken end.Ok (all_told g.taken g.rest g.told ∙ none) g.gone.1
  ends_in (end.Refused r) w g = replied (g.taken ++ g.rest) (end.Refused r) (all_told g.taken g.rest g.told) g.gone
  ends_in end.TooLong w g = replied (g.taken ++ g.rest) end.TooLong (all_told g.taken g.rest g.told) g.gone
  ends_in end.ReadFault w g = absurd w
  ends_in end.WriteFault w g = absurd w
  ends_in end.NoMemory w g = absurd w

module _ (answers : Answering) (message : Option Sch) (name : List ℕ) (told : Flow) where
  ends_so : (ended : LinesEnded Refusal) → IsWhole ended → AnsweredUntil answers message ended told → Ends answers message name told.left (lines_status ended)
  ends_so ended w a =
      subst (λ (m : Option Sch). Ends answers m name told.left (lines_status ended)) (sym a.is)
      (over told.left (λ bytes. EndsIn (values_voice answers a.schema) bytes (lines_status ended)) (λ bytes e. ends_in answers a.schema told bytes e ended w a.gone))

  -- a status that is no fault is the one that is asked for
  pub answered_ends : (stat : Status) → is_fault stat ≡ false → HasAnsweredLines answers message name stat told → Ends answers message name told.left stat
  answered_ends status.Ok f a = ends_so end.Ok tt a
  answered_ends status.Usage f a = absurd a
  answered_ends (status.Dsdl file line why) f a = absurd a
  answered_ends (status.Plan line why) f a = absurd a
  answered_ends (status.Log line why) f a = absurd a
  answered_ends (status.Text line) f a = ends_so (end.Refused (refusal.Text line)) tt a
  answered_ends (status.Unreadable line path why) f a = ends_so (end.Refused (refusal.Unreadable line path why)) tt a
  answered_ends (status.NotNewer path why) f a = absurd a
  answered_ends status.LogLong f a = ends_so end.TooLong tt a
  answered_ends (status.NoFile path) f a =
      subst (λ (m : Option Sch). Ends answers m name told.left (status.NoFile path)) (sym a.1) (ap (λ p. status.NoFile p) a.0)
  answered_ends status.ReadFault f a = absurd cc
  answered_ends status.WriteFault f a = absurd cc
  answered_ends status.NoMemory f a = absurd cc

  -- what is refused before the input is taken is a name that stands for no message
  pub refused_none : (stat : Status) → is_refused stat ≡ true → HasAnsweredLines answers message name stat told → message ≡ None
  refused_none status.Ok f a = absurd cc
  refused_none status.Usage f a = absurd a
  refused_none (status.Dsdl file line why) f a = absurd a
  refused_none (status.Plan line why) f a = absurd a
  refused_none (status.Log line why) f a = absurd a
  refused_none (status.Text line) f a = absurd cc
  refused_none (status.Unreadable line path why) f a = absurd cc
  refused_none (status.NotNewer path why) f a = absurd a
  refused_none status.LogLong f a = absurd cc
  refused_none (status.NoFile path) f a = a.1
  refused_none status.ReadFault f a = absurd cc
  refused_none status.WriteFault f a = absurd cc
  refused_none status.NoMemory f a = absurd cc

  pub no_usage : (stat : Status) → HasAnsweredLines answers message name stat told → stat ≡ status.Usage → ⊥
  no_usage stat a e = subst (λ (s : Status). HasAnsweredLines answers message name s told) e a
