-- The status of a log that is brought into order is that of its lines.
use Rattle.std.proofs.Common.{◌≡◌, ◌∙◌, ◌++◌, ℕ, true, false, List, Option, Some, None, is_some, refl, sym, ap, subst, append-nil}
use Rattle.line_loop.specs.Gone.{HasGone, Said}
use Rattle.line_loop.specs.Reply.{IsReply}
use Rattle.line_loop.specs.declared.ended.LinesEnded.{LinesEnded}
use Rattle.line_loop.specs.declared.ended.LinesEnded.TheVariants as lines
use Rattle.line_loop.proofs.Replies.{one_reply}
use Rattle.line_order.specs.Answers.{order_voice}
use Rattle.line_order.specs.declared.refusal.Refusal.{Refusal}
use Rattle.line_order.proofs.LawLemmas.{one_answer}
use Rattle.node_run.specs.Ran.{status_of}
use Rattle.node_run.specs.declared.status.Status.{Status}
use Rattle.cyphal.specs.Job.{is_fault}
use Rattle.cyphal.specs.jobs.Order.{EndsAsLines, EndsIn, log_end}

module _ (window : ℕ) where
  -- the bytes that were taken, and those behind them, are those of the input
  replied : (bytes all : List ℕ) (how : LinesEnded Refusal) (before after : Option (List ℕ)) → bytes ≡ all → Said (order_voice window) all how before after → EndsIn window bytes (status_of (log_end how))
  replied bytes all how before after e said = record {
    text = said.text;
    how = how;
    reply = subst (λ (b : List ℕ). IsReply (order_voice window) b said.text how) (sym e) said.reply;
    is = refl;
  }

  ends_in : (bytes : List ℕ) (left before after : Option (List ℕ)) (how : LinesEnded Refusal) → is_fault (status_of (log_end how)) ≡ false
      → HasGone (order_voice window) (Some bytes) left how before after → EndsIn window bytes (status_of (log_end how))
  ends_in bytes left before after lines.Ok h g =
      let none : g.taken ++ g.rest ≡ g.taken = ap (λ (t : List ℕ). g.taken ++ t) g.gone.0 ∙ append-nil g.taken in
      replied bytes g.taken lines.Ok before after (g.told.0 ∙ none) g.gone.1
  ends_in bytes left before after (lines.Refused r) h g = replied bytes (g.taken ++ g.rest) (lines.Refused r) before after g.told.0 g.gone
  ends_in bytes left before after lines.TooLong h g = replied bytes (g.taken ++ g.rest) lines.TooLong before after g.told.0 g.gone
  ends_in bytes left before after lines.ReadFault h g = absurd cc
  ends_in bytes left before after lines.WriteFault h g = absurd cc
  ends_in bytes left before after lines.NoMemory h g = absurd cc

  -- an end that is no fault is that of the lines, where they are told
  pub ends_as_lines : (input left before after : Option (List ℕ)) (how : LinesEnded Refusal) (stat : Status) → stat ≡ status_of (log_end how) → is_fault stat ≡ false
      → HasGone (order_voice window) input left how before after → EndsAsLines window input stat
  ends_as_lines None left before after how stat e h g = tt
  ends_as_lines (Some bytes) left before after how stat e h g =
      subst (λ s. EndsIn window bytes s) (sym e) (ends_in bytes left before after how (sym (ap is_fault e) ∙ h) g)

  -- there is one
  pub one_order : (input : Option (List ℕ)) → is_some input ≡ true → (s t : Status) → EndsAsLines window input s → EndsAsLines window input t → s ≡ t
  one_order None h s t a b = absurd cc
  one_order (Some bytes) h s t a b =
      let one = one_reply (order_voice window) (one_answer window) bytes a.text b.text a.how b.how a.reply b.reply in
      a.is ∙ (ap (λ how. status_of (log_end how)) one.1 ∙ sym b.is)
