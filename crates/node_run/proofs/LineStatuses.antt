-- From what a loop over lines did to what a command did, by the status.
use Rattle.std.proofs.Common.{◌≡◌, ◌∙◌, ◌⊎◌, inl, inr, ℕ, List, [], Option, Some, None, Result, refl, sym, ap, subst, arith}
use Rattle.dsdl_types.specs.Schemas.{Sch}
use Rattle.line_loop.specs.Gone.{HasGone}
use Rattle.line_loop.specs.Reply.{Voice, line_voice, HasOneAnswer}
use Rattle.line_loop.specs.declared.bounds.LineBounds.{LineBounds}
use Rattle.line_loop.specs.declared.ended.LinesEnded.{LinesEnded}
use Rattle.line_loop.specs.declared.ended.LinesEnded.TheVariants as end
use Rattle.line_loop.proofs.Inputs.{took_none}
use Rattle.line_loop.proofs.Replies.{one_by_number, one_reply}
use Rattle.log_loop.proofs.Streams.{no_front}
use Rattle.value_lines.specs.declared.refusal.Refusal.{Refusal}
use Rattle.value_lines.specs.declared.refusal.Refusal.TheVariants as refusal
use Rattle.node_run.specs.ValueLines.{Answering, bounds, values_voice, lines_status, Flow, flow, AnsweredUntil, AreTaken, AreStreamed, HasAnsweredLines, EndsIn, Ends}
use Rattle.node_run.specs.declared.status.Status.{Status}
use Rattle.node_run.specs.declared.status.Status.TheVariants as status

module _ (answers : Answering) (message : Option Sch) (name : List ℕ) where
  -- how the loop ended, as a status
  by_end : (ended : LinesEnded Refusal) (told : Flow) → AnsweredUntil answers message ended told → HasAnsweredLines answers message name (lines_status ended) told
  by_end end.Ok told a = a
  by_end (end.Refused (refusal.Text line)) told a = a
  by_end (end.Refused (refusal.Unreadable line path why)) told a = a
  by_end end.TooLong told a = a
  by_end end.ReadFault told a = a
  by_end end.WriteFault told a = a
  by_end end.NoMemory told a = inr a

  pub has_answered : (schema : Sch) → message ≡ Some schema → (most : LineBounds) → most ≡ bounds → (ended : LinesEnded Refusal) (stat : Status) → stat ≡ lines_status ended → (told : Flow)
      → HasGone (line_voice (answers schema) (λ n. refusal.Text n) most) told.left told.new ended told.before told.after → HasAnsweredLines answers message name stat told
  has_answered schema is most same ended stat e told gone =
      let within = subst (λ (b : LineBounds). HasGone (line_voice (answers schema) (λ n. refusal.Text n) b) told.left told.new ended told.before told.after) same gone in
      subst (λ (s : Status). HasAnsweredLines answers message name s told) (sym e) (by_end ended told (record { schema = schema; is = is; gone = within }))

  pub are_taken : (stat : Status) (told : Flow) → HasAnsweredLines answers message name stat told → stat ≡ status.ReadFault → AreTaken answers message told
  are_taken stat told h e = subst (λ (s : Status). HasAnsweredLines answers message name s told) e h

  module _ (left before : Option (List ℕ)) where
    -- nothing was done
    pub streamed_still : AreStreamed answers message (flow left left before before)
    streamed_still schema e =
        let none = took_none left in record {
          taken = [];
          rest = none.0;
          told = none.1;
          written = λ front more parts long. absurd (no_front front more parts (omega arith));
        }

    pub answered_still : (stat : Status) → (stat ≡ status.NoMemory) ⊎ ((stat ≡ status.NoFile name) × (message ≡ None)) → HasAnsweredLines answers message name stat (flow left left before before)
    answered_still stat (inl e) =
        subst (λ (s : Status). HasAnsweredLines answers message name s (flow left left before before)) (sym e) (inl (record { left = refl; written = refl }))
    answered_still stat (inr (e, none)) =
        subst (λ (s : Status). HasAnsweredLines answers message name s (flow left left before before)) (sym e) (refl, none, record { left = refl; written = refl })

-- where each line has one answer, the lines of an input come to one status
one_end : (v : Voice Refusal) → HasOneAnswer v → (bytes : List ℕ) (a b : Status) → EndsIn v bytes a → EndsIn v bytes b → a ≡ b
one_end v one bytes a b x y =
    x.is ∙ (ap lines_status (one_reply v one bytes x.text y.text x.ended y.ended x.reply y.reply).1 ∙ sym y.is)

pub one_status : (answers : Answering) (message : Option Sch) → ((s : Sch) → message ≡ Some s → (n : ℕ) (line : List ℕ) (a b : Result (List ℕ) Refusal) → answers s n line a → answers s n line b → a ≡ b) → (name bytes : List ℕ) (a b : Status)
    → Ends answers message name (Some bytes) a → Ends answers message name (Some bytes) b → a ≡ b
one_status answers None one name bytes a b x y = x ∙ sym y
one_status answers (Some s) one name bytes a b x y =
    one_end (values_voice answers s) (one_by_number (answers s) (λ n. refusal.Text n) bounds (one s refl)) bytes a b x y
