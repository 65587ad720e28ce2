-- From what was taken to what is promised of it.
use Rattle.std.proofs.Common.{◌≡◌, ◌⊎◌, inl, inr, ℕ, List, Option, Some, sym, subst}
use Rattle.dsdl_resolve.specs.Laws.{HaveOneAnswer}
use Rattle.node_plan.specs.Laws.{OnePlan}
use Rattle.node_plan.specs.declared.plan.Plan.{Plan}
use Rattle.node_run.specs.Streamed.{IsStreamed}
use Rattle.node_run.specs.ValueLines.{flow}
use Rattle.node_run.specs.declared.status.Status.TheVariants as status
use Rattle.node_run.proofs.Streams.{streamed_none}
use Rattle.cyphal.specs.Cause.{Outside}
use Rattle.cyphal.specs.Job.{Told, Outcome, flow_of, NotDone}
use Rattle.cyphal.specs.Expected.{WasDone}
use Rattle.cyphal.specs.Headline.{Asked, logged_in}
use Rattle.cyphal.specs.Laws.{HeadlineLaws}
use Rattle.cyphal.specs.Streaming.{OverMet, TakenOf, StreamedOf}
use Rattle.cyphal.proofs.Headlines.{RunOver, did_over, run_done}
use Rattle.cyphal.proofs.Mets.{met_all}

module _ {L : Type 0} (one : HaveOneAnswer × OnePlan) (words : List (List ℕ)) (told : Told) (came : Outcome) (old new : Outside L) where
  pub taken_of : WasDone words told came old new → came.status ≡ status.ReadFault → NotDone told came old new ⊎ TakenOf words told came
  taken_of (inl n) e = inl n
  taken_of (inr d) e = inr (λ plan bytes a.
      (let r = did_over one words told came plan bytes a d in record { mets = r.mets; are = r.are; is = record { calls = r.calls; loaded = r.loaded; is = r.taken e } }))

  -- a call that did nothing took nothing
  still : HeadlineLaws → (plan : Plan) (bytes : List ℕ) (a : Asked words told plan bytes) → NotDone told came old new
      → OverMet plan a.tree bytes (λ mets. IsStreamed a.form plan mets (flow_of told came) came.status came.reported)
  still law plan bytes a n =
      let m = met_all (Some a.tree) plan law.served (logged_in plan bytes) in record {
        mets = m.mets;
        are = record { of_log = m.records_are; served = m.served };
        is =
            subst (λ (o : Option (List ℕ)). IsStreamed a.form plan m.mets (flow told.input o told.written came.written) came.status came.reported) (sym n.left)
            (subst (λ (o : Option (List ℕ)). IsStreamed a.form plan m.mets (flow told.input told.input told.written o) came.status came.reported) (sym n.written)
            (streamed_none a.form plan m.mets told.input told.written came.status came.reported));
      }

  pub streamed_of : HeadlineLaws → WasDone words told came old new → StreamedOf words told came
  streamed_of law w plan bytes a = by_run (run_done one words told came plan bytes a old new w)
    where
      by_run : NotDone told came old new ⊎ RunOver a.form a.root a.path plan a.tree bytes told came → OverMet plan a.tree bytes (λ mets. IsStreamed a.form plan mets (flow_of told came) came.status came.reported)
      by_run (inl n) = still law plan bytes a n
      by_run (inr r) = record { mets = r.mets; are = r.are; is = r.streamed }
