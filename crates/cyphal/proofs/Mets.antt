-- What a tree may tell in a log.
use Rattle.std.proofs.Common.{◌≡◌, ℕ, zero, suc, Bool, true, false, List, [], ◌∷◌, ◌++◌, Option, refl, ap, if◌then◌else◌}
use Rattle.cy_outside.specs.Files.{Files}
use Rattle.tail_frame.specs.declared.logged.Record.{Record}
use Rattle.node_plan.specs.declared.plan.Plan.{Plan}
use Rattle.node_core.specs.Laws.{SomethingServed}
use Rattle.node_core.specs.Steps.{AreServed, Met, Step, first_of, met, met_records, steps, ticks_before, ticks_done, ticks_from, ticks_upto}

module _ (told : Option Files) (plan : Plan) where
  -- ticks ask nothing
  ticks_served : (first number n : ℕ) (older : List Step) → AreServed told plan older → AreServed told plan (ticks_from first number n ++ older)
  ticks_served first number zero older s = s
  ticks_served first number (suc n) older s = (tt, ticks_served first number n older s)

  before_served : (rec : Record) (past : List Record) (older : List Step) → AreServed told plan older → AreServed told plan (ticks_before plan rec past ++ older)
  before_served rec past older s = either plan.silent
    where
      either : (silent : Bool) → AreServed told plan ((if silent then [] else ticks_upto (first_of rec past) (ticks_done past) rec.moment) ++ older)
      either true = s
      either false = ticks_served _ _ _ older s

  -- whatever the records of a log, there is something that the tree may tell for each
  pub record MetAll (past : List Record) : Type 0 where
    pub mets : List Met
    pub records_are : met_records mets ≡ past
    pub served : AreServed told plan (steps plan mets)

  pub met_all : SomethingServed → (past : List Record) → MetAll past
  met_all law [] = record { mets = []; records_are = refl; served = tt }
  met_all law (rec ∷ past) =
      let m = met_all law past in
      let f = law told plan rec (ticks_before plan rec (met_records m.mets) ++ steps plan m.mets) in
      record {
        mets = met rec f.0 ∷ m.mets;
        records_are = ap (λ t. rec ∷ t) m.records_are;
        served = (f.1, before_served rec (met_records m.mets) (steps plan m.mets) m.served);
      }
