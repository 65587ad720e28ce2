-- What is written of a generated log.
use Rattle.std.specs.Prelude.{◌≡◌, ℕ, true, List, [], ◌∷◌, Option, None, codes, decimal}
use Rattle.cy_outside.specs.Written.{behind, Begins}
use Rattle.line_text.specs.Text.{line_of}
use Rattle.dsdl_types.specs.declared.namespace.Namespace.{Namespace}
use Rattle.log_gen.specs.Rules.{plan_text, transfers}
use Rattle.log_gen.specs.Laws.{records_by}
use Rattle.node_plan.specs.Info.{blank_info}
use Rattle.node_plan.specs.Plan.{Good, IsPlanOf}
use Rattle.node_plan.specs.declared.plan.BusPlan.{BusPlan}
use Rattle.node_plan.specs.declared.plan.Plan.{Plan}
use Rattle.node_plan.specs.declared.plan.SubShape.TheVariants.{Raw}
use Rattle.report_lines.specs.declared.numbers.Numbers.{Numbers}
use Rattle.node_core.specs.Steps.{steps, numbers, without_files}
use Rattle.node_run.specs.declared.status.Status.{Status}
use Rattle.node_run.specs.declared.status.Status.TheVariants as status

abbrev pub generated_bus : List ℕ → BusPlan
generated_bus name = record { name = name; mtu = 8; rate = 4096 }

-- the plan of every generated log
abbrev pub generated_plan : Plan
generated_plan = record {
  node = 10;
  buses =
      generated_bus (codes "can0") ∷ generated_bus (codes "can1")
      ∷ generated_bus (codes "can2") ∷ [];
  timeout = 2000000;
  silent = true;
  subs = record { port = 100; sources = 4; shape = Raw 64 } ∷ [];
  registers = [];
  serve = None;
  clients = 4;
  status = record { health = 0; mode = 0; code = 0 };
  info = blank_info;
  queue = 64;
}

-- it is the plan of the text that `log_gen` writes, whatever types there are
abbrev pub GeneratedPlanIsRead : Type 0
GeneratedPlanIsRead = (names : Namespace) → IsPlanOf names plan_text (Good generated_plan)

-- the numbers of a report on the log of a number
abbrev pub generated_numbers : ℕ → Numbers
generated_numbers number = numbers generated_plan (steps generated_plan (without_files (records_by number)))

-- the line with these numbers
abbrev pub summary_line : ℕ → Numbers → List ℕ
summary_line number n = line_of (
    codes "gen" ∷ decimal number ∷ codes "transfers" ∷ decimal transfers
    ∷ codes "delivered" ∷ decimal n.delivered ∷ codes "badcrc" ∷ decimal n.badcrc
    ∷ codes "nosession" ∷ decimal n.nosession ∷ codes "held" ∷ decimal n.held
    ∷ codes "bound" ∷ decimal n.bound ∷ []
    )

-- what is written of a number
abbrev pub generated_text : ℕ → List ℕ
generated_text number = summary_line number (generated_numbers number)

-- what is written of it, by the status
abbrev pub HasGenerated : ℕ → Status → Option (List ℕ) → Option (List ℕ) → Type 0
HasGenerated number status.Ok before after = after ≡ behind before (generated_text number)
HasGenerated number status.WriteFault before after = Begins (generated_text number) before after
HasGenerated number status.NoMemory before after = after ≡ before
HasGenerated number other before after = ⊥
