-- `gen NUMBER`: the run of the log that is made of a number.
use Rattle.std.specs.Prelude.{◌≡◌, ℕ, true, false}
use Rattle.node_run.specs.Generated.{HasGenerated}
use Rattle.node_run.specs.declared.status.Status.TheVariants as status
use Rattle.cyphal.specs.Job.{Printed, Job, ReportsNothing, print_of}
use Rattle.cyphal.specs.MayEnd.{of_text}

-- the numbers of the run were written: those that the definitions give of the plan and the log of
-- the number
abbrev pub HasGeneratedAt : ℕ → Printed → Type 0
HasGeneratedAt number print = HasGenerated number print.status print.before print.after

abbrev pub gen_job : ℕ → Job
gen_job number = record {
  calls_tree = false;
  needs = λ files. 0;
  takes_input = false;
  serves = false;
  may_end = of_text;
  is_told = λ told. true;
  expects = λ told stat. stat ≡ status.Ok;
  did = λ told came. HasGeneratedAt number (print_of told came) × ReportsNothing came;
}
