-- The commands: a file makes the job of each, or of those that differ in what they are given.
pub mod Compile
pub mod Compat
pub mod Versions
pub mod Changes
pub mod Values
pub mod Run
pub mod Bound
pub mod Migrate
pub mod Gen
pub mod Reach
pub mod Fetch
pub mod Order
pub mod Survey
pub mod Nodes
pub mod Explain
use Rattle.node_reach.specs.Allocated.{allocate_voice}
use Rattle.node_reach.specs.Fetched.{client_of}
use Rattle.node_reach.specs.Monitored.{monitor_voice}
use Rattle.value_lines.specs.Decoded.{Decodes}
use Rattle.value_lines.specs.Encoded.{Encodes}
use Rattle.cyphal.specs.Words as command
use Rattle.cyphal.specs.Words.{Command}
use Rattle.cyphal.specs.Job.{Job}
use Rattle.cyphal.specs.jobs.Compile.{compile_job}
use Rattle.cyphal.specs.jobs.Compat.{compat_job}
use Rattle.cyphal.specs.jobs.Versions.{versions_job}
use Rattle.cyphal.specs.jobs.Changes.{changes_job}
use Rattle.cyphal.specs.jobs.Values.{values_job}
use Rattle.cyphal.specs.jobs.Run.{run_job}
use Rattle.cyphal.specs.jobs.Bound.{bound_job}
use Rattle.cyphal.specs.jobs.Migrate.{migrate_job}
use Rattle.cyphal.specs.jobs.Gen.{gen_job}
use Rattle.cyphal.specs.jobs.Reach.{reach_job}
use Rattle.cyphal.specs.jobs.Fetch.{fetch_job}
use Rattle.cyphal.specs.jobs.Order.{order_job}
use Rattle.cyphal.specs.jobs.Survey.{survey_job}
use Rattle.cyphal.specs.jobs.Nodes.{nodes_job}
use Rattle.cyphal.specs.jobs.Explain.{explain_job}

-- what a command asks for
abbrev pub job_of : Command → Job
job_of (command.Compile root) = compile_job root
job_of (command.Compat root new old) = compat_job root new old
job_of (command.Versions root) = versions_job root
job_of (command.Changes old new) = changes_job old new
job_of (command.Encode root name) = values_job Encodes root name
job_of (command.Decode root name) = values_job Decodes root name
job_of (command.Run form root path) = run_job form root path
job_of (command.Bound root path) = bound_job root path
job_of (command.Migrate root path) = migrate_job root path
job_of (command.Gen number) = gen_job number
job_of (command.Monitor own) = reach_job (monitor_voice own)
job_of (command.Allocate own) = reach_job (allocate_voice own)
job_of (command.Fetch own server path) = fetch_job (client_of own server path)
job_of (command.Order window) = order_job window
job_of (command.Survey names) = survey_job names
job_of (command.Nodes names) = nodes_job names
job_of (command.Explain root path) = explain_job root path
