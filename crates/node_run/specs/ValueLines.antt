-- What is done with the lines of values that an input has: each is answered by a line.
use Rattle.std.specs.Prelude.{◌≡◌, ◌⊎◌, ℕ, ◌^◌, List, Option, Some, None, Result, IfSome}
use Rattle.dsdl_types.specs.Schemas.{Sch}
use Rattle.dsdl_types.specs.declared.namespace.Namespace.{Namespace}
use Rattle.dsdl_types.specs.Definitions.{IsNamespace}
use Rattle.line_loop.specs.Gone.{HasGone}
use Rattle.line_loop.specs.Reply.{Voice, line_voice, IsReply}
use Rattle.line_loop.specs.Streamed.{IsStreamed}
use Rattle.line_loop.specs.declared.bounds.LineBounds.{LineBounds}
use Rattle.line_loop.specs.declared.ended.LinesEnded.{LinesEnded}
use Rattle.line_loop.specs.declared.ended.LinesEnded.TheVariants as end
use Rattle.value_lines.specs.LongLines.{longest_line}
use Rattle.value_lines.specs.declared.refusal.Refusal.{Refusal}
use Rattle.value_lines.specs.declared.refusal.Refusal.TheVariants as refusal
pub use Rattle.node_run.specs.Flow.{Flow, flow}
use Rattle.node_run.specs.NamedTypes.{message_named}
use Rattle.node_run.specs.declared.status.Status.{Status}
use Rattle.node_run.specs.declared.status.Status.TheVariants as status

-- the most bytes of a line and of an input
abbrev pub bounds : LineBounds
bounds = record { line = longest_line; all = 2 ^ 28 }

-- what answers a line of a type's values, by its number: `Encodes` or `Decodes`
abbrev pub Answering : Type 1
Answering = Sch → ℕ → List ℕ → Result (List ℕ) Refusal → Type 0

-- what is said to the lines of an input
abbrev pub values_voice : Answering → Sch → Voice Refusal
values_voice answers s = line_voice (answers s) (λ n. refusal.Text n) bounds

-- the status of a line that is refused
abbrev pub refused_status : Refusal → Status
refused_status (refusal.Text line) = status.Text line
refused_status (refusal.Unreadable line path why) = status.Unreadable line path why

-- the status of a loop over lines, by how it ended
abbrev pub lines_status : LinesEnded Refusal → Status
lines_status end.Ok = status.Ok
lines_status (end.Refused refusal) = refused_status refusal
lines_status end.TooLong = status.LogLong
lines_status end.ReadFault = status.ReadFault
lines_status end.WriteFault = status.WriteFault
lines_status end.NoMemory = status.NoMemory

-- nothing was taken, and nothing was written
pub record IsStill (told : Flow) : Type 0 where
  pub left : told.new ≡ told.left
  pub written : told.after ≡ told.before

-- the lines were answered as those of values of this message, until the loop over them ended so
pub record AnsweredUntil (answers : Answering) (message : Option Sch) (ended : LinesEnded Refusal)
    (told : Flow) : Type 0 where
  pub schema : Sch
  pub is : message ≡ Some schema
  pub gone :
      HasGone (values_voice answers schema) told.left told.new ended told.before told.after

-- after a read fault exactly the lines whose newline was taken are answered
abbrev pub AreTaken : Answering → Option Sch → Flow → Type 0
AreTaken answers message told = AnsweredUntil answers message end.ReadFault told

-- however it ended: of each front of the bytes that were taken, behind which more than 65,536 bytes
-- were taken, the whole lines are answered, and the answers are written
abbrev pub AreStreamed : Answering → Option Sch → Flow → Type 0
AreStreamed answers message told = (schema : Sch) → message ≡ Some schema
    → IsStreamed (values_voice answers schema) told.left told.new told.before told.after

-- what was done with the lines of an input, by the status: the message is what a name stands for,
-- if anything
abbrev pub HasAnsweredLines : Answering → Option Sch → List ℕ → Status → Flow → Type 0
HasAnsweredLines answers message name status.Ok told = AnsweredUntil answers message end.Ok told
HasAnsweredLines answers message name status.Usage told = ⊥
HasAnsweredLines answers message name (status.Dsdl file line why) told = ⊥
HasAnsweredLines answers message name (status.Plan line why) told = ⊥
HasAnsweredLines answers message name (status.Log line why) told = ⊥
HasAnsweredLines answers message name (status.Text line) told =
    AnsweredUntil answers message (end.Refused (refusal.Text line)) told
HasAnsweredLines answers message name (status.Unreadable line path why) told =
    AnsweredUntil answers message (end.Refused (refusal.Unreadable line path why)) told
HasAnsweredLines answers message name (status.NotNewer path why) told = ⊥
HasAnsweredLines answers message name status.LogLong told =
    AnsweredUntil answers message end.TooLong told
HasAnsweredLines answers message name (status.NoFile path) told =
    (path ≡ name) × (message ≡ None) × IsStill told
HasAnsweredLines answers message name status.ReadFault told =
    AnsweredUntil answers message end.ReadFault told
HasAnsweredLines answers message name status.WriteFault told =
    AnsweredUntil answers message end.WriteFault told
HasAnsweredLines answers message name status.NoMemory told =
    IsStill told ⊎ AnsweredUntil answers message end.NoMemory told

-- where nothing fails, the lines of these bytes are answered so that this is the status
pub record EndsIn (v : Voice Refusal) (bytes : List ℕ) (stat : Status) : Type 0 where
  pub text : List ℕ
  pub ended : LinesEnded Refusal
  pub reply : IsReply v bytes text ended
  pub is : stat ≡ lines_status ended

-- the status that answering an input comes to where nothing fails: a name that stands for no
-- message is not found
abbrev pub Ends : Answering → Option Sch → List ℕ → Option (List ℕ) → Status → Type 0
Ends answers None name told stat = stat ≡ status.NoFile name
Ends answers (Some schema) name told stat =
    IfSome told (λ bytes. EndsIn (values_voice answers schema) bytes stat)

-- in a namespace, whatever a name stands for, each input comes to one status
abbrev pub HasOneStatus : Answering → Type 0
HasOneStatus answers = (names : Namespace) → IsNamespace names → (name bytes : List ℕ) (a b : Status)
    → Ends answers (message_named names name) name (Some bytes) a
    → Ends answers (message_named names name) name (Some bytes) b → a ≡ b
