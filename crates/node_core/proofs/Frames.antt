-- A record with its lines, its reply and the lines on that.
use Rattle.std.proofs.Common.{◌≡◌, ◌∙◌, ℕ, Bool, List, ◌++◌, length, map, take, Option, Some, sym, ap, subst, append_assoc}
use Rattle.std.proofs.Math.Seq.{take-append_seam}
use Rattle.cy_outside.specs.Files.{Files as TreeFiles}
use Rattle.tail_frame.specs.declared.logged.Record.{Record}
use Rattle.node_plan.specs.declared.plan.Plan.{Plan}
use Rattle.node_core.specs.Came.{came_request, TellsRequest}
use Rattle.node_core.specs.Files.{IsServed, is_failed}
use Rattle.node_core.specs.Keeps.{DidAnswer, DidStep, answered, keeps, reply_by}
use Rattle.node_core.specs.Queues.{fulls}
use Rattle.node_core.specs.Stands.{Gives, Stands}
use Rattle.node_core.specs.Steps.{Step, Heard, Kept, got, node_lines, records, request_at, sends}
use Rattle.node_core.specs.declared.came.Came.{Came}
use Rattle.node_core.specs.declared.file_reply.FileReply.{FileReply}
use Rattle.report_lines.specs.declared.line.FullLine.{FullLine}
use Rattle.report_lines.specs.declared.line.Line.{Line}
use Rattle.report_lines.specs.declared.line.Line.TheVariants.{Full}
use Rattle.node_core.specs.declared.node.Node.{Node}
use Rattle.node_core.specs.declared.request.Request.{Request}

-- what is behind a list is cut back to it
pub cut_again : (old told both all : List Line) → both ≡ old ++ told → all ≡ both → take (length old) all ≡ old
cut_again old told both all e h = ap (take (length old)) (h ∙ e) ∙ take-append_seam old told

-- what is put behind it leaves it in front
pub in_front : (old told both full all : List Line) → both ≡ old ++ told → all ≡ both ++ full → take (length old) all ≡ old
in_front old told both full all e h =
    ap (take (length old)) (h ∙ (ap (λ (t : List Line). t ++ full) e ∙ append_assoc old told full)) ∙ take-append_seam old (told ++ full)

-- a request was answered: its reply was pushed, with the lines on full buses
pub did_answer : (told : Option TreeFiles) (moment : ℕ) (request : Option Request) (r : Request) (old new : Node)
    (lines lines_new : List Line) (file : FileReply) (full : List FullLine) (failed : Bool)
    → request ≡ Some r → IsServed told old.plan (Some r) file → keeps new ≡ answered old.plan (Some r) file (keeps old)
    → map Full full ≡ fulls moment (reply_by old.plan (Some r) file (keeps old)) (keeps old).queues
    → lines_new ≡ lines ++ map Full full → failed ≡ is_failed file
    → DidAnswer told moment request old new lines lines_new failed
did_answer told moment request r old new lines lines_new file full failed is served keeps_are full_is lines_are failed_is =
    subst (λ (o : Option Request). DidAnswer told moment o old new lines lines_new failed) (sym is) (record {
      file = file;
      served = served;
      keeps_are = keeps_are;
      lines_are = lines_are ∙ ap (λ (t : List Line). lines ++ t) full_is;
      failed_is = failed_is;
    })

-- a record whose request, if there is one, was answered
module _ (node mid new : Node) (rec : Record) (came : Came) (lines : List Line) (request : Option Request)
    (plan_is : mid.plan ≡ node.plan) (kept_is : keeps mid ≡ keeps node)
    (is : request ≡ came_request came lines) (tells : TellsRequest node rec came) (gives : Gives node rec lines) where
  request_is : (file : FileReply) (past : List Step) → Stands node (records past) → request ≡ request_at node.plan (Heard rec file) past
  request_is file past s = is ∙ (ap (came_request came) (gives (records past) s) ∙ tells (records past) s)

  -- the lines on the record, and those on full buses
  lines_as : (file : FileReply) (past : List Step) → Stands node (records past) → (before told after : List Line)
      → told ≡ before ++ lines → after ≡ told ++ fulls rec.moment (reply_by mid.plan request file (keeps mid)) (keeps mid).queues
      → after ≡ before ++ node_lines node.plan (Heard rec file) past (keeps node)
  lines_as file past s before told after e h =
      let k = keeps node in
      let received = got node.plan rec (records past) in
      h
      ∙ (ap (λ (p : Plan). told ++ fulls rec.moment (reply_by p request file (keeps mid)) (keeps mid).queues) plan_is
      ∙ (ap (λ (l : Kept). told ++ fulls rec.moment (reply_by node.plan request file l) l.queues) kept_is
      ∙ (ap (λ (t : List Line). t ++ fulls rec.moment (reply_by node.plan request file k) k.queues) e
      ∙ (ap (λ (t : List Line). (before ++ t) ++ fulls rec.moment (reply_by node.plan request file k) k.queues) (gives (records past) s)
      ∙ (ap (λ (r : Option Request). (before ++ received) ++ fulls rec.moment (reply_by node.plan r file k) k.queues) (request_is file past s)
      ∙ append_assoc before received (fulls rec.moment (sends node.plan (Heard rec file) past k) k.queues))))))

  pub did_step : (told : Option TreeFiles) (before lines_told after : List Line) (failed : Bool) → lines_told ≡ before ++ lines
      → DidAnswer told rec.moment request mid new lines_told after failed → DidStep told rec node new before after failed
  did_step told before lines_told after failed e did = record {
    file = did.file;
    served = λ past s.
        subst (λ (r : Option Request). IsServed told node.plan r did.file) (request_is did.file past s)
        (subst (λ (p : Plan). IsServed told p request did.file) plan_is did.served);
    keeps_are = λ past s.
        did.keeps_are
        ∙ (ap (λ (p : Plan). answered p request did.file (keeps mid)) plan_is
        ∙ (ap (answered node.plan request did.file) kept_is
        ∙ ap (λ (r : Option Request). answered node.plan r did.file (keeps node)) (request_is did.file past s)));
    appends = λ past s. lines_as did.file past s before lines_told after e did.lines_are;
    failed_is = did.failed_is;
  }
