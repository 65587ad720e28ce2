-- What an access leaves of registers and is answered with, where they stand for a plan's limits.
use Rattle.std.proofs.Common.{◌≡◌, ◌∙◌, List, Option, sym, ap}
use Rattle.dsdl_types.specs.Laws.{encoding}
use Rattle.node_plan.specs.declared.plan.Plan.{Plan}
use Rattle.register_service.specs.RegisterMap.{access_reply as accessed, after_access}
use Rattle.register_service.specs.Within.{is_allowed, limits_of}
use Rattle.std_types.specs.Registers.{access_reply_value}
use Rattle.std_types.specs.Schemas.{access_reply}
use Rattle.std_types.specs.declared.register.AccessReply.{AccessReply}
use Rattle.std_types.specs.declared.register.AccessRequest.{AccessRequest}
use Rattle.std_types.specs.declared.registers.Limits.{Limits}
use Rattle.std_types.specs.declared.registers.Register.{Register}
use Rattle.node_core.specs.Keeps.{questioned}
use Rattle.node_core.specs.Sending.{answer_to}
use Rattle.node_core.specs.Steps.{Kept}
use Rattle.node_core.specs.declared.file_reply.FileReply.{FileReply}
use Rattle.node_core.specs.declared.question.Question.{Question}
use Rattle.node_core.specs.declared.question.Question.TheVariants.{Access}

module _ (plan : Plan) (request : AccessRequest) (question : Question) (is : question ≡ Access request) where
  pub access_left : (k : Kept) (left : List Register) → limits_of k.registers ≡ limits_of plan.registers
      → left ≡ after_access (is_allowed (limits_of k.registers)) k.registers request.name request.value
      → record k { registers = left } ≡ questioned plan question k
  access_left k left limits e =
      ap (λ (rs : List Register). record k { registers = rs }) (e ∙ ap (λ (l : List (Option Limits)). after_access (is_allowed l) k.registers request.name request.value) limits)
      ∙ ap (λ (q : Question). questioned plan q k) (sym is)

  pub access_answer : (registers : List Register) (file : FileReply) (reply : AccessReply) → limits_of registers ≡ limits_of plan.registers
      → reply ≡ accessed (is_allowed (limits_of registers)) registers request.name request.value
      → encoding access_reply (access_reply_value reply) ≡ answer_to plan registers file question
  access_answer registers file reply limits e =
      ap (λ (r : AccessReply). encoding access_reply (access_reply_value r)) (e ∙ ap (λ (l : List (Option Limits)). accessed (is_allowed l) registers request.name request.value) limits)
      ∙ ap (λ (q : Question). answer_to plan registers file q) (sym is)
