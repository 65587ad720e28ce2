-- The registers of a node: those of its plan, and what requests leave of them.
use Rattle.std.proofs.Common.{◌≡◌, ◌∙◌, ◌≤◌, IsTrue, List, [], ◌∷◌, ◌++◌, Option, Some, None, length, refl, sym, ap, subst}
use Rattle.std.specs.List.{list_all}
use Rattle.std.proofs.lemmas.Bool.{and_parts, leb-true}
use Rattle.std.proofs.lemmas.List.Elements.{All-weaker}
use Rattle.node_plan.specs.IsPlan.{IsPlan}
use Rattle.node_plan.specs.Registers.{IsRegister, is_limited, is_register_byte}
use Rattle.node_plan.specs.declared.plan.Plan.{Plan}
use Rattle.register_service.specs.Kept.{AreKept}
use Rattle.register_service.specs.Laws.{AllFit, RegisterLaws}
use Rattle.register_service.specs.RegisterMap.{Request as RegisterRequest, Access as RegisterAccess, Listing as RegisterListing, after}
use Rattle.register_service.specs.Within.{is_within}
use Rattle.std_types.specs.Limits.{is_whole, lie_within}
use Rattle.std_types.specs.RegisterValues.{FitsRegisterValue}
use Rattle.std_types.specs.declared.register_value.RegisterValue.{RegisterValue}
use Rattle.std_types.specs.declared.registers.Limits.{Limits}
use Rattle.std_types.specs.declared.registers.Register.{Register}
use Rattle.node_core.specs.Laws.{RegistersAre, RegistersStay, asked, asked_by, asks_of}
use Rattle.node_core.specs.Questions.{FitsQuestion}
use Rattle.node_core.specs.Sending.{may_hold, registers_after, registers_behind}
use Rattle.node_core.specs.Steps.{Step, request_at}
use Rattle.node_core.specs.declared.question.Question.{Question}
use Rattle.node_core.specs.declared.question.Question.TheVariants.{Info, Access, Listing, FileInfo, FileName, FileBytes, Unsupported}
use Rattle.node_core.specs.declared.request.Request.{Request}
use Rattle.node_core.proofs.Questions.{ReadingLaws, request_at_fits}

is_short : (r : Register) → IsRegister r → length r.name ≤ 255
is_short r is = leb-true (length r.name) 255 (and_parts _ (list_all is_register_byte r.name) is.bytes).0

lies_within : (limits : Option Limits) (v : RegisterValue) → IsTrue (is_limited limits v) → IsTrue (is_within limits v)
lies_within None v h = refl
lies_within (Some limits) v h = (and_parts (is_whole v) (lie_within limits v) h).1

-- the registers of a plan are kept
pub kept_registers : (plan : Plan) → IsPlan plan → AreKept plan.registers
kept_registers plan is = record {
  sound = record {
    few = is.few_registers;
    distinct = is.register_names;
    short = All-weaker IsRegister (λ r. length r.name ≤ 255) is_short plan.registers is.registers;
    fit = All-weaker IsRegister (λ r. FitsRegisterValue r.value) (λ r h. h.value) plan.registers is.registers;
  };
  within = All-weaker IsRegister (λ r. IsTrue (is_within r.limits r.value)) (λ r h. lies_within r.limits r.value h.within) plan.registers is.registers;
}

-- what a question leaves of registers that other requests left
after_question : (plan : Plan) (opened : List Register) (past : List RegisterRequest) (q : Question)
    → registers_after plan (after (may_hold plan) opened past) q ≡ after (may_hold plan) opened (asks_of q ++ past)
after_question plan opened past Info = refl
after_question plan opened past (Access request) = refl
after_question plan opened past (Listing request) = refl
after_question plan opened past (FileInfo request) = refl
after_question plan opened past (FileName request) = refl
after_question plan opened past (FileBytes request) = refl
after_question plan opened past Unsupported = refl

after_behind : (plan : Plan) (opened : List Register) (past : List RegisterRequest) (request : Option Request)
    → registers_behind plan request (after (may_hold plan) opened past) ≡ after (may_hold plan) opened (asked_by request ++ past)
after_behind plan opened past None = refl
after_behind plan opened past (Some r) = after_question plan opened past r.question

pub registers_are : RegistersAre
registers_are plan [] = refl
registers_are plan (step ∷ past) =
    ap (registers_behind plan (request_at plan step past)) (registers_are plan past)
    ∙ after_behind plan plan.registers (asked plan past) (request_at plan step past)

-- what was asked bears values
all_fit_append : (newer past : List RegisterRequest) → AllFit newer → AllFit past → AllFit (newer ++ past)
all_fit_append [] past n p = p
all_fit_append (RegisterAccess name v ∷ newer) past n p = (n.0, all_fit_append newer past n.1 p)
all_fit_append (RegisterListing number ∷ newer) past n p = all_fit_append newer past n p

question_asks : (q : Question) → FitsQuestion q → AllFit (asks_of q)
question_asks Info fits = tt
question_asks (Access request) fits = (fits.1, tt)
question_asks (Listing request) fits = tt
question_asks (FileInfo request) fits = tt
question_asks (FileName request) fits = tt
question_asks (FileBytes request) fits = tt
question_asks Unsupported fits = tt

request_asks : (request : Option Request) → ((r : Request) → request ≡ Some r → FitsQuestion r.question) → AllFit (asked_by request)
request_asks None fits = tt
request_asks (Some r) fits = question_asks r.question (fits r refl)

all_fit : ReadingLaws → (plan : Plan) (all : List Step) → AllFit (asked plan all)
all_fit laws plan [] = tt
all_fit laws plan (step ∷ past) =
    all_fit_append (asked_by (request_at plan step past)) (asked plan past)
    (request_asks (request_at plan step past) (request_at_fits laws plan step past)) (all_fit laws plan past)

pub registers_stay : RegisterLaws → ReadingLaws → RegistersStay
registers_stay registers laws plan all is =
    let hold = registers.after_all (may_hold plan) plan.registers (asked plan all) in
    subst AreKept (sym (registers_are plan all)) (hold.within (registers.by_limits plan.registers) (kept_registers plan is) (all_fit laws plan all))
