use Rattle.std.proofs.Common.{◌≡◌, ◌∙◌, ℕ, List, IfOk, refl, ap, subst, take}
use Rattle.register_service.specs.RegisterMap.{access_reply, after_access}
use Rattle.register_service.specs.Within.{is_allowed, limits_of}
use Rattle.std_types.specs.Types.{schema_of}
use Rattle.node_core.specs.Keeps.{keeps}
use Rattle.node_core.proofs.Accesses.{access_answer, access_left}
use Rattle.node_core.proofs.Steps.{on_ok}
use Rattle.node_core.proofs.node.Node.answer_with.Goals as goal

pub encoded-requires-clause-name : goal.encoded-requires-clause-name
unfolding schema_of
encoded-requires-clause-name c = refl

pub encoded-requires-in-Listing-clause-name : goal.encoded-requires-in-Listing-clause-name
unfolding schema_of
encoded-requires-in-Listing-clause-name c = refl

pub returns-in-Access-clause-keeps : goal.returns-in-Access-clause-keeps
returns-in-Access-clause-keeps c =
    let node = c.args.self.now in
    let request = c.in-Access.field-0 in
    let allowed = is_allowed (limits_of node.registers) in
    on_ok _ c.encoded.result (access_left node.plan request c.args.question c.in-Access.is (keeps node) c.access.new.self node.limits
    (c.in_ok-reply-in-Access.ensures.left ∙ ap (λ (name : List ℕ). after_access allowed node.registers name request.value) c.as_slice-in-Access.ensures))

pub returns-in-Access-clause-payload : goal.returns-in-Access-clause-payload
returns-in-Access-clause-payload c =
    let node = c.args.self.now in
    let request = c.in-Access.field-0 in
    let allowed = is_allowed (limits_of node.registers) in
    subst (λ (b : List ℕ). IfOk c.encoded.result (λ n. take n c.encoded.new.out ≡ b))
    (access_answer node.plan request c.args.question c.in-Access.is node.registers c.args.file.now c.in_ok-reply-in-Access.reply node.limits
    (c.in_ok-reply-in-Access.ensures.reply ∙ ap (λ (name : List ℕ). access_reply allowed node.registers name request.value) c.as_slice-in-Access.ensures))
    c.encoded.ensures.payload
