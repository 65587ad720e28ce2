use Rattle.std.proofs.Common.{rules, ◌≡◌, IfOk, subst}
use Rattle.register_service.specs.RegisterMap.{access_reply, after_access}
use Rattle.register_service.specs.Within.{is_allowed, limits_of}
use Rattle.register_service.proofs.limited.Limited.access.Goals as goal

pub returns-clause-reply : goal.returns-clause-reply
returns-clause-reply c =
    subst (λ l. IfOk c.access.result (λ r. r ≡ access_reply (is_allowed (limits_of l)) l c.args.name.now c.args.value)) c.self.view_is
    (c.access.ensures.reply (is_allowed (limits_of c.self.inside.list.items)) (λ i p b less told. search rules))

pub returns-clause-left : goal.returns-clause-left
returns-clause-left c =
    subst (λ l. IfOk c.access.result (λ r. c.access.new.list.items ≡ after_access (is_allowed (limits_of l)) l c.args.name.now c.args.value)) c.self.view_is
    (c.access.ensures.left (is_allowed (limits_of c.self.inside.list.items)) (λ i p b less told. search rules))
