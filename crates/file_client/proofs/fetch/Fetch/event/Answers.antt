use Rattle.std.proofs.Common.{sym, ◌∙◌, subst}
use Rattle.file_client.specs.Fetch.{fetched, on_event, step_after}
use Rattle.file_client.specs.Stands.{Keeps, event_of}
use Rattle.file_client.proofs.fetch.Fetch.event.Goals as goal

pub returns-in-Reply-clause-stands : goal.returns-in-Reply-clause-stands
returns-in-Reply-clause-stands c = λ limit past k.
    let s = fetched limit past in
    subst (λ o. Keeps limit (step_after limit o s (event_of c.args.ev)).0 c.reply.new.self) (sym c.in_default.is ∙ k.end)
    (subst (λ e. Keeps limit (on_event limit s (event_of e)).0 c.reply.new.self) (sym c.in-Reply.is) (c.reply.ensures.keeps limit s k))

pub returns-in-Late-clause-stands : goal.returns-in-Late-clause-stands
returns-in-Late-clause-stands c = λ limit past k.
    let s = fetched limit past in
    subst (λ o. Keeps limit (step_after limit o s (event_of c.args.ev)).0 c.late.new.self) (sym c.in_default.is ∙ k.end)
    (subst (λ e. Keeps limit (on_event limit s (event_of e)).0 c.late.new.self) (sym c.in-Late.is) (c.late.ensures.keeps limit s k))
