use Rattle.std.proofs.Common.{sym, ap, ◌∙◌}
use Rattle.dsdl_resolve.specs.Rules.{is_used}
use Rattle.dsdl_resolve.proofs.Used.{used_text}
use Rattle.dsdl_resolve.proofs.attributes.Attributes.contains.Goals as goal

pub returns : goal.returns
returns c = c.contains.ensures ∙ sym (used_text c.args.name.now c.self.inside.names.keys) ∙ ap (λ names. is_used names c.args.name.now) c.self.view_is
