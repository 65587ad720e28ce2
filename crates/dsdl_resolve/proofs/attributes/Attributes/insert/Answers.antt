use Rattle.std.proofs.Common.{true, sym, ap, ◌∙◌, ◌||◌, string_bytes}
use Rattle.std.specs.Str.{bytes_eq}
use Rattle.std.proofs.lemmas.Map.Text.{btree_set_updates_text}
use Rattle.dsdl_resolve.specs.Rules.{is_used}
use Rattle.dsdl_resolve.proofs.Used.{used_text, cond_or}
use Rattle.dsdl_resolve.proofs.attributes.Attributes.insert.Goals as goal

pub returns : goal.returns
returns c = λ other.
    let name = string_bytes c.in_ok-name.name in
    used_text other c.insert.new.self.keys
    ∙ btree_set_updates_text name c.self.inside.names c.insert.new.self true c.in_ok-insert.ensures.updates other
    ∙ cond_or (bytes_eq name other) _
    ∙ ap (λ b. b || bytes_eq name other) (sym (used_text other c.self.inside.names.keys) ∙ ap (λ names. is_used names other) c.self.view_is)
    ∙ ap (λ n. is_used c.args.self.now other || bytes_eq n other) c.in_ok-name.ensures.ok
