use Rattle.std.proofs.Common.{◌∙◌, ◌||◌, not, sym, ap, true, string_bytes}
use Rattle.std.specs.List.{list_any}
use Rattle.std.specs.Str.{bytes_eq}
use Rattle.std.proofs.lemmas.Map.Text.{btree_set_updates_text}
use Rattle.dsdl_files.proofs.Texts.{any_text, cond_or}
use Rattle.dsdl_files.proofs.paths.Paths.insert.Goals as goal

pub returns-clause-added : goal.returns-clause-added
returns-clause-added c =
    let new = string_bytes c.args.path in
    c.in_ok-insert.ensures.added ∙ ap not (sym (any_text new c.self.inside.set.keys) ∙ ap (list_any (bytes_eq new)) c.self.view_is)

pub returns-clause-paths : goal.returns-clause-paths
returns-clause-paths c = λ p.
    let new = string_bytes c.args.path in
    any_text p c.insert.new.self.keys
    ∙ btree_set_updates_text new c.self.inside.set c.insert.new.self true c.in_ok-insert.ensures.updates p
    ∙ cond_or (bytes_eq new p) _
    ∙ ap (λ b. bytes_eq new p || b) (sym (any_text p c.self.inside.set.keys) ∙ ap (list_any (bytes_eq p)) c.self.view_is)
