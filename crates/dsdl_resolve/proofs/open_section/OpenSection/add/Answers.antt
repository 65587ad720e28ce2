use Rattle.std.proofs.Common.{◌≡◌, ap}
use Rattle.std.specs.Option.{option_copied}
use Rattle.dsdl_resolve.specs.Additions.{name_of}
use Rattle.dsdl_resolve.specs.Opens.{said_of}
use Rattle.dsdl_resolve.specs.declared.open_section.OpenSection.{OpenSection}
use Rattle.dsdl_resolve.proofs.Adding.{field_says}
use Rattle.dsdl_resolve.proofs.open_section.OpenSection.add.Goals as goal
use Rattle.dsdl_resolve.proofs.open_section.OpenSection.add.Goals.{in-Some+in_ok-insert, in_default}

pub returns-in_ok-add_field-in-Field-clause-says : goal.returns-in_ok-add_field-in-Field-clause-says
returns-in_ok-add_field-in-Field-clause-says c =
    let fields : c.match-name.self.fields ≡ c.args.self.now.fields = elim c.match-name.branch [
      | in-Some+in_ok-insert w ↦ ap (λ (m : OpenSection). m.fields) w.self-is
      | in_default w ↦ ap (λ (m : OpenSection). m.fields) w.self-is
    ] in
    let types : c.match-name.self.types ≡ c.args.self.now.types = elim c.match-name.branch [
      | in-Some+in_ok-insert w ↦ ap (λ (m : OpenSection). m.types) w.self-is
      | in_default w ↦ ap (λ (m : OpenSection). m.types) w.self-is
    ] in
    let extent : c.match-name.self.extent ≡ c.args.self.now.extent = elim c.match-name.branch [
      | in-Some+in_ok-insert w ↦ ap (λ (m : OpenSection). m.extent) w.self-is
      | in_default w ↦ ap (λ (m : OpenSection). m.extent) w.self-is
    ] in
    field_says c.args.self.now c.args.constants.now (name_of (option_copied c.args.name)) c.in-Field.typed c.args.judged.totals.union c.args.judged.addition
    (said_of c.add_field.new.self c.args.constants.now) _ c.in_ok-copy_or_empty-in-Field.field-0 c.match-name.self.fields c.match-name.self.types c.match-name.self.extent c.in-Field.is
    (c.in_ok-add_field-in-Field.ensures.says c.args.constants.now) c.in-Field.typed-is c.in_ok-copy_or_empty-in-Field.ensures fields types extent
