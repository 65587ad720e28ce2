use Rattle.std.proofs.Common.{◌∙◌, sym}
use Rattle.can_id.specs.declared.key.Kind.TheVariants.{Message}
use Rattle.rx_table.proofs.SubjectPlaces.{place_found, position-place}
use Rattle.rx_table.proofs.table.Table.find_subject.Goals as goal

pub returns-in-Some : goal.returns-in-Some
returns-in-Some g c =
    place_found c.args.self.now.subjects c.args.self.now.ports.items c.args.subject c.in-Some.code c.place_at.result c.args.self.now.places (sym c.in-Some.ensures) c.place_at.ensures
    ∙ sym (position-place Message c.args.subject c.args.self.now.ports.items)
