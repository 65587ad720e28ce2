use Rattle.std.proofs.Common.{◌∙◌, ap}
use Rattle.dsdl_types.specs.Values.{Parts}
use Rattle.std_types.specs.Held.{naturals_value}
use Rattle.std_types.proofs.Rows.{row_next}
use Rattle.std_types.proofs.node.NodeInfoStandard.to_value.Goals as goal

pub returns : goal.returns
returns c =
    let protocol = row_next c.in_ok-with.ensures c.new.ensures c.in_ok-to_value.ensures in
    let hardware = row_next c.in_ok-with-2.ensures protocol c.in_ok-to_value-2.ensures in
    let software = row_next c.in_ok-with-3.ensures hardware c.in_ok-to_value-3.ensures in
    let revision = row_next c.in_ok-with-4.ensures software c.number_value.ensures in
    let unique_id = row_next c.in_ok-with-5.ensures revision c.in_ok-numbers_value.ensures in
    let name = row_next c.in_ok-with-6.ensures unique_id c.in_ok-bytes_value.ensures in
    let crc = row_next c.in_ok-with-7.ensures name (c.in_ok-numbers_value-2.ensures ∙ ap naturals_value c.as_slice.ensures) in
    let certificate = row_next c.in_ok-values.ensures crc c.in_ok-bytes_value-2.ensures in
    c.structure.ensures ∙ ap Parts certificate
