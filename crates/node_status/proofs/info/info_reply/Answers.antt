use Rattle.std.proofs.Common.{rules, ◌≡◌, ◌∙◌, []}
use Rattle.dsdl_types.specs.Laws.{encoding}
use Rattle.std_types.specs.Node.{node_info_value}
use Rattle.std_types.specs.Schemas.{node_info}
use Rattle.node_status.proofs.StatusBytes.{info_encoding}
use Rattle.node_status.proofs.info.info_reply.Goals as goal

pub returns-clause-bytes : goal.returns-clause-bytes
returns-clause-bytes c = λ fits.
    let info = c.args.info.now in
    let named : c.in_ok-name.name ≡ info.name = search rules in
    let no_crc : c.empty.result ≡ [] = c.empty.ensures in
    let no_certificate : c.new-2.result ≡ [] = c.new-2.ensures ∙ c.new.ensures.items in
    (λ i. encoding node_info (node_info_value (record {
      protocol_version = record { major = 1; minor = 0 };
      hardware_version = info.hardware_version;
      software_version = info.software_version;
      software_vcs_revision_id = info.software_vcs_revision_id;
      unique_id = info.unique_id;
      name = named i;
      software_image_crc = no_crc i;
      certificate_of_authenticity = no_certificate i;
    }))) ∙ info_encoding info fits
