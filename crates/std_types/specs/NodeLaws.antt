-- The structs and the values of the standard types of a node determine each other.
use Rattle.std.specs.Prelude.{◌≡◌, [], ◌∷◌, refl, true}
use Rattle.std.proofs.Common.{sym, ◌∙◌}
use Rattle.dsdl_types.specs.Stored.{IsStored}
use Rattle.dsdl_types.specs.Values.{Val, Parts}
use Rattle.dsdl_types.specs.Views.{in_row}
use Rattle.std_types.specs.Fields.{natural_back, natural_forth, naturals_back, naturals_forth}
use Rattle.std_types.specs.Fields.{parts_are, unique_id_back, unique_id_forth}
use Rattle.std_types.specs.Held.{part}
use Rattle.std_types.specs.Node.{health_value, health_of, FitsHealth, mode_value, mode_of, FitsMode}
use Rattle.std_types.specs.Node.{version_value, version_of, FitsVersion, heartbeat_value}
use Rattle.std_types.specs.Node.{heartbeat_of, FitsHeartbeat, node_info_request_value}
use Rattle.std_types.specs.Node.{node_info_request_of, FitsNodeInfoRequest, node_info_value}
use Rattle.std_types.specs.Node.{node_info_of, FitsNodeInfo}
use Rattle.std_types.specs.Schemas.{health, mode, version, heartbeat, node_info_request, node_info}
use Rattle.std_types.specs.declared.node.Health.{Health}
use Rattle.std_types.specs.declared.node.Mode.{Mode}
use Rattle.std_types.specs.declared.node.Version.{Version}
use Rattle.std_types.specs.declared.node.Heartbeat.{Heartbeat}
use Rattle.std_types.specs.declared.node.NodeInfoRequest.{NodeInfoRequest}
use Rattle.std_types.specs.declared.node.NodeInfo.{NodeInfo}

pub health_back : (x : Health) → FitsHealth x
    → IsStored health (health_value x) × (health_of (health_value x) ≡ x)
health_back x f = ((f, tt), λ i. record { value = natural_back 8 x.value f i })

pub health_forth : (v : Val) → IsStored health v
    → FitsHealth (health_of v) × (health_value (health_of v) ≡ v)
health_forth v h =
    let fields = parts_are health refl v h in
    let value_held = natural_forth 2 true (part 0 v) fields.1.0 in
    (value_held.0, (λ i. Parts (in_row (value_held.1 i ∷ []))) ∙ sym fields.0)

pub mode_back : (x : Mode) → FitsMode x
    → IsStored mode (mode_value x) × (mode_of (mode_value x) ≡ x)
mode_back x f = ((f, tt), λ i. record { value = natural_back 8 x.value f i })

pub mode_forth : (v : Val) → IsStored mode v → FitsMode (mode_of v) × (mode_value (mode_of v) ≡ v)
mode_forth v h =
    let fields = parts_are mode refl v h in
    let value_held = natural_forth 3 true (part 0 v) fields.1.0 in
    (value_held.0, (λ i. Parts (in_row (value_held.1 i ∷ []))) ∙ sym fields.0)

pub version_back : (x : Version) → FitsVersion x
    → IsStored version (version_value x) × (version_of (version_value x) ≡ x)
version_back x f = (
  (f.0, (f.1, tt)),
  λ i. record {
    major = natural_back 8 x.major f.0 i;
    minor = natural_back 8 x.minor f.1 i;
  },
)

pub version_forth : (v : Val) → IsStored version v
    → FitsVersion (version_of v) × (version_value (version_of v) ≡ v)
version_forth v h =
    let fields = parts_are version refl v h in
    let major_held = natural_forth 8 true (part 0 v) fields.1.0 in
    let minor_held = natural_forth 8 true (part 1 v) fields.1.1.0 in
    ((major_held.0, minor_held.0), (λ i. Parts (in_row (major_held.1 i ∷ minor_held.1 i ∷ []))) ∙ sym fields.0)

pub heartbeat_back : (x : Heartbeat) → FitsHeartbeat x
    → IsStored heartbeat (heartbeat_value x) × (heartbeat_of (heartbeat_value x) ≡ x)
heartbeat_back x f =
    let health_kept = health_back x.health f.1 in
    let mode_kept = mode_back x.mode f.2 in (
      (f.0, (health_kept.0, (mode_kept.0, (f.3, tt)))),
      λ i. record {
        uptime = natural_back 32 x.uptime f.0 i;
        health = health_kept.1 i;
        mode = mode_kept.1 i;
        vendor_specific_status_code = natural_back 8 x.vendor_specific_status_code f.3 i;
      },
    )

pub heartbeat_forth : (v : Val) → IsStored heartbeat v
    → FitsHeartbeat (heartbeat_of v) × (heartbeat_value (heartbeat_of v) ≡ v)
heartbeat_forth v h =
    let fields = parts_are heartbeat refl v h in
    let uptime_held = natural_forth 32 true (part 0 v) fields.1.0 in
    let health_held = health_forth (part 1 v) fields.1.1.0 in
    let mode_held = mode_forth (part 2 v) fields.1.1.1.0 in
    let vendor_specific_status_code_held = natural_forth 8 true (part 3 v) fields.1.1.1.1.0 in
    ((uptime_held.0, health_held.0, mode_held.0, vendor_specific_status_code_held.0), (λ i. Parts (in_row (uptime_held.1 i ∷ health_held.1 i ∷ mode_held.1 i ∷ vendor_specific_status_code_held.1 i ∷ []))) ∙ sym fields.0)

pub node_info_request_back : (x : NodeInfoRequest) → FitsNodeInfoRequest x
    → IsStored node_info_request (node_info_request_value x) × (node_info_request_of (node_info_request_value x) ≡ x)
node_info_request_back x f = (tt, λ i. x)

pub node_info_request_forth : (v : Val) → IsStored node_info_request v
    → FitsNodeInfoRequest (node_info_request_of v) × (node_info_request_value (node_info_request_of v) ≡ v)
node_info_request_forth v h =
    let fields = parts_are node_info_request refl v h in
    (tt, (λ i. Parts (in_row ([]))) ∙ sym fields.0)

pub node_info_back : (x : NodeInfo) → FitsNodeInfo x
    → IsStored node_info (node_info_value x) × (node_info_of (node_info_value x) ≡ x)
node_info_back x f =
    let protocol_version_kept = version_back x.protocol_version f.0 in
    let hardware_version_kept = version_back x.hardware_version f.1 in
    let software_version_kept = version_back x.software_version f.2 in
    let unique_id_kept = unique_id_back x.unique_id f.4 in
    let name_kept = naturals_back 8 refl 50 x.name f.5 in
    let software_image_crc_kept = naturals_back 64 refl 1 x.software_image_crc f.6 in
    let certificate_of_authenticity_kept = naturals_back 8 refl 222 x.certificate_of_authenticity f.7 in (
      (protocol_version_kept.0, (hardware_version_kept.0, (software_version_kept.0, (f.3, (unique_id_kept.0, (name_kept.0, (software_image_crc_kept.0, (certificate_of_authenticity_kept.0, tt)))))))),
      λ i. record {
        protocol_version = protocol_version_kept.1 i;
        hardware_version = hardware_version_kept.1 i;
        software_version = software_version_kept.1 i;
        software_vcs_revision_id = natural_back 64 x.software_vcs_revision_id f.3 i;
        unique_id = unique_id_kept.1 i;
        name = name_kept.1 i;
        software_image_crc = software_image_crc_kept.1 i;
        certificate_of_authenticity = certificate_of_authenticity_kept.1 i;
      },
    )

pub node_info_forth : (v : Val) → IsStored node_info v
    → FitsNodeInfo (node_info_of v) × (node_info_value (node_info_of v) ≡ v)
node_info_forth v h =
    let fields = parts_are node_info refl v h in
    let protocol_version_held = version_forth (part 0 v) fields.1.0 in
    let hardware_version_held = version_forth (part 1 v) fields.1.1.0 in
    let software_version_held = version_forth (part 2 v) fields.1.1.1.0 in
    let software_vcs_revision_id_held = natural_forth 64 true (part 3 v) fields.1.1.1.1.0 in
    let unique_id_held = unique_id_forth (part 4 v) fields.1.1.1.1.1.0 in
    let name_held = naturals_forth 8 refl 50 (part 5 v) fields.1.1.1.1.1.1.0 in
    let software_image_crc_held = naturals_forth 64 refl 1 (part 6 v) fields.1.1.1.1.1.1.1.0 in
    let certificate_of_authenticity_held = naturals_forth 8 refl 222 (part 7 v) fields.1.1.1.1.1.1.1.1.0 in
    ((protocol_version_held.0, hardware_version_held.0, software_version_held.0, software_vcs_revision_id_held.0, unique_id_held.0, name_held.0, software_image_crc_held.0, certificate_of_authenticity_held.0), (λ i. Parts (in_row (protocol_version_held.1 i ∷ hardware_version_held.1 i ∷ software_version_held.1 i ∷ software_vcs_revision_id_held.1 i ∷ unique_id_held.1 i ∷ name_held.1 i ∷ software_image_crc_held.1 i ∷ certificate_of_authenticity_held.1 i ∷ []))) ∙ sym fields.0)
