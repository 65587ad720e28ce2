-- The values of the standard types of a node, and what the structs hold of values.
use Rattle.std.specs.Prelude.{◌^◌, ◌<◌, [], ◌∷◌}
use Rattle.dsdl_types.specs.Values.{Parts, Val}
use Rattle.dsdl_types.specs.Views.{in_row}
use Rattle.std_types.specs.Held.{HoldsBytes, HoldsNaturals, IsUniqueId, natural, natural_value}
use Rattle.std_types.specs.Held.{naturals_of, naturals_value, part, unique_id_of}
use Rattle.std_types.specs.declared.node.Health.{Health}
use Rattle.std_types.specs.declared.node.Mode.{Mode}
use Rattle.std_types.specs.declared.node.Version.{Version}
use Rattle.std_types.specs.declared.node.Heartbeat.{Heartbeat}
use Rattle.std_types.specs.declared.node.NodeInfoRequest.{NodeInfoRequest}
use Rattle.std_types.specs.declared.node.NodeInfo.{NodeInfo}

-- node.Health.1.0
abbrev pub health_value : Health → Val
health_value x = Parts (in_row (natural_value x.value ∷ []))

abbrev pub health_of : Val → Health
health_of v = record { value = natural 8 (part 0 v) }

abbrev pub FitsHealth : Health → Type 0
FitsHealth x = x.value < 2 ^ 8

-- node.Mode.1.0
abbrev pub mode_value : Mode → Val
mode_value x = Parts (in_row (natural_value x.value ∷ []))

abbrev pub mode_of : Val → Mode
mode_of v = record { value = natural 8 (part 0 v) }

abbrev pub FitsMode : Mode → Type 0
FitsMode x = x.value < 2 ^ 8

-- node.Version.1.0
abbrev pub version_value : Version → Val
version_value x = Parts (in_row (natural_value x.major ∷ natural_value x.minor ∷ []))

abbrev pub version_of : Val → Version
version_of v = record { major = natural 8 (part 0 v); minor = natural 8 (part 1 v) }

abbrev pub FitsVersion : Version → Type 0
FitsVersion x = (x.major < 2 ^ 8) × (x.minor < 2 ^ 8)

-- node.Heartbeat.1.0
abbrev pub heartbeat_value : Heartbeat → Val
heartbeat_value x = Parts (in_row (natural_value x.uptime ∷ health_value x.health ∷ mode_value x.mode ∷ natural_value x.vendor_specific_status_code ∷ []))

abbrev pub heartbeat_of : Val → Heartbeat
heartbeat_of v = record {
  uptime = natural 32 (part 0 v);
  health = health_of (part 1 v);
  mode = mode_of (part 2 v);
  vendor_specific_status_code = natural 8 (part 3 v);
}

abbrev pub FitsHeartbeat : Heartbeat → Type 0
FitsHeartbeat x = (x.uptime < 2 ^ 32) × FitsHealth x.health × FitsMode x.mode × (x.vendor_specific_status_code < 2 ^ 8)

-- the request of node.GetInfo.1.0
abbrev pub node_info_request_value : NodeInfoRequest → Val
node_info_request_value x = Parts (in_row ([]))

abbrev pub node_info_request_of : Val → NodeInfoRequest
node_info_request_of v = record {}

abbrev pub FitsNodeInfoRequest : NodeInfoRequest → Type 0
FitsNodeInfoRequest x = Unit {0}

-- the reply of node.GetInfo.1.0
abbrev pub node_info_value : NodeInfo → Val
node_info_value x = Parts (in_row (version_value x.protocol_version ∷ version_value x.hardware_version ∷ version_value x.software_version ∷ natural_value x.software_vcs_revision_id ∷ naturals_value x.unique_id ∷ naturals_value x.name ∷ naturals_value x.software_image_crc ∷ naturals_value x.certificate_of_authenticity ∷ []))

abbrev pub node_info_of : Val → NodeInfo
node_info_of v = record {
  protocol_version = version_of (part 0 v);
  hardware_version = version_of (part 1 v);
  software_version = version_of (part 2 v);
  software_vcs_revision_id = natural 64 (part 3 v);
  unique_id = unique_id_of (part 4 v);
  name = naturals_of 8 (part 5 v);
  software_image_crc = naturals_of 64 (part 6 v);
  certificate_of_authenticity = naturals_of 8 (part 7 v);
}

abbrev pub FitsNodeInfo : NodeInfo → Type 0
FitsNodeInfo x = FitsVersion x.protocol_version × FitsVersion x.hardware_version × FitsVersion x.software_version × (x.software_vcs_revision_id < 2 ^ 64) × IsUniqueId x.unique_id × HoldsBytes 50 x.name × HoldsNaturals 64 1 x.software_image_crc × HoldsBytes 222 x.certificate_of_authenticity
