-- What a node says of itself, and the bytes of that (Cyphal Specification, section 5.3).
use Rattle.std.specs.Prelude.{ℕ, List, [], ◌∷◌, ◌++◌, length, min}
use Rattle.std.specs.Int.{w32, w64, to_le_bytes}
use Rattle.std_types.specs.declared.node.Heartbeat.{Heartbeat}
use Rattle.std_types.specs.declared.node.NodeInfo.{NodeInfo}
use Rattle.std_types.specs.declared.node.Version.{Version}
use Rattle.std_types.specs.Node.{heartbeat_value, node_info_value}
use Rattle.std_types.specs.Schemas.{heartbeat, node_info}
use Rattle.dsdl_types.specs.Laws.{encoding}

-- the heartbeat so many seconds after the node's start
abbrev pub heartbeat_in : ℕ → ℕ → ℕ → ℕ → Heartbeat
heartbeat_in health mode code seconds = record {
  uptime = seconds;
  health = record { value = health };
  mode = record { value = mode };
  vendor_specific_status_code = code;
}

-- its seven bytes: the uptime, the least significant byte first; the health, the mode, the code
abbrev pub heartbeat_bytes : ℕ → ℕ → ℕ → ℕ → List ℕ
heartbeat_bytes health mode code seconds = to_le_bytes w32 seconds ++ health ∷ mode ∷ code ∷ []

-- what a node answers that is as `info` says: the protocol is 1.0, there is no CRC and no
-- certificate
abbrev pub info_of : NodeInfo → NodeInfo
info_of info = record {
  protocol_version = record { major = 1; minor = 0 };
  hardware_version = info.hardware_version;
  software_version = info.software_version;
  software_vcs_revision_id = info.software_vcs_revision_id;
  unique_id = info.unique_id;
  name = info.name;
  software_image_crc = [];
  certificate_of_authenticity = [];
}

-- a version: the major number, then the minor one
abbrev pub version_bytes : Version → List ℕ
version_bytes version = version.major ∷ version.minor ∷ []

-- its bytes: three versions, the revision with the least significant byte first, the unique id,
-- the name behind its length, and the two lengths 0
abbrev pub info_bytes : NodeInfo → List ℕ
info_bytes info = 1 ∷ 0 ∷ version_bytes info.hardware_version ++ version_bytes info.software_version
    ++ to_le_bytes w64 info.software_vcs_revision_id ++ info.unique_id
    ++ length info.name ∷ info.name ++ 0 ∷ 0 ∷ []

-- the uptime that a heartbeat says: it stays at the greatest of 32 bits
abbrev pub uptime : ℕ → ℕ
uptime seconds = min seconds 0xFFFFFFFF

-- the payload of the heartbeat so many seconds after the start
unfoldable pub heartbeat_payload : ℕ → ℕ → ℕ → ℕ → List ℕ
heartbeat_payload health mode code seconds =
    encoding heartbeat (heartbeat_value (heartbeat_in health mode code (uptime seconds)))

-- the payload of the reply of a node that is as `info` says
unfoldable pub info_payload : NodeInfo → List ℕ
info_payload info = encoding node_info (node_info_value (info_of info))
