-- The schema of each standard type, by its name.
use Rattle.dsdl_types.specs.Schemas.{Sch}
use Rattle.std_types.specs.Schemas.{health, mode, version, heartbeat, node_info_request, node_info}
use Rattle.std_types.specs.Schemas.{node_id, node_id_allocation, synchronized_timestamp}
use Rattle.std_types.specs.Schemas.{synchronization, empty, string, unstructured, bit, integer64}
use Rattle.std_types.specs.Schemas.{integer32, integer16, integer8, natural64, natural32, natural16}
use Rattle.std_types.specs.Schemas.{natural8, real64, real32, real16, register_name, register_value}
use Rattle.std_types.specs.Schemas.{access_request, access_reply, list_request, list_reply, path}
use Rattle.std_types.specs.Schemas.{file_error, info_request, info_reply, file_list_request}
use Rattle.std_types.specs.Schemas.{file_list_reply, read_request, read_reply}
use Rattle.std_types.specs.declared.std_name.StdName.{StdName}
use Rattle.std_types.specs.declared.std_name.StdName.TheVariants as N

unfoldable pub schema_of : StdName → Sch
schema_of N.Health = health
schema_of N.Mode = mode
schema_of N.Version = version
schema_of N.Heartbeat = heartbeat
schema_of N.NodeInfoRequest = node_info_request
schema_of N.NodeInfo = node_info
schema_of N.NodeId = node_id
schema_of N.NodeIdAllocation = node_id_allocation
schema_of N.SynchronizedTimestamp = synchronized_timestamp
schema_of N.Synchronization = synchronization
schema_of N.Empty = empty
schema_of N.PrimitiveString = string
schema_of N.Unstructured = unstructured
schema_of N.Bit = bit
schema_of N.Integer64 = integer64
schema_of N.Integer32 = integer32
schema_of N.Integer16 = integer16
schema_of N.Integer8 = integer8
schema_of N.Natural64 = natural64
schema_of N.Natural32 = natural32
schema_of N.Natural16 = natural16
schema_of N.Natural8 = natural8
schema_of N.Real64 = real64
schema_of N.Real32 = real32
schema_of N.Real16 = real16
schema_of N.Name = register_name
schema_of N.RegisterValue = register_value
schema_of N.AccessRequest = access_request
schema_of N.AccessReply = access_reply
schema_of N.ListRequest = list_request
schema_of N.ListReply = list_reply
schema_of N.Path = path
schema_of N.FileError = file_error
schema_of N.InfoRequest = info_request
schema_of N.InfoReply = info_reply
schema_of N.FileListRequest = file_list_request
schema_of N.FileListReply = file_list_reply
schema_of N.ReadRequest = read_request
schema_of N.ReadReply = read_reply
