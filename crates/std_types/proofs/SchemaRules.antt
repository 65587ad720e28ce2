-- The schemas of the standard types keep the rules of the language
use Rattle.std.proofs.Common.{◌≡◌, true, refl}
use Rattle.dsdl_types.specs.Rules.{IsSchema}
use Rattle.dsdl_types.specs.Schemas.{is_composite}
use Rattle.dsdl_types.proofs.RuleTests.{rules_kept}
use Rattle.std_types.specs.Schemas.{health, mode, version, heartbeat, node_info_request, node_info, node_id, node_id_allocation, synchronized_timestamp, synchronization, empty, string, unstructured, bit, integer64, integer32, integer16, integer8, natural64, natural32, natural16, natural8, real64, real32, real16, register_name, register_value, access_request, access_reply, list_request, list_reply, path, file_error, info_request, info_reply, file_list_request, file_list_reply, read_request, read_reply}
use Rattle.std_types.specs.Types.{schema_of}
use Rattle.std_types.specs.declared.std_name.StdName.{StdName}
use Rattle.std_types.specs.declared.std_name.StdName.TheVariants as N

pub schema_rules : (name : StdName) → IsSchema (schema_of name)
unfolding schema_of
schema_rules N.Health = rules_kept health refl
schema_rules N.Mode = rules_kept mode refl
schema_rules N.Version = rules_kept version refl
schema_rules N.Heartbeat = rules_kept heartbeat refl
schema_rules N.NodeInfoRequest = rules_kept node_info_request refl
schema_rules N.NodeInfo = rules_kept node_info refl
schema_rules N.NodeId = rules_kept node_id refl
schema_rules N.NodeIdAllocation = rules_kept node_id_allocation refl
schema_rules N.SynchronizedTimestamp = rules_kept synchronized_timestamp refl
schema_rules N.Synchronization = rules_kept synchronization refl
schema_rules N.Empty = rules_kept empty refl
schema_rules N.PrimitiveString = rules_kept string refl
schema_rules N.Unstructured = rules_kept unstructured refl
schema_rules N.Bit = rules_kept bit refl
schema_rules N.Integer64 = rules_kept integer64 refl
schema_rules N.Integer32 = rules_kept integer32 refl
schema_rules N.Integer16 = rules_kept integer16 refl
schema_rules N.Integer8 = rules_kept integer8 refl
schema_rules N.Natural64 = rules_kept natural64 refl
schema_rules N.Natural32 = rules_kept natural32 refl
schema_rules N.Natural16 = rules_kept natural16 refl
schema_rules N.Natural8 = rules_kept natural8 refl
schema_rules N.Real64 = rules_kept real64 refl
schema_rules N.Real32 = rules_kept real32 refl
schema_rules N.Real16 = rules_kept real16 refl
schema_rules N.Name = rules_kept register_name refl
schema_rules N.RegisterValue = rules_kept register_value refl
schema_rules N.AccessRequest = rules_kept access_request refl
schema_rules N.AccessReply = rules_kept access_reply refl
schema_rules N.ListRequest = rules_kept list_request refl
schema_rules N.ListReply = rules_kept list_reply refl
schema_rules N.Path = rules_kept path refl
schema_rules N.FileError = rules_kept file_error refl
schema_rules N.InfoRequest = rules_kept info_request refl
schema_rules N.InfoReply = rules_kept info_reply refl
schema_rules N.FileListRequest = rules_kept file_list_request refl
schema_rules N.FileListReply = rules_kept file_list_reply refl
schema_rules N.ReadRequest = rules_kept read_request refl
schema_rules N.ReadReply = rules_kept read_reply refl

pub schema_composite : (name : StdName) → is_composite (schema_of name) ≡ true
unfolding schema_of
schema_composite N.Health = refl
schema_composite N.Mode = refl
schema_composite N.Version = refl
schema_composite N.Heartbeat = refl
schema_composite N.NodeInfoRequest = refl
schema_composite N.NodeInfo = refl
schema_composite N.NodeId = refl
schema_composite N.NodeIdAllocation = refl
schema_composite N.SynchronizedTimestamp = refl
schema_composite N.Synchronization = refl
schema_composite N.Empty = refl
schema_composite N.PrimitiveString = refl
schema_composite N.Unstructured = refl
schema_composite N.Bit = refl
schema_composite N.Integer64 = refl
schema_composite N.Integer32 = refl
schema_composite N.Integer16 = refl
schema_composite N.Integer8 = refl
schema_composite N.Natural64 = refl
schema_composite N.Natural32 = refl
schema_composite N.Natural16 = refl
schema_composite N.Natural8 = refl
schema_composite N.Real64 = refl
schema_composite N.Real32 = refl
schema_composite N.Real16 = refl
schema_composite N.Name = refl
schema_composite N.RegisterValue = refl
schema_composite N.AccessRequest = refl
schema_composite N.AccessReply = refl
schema_composite N.ListRequest = refl
schema_composite N.ListReply = refl
schema_composite N.Path = refl
schema_composite N.FileError = refl
schema_composite N.InfoRequest = refl
schema_composite N.InfoReply = refl
schema_composite N.FileListRequest = refl
schema_composite N.FileListReply = refl
schema_composite N.ReadRequest = refl
schema_composite N.ReadReply = refl
