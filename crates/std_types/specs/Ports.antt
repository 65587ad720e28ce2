-- The fixed service-IDs and subject-IDs of the standard types (Cyphal Specification, chapter 5).
use Rattle.std.specs.Prelude.{ℕ}

-- node.GetInfo
abbrev pub get_info_service : ℕ
get_info_service = 430

-- register.Access
abbrev pub register_access_service : ℕ
register_access_service = 384

-- register.List
abbrev pub register_list_service : ℕ
register_list_service = 385

-- file.GetInfo
abbrev pub file_get_info_service : ℕ
file_get_info_service = 405

-- file.List
abbrev pub file_list_service : ℕ
file_list_service = 406

-- file.Modify
abbrev pub file_modify_service : ℕ
file_modify_service = 407

-- file.Read
abbrev pub file_read_service : ℕ
file_read_service = 408

-- file.Write
abbrev pub file_write_service : ℕ
file_write_service = 409

-- node.Heartbeat
abbrev pub heartbeat_subject : ℕ
heartbeat_subject = 7509

-- time.Synchronization
abbrev pub synchronization_subject : ℕ
synchronization_subject = 7168

-- pnp.NodeIDAllocationData.1.0
abbrev pub allocation_subject : ℕ
allocation_subject = 8166
