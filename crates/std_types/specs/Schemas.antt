-- The schemas of the standard data types, by their definitions. The names of types begin with
-- `uavcan.`.
use Rattle.std.specs.Prelude.{ℕ, ◌+◌, ◌-◌, true, false, codes}
use Rattle.dsdl_types.specs.Schemas.{Prim, PBool, PUint, PInt, PFloat, Sch, Flds, Simple, Fixed}
use Rattle.dsdl_types.specs.Schemas.{Var, Struct, Union, End, Pad, Field, tag_bits, variants}
use Rattle.dsdl_types.specs.Greatest.{up, longest_fields, longest_variant}

-- `uintN`, `truncated uintN`, `intN`, `floatN`, `bool`, `uint8[<=N]`
abbrev pub uint : ℕ → Sch
uint bits = Simple (PUint bits true)

abbrev pub truncated : ℕ → Sch
truncated bits = Simple (PUint bits false)

abbrev pub sint : ℕ → Sch
sint bits = Simple (PInt bits)

abbrev pub float : ℕ → Sch
float bits = Simple (PFloat bits true)

abbrev pub bool : Sch
bool = Simple PBool

abbrev pub bytes : ℕ → Sch
bytes cap = Var (uint 8) cap

-- `@sealed`, of a structure and of a union: the extent is the greatest length
abbrev pub sealed : Flds → Sch
sealed fs = Struct fs (record { extent = up (longest_fields fs 0); sealed = true })

abbrev pub sealed_union : Flds → Sch
sealed_union fs = Union fs (record { extent = up (tag_bits (variants fs) + longest_variant fs); sealed = true })

-- `@extent`, in bits
abbrev pub of_extent : ℕ → Flds → Sch
of_extent extent fs = Struct fs (record { extent = extent; sealed = false })

-- node.Health.1.0
abbrev pub health : Sch
health = sealed (Field (codes "value") (uint 2) End)

-- node.Mode.1.0
abbrev pub mode : Sch
mode = sealed (Field (codes "value") (uint 3) End)

-- node.Version.1.0
abbrev pub version : Sch
version = sealed (
    Field (codes "major") (uint 8) (
    Field (codes "minor") (uint 8) End))

-- node.Heartbeat.1.0, with the port 7509
abbrev pub heartbeat : Sch
heartbeat = of_extent 96 (
    Field (codes "uptime") (uint 32) (
    Field (codes "health") health (
    Field (codes "mode") mode (
    Field (codes "vendor_specific_status_code") (uint 8) End))))

-- node.GetInfo.1.0, with the port 430
abbrev pub node_info_request : Sch
node_info_request = sealed End

-- its reply
abbrev pub node_info : Sch
node_info = of_extent 3584 (
    Field (codes "protocol_version") version (
    Field (codes "hardware_version") version (
    Field (codes "software_version") version (
    Field (codes "software_vcs_revision_id") (uint 64) (
    Field (codes "unique_id") (Fixed (uint 8) 16) (
    Field (codes "name") (bytes 50) (
    Field (codes "software_image_crc") (Var (uint 64) 1) (
    Field (codes "certificate_of_authenticity") (bytes 222) End))))))))

-- node.ID.1.0
abbrev pub node_id : Sch
node_id = sealed (Field (codes "value") (uint 16) End)

-- pnp.NodeIDAllocationData.1.0, with the port 8166
abbrev pub node_id_allocation : Sch
node_id_allocation = of_extent 384 (
    Field (codes "unique_id_hash") (truncated 48) (
    Field (codes "allocated_node_id") (Var node_id 1) End))

-- primitive.Empty.1.0
abbrev pub empty : Sch
empty = sealed End

-- primitive.String.1.0
abbrev pub string : Sch
string = sealed (Field (codes "value") (bytes 256) End)

-- primitive.Unstructured.1.0
abbrev pub unstructured : Sch
unstructured = sealed (Field (codes "value") (bytes 256) End)

-- primitive.array.Bit.1.0
abbrev pub bit : Sch
bit = sealed (Field (codes "value") (Var bool 2048) End)

-- primitive.array.Integer64.1.0
abbrev pub integer64 : Sch
integer64 = sealed (Field (codes "value") (Var (sint 64) 32) End)

-- primitive.array.Integer32.1.0
abbrev pub integer32 : Sch
integer32 = sealed (Field (codes "value") (Var (sint 32) 64) End)

-- primitive.array.Integer16.1.0
abbrev pub integer16 : Sch
integer16 = sealed (Field (codes "value") (Var (sint 16) 128) End)

-- primitive.array.Integer8.1.0
abbrev pub integer8 : Sch
integer8 = sealed (Field (codes "value") (Var (sint 8) 256) End)

-- primitive.array.Natural64.1.0
abbrev pub natural64 : Sch
natural64 = sealed (Field (codes "value") (Var (uint 64) 32) End)

-- primitive.array.Natural32.1.0
abbrev pub natural32 : Sch
natural32 = sealed (Field (codes "value") (Var (uint 32) 64) End)

-- primitive.array.Natural16.1.0
abbrev pub natural16 : Sch
natural16 = sealed (Field (codes "value") (Var (uint 16) 128) End)

-- primitive.array.Natural8.1.0
abbrev pub natural8 : Sch
natural8 = sealed (Field (codes "value") (Var (uint 8) 256) End)

-- primitive.array.Real64.1.0
abbrev pub real64 : Sch
real64 = sealed (Field (codes "value") (Var (float 64) 32) End)

-- primitive.array.Real32.1.0
abbrev pub real32 : Sch
real32 = sealed (Field (codes "value") (Var (float 32) 64) End)

-- primitive.array.Real16.1.0
abbrev pub real16 : Sch
real16 = sealed (Field (codes "value") (Var (float 16) 128) End)

-- register.Name.1.0
abbrev pub register_name : Sch
register_name = sealed (Field (codes "name") (bytes 255) End)

-- register.Value.1.0
abbrev pub register_value : Sch
register_value = sealed_union (
    Field (codes "empty") empty (
    Field (codes "string") string (
    Field (codes "unstructured") unstructured (
    Field (codes "bit") bit (
    Field (codes "integer64") integer64 (
    Field (codes "integer32") integer32 (
    Field (codes "integer16") integer16 (
    Field (codes "integer8") integer8 (
    Field (codes "natural64") natural64 (
    Field (codes "natural32") natural32 (
    Field (codes "natural16") natural16 (
    Field (codes "natural8") natural8 (
    Field (codes "real64") real64 (
    Field (codes "real32") real32 (
    Field (codes "real16") real16 End)))))))))))))))

-- time.SynchronizedTimestamp.1.0
abbrev pub synchronized_timestamp : Sch
synchronized_timestamp = sealed (Field (codes "microsecond") (truncated 56) End)

-- time.Synchronization.1.0, with the port 7168
abbrev pub synchronization : Sch
synchronization = sealed (Field (codes "previous_transmission_timestamp_microsecond") (truncated 56) End)

-- register.Access.1.0, with the port 384
abbrev pub access_request : Sch
access_request = of_extent 4120 (
    Field (codes "name") register_name (
    Field (codes "value") register_value End))

-- its reply
abbrev pub access_reply : Sch
access_reply = of_extent 2136 (
    Field (codes "timestamp") synchronized_timestamp (
    Field (codes "mutable") bool (
    Field (codes "persistent") bool (
    Pad 6 (
    Field (codes "value") register_value End)))))

-- register.List.1.0, with the port 385
abbrev pub list_request : Sch
list_request = sealed (Field (codes "index") (uint 16) End)

-- its reply
abbrev pub list_reply : Sch
list_reply = sealed (Field (codes "name") register_name End)

-- file.Path.2.0
abbrev pub path : Sch
path = sealed (Field (codes "path") (bytes 255) End)

-- file.Error.1.0
abbrev pub file_error : Sch
file_error = sealed (Field (codes "value") (uint 16) End)

-- file.GetInfo.1.0, with the port 405
abbrev pub info_request : Sch
info_request = of_extent 2400 (Field (codes "path") path End)

-- its reply
abbrev pub info_reply : Sch
info_reply = of_extent 384 (
    Field (codes "error") file_error (
    Field (codes "size") (truncated 40) (
    Field (codes "unix_timestamp_of_last_modification") (truncated 40) (
    Field (codes "is_file_not_directory") bool (
    Field (codes "is_link") bool (
    Field (codes "is_readable") bool (
    Field (codes "is_writeable") bool (
    Pad 4 End))))))))

-- file.List.1.0, with the port 406
abbrev pub file_list_request : Sch
file_list_request = of_extent 2400 (
    Field (codes "entry_index") (uint 32) (
    Pad 32 (
    Field (codes "directory_path") path End)))

-- its reply
abbrev pub file_list_reply : Sch
file_list_reply = of_extent 2400 (
    Pad 32 (
    Field (codes "entry_base_name") path End))

-- file.Read.1.0, with the port 408
abbrev pub read_request : Sch
read_request = of_extent 2400 (
    Field (codes "offset") (truncated 40) (
    Field (codes "path") path End))

-- its reply
abbrev pub read_reply : Sch
read_reply = of_extent 2400 (
    Field (codes "error") file_error (
    Field (codes "data") unstructured End))
