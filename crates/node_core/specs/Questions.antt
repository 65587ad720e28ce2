-- What a request to a node asks.
use Rattle.std.specs.Prelude.{◌≡◌, ◌⊎◌, ℕ, ◌==◌, if◌then◌else◌, List, Option, Some, None, ⊤}
use Rattle.std.specs.Prelude.{option_map}
use Rattle.dsdl_types.specs.Values.{Val}
use Rattle.wire_values.specs.Payloads.{payload_value}
use Rattle.std_types.specs.Files.{FitsFileListRequest, FitsInfoRequest, FitsReadRequest}
use Rattle.std_types.specs.Files.{file_list_request_of, info_request_of, read_request_of}
use Rattle.std_types.specs.Ports.{get_info_service, register_access_service, register_list_service}
use Rattle.std_types.specs.Ports.{file_get_info_service, file_list_service, file_modify_service}
use Rattle.std_types.specs.Ports.{file_read_service, file_write_service}
use Rattle.std_types.specs.Registers.{FitsAccessRequest, FitsListRequest, access_request_of}
use Rattle.std_types.specs.Registers.{list_request_of}
use Rattle.std_types.specs.Schemas.{access_request, file_list_request, info_request, list_request}
use Rattle.std_types.specs.Schemas.{read_request}
use Rattle.node_core.specs.declared.question.Question.{Question}
use Rattle.node_core.specs.declared.question.Question.TheVariants.{Info, Access, Listing, FileInfo}
use Rattle.node_core.specs.declared.question.Question.TheVariants.{FileName, FileBytes, Unsupported}

-- an access to a register, and a listing, by the value of the request
abbrev pub access_of : Val → Question
access_of v = Access (access_request_of v)

abbrev pub listing_of : Val → Question
listing_of v = Listing (list_request_of v)

-- what stands at a path, a name of a folder, and bytes of a file, by the value of the request
abbrev pub file_info_of : Val → Question
file_info_of v = FileInfo (info_request_of v)

abbrev pub file_name_of : Val → Question
file_name_of v = FileName (file_list_request_of v)

abbrev pub file_bytes_of : Val → Question
file_bytes_of v = FileBytes (read_request_of v)

-- what a request of a file service asks; nothing that is served is changed
abbrev pub file_question_in : ℕ → List ℕ → Option Question
file_question_in service payload =
    if service == file_get_info_service
    then option_map file_info_of (payload_value info_request payload)
    else (if service == file_list_service
    then option_map file_name_of (payload_value file_list_request payload)
    else (if service == file_modify_service then Some Unsupported
    else (if service == file_read_service
    then option_map file_bytes_of (payload_value read_request payload)
    else (if service == file_write_service then Some Unsupported
    else None))))

-- what a request of a service asks, where the node answers it: information on the node, a
-- register's value, the name of a register, or something of a file; a request that can't be read
-- asks nothing
abbrev pub question_in : ℕ → List ℕ → Option Question
question_in service payload =
    if service == get_info_service then Some Info
    else (if service == register_access_service
    then option_map access_of (payload_value access_request payload)
    else (if service == register_list_service
    then option_map listing_of (payload_value list_request payload)
    else file_question_in service payload))

-- a service whose requests are answered by what their payload says: accesses to registers and
-- listings of them, and of files what stands at a path, names of folders, and reads
abbrev pub IsReadService : ℕ → Type 0
IsReadService service =
    (service ≡ register_access_service) ⊎ ((service ≡ register_list_service)
    ⊎ ((service ≡ file_get_info_service) ⊎ ((service ≡ file_list_service)
    ⊎ (service ≡ file_read_service))))

-- a question of a register or of a file, other than one that isn't supported
abbrev pub IsOfContent : Question → Type 0
IsOfContent Info = ⊥
IsOfContent (Access request) = ⊤
IsOfContent (Listing request) = ⊤
IsOfContent (FileInfo request) = ⊤
IsOfContent (FileName request) = ⊤
IsOfContent (FileBytes request) = ⊤
IsOfContent Unsupported = ⊥

-- what is asked is a value of the request's type
abbrev pub FitsQuestion : Question → Type 0
FitsQuestion Info = Unit {0}
FitsQuestion (Access request) = FitsAccessRequest request
FitsQuestion (Listing request) = FitsListRequest request
FitsQuestion (FileInfo request) = FitsInfoRequest request
FitsQuestion (FileName request) = FitsFileListRequest request
FitsQuestion (FileBytes request) = FitsReadRequest request
FitsQuestion Unsupported = Unit {0}
