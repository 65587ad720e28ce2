-- The structs and the values of the standard types of files determine each other.
use Rattle.std.specs.Prelude.{◌≡◌, [], ◌∷◌, refl, true, false, codes}
use Rattle.std.proofs.Common.{sym, ◌∙◌}
use Rattle.dsdl_types.specs.Stored.{IsStored}
use Rattle.dsdl_types.specs.Values.{Val, Parts}
use Rattle.dsdl_types.specs.Views.{in_row}
use Rattle.std_types.specs.Fields.{byte_array_back, byte_array_forth, natural_back, natural_forth}
use Rattle.std_types.specs.Fields.{naturals_back, naturals_forth, parts_are, truth_forth}
use Rattle.std_types.specs.Held.{part}
use Rattle.std_types.specs.Files.{path_value, path_of, FitsPath, file_error_value, file_error_of}
use Rattle.std_types.specs.Files.{FitsFileError, info_request_value, info_request_of}
use Rattle.std_types.specs.Files.{FitsInfoRequest, info_reply_value, info_reply_of, FitsInfoReply}
use Rattle.std_types.specs.Files.{file_list_request_value, file_list_request_of}
use Rattle.std_types.specs.Files.{FitsFileListRequest, file_list_reply_value, file_list_reply_of}
use Rattle.std_types.specs.Files.{FitsFileListReply, read_request_value, read_request_of}
use Rattle.std_types.specs.Files.{FitsReadRequest, read_reply_value, read_reply_of, FitsReadReply}
use Rattle.std_types.specs.Schemas.{path, file_error, info_request, info_reply, file_list_request}
use Rattle.std_types.specs.Schemas.{file_list_reply, read_request, read_reply}
use Rattle.std_types.specs.declared.file.Path.{Path}
use Rattle.std_types.specs.declared.file.FileError.{FileError}
use Rattle.std_types.specs.declared.file.InfoRequest.{InfoRequest}
use Rattle.std_types.specs.declared.file.InfoReply.{InfoReply}
use Rattle.std_types.specs.declared.file.FileListRequest.{FileListRequest}
use Rattle.std_types.specs.declared.file.FileListReply.{FileListReply}
use Rattle.std_types.specs.declared.file.ReadRequest.{ReadRequest}
use Rattle.std_types.specs.declared.file.ReadReply.{ReadReply}

pub path_back : (x : Path) → FitsPath x
    → IsStored path (path_value x) × (path_of (path_value x) ≡ x)
path_back x f =
    let path_kept = naturals_back 8 refl 255 x.path f in
    ((path_kept.0, tt), λ i. record { path = path_kept.1 i })

pub path_forth : (v : Val) → IsStored path v → FitsPath (path_of v) × (path_value (path_of v) ≡ v)
path_forth v h =
    let fields = parts_are path refl v h in
    let path_held = naturals_forth 8 refl 255 (part 0 v) fields.1.0 in
    (path_held.0, (λ i. Parts (in_row (path_held.1 i ∷ []))) ∙ sym fields.0)

pub file_error_back : (x : FileError) → FitsFileError x
    → IsStored file_error (file_error_value x) × (file_error_of (file_error_value x) ≡ x)
file_error_back x f = ((f, tt), λ i. record { value = natural_back 16 x.value f i })

pub file_error_forth : (v : Val) → IsStored file_error v
    → FitsFileError (file_error_of v) × (file_error_value (file_error_of v) ≡ v)
file_error_forth v h =
    let fields = parts_are file_error refl v h in
    let value_held = natural_forth 16 true (part 0 v) fields.1.0 in
    (value_held.0, (λ i. Parts (in_row (value_held.1 i ∷ []))) ∙ sym fields.0)

pub info_request_back : (x : InfoRequest) → FitsInfoRequest x
    → IsStored info_request (info_request_value x) × (info_request_of (info_request_value x) ≡ x)
info_request_back x f =
    let path_kept = byte_array_back (codes "path") 255 x.path f in
    ((path_kept.0, tt), λ i. record { path = path_kept.1 i })

pub info_request_forth : (v : Val) → IsStored info_request v
    → FitsInfoRequest (info_request_of v) × (info_request_value (info_request_of v) ≡ v)
info_request_forth v h =
    let fields = parts_are info_request refl v h in
    let path_held = byte_array_forth (codes "path") 255 (part 0 v) fields.1.0 in
    (path_held.0, (λ i. Parts (in_row (path_held.1 i ∷ []))) ∙ sym fields.0)

pub info_reply_back : (x : InfoReply) → FitsInfoReply x
    → IsStored info_reply (info_reply_value x) × (info_reply_of (info_reply_value x) ≡ x)
info_reply_back x f =
    let error_kept = file_error_back x.error f.0 in (
      (error_kept.0, (f.1, (f.2, (tt, (tt, (tt, (tt, tt))))))),
      λ i. record {
        error = error_kept.1 i;
        size = natural_back 64 x.size f.1 i;
        unix_timestamp_of_last_modification = natural_back 64 x.unix_timestamp_of_last_modification f.2 i;
        is_file_not_directory = x.is_file_not_directory;
        is_link = x.is_link;
        is_readable = x.is_readable;
        is_writeable = x.is_writeable;
      },
    )

pub info_reply_forth : (v : Val) → IsStored info_reply v
    → FitsInfoReply (info_reply_of v) × (info_reply_value (info_reply_of v) ≡ v)
info_reply_forth v h =
    let fields = parts_are info_reply refl v h in
    let error_held = file_error_forth (part 0 v) fields.1.0 in
    let size_held = natural_forth 40 false (part 1 v) fields.1.1.0 in
    let unix_timestamp_of_last_modification_held = natural_forth 40 false (part 2 v) fields.1.1.1.0 in
    let is_file_not_directory_held = truth_forth (part 3 v) fields.1.1.1.1.0 in
    let is_link_held = truth_forth (part 4 v) fields.1.1.1.1.1.0 in
    let is_readable_held = truth_forth (part 5 v) fields.1.1.1.1.1.1.0 in
    let is_writeable_held = truth_forth (part 6 v) fields.1.1.1.1.1.1.1.0 in
    ((error_held.0, size_held.0, unix_timestamp_of_last_modification_held.0), (λ i. Parts (in_row (error_held.1 i ∷ size_held.1 i ∷ unix_timestamp_of_last_modification_held.1 i ∷ is_file_not_directory_held i ∷ is_link_held i ∷ is_readable_held i ∷ is_writeable_held i ∷ []))) ∙ sym fields.0)

pub file_list_request_back : (x : FileListRequest) → FitsFileListRequest x
    → IsStored file_list_request (file_list_request_value x) × (file_list_request_of (file_list_request_value x) ≡ x)
file_list_request_back x f =
    let directory_path_kept = byte_array_back (codes "path") 255 x.directory_path f.1 in (
      (f.0, (directory_path_kept.0, tt)),
      λ i. record {
        entry_index = natural_back 32 x.entry_index f.0 i;
        directory_path = directory_path_kept.1 i;
      },
    )

pub file_list_request_forth : (v : Val) → IsStored file_list_request v
    → FitsFileListRequest (file_list_request_of v) × (file_list_request_value (file_list_request_of v) ≡ v)
file_list_request_forth v h =
    let fields = parts_are file_list_request refl v h in
    let entry_index_held = natural_forth 32 true (part 0 v) fields.1.0 in
    let directory_path_held = byte_array_forth (codes "path") 255 (part 1 v) fields.1.1.0 in
    ((entry_index_held.0, directory_path_held.0), (λ i. Parts (in_row (entry_index_held.1 i ∷ directory_path_held.1 i ∷ []))) ∙ sym fields.0)

pub file_list_reply_back : (x : FileListReply) → FitsFileListReply x
    → IsStored file_list_reply (file_list_reply_value x) × (file_list_reply_of (file_list_reply_value x) ≡ x)
file_list_reply_back x f =
    let entry_base_name_kept = byte_array_back (codes "path") 255 x.entry_base_name f in
    ((entry_base_name_kept.0, tt), λ i. record { entry_base_name = entry_base_name_kept.1 i })

pub file_list_reply_forth : (v : Val) → IsStored file_list_reply v
    → FitsFileListReply (file_list_reply_of v) × (file_list_reply_value (file_list_reply_of v) ≡ v)
file_list_reply_forth v h =
    let fields = parts_are file_list_reply refl v h in
    let entry_base_name_held = byte_array_forth (codes "path") 255 (part 0 v) fields.1.0 in
    (entry_base_name_held.0, (λ i. Parts (in_row (entry_base_name_held.1 i ∷ []))) ∙ sym fields.0)

pub read_request_back : (x : ReadRequest) → FitsReadRequest x
    → IsStored read_request (read_request_value x) × (read_request_of (read_request_value x) ≡ x)
read_request_back x f =
    let path_kept = byte_array_back (codes "path") 255 x.path f.1 in (
      (f.0, (path_kept.0, tt)),
      λ i. record {
        offset = natural_back 64 x.offset f.0 i;
        path = path_kept.1 i;
      },
    )

pub read_request_forth : (v : Val) → IsStored read_request v
    → FitsReadRequest (read_request_of v) × (read_request_value (read_request_of v) ≡ v)
read_request_forth v h =
    let fields = parts_are read_request refl v h in
    let offset_held = natural_forth 40 false (part 0 v) fields.1.0 in
    let path_held = byte_array_forth (codes "path") 255 (part 1 v) fields.1.1.0 in
    ((offset_held.0, path_held.0), (λ i. Parts (in_row (offset_held.1 i ∷ path_held.1 i ∷ []))) ∙ sym fields.0)

pub read_reply_back : (x : ReadReply) → FitsReadReply x
    → IsStored read_reply (read_reply_value x) × (read_reply_of (read_reply_value x) ≡ x)
read_reply_back x f =
    let error_kept = file_error_back x.error f.0 in
    let data_kept = byte_array_back (codes "value") 256 x.data f.1 in
    ((error_kept.0, (data_kept.0, tt)), λ i. record { error = error_kept.1 i; «data» = data_kept.1 i })

pub read_reply_forth : (v : Val) → IsStored read_reply v
    → FitsReadReply (read_reply_of v) × (read_reply_value (read_reply_of v) ≡ v)
read_reply_forth v h =
    let fields = parts_are read_reply refl v h in
    let error_held = file_error_forth (part 0 v) fields.1.0 in
    let data_held = byte_array_forth (codes "value") 256 (part 1 v) fields.1.1.0 in
    ((error_held.0, data_held.0), (λ i. Parts (in_row (error_held.1 i ∷ data_held.1 i ∷ []))) ∙ sym fields.0)
