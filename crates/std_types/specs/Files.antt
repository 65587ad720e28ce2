-- The values of the standard types of files, and what the structs hold of values.
use Rattle.std.specs.Prelude.{◌^◌, ◌<◌, [], ◌∷◌}
use Rattle.dsdl_types.specs.Values.{Parts, Truth, Val}
use Rattle.dsdl_types.specs.Views.{in_row}
use Rattle.std_types.specs.Held.{HoldsBytes, alone, natural, natural_value, naturals_of}
use Rattle.std_types.specs.Held.{naturals_value, part, truth_of}
use Rattle.std_types.specs.declared.file.Path.{Path}
use Rattle.std_types.specs.declared.file.FileError.{FileError}
use Rattle.std_types.specs.declared.file.InfoRequest.{InfoRequest}
use Rattle.std_types.specs.declared.file.InfoReply.{InfoReply}
use Rattle.std_types.specs.declared.file.FileListRequest.{FileListRequest}
use Rattle.std_types.specs.declared.file.FileListReply.{FileListReply}
use Rattle.std_types.specs.declared.file.ReadRequest.{ReadRequest}
use Rattle.std_types.specs.declared.file.ReadReply.{ReadReply}

-- file.Path.2.0
abbrev pub path_value : Path → Val
path_value x = Parts (in_row (naturals_value x.path ∷ []))

abbrev pub path_of : Val → Path
path_of v = record { path = naturals_of 8 (part 0 v) }

abbrev pub FitsPath : Path → Type 0
FitsPath x = HoldsBytes 255 x.path

-- file.Error.1.0
abbrev pub file_error_value : FileError → Val
file_error_value x = Parts (in_row (natural_value x.value ∷ []))

abbrev pub file_error_of : Val → FileError
file_error_of v = record { value = natural 16 (part 0 v) }

abbrev pub FitsFileError : FileError → Type 0
FitsFileError x = x.value < 2 ^ 16

-- the request of file.GetInfo
abbrev pub info_request_value : InfoRequest → Val
info_request_value x = Parts (in_row (alone (naturals_value x.path) ∷ []))

abbrev pub info_request_of : Val → InfoRequest
info_request_of v = record { path = naturals_of 8 (part 0 (part 0 v)) }

abbrev pub FitsInfoRequest : InfoRequest → Type 0
FitsInfoRequest x = HoldsBytes 255 x.path

-- the reply of file.GetInfo
abbrev pub info_reply_value : InfoReply → Val
info_reply_value x = Parts (in_row (file_error_value x.error ∷ natural_value x.size ∷ natural_value x.unix_timestamp_of_last_modification ∷ Truth x.is_file_not_directory ∷ Truth x.is_link ∷ Truth x.is_readable ∷ Truth x.is_writeable ∷ []))

abbrev pub info_reply_of : Val → InfoReply
info_reply_of v = record {
  error = file_error_of (part 0 v);
  size = natural 64 (part 1 v);
  unix_timestamp_of_last_modification = natural 64 (part 2 v);
  is_file_not_directory = truth_of (part 3 v);
  is_link = truth_of (part 4 v);
  is_readable = truth_of (part 5 v);
  is_writeable = truth_of (part 6 v);
}

abbrev pub FitsInfoReply : InfoReply → Type 0
FitsInfoReply x = FitsFileError x.error × (x.size < 2 ^ 64) × (x.unix_timestamp_of_last_modification < 2 ^ 64)

-- the request of file.List
abbrev pub file_list_request_value : FileListRequest → Val
file_list_request_value x = Parts (in_row (natural_value x.entry_index ∷ alone (naturals_value x.directory_path) ∷ []))

abbrev pub file_list_request_of : Val → FileListRequest
file_list_request_of v = record {
  entry_index = natural 32 (part 0 v);
  directory_path = naturals_of 8 (part 0 (part 1 v));
}

abbrev pub FitsFileListRequest : FileListRequest → Type 0
FitsFileListRequest x = (x.entry_index < 2 ^ 32) × HoldsBytes 255 x.directory_path

-- the reply of file.List
abbrev pub file_list_reply_value : FileListReply → Val
file_list_reply_value x = Parts (in_row (alone (naturals_value x.entry_base_name) ∷ []))

abbrev pub file_list_reply_of : Val → FileListReply
file_list_reply_of v = record { entry_base_name = naturals_of 8 (part 0 (part 0 v)) }

abbrev pub FitsFileListReply : FileListReply → Type 0
FitsFileListReply x = HoldsBytes 255 x.entry_base_name

-- the request of file.Read
abbrev pub read_request_value : ReadRequest → Val
read_request_value x = Parts (in_row (natural_value x.offset ∷ alone (naturals_value x.path) ∷ []))

abbrev pub read_request_of : Val → ReadRequest
read_request_of v = record {
  offset = natural 64 (part 0 v);
  path = naturals_of 8 (part 0 (part 1 v));
}

abbrev pub FitsReadRequest : ReadRequest → Type 0
FitsReadRequest x = (x.offset < 2 ^ 64) × HoldsBytes 255 x.path

-- the reply of file.Read
abbrev pub read_reply_value : ReadReply → Val
read_reply_value x = Parts (in_row (file_error_value x.error ∷ alone (naturals_value x.data) ∷ []))

abbrev pub read_reply_of : Val → ReadReply
read_reply_of v = record {
  error = file_error_of (part 0 v);
  «data» = naturals_of 8 (part 0 (part 1 v));
}

abbrev pub FitsReadReply : ReadReply → Type 0
FitsReadReply x = FitsFileError x.error × HoldsBytes 256 x.data
