-- What a node that serves files answers, and what its tree did for that.
use Rattle.std.specs.Prelude.{◌≡◌, ◌==◌, ℕ, Bool, false, List, [], Option, Some, None}
use Rattle.cy_outside.specs.Files.{Files as TreeFiles}
use Rattle.dsdl_types.specs.Laws.{encoding}
use Rattle.file_service.specs.Causes.{IsKnown}
use Rattle.file_service.specs.Paths.{place_of}
use Rattle.file_service.specs.Replies.{IsInfo, IsListing, IsRead, io_error}
use Rattle.file_service.specs.declared.done.ListDone.{ListDone}
use Rattle.file_service.specs.declared.place.Place.{Place}
use Rattle.file_service.specs.declared.place.Place.TheVariants as place
use Rattle.node_plan.specs.declared.plan.Plan.{Plan}
use Rattle.std_types.specs.Files.{FitsFileListReply, FitsInfoReply, FitsReadReply}
use Rattle.std_types.specs.Files.{file_list_reply_value, info_reply_value, read_reply_value}
use Rattle.std_types.specs.Schemas.{file_list_reply, info_reply, read_reply}
use Rattle.std_types.specs.declared.file.FileListReply.{FileListReply}
use Rattle.node_core.specs.declared.file_reply.FileReply.{FileReply}
use Rattle.node_core.specs.declared.file_reply.FileReply.TheVariants as file
use Rattle.node_core.specs.declared.question.Question.{Question}
use Rattle.node_core.specs.declared.question.Question.TheVariants as asks
use Rattle.node_core.specs.declared.request.Request.{Request}

-- whether the tree failed in a request
abbrev pub is_failed : FileReply → Bool
is_failed file.NoFile = false
is_failed (file.Info reply) = reply.error.value == io_error
is_failed (file.Name done) = done.failed
is_failed (file.Bytes reply) = reply.error.value == io_error

-- the name that a listing gave, as its reply
abbrev pub name_reply : ListDone → FileListReply
name_reply done = record { entry_base_name = done.name }

-- the payload of the reply to a request of a file
abbrev pub file_payload : FileReply → List ℕ
file_payload file.NoFile = []
file_payload (file.Info reply) = encoding info_reply (info_reply_value reply)
file_payload (file.Name done) = encoding file_list_reply (file_list_reply_value (name_reply done))
file_payload (file.Bytes reply) = encoding read_reply (read_reply_value reply)

-- it is a value of the reply's type
abbrev pub FitsFileReply : FileReply → Type 0
FitsFileReply file.NoFile = Unit {0}
FitsFileReply (file.Info reply) = FitsInfoReply reply
FitsFileReply (file.Name done) = FitsFileListReply (name_reply done)
FitsFileReply (file.Bytes reply) = FitsReadReply reply

-- the folder that a plan serves
abbrev pub root_of : Option (List ℕ) → List ℕ
root_of None = []
root_of (Some root) = root

-- what may be told of a place: what stands there, or that the tree failed
abbrev pub TellsInfo : Option TreeFiles → Place → FileReply → Type 0
TellsInfo told place (file.Info reply) = IsInfo told place reply
TellsInfo told place other = ⊥

-- the same of a name in a folder, and of the bytes of a file
abbrev pub TellsName : Option TreeFiles → List ℕ → Place → ℕ → FileReply → Type 0
TellsName told root place index (file.Name done) = IsListing told root place index done
TellsName told root place index other = ⊥

abbrev pub TellsBytes : Option TreeFiles → Place → ℕ → FileReply → Type 0
TellsBytes told place offset (file.Bytes reply) = IsRead told place offset reply
TellsBytes told place offset other = ⊥

-- What the tree may do for a question, where its files are told or not: it tells what its files say
-- of the path below the root, or fails. It is asked nothing where the question is of no file.
abbrev pub Tells : Option TreeFiles → List ℕ → Question → FileReply → Type 0
Tells told root (asks.FileInfo request) reply = TellsInfo told (place_of root request.path) reply
Tells told root (asks.FileName request) reply =
    TellsName told root (place_of root request.directory_path) request.entry_index reply
Tells told root (asks.FileBytes request) reply = TellsBytes told (place_of root request.path) request.offset reply
Tells told root other reply = reply ≡ file.NoFile

-- a question for which nothing is asked of the tree: it is of no file, its path is invalid, or it
-- is known what stands there
abbrev pub AsksNothing : List ℕ → Question → Type 0
AsksNothing root (asks.FileInfo request) = IsKnown (place_of root request.path)
AsksNothing root (asks.FileName request) = place_of root request.directory_path ≡ place.Invalid
AsksNothing root (asks.FileBytes request) = IsKnown (place_of root request.path)
AsksNothing root other = Unit {0}

-- what the tree may do for a request, if there is one
abbrev pub IsServed : Option TreeFiles → Plan → Option Request → FileReply → Type 0
IsServed told plan None reply = reply ≡ file.NoFile
IsServed told plan (Some r) reply = Tells told (root_of plan.serve) r.question reply
