-- What the files and whether the tree failed give as an answer.
use Rattle.std.proofs.Common.{◌≡◌, ◌∙◌, inl, inr, ℕ, ◌==◌, Bool, true, false, cond, List, Some, refl, sym, ap}
use Rattle.std_types.specs.declared.file.InfoReply.{InfoReply}
use Rattle.std_types.specs.declared.file.ReadReply.{ReadReply}
use Rattle.cy_outside.specs.Files.{Files}
use Rattle.file_service.specs.declared.done.ListDone.{ListDone}
use Rattle.file_service.specs.declared.place.Place.{Place}
use Rattle.file_service.specs.declared.place.Place.TheVariants.{Invalid, Root, At}
use Rattle.file_service.specs.Names.{names_of}
use Rattle.file_service.specs.Standing.{Standing, File, Folder, Nothing, standing}
use Rattle.file_service.specs.Replies.{no_bytes, read_reply, read_answer, IsRead, no_info, info_reply, info_answer, IsInfo, no_name, list_reply, folder_answer, list_answer, ListsFolder, IsListing, io_error}
use Rattle.file_service.specs.Laws.{AnswerLaws}

kept_read : (s : Standing) (offset : ℕ) (other : ReadReply) → read_reply s offset ≡ cond ((read_reply s offset).error.value == io_error) other (read_reply s offset)
kept_read (File bytes) offset other = refl
kept_read Folder offset other = refl
kept_read Nothing offset other = refl

kept_info : (s : Standing) (other : InfoReply) → info_reply s ≡ cond ((info_reply s).error.value == io_error) other (info_reply s)
kept_info (File bytes) other = refl
kept_info Folder other = refl
kept_info Nothing other = refl

read_given : (files : Files) (place : Place) (offset : ℕ) (reply : ReadReply) → IsRead (Some files) place offset reply
    → reply ≡ read_answer files (reply.error.value == io_error) place offset
read_given files Invalid offset reply e = e
read_given files Root offset reply e = e
read_given files (At path) offset reply (inl e) =
    e ∙ ap (λ (r : ReadReply). cond (r.error.value == io_error) (no_bytes io_error) (read_reply (standing files path) offset)) (sym e)
read_given files (At path) offset reply (inr (s, is, e)) =
    e ∙ kept_read s offset (no_bytes io_error)
    ∙ ap (λ (r : ReadReply). cond (r.error.value == io_error) (no_bytes io_error) (read_reply s offset)) (sym e)
    ∙ ap (λ z. cond (reply.error.value == io_error) (no_bytes io_error) (read_reply z offset)) is

info_given : (files : Files) (place : Place) (reply : InfoReply) → IsInfo (Some files) place reply
    → reply ≡ info_answer files (reply.error.value == io_error) place
info_given files Invalid reply e = e
info_given files Root reply e = e
info_given files (At path) reply (inl e) =
    e ∙ ap (λ (r : InfoReply). cond (r.error.value == io_error) (no_info io_error) (info_reply (standing files path))) (sym e)
info_given files (At path) reply (inr (s, is, e)) =
    e ∙ kept_info s (no_info io_error)
    ∙ ap (λ (r : InfoReply). cond (r.error.value == io_error) (no_info io_error) (info_reply s)) (sym e)
    ∙ ap (λ z. cond (reply.error.value == io_error) (no_info io_error) (info_reply z)) is

folder_given : (files : Files) (folder : List ℕ) (index : ℕ) (done : ListDone) → ListsFolder (Some files) folder index done
    → done ≡ folder_answer files done.failed folder index
folder_given files folder index done (inl e) =
    e ∙ ap (λ (d : ListDone). cond d.failed (no_name true) (list_reply (names_of files folder) index)) (sym e)
folder_given files folder index done (inr (names, is, e)) =
    e ∙ ap (λ (d : ListDone). cond d.failed (no_name true) (list_reply names index)) (sym e)
    ∙ ap (λ l. cond done.failed (no_name true) (list_reply l index)) is

list_given : (files : Files) (root : List ℕ) (place : Place) (index : ℕ) (done : ListDone) → IsListing (Some files) root place index done
    → done ≡ list_answer files done.failed root place index
list_given files root Invalid index done e = e
list_given files root Root index done l = folder_given files root index done l
list_given files root (At path) index done l = folder_given files path index done l

read_each : (files : Files) (failed : Bool) (place : Place) (offset : ℕ) → IsRead (Some files) place offset (read_answer files failed place offset)
read_each files failed Invalid offset = refl
read_each files failed Root offset = refl
read_each files true (At path) offset = inl refl
read_each files false (At path) offset = inr (standing files path, refl, refl)

info_each : (files : Files) (failed : Bool) (place : Place) → IsInfo (Some files) place (info_answer files failed place)
info_each files failed Invalid = refl
info_each files failed Root = refl
info_each files true (At path) = inl refl
info_each files false (At path) = inr (standing files path, refl, refl)

folder_each : (files : Files) (failed : Bool) (folder : List ℕ) (index : ℕ) → ListsFolder (Some files) folder index (folder_answer files failed folder index)
folder_each files true folder index = inl refl
folder_each files false folder index = inr (names_of files folder, refl, refl)

list_each : (files : Files) (failed : Bool) (root : List ℕ) (place : Place) (index : ℕ)
    → IsListing (Some files) root place index (list_answer files failed root place index)
list_each files failed root Invalid index = refl
list_each files failed root Root index = folder_each files failed root index
list_each files failed root (At path) index = folder_each files failed path index

pub answer_laws : (files : Files) → AnswerLaws files
answer_laws files = record {
  read = read_given files;
  info = info_given files;
  list = list_given files;
  reads = read_each files;
  infos = info_each files;
  lists = list_each files;
}
