use Rattle.file_service.proofs.Places.{place_laws}
use Rattle.file_service.proofs.Pieces.{read_laws}
use Rattle.file_service.proofs.Members.{folder_laws, name_laws}
use Rattle.file_service.proofs.AnswerFacts.{answer_laws}
use Rattle.file_service.proofs.laws.file_laws.Goals as goal

pub returns : goal.returns
returns c = record { places = place_laws; reads = read_laws; names = name_laws; folders = folder_laws; answers = answer_laws }
