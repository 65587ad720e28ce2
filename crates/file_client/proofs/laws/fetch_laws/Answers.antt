use Rattle.file_client.proofs.Fair.{served, serves}
use Rattle.file_client.proofs.Ends.{gave_up, gives_up, was_too_long, is_too_long, end_is, stays}
use Rattle.file_client.proofs.Whole.{can_be_fetched}
use Rattle.file_client.proofs.laws.fetch_laws.Goals as goal

pub returns : goal.returns
returns c = record {
  front = λ file limit past f. (served file limit past f).front;
  whole = λ file limit past f. (served file limit past f).whole;
  can_be_fetched = can_be_fetched;
  never_refused = λ file limit e past code f. (serves file limit e past f).never_refused code;
  long_file = λ file limit e past n f. (serves file limit e past f).long_file n;
  gave_up = gave_up;
  gives_up = gives_up;
  was_too_long = was_too_long;
  is_too_long = is_too_long;
  end_is = end_is;
  stays = stays;
}
