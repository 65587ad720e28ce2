use Rattle.dsdl_lex.proofs.Either.{either}
use Rattle.dsdl_lex.proofs.Reading.{one_list, one_place, not_both}
use Rattle.dsdl_lex.proofs.laws.one_reading.Goals as goal

pub returns : goal.returns
returns c = record {
  either = either;
  one_list = λ line ts us d e. one_list line d e;
  one_place = λ line m n d e. one_place line d e;
  not_both = λ line column ts s d. not_both line s d;
}
