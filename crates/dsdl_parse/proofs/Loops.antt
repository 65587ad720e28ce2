-- What the loops of the descent keep.
use Rattle.std.proofs.Common.{◌≡◌, ℕ, ◌<◌, ◌≤◌, List, length}
use Rattle.dsdl_parse.specs.declared.expr.Expr.{Expr}
use Rattle.dsdl_parse.specs.Words.{Word, Signs}
use Rattle.dsdl_parse.specs.Reading.{Reader, chain, read_chain, members, read_member, items, read_items}

-- the operators behind left are what is still to be read
pub record ChainLeft (op : Signs) (operand : Reader Expr) (start : List Word) (left : Expr) (now : List Word) : Type 0 where
  pub most : ℕ
  pub fits : length now ≤ most
  pub same : read_chain op operand start ≡ chain op operand most left now
  pub shorter : length now ≤ length start

pub record MembersLeft (atom : Reader Expr) (start : List Word) (left : Expr) (now : List Word) : Type 0 where
  pub most : ℕ
  pub fits : length now ≤ most
  pub same : read_member atom start ≡ members most left now
  pub shorter : length now ≤ length start

pub record ItemsLeft (item : Reader Expr) (start : List Word) (xs : List Expr) (now : List Word) : Type 0 where
  pub most : ℕ
  pub fits : length now < most
  pub same : read_items item start ≡ items item most xs now
  pub shorter : length now ≤ length start
