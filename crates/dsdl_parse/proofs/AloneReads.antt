-- A word that stands alone is an operand of each level.
use Rattle.std.proofs.Common.{◌≡◌, ℕ, true, false, List, [], ◌∷◌, length, Some, codes, refl, sym, ap, ◌∙◌}
use Rattle.std.proofs.lemmas.Bool.{and_parts, cond-false}
use Rattle.dsdl_lex.specs.declared.token.TokenKind.{TokenKind}
use Rattle.dsdl_lex.specs.declared.token.TokenKind.TheVariants as k
use Rattle.dsdl_parse.specs.declared.expr.Expr.{Expr}
use Rattle.dsdl_parse.specs.declared.expr.ExprNode.{ExprNode}
use Rattle.dsdl_parse.specs.declared.level.Level.{Level}
use Rattle.dsdl_parse.specs.declared.level.Level.TheVariants as l
use Rattle.dsdl_parse.specs.Words.{Word, Signs, any_of, on_sign, is_in, first_in, just, orders, bit_signs, plus_minus, times}
use Rattle.dsdl_parse.specs.Words.{is_plain_kind, closing, may_follow, at_end, alone}
use Rattle.dsdl_parse.specs.Trees.{tree}
use Rattle.dsdl_parse.specs.LeafReading.{read_leaf, leaf_node, with_span}
use Rattle.dsdl_parse.specs.Levels.{operand_of}
use Rattle.dsdl_parse.specs.Reading.{Reader, Readers, read_chain, read_one}
use Rattle.dsdl_parse.specs.Reading as r
use Rattle.dsdl_parse.proofs.Basics.{all_fail, apart_text, bound}
use Rattle.dsdl_parse.proofs.Turns as turns
use Rattle.dsdl_parse.proofs.Turns.{dot, stars, opens, opens_set}

leaf_at : (kind : TokenKind) (text : List ℕ) → is_plain_kind kind ≡ true → (node : ExprNode) × (leaf_node kind text ≡ Some node)
leaf_at k.Number text e = (_, refl)
leaf_at k.Str text e = (_, refl)
leaf_at k.Name text e = (_, refl)
leaf_at k.Reference text e = cc
leaf_at k.Split text e = cc
leaf_at k.Sign text e = cc

leaf_read : (w : Word) → is_plain_kind w.kind ≡ true → (x : Expr) × (read_leaf w ≡ Some x)
unfolding read_leaf
leaf_read w e = let (node, eq) = leaf_at w.kind w.text e in (tree w.span node, ap (with_span w.span) eq)

no_sign_at : (op : Signs) (kind : TokenKind) (text : List ℕ) → is_plain_kind kind ≡ true → on_sign op kind text ≡ false
no_sign_at op k.Number text e = refl
no_sign_at op k.Str text e = refl
no_sign_at op k.Name text e = refl
no_sign_at op k.Reference text e = refl
no_sign_at op k.Split text e = refl
no_sign_at op k.Sign text e = cc

stops_at : (op : Signs) → all_fail closing (any_of op) ≡ true → (kind : TokenKind) (text : List ℕ) → may_follow kind text ≡ true → on_sign op kind text ≡ false
stops_at op a k.Sign text e = apart_text closing (any_of op) text a e
stops_at op a k.Number text e = refl
stops_at op a k.Str text e = refl
stops_at op a k.Name text e = refl
stops_at op a k.Reference text e = refl
stops_at op a k.Split text e = refl

stops : (op : Signs) → all_fail closing (any_of op) ≡ true → (ws : List Word) → at_end ws ≡ true → first_in op ws ≡ false
stops op a [] e = refl
stops op a (w ∷ ws) e = stops_at op a w.kind w.text e

module _ (i : Readers) (w : Word) (rest : List Word) (x : Expr) (plain : is_plain_kind w.kind ≡ true) (read : read_leaf w ≡ Some x) (end : at_end rest ≡ true) where
  no_sign : (op : Signs) → is_in op w ≡ false
  no_sign op = no_sign_at op w.kind w.text plain

  as_atom : r.atom_of i (w ∷ rest) ≡ Some (x, rest)
  as_atom = cond-false (is_in opens w) _ _ (no_sign opens) ∙ cond-false (is_in opens_set w) _ _ (no_sign opens_set) ∙ bound _ _ _ _ read refl

  as_member : r.read_member (r.atom_of i) (w ∷ rest) ≡ Some (x, rest)
  as_member = bound _ _ _ _ as_atom (turns.halted (r.atom_of i) (length rest) x rest (stops dot refl rest end))

  as_power : r.power_of i (w ∷ rest) ≡ Some (x, rest)
  as_power = turns.power_base (r.read_member (r.atom_of i)) i.sign (w ∷ rest) rest rest x as_member refl (stops stars refl rest end)

  as_sign : r.sign_of i (w ∷ rest) ≡ Some (x, rest)
  as_sign = turns.prefixed_plain plus_minus i.power (r.power_of i) (w ∷ rest) (no_sign plus_minus) ∙ as_power

  as_chain : (op : Signs) (operand : Reader Expr) → all_fail closing (any_of op) ≡ true → operand (w ∷ rest) ≡ Some (x, rest) → read_chain op operand (w ∷ rest) ≡ Some (x, rest)
  as_chain op operand a e = bound _ _ _ _ e (turns.stopped op operand (length rest) x rest (stops op a rest end))

  as_product : r.product_of i (w ∷ rest) ≡ Some (x, rest)
  as_product = as_chain times (r.sign_of i) refl as_sign

  as_sum : r.sum_of i (w ∷ rest) ≡ Some (x, rest)
  as_sum = as_chain plus_minus (r.product_of i) refl as_product

  as_bits : r.bits_of i (w ∷ rest) ≡ Some (x, rest)
  as_bits = as_chain bit_signs (r.sum_of i) refl as_sum

  as_compare : r.compare_of i (w ∷ rest) ≡ Some (x, rest)
  as_compare = as_chain orders (r.bits_of i) refl as_bits

  as_not : r.not_of i (w ∷ rest) ≡ Some (x, rest)
  as_not = turns.prefixed_plain (just (codes "!")) i.not (r.compare_of i) (w ∷ rest) (no_sign (just (codes "!"))) ∙ as_compare

  as_operand : (level : Level) → operand_of i level (w ∷ rest) ≡ Some (x, rest)
  as_operand l.Logic = as_not
  as_operand l.Order = as_bits
  as_operand l.Bits = as_sum
  as_operand l.Sum = as_product
  as_operand l.Product = as_sign

-- an operand of any level that begins with a word that stands alone is this word
pub alone_operand : (i : Readers) (level : Level) (ws : List Word) → alone ws ≡ true → operand_of i level ws ≡ read_one ws
alone_operand i level [] e = cc
alone_operand i level (w ∷ rest) e =
    let p : (is_plain_kind w.kind ≡ true) × (at_end rest ≡ true) = and_parts (is_plain_kind w.kind) (at_end rest) e in
    let (x, read) = leaf_read w p.0 in
    as_operand i w rest x p.0 read p.1 level ∙ sym (bound _ _ _ _ read refl)
