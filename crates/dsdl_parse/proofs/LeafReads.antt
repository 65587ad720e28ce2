-- A leaf is read exactly where a token is one.
use Rattle.std.proofs.Common.{◌≡◌, ℕ, false, List, Option, Some, None, refl, sym, ap, ◌∙◌}
use Rattle.std.proofs.lemmas.Option.{none-some, same_Some}
use Rattle.dsdl_lex.specs.declared.token.TokenKind.{TokenKind}
use Rattle.dsdl_lex.specs.declared.token.TokenKind.TheVariants as k
use Rattle.dsdl_parse.specs.declared.expr.Expr.{Expr}
use Rattle.dsdl_parse.specs.declared.expr.ExprNode.{ExprNode}
use Rattle.dsdl_parse.specs.declared.expr.Reference.{Reference}
use Rattle.dsdl_parse.specs.Words.{Word, Signs, on_sign, is_in}
use Rattle.dsdl_parse.specs.Leaves.{IsNode, IsLeaf}
use Rattle.dsdl_parse.specs.LeafReading.{reference_of, reference_node, leaf_node, with_span, read_leaf}
use Rattle.dsdl_parse.proofs.References.{reference_sound, reference_complete}

node_read : (kind : TokenKind) (text : List ℕ) (n : ExprNode) → IsNode kind text n → leaf_node kind text ≡ Some n
node_read k.Number text n d = ap Some (sym d)
node_read k.Str text n d = ap Some (sym d)
node_read k.Name text n d = ap Some (sym d)
node_read k.Reference text n (r, same, d) = ap reference_node (reference_complete text r d) ∙ ap Some (sym same)
node_read k.Split text n d = absurd d
node_read k.Sign text n d = absurd d

node_of_reference : (text : List ℕ) (o : Option Reference) (n : ExprNode) → reference_of text ≡ o → reference_node o ≡ Some n → IsNode k.Reference text n
node_of_reference text None n o h = absurd (none-some n h)
node_of_reference text (Some r) n o h = (r, sym (same_Some _ _ h), reference_sound text r o)

node_is : (kind : TokenKind) (text : List ℕ) (n : ExprNode) → leaf_node kind text ≡ Some n → IsNode kind text n
node_is k.Number text n h = sym (same_Some _ _ h)
node_is k.Str text n h = sym (same_Some _ _ h)
node_is k.Name text n h = sym (same_Some _ _ h)
node_is k.Reference text n h = node_of_reference text (reference_of text) n refl h
node_is k.Split text n h = absurd (none-some n h)
node_is k.Sign text n h = absurd (none-some n h)

pub leaf_complete : (w : Word) (x : Expr) → IsLeaf w x → read_leaf w ≡ Some x
unfolding read_leaf
leaf_complete w x d = ap (with_span w.span) (node_read w.kind w.text d.node d.is_node) ∙ ap Some (sym d.is_tree)

pub leaf_sound : (w : Word) (x : Expr) → read_leaf w ≡ Some x → IsLeaf w x
unfolding read_leaf
leaf_sound w x h = go (leaf_node w.kind w.text) refl h
  where
    go : (o : Option ExprNode) → leaf_node w.kind w.text ≡ o → with_span w.span o ≡ Some x → IsLeaf w x
    go None s h = absurd (none-some x h)
    go (Some n) s h = record { node = n; is_node = node_is w.kind w.text n s; is_tree = sym (same_Some _ _ h) }

no_sign_at : (ss : Signs) (kind : TokenKind) (text : List ℕ) (n : ExprNode) → IsNode kind text n → on_sign ss kind text ≡ false
no_sign_at ss k.Number text n d = refl
no_sign_at ss k.Str text n d = refl
no_sign_at ss k.Name text n d = refl
no_sign_at ss k.Reference text n d = refl
no_sign_at ss k.Split text n d = absurd d
no_sign_at ss k.Sign text n d = absurd d

-- a leaf is no sign
pub leaf_no_sign : (ss : Signs) (w : Word) (x : Expr) → IsLeaf w x → is_in ss w ≡ false
leaf_no_sign ss w x d = no_sign_at ss w.kind w.text d.node d.is_node
