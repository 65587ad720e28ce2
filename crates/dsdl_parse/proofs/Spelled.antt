-- The statement of a line is spelled as its words are.
use Rattle.std.proofs.Common.{◌≡◌, ℕ, true, List, [], ◌∷◌, ◌++◌, subst}
use Rattle.std.specs.List.{All}
use Rattle.std.proofs.lemmas.List.Elements.{All-nil, All-cons}
use Rattle.dsdl_lex.specs.declared.token.Token.{Token}
use Rattle.dsdl_lex.specs.declared.token.TokenKind.TheVariants as k
use Rattle.dsdl_lex.specs.Texts.{is_name}
use Rattle.dsdl_lex.specs.Tokens.{IsKind}
use Rattle.dsdl_parse.specs.declared.statement.Form.{Form}
use Rattle.dsdl_parse.specs.declared.statement.Scalar.{Scalar}
use Rattle.dsdl_parse.specs.declared.statement.Scalar.TheVariants as scalar
use Rattle.dsdl_parse.specs.declared.statement.Statement.{Statement}
use Rattle.dsdl_parse.specs.Ast.{IsLine, AreStatements, none, more}
use Rattle.dsdl_parse.specs.Spelling.{IsSpelled, WellSpelled, AreWellSpelled}
use Rattle.dsdl_parse.specs.Statement.{IsForm, one, several, IsScalar, IsVoid, IsStatement}
use Rattle.dsdl_parse.specs.Statement as g
use Rattle.dsdl_parse.specs.Words.{Word, words, AreTokens}
use Rattle.dsdl_parse.proofs.Tokens.{are_tokens}

-- the bytes of each word are of its kind
abbrev AreWords : List Word → Type 0
AreWords [] = Unit {0}
AreWords (w ∷ ws) = IsKind w.kind w.text × AreWords ws

are_words : (line : List ℕ) (ts : List Token) → AreTokens line ts → AreWords (words line ts)
are_words line [] h = tt
are_words line (t ∷ ts) h = (h.2, are_words line ts h.3)

word_in : (front : List Word) (w : Word) (back : List Word) → AreWords (front ++ w ∷ back) → IsKind w.kind w.text
word_in [] w back h = h.0
word_in (v ∷ front) w back h = word_in front w back h.1

name_in : {ws : List Word} (front : List Word) (name : Word) (back : List Word) → AreWords ws → ws ≡ front ++ name ∷ back → name.kind ≡ k.Name → is_name name.text ≡ true
name_in front name back h e kind = subst (λ v. IsKind v name.text) kind (word_in front name back (subst AreWords e h))

void_spelled : {ws : List Word} {digits : List ℕ} → IsVoid ws digits → IsSpelled (scalar.Void digits)
void_spelled d = d.is_void.some_digits

scalar_spelled : {ws : List Word} {s : Scalar} → IsScalar ws s → IsSpelled s
scalar_spelled (g.primitive w p kind is e) = is
scalar_spelled (g.reference w kind is e) = (w.text, is)
scalar_spelled (g.void d) = void_spelled d

form_spelled : {ws : List Word} {f : Form} → IsForm ws f → IsSpelled f.scalar
form_spelled (one d) = scalar_spelled d
form_spelled (several d b e) = scalar_spelled d

statement_spelled : {ws : List Word} {s : Statement} → AreWords ws → IsStatement ws s → WellSpelled s
statement_spelled h (g.empty e) = tt
statement_spelled h (g.split w kind e) = tt
statement_spelled h (g.directive at name is kind e) = name_in (at ∷ []) name [] h e kind
statement_spelled h (g.directive_of {back} {x} at name is kind d e) = name_in (at ∷ []) name back h e kind
statement_spelled h (g.constant {front} {back} {f} {x} name equals d kind is x_is e) = (form_spelled d, name_in front name (equals ∷ back) h e kind)
statement_spelled h (g.field {front} {f} name d kind e) = (form_spelled d, name_in front name [] h e kind)
statement_spelled h (g.padding d) = void_spelled d

line_spelled : (line : List ℕ) (s : Statement) → IsLine line s → WellSpelled s
line_spelled line s (tokens, lexes, is) = statement_spelled (are_words line tokens (are_tokens line lexes)) is

all_spelled : {lines : List (List ℕ)} {ss : List Statement} → AreStatements lines ss → All WellSpelled ss
all_spelled none = All-nil WellSpelled
all_spelled (more {line} {lines} {s} {ss} is d) = All-cons WellSpelled s ss (line_spelled line s is) (all_spelled d)

pub are_spelled : AreWellSpelled
are_spelled = record { line = line_spelled; text = λ text ss d. all_spelled d.2 }
