use Rattle.std.proofs.Common.{◌≡◌, ℕ, [], ◌∷◌, refl, ap, ◌∙◌, List, Some, true, codes}
use Rattle.std.proofs.lemmas.Bool.{cond-true}
use Rattle.dsdl_parse.specs.declared.expr.Expr.{Expr}
use Rattle.dsdl_parse.specs.declared.statement.Form.{Form}
use Rattle.dsdl_parse.specs.declared.statement.Statement.TheVariants as s
use Rattle.dsdl_parse.specs.Reading.{read_expression}
use Rattle.dsdl_parse.specs.StatementReading.{read_form, read_name, behind_name, read_attribute}
use Rattle.dsdl_parse.specs.Words.{Word, is_in, just, seen}
use Rattle.dsdl_parse.proofs.Basics.{bound}
use Rattle.dsdl_parse.proofs.line.attribute.Goals as goal

constant_read : (ws behind mid back rest : List Word) (f : Form) (name : List ℕ) (w : Word) (x : Expr) → read_form ws ≡ Some (f, behind) → read_name behind ≡ Some (name, mid) →
    mid ≡ w ∷ back → is_in (just (codes "=")) w ≡ true → read_expression back ≡ Some (x, rest) → read_attribute ws ≡ Some (s.Constant f name x, rest)
constant_read ws [] mid back rest f name w x a b e h d = absurd (cc)
constant_read ws (v ∷ behind) mid back rest f name w x a b e h d =
    bound _ _ _ _ a (bound _ _ _ _ b (ap (behind_name f name) e ∙ cond-true (is_in (just (codes "=")) w) _ _ h ∙ bound _ _ _ _ d refl))

pub returns-in_ok-expr-in-Some : goal.returns-in_ok-expr-in-Some
returns-in_ok-expr-in-Some c =
    constant_read (seen c.args.first ∷ c.args.words.now) _ _ _ _ c.in_ok-form.form c.in_ok-name.name (seen c.in-Some.field-0) c.in_ok-expr-in-Some.expr c.in_ok-form.ensures c.in_ok-name.ensures c.in-Some.ensures.taken.0 c.in-Some.ensures.taken.1 c.in_ok-expr-in-Some.ensures.value
