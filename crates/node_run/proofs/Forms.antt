-- Texts of lines in a form, one behind the other.
use Rattle.std.proofs.Common.{◌≡◌, ◌∙◌, ℕ, List, [], ◌∷◌, ◌++◌, refl, sym, ap, ap₂, subst, append_assoc, append-nil}
use Rattle.value_json.specs.Pieces.{Piece, Spells as SpellsPieces}
use Rattle.value_json.proofs.Adding.{spells_then}
use Rattle.node_plan.specs.declared.plan.BusPlan.{BusPlan}
use Rattle.report_lines.specs.declared.line.Line.{Line}
use Rattle.text_lines.specs.Text.{line_text, text}
use Rattle.json_lines.specs.Text.{json_text, line_json, type_for}
use Rattle.node_run.specs.Forms.{Adds, Form, Text, Json, Spells, Style, Types}

pub text_append : (buses : List BusPlan) (a b : List Line) → text buses (a ++ b) ≡ text buses a ++ text buses b
text_append buses [] b = refl
text_append buses (l ∷ a) b = ap (λ t. line_text buses l ++ t) (text_append buses a b) ∙ sym (append_assoc (line_text buses l) (text buses a) (text buses b))

pub json_append : (types : Types) (buses : List BusPlan) (a b : List Line) → json_text types buses (a ++ b) ≡ json_text types buses a ++ json_text types buses b
json_append types buses [] b = refl
json_append types buses (l ∷ a) b =
    let one = line_json (type_for types l) buses l in
    ap (λ (t : List Piece). one ++ t) (json_append types buses a b) ∙ sym (append_assoc one (json_text types buses a) (json_text types buses b))

pub spells_none : (form : Form) (types : Types) (buses : List BusPlan) → Spells form types buses [] []
spells_none Text types buses = refl
spells_none Json types buses = refl

pub spells_more : (form : Form) (types : Types) (buses : List BusPlan) (a b : List Line) (s t : List ℕ) → Spells form types buses a s → Spells form types buses b t → Spells form types buses (a ++ b) (s ++ t)
spells_more Text types buses a b s t h k = ap₂ (λ (x y : List ℕ). x ++ y) h k ∙ sym (text_append buses a b)
spells_more Json types buses a b s t h k =
    subst (λ (p : List Piece). SpellsPieces p (s ++ t)) (sym (json_append types buses a b)) (spells_then (json_text types buses a) (json_text types buses b) s t h k)

pub adds_none : (s : Style) (types : Types) (t : List ℕ) → Adds s types [] t t
adds_none s types t = record { said = []; is = sym (append-nil t); spelled = spells_none s.form types s.buses }

pub adds_more : (s : Style) (types : Types) (a b : List Line) (x y z : List ℕ) → Adds s types a x y → Adds s types b y z → Adds s types (a ++ b) x z
adds_more s types a b x y z h k = record {
  said = h.said ++ k.said;
  is = k.is ∙ (ap (λ t. t ++ k.said) h.is ∙ append_assoc x h.said k.said);
  spelled = spells_more s.form types s.buses a b h.said k.said h.spelled k.spelled;
}
