use Rattle.std.proofs.Common.{◌++◌, ◌∙◌, ap, refl, subst, sym}
use Rattle.dsdl_types.proofs.Equations.{val_bits, val_bool, val_items, val_num, val_struct, val_union}
use Rattle.dsdl_types.specs.Views.{val}
use Rattle.line_text.specs.Buffer.{text_of}
use Rattle.value_json.specs.Json.{HasRawBits, plain_text, simple_json}
use Rattle.value_json.specs.Pieces.{Adds}
use Rattle.value_json.proofs.Adding.{adds_exact, adds_none, on_ok}
use Rattle.value_json.proofs.simple.put_simple.Goals as goal

pub put_float-requires : goal.put_float-requires
put_float-requires c = subst (λ v. HasRawBits c.args.width v) (ap val c.in-Bits.is ∙ val_bits c.in-Bits.bits) c.requires

pub returns-in-Bool-clause-put : goal.returns-in-Bool-clause-put
returns-in-Bool-clause-put c =
    let is = ap val c.in-Bool.is ∙ val_bool _ in
    on_ok c.put_plain.result (λ e. subst (λ v. Adds (simple_json c.args.width v) (text_of c.args.text.now) (text_of c.put_plain.new.text)) (sym is)
    (adds_exact _ _ _ (e ∙ ap (λ v. text_of c.args.text.now ++ plain_text v) is))) c.put_plain.ensures.text

pub returns-in-Num-clause-put : goal.returns-in-Num-clause-put
returns-in-Num-clause-put c =
    let is = ap val c.in-Num.is ∙ val_num _ in
    on_ok c.put_plain-in-Num.result (λ e. subst (λ v. Adds (simple_json c.args.width v) (text_of c.args.text.now) (text_of c.put_plain-in-Num.new.text)) (sym is)
    (adds_exact _ _ _ (e ∙ ap (λ v. text_of c.args.text.now ++ plain_text v) is))) c.put_plain-in-Num.ensures.text

pub returns-in-Bits-clause-put : goal.returns-in-Bits-clause-put
returns-in-Bits-clause-put c =
    on_ok c.put_float.result (λ e. subst (λ v. Adds (simple_json c.args.width v) (text_of c.args.text.now) (text_of c.put_float.new.text)) (sym (ap val c.in-Bits.is ∙ val_bits _)) e) c.put_float.ensures.put

pub returns-in-Items-clause-put : goal.returns-in-Items-clause-put
returns-in-Items-clause-put c = subst (λ v. Adds (simple_json c.args.width v) (text_of c.args.text.now) (text_of c.args.text.now)) (sym (ap val c.in-Items.is ∙ val_items _)) (adds_none _ _ refl)

pub returns-in-Struct-clause-put : goal.returns-in-Struct-clause-put
returns-in-Struct-clause-put c = subst (λ v. Adds (simple_json c.args.width v) (text_of c.args.text.now) (text_of c.args.text.now)) (sym (ap val c.in-Struct.is ∙ val_struct _)) (adds_none _ _ refl)

pub returns-in-Union-clause-put : goal.returns-in-Union-clause-put
returns-in-Union-clause-put c = subst (λ v. Adds (simple_json c.args.width v) (text_of c.args.text.now) (text_of c.args.text.now)) (sym (ap val c.in-Union.is ∙ val_union _ _)) (adds_none _ _ refl)
