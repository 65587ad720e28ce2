use Rattle.std.proofs.Common.{◌≡◌, ◌∙◌, ◌++◌, OnOk, ap, subst, sym}
use Rattle.dsdl_types.specs.Views.{sch}
use Rattle.line_text.specs.Buffer.{text_of}
use Rattle.json_lines.specs.Said.{FitsSaid, reading_as}
use Rattle.json_lines.specs.Writer.{refused_text, writes_for}
use Rattle.json_lines.proofs.Lines.{bad_put, good_put}
use Rattle.json_lines.proofs.writer.JsonWriter.push_by_value.Goals as goal

pub push_good-requires : goal.push_good-requires
push_good-requires c = subst (λ x. FitsSaid (sch c.args.shape.now.schema) x) c.in-Value.is c.in_ok-said.ensures.fits

pub returns-in-Value-clause-ok : goal.returns-in-Value-clause-ok
returns-in-Value-clause-ok c =
    let s = sch c.args.shape.now.schema in
    let says = sym c.in_ok-said.ensures.reading ∙ ap (λ x. reading_as s x) c.in-Value.is in
    good_put c.push_good.result (writes_for c.args.self.now) c.args.rx.now s c.in-Value.value _ _ _ c.requires says c.push_good.ensures.ok

pub returns-in-Bad-clause-ok : goal.returns-in-Bad-clause-ok
returns-in-Bad-clause-ok c =
    let s = sch c.args.shape.now.schema in
    let rx = c.args.rx.now in
    let buses = writes_for c.args.self.now in
    let says = sym c.in_ok-said.ensures.reading ∙ ap (λ x. reading_as s x) c.in-Bad.is in
    let put = subst (λ p. OnOk c.push_bad.result (text_of c.push_bad.new.text ≡ text_of c.args.text.now ++ refused_text buses rx p c.in-Bad.why)) c.as_str.ensures c.push_bad.ensures.ok in
    bad_put c.push_bad.result buses rx s c.in-Bad.path c.in-Bad.why _ _ c.requires says put
