use Rattle.std.proofs.Common.{◌∙◌, refl, sym, ap, arith}
use Rattle.std.specs.List.{count_by}
use Rattle.dsdl_resolve.specs.Place.{is_union_section}
use Rattle.dsdl_resolve.specs.Says.{is_entry, is_field}
use Rattle.dsdl_resolve.proofs.Wholes as wholes
use Rattle.dsdl_resolve.proofs.whole.whole_of.Goals as goal

pub loop-line-init : goal.loop-line-init
loop-line-init c = record { plain = refl; begun = refl; union = refl; fields = refl; few = omega arith }

pub returns-then-is_split-clause-union : goal.returns-then-is_split-clause-union
returns-then-is_split-clause-union c =
    c.loop-line.invariant.union
    ∙ ap is_union_section (sym (wholes.split_at c.args.lines.now c.loop-line.line-index c.line-item.result c.loop-line-test.true c.line-item.is c.loop-line.invariant.plain (sym c.is_split.ensures ∙ c.if-is_split.true)))

pub returns-then-is_split-clause-fields : goal.returns-then-is_split-clause-fields
returns-then-is_split-clause-fields c =
    c.loop-line.invariant.fields
    ∙ ap (count_by is_field) (sym (wholes.split_at c.args.lines.now c.loop-line.line-index c.line-item.result c.loop-line-test.true c.line-item.is c.loop-line.invariant.plain (sym c.is_split.ensures ∙ c.if-is_split.true)))

pub loop-line-preserved : goal.loop-line-preserved
loop-line-preserved c =
    let begun = wholes.begun_more c.args.lines.now c.loop-line.line-index c.line-item.result c.loop-line-test.true c.line-item.is c.loop-line.begun (is_entry c.line-item.result) c.is_begun-begun.result
    c.loop-line.invariant.begun refl c.is_begun-begun.ensures
    in
    record {
      plain = wholes.plain_more c.args.lines.now c.loop-line.line-index c.line-item.result c.loop-line-test.true c.line-item.is c.loop-line.invariant.plain (sym c.is_split.ensures ∙ c.if-is_split.false);
      begun = begun;
      union = wholes.union_more c.args.lines.now c.loop-line.line-index c.line-item.result c.loop-line-test.true c.line-item.is c.loop-line.whole.union c.is_begun-begun.result c.with-whole.result.union
          c.loop-line.invariant.union begun c.with-whole.ensures.union;
      fields = wholes.fields_more c.args.lines.now c.loop-line.line-index c.line-item.result c.loop-line-test.true c.line-item.is c.loop-line.whole.fields c.with-whole.result.fields
          c.loop-line.invariant.fields c.with-whole.ensures.fields;
      few = wholes.few_more c.loop-line.whole.fields c.with-whole.result.fields c.loop-line.line-index (is_field c.line-item.result) c.loop-line.invariant.few c.with-whole.ensures.fields;
    }

pub returns-clause-union : goal.returns-clause-union
returns-clause-union c =
    c.loop-line.invariant.union ∙ ap is_union_section (sym (wholes.all_lines c.args.lines.now c.loop-line.line-index c.loop-line-test.false c.loop-line.invariant.plain))

pub returns-clause-fields : goal.returns-clause-fields
returns-clause-fields c =
    c.loop-line.invariant.fields ∙ ap (count_by is_field) (sym (wholes.all_lines c.args.lines.now c.loop-line.line-index c.loop-line-test.false c.loop-line.invariant.plain))
