use Rattle.std.proofs.Common.{◌≡◌, ◌∙◌, ℕ, ◌+◌, ◌==◌, List, ◌∷◌, ◌++◌, drop, length, sym, ap, subst, arith, rules}
use Rattle.std.proofs.lemmas.Bool.{false≢true}
use Rattle.value_text.proofs.Left.{union_is}
use Rattle.dsdl_types.proofs.Equations.{val_union}
use Rattle.dsdl_types.specs.Fits.{Fits}
use Rattle.dsdl_types.specs.Values.{Tagged, count}
use Rattle.dsdl_types.specs.Views.{body_of, flds, sch, val, vals}
use Rattle.dsdl_types.specs.Fits.{AllOf}
use Rattle.value_text.specs.Loose.{GivesFields, GivesItems, GivesVariant}
use Rattle.value_text.specs.Words.{lead}
use Rattle.value_text.proofs.ReadItems.{ItemsLeft, all_pushed, count_pushed, items_all, items_next, items_over}
use Rattle.value_text.proofs.ReadFields.{FieldsRead, fields_all, fields_next, not_first}
use Rattle.value_text.proofs.ReadValues.{array_hex, array_items, fixed_read, if_none, if_ok, union_zero, var_read}
use Rattle.value_text.proofs.ReadVariants.{variant_found, variants_next, variants_none}
use Rattle.value_text.proofs.read.+read.Goals as goal

pub array_at-returns-then-are_in_hex : goal.array_at-returns-then-are_in_hex
array_at-returns-then-are_in_hex t c =
    if_ok c.bytes_at.result _ _ (λ vs g. array_hex (sch c.args.item.now) c.args.exact c.args.len _ (drop c.skip.new.at c.args.line.now) _ (vals vs) (sym c.if-are_in_hex.ensures) c.skip.ensures g) c.bytes_at.ensures

pub array_at-returns : goal.array_at-returns
array_at-returns t c =
    array_items (sch c.args.item.now) c.args.exact c.args.len _ _ _ _ (vals c.in_ok-items.items) (sym c.if-are_in_hex.ensures) c.skip-2.ensures c.in_ok-items.ensures c.skip-3.ensures

pub fields_at-loop-field-preserved : goal.fields_at-loop-field-preserved
fields_at-loop-field-preserved t c =
    let items = c.in_ok-push.ensures.items in
    subst (λ l. FieldsRead (flds c.as_slice-field-items.result.now) (vals l) (length l == 0) (flds (drop (c.loop-field.field-index + 1) c.as_slice-field-items.result.now)) (drop c.args.at.now c.args.line.now) (drop c.entry_at.new.at c.args.line.now)) (sym items)
    (fields_next c.as_slice-field-items.result.now c.loop-field.field-index c.field-item.result c.loop-field.values.items (length c.loop-field.values.items == 0) _ c.in_ok-entry_at.field-0 _ _ _ _ _ c.loop-field-test.true c.field-item.is (sym c.if-is_padding.ensures) (not_first c.loop-field.values.items c.in_ok-entry_at.field-0)
    (c.skip_lead.ensures ∙ ap (λ n. drop (length (lead (n == 0))) (drop c.loop-field.at c.args.line.now)) (search rules)) c.in_ok-entry_at.ensures c.loop-field.invariant)

pub fields_at-returns : goal.fields_at-returns
fields_at-returns t c =
    subst (λ l. GivesFields (body_of c.args.body.now).0 (drop c.args.at.now c.args.line.now) (drop c.loop-field.at c.args.line.now) (vals l)) (sym c.new.ensures)
    (fields_all c.args.body.now c.as_slice-field-items.result.now c.loop-field.field-index (vals c.loop-field.values.items) _ _ _ c.as_slice-field-items.ensures c.loop-field-test.false c.loop-field.invariant)

pub items_at-returns-then-are_all_items : goal.items_at-returns-then-are_all_items
items_at-returns-then-are_all_items t c =
    subst (λ l. GivesItems (sch c.args.item.now) c.args.exact c.args.len (drop c.args.at.now c.args.line.now) (drop c.loop-i.at c.args.line.now) (vals l)) (sym c.new.ensures)
    (items_over (sch c.args.item.now) c.args.exact c.args.len c.loop-i.i (vals c.loop-i.values.items) _ _ c.loop-i-test.true c.loop-i.invariant.made c.loop-i.invariant.all (sym c.if-are_all_items.ensures) c.loop-i.invariant.left)

pub items_at-returns : goal.items_at-returns
items_at-returns t c =
    subst (λ l. GivesItems (sch c.args.item.now) c.args.exact c.args.len (drop c.args.at.now c.args.line.now) (drop c.loop-i.at c.args.line.now) (vals l)) (sym c.new-2.ensures)
    (items_all (sch c.args.item.now) c.args.exact c.args.len c.loop-i.i (vals c.loop-i.values.items) _ _ c.loop-i-test.false c.loop-i.invariant.most c.loop-i.invariant.made c.loop-i.invariant.all c.loop-i.invariant.left)

pub items_at-loop-i-preserved : goal.items_at-loop-i-preserved
items_at-loop-i-preserved t c =
    let items = c.in_ok-push.ensures.items in
    record {
      most = omega (arith, c.loop-i-test.true);
      made = ap (λ l. count (vals l)) items ∙ count_pushed c.loop-i.values.items c.in_ok-value_at.field-0 c.loop-i.i c.loop-i.invariant.made;
      all = subst (λ l. AllOf (λ x. Fits (sch c.args.item.now) x) (vals l)) (sym items) (all_pushed (λ x. Fits (sch c.args.item.now) x) c.loop-i.values.items c.in_ok-value_at.field-0 c.loop-i.invariant.all c.in_ok-value_at.ensures.0);
      left = subst (λ l. ItemsLeft (sch c.args.item.now) c.args.exact c.args.len (vals l) (c.loop-i.i + 1 == 0) (drop c.args.at.now c.args.line.now) (drop c.value_at.new.at c.args.line.now)) (sym items)
          (items_next (sch c.args.item.now) c.args.exact c.args.len c.loop-i.i c.loop-i.values.items c.in_ok-value_at.field-0 _ _ _ _ c.loop-i-test.true c.loop-i.invariant.made (sym c.if-are_all_items.ensures) c.skip_lead.ensures c.in_ok-value_at.ensures c.loop-i.invariant.left);
    }

pub value_at-returns-in_ok-items-in-Fixed : goal.value_at-returns-in_ok-items-in-Fixed
value_at-returns-in_ok-items-in-Fixed t c =
    fixed_read c.args.schema.now c.in-Fixed.item c.get.result.now c.in-Fixed.len _ _ c.in_ok-items-in-Fixed.items c.in-Fixed.is c.get.ensures c.in_ok-items-in-Fixed.ensures

pub value_at-returns-in_ok-items-in-Var : goal.value_at-returns-in_ok-items-in-Var
value_at-returns-in_ok-items-in-Var t c =
    var_read c.args.schema.now c.in-Var.item c.get-in-Var.result.now c.in-Var.cap _ _ c.in_ok-items-in-Var.items c.in-Var.is c.get-in-Var.ensures c.in_ok-items-in-Var.ensures

pub variant_at-returns-then-is_named : goal.variant_at-returns-then-is_named
variant_at-returns-then-is_named t c =
    let name = c.as_bytes.ensures.value ∙ c.as_str.ensures in
    subst (λ w. GivesVariant (body_of c.args.body.now).0 (drop c.args.at.now c.args.line.now) (drop c.entry_at.new.at c.args.line.now) w) (sym (val_union c.loop-field.tag c.in_ok-value-2.value ∙ ap (λ v. Tagged c.loop-field.tag (val v)) c.in_ok-value-2.ensures))
    (variant_found c.args.body.now c.as_slice-field-items.result.now c.loop-field.field-index c.field-item.result c.loop-field.tag (drop c.args.at.now c.args.line.now) (drop c.loop-field.at c.args.line.now) (drop c.entry_at.new.at c.args.line.now) (val c.in_ok-value.value)
    c.as_slice-field-items.ensures c.loop-field-test.true c.field-item.is (sym c.if-is_padding.ensures)
    (subst (λ n. (x : List ℕ) × drop c.loop-field.at c.args.line.now ≡ n ++ 58 ∷ x) name (c.is_named.ensures.named c.if-is_named.true)) c.loop-field.invariant.same c.in_ok-value.ensures c.loop-field.invariant.tried)

pub variant_at-loop-field-preserved : goal.variant_at-loop-field-preserved
variant_at-loop-field-preserved t c =
    let name = c.as_bytes.ensures.value ∙ c.as_str.ensures in
    record {
      same = c.loop-field.invariant.same;
      tried = variants_next c.as_slice-field-items.result.now c.loop-field.field-index c.field-item.result (flds c.as_slice-field-items.result.now) c.loop-field.tag (drop c.args.at.now c.args.line.now) c.loop-field-test.true c.field-item.is (sym c.if-is_padding.ensures)
          (λ x e. false≢true (sym c.if-is_named.false ∙ c.is_named.ensures.other x (c.loop-field.invariant.same ∙ e ∙ ap (λ n. n ++ 58 ∷ x) (sym name)))) c.loop-field.invariant.tried;
    }

pub variant_at-returns : goal.variant_at-returns
variant_at-returns t c =
    variants_none c.args.body.now c.as_slice-field-items.result.now c.loop-field.field-index c.loop-field.tag (drop c.args.at.now c.args.line.now) c.as_slice-field-items.ensures c.loop-field-test.false c.loop-field.invariant.tried

pub value_at-returns-in-None : goal.value_at-returns-in-None
value_at-returns-in-None t c =
    let none = if_none c.in_ok-variant-in-Union.field-0 _ _ c.in-None.is c.in_ok-variant-in-Union.ensures in
    if_ok c.zero_of.result _ _ (λ v z. union_zero (sch c.args.schema.now) _ _ _ _ (val v) (union_is c.args.schema.now c.in-Union.body c.in-Union.is) c.requires.1 none z) c.zero_of.ensures
