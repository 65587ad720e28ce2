use Rattle.std.proofs.Common.{◌≡◌, ◌∙◌, ◌++◌, ◌∷◌, [], true, false, sym, ap, subst, append_assoc, string_bytes, not}
use Rattle.std.specs.List.{list_any}
use Rattle.std.specs.Str.{bytes_eq}
use Rattle.cy_outside.specs.declared.tree.Entry.{Entry}
use Rattle.dsdl_files.specs.Steps.{NamesDiffer}
use Rattle.dsdl_files.proofs.Firsts.{repeated, not_added, added_new, more_names, firsts_new, firsts_same, differ_more}
use Rattle.dsdl_files.proofs.listing.first_of_each.Goals as goal

pub loop-entry-preserved : goal.loop-entry-preserved
loop-entry-preserved c =
    let done = c.loop-entry.yielded in
    let e = c.in-Some.entry in
    let rest = c.next.new.self.rest.items in
    let whole : c.args.entries ≡ done ++ e ∷ rest = c.loop-entry.invariant.whole ∙ ap (λ r. done ++ r) c.in-Some.ensures.steps.0 in
    let named : string_bytes c.in_ok-name.name ≡ e.name = c.in_ok-name.ensures.ok ∙ c.as_str.ensures in
    let known : list_any (λ (x : Entry). bytes_eq x.name e.name) done ≡ true = sym (c.loop-entry.invariant.names e.name)
    ∙ not_added c.in_ok-insert.field-0 _ (c.in_ok-insert.ensures.added ∙ ap (λ n. not (list_any (bytes_eq n) c.loop-entry.names)) named) c.if-branch.false in
    record {
      whole = whole ∙ sym (append_assoc done (e ∷ []) rest);
      kept = λ apart. repeated c.args.entries done rest e whole apart known;
      firsts = c.loop-entry.invariant.firsts ∙ sym (firsts_same done e known);
      differ = c.loop-entry.invariant.differ;
      names = λ name. more_names done e name _ _ _ named (c.in_ok-insert.ensures.paths name) (c.loop-entry.invariant.names name);
    }

pub loop-entry-preserved-in-Continue-branch-3 : goal.loop-entry-preserved-in-Continue-branch-3
loop-entry-preserved-in-Continue-branch-3 c =
    let done = c.loop-entry.yielded in
    let e = c.in-Some.entry in
    let rest = c.next.new.self.rest.items in
    let whole : c.args.entries ≡ done ++ e ∷ rest = c.loop-entry.invariant.whole ∙ ap (λ r. done ++ r) c.in-Some.ensures.steps.0 in
    let named : string_bytes c.in_ok-name.name ≡ e.name = c.in_ok-name.ensures.ok ∙ c.as_str.ensures in
    let new : list_any (λ (x : Entry). bytes_eq x.name e.name) done ≡ false = sym (c.loop-entry.invariant.names e.name)
    ∙ added_new c.in_ok-insert.field-0 _ (c.in_ok-insert.ensures.added ∙ ap (λ n. not (list_any (bytes_eq n) c.loop-entry.names)) named) c.if-branch.true in
    let pushed = c.in_ok-push.ensures.ok ∙ ap (λ f. f ++ e ∷ []) c.loop-entry.invariant.firsts in
    record {
      whole = whole ∙ sym (append_assoc done (e ∷ []) rest);
      kept = λ apart. c.in_ok-push.ensures.ok ∙ ap (λ f. f ++ e ∷ []) (c.loop-entry.invariant.kept apart);
      firsts = pushed ∙ sym (firsts_new done e new);
      differ = subst NamesDiffer (sym pushed) (differ_more done e new (subst NamesDiffer c.loop-entry.invariant.firsts c.loop-entry.invariant.differ));
      names = λ name. more_names done e name _ _ _ named (c.in_ok-insert.ensures.paths name) (c.loop-entry.invariant.names name);
    }
