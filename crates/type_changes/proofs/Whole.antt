-- What is said of two namespaces: there is one answer, by the laws of its lines.
use Rattle.std.proofs.Common.{◌≡◌, ◌↔◌, ◌∙◌, ℕ, List, map, All, refl, sym, subst}
use Rattle.std.specs.List.{filter, flat_map}
use Rattle.dsdl_names.specs.declared.TypeId.{TypeId}
use Rattle.dsdl_types.specs.Finding.{same_id, definition_of}
use Rattle.dsdl_types.specs.declared.definition.Definition.{Definition}
use Rattle.dsdl_types.specs.declared.namespace.Namespace.{Namespace}
use Rattle.layout_text.specs.Namespaces.{IsByName}
use Rattle.layout_text.proofs.ByName.{before, before_ranks}
use Rattle.layout_text.proofs.OneOrder.{one_order}
use Rattle.layout_text.proofs.SomeText.{some_order}
use Rattle.layout_text.proofs.Sorting.{sort}
use Rattle.compat_check.specs.declared.verdict.Verdict.{Verdict}
use Rattle.compat_check.specs.declared.verdict.Verdict.TheVariants.{Yes}
use Rattle.type_changes.specs.Entries.{paired}
use Rattle.type_changes.specs.Laws.{AreDistinct, IsSame, entry_where, plain_line, turned_line}
use Rattle.type_changes.specs.Lines.{AreChanges, IsHarmless, line_text, lines_of, first_harm}
use Rattle.type_changes.proofs.Harmless.{harmless, itself_harmless}
use Rattle.type_changes.proofs.Once as once
use Rattle.type_changes.proofs.Turned.{lines_turned, same_lines}

pub are_changes : (old new : Namespace) (lines : List ℕ) (first : Verdict) (olds news : List Definition) → IsByName old.definitions olds → IsByName new.definitions news
    → lines ≡ flat_map line_text (lines_of (paired olds news)) → first ≡ first_harm (lines_of (paired olds news)) → AreChanges old new lines first
are_changes old new lines first olds news a b told harm = record {
  olds = olds;
  news = news;
  old_order = a;
  new_order = b;
  told = told;
  harm = harm;
  harmless = subst (λ v. (v ≡ Yes) ↔ All IsHarmless (paired olds news)) (sym harm) (harmless (paired olds news));
}

pub some_answer : (old new : Namespace) → (lines : List ℕ) × (first : Verdict) × AreChanges old new lines first
some_answer old new =
    let olds = sort before old.definitions in
    let news = sort before new.definitions in
    let lines = flat_map line_text (lines_of (paired olds news)) in
    let first = first_harm (lines_of (paired olds news)) in
    (lines, first, are_changes old new lines first olds news (some_order old.definitions) (some_order new.definitions) refl refl)

one_sort : (ds xs ys : List Definition) → IsByName ds xs → IsByName ds ys → xs ≡ ys
one_sort ds xs ys a b = one_order before before_ranks xs ys a.ascending b.ascending (λ d. a.stable d ∙ sym (b.stable d))

pub one_answer : (old new : Namespace) (a b : List ℕ) (v w : Verdict) → AreChanges old new a v → AreChanges old new b w → (a ≡ b) × (v ≡ w)
one_answer old new a b v w x y =
    let e = one_sort old.definitions x.olds y.olds x.old_order y.old_order in
    let f = one_sort new.definitions x.news y.news x.new_order y.new_order in (
      x.told ∙ (λ i. flat_map line_text (lines_of (paired (e i) (f i)))) ∙ sym y.told,
      x.harm ∙ (λ i. first_harm (lines_of (paired (e i) (f i)))) ∙ sym y.harm,
    )

pub one_entry : (old new : Namespace) (lines : List ℕ) (first : Verdict) (x : AreChanges old new lines first) (id : TypeId) → AreDistinct old.definitions → AreDistinct new.definitions
    → filter (λ e. same_id e.id id) (paired x.olds x.news) ≡ entry_where id (definition_of old.definitions id) (definition_of new.definitions id)
one_entry old new lines first x id h g =
    once.one_entry old.definitions new.definitions x.olds x.news id x.old_order.ascending x.old_order.stable x.new_order.ascending x.new_order.stable h g

pub turned : (old new : Namespace) (a b : List ℕ) (v w : Verdict) (x : AreChanges old new a v) (y : AreChanges new old b w)
    → map turned_line (lines_of (paired x.olds x.news)) ≡ map plain_line (lines_of (paired y.olds y.news))
turned old new a b v w x y =
    let e = one_sort old.definitions x.olds y.news x.old_order y.new_order in
    let f = one_sort new.definitions x.news y.olds x.new_order y.old_order in
    lines_turned x.olds x.news ∙ (λ i. map plain_line (lines_of (paired (f i) (e i))))

pub same_changes : (names : Namespace) (lines : List ℕ) (first : Verdict) (x : AreChanges names names lines first) → (first ≡ Yes) × All IsSame (lines_of (paired x.olds x.news))
same_changes names lines first x =
    let e = one_sort names.definitions x.olds x.news x.old_order x.new_order in
    let same : All IsSame (lines_of (paired x.olds x.news)) = subst (λ ds. All IsSame (lines_of (paired x.olds ds))) e (same_lines x.olds) in
    (x.harm ∙ itself_harmless (lines_of (paired x.olds x.news)) same, same)
