use Rattle.std.proofs.Common.{◌≡◌, ◌∙◌, ◌++◌, ◌∷◌, [], sym, ap, map, append_assoc, string_bytes, true}
use Rattle.std.specs.BTreeSet.{insert_key}
use Rattle.std.proofs.lemmas.List.{map-append}
use Rattle.cy_outside.specs.declared.tree.Entry.{Entry}
use Rattle.file_service.specs.Names.{by_bytes, is_listed, listed}
use Rattle.file_service.proofs.Sorted.{listed_more, none_listed, texts_insert}
use Rattle.file_service.proofs.listed.names_of.Goals as goal

pub loop-entry-init : goal.loop-entry-init
loop-entry-init c = record {
  whole = sym (c.into_iter-entry-iterator.ensures.into_iter_gives.0 ∙ c.into_vec-entry-items.ensures);
  names = ap (map (λ t. string_bytes t)) c.new-names.ensures.empty ∙ sym none_listed;
}

pub loop-entry-preserved-in_ok-insert : goal.loop-entry-preserved-in_ok-insert
loop-entry-preserved-in_ok-insert c =
    let done = c.loop-entry.yielded in
    let e = c.in-Some.entry in
    let named = map (λ (x : Entry). x.name) done in
    let text : string_bytes c.into_string.result ≡ e.name = c.into_string.ensures in
    let is : is_listed e.name ≡ true = ap is_listed (sym c.as_str.ensures) ∙ sym c.is_listed.ensures ∙ c.if-is_listed.true in
    record {
      whole = c.loop-entry.invariant.whole ∙ ap (λ r. done ++ r) c.in-Some.ensures.steps.0 ∙ sym (append_assoc done (e ∷ []) c.next.new.self.rest.items);
      names = ap (map (λ t. string_bytes t)) c.in_ok-insert.ensures.keys
          ∙ texts_insert c.loop-entry.names.keys c.into_string.result
          ∙ (λ i. insert_key by_bytes (c.loop-entry.invariant.names i) (text i))
          ∙ sym (listed_more named e.name is)
          ∙ ap listed (sym (map-append (λ (x : Entry). x.name) done (e ∷ [])));
    }
