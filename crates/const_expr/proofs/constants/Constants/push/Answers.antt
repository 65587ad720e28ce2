use Rattle.std.proofs.Common.{◌≡◌, ◌++◌, ◌∷◌, [], ℕ, List, length, Some, None, true, false, sym, ap, ◌∙◌, subst, rules, string_bytes, cond}
use Rattle.std.specs.Prelude.{is_some}
use Rattle.std.specs.Str.{bytes_eq}
use Rattle.std.specs.BTreeMap.{get_by_text}
use Rattle.std.proofs.lemmas.Map.Text.{btree_map_updates_text}
use Rattle.const_expr.specs.Names.{AreNamePlaces}
use Rattle.const_expr.proofs.FirstItem.{is_none, is_some_of}
use Rattle.const_expr.proofs.NameLemmas.{names_kept, names_more, on_no_err}
use Rattle.const_expr.proofs.constants.Constants.push.Goals as goal

pub invariant_of-self-else-is_err : goal.invariant_of-self-else-is_err
invariant_of-self-else-is_err c =
    let ks = c.self.inside.list.items in
    let k = c.args.constant in
    let old = c.self.inside.places in
    let new = c.insert.new.self in
    let place = c.len-place.result in
    let fresh : c.contains_key-is_first.result ≡ false = search rules in
    let pushed : c.push.new.self.items ≡ ks ++ k ∷ [] = search rules in
    let named : string_bytes c.in_ok-name.name ≡ k.name = c.in_ok-name.ensures.ok ∙ c.as_str.ensures in
    let has : c.contains_key-is_first.result ≡ is_some (get_by_text old k.name) = c.contains_key-is_first.ensures ∙ ap (λ n. is_some (get_by_text old n)) (c.as_str-2.ensures.value ∙ named) in
    let none : get_by_text old k.name ≡ None = is_none (get_by_text old k.name) (sym has ∙ fresh) in
    let last : place ≡ length ks = search rules in
    let updates = on_no_err c.insert.result c.insert.ensures.updates (sym c.is_err.ensures.value ∙ c.if-is_err.false) in
    let is : (name : List ℕ) → get_by_text new name ≡ cond (bytes_eq k.name name) (Some place) (get_by_text old name) = λ name.
    btree_map_updates_text (string_bytes c.in_ok-name.name) old new (Some place) updates name ∙ ap (λ n. cond (bytes_eq n name) (Some place) (get_by_text old name)) named in
    subst (λ l. AreNamePlaces l (get_by_text new)) (sym pushed) (names_more ks k (get_by_text old) c.self.invariant (get_by_text new) place last none is)

pub invariant_of-self-else-is_first : goal.invariant_of-self-else-is_first
invariant_of-self-else-is_first c =
    let ks = c.self.inside.list.items in
    let k = c.args.constant in
    let places = c.self.inside.places in
    let taken : c.contains_key-is_first.result ≡ true = search rules in
    let pushed : c.push.new.self.items ≡ ks ++ k ∷ [] = search rules in
    let named : string_bytes c.in_ok-name.name ≡ k.name = c.in_ok-name.ensures.ok ∙ c.as_str.ensures in
    let has : c.contains_key-is_first.result ≡ is_some (get_by_text places k.name) = c.contains_key-is_first.ensures ∙ ap (λ n. is_some (get_by_text places n)) (c.as_str-2.ensures.value ∙ named) in
    let (place, at) = is_some_of (get_by_text places k.name) (sym has ∙ taken) in
    subst (λ l. AreNamePlaces l (get_by_text places)) (sym pushed) (names_kept ks k (get_by_text places) c.self.invariant place at)
