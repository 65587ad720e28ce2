use Rattle.std.proofs.Common.{◌≡◌, ◌+◌, [], ◌∷◌, ◌++◌, Some, None, take, get_or, refl, ap, sym, ◌∙◌, subst, rules}
use Rattle.std.specs.BTreeMap.{get}
use Rattle.std.specs.List.{AllZip}
use Rattle.std.proofs.lemmas.List.{get_or_read, take_more}
use Rattle.dsdl_names.specs.declared.TypeId.{TypeId}
use Rattle.dsdl_names.specs.Types.{type_order}
use Rattle.dsdl_links.specs.declared.source.Mention.{Mention}
use Rattle.dsdl_links.specs.Links.{file_of, Means, missing_in}
use Rattle.dsdl_links.proofs.Placing.{zip_push, first_missing}
use Rattle.dsdl_links.proofs.links.links_in.Goals as goal

pub returns-in-None-clause-missing : goal.returns-in-None-clause-missing
returns-in-None-clause-missing c =
    let files = c.args.files.now in
    let m = c.mention-item.result in
    let found : None ≡ get type_order c.args.places.now m.id = subst (λ R. None ≡ get R c.args.places.now m.id) (λ n a b. c.order_of_types.ensures a b n) c.in-None.ensures.value in
    let none : file_of files m.id ≡ None = sym (c.requires.places m.id) ∙ sym found in
    let copied : c.in_ok-copy-in-None.field-0 ≡ m.id = c.in_ok-copy-in-None.ensures in
    let first = first_missing files c.as_slice-mention-items.result.now c.loop-mention.mention-index m c.loop-mention.links c.loop-mention.invariant c.loop-mention-test.true c.mention-item.is none in (
      refl,
      λ d.
          let at : get_or files c.args.file d ≡ get_or files c.args.file c.index-files-file.result =
          sym (get_or_read files c.args.file c.index-files-file.result c.requires.file c.index-files-file.is d) ∙ c.index-files-file.is in
          ap (missing_in files) at ∙ ap (λ ms. Rattle.std.specs.List.find (Rattle.dsdl_links.specs.Links.is_missing files) ms) (sym c.as_slice-mention-items.ensures) ∙ first
          ∙ ap (λ (id : TypeId). let n : Mention = record { line = m.line; id = id } in Some n) (sym copied),
    )

pub loop-mention-preserved : goal.loop-mention-preserved
loop-mention-preserved c =
    let files = c.args.files.now in
    let m = c.mention-item.result in
    let items = c.as_slice-mention-items.result.now in
    let i = c.loop-mention.mention-index in
    let found : Some c.in-Some.place.now ≡ get type_order c.args.places.now m.id =
    subst (λ R. Some c.in-Some.place.now ≡ get R c.args.places.now m.id) (λ n a b. c.order_of_types.ensures a b n) c.in-Some.ensures.value in
    let means : Means files m c.in-Some.place.now = sym (c.requires.places m.id) ∙ sym found in
    let more : take (i + 1) items ≡ take i items ++ m ∷ [] = take_more items i m c.loop-mention-test.true ∙ ap (λ x. take i items ++ x ∷ []) (sym c.mention-item.is) in
    let pushed : c.push.new.self ≡ c.loop-mention.links ++ c.in-Some.place.now ∷ [] = search rules in
    subst (λ ms. AllZip (Means files) ms c.push.new.self) (sym more)
    (subst (λ ls. AllZip (Means files) (take i items ++ m ∷ []) ls) (sym pushed) (zip_push (Means files) (take i items) c.loop-mention.links m c.in-Some.place.now c.loop-mention.invariant means))
