use Rattle.std.proofs.Common.{◌≡◌, ◌∙◌, map, ap, subst}
use Rattle.std.specs.List.{flat_map}
use Rattle.layout_text.specs.Namespaces.{IsByName}
use Rattle.type_changes.specs.Entries.{entry_of, paired}
use Rattle.type_changes.specs.Lines.{first_harm, line_text, lines_of}
use Rattle.type_changes.proofs.Whole.{are_changes}
use Rattle.type_changes.proofs.changes.changes_of.Goals as goal

pub returns : goal.returns
returns c =
    let olds = map (λ d. d.now) c.in_ok-olds.olds.items in
    let news = map (λ d. d.now) c.in_ok-news.news.items in
    let entries : map entry_of c.in_ok-entries.entries.items ≡ paired olds news =
    c.in_ok-entries.ensures ∙ (λ i. paired (map (λ d. d.now) (c.as_slice-3.ensures.value i)) (map (λ d. d.now) (c.as_slice-4.ensures.value i))) in
    let lines : c.in_ok-lines.lines.items ≡ lines_of (paired olds news) =
    c.in_ok-lines.ensures ∙ ap (λ es. lines_of (map entry_of es)) c.as_slice-5.ensures.value ∙ ap lines_of entries in
    are_changes c.args.old.now c.args.new.now c.in_ok-text.text.items c.in_ok-first.first olds news
    (subst (λ ds. IsByName ds olds) c.as_slice.ensures c.in_ok-olds.ensures)
    (subst (λ ds. IsByName ds news) c.as_slice-2.ensures c.in_ok-news.ensures)
    (c.in_ok-text.ensures ∙ ap (flat_map line_text) (c.as_slice-6.ensures.value ∙ lines))
    (c.in_ok-first.ensures ∙ ap first_harm (c.as_slice-7.ensures.value ∙ lines))
