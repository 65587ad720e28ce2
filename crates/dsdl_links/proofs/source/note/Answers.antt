use Rattle.std.proofs.Common.{◌≡◌, ◌∷◌, ◌++◌, [], Some, None, map, take, ap, sym, ◌∙◌, rules, append_assoc, Bor}
use Rattle.dsdl_parse.specs.declared.expr.Reference.{Reference}
use Rattle.dsdl_links.specs.Mentions.{noted, on_line, type_of}
use Rattle.dsdl_links.proofs.Naming.{noted_some, noted_none, borrowed_more}
use Rattle.dsdl_links.proofs.source.note.Goals as goal
use Rattle.dsdl_links.proofs.source.note.Goals.{in-Some+in_ok-push, in_default}

pub loop-reference-preserved : goal.loop-reference-preserved
loop-reference-preserved c =
    let own = c.args.own.now in
    let n = c.args.line in
    let old = c.args.found.now in
    let items = c.args.references.now in
    let i = c.loop-reference.reference-index in
    let front = map (λ (r : Bor Reference). r.now) (take i items) in
    let r = c.reference-item.result.now in
    let more = borrowed_more items i c.reference-item.result c.loop-reference-test.true c.reference-item.is in
    elim c.match-branch-2.branch [
      | in-Some+in_ok-push w ↦
          let means : type_of own r ≡ Some w.in-Some.id = search rules in
          let pushed : c.match-branch-2.found ≡ c.loop-reference.found ++ on_line n w.in-Some.id ∷ [] = search rules in
          pushed ∙ ap (λ l. l ++ on_line n w.in-Some.id ∷ []) c.loop-reference.invariant ∙ append_assoc old (noted own n front) (on_line n w.in-Some.id ∷ [])
          ∙ ap (λ l. old ++ l) (sym (noted_some own n front r w.in-Some.id means)) ∙ ap (λ l. old ++ noted own n l) (sym more)
      | in_default w ↦
          let means : type_of own r ≡ None = search rules in
          let same : c.match-branch-2.found ≡ c.loop-reference.found = search rules in
          same ∙ c.loop-reference.invariant ∙ ap (λ l. old ++ l) (sym (noted_none own n front r means)) ∙ ap (λ l. old ++ noted own n l) (sym more)
    ]
