use Rattle.std.proofs.Common.{◌≡◌, ◌+◌, ◌++◌, map, ap, sym, ◌∙◌, rules, Bor}
use Rattle.dsdl_parse.specs.declared.expr.Reference.{Reference}
use Rattle.dsdl_links.specs.Mentions.{noted, references_in}
use Rattle.dsdl_links.proofs.Naming.{mentions_more}
use Rattle.dsdl_links.proofs.source.mentions_of.Goals as goal

pub loop-i-preserved : goal.loop-i-preserved
loop-i-preserved c =
    let own = c.args.own.now in
    let i = c.loop-i.i in
    let s = c.index-lines-i.result in
    let found : map (λ (r : Bor Reference). r.now) c.deref.result.now ≡ references_in s =
    ap (map (λ (r : Bor Reference). r.now)) c.deref.ensures.value ∙ c.in_ok-references.ensures in
    c.in_ok-note.ensures ∙ ap (λ rs. c.loop-i.found ++ noted own (i + 1) rs) found ∙ ap (λ l. l ++ noted own (i + 1) (references_in s)) c.loop-i.invariant
    ∙ sym (mentions_more own c.args.lines.now i s (search rules) c.index-lines-i.is)
