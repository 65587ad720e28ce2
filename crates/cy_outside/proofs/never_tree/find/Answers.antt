use Rattle.std.proofs.Common.{◌≡◌, ◌∙◌, sym, ap, subst, cond, T, Some, ◌+◌, drop, map, false, true}
use Rattle.std.specs.Cmp.Lexicographic.{nat_list_cmp_total}
use Rattle.std.specs.Ordering.{eq_by_cmp}
use Rattle.std.specs.FinMap.{find, get-from_entries}
use Rattle.cy_outside.specs.declared.file.File.{File}
use Rattle.cy_outside.proofs.Stored.{by_bytes, find_next, other_path, path_itself, same_text, text_itself}
use Rattle.cy_outside.proofs.never_tree.find.Goals as goal

pub loop-file-init : goal.loop-file-init
loop-file-init c = get-from_entries nat_list_cmp_total _ _

pub loop-file-preserved : goal.loop-file-preserved
loop-file-preserved c =
    let path = c.args.path.now in
    let file = c.file-item.result in
    let other : eq_by_cmp by_bytes path file.path ≡ false =
    other_path path file.path (λ e. subst T (sym (text_itself c.as_str.result.now path (c.as_str.ensures ∙ sym e)) ∙ sym c.eq.ensures ∙ c.if-eq.false) tt) in
    c.loop-file.invariant ∙ find_next c.args.files.now c.loop-file.file-index file path c.loop-file-test.true c.file-item.is
    ∙ ap (λ t. cond t (Some file.bytes) (find by_bytes path (map (λ (g : File). (g.path, g.bytes)) (drop (c.loop-file.file-index + 1) c.args.files.now)))) other

pub returns-then-eq : goal.returns-then-eq
returns-then-eq c =
    let path = c.args.path.now in
    let file = c.file-item.result in
    let same : eq_by_cmp by_bytes path file.path ≡ true =
    path_itself path file.path (sym (same_text c.as_str.result.now path (sym c.eq.ensures ∙ c.if-eq.true)) ∙ c.as_str.ensures) in
    ap Some c.as_slice.ensures
    ∙ sym (c.loop-file.invariant ∙ find_next c.args.files.now c.loop-file.file-index file path c.loop-file-test.true c.file-item.is
    ∙ ap (λ t. cond t (Some file.bytes) (find by_bytes path (map (λ (g : File). (g.path, g.bytes)) (drop (c.loop-file.file-index + 1) c.args.files.now)))) same)
