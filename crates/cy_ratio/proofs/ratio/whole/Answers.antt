use Rattle.std.proofs.Common.{◌≡◌, Err, sym, ◌∙◌}
use Rattle.std.proofs.lemmas.Result.{err_from_is_err_and}
use Rattle.cy_ratio.proofs.WholeLemmas.{whole_refused}
use Rattle.cy_ratio.proofs.ratio.whole.Goals as goal

pub returns-in_err-n : goal.returns-in_err-n
returns-in_err-n c z is =
    let p = err_from_is_err_and c.from_residual.result c.from_residual.ensures.1 in
    let was : c.args.n ≡ Err c.in_err-n.field-0.0 = c.in_err-n.was in
    rw (p.1, p.2) (sym (whole_refused z c.in_err-n.field-0.0 (sym is ∙ was)))
