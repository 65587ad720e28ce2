use Rattle.std.proofs.Common.{◌≡◌, ◌∙◌, sym, ap, subst, map, take, ℕ, List}
use Rattle.std.specs.List.{prefix_len}
use Rattle.frame_log.specs.Line.{hex_digit}
use Rattle.frame_log.specs.Lanes.{is_digit}
use Rattle.frame_log.proofs.LaneLemmas.{flags, flag, flags-whole, sums, one_sum, sums-whole, same_count, same_values}
use Rattle.frame_log.proofs.sixteen.digits.Goals as goal

pub returns-clause-count : goal.returns-clause-count
returns-clause-count c =
    c.digits_before.ensures
    ∙ (ap (prefix_len is_digit) (subst (λ (n : ℕ). flags c.args.c n ≡ map flag c.args.c) c.fits-c.0 (flags-whole c.args.c)) ∙ same_count c.args.c c.fits-c.1)

pub returns-clause-values : goal.returns-clause-values
returns-clause-values c =
    let n : c.digits_before.result ≡ prefix_len is_digit (map hex_digit c.args.c) =
    c.digits_before.ensures
    ∙ (ap (prefix_len is_digit) (subst (λ (n : ℕ). flags c.args.c n ≡ map flag c.args.c) c.fits-c.0 (flags-whole c.args.c)) ∙ same_count c.args.c c.fits-c.1) in
    let s = subst (λ (n : ℕ). sums c.args.c n ≡ map one_sum c.args.c) c.fits-c.0 (sums-whole c.args.c) in
    ap (λ (t : List ℕ). take c.digits_before.result t) s
    ∙ (ap (λ (k : ℕ). take k (map one_sum c.args.c)) n ∙ (same_values c.args.c c.fits-c.1 ∙ sym (ap (λ (k : ℕ). take k (map hex_digit c.args.c)) n)))
