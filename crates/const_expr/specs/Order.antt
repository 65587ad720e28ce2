-- The order of the members of sets is total.
use Rattle.std.proofs.Common.{◌≡◌, ℕ, pos, Bool, false, List, [], refl, sym, subst, Less, Equal}
use Rattle.std.proofs.Common.{Greater}
use Rattle.std.specs.declared.cmp.Ordering.{Ordering}
use Rattle.std.specs.Ordering.{nat_cmp, bool_cmp, on, then_cmp, ordering_then}
use Rattle.std.specs.Cmp.{IsTotalOrder, on_total, then_total, nat_cmp_total, bool_cmp_total}
use Rattle.std.specs.Cmp.Lexicographic.{slice_cmp, nat_list_cmp_total}
use Rattle.cy_ratio.specs.Fraction.{Fraction, order_of}
use Rattle.cy_ratio.specs.Order.{order_total}
use Rattle.const_expr.specs.declared.constant.Const.{out-Const}
use Rattle.const_expr.specs.declared.constant.Const.TheOpen as o
use Rattle.const_expr.specs.Constants.{Layer, whole, kind, layer_order, const_order}

abbrev number_part : Layer → Fraction
number_part (o.Number x) = x
number_part _ = whole (pos 0)

abbrev truth_part : Layer → Bool
truth_part (o.Truth b) = b
truth_part _ = false

abbrev text_part : Layer → List ℕ
text_part (o.Str s) = s
text_part _ = []

-- by kind, and then by each part
abbrev by_parts : Layer → Layer → Ordering
by_parts = then_cmp (on kind nat_cmp) (then_cmp (on number_part order_of) (then_cmp (on truth_part bool_cmp) (on text_part (slice_cmp nat_cmp))))

by_parts_total : IsTotalOrder by_parts
by_parts_total = then_total (on_total kind nat_cmp_total)
    (then_total (on_total number_part order_total) (then_total (on_total truth_part bool_cmp_total) (on_total text_part nat_list_cmp_total)))

alone : (r : Ordering) → r ≡ ordering_then r Equal
alone Less = refl
alone Equal = refl
alone Greater = refl

same : (u v : Layer) → layer_order u v ≡ by_parts u v
same (o.Number x) (o.Number y) = alone (order_of x y)
same (o.Number x) (o.Truth b) = refl
same (o.Number x) (o.Str t) = refl
same (o.Number x) (o.Set ys) = refl
same (o.Number x) (o.Lengths ns) = refl
same (o.Number x) (o.Named j) = refl
same (o.Truth a) (o.Number y) = refl
same (o.Truth a) (o.Truth b) = alone (bool_cmp a b)
same (o.Truth a) (o.Str t) = refl
same (o.Truth a) (o.Set ys) = refl
same (o.Truth a) (o.Lengths ns) = refl
same (o.Truth a) (o.Named j) = refl
same (o.Str s) (o.Number y) = refl
same (o.Str s) (o.Truth b) = refl
same (o.Str s) (o.Str t) = refl
same (o.Str s) (o.Set ys) = refl
same (o.Str s) (o.Lengths ns) = refl
same (o.Str s) (o.Named j) = refl
same (o.Set xs) (o.Number y) = refl
same (o.Set xs) (o.Truth b) = refl
same (o.Set xs) (o.Str t) = refl
same (o.Set xs) (o.Set ys) = refl
same (o.Set xs) (o.Lengths ns) = refl
same (o.Set xs) (o.Named j) = refl
same (o.Lengths ms) (o.Number y) = refl
same (o.Lengths ms) (o.Truth b) = refl
same (o.Lengths ms) (o.Str t) = refl
same (o.Lengths ms) (o.Set ys) = refl
same (o.Lengths ms) (o.Lengths ns) = refl
same (o.Lengths ms) (o.Named j) = refl
same (o.Named i) (o.Number y) = refl
same (o.Named i) (o.Truth b) = refl
same (o.Named i) (o.Str t) = refl
same (o.Named i) (o.Set ys) = refl
same (o.Named i) (o.Lengths ns) = refl
same (o.Named i) (o.Named j) = refl

pub const_order_total : IsTotalOrder const_order
unfolding const_order
const_order_total = on_total out-Const (subst IsTotalOrder (λ i u v. sym (same u v) i) by_parts_total)
