-- The rules of the language by their numbers, each named by what breaks it.
use Rattle.std.specs.Prelude.{ℕ}

abbrev pub second_split : ℕ
second_split = 1

abbrev pub no_ending : ℕ
no_ending = 2

abbrev pub second_ending : ℕ
second_ending = 3

abbrev pub extent_too_small : ℕ
extent_too_small = 4

abbrev pub behind_extent : ℕ
behind_extent = 5

abbrev pub late_union : ℕ
late_union = 6

abbrev pub too_few_variants : ℕ
too_few_variants = 7

abbrev pub padding_in_union : ℕ
padding_in_union = 8

abbrev pub name_taken : ℕ
name_taken = 9

abbrev pub name_reserved : ℕ
name_reserved = 10

abbrev pub wrong_width : ℕ
wrong_width = 11

abbrev pub wrong_cast_mode : ℕ
wrong_cast_mode = 12

abbrev pub wrong_capacity : ℕ
wrong_capacity = 13

abbrev pub not_a_message : ℕ
not_a_message = 14

abbrev pub constant_not_primitive : ℕ
constant_not_primitive = 15

abbrev pub constant_out_of_range : ℕ
constant_out_of_range = 16

abbrev pub unknown_directive : ℕ
unknown_directive = 17

abbrev pub misplaced_expression : ℕ
misplaced_expression = 18

abbrev pub late_deprecated : ℕ
late_deprecated = 19

abbrev pub assert_not_truth : ℕ
assert_not_truth = 20

abbrev pub service_port_too_great : ℕ
service_port_too_great = 21

abbrev pub union_offset_too_early : ℕ
union_offset_too_early = 22

abbrev pub nested_too_deep : ℕ
nested_too_deep = 23

abbrev pub too_many_nodes : ℕ
too_many_nodes = 24
