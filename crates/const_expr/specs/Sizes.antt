-- The lengths of a schema as a list.
use Rattle.std.specs.Prelude.{ℕ, zero, suc, ◌+◌, ◌*◌, ◌-◌, ◌^◌, ◌==◌, ◌&&◌, ◌||◌, nat_le, Bool}
use Rattle.std.specs.Prelude.{true, false, List}
use Rattle.bit_length.specs.Runs.{numbers_below}
use Rattle.dsdl_types.specs.Schemas.{Sch, Flds, Simple, Fixed, Var, Struct, Union, End, Pad, Field}
use Rattle.dsdl_types.specs.Schemas.{is_aligned, is_delimited, extent_of, length_field_bits}
use Rattle.dsdl_types.specs.Schemas.{tag_bits, width, variants}
use Rattle.dsdl_types.specs.Greatest.{up, from_lead}

-- whether some number up to n passes a test
abbrev pub some_to : ℕ → (ℕ → Bool) → Bool
some_to zero test = test zero
some_to (suc n) test = test (suc n) || some_to n test

-- whether n is one of the lengths as a part of another type: those of the type by itself, or for a
-- delimited one 32 and each multiple of 8 up to the extent
abbrev pub is_part : Bool → ℕ → (ℕ → Bool) → ℕ → Bool
is_part false extent own n = own n
is_part true extent own n = some_to extent (λ c. nat_le (8 * c) extent && (n == 32 + 8 * c))

-- whether n is a sum of k lengths
abbrev pub in_row : (ℕ → Bool) → ℕ → ℕ → Bool
in_row test zero n = n == 0
in_row test (suc k) n = some_to n (λ a. test a && in_row test k (n - a))

-- whether n is a length of the type by itself
abbrev mutual
  pub is_length : Sch → ℕ → Bool
  is_length (Simple t) n = n == width t
  is_length (Fixed s k) n = in_row (is_part (is_delimited s) (extent_of s) (λ m. is_length s m)) k n
  is_length (Var s cap) n = nat_le (length_field_bits cap) n && some_to cap (λ k. in_row (is_part (is_delimited s) (extent_of s) (λ m. is_length s m)) k (n - length_field_bits cap))
  is_length (Struct fs o) n = some_to n (λ m. ends_at fs 0 m && (n == up m))
  is_length (Union fs o) n = some_to n (λ m. is_variant fs m && (n == up (tag_bits (variants fs) + m)))

  -- whether fields that begin at the place p can end at n
  pub ends_at : Flds → ℕ → ℕ → Bool
  ends_at End p n = n == p
  ends_at (Pad k fs) p n = ends_at fs (p + k) n
  ends_at (Field name s fs) p n = some_to n (λ m. is_part (is_delimited s) (extent_of s) (λ l. is_length s l) m && ends_at fs (from_lead (is_aligned s) p + m) n)

  -- whether n is a length of a variant
  pub is_variant : Flds → ℕ → Bool
  is_variant End n = false
  is_variant (Pad k fs) n = is_variant fs n
  is_variant (Field name s fs) n = is_part (is_delimited s) (extent_of s) (λ m. is_length s m) n || is_variant fs n

-- whether n is a length of the type as a part of another
abbrev pub is_size : Sch → ℕ → Bool
is_size s n = is_part (is_delimited s) (extent_of s) (λ m. is_length s m) n

-- the lengths of a type as a part of another, ascending, as far as 2^32 bits
unfoldable pub sizes : Sch → List ℕ
sizes s = numbers_below (2 ^ 32 + 1) (is_size s)
