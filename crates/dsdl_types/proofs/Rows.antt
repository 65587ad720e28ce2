-- Worked values, by computation
use Rattle.std.proofs.Common.{◌≡◌, ℕ, Bool, true, false, [], ◌∷◌, refl}
use Rattle.std.specs.Prelude.{pos, Some}
use Rattle.cy_bits.specs.Bits.{bits, number, bits_of, bytes}
use Rattle.dsdl_types.specs.Schemas.{PUint, Simple, Sch, Var, Struct, Union, End, Field, Outline}
use Rattle.dsdl_types.specs.Values.{Val, Num, Items, Parts, Tagged, Empty, More}
use Rattle.dsdl_types.specs.Reading.{Read, Got, Bad, Name, BadDelimiter, BadTag, BadLength, own}
use Rattle.dsdl_types.specs.Encoding.{own_bits}
use Rattle.dsdl_types.specs.Rules.{IsSchema}
use Rattle.dsdl_types.proofs.RuleTests.{is_schema, rules_kept}
use Rattle.dsdl_types.specs.Difference.{difference, Named, Count}

abbrev u8 : Sch
u8 = Simple (PUint 8 true)

abbrev u16 : Sch
u16 = Simple (PUint 16 true)

abbrev outline : ℕ → Bool → Outline
outline e s = record { extent = e; sealed = s }

abbrev inner10 : Sch
inner10 = Struct (Field (97 ∷ []) u8 End) (outline 64 false)

abbrev inner11 : Sch
inner11 = Struct (Field (97 ∷ []) u8 (Field (98 ∷ []) u16 End)) (outline 64 false)

abbrev outer : Sch → Sch
outer s = Struct (Field (99 ∷ []) s (Field (100 ∷ []) u8 End)) (outline 128 false)

abbrev n : ℕ → Val
n k = Num (pos k)

abbrev is : Read Val → Val → Type 0
is (Got v p rest) w = v ≡ w
is (Bad path why) w = ⊥

-- 03 00 00 00 05 34 12 09 as both versions, and the older bytes as the newer one
newer_bytes : is (own (outer inner11) 0 (bits (3 ∷ 0 ∷ 0 ∷ 0 ∷ 5 ∷ 0x34 ∷ 0x12 ∷ 9 ∷ []))) (Parts (More (Parts (More (n 5) (More (n 4660) Empty))) (More (n 9) Empty)))
unfolding number bits_of
newer_bytes = refl

as_older : is (own (outer inner10) 0 (bits (3 ∷ 0 ∷ 0 ∷ 0 ∷ 5 ∷ 0x34 ∷ 0x12 ∷ 9 ∷ []))) (Parts (More (Parts (More (n 5) Empty)) (More (n 9) Empty)))
unfolding number bits_of
as_older = refl

older_bytes : is (own (outer inner11) 0 (bits (1 ∷ 0 ∷ 0 ∷ 0 ∷ 5 ∷ 9 ∷ []))) (Parts (More (Parts (More (n 5) (More (n 0) Empty))) (More (n 9) Empty)))
unfolding number bits_of
older_bytes = refl

too_long : own (outer inner10) 0 (bits (5 ∷ 0 ∷ 0 ∷ 0 ∷ 1 ∷ 2 ∷ 3 ∷ [])) ≡ Bad (Name (99 ∷ []) ∷ []) (BadDelimiter 5)
unfolding number bits_of
too_long = refl

abbrev choice : Sch
choice = Union (Field (97 ∷ []) u8 (Field (98 ∷ []) (Var u16 2) End)) (outline 48 true)

chosen : is (own choice 0 (bits (1 ∷ 2 ∷ 1 ∷ 0 ∷ 2 ∷ 0xFF ∷ []))) (Tagged 1 (Items (More (n 1) (More (n 65282) Empty))))
unfolding number bits_of
chosen = refl

no_variant : own choice 0 (bits (2 ∷ [])) ≡ Bad [] (BadTag 2)
unfolding number bits_of
no_variant = refl

too_many : own choice 0 (bits (1 ∷ 3 ∷ [])) ≡ Bad (Name (98 ∷ []) ∷ []) (BadLength 3)
unfolding number bits_of
too_many = refl

written : bytes (own_bits (outer inner11) (Parts (More (Parts (More (n 5) (More (n 4660) Empty))) (More (n 9) Empty)))) ≡ 3 ∷ 0 ∷ 0 ∷ 0 ∷ 5 ∷ 0x34 ∷ 0x12 ∷ 9 ∷ []
unfolding number bits_of
written = refl

fewer : difference (outer inner10) (outer inner11) ≡ Some (record { path = Named (99 ∷ []) ∷ []; cause = Count })
fewer = refl

-- these are schemas by the rules
pub outer_is_schema : IsSchema (outer inner11)
outer_is_schema = rules_kept (outer inner11) refl

pub choice_is_schema : IsSchema choice
choice_is_schema = rules_kept choice refl

-- one with two fields of one name, or with a name that begins with a digit, is none
two_alike : is_schema (Struct (Field (97 ∷ []) u8 (Field (97 ∷ []) u8 End)) (outline 16 true)) ≡ false
two_alike = refl

no_name : is_schema (Struct (Field (49 ∷ []) u8 End) (outline 8 true)) ≡ false
no_name = refl

-- nor is a delimited one whose extent is too small
too_small : is_schema (Struct (Field (97 ∷ []) u16 End) (outline 8 false)) ≡ false
too_small = refl
