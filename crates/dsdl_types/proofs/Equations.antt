-- The schema or value that each form of the code stands for
use Rattle.std.proofs.Common.{◌≡◌, ℕ, ℤ, Bool, List, rules}
use Rattle.dsdl_types.specs.Schemas.{Prim, PBool, PUint, PInt, PFloat, Simple}
use Rattle.dsdl_types.specs.Schemas as D
use Rattle.dsdl_types.specs.Values.{Truth, Num, Raw, Items, Parts, Tagged}
use Rattle.dsdl_types.specs.Views.{Typed, Padding, kind_of, sch, flds, named, is_saturated, val, vals}
use Rattle.dsdl_types.specs.declared.schema.Cast.{Cast}
use Rattle.dsdl_types.specs.declared.schema.Schema.{Schema}
use Rattle.dsdl_types.specs.declared.schema.Schema.TheVariants as S
use Rattle.dsdl_types.specs.declared.schema.Schema.TheFolds.{the_lemmas}
use Rattle.dsdl_types.specs.declared.schema.Body.{roll-Body}
use Rattle.dsdl_types.specs.declared.schema.Field.{Field, roll-Field}
use Rattle.dsdl_types.specs.declared.value.Value.{Value}
use Rattle.dsdl_types.specs.declared.value.Value.TheVariants as V
use Rattle.dsdl_types.specs.declared.value.Value.TheFolds as value_folds
use Rattle.dsdl_types.proofs.Views.{body_is}

pub kind_bool : kind_of S.Bool ≡ Typed (Simple PBool)
kind_bool = search (rules, the_lemmas)

pub kind_uint : (bits : ℕ) (cast : Cast) → kind_of (S.Uint bits cast) ≡ Typed (Simple (PUint bits (is_saturated cast)))
kind_uint bits cast = search (rules, the_lemmas)

pub kind_int : (bits : ℕ) → kind_of (S.Int bits) ≡ Typed (Simple (PInt bits))
kind_int bits = search (rules, the_lemmas)

pub kind_float : (bits : ℕ) (cast : Cast) → kind_of (S.Float bits cast) ≡ Typed (Simple (PFloat bits (is_saturated cast)))
kind_float bits cast = search (rules, the_lemmas)

pub kind_void : (bits : ℕ) → kind_of (S.Void bits) ≡ Padding bits
kind_void bits = search (rules, the_lemmas)

pub kind_fixed : (item : Schema) (len : ℕ) → kind_of (S.Fixed item len) ≡ Typed (D.Fixed (sch item) len)
kind_fixed item len = search (rules, the_lemmas)

pub kind_var : (item : Schema) (cap : ℕ) → kind_of (S.Var item cap) ≡ Typed (D.Var (sch item) cap)
kind_var item cap = search (rules, the_lemmas)

pub kind_struct : (fields : List Field) (extent : ℕ) (sealed : Bool) →
    kind_of (S.Struct (roll-Body (record { fields = fields; extent = extent; sealed = sealed })))
    ≡ Typed (D.Struct (flds fields) (record { extent = extent; sealed = sealed }))
kind_struct fields extent sealed = search (rules, the_lemmas, body_is)

pub kind_union : (fields : List Field) (extent : ℕ) (sealed : Bool) →
    kind_of (S.Union (roll-Body (record { fields = fields; extent = extent; sealed = sealed })))
    ≡ Typed (D.Union (flds fields) (record { extent = extent; sealed = sealed }))
kind_union fields extent sealed = search (rules, the_lemmas, body_is)

pub named_field : (name : List ℕ) (schema : Schema) → named (roll-Field (record { name = name; schema = schema })) ≡ (name, kind_of schema)
named_field name schema = search (rules, the_lemmas)

pub val_bool : (truth : Bool) → val (V.Bool truth) ≡ Truth truth
val_bool truth = search (rules, value_folds.the_lemmas)

pub val_num : (number : ℤ) → val (V.Num number) ≡ Num number
val_num number = search (rules, value_folds.the_lemmas)

pub val_bits : (bits : ℕ) → val (V.Bits bits) ≡ Raw bits
val_bits bits = search (rules, value_folds.the_lemmas)

pub val_items : (items : List Value) → val (V.Items items) ≡ Items (vals items)
val_items items = search (rules, value_folds.the_lemmas)

pub val_struct : (fields : List Value) → val (V.Struct fields) ≡ Parts (vals fields)
val_struct fields = search (rules, value_folds.the_lemmas)

pub val_union : (tag : ℕ) (value : Value) → val (V.Union tag value) ≡ Tagged tag (val value)
val_union tag value = search (rules, value_folds.the_lemmas)
