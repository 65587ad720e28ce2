-- The structs and the values of the standard types of registers determine each other.
use Rattle.std.specs.Prelude.{◌≡◌, [], ◌∷◌, refl, true, codes}
use Rattle.std.proofs.Common.{sym, ◌∙◌}
use Rattle.dsdl_types.specs.Stored.{IsStored}
use Rattle.dsdl_types.specs.Values.{Val, Parts}
use Rattle.dsdl_types.specs.Views.{in_row}
use Rattle.std_types.specs.Fields.{byte_array_back, byte_array_forth, natural_back, natural_forth}
use Rattle.std_types.specs.Fields.{naturals_back, naturals_forth, parts_are, truth_forth}
use Rattle.std_types.specs.Held.{part}
use Rattle.std_types.specs.Registers.{register_name_value, register_name_of, FitsName}
use Rattle.std_types.specs.Registers.{access_request_value, access_request_of, FitsAccessRequest}
use Rattle.std_types.specs.Registers.{access_reply_value, access_reply_of, FitsAccessReply}
use Rattle.std_types.specs.Registers.{list_request_value, list_request_of, FitsListRequest}
use Rattle.std_types.specs.Registers.{list_reply_value, list_reply_of, FitsListReply}
use Rattle.std_types.specs.RegisterValueLaws.{variant_back, variant_forth}
use Rattle.std_types.specs.TimeLaws.{synchronized_timestamp_back, synchronized_timestamp_forth}
use Rattle.std_types.specs.Schemas.{register_name, access_request, access_reply, list_request}
use Rattle.std_types.specs.Schemas.{list_reply}
use Rattle.std_types.specs.declared.register.Name.{Name}
use Rattle.std_types.specs.declared.register.AccessRequest.{AccessRequest}
use Rattle.std_types.specs.declared.register.AccessReply.{AccessReply}
use Rattle.std_types.specs.declared.register.ListRequest.{ListRequest}
use Rattle.std_types.specs.declared.register.ListReply.{ListReply}

pub register_name_back : (x : Name) → FitsName x
    → IsStored register_name (register_name_value x) × (register_name_of (register_name_value x) ≡ x)
register_name_back x f =
    let name_kept = naturals_back 8 refl 255 x.name f in
    ((name_kept.0, tt), λ i. record { name = name_kept.1 i })

pub register_name_forth : (v : Val) → IsStored register_name v
    → FitsName (register_name_of v) × (register_name_value (register_name_of v) ≡ v)
register_name_forth v h =
    let fields = parts_are register_name refl v h in
    let name_held = naturals_forth 8 refl 255 (part 0 v) fields.1.0 in
    (name_held.0, (λ i. Parts (in_row (name_held.1 i ∷ []))) ∙ sym fields.0)

pub access_request_back : (x : AccessRequest) → FitsAccessRequest x
    → IsStored access_request (access_request_value x) × (access_request_of (access_request_value x) ≡ x)
access_request_back x f =
    let name_kept = byte_array_back (codes "name") 255 x.name f.0 in
    let value_kept = variant_back x.value f.1 in
    ((name_kept.0, (value_kept.0, tt)), λ i. record { name = name_kept.1 i; value = value_kept.1 i })

pub access_request_forth : (v : Val) → IsStored access_request v
    → FitsAccessRequest (access_request_of v) × (access_request_value (access_request_of v) ≡ v)
access_request_forth v h =
    let fields = parts_are access_request refl v h in
    let name_held = byte_array_forth (codes "name") 255 (part 0 v) fields.1.0 in
    let value_held = variant_forth (part 1 v) fields.1.1.0 in
    ((name_held.0, value_held.0), (λ i. Parts (in_row (name_held.1 i ∷ value_held.1 i ∷ []))) ∙ sym fields.0)

pub access_reply_back : (x : AccessReply) → FitsAccessReply x
    → IsStored access_reply (access_reply_value x) × (access_reply_of (access_reply_value x) ≡ x)
access_reply_back x f =
    let timestamp_kept = synchronized_timestamp_back x.timestamp f.0 in
    let value_kept = variant_back x.value f.1 in (
      (timestamp_kept.0, (tt, (tt, (value_kept.0, tt)))),
      λ i. record {
        timestamp = timestamp_kept.1 i;
        mutable = x.mutable;
        persistent = x.persistent;
        value = value_kept.1 i;
      },
    )

pub access_reply_forth : (v : Val) → IsStored access_reply v
    → FitsAccessReply (access_reply_of v) × (access_reply_value (access_reply_of v) ≡ v)
access_reply_forth v h =
    let fields = parts_are access_reply refl v h in
    let timestamp_held = synchronized_timestamp_forth (part 0 v) fields.1.0 in
    let mutable_held = truth_forth (part 1 v) fields.1.1.0 in
    let persistent_held = truth_forth (part 2 v) fields.1.1.1.0 in
    let value_held = variant_forth (part 3 v) fields.1.1.1.1.0 in
    ((timestamp_held.0, value_held.0), (λ i. Parts (in_row (timestamp_held.1 i ∷ mutable_held i ∷ persistent_held i ∷ value_held.1 i ∷ []))) ∙ sym fields.0)

pub list_request_back : (x : ListRequest) → FitsListRequest x
    → IsStored list_request (list_request_value x) × (list_request_of (list_request_value x) ≡ x)
list_request_back x f = ((f, tt), λ i. record { index = natural_back 16 x.index f i })

pub list_request_forth : (v : Val) → IsStored list_request v
    → FitsListRequest (list_request_of v) × (list_request_value (list_request_of v) ≡ v)
list_request_forth v h =
    let fields = parts_are list_request refl v h in
    let index_held = natural_forth 16 true (part 0 v) fields.1.0 in
    (index_held.0, (λ i. Parts (in_row (index_held.1 i ∷ []))) ∙ sym fields.0)

pub list_reply_back : (x : ListReply) → FitsListReply x
    → IsStored list_reply (list_reply_value x) × (list_reply_of (list_reply_value x) ≡ x)
list_reply_back x f =
    let name_kept = byte_array_back (codes "name") 255 x.name f in
    ((name_kept.0, tt), λ i. record { name = name_kept.1 i })

pub list_reply_forth : (v : Val) → IsStored list_reply v
    → FitsListReply (list_reply_of v) × (list_reply_value (list_reply_of v) ≡ v)
list_reply_forth v h =
    let fields = parts_are list_reply refl v h in
    let name_held = byte_array_forth (codes "name") 255 (part 0 v) fields.1.0 in
    (name_held.0, (λ i. Parts (in_row (name_held.1 i ∷ []))) ∙ sym fields.0)
