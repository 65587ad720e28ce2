-- The values of the standard types of registers, and what the structs hold of values.
use Rattle.std.specs.Prelude.{◌^◌, ◌<◌, [], ◌∷◌}
use Rattle.dsdl_types.specs.Values.{Parts, Truth, Val}
use Rattle.dsdl_types.specs.Views.{in_row}
use Rattle.std_types.specs.Held.{HoldsBytes, alone, natural, natural_value, naturals_of}
use Rattle.std_types.specs.Held.{naturals_value, part, truth_of}
use Rattle.std_types.specs.RegisterValues.{FitsRegisterValue, variant_of, variant_value}
use Rattle.std_types.specs.Times.{FitsSynchronizedTimestamp, synchronized_timestamp_of}
use Rattle.std_types.specs.Times.{synchronized_timestamp_value}
use Rattle.std_types.specs.declared.register.Name.{Name}
use Rattle.std_types.specs.declared.register.AccessRequest.{AccessRequest}
use Rattle.std_types.specs.declared.register.AccessReply.{AccessReply}
use Rattle.std_types.specs.declared.register.ListRequest.{ListRequest}
use Rattle.std_types.specs.declared.register.ListReply.{ListReply}

-- register.Name.1.0
abbrev pub register_name_value : Name → Val
register_name_value x = Parts (in_row (naturals_value x.name ∷ []))

abbrev pub register_name_of : Val → Name
register_name_of v = record { name = naturals_of 8 (part 0 v) }

abbrev pub FitsName : Name → Type 0
FitsName x = HoldsBytes 255 x.name

-- the request of register.Access.1.0
abbrev pub access_request_value : AccessRequest → Val
access_request_value x = Parts (in_row (alone (naturals_value x.name) ∷ variant_value x.value ∷ []))

abbrev pub access_request_of : Val → AccessRequest
access_request_of v = record {
  name = naturals_of 8 (part 0 (part 0 v));
  value = variant_of (part 1 v);
}

abbrev pub FitsAccessRequest : AccessRequest → Type 0
FitsAccessRequest x = HoldsBytes 255 x.name × FitsRegisterValue x.value

-- the reply of register.Access.1.0
abbrev pub access_reply_value : AccessReply → Val
access_reply_value x = Parts (in_row (synchronized_timestamp_value x.timestamp ∷ Truth x.mutable ∷ Truth x.persistent ∷ variant_value x.value ∷ []))

abbrev pub access_reply_of : Val → AccessReply
access_reply_of v = record {
  timestamp = synchronized_timestamp_of (part 0 v);
  mutable = truth_of (part 1 v);
  persistent = truth_of (part 2 v);
  value = variant_of (part 3 v);
}

abbrev pub FitsAccessReply : AccessReply → Type 0
FitsAccessReply x = FitsSynchronizedTimestamp x.timestamp × FitsRegisterValue x.value

-- the request of register.List.1.0
abbrev pub list_request_value : ListRequest → Val
list_request_value x = Parts (in_row (natural_value x.index ∷ []))

abbrev pub list_request_of : Val → ListRequest
list_request_of v = record { index = natural 16 (part 0 v) }

abbrev pub FitsListRequest : ListRequest → Type 0
FitsListRequest x = x.index < 2 ^ 16

-- the reply of register.List.1.0
abbrev pub list_reply_value : ListReply → Val
list_reply_value x = Parts (in_row (alone (naturals_value x.name) ∷ []))

abbrev pub list_reply_of : Val → ListReply
list_reply_of v = record { name = naturals_of 8 (part 0 (part 0 v)) }

abbrev pub FitsListReply : ListReply → Type 0
FitsListReply x = HoldsBytes 255 x.name
