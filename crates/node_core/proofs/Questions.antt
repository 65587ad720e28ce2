-- What a request that can be read asks is a value of its type.
use Rattle.std.proofs.Common.{◌≡◌, ℕ, ◌/◌, Bool, true, false, eqb, cond, List, take, Option, Some, None, option_map, refl, ap, subst}
use Rattle.std.specs.Option.{option_and_then}
use Rattle.std.proofs.lemmas.Option.{option_and_then_some}
use Rattle.can_id.specs.declared.ident.Ident.{Ident}
use Rattle.can_id.specs.declared.ident.Ident.TheVariants.{Message, Anonymous, Service}
use Rattle.cy_bits.specs.Bits.{bits}
use Rattle.dsdl_types.specs.Laws.{Reads}
use Rattle.dsdl_types.specs.Reading.{Read, Got, Bad, own}
use Rattle.dsdl_types.specs.Rules.{IsSchema}
use Rattle.dsdl_types.specs.Schemas.{Sch, extent_of}
use Rattle.dsdl_types.specs.Sound.{IsSound}
use Rattle.dsdl_types.specs.Stored.{IsStored}
use Rattle.dsdl_types.specs.Values.{Val}
use Rattle.node_plan.specs.declared.plan.Plan.{Plan}
use Rattle.rx_table.specs.Heard.{frame_for}
use Rattle.wire_values.specs.Payloads.{payload_value, value_in}
use Rattle.std_types.specs.FileLaws.{file_list_request_forth, info_request_forth, read_request_forth}
use Rattle.std_types.specs.RegisterLaws.{access_request_forth, list_request_forth}
use Rattle.std_types.specs.Schemas.{access_request, file_list_request, info_request, list_request, read_request}
use Rattle.std_types.specs.Types.{schema_of}
use Rattle.std_types.specs.declared.std_name.StdName.{StdName}
use Rattle.std_types.specs.declared.std_name.StdName.TheVariants as N
use Rattle.node_core.specs.Questions.{FitsQuestion, access_of, file_bytes_of, file_info_of, file_name_of, file_question_in, listing_of, question_in}
use Rattle.node_core.specs.Sending.{request_of, request_that, request_with}
use Rattle.node_core.specs.Steps.{Step, Heard, Tick, got, payload_in, records, request_at}
use Rattle.node_core.specs.declared.question.Question.{Question}
use Rattle.node_core.specs.declared.question.Question.TheVariants.{Info, Unsupported}
use Rattle.node_core.specs.declared.request.Request.{Request}

-- the standard types keep the rules of the language, and so what is read of one is a value of it
pub record ReadingLaws : Type 0 where
  pub rules : (name : StdName) → IsSchema (schema_of name)
  pub suffice : (s : Sch) → IsSchema s → IsSound s
  pub stored : (s : Sch) → IsSound s → (b : List ℕ) (v : Val) → Reads s b v → IsStored s v

-- the value of a request of a service, which asks something by its value
asked_fits : (question_of : Val → Question) (o : Option Val) (q : Question) → ((v : Val) → o ≡ Some v → FitsQuestion (question_of v))
    → option_map question_of o ≡ Some q → FitsQuestion q
asked_fits question_of None q fits e = cc
asked_fits question_of (Some v) q fits e =
    let it : question_of v ≡ q = cc in
    subst FitsQuestion it (fits v refl)

value_read : (read : Read Val) (v : Val) → value_in read ≡ Some v → (p : ℕ) × (rest : List Bool) × (read ≡ Got v p rest)
value_read (Got w p rest) v e =
    let it : w ≡ v = cc in
    (p, rest, ap (λ (x : Val). Got x p rest) it)
value_read (Bad path why) v e = cc

module _ (laws : ReadingLaws) where
  payload_stored : (s : Sch) (payload : List ℕ) (v : Val) → IsSchema s → payload_value s payload ≡ Some v → IsStored s v
  unfolding payload_value
  payload_stored s payload v rules e =
      let cut = take (extent_of s / 8) payload in
      laws.stored s (laws.suffice s rules) cut v (value_read (own s 0 (bits cut)) v e)

  access_rules : IsSchema access_request
  unfolding schema_of
  access_rules = laws.rules N.AccessRequest

  listing_rules : IsSchema list_request
  unfolding schema_of
  listing_rules = laws.rules N.ListRequest

  file_info_rules : IsSchema info_request
  unfolding schema_of
  file_info_rules = laws.rules N.InfoRequest

  file_name_rules : IsSchema file_list_request
  unfolding schema_of
  file_name_rules = laws.rules N.FileListRequest

  file_bytes_rules : IsSchema read_request
  unfolding schema_of
  file_bytes_rules = laws.rules N.ReadRequest

  -- what the requests of the services ask
  module _ (payload : List ℕ) (q : Question) where
    access_fits : option_map access_of (payload_value access_request payload) ≡ Some q → FitsQuestion q
    access_fits =
        asked_fits access_of (payload_value access_request payload) q
        (λ v e. (access_request_forth v (payload_stored access_request payload v access_rules e)).0)

    listing_fits : option_map listing_of (payload_value list_request payload) ≡ Some q → FitsQuestion q
    listing_fits =
        asked_fits listing_of (payload_value list_request payload) q
        (λ v e. (list_request_forth v (payload_stored list_request payload v listing_rules e)).0)

    file_info_fits : option_map file_info_of (payload_value info_request payload) ≡ Some q → FitsQuestion q
    file_info_fits =
        asked_fits file_info_of (payload_value info_request payload) q
        (λ v e. (info_request_forth v (payload_stored info_request payload v file_info_rules e)).0)

    file_name_fits : option_map file_name_of (payload_value file_list_request payload) ≡ Some q → FitsQuestion q
    file_name_fits =
        asked_fits file_name_of (payload_value file_list_request payload) q
        (λ v e. (file_list_request_forth v (payload_stored file_list_request payload v file_name_rules e)).0)

    file_bytes_fits : option_map file_bytes_of (payload_value read_request payload) ≡ Some q → FitsQuestion q
    file_bytes_fits =
        asked_fits file_bytes_of (payload_value read_request payload) q
        (λ v e. (read_request_forth v (payload_stored read_request payload v file_bytes_rules e)).0)

    unsupported_fits : Some Unsupported ≡ Some q → FitsQuestion q
    unsupported_fits e =
        let it : Unsupported ≡ q = cc in
        subst FitsQuestion it tt

    -- one of two
    either : (test : Bool) (a b : Option Question) → (a ≡ Some q → FitsQuestion q) → (b ≡ Some q → FitsQuestion q) → cond test a b ≡ Some q → FitsQuestion q
    either true a b first second = first
    either false a b first second = second

    file_question_fits : (service : ℕ) → file_question_in service payload ≡ Some q → FitsQuestion q
    file_question_fits service =
        either (eqb service 405) _ _ file_info_fits
        (either (eqb service 406) _ _ file_name_fits
        (either (eqb service 407) _ _ unsupported_fits
        (either (eqb service 408) _ _ file_bytes_fits
        (either (eqb service 409) _ _ unsupported_fits (λ e. cc)))))

    question_fits : (service : ℕ) → question_in service payload ≡ Some q → FitsQuestion q
    question_fits service =
        either (eqb service 430) _ _ (λ e. let it : Info ≡ q = cc in subst FitsQuestion it tt)
        (either (eqb service 384) _ _ access_fits
        (either (eqb service 385) _ _ listing_fits (file_question_fits service)))

  asks_of_service : (service client priority tid : ℕ) (o : Option Question) (r : Request) → ((q : Question) → o ≡ Some q → FitsQuestion q)
      → option_map (request_that service client priority tid) o ≡ Some r → FitsQuestion r.question
  asks_of_service service client priority tid None r fits e = cc
  asks_of_service service client priority tid (Some q) r fits e =
      let it : request_that service client priority tid q ≡ r = cc in
      subst (λ (x : Request). FitsQuestion x.question) it (fits q refl)

  pub request_fits : (tid : ℕ) (ident : Ident) (payload : List ℕ) (r : Request) → request_with tid ident payload ≡ Some r → FitsQuestion r.question
  request_fits tid (Message priority subject source) payload r e = cc
  request_fits tid (Anonymous priority subject pseudo) payload r e = cc
  request_fits tid (Service priority false service destination source) payload r e = cc
  request_fits tid (Service priority true service destination source) payload r e =
      asks_of_service service source priority tid (question_in service payload) r (λ q. question_fits payload q service) e

  pub request_at_fits : (plan : Plan) (step : Step) (past : List Step) (r : Request) → request_at plan step past ≡ Some r → FitsQuestion r.question
  request_at_fits plan (Heard rec file) past r e =
      option_and_then_some (λ (payload : List ℕ). option_and_then (request_of payload) (frame_for plan.node rec)) (payload_in (got plan rec (records past))) r e
      (λ payload _ n. option_and_then_some (request_of payload) (frame_for plan.node rec) r n (λ f _ m. request_fits f.tail.tid f.ident payload r m))
  request_at_fits plan (Tick number moment) past r e = cc
