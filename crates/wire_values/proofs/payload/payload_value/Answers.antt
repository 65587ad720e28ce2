use Rattle.std.proofs.Common.{◌≡◌, ◌∙◌, ℕ, ◌*◌, ◌/◌, List, Some, None, Err, length, take, min, sym, ap, arith}
use Rattle.std.proofs.lemmas.List.{take_min}
use Rattle.cy_bits.specs.Bits.{bits}
use Rattle.dsdl_types.specs.Laws.{Reads, Unreadable}
use Rattle.dsdl_types.specs.Reading.{own, Step, Why}
use Rattle.dsdl_types.specs.Schemas.{Sch, extent_of}
use Rattle.dsdl_types.specs.Values.{Val}
use Rattle.dsdl_types.specs.Views.{sch, val, why_of}
use Rattle.dsdl_types.proofs.SchemaRules.{schema_sound}
use Rattle.dsdl_types.proofs.StoredReadings.{readings_stored}
use Rattle.wire_values.specs.Payloads.{value_in, payload_value}
use Rattle.wire_values.proofs.payload.payload_value.Goals as goal

-- the payload that is read is the one cut to the extent
cut : (s : Sch) (bytes size : ℕ) (payload : List ℕ) → 8 * bytes ≡ extent_of s → size ≡ min bytes (length payload)
    → take size payload ≡ take (extent_of s / 8) payload
cut s bytes size payload extent is =
    let same : bytes ≡ extent_of s / 8 = omega (arith, extent) in
    ap (λ n. take n payload) is ∙ (take_min bytes payload ∙ ap (λ n. take n payload) same)

reads : (s : Sch) (read payload : List ℕ) (v : Val) → read ≡ take (extent_of s / 8) payload → Reads s read v
    → Some v ≡ payload_value s payload
unfolding payload_value
reads s read payload v is r = sym (ap value_in r.2) ∙ ap (λ b. value_in (own s 0 (bits b))) is

refused : (s : Sch) (read payload : List ℕ) (path : List Step) (why : Why) → read ≡ take (extent_of s / 8) payload
    → Unreadable s read path why → None ≡ payload_value s payload
unfolding payload_value
refused s read payload path why is r = sym (ap value_in r) ∙ ap (λ b. value_in (own s 0 (bits b))) is

pub returns-in-Ok-clause-value : goal.returns-in-Ok-clause-value
returns-in-Ok-clause-value c =
    let s = sch c.args.schema.now in
    let payload = c.args.payload.now in
    reads s (take c.min-size.result payload) payload (val c.in-Ok.value) (cut s c.extent_bytes.result c.min-size.result payload c.extent_bytes.ensures c.min-size.ensures) (c.in-Ok.ensures {u = tt}).ok

pub returns-in-Ok-clause-stored : goal.returns-in-Ok-clause-stored
returns-in-Ok-clause-stored c =
    let s = sch c.args.schema.now in
    readings_stored s (schema_sound s c.requires.rules) (take c.min-size.result c.args.payload.now) (val c.in-Ok.value) (c.in-Ok.ensures {u = tt}).ok

pub returns-in-Err-Bad-clause-value : goal.returns-in-Err-Bad-clause-value
returns-in-Err-Bad-clause-value c =
    let s = sch c.args.schema.now in
    let payload = c.args.payload.now in
    let path = c.in-Err-Bad.field-0-0 in
    let why = c.in-Err-Bad.field-0-1 in
    let r = (c.in-Err-Bad.ensures {u = tt}).refused path why (ap Err c.in-Err-Bad.field-0-is) in
    refused s (take c.min-size.result payload) payload r.0 (why_of why) (cut s c.extent_bytes.result c.min-size.result payload c.extent_bytes.ensures c.min-size.ensures) r.1
