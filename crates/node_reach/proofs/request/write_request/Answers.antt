use Rattle.std.proofs.Common.{◌≡◌, ◌∙◌, ℕ, ◌-◌, ◌^◌, ◌<◌, ◌≤◌, List, ◌++◌, Fits, w8, length, get_or, take, replicate, sym, ap, subst, refl, arith}
use Rattle.std.specs.List.{All}
use Rattle.std.proofs.Math.Seq.{take-append_seam}
use Rattle.std.proofs.lemmas.List.Elements.{All-from_get_or}
use Rattle.dsdl_types.specs.Greatest.{longest}
use Rattle.dsdl_types.specs.Laws.{encoding}
use Rattle.dsdl_types.specs.Schemas.{Sch, extent_of}
use Rattle.dsdl_types.specs.Stored.{IsStored}
use Rattle.dsdl_types.specs.Values.{Val}
use Rattle.dsdl_types.specs.Views.{sch, val}
use Rattle.wire_values.specs.Results.{IsWritten}
use Rattle.std_types.specs.Files.{read_request_value}
use Rattle.std_types.specs.FileLaws.{read_request_back}
use Rattle.std_types.specs.Types.{schema_of}
use Rattle.std_types.specs.declared.file.ReadRequest.{ReadRequest}
use Rattle.std_types.specs.declared.std_name.StdName.TheVariants.{ReadRequest as read_request}
use Rattle.node_reach.specs.Fetched.{request_payload}
use Rattle.node_reach.proofs.request.write_request.Goals as goal

extent_is : extent_of (schema_of read_request) ≡ 2400
unfolding schema_of
extent_is = refl

-- a request
abbrev message : ℕ → List ℕ → ReadRequest
message offset path = record { offset = offset; path = path }

stored : (offset : ℕ) (path : List ℕ) → offset < 2 ^ 64 → length path ≤ 255 → All (λ n. n < 2 ^ 8) path → IsStored (schema_of read_request) (read_request_value (message offset path))
unfolding schema_of
stored offset path h few bytes = (read_request_back (message offset path) (h, (few, bytes))).0

taken : (s : Sch) (v : Val) (offset : ℕ) (path : List ℕ) (n : ℕ) (out : List ℕ) → s ≡ schema_of read_request → v ≡ read_request_value (message offset path) → IsWritten s v n out → take n out ≡ request_payload offset path
unfolding request_payload
taken s v offset path n out s_is v_is w =
    let zeros : List ℕ = replicate (length out - n) 0 in
    ap (take n) w.bytes
    ∙ (ap (λ k. take k (encoding s v ++ zeros)) w.size
    ∙ (take-append_seam (encoding s v) zeros ∙ (λ i. encoding (s_is i) (v_is i))))

pub write_fitting-requires-clause-room : goal.write_fitting-requires-clause-room
write_fitting-requires-clause-room c =
    let s = sch c.in_ok-standard.standard.schema in
    let most : longest s ≤ extent_of s = c.extent_has_room.ensures s c.in_ok-standard.standard.rules c.in_ok-standard.standard.composite in
    let extent : extent_of s ≡ 2400 = ap extent_of (c.in_ok-standard.ensures {u = tt}).schema ∙ extent_is in
    omega arith

pub returns-clause-payload : goal.returns-clause-payload
returns-clause-payload c =
    let v_is : val c.in_ok-value.value ≡ read_request_value (message c.args.offset c.args.path.now) =
    (c.in_ok-value.ensures {u = tt})
    ∙ ap (λ (p : List ℕ). read_request_value (message c.args.offset p)) (c.in_ok-from_slice.ensures {u = tt}) in
    taken (sch c.in_ok-standard.standard.schema) (val c.in_ok-value.value) c.args.offset c.args.path.now c.write_fitting.result c.write_fitting.new.out (c.in_ok-standard.ensures {u = tt}).schema v_is c.write_fitting.ensures

pub write_fitting-requires-clause-fits : goal.write_fitting-requires-clause-fits
write_fitting-requires-clause-fits c =
    let s = sch c.in_ok-standard.standard.schema in
    let v = val c.in_ok-value.value in
    let v_is : v ≡ read_request_value (message c.args.offset c.args.path.now) =
    (c.in_ok-value.ensures {u = tt})
    ∙ ap (λ (p : List ℕ). read_request_value (message c.args.offset p)) (c.in_ok-from_slice.ensures {u = tt}) in
    let s_is : s ≡ schema_of read_request = (c.in_ok-standard.ensures {u = tt}).schema in
    let held : IsStored s v =
    subst (λ (t : Sch). IsStored t v) (sym s_is)
    (subst (λ (w : Val). IsStored (schema_of read_request) w) (sym v_is)
    (stored c.args.offset c.args.path.now (omega arith) c.requires
    (All-from_get_or (λ n. n < 2 ^ 8) c.args.path.now 0 (λ k _. let fits : Fits w8 (get_or c.args.path.now k 0) = c.type_inv.path k in omega arith)))) in
    c.readings_stored.ensures.fits s v held
