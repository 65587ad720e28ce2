-- The bytes of a heartbeat and of the reply of GetInfo
use Rattle.std.proofs.Common.{◌≡◌, ℕ, zero, suc, ◌^◌, ◌<◌, ◌≤◌, ◌-◌, min, List, [], ◌∷◌, ◌++◌, length, refl, sym, ap, ◌∙◌, arith, append_assoc, lit<, lit≤}
use Rattle.std.specs.Prelude.{pos}
use Rattle.std.proofs.Math.Nat.{min-eq_left}
use Rattle.std.proofs.Math.Pow.{le_ones}
use Rattle.std.proofs.lemmas.List.Elements.{All-append, All-cons, All-nil}
use Rattle.std.proofs.lemmas.Nat.{mod_below}
use Rattle.std.specs.Int.{byte_at, bytes_low_first}
use Rattle.std.specs.List.{All}
use Rattle.cy_bits.specs.Bits.{bits_of}
use Rattle.dsdl_types.specs.Cast.{cast}
use Rattle.dsdl_types.specs.Laws.{encoding}
use Rattle.dsdl_types.specs.Schemas.{Var}
use Rattle.dsdl_types.specs.Values.{Num, Parts}
use Rattle.dsdl_types.specs.Views.{in_row}
use Rattle.std_types.specs.Held.{naturals_value}
use Rattle.std_types.specs.Node.{FitsNodeInfo, FitsVersion, health_value, heartbeat_value, mode_value, node_info_value, version_value}
use Rattle.std_types.specs.Schemas.{health, heartbeat, mode, node_info, uint, version}
use Rattle.std_types.specs.declared.node.NodeInfo.{NodeInfo}
use Rattle.std_types.specs.declared.node.Version.{Version}
use Rattle.node_status.specs.Status.{heartbeat_bytes, heartbeat_in, info_bytes, info_of, version_bytes}
use Rattle.node_status.proofs.Bytes.{IsBytes, byte_bytes, encoding_bytes, field_bytes, fixed_bytes, no_fields, struct_bytes, uint_bytes, var_bytes}

abbrev IsByte : ℕ → Type 0
IsByte x = x < 2 ^ 8

byte_small : (i n : ℕ) → IsByte (byte_at i n)
byte_small zero n = mod_below n 256 (omega arith)
byte_small (suc i) n = mod_below _ 256 (omega arith)

low_first_small : (k i n : ℕ) → All IsByte (bytes_low_first i k n)
low_first_small zero i n = All-nil IsByte
low_first_small (suc k) i n = All-cons IsByte (byte_at i n) (bytes_low_first (suc i) k n) (byte_small i n) (low_first_small k (suc i) n)

three_small : (x : ℕ) → x ≤ 3 → IsByte x
three_small x h = omega arith

-- ---- a heartbeat

health_bytes : (n : ℕ) → n ≤ 3 → IsBytes health (health_value (record { value = n })) (n ∷ [])
unfolding bits_of
health_bytes zero h = record { same = refl }
health_bytes (suc zero) h = record { same = refl }
health_bytes (suc (suc zero)) h = record { same = refl }
health_bytes (suc (suc (suc zero))) h = record { same = refl }
health_bytes (suc (suc (suc (suc n)))) h = absurd (omega arith)

mode_bytes : (n : ℕ) → n ≤ 3 → IsBytes mode (mode_value (record { value = n })) (n ∷ [])
unfolding bits_of
mode_bytes zero h = record { same = refl }
mode_bytes (suc zero) h = record { same = refl }
mode_bytes (suc (suc zero)) h = record { same = refl }
mode_bytes (suc (suc (suc zero))) h = record { same = refl }
mode_bytes (suc (suc (suc (suc n)))) h = absurd (omega arith)

heartbeat_written : (h m c t : ℕ) → h ≤ 3 → m ≤ 3 → IsByte c → t < 2 ^ 32 →
    IsBytes heartbeat (heartbeat_value (heartbeat_in h m c t)) (heartbeat_bytes h m c t)
heartbeat_written h m c t in_health in_mode in_code in_time =
    struct_bytes
    (field_bytes refl (uint_bytes 4 t in_time)
    (field_bytes refl (health_bytes h in_health)
    (field_bytes refl (mode_bytes m in_mode)
    (field_bytes refl (byte_bytes c in_code) no_fields))))

pub heartbeat_encoding : (h m c t : ℕ) → h ≤ 3 → m ≤ 3 → IsByte c → t < 2 ^ 32 →
    encoding heartbeat (heartbeat_value (heartbeat_in h m c t)) ≡ heartbeat_bytes h m c t
heartbeat_encoding h m c t in_health in_mode in_code in_time =
    let code : All IsByte (c ∷ []) = All-cons IsByte c [] in_code (All-nil IsByte) in
    let modes : All IsByte (m ∷ c ∷ []) = All-cons IsByte m (c ∷ []) (three_small m in_mode) code in
    let healths : All IsByte (h ∷ m ∷ c ∷ []) = All-cons IsByte h (m ∷ c ∷ []) (three_small h in_health) modes in
    encoding_bytes heartbeat (heartbeat_value (heartbeat_in h m c t)) (heartbeat_bytes h m c t)
    (heartbeat_written h m c t in_health in_mode in_code in_time)
    (All-append IsByte (bytes_low_first 0 4 t) (h ∷ m ∷ c ∷ []) (low_first_small 4 0 t) healths)

pub heartbeat_exact : (h m c t : ℕ) → h ≤ 3 → m ≤ 3 → IsByte c → t < 2 ^ 32 →
    cast heartbeat (heartbeat_value (heartbeat_in h m c t)) ≡ heartbeat_value (heartbeat_in h m c t)
heartbeat_exact h m c t in_health in_mode in_code in_time =
    let uptimes : min t (2 ^ 32 - 1) ≡ t = min-eq_left (le_ones 32 in_time) in
    let healths : min h 3 ≡ h = min-eq_left in_health in
    let modes : min m 7 ≡ m = min-eq_left (omega arith) in
    let code : min c 255 ≡ c = min-eq_left (le_ones 8 in_code) in
    λ i. Parts (in_row (
    Num (pos (uptimes i)) ∷ Parts (in_row (Num (pos (healths i)) ∷ []))
    ∷ Parts (in_row (Num (pos (modes i)) ∷ [])) ∷ Num (pos (code i)) ∷ []))

-- ---- the reply of GetInfo

version_written : (x : Version) → FitsVersion x → IsBytes version (version_value x) (version_bytes x)
version_written x fits =
    struct_bytes (field_bytes refl (byte_bytes x.major fits.0) (field_bytes refl (byte_bytes x.minor fits.1) no_fields))

no_crc : IsBytes (Var (uint 64) 1) (naturals_value []) (0 ∷ [])
unfolding bits_of
no_crc = record { same = refl }

version_small : (x : Version) → FitsVersion x → All IsByte (version_bytes x)
version_small x fits = All-cons IsByte x.major (x.minor ∷ []) fits.0 (All-cons IsByte x.minor [] fits.1 (All-nil IsByte))

-- the bytes from each field on
abbrev from_name : NodeInfo → List ℕ
from_name x = (length x.name ∷ x.name) ++ (0 ∷ 0 ∷ [])

abbrev from_revision : NodeInfo → List ℕ → List ℕ
from_revision x rest = bytes_low_first 0 8 x.software_vcs_revision_id ++ rest

abbrev from_versions : NodeInfo → List ℕ → List ℕ
from_versions x rest = (1 ∷ 0 ∷ []) ++ (version_bytes x.hardware_version ++ (version_bytes x.software_version ++ rest))

info_written : (x : NodeInfo) → FitsNodeInfo x →
    IsBytes node_info (node_info_value (info_of x)) (from_versions x (from_revision x (x.unique_id ++ from_name x)))
info_written x fits =
    struct_bytes
    (field_bytes refl (version_written (record { major = 1; minor = 0 }) (lit< tt, lit< tt))
    (field_bytes refl (version_written x.hardware_version fits.1)
    (field_bytes refl (version_written x.software_version fits.2)
    (field_bytes refl (uint_bytes 8 x.software_vcs_revision_id fits.3)
    (field_bytes refl (fixed_bytes 16 x.unique_id fits.4.1)
    (field_bytes refl (var_bytes 50 x.name refl fits.5.1)
    (field_bytes refl no_crc
    (field_bytes refl (var_bytes 222 [] refl (All-nil IsByte)) no_fields))))))))

info_small : (x : NodeInfo) → FitsNodeInfo x → All IsByte (from_versions x (from_revision x (x.unique_id ++ from_name x)))
info_small x fits =
    let zero_byte : IsByte 0 = lit< tt in
    let zeros : All IsByte (0 ∷ 0 ∷ []) = All-cons IsByte 0 (0 ∷ []) zero_byte (All-cons IsByte 0 [] zero_byte (All-nil IsByte)) in
    let few : IsByte (length x.name) = omega (arith, fits.5.0) in
    let name = All-append IsByte (length x.name ∷ x.name) (0 ∷ 0 ∷ []) (All-cons IsByte (length x.name) x.name few fits.5.1) zeros in
    let id = All-append IsByte x.unique_id (from_name x) fits.4.1 name in
    let revision = bytes_low_first 0 8 x.software_vcs_revision_id in
    let rest_of = from_revision x (x.unique_id ++ from_name x) in
    let rest = All-append IsByte revision (x.unique_id ++ from_name x) (low_first_small 8 0 x.software_vcs_revision_id) id in
    let software = All-append IsByte (version_bytes x.software_version) rest_of (version_small x.software_version fits.2) rest in
    let hardware = All-append IsByte (version_bytes x.hardware_version) (version_bytes x.software_version ++ rest_of) (version_small x.hardware_version fits.1) software in
    All-append IsByte (1 ∷ 0 ∷ []) (version_bytes x.hardware_version ++ (version_bytes x.software_version ++ rest_of)) (version_small (record { major = 1; minor = 0 }) (lit< tt, lit< tt)) hardware

pub info_encoding : (x : NodeInfo) → FitsNodeInfo x → encoding node_info (node_info_value (info_of x)) ≡ info_bytes x
info_encoding x fits =
    encoding_bytes node_info (node_info_value (info_of x)) (from_versions x (from_revision x (x.unique_id ++ from_name x))) (info_written x fits) (info_small x fits)
    ∙ ap (λ l. from_versions x (from_revision x l)) (sym (append_assoc x.unique_id (length x.name ∷ x.name) (0 ∷ 0 ∷ [])))

pub info_fits : (x : NodeInfo) → FitsNodeInfo x → FitsNodeInfo (info_of x)
info_fits x fits = record {
  0 = (lit< tt, lit< tt);
  1 = fits.1;
  2 = fits.2;
  3 = fits.3;
  4 = fits.4;
  5 = fits.5;
  6 = (lit≤ tt, All-nil (λ n. n < 2 ^ 64));
  7 = (lit≤ tt, All-nil IsByte);
}
