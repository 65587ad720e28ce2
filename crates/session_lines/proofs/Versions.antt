-- What a version of a type wrote, with zeros behind it and cut to the extent, is read as that value.
use Rattle.std.proofs.Common.{◌≡◌, ◌∙◌, ℕ, ◌-◌, ◌/◌, min, true, List, ◌++◌, length, take, replicate, Some, refl, sym, ap, subst, arith}
use Rattle.std.proofs.lemmas.List.{take-take}
use Rattle.cy_bits.specs.Bits.{bits}
use Rattle.dsdl_types.specs.Cast.{cast}
use Rattle.dsdl_types.specs.Fits.{Fits}
use Rattle.dsdl_types.specs.Laws.{Reads, RoundTrip, WithinExtent, Evolution, encoding, with_zeros}
use Rattle.dsdl_types.specs.Newer.{Newer, newer_simple, newer_fixed, newer_var, sealed_struct, sealed_union, newer_struct, newer_union}
use Rattle.dsdl_types.specs.Reading.{own}
use Rattle.dsdl_types.specs.Schemas.{Sch, is_composite, extent_of}
use Rattle.dsdl_types.specs.Sound.{IsSound}
use Rattle.dsdl_types.specs.Values.{Val}
use Rattle.dsdl_types.proofs.Evolving.{cut_zeros}
use Rattle.rx_session.specs.Extents.{bytes_of}
use Rattle.report_lines.specs.Readings.{of_read, reading_of}
use Rattle.session_lines.specs.Values.{AreVersions, same, newer, older, as_received, SaysValue}

same_extent : (new old : Sch) → Newer new old → extent_of new ≡ extent_of old
same_extent _ _ newer_simple = refl
same_extent _ _ (newer_fixed k) = refl
same_extent _ _ (newer_var k) = refl
same_extent _ _ (sealed_struct s e) = refl
same_extent _ _ (sealed_union s e) = refl
same_extent _ _ (newer_struct s k) = refl
same_extent _ _ (newer_union s e k) = refl

-- zeros behind a value, cut to the extent
abbrev cut_to : Sch → List ℕ → ℕ → List ℕ
cut_to port b k = take (bytes_of port) (with_zeros b k)

module _ (round : (s : Sch) → RoundTrip s) (within : (s : Sch) → WithinExtent s) (evolution : Evolution) where
  own_read : (s : Sch) → IsSound s → is_composite s ≡ true → (v : Val) → Fits s v → (k : ℕ) → Reads s (cut_to s (encoding s v) k) (cast s v)
  own_read s i c v f k =
      let b = encoding s v in
      subst (λ x. Reads s x (cast s v)) (sym (cut_zeros b (bytes_of s) k (within s i c v f))) (round s i v f (min (bytes_of s - length b) k))

  versions_read : (sender port : Sch) (versions : AreVersions sender port) → IsSound sender → IsSound port → is_composite port ≡ true → (v : Val) → Fits sender v → (k : ℕ)
      → Reads port (cut_to port (encoding sender v) k) (as_received sender port versions v)
  versions_read sender port (same is) i j c v f k =
      subst (λ (s : Sch). Fits s v → Reads port (cut_to port (encoding s v) k) (cast port v)) (sym is) (λ g. own_read port j c v g k) f
  versions_read sender port (newer is) i j c v f k =
      let e = same_extent sender port is in
      let r = ((evolution sender port i j is).to_old v f).zeros_cut c k in
      subst (λ n. Reads port (take n (with_zeros (encoding sender v) k)) (as_received sender port (newer is) v)) (ap (λ n. n / 8) e) r
  versions_read sender port (older is) i j c v f k = ((evolution port sender j i is).to_new v f).zeros_cut c k

  -- a payload with zeros behind it, cut to the extent
  pub says_value : (port : Sch) (extent : ℕ) → extent ≡ bytes_of port → IsSound port → is_composite port ≡ true → (payload : List ℕ) (k : ℕ)
      → SaysValue port payload (reading_of (Some port) (take extent (payload ++ replicate k 0)))
  says_value port extent e j c payload k sender v versions i f is =
      let n = bytes_of port in
      let b = with_zeros (encoding sender v) k in
      let cut : take n (take extent (payload ++ replicate k 0)) ≡ take n b =
      ap (λ m. take n (take m (payload ++ replicate k 0))) e ∙ (take-take n n (payload ++ replicate k 0) (omega arith) ∙ ap (λ (l : List ℕ). take n (l ++ replicate k 0)) is) in
      ap (λ (l : List ℕ). of_read port (own port 0 (bits l))) cut ∙ ap (of_read port) (versions_read sender port versions i j c v f k).2
