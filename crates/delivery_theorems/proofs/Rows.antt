-- Worked logs: the lines on which deliveries end, by computing
use Rattle.std.proofs.Common.{◌≡◌, ℕ, Bool, true, false, List, [], ◌∷◌, map, refl}
use Rattle.tail_frame.specs.Chains.{KeyRecord}
use Rattle.rx_table.specs.Received.{Delivery, received}
use Rattle.transfer_crc.specs.Crc.{crc_of}

abbrev rec : ℕ → ℕ → ℕ → Bool → Bool → Bool → ℕ → List ℕ → KeyRecord
rec line moment bus start end toggle tid body = record { line = line; moment = moment; bus = bus; priority = 4; start = start; end = end; toggle = toggle; tid = tid; body = body }

abbrev one : ℕ → ℕ → ℕ → ℕ → KeyRecord
one line moment bus tid = rec line moment bus true true true tid (line ∷ [])

abbrev lasts : List KeyRecord → List ℕ
lasts h = map (λ (d : Delivery). d.last.line) (received crc_of 2000000 h).delivered

hands_over_after_silence : lasts (one 4 2000002 0 3 ∷ one 3 2000001 1 2 ∷ one 2 2000000 1 1 ∷ one 1 0 0 0 ∷ []) ≡ 3 ∷ 1 ∷ []
hands_over_after_silence = refl

equal_id_after_silence : lasts (one 3 4000001 0 0 ∷ one 2 2000000 0 0 ∷ one 1 0 0 0 ∷ []) ≡ 3 ∷ 1 ∷ []
equal_id_after_silence = refl

another_bus_repeats : lasts (one 4 700000 1 1 ∷ one 3 600000 1 0 ∷ one 2 500000 0 1 ∷ one 1 0 0 0 ∷ []) ≡ 2 ∷ 1 ∷ []
another_bus_repeats = refl

copies_are_delivered_once : lasts (one 3 1100 1 0 ∷ one 2 100 0 0 ∷ one 1 0 0 0 ∷ []) ≡ 1 ∷ []
copies_are_delivered_once = refl

two_frames : map (λ (d : Delivery). d.content) (received crc_of 2000000 (rec 2 1000100 0 false true false 0 (7 ∷ 0x17 ∷ 0x8D ∷ []) ∷ rec 1 1000000 0 true false true 0 (0 ∷ 1 ∷ 2 ∷ 3 ∷ 4 ∷ 5 ∷ 6 ∷ []) ∷ [])).delivered ≡ (0 ∷ 1 ∷ 2 ∷ 3 ∷ 4 ∷ 5 ∷ 6 ∷ 7 ∷ []) ∷ []
two_frames = refl

check_value : crc_of (0x31 ∷ 0x32 ∷ 0x33 ∷ 0x34 ∷ 0x35 ∷ 0x36 ∷ 0x37 ∷ 0x38 ∷ 0x39 ∷ []) ≡ 0x29B1
check_value = refl
