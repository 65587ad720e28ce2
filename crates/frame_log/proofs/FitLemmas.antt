-- What the records of a log can be.
use Rattle.std.proofs.Common.{◌≡◌, ap, ◌<◌, ◌≤◌, ◌^◌, ℕ, suc, ◌+◌, ◌-◌, ◌*◌, ◌==◌, Bool, true, false, List, [], ◌∷◌, ◌++◌, Option, Some, None, refl, subst, length, take, All, arith}
use Rattle.std.specs.Prelude.{if◌then◌else◌, nat_lt, unwrap_or, drop, ◌||◌, ⊤}
use Rattle.std.specs.Str.{bytes_eq}
use Rattle.std.proofs.lemmas.Bool.Decides.{nat_tests}
use Rattle.std.proofs.lemmas.Grind.{common_steps}
use Rattle.std.proofs.Math.Nat.{pow-suc, mul-le-mul_right}
use Rattle.std.proofs.lemmas.List.Elements.{All-cons, All-nil}
use Rattle.tail_frame.specs.declared.logged.Record.{Record}
use Rattle.frame_log.specs.declared.error.LogError.{LogError}
use Rattle.frame_log.specs.declared.error.LogError.TheVariants as error
use Rattle.frame_log.specs.Line.{Said, NoForm, Nothing, UnknownBus, Frame, ◌>>=◌, after, bus_at, bus_of, bytes_of, pairs_of, fd_bytes_of, cut, decimal_from, front, hex_from, hex_or, remote_or, data_of, is_at_most_digit, frame_on, frame_of, behind_ident, ident_of, unflagged, form_of, seconds_of, micros_of, said_of, said_of_text, without_return}
use Rattle.frame_log.specs.Log.{Log, Place, Given, Take, Refuse, first_of, given_by, followed, with_record, log_of_lines, lines_of, last_line, log_from}
use Rattle.frame_log.specs.Order.{IsFit}
use Rattle.frame_log.proofs.LineLemmas.{whole_of, is_length-most, below_decimal}
use Rattle.frame_log.proofs.LogLemmas.{parts}
use Rattle.frame_log.proofs.OrderLemmas.{either_way}

-- where there is a value, this holds of it
abbrev Where : {X : Type 0} → (X → Type 0) → Option X → Type 0
Where P None = ⊤
Where P (Some x) = P x

where-bind : {X Y : Type 0} (P : Y → Type 0) (o : Option X) (f : X → Option Y) → ((x : X) → Where P (f x)) → Where P (o >>= f)
where-bind P None f h = tt
where-bind P (Some x) f h = h x

where-map : {X Y : Type 0} (Q : X → Type 0) (P : Y → Type 0) (o : Option X) (f : X → Option Y) → Where Q o → ((x : X) → Q x → Where P (f x)) → Where P (o >>= f)
where-map Q P None f q h = tt
where-map Q P (Some x) f q h = h x q

where-all : {X : Type 0} (P : X → Type 0) (o : Option X) → ((x : X) → o ≡ Some x → P x) → Where P o
where-all P None h = tt
where-all P (Some x) h = h x refl

-- the bytes of data are at most 64
abbrev IsShort : List ℕ → Type 0
IsShort bytes = length bytes ≤ 64

short-bytes : (fd : Bool) (s : List ℕ) → Where IsShort (bytes_of fd s)
short-bytes fd s = where-all IsShort (bytes_of fd s) (λ x h. let w = whole_of fd (pairs_of s) x h in is_length-most fd (length x) w.fits)

short-hex : (s : List ℕ) (o : Option (List ℕ)) → Where (Where IsShort) (hex_or s o)
short-hex s None = where-map IsShort (Where IsShort) (bytes_of false s) (λ bytes. Some (Some bytes)) (short-bytes false s) (λ x h. h)
short-hex s (Some t) = where-map IsShort (Where IsShort) (fd_bytes_of t) (λ bytes. Some (Some bytes))
    (where-bind IsShort (front 1 t) (λ p. hex_from 0 p.0 >>= (λ flags. bytes_of true p.1)) (λ p. where-bind IsShort (hex_from 0 p.0) (λ flags. bytes_of true p.1) (λ flags. short-bytes true p.1))) (λ x h. h)

short-remote : (s : List ℕ) (o : Option (List ℕ)) → Where (Where IsShort) (remote_or s o)
short-remote s None = short-hex s (after 35 s)
short-remote s (Some t) = either_way (Where (Where IsShort)) (is_at_most_digit t) (Some None) None (λ _. tt) (λ _. tt)

short-data : (s : List ℕ) → Where (Where IsShort) (data_of s)
short-data s = short-remote s (after 82 s)

-- a bus that is found is one of these
below-bus : (buses : List (List ℕ)) (name : List ℕ) → Where (λ n. n < length buses) (bus_at buses name)
below-bus [] name = tt
below-bus (b ∷ bs) name = either_way (Where (λ n. n < length (b ∷ bs))) (bytes_eq b name) (Some 0) (bus_at bs name >>= (λ n. Some (n + 1)))
    (λ _. omega arith)
    (λ _. where-map (λ n. n < length bs) (λ n. n < length (b ∷ bs)) (bus_at bs name) (λ n. Some (n + 1)) (below-bus bs name) (λ n h. omega arith))

where-more : {X : Type 0} (P Q : X → Type 0) (o : Option X) → ((x : X) → P x → Q x) → Where P o → Where Q o
where-more P Q None f h = tt
where-more P Q (Some x) f h = f x h

-- a digit more
next_digit : (n b k : ℕ) → (nat_lt b 48 || nat_lt 57 b) ≡ false → (n * 10 + (b - 48) + 1) * 10 ^ k ≤ (n + 1) * 10 ^ suc k
next_digit n b k h =
    let d : b ≤ 57 = grind (arith, nat_tests) in
    let e : 10 ^ suc k ≡ 10 ^ k * 10 = pow-suc 10 k in
    let m : (n * 10 + (b - 48) + 1) * 10 ^ k ≤ ((n + 1) * 10) * 10 ^ k = mul-le-mul_right (10 ^ k) (omega arith) in
    let w : ((n + 1) * 10) * 10 ^ k ≡ (n + 1) * (10 ^ k * 10) = grind arith in
    omega (arith, m, w, ap (λ x. (n + 1) * x) e)

-- a number behind another is below a power of ten with so many digits
below-decimal : (n : ℕ) (s : List ℕ) → Where (λ m. m < (n + 1) * 10 ^ length s) (decimal_from n s)
below-decimal n [] = omega arith
below-decimal n (b ∷ s) = let next = n * 10 + (b - 48) in
    either_way (Where (λ m. m < (n + 1) * 10 ^ length (b ∷ s))) (nat_lt b 48 || nat_lt 57 b) None (decimal_from next s) (λ _. tt)
    (λ e. where-more (λ m. m < (next + 1) * 10 ^ length s) (λ m. m < (n + 1) * 10 ^ length (b ∷ s)) (decimal_from next s)
    (λ m h. let le = next_digit n b (length s) e in omega (arith, h, le)) (below-decimal next s))

-- a number of at most k digits
below-digits : (k : ℕ) (s : List ℕ) → length s ≤ k → Where (λ m. m < 10 ^ k) (decimal_from 0 s)
below-digits k s h = where-more (λ m. m < (0 + 1) * 10 ^ length s) (λ m. m < 10 ^ k) (decimal_from 0 s)
    (λ m l. below_decimal m (length s) k (omega (arith, l)) h) (below-decimal 0 s)

at_most : (n k : ℕ) → ((n == 0) || nat_lt k n) ≡ false → n ≤ k
at_most n k h = grind (arith, nat_tests)

point-of : (t : Bool) (rest : List ℕ) (o : Option ℕ) → (t ≡ false → Where (λ m. m < 10 ^ 12) o)
    → Where (λ (p : ℕ × List ℕ). p.0 < 10 ^ 12) (o >>= (λ seconds. if t then None else Some (seconds, rest)))
point-of true rest None h = tt
point-of true rest (Some m) h = tt
point-of false rest None h = tt
point-of false rest (Some m) h = h refl

fit-seconds : (s : List ℕ) → Where (λ (p : ℕ × List ℕ). p.0 < 10 ^ 12) (seconds_of s)
fit-seconds s = where-bind (λ (p : ℕ × List ℕ). p.0 < 10 ^ 12) (cut 46 s) _ (λ p.
    point-of ((length p.0 == 0) || nat_lt 12 (length p.0)) p.1 (decimal_from 0 p.0) (λ e. below-digits 12 p.0 (at_most (length p.0) 12 e)))

fit-front : (n : ℕ) (s : List ℕ) → Where (λ (p : List ℕ × List ℕ). length p.0 ≤ n) (front n s)
fit-front n s = either_way (Where (λ (p : List ℕ × List ℕ). length p.0 ≤ n)) (nat_lt (length s) n) None (Some (take n s, drop n s))
    (λ _. tt) (λ _. let l : length (take n s) ≤ n = grind (arith, common_steps) in l)

fit-micros : (s : List ℕ) → Where (λ (p : ℕ × List ℕ). p.0 < 10 ^ 6) (micros_of s)
fit-micros s = let P : ℕ × List ℕ → Type 0 = λ p. p.0 < 10 ^ 6 in
    where-map (λ (p : List ℕ × List ℕ). length p.0 ≤ 6) P (front 6 s) _ (fit-front 6 s) (λ p h.
    where-map (λ m. m < 10 ^ 6) P (decimal_from 0 p.0) _ (below-digits 6 p.0 h) (λ m b.
    where-bind P (after 41 p.1) _ (λ a. where-bind P (after 32 a) _ (λ rest. b))))

-- what a line says, of which each record is fit
abbrev pub FitSaid : List (List ℕ) → Said → Type 0
FitSaid buses NoForm = ⊤
FitSaid buses Nothing = ⊤
FitSaid buses UnknownBus = ⊤
FitSaid buses (Frame moment bus ident bytes) = (bus < length buses) × (ident ≤ 0x1FFF_FFFF) × (length bytes ≤ 64) × (moment < 10 ^ 18)

fit-on : (buses : List (List ℕ)) (moment ident : ℕ) (bytes : List ℕ) (o : Option ℕ) → moment < 10 ^ 18 → ident ≤ 0x1FFF_FFFF → length bytes ≤ 64 → Where (λ n. n < length buses) o → FitSaid buses (frame_on moment ident bytes o)
fit-on buses moment ident bytes None m h k b = tt
fit-on buses moment ident bytes (Some bus) m h k b = (b, h, k, m)

not_above : (n : ℕ) → nat_lt 0x1FFF_FFFF n ≡ false → n ≤ 0x1FFF_FFFF
not_above n h = grind (arith, nat_tests)

fit-frame : (buses : List (List ℕ)) (moment : ℕ) (name : List ℕ) (ident : ℕ) (o : Option (List ℕ)) → moment < 10 ^ 18 → Where IsShort o → FitSaid buses (frame_of buses moment name ident o)
fit-frame buses moment name ident None m h = tt
fit-frame buses moment name ident (Some bytes) m h = either_way (FitSaid buses) (nat_lt 0x1FFF_FFFF ident) Nothing (frame_on moment ident bytes (bus_at buses name))
    (λ _. tt) (λ e. fit-on buses moment ident bytes (bus_at buses name) m (not_above ident e) h (below-bus buses name))

fit-ident : (buses : List (List ℕ)) (moment : ℕ) (name s : List ℕ) (o : Option (ℕ × List ℕ)) → moment < 10 ^ 18 → Where (FitSaid buses) (behind_ident buses moment name s o)
fit-ident buses moment name s None m = where-bind (FitSaid buses) (ident_of 3 s) (λ i. data_of (unflagged i.1) >>= (λ bytes. Some Nothing))
    (λ i. where-bind (FitSaid buses) (data_of (unflagged i.1)) (λ bytes. Some Nothing) (λ bytes. tt))
fit-ident buses moment name s (Some i) m = where-map (Where IsShort) (FitSaid buses) (data_of (unflagged i.1)) (λ bytes. Some (frame_of buses moment name i.0 bytes))
    (short-data (unflagged i.1)) (λ bytes h. fit-frame buses moment name i.0 bytes m h)

fit-form : (buses : List (List ℕ)) (text : List ℕ) → Where (FitSaid buses) (form_of buses text)
fit-form buses text =
    where-bind (FitSaid buses) (after 40 text) _ (λ a.
    where-map (λ (p : ℕ × List ℕ). p.0 < 10 ^ 12) (FitSaid buses) (seconds_of a) _ (fit-seconds a) (λ seconds below.
    where-map (λ (p : ℕ × List ℕ). p.0 < 10 ^ 6) (FitSaid buses) (micros_of seconds.1) _ (fit-micros seconds.1) (λ micros few.
    where-bind (FitSaid buses) (bus_of micros.1) _ (λ bus.
    fit-ident buses (seconds.0 * 1_000_000 + micros.0) bus.0 bus.1 (ident_of 8 bus.1) (omega (arith, below, few))))))

fit-or : (buses : List (List ℕ)) (o : Option Said) → Where (FitSaid buses) o → FitSaid buses (unwrap_or o NoForm)
fit-or buses None h = tt
fit-or buses (Some x) h = h

pub fit-said : (buses : List (List ℕ)) (line : List ℕ) → FitSaid buses (said_of buses line)
fit-said buses line = let text = without_return line in
    either_way (FitSaid buses) (nat_lt 4096 (length line)) NoForm (said_of_text buses text) (λ _. tt)
    (λ _. either_way (FitSaid buses) (length text == 0) Nothing (unwrap_or (form_of buses text) NoForm) (λ _. tt) (λ _. fit-or buses (form_of buses text) (fit-form buses text)))

fit-given : (buses : List (List ℕ)) (at : Place) (n : ℕ) (said : Said) (f : Place → Log) → FitSaid buses said → ((q : Place) → All (IsFit buses) (f q).records)
    → All (IsFit buses) (followed (given_by at n said) f).records
fit-given buses at n NoForm f s h = All-nil (IsFit buses)
fit-given buses at n Nothing f s h = h (record at { lines = n })
fit-given buses at n UnknownBus f s h = All-nil (IsFit buses)
fit-given buses at n (Frame moment bus ident bytes) f s h =
    let q : Place = record { lines = n; first = Some (first_of at.first moment); last = moment } in
    let r : Record = record { line = n; moment = moment; bus = bus; ident = ident; bytes = bytes } in
    either_way (λ (g : Given). All (IsFit buses) (followed g f).records) (nat_lt moment at.last) (Refuse (error.TimeBack n))
    (if nat_lt 100_000_000_000 (moment - first_of at.first moment) then Refuse (error.TooFar n) else Take r q)
    (λ _. All-nil (IsFit buses))
    (λ _. either_way (λ (g : Given). All (IsFit buses) (followed g f).records) (nat_lt 100_000_000_000 (moment - first_of at.first moment)) (Refuse (error.TooFar n)) (Take r q)
    (λ _. All-nil (IsFit buses))
    (λ _. All-cons (IsFit buses) r (f q).records s (h q)))

fit-lines : (buses : List (List ℕ)) (refusal : Option LogError) (ls : List (List ℕ)) (at : Place) → All (IsFit buses) (log_of_lines buses refusal ls at).records
fit-lines buses refusal [] at = All-nil (IsFit buses)
fit-lines buses refusal (l ∷ ls) at = fit-given buses at (at.lines + 1) (said_of buses l) (λ new. log_of_lines buses refusal ls new) (fit-said buses l) (λ q. fit-lines buses refusal ls q)

fit-parts : (buses : List (List ℕ)) (more : Bool) (lines : List (List ℕ) × List ℕ) (at : Place) → All (IsFit buses) (parts buses more lines at).records
fit-parts buses true lines at = fit-lines buses (Some error.LogLong) (lines.0 ++ last_line 4096 lines.1) at
fit-parts buses false lines at = fit-lines buses None (lines.0 ++ last_line 0 lines.1) at

pub fit-from : (buses : List (List ℕ)) (room : ℕ) (bytes : List ℕ) (at : Place) → All (IsFit buses) (log_from buses room bytes at).records
fit-from buses room bytes at = fit-parts buses (nat_lt room (length bytes)) (lines_of (take room bytes)) at

-- the first of records that are fit
pub fit-first : (buses : List (List ℕ)) (log after : Log) (r : Record) → All (IsFit buses) log.records → log ≡ with_record r after → IsFit buses r
fit-first buses log after r h e = let a : All (IsFit buses) (with_record r after).records = subst (λ (l : Log). All (IsFit buses) l.records) e h in a 0 r (omega arith)
