-- A line that stays as it is.
use Rattle.std.proofs.Common.{◌≡◌, ◌∙◌, ◌==◌, ◌+◌, ◌-◌, ◌*◌, ◌≤◌, ◌<◌, ℕ, suc, Bool, true, false, List, [], ◌∷◌, ◌++◌, Option, Some, None, length, take, drop, get_or, refl, sym, ap, ap₂, append_assoc, arith, length-append, length-take}
use Rattle.std.specs.Prelude.{if◌then◌else◌, ◌&&◌, ◌||◌, nat_lt, unwrap_or}
use Rattle.std.specs.Str.{bytes_eq}
use Rattle.std.proofs.lemmas.Bool.Decides.{nat_tests}
use Rattle.std.proofs.lemmas.Bool.{eqb-true}
use Rattle.std.proofs.lemmas.List.{take-append-drop}
use Rattle.std.proofs.Math.Seq.{drop-cons}
use Rattle.frame_log.specs.Line.{◌>>=◌, after, bus_of, cut, decimal_from, seconds_of, without_return}
use Rattle.frame_log.specs.Reads.{front_of}
use Rattle.frame_log.proofs.LineLemmas.{no, yes}
use Rattle.frame_log.proofs.CutLemmas.{cut-first}
use Rattle.frame_log.proofs.CleanLemmas.{cut-at, cut-both, cut-found, decimal-clean}
use Rattle.line_order.specs.Form.{Said, NoForm, Nothing, Line, behind_spaces, form_of, line_text, micros_of, moment_of, said_of, said_of_text, spaced, with_rest}
use Rattle.line_order.specs.Front.{IsFront}
use Rattle.line_order.specs.Plain.{IsMicros}
use Rattle.line_order.proofs.FrontLemmas.{bound, front-open, when}

-- a text that begins with another byte
spaces-none : (x : ℕ) (s : List ℕ) → (x == 32) ≡ false → behind_spaces (x ∷ s) ≡ x ∷ s
spaces-none x s h = sym (no (x == 32) (behind_spaces s) (x ∷ s) h)

not_equal : (x y : ℕ) → (x ≡ y → ⊥) → (x == y) ≡ false
not_equal x y h = grind (arith, nat_tests)

pub rest-stays : (s : List ℕ) → 0 < length s → (get_or s 0 0 ≡ 32 → ⊥) → behind_spaces s ≡ s
rest-stays [] l h = refl
rest-stays (x ∷ s) l h = spaces-none x s (not_equal x 32 h)

-- the name of a bus begins with no space
bus-first : (x : ℕ) (s b r : List ℕ) → bus_of (x ∷ s) ≡ Some (b, r) → (x == 32) ≡ false
bus-first x s b r h = go (x == 32) refl
  where
    go : (v : Bool) → (x == 32) ≡ v → (x == 32) ≡ false
    go false e = e
    go true e =
        let front : cut 32 (x ∷ s) ≡ Some ([], s) = sym (yes (x == 32) (Some ([], s)) (cut 32 s >>= (λ p. Some (x ∷ p.0, p.1))) e) in
        let never : None ≡ Some (b, r) = sym (ap (λ (o : Option (List ℕ × List ℕ)). o >>= (λ p. if (length p.0 == 0) || nat_lt 15 (length p.0) then None else Some p)) front) ∙ h in absurd cc

bus-stays : (s b r : List ℕ) → bus_of s ≡ Some (b, r) → behind_spaces s ≡ s
bus-stays [] b r h = refl
bus-stays (x ∷ s) b r h = spaces-none x s (bus-first x s b r h)

micros-is : (d : List ℕ) (m : ℕ) → length d ≡ 6 → decimal_from 0 d ≡ Some m → micros_of d ≡ Some m
micros-is d m l h = sym (yes (length d == 6) (decimal_from 0 d) None (grind (arith, nat_tests, l))) ∙ h

-- the moment of a stamp
moment-is : (p d : List ℕ) (seconds micros : ℕ) → ((t : List ℕ) → front_of (p ++ t) ≡ Some (seconds, t)) → micros_of d ≡ Some micros → moment_of (p ++ d) ≡ Some (seconds * 1_000_000 + micros)
moment-is p d seconds micros f m =
    let a = bound (after 40 (p ++ d)) seconds_of (seconds, d) (f d) in
    ap (λ (o : Option (List ℕ)). o >>= (λ digits. seconds_of digits >>= (λ s. micros_of s.1 >>= (λ n. Some (s.0 * 1_000_000 + n))))) a.1
    ∙ ap (λ (o : Option (ℕ × List ℕ)). o >>= (λ s. micros_of s.1 >>= (λ n. Some (s.0 * 1_000_000 + n)))) a.2
    ∙ ap (λ (o : Option ℕ). o >>= (λ n. Some (seconds * 1_000_000 + n))) m

rest-some : (moment : ℕ) (stamp bus rest : List ℕ) → 0 < length rest → with_rest moment stamp bus rest ≡ Some (Line moment (line_text stamp bus rest))
rest-some moment stamp bus rest h = sym (no (length rest == 0) None (Some (Line moment (line_text stamp bus rest))) (grind (arith, nat_tests, h)))

-- a line of these parts
pub form-is : (stamp name bus rest : List ℕ) (moment : ℕ) → cut 41 stamp ≡ None → moment_of stamp ≡ Some moment → bus_of name ≡ Some (bus, rest) → 0 < length rest → behind_spaces rest ≡ rest
    → form_of (stamp ++ 41 ∷ 32 ∷ name) ≡ Some (Line moment (line_text stamp bus rest))
form-is stamp name bus rest moment closed m b some stays =
    ap (λ (o : Option (List ℕ × List ℕ)). o >>= (λ s. moment_of s.0 >>= (λ n. spaced s.1 >>= (λ t. bus_of t >>= (λ u. with_rest n s.0 u.0 (behind_spaces u.1)))))) (cut-at 41 stamp (32 ∷ name) closed)
    ∙ ap (λ (o : Option ℕ). o >>= (λ n. Some (behind_spaces name) >>= (λ t. bus_of t >>= (λ u. with_rest n stamp u.0 (behind_spaces u.1))))) m
    ∙ ap (λ (t : List ℕ). bus_of t >>= (λ u. with_rest moment stamp u.0 (behind_spaces u.1))) (bus-stays name bus rest b)
    ∙ ap (λ (o : Option (List ℕ × List ℕ)). o >>= (λ u. with_rest moment stamp u.0 (behind_spaces u.1))) b
    ∙ ap (λ (t : List ℕ). with_rest moment stamp bus t) stays
    ∙ rest-some moment stamp bus rest some

-- a text whose last byte is no carriage return
pub return-none : (s : List ℕ) → (get_or s (length s - 1) 0 ≡ 13 → ⊥) → without_return s ≡ s
return-none s h = let n = length s - 1 in sym (no (bytes_eq (drop n s) (13 ∷ [])) (take n s) s (last-not s h))
  where
    last-not : (s : List ℕ) → (get_or s (length s - 1) 0 ≡ 13 → ⊥) → bytes_eq (drop (length s - 1) s) (13 ∷ []) ≡ false
    last-not [] h = refl
    last-not (x ∷ []) h = ap (λ (v : Bool). v && true) (not_equal x 13 h)
    last-not (x ∷ y ∷ s) h =
        let e : length (x ∷ y ∷ s) - 1 ≡ suc (length (y ∷ s) - 1) = omega arith in
        ap (λ n. bytes_eq (drop n (x ∷ y ∷ s)) (13 ∷ [])) e ∙ last-not (y ∷ s) (λ k. h (ap (λ n. get_or (x ∷ y ∷ s) n 0) e ∙ k))

said-is : (line : List ℕ) (said : Said) → 0 < length line → without_return line ≡ line → form_of line ≡ Some said → said_of line ≡ said
said-is line said some stays form =
    ap said_of_text stays
    ∙ sym (no (length line == 0) Nothing (unwrap_or (form_of line) NoForm) (grind (arith, nat_tests, some)))
    ∙ ap (λ (o : Option Said). unwrap_or o NoForm) form

-- the parts of a line, one behind the other
pub plain-said : (line p d name bus rest : List ℕ) (seconds micros : ℕ) → line ≡ p ++ (d ++ 41 ∷ 32 ∷ name) → ((t : List ℕ) → front_of (p ++ t) ≡ Some (seconds, t)) → length d ≡ 6 → decimal_from 0 d ≡ Some micros
    → bus_of name ≡ Some (bus, rest) → name ≡ bus ++ 32 ∷ rest → 0 < length rest → behind_spaces rest ≡ rest → 0 < length line → without_return line ≡ line
    → said_of line ≡ Line (seconds * 1_000_000 + micros) (line ++ 10 ∷ [])
plain-said line p d name bus rest seconds micros whole front six digits named parts some stays long return =
    let stamp = p ++ d in
    let moment = seconds * 1_000_000 + micros in
    let split : line ≡ stamp ++ 41 ∷ 32 ∷ name = whole ∙ sym (append_assoc p d (41 ∷ 32 ∷ name)) in
    let closed : cut 41 stamp ≡ None = cut-both 41 p d (front-open p seconds front) (decimal-clean 41 0 micros d refl digits) in
    let text : line_text stamp bus rest ≡ line ++ 10 ∷ [] = joined stamp bus rest line (split ∙ ap (λ t. stamp ++ 41 ∷ 32 ∷ t) parts) in
    said-is line (Line moment (line ++ 10 ∷ [])) long return
    (ap form_of split ∙ form-is stamp name bus rest moment closed (moment-is p d seconds micros front (micros-is d micros six digits)) named some stays ∙ ap (λ t. Some (Line moment t)) text)
  where
    joined : (stamp bus rest line : List ℕ) → line ≡ stamp ++ 41 ∷ 32 ∷ (bus ++ 32 ∷ rest) → stamp ++ (41 ∷ 32 ∷ []) ++ bus ++ (32 ∷ []) ++ rest ++ (10 ∷ []) ≡ line ++ 10 ∷ []
    joined stamp bus rest line h =
        append_assoc (stamp ++ (41 ∷ 32 ∷ []) ++ bus ++ (32 ∷ [])) rest (10 ∷ [])
        ∙ (append_assoc (stamp ++ (41 ∷ 32 ∷ []) ++ bus) (32 ∷ []) (rest ++ 10 ∷ [])
        ∙ (append_assoc (stamp ++ (41 ∷ 32 ∷ [])) bus (32 ∷ (rest ++ 10 ∷ []))
        ∙ (append_assoc stamp (41 ∷ 32 ∷ []) (bus ++ 32 ∷ (rest ++ 10 ∷ []))
        ∙ (ap (λ t. stamp ++ 41 ∷ 32 ∷ t) (sym (append_assoc bus (32 ∷ rest) (10 ∷ [])))
        ∙ (sym (append_assoc stamp (41 ∷ 32 ∷ (bus ++ 32 ∷ rest)) (10 ∷ [])) ∙ ap (λ t. t ++ 10 ∷ []) (sym h))))))

bus-parts : (s b r : List ℕ) → bus_of s ≡ Some (b, r) → s ≡ b ++ 32 ∷ r
bus-parts s b r h =
    let p = bound (cut 32 s) _ (b, r) h in
    let w = when ((length p.0.0 == 0) || nat_lt 15 (length p.0.0)) (Some p.0) (b, r) p.2 in
    (cut-found 32 s b r (p.1 ∙ w.1)).1

last-behind : (pre rest : List ℕ) → 0 < length rest → get_or (pre ++ rest) (length (pre ++ rest) - 1) 0 ≡ get_or rest (length rest - 1) 0
last-behind [] rest h = refl
last-behind (x ∷ pre) rest h =
    let some : 0 < length (pre ++ rest) = omega (arith, h, length-append pre rest) in
    let e : length (x ∷ (pre ++ rest)) - 1 ≡ suc (length (pre ++ rest) - 1) = omega (arith, some) in
    ap (λ n. get_or (x ∷ (pre ++ rest)) n 0) e ∙ last-behind pre rest h

-- the bytes behind MICROS
micros-behind : (s : List ℕ) (m : ℕ) → IsMicros s m → 8 ≤ length s → s ≡ take 6 s ++ 41 ∷ 32 ∷ drop 8 s
micros-behind s m h l =
    sym (take-append-drop 6 s)
    ∙ ap (λ t. take 6 s ++ t) (drop-cons s 6 0 (omega (arith, l)) ∙ ap₂ (λ (x : ℕ) (t : List ℕ). x ∷ t) h.close (drop-cons s 7 0 (omega (arith, l)) ∙ ap (λ (x : ℕ). x ∷ drop 8 s) h.space))

-- a line that stays as it is
pub plain-at : (line behind name rest : List ℕ) (len n seconds micros : ℕ) → IsFront line len seconds → behind ≡ drop len line → IsMicros behind micros → 8 ≤ length behind → name ≡ drop 8 behind
    → bus_of name ≡ Some (take n name, drop (n + 1) name) → rest ≡ drop (n + 1) name → 0 < length rest → (get_or rest 0 0 ≡ 32 → ⊥) → (get_or rest (length rest - 1) 0 ≡ 13 → ⊥)
    → said_of line ≡ Line (seconds * 1_000_000 + micros) (line ++ 10 ∷ [])
plain-at line behind name rest len n seconds micros front eb m long en bus er some first last =
    let d = take 6 behind in
    let b = take n name in
    let six : length d ≡ 6 = omega (arith, long, length-take 6 behind) in
    let named : bus_of name ≡ Some (b, rest) = bus ∙ ap (λ (t : List ℕ). Some (b, t)) (sym er) in
    let parts : name ≡ b ++ 32 ∷ rest = bus-parts name b rest named in
    let whole : line ≡ take len line ++ (d ++ 41 ∷ 32 ∷ name) =
    sym (take-append-drop len line) ∙ ap (λ t. take len line ++ t) (sym eb ∙ (micros-behind behind micros m long ∙ ap (λ t. d ++ 41 ∷ 32 ∷ t) (sym en))) in
    let pre = take len line ++ (d ++ 41 ∷ 32 ∷ (b ++ 32 ∷ [])) in
    let split : line ≡ pre ++ rest = whole ∙ (ap (λ t. take len line ++ (d ++ 41 ∷ 32 ∷ t)) (parts ∙ sym (append_assoc b (32 ∷ []) rest))
    ∙ (ap (λ t. take len line ++ t) (sym (append_assoc d (41 ∷ 32 ∷ (b ++ 32 ∷ [])) rest)) ∙ sym (append_assoc (take len line) (d ++ 41 ∷ 32 ∷ (b ++ 32 ∷ [])) rest))) in
    let size : length line ≡ length pre + length rest = ap length split ∙ length-append pre rest in
    let end : get_or line (length line - 1) 0 ≡ get_or rest (length rest - 1) 0 = ap (λ (t : List ℕ). get_or t (length t - 1) 0) split ∙ last-behind pre rest some in
    plain-said line (take len line) d name b rest seconds micros whole front six m.digits named parts some (rest-stays rest some first) (omega (arith, size, some)) (return-none line (λ k. last (sym end ∙ k)))

-- the name of a bus and the space behind it
pub bus-at : (s : List ℕ) (i : ℕ) → i < length s → get_or s i 0 ≡ 32 → ((k : ℕ) → k < i → get_or s k 0 ≡ 32 → ⊥) → 0 < i → i ≤ 15 → bus_of s ≡ Some (take i s, drop (i + 1) s)
bus-at s i h e before some few =
    let n : length (take i s) ≡ i = omega (arith, h, length-take i s) in
    ap (λ (o : Option (List ℕ × List ℕ)). o >>= (λ p. if (length p.0 == 0) || nat_lt 15 (length p.0) then None else Some p)) (cut-first 32 s i h (equal _ 32 e) (λ k l t. before k l (eqb-true (get_or s k 0) 32 t)))
    ∙ sym (no ((length (take i s) == 0) || nat_lt 15 (length (take i s))) None (Some (take i s, drop (i + 1) s)) (fits (length (take i s)) (omega (arith, n, some)) (omega (arith, n, few))))
  where
    equal : (x y : ℕ) → x ≡ y → (x == y) ≡ true
    equal x y h = grind (arith, nat_tests)

    fits : (n : ℕ) → 0 < n → n ≤ 15 → ((n == 0) || nat_lt 15 n) ≡ false
    fits n a b = grind (arith, nat_tests)
