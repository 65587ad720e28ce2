-- The first sources of a port.
use Rattle.std.proofs.Common.{◌≡◌, ◌∙◌, ℕ, zero, suc, ◌+◌, ◌≤◌, List, [], ◌∷◌, ◌++◌, length, take, min, Option, Some, slice_get, refl, sym, ap, inl, inr, take_all, add-one, arith}
use Rattle.std.proofs.lemmas.Bool.{cases_lt, cond-true, cond-false}
use Rattle.can_id.specs.declared.key.Kind.{Kind}
use Rattle.transfer_crc.specs.Crc.{crc_of}
use Rattle.rx_session.specs.declared.session.Session.{Session}
use Rattle.rx_table.specs.Keys.{KeyedFrame}
use Rattle.rx_table.specs.Admitted.{admitted}
use Rattle.rx_table.specs.Ports.{Port, sources_of, ports_of, port_at, TableStands}
use Rattle.rx_table.specs.Laws.{EachPort}
use Rattle.rx_table.specs.declared.port.Port as code
use Rattle.rx_table.specs.Table.{IsPort, entries_of, port_of, states, admitted_on}
use Rattle.rx_table.proofs.Admissions.{admitted_few}
use Rattle.rx_table.proofs.FoundPorts.{IsAt, FoundAt}

some_is : {X : Type 0} (x y : X) → Some x ≡ Some y → x ≡ y
some_is x y h = cc

next : {S : Type 0} (es : List (ℕ × Session S)) (i : ℕ) (e : ℕ × Session S) → slice_get es i ≡ Some e → take (suc i) (sources_of (entries_of es)) ≡ take i (sources_of (entries_of es)) ++ e.0 ∷ []
next [] i e h = absurd cc
next {S} (d ∷ es) zero e h = ap (λ (p : ℕ × Session S). p.0 ∷ []) (some_is _ _ h)
next (d ∷ es) (suc i) e h = ap (λ (t : List ℕ). d.0 ∷ t) (next es i e h)

pub sources-next : {S : Type 0} (es : List (ℕ × Session S)) (i : ℕ) (e : ℕ × Session S) (list more : List ℕ) → slice_get es i ≡ Some e → list ≡ take i (sources_of (entries_of es)) → more ≡ list ++ e.0 ∷ []
    → more ≡ take (i + 1) (sources_of (entries_of es))
sources-next es i e list more h before step =
    step ∙ (ap (λ (t : List ℕ). t ++ e.0 ∷ []) before ∙ (sym (next es i e h) ∙ ap (λ n. take n (sources_of (entries_of es))) (sym (add-one i))))

length-both : {S : Type 0} (es : List (ℕ × Session S)) → length (sources_of (entries_of es)) ≡ length es
length-both [] = refl
length-both (e ∷ es) = ap suc (length-both es)

pub sources-all : {S : Type 0} (es : List (ℕ × Session S)) (n count i : ℕ) → n ≡ length es → count ≡ min n 128 → count ≤ i → i ≤ count → take i (sources_of (entries_of es)) ≡ take 128 (sources_of (entries_of es))
sources-all es n count i e f l m =
    let xs = sources_of (entries_of es) in
    let k = length-both es in
    elim (cases_lt n 128) [
      | inl few ↦ take_all i xs (omega arith) ∙ sym (take_all 128 xs (omega arith))
      | inr many ↦ (let at : i ≡ 128 = omega arith in ap (λ j. take j xs) at)
    ]

few : (p : Port) (log : List KeyedFrame) → p.sources ≤ 128 → take 128 (admitted p.kind p.port p.sources log) ≡ admitted p.kind p.port p.sources log
few p log le = let l = admitted_few p.kind p.port p.sources log in take_all 128 (admitted p.kind p.port p.sources log) (omega arith)

pub sources-found : {S : Type 0} (extent : S → ℕ) (kind : Kind) (port timeout : ℕ) (log : List KeyedFrame) (ports : List (code.Port S)) (i : ℕ) (p : code.Port S)
    → EachPort IsPort (ports_of (states extent ports)) → TableStands crc_of timeout log (states extent ports) → FoundAt kind port (states extent ports) i → slice_get ports i ≡ Some p
    → take 128 (sources_of (entries_of p.sessions.entries)) ≡ admitted_on (port_at kind port (ports_of (states extent ports))) log
sources-found extent kind port timeout log [] i p each st x h = absurd x
sources-found {S} extent kind port timeout log (o ∷ ports) zero p each st x h =
    ap (λ (q : code.Port S). take 128 (sources_of (entries_of q.sessions.entries))) (sym (some_is _ _ h))
    ∙ (ap (take 128) st.0.sources_are ∙ (few (port_of extent o) log each.0.few
    ∙ ap (λ (q : Option Port). admitted_on q log) (sym (cond-true (IsAt kind port (port_of extent o)) (Some (port_of extent o)) (port_at kind port (ports_of (states extent ports))) x))))
sources-found extent kind port timeout log (o ∷ ports) (suc i) p each st x h =
    sources-found extent kind port timeout log ports i p each.1 st.1 x.1 h
    ∙ ap (λ (q : Option Port). admitted_on q log) (sym (cond-false (IsAt kind port (port_of extent o)) (Some (port_of extent o)) (port_at kind port (ports_of (states extent ports))) x.0))
