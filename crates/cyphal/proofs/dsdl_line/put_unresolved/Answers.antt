use Rattle.std.proofs.Common.{◌≡◌, ◌∙◌, ℕ, List, [], ◌∷◌, ◌++◌, OnOk, OnErr, codes, decimal, sym, ap, ap₂, subst, append_assoc}
use Rattle.cy_outside.specs.Written.{behind, Begins}
use Rattle.dsdl_names.specs.declared.TypeId.{TypeId}
use Rattle.cyphal.specs.ErrorLine.{in_file, type_text}
use Rattle.cyphal.proofs.Parts.{five}
use Rattle.cyphal.proofs.dsdl_line.put_unresolved.Goals as goal

-- a text of five parts behind a word, and what stands behind it
grouped : (word name first major second minor end : List ℕ) → word ++ (name ++ (first ++ (major ++ (second ++ (minor ++ end))))) ≡ (word ++ (name ++ (first ++ (major ++ (second ++ minor))))) ++ end
grouped word name first major second minor end =
    sym (append_assoc word (name ++ (first ++ (major ++ (second ++ minor)))) end ∙ ap (λ t. word ++ t) (append_assoc name (first ++ (major ++ (second ++ minor))) end ∙ ap (λ t. name ++ t) (append_assoc first (major ++ (second ++ minor)) end ∙ ap (λ t. first ++ t) (append_assoc major (second ++ minor) end ∙ ap (λ t. major ++ t) (append_assoc second minor end)))))

-- the parts of the line are the line
line_is : (file : List ℕ) (line : ℕ) (id : TypeId) (a b c d e f g h i j k l : List ℕ) → a ≡ codes "cyphal: " → b ≡ file → c ≡ codes ":" → d ≡ decimal line → e ≡ codes ": " → f ≡ codes "Unresolved " → g ≡ id.name → h ≡ codes "." → i ≡ decimal id.major → j ≡ codes "." → k ≡ decimal id.minor → l ≡ 10 ∷ [] →
    a ++ (b ++ (c ++ (d ++ (e ++ (f ++ (g ++ (h ++ (i ++ (j ++ (k ++ (l ++ []))))))))))) ≡ in_file file line (codes "Unresolved " ++ type_text id)
line_is file line id a b c d e f g h i j k l pa pb pc pd pe pf pg ph pi pj pk pl =
    ap₂ (λ s t. s ++ t) pa (ap₂ (λ s t. s ++ t) pb (ap₂ (λ s t. s ++ t) pc (ap₂ (λ s t. s ++ t) pd (ap₂ (λ s t. s ++ t) pe (ap₂ (λ s t. s ++ t) pf (ap₂ (λ s t. s ++ t) pg (five h i j k l _ _ _ _ _ ph pi pj pk pl)) ∙ grouped (codes "Unresolved ") id.name (codes ".") (decimal id.major) (codes ".") (decimal id.minor) (10 ∷ []))))))

pub returns-clause-written : goal.returns-clause-written
returns-clause-written g c =
    subst (λ (line : List ℕ). OnOk c.put_parts.result (g.E.Sink.written c.put_parts.new.err ≡ behind (g.E.Sink.written c.args.err.now) line))
    (line_is c.args.file.now c.args.line c.args.id.now _ _ _ _ _ _ _ _ _ _ _ _ c.as_slice.ensures c.as_bytes.ensures.value c.as_slice-2.ensures (c.as_bytes-digits.ensures.value ∙ c.format.ensures.text) c.as_slice-3.ensures c.as_slice-4.ensures c.as_bytes-2.ensures.value c.as_slice-5.ensures (c.as_bytes-major.ensures.value ∙ c.format-2.ensures.text) c.as_slice-6.ensures (c.as_bytes-minor.ensures.value ∙ c.format-3.ensures.text) c.as_slice-7.ensures) c.put_parts.ensures.written

pub returns-clause-begins : goal.returns-clause-begins
returns-clause-begins g c =
    subst (λ (line : List ℕ). OnErr c.put_parts.result (Begins line (g.E.Sink.written c.args.err.now) (g.E.Sink.written c.put_parts.new.err)))
    (line_is c.args.file.now c.args.line c.args.id.now _ _ _ _ _ _ _ _ _ _ _ _ c.as_slice.ensures c.as_bytes.ensures.value c.as_slice-2.ensures (c.as_bytes-digits.ensures.value ∙ c.format.ensures.text) c.as_slice-3.ensures c.as_slice-4.ensures c.as_bytes-2.ensures.value c.as_slice-5.ensures (c.as_bytes-major.ensures.value ∙ c.format-2.ensures.text) c.as_slice-6.ensures (c.as_bytes-minor.ensures.value ∙ c.format-3.ensures.text) c.as_slice-7.ensures) c.put_parts.ensures.begins
