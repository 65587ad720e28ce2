-- The numbers of a section with one field more.
use Rattle.std.proofs.Common.{◌≡◌, ℕ, ◌+◌, Bool, true, false, List, [], ◌∷◌, ◌++◌, if◌then◌else◌, refl, sym, ap, ◌∙◌, subst, arith}
use Rattle.std.specs.Prelude.{max}
use Rattle.dsdl_types.specs.Rules.{nesting, nesting_of}
use Rattle.dsdl_types.specs.Schemas.{Sch, Flds, is_aligned}
use Rattle.dsdl_types.specs.Views.{Kind, Typed, Padding, is_padding, type_of, named, flds}
use Rattle.dsdl_types.specs.declared.schema.Field.{Field}
use Rattle.dsdl_resolve.specs.declared.measure.Measure.{Measure}
use Rattle.dsdl_resolve.specs.declared.totals.Totals.{Totals}
use Rattle.dsdl_resolve.specs.Totals.{IsMeasure, AreTotals, end_of, next_end}
use Rattle.dsdl_resolve.proofs.Onto as O
use Rattle.dsdl_resolve.proofs.Onto.{onto, flds_more, part_of}

typed_kind : (k : Kind) → is_padding k ≡ false → k ≡ Typed (type_of k)
typed_kind (Typed s) e = refl
typed_kind (Padding n) e = absurd (cc)

end_more : (union : Bool) (fs : Flds) (name : List ℕ) (s : Sch) → end_of union (onto fs name (Typed s)) ≡ next_end union (end_of union fs) (is_aligned s) (part_of s)
end_more true fs name s = O.variant_typed name s fs
end_more false fs name s = O.longest_typed name s fs 0

module _ (t : Totals) (m : Measure) (union : Bool) where
  abbrev more : Totals
  more = record { union = t.union; variants = t.variants + 1; end = next_end t.union t.end m.aligned m.longest; nodes = t.nodes + m.nodes; nesting = max t.nesting m.nesting }

  onto_totals : (fs : Flds) (name : List ℕ) (s : Sch) → AreTotals t union fs → IsMeasure m s → AreTotals more union (onto fs name (Typed s))
  onto_totals fs name s h is = record {
    kind = h.kind;
    variants = omega (arith, h.variants, O.variants_typed name s fs);
    end = ap (λ u. next_end u t.end m.aligned m.longest) h.kind ∙ ap (λ e. next_end union e m.aligned m.longest) h.end
        ∙ ap (λ a. next_end union (end_of union fs) a m.longest) is.aligned ∙ ap (λ n. next_end union (end_of union fs) (is_aligned s) n) is.longest ∙ sym (end_more union fs name s);
    nodes = omega (arith, h.nodes, is.nodes, O.nodes_typed name s fs);
    nesting = ap (λ n. max n m.nesting) h.nesting ∙ ap (λ n. max (nesting_of fs) n) is.nesting ∙ sym (O.nesting_typed name s fs);
  }

  pub field_totals : (fs : List Field) (f : Field) (end nesting : ℕ) → AreTotals t union (flds fs) → is_padding (named f).1 ≡ false → IsMeasure m (type_of (named f).1) →
      end ≡ next_end t.union t.end m.aligned m.longest → nesting ≡ max t.nesting m.nesting →
      AreTotals (record { union = t.union; variants = t.variants + 1; end = end; nodes = t.nodes + m.nodes; nesting = nesting }) union (flds (fs ++ f ∷ []))
  field_totals fs f end nesting h typed is e n =
      let same : flds (fs ++ f ∷ []) ≡ onto (flds fs) (named f).0 (Typed (type_of (named f).1)) = flds_more fs f ∙ ap (λ k. onto (flds fs) (named f).0 k) (typed_kind (named f).1 typed) in
      let here : AreTotals more union (flds (fs ++ f ∷ [])) = subst (AreTotals more union) (sym same) (onto_totals (flds fs) (named f).0 (type_of (named f).1) h is) in
      record { kind = here.kind; variants = here.variants; end = e ∙ here.end; nodes = here.nodes; nesting = n ∙ here.nesting }

module _ (t : Totals) (bits : ℕ) (union : Bool) where
  abbrev wider : Totals
  wider = record t { end = if t.union then t.end else t.end + bits }

  end_padded : (u : Bool) (fs : Flds) (name : List ℕ) → end_of u (onto fs name (Padding bits)) ≡ (if u then end_of u fs else end_of u fs + bits)
  end_padded true fs name = O.variant_padding name bits fs
  end_padded false fs name = O.longest_padding name bits fs 0

  onto_padding : (fs : Flds) (name : List ℕ) → AreTotals t union fs → AreTotals wider union (onto fs name (Padding bits))
  onto_padding fs name h = record {
    kind = h.kind;
    variants = h.variants ∙ sym (O.variants_padding name bits fs);
    end = ap (λ u. if u then t.end else t.end + bits) h.kind ∙ ap (λ e. if union then e else e + bits) h.end ∙ sym (end_padded union fs name);
    nodes = h.nodes ∙ sym (O.nodes_padding name bits fs);
    nesting = h.nesting ∙ sym (O.nesting_padding name bits fs);
  }

  pub padding_totals : (fs : List Field) (f : Field) (end : ℕ) → AreTotals t union (flds fs) → (named f).1 ≡ Padding bits → end ≡ (if t.union then t.end else t.end + bits) →
      AreTotals (record t { end = end }) union (flds (fs ++ f ∷ []))
  padding_totals fs f end h is e =
      let same : flds (fs ++ f ∷ []) ≡ onto (flds fs) (named f).0 (Padding bits) = flds_more fs f ∙ ap (λ k. onto (flds fs) (named f).0 k) is in
      let here : AreTotals wider union (flds (fs ++ f ∷ [])) = subst (AreTotals wider union) (sym same) (onto_padding (flds fs) (named f).0 h) in
      record { kind = here.kind; variants = here.variants; end = e ∙ here.end; nodes = here.nodes; nesting = here.nesting }
