-- What is read of a line, where a text of a value may stand.
use Rattle.std.specs.Prelude.{◌≡◌, ℕ, ◌≤◌, Bool, true, false, List, ◌∷◌, ◌++◌}
use Rattle.dsdl_types.specs.Fits.{Fits, FitFields, FitsVariant, AllOf, IsTagged}
use Rattle.dsdl_types.specs.Names.{HasNames, HaveNames}
use Rattle.dsdl_types.specs.Rules.{IsFormed, AreFormed}
use Rattle.dsdl_types.specs.Schemas.{Sch, Flds}
use Rattle.dsdl_types.specs.Sound.{IsSound, AreSound}
use Rattle.dsdl_types.specs.Values.{Val, Vals, count, tag_of, inner_of}
use Rattle.value_text.specs.Ends.{Reads}
use Rattle.value_text.specs.Texts.{value_text, array_text, field_texts, variant_text, is_uint8}
use Rattle.value_text.specs.Texts.{texts, in_a_row, byte_text, are_bytes}
use Rattle.value_text.specs.Words.{entry, in_braces, separated}

-- the rules that values are read by
abbrev pub IsReadable : Sch → Type 0
IsReadable s = IsFormed s × IsSound s × HasNames s

abbrev pub AreReadable : Flds → Type 0
AreReadable fs = AreFormed fs × AreSound fs × HaveNames fs

-- exactly so many, or at most
abbrev pub Counts : Bool → ℕ → ℕ → Type 0
Counts true n k = k ≡ n
Counts false n k = k ≤ n

-- the items of an array, and those of an array of bytes
abbrev pub HasItems : Sch → Bool → ℕ → Vals → Type 0
HasItems s exact n vs = Counts exact n (count vs) × AllOf (λ x. Fits s x) vs

abbrev pub HasBytes : Bool → ℕ → Vals → Type 0
HasBytes exact n vs = Counts exact n (count vs) × (are_bytes vs ≡ true)

-- One of these is read; where the text of one stands with an end behind it, that one, up to the
-- end.
abbrev pub Gives : {A : Type 0} → (A → Type 0) → (A → List ℕ) → List ℕ → List ℕ → A → Type 0
Gives {A} F f before after v = F v × Reads F f before after v

-- the same where one byte is the end
abbrev pub GivesUpTo : {A : Type 0} → ℕ → (A → Type 0) → (A → List ℕ) → List ℕ → List ℕ → A → Type 0
GivesUpTo {A} c F f before after v =
    F v × ((w : A) → F w → (rest : List ℕ) → before ≡ f w ++ c ∷ rest → (v ≡ w) × (after ≡ c ∷ rest))

abbrev pub GivesValue : Sch → List ℕ → List ℕ → Val → Type 0
GivesValue s = Gives (λ w. Fits s w) (λ w. value_text s w)

abbrev pub GivesEntry : List ℕ → Sch → List ℕ → List ℕ → Val → Type 0
GivesEntry name s = Gives (λ w. Fits s w) (λ w. entry name (value_text s w))

abbrev pub GivesArray : Sch → Bool → ℕ → List ℕ → List ℕ → Vals → Type 0
GivesArray s exact n = Gives (HasItems s exact n) (λ ws. array_text (is_uint8 s) (λ x. value_text s x) ws)

abbrev pub GivesBytes : Bool → ℕ → List ℕ → List ℕ → Vals → Type 0
GivesBytes exact n = Gives (HasBytes exact n) (λ ws. in_a_row byte_text ws)

abbrev pub GivesItems : Sch → Bool → ℕ → List ℕ → List ℕ → Vals → Type 0
GivesItems s exact n = GivesUpTo 93 (HasItems s exact n) (λ ws. separated (texts (λ x. value_text s x) ws))

abbrev pub GivesStruct : Flds → List ℕ → List ℕ → Vals → Type 0
GivesStruct fs = Gives (λ ws. FitFields fs ws) (λ ws. in_braces (separated (field_texts fs ws)))

abbrev pub GivesFields : Flds → List ℕ → List ℕ → Vals → Type 0
GivesFields fs = GivesUpTo 125 (λ ws. FitFields fs ws) (λ ws. separated (field_texts fs ws))

abbrev pub GivesVariant : Flds → List ℕ → List ℕ → Val → Type 0
GivesVariant fs = GivesUpTo 125 (λ w. IsTagged (λ t x. FitsVariant fs t x) w) (λ w. variant_text fs (tag_of w) (inner_of w))

abbrev pub GivesUnion : Flds → List ℕ → List ℕ → Val → Type 0
GivesUnion fs = Gives (λ w. IsTagged (λ t x. FitsVariant fs t x) w) (λ w. in_braces (variant_text fs (tag_of w) (inner_of w)))

-- No text of a variant stands there, and none in braces.
abbrev pub HasNoVariant : Flds → List ℕ → Type 0
HasNoVariant fs before = (k : ℕ) (w : Val) → FitsVariant fs k w → (rest : List ℕ) → before ≡ variant_text fs k w ++ 125 ∷ rest → ⊥

abbrev pub HasNoUnion : Flds → List ℕ → Type 0
HasNoUnion fs before = (k : ℕ) (w : Val) → FitsVariant fs k w → (rest : List ℕ) → before ≡ in_braces (variant_text fs k w) ++ rest → ⊥
