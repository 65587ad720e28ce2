-- What files are resolved to is one.
use Rattle.std.specs.Prelude.{◌≡◌, ◌⊎◌, ℕ, List}
use Rattle.dsdl_files.specs.declared.file.DsdlFile.{DsdlFile}
use Rattle.dsdl_types.specs.declared.namespace.Namespace.{Namespace}
use Rattle.dsdl_resolve.specs.declared.why.DsdlWhy.{DsdlWhy}
use Rattle.dsdl_resolve.specs.Passes.{Compiled, FirstRefusal}

-- files are compiled to some namespace
abbrev pub HasNamespace : List DsdlFile → Type 0
HasNamespace files = (names : Namespace) × Compiled files names

-- files have a first refusal
abbrev pub HasRefusal : List DsdlFile → Type 0
HasRefusal files = (path : List ℕ) × (line : ℕ) × (why : DsdlWhy) × FirstRefusal files path line why

-- Files are compiled to one namespace, or they have one first refusal: exactly one of the two.
pub record HaveOneAnswer : Type 0 where
  pub either : (files : List DsdlFile) → HasNamespace files ⊎ HasRefusal files
  pub one_namespace : (files : List DsdlFile) (a b : Namespace) → Compiled files a
      → Compiled files b → a ≡ b
  pub not_both : (files : List DsdlFile) → HasNamespace files → HasRefusal files → ⊥
  pub one_refusal : (files : List DsdlFile) (p q : List ℕ) (m n : ℕ) (v w : DsdlWhy)
      → FirstRefusal files p m v → FirstRefusal files q n w → (p ≡ q) × (m ≡ n) × (v ≡ w)
