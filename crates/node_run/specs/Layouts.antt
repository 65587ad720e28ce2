-- What is written of the layouts of a namespace.
use Rattle.std.specs.Prelude.{◌≡◌, ℕ, List, Option}
use Rattle.cy_outside.specs.Written.{behind, Begins}
use Rattle.dsdl_types.specs.declared.namespace.Namespace.{Namespace}
use Rattle.layout_text.specs.Namespaces.{IsNamespaceText}
use Rattle.node_run.specs.declared.status.Status.{Status}
use Rattle.node_run.specs.declared.status.Status.TheVariants as status

-- the text of a namespace's layouts was written, as far as the status says
abbrev pub HasLayouts : Namespace → Status → Option (List ℕ) → Option (List ℕ) → Type 0
HasLayouts names status.Ok before after = (text : List ℕ) × IsNamespaceText names text × (after ≡ behind before text)
HasLayouts names status.WriteFault before after = (text : List ℕ) × IsNamespaceText names text × Begins text before after
HasLayouts names status.NoMemory before after = after ≡ before
HasLayouts names other before after = ⊥
