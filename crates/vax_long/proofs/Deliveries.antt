-- A delivery whose frame may be written, and one whose frame may not.
use Rattle.std.proofs.Common.{◌≡◌, ℕ, true, false, Option, Some, None, refl}
use Rattle.std.specs.Option.{is_none}
use Rattle.vax_form.specs.Tree.{Tree, Fault, unless_bad}
use Rattle.vax_form.specs.declared.state.Exception.{Exception}

pub delivers : (bad : Option ℕ) (exception : Exception) (tree : Tree) → is_none bad ≡ true → unless_bad bad (λ _. Fault exception) true tree ≡ tree
delivers None exception tree is = refl
delivers (Some address) exception tree is = absurd (cc is)

pub refuses : (bad : Option ℕ) (exception : Exception) (tree : Tree) → is_none bad ≡ false → unless_bad bad (λ _. Fault exception) true tree ≡ Fault exception
refuses None exception tree is = absurd (cc is)
refuses (Some address) exception tree is = refl
