-- An access for a reference changes the reference's bytes alone.
use Rattle.std.proofs.Common.{◌≡◌, ℕ, ◌<◌, ◌≤◌, ◌+◌, ◌*◌, ◌/◌, ◌%◌, ◌^◌, ◌==◌, true, false, refl, sym, ap, ◌∙◌, arith, lit<, ◌⊎◌, ⊎_elim}
use Rattle.std.proofs.lemmas.Bool.Decides.{nat_tests}
use Rattle.std.proofs.lemmas.Nat.{mod_below}
use Rattle.std.specs.Int.{byte_at}
use Rattle.memory_core.specs.Bytes.{with_bytes, word_at}
use Rattle.memory_core.specs.Changes as quadwords
use Rattle.memory_core.specs.Kinds.{is_memory}
use Rattle.memory_core.specs.declared.entry.Change.TheVariants as changes
use Rattle.memory_core.specs.declared.entry.Entry.{Entry}
use Rattle.memory_core.specs.declared.entry.Kind.{Kind}
use Rattle.memory_core.specs.declared.entry.Kind.TheVariants as kinds
use Rattle.memory_core.proofs.Neighbours.{others_stay}
use Rattle.vax_form.specs.declared.state.Reference.{Reference}
use Rattle.vax_form.specs.declared.state.RefKind.{RefKind}
use Rattle.vax_form.specs.declared.state.RefKind.TheVariants.{Read, Write, Add, SetBit, ClearBit, Put, Get}
use Rattle.vax_form.specs.References.{byte_count_of, FitsKind}
use Rattle.block_law.specs.References.{is_of_memory}
use Rattle.system_model.specs.Quadwords.{place_of, change_by, IsAccess, IsOfKind}
use Rattle.system_model.specs.Matches.{KeepsOthers}
use Rattle.system_model.specs.Laws.{NeighboursStay}
use Rattle.system_model.proofs.Quads.{word_mask, masked_outside}

another : (place bit at : ℕ) → bit < 8 → (at < place) ⊎ (place + 1 ≤ at) → (at == (8 * place + bit) / 8) ≡ false
another place bit at small apart =
    let e : (8 * place + bit) / 8 ≡ place = omega arith in
    ⊎_elim (λ (l : at < place). rw e (grind (arith, nat_tests))) (λ (l : place + 1 ≤ at). rw e (grind (arith, nat_tests))) apart

change_keeps : (kind : RefKind) (place count before at : ℕ) → is_of_memory kind ≡ true → place < 8 → FitsKind kind → at < 8 → (at < place) ⊎ (place + byte_count_of kind count ≤ at)
    → byte_at at (quadwords.changed (change_by kind place count) before) ≡ byte_at at before
change_keeps Read place count before at n l fits small apart = refl
change_keeps (Write value) place count before at n l fits small apart = masked_outside place count value before at small apart
change_keeps (Add value) place count before at n l fits small apart =
    ap (λ mask. byte_at at (with_bytes mask ((word_at place before + value) % 2 ^ 16 * 2 ^ (8 * place)) before)) (word_mask place)
    ∙ masked_outside place 2 ((word_at place before + value) % 2 ^ 16) before at small apart
change_keeps (SetBit bit) place count before at n l fits small apart =
    let within : 8 * place + bit < 64 = omega arith in
    others_stay (changes.SetBit (8 * place + bit)) before at within small (another place bit at fits apart)
change_keeps (ClearBit bit) place count before at n l fits small apart =
    let within : 8 * place + bit < 64 = omega arith in
    others_stay (changes.ClearBit (8 * place + bit)) before at within small (another place bit at fits apart)
change_keeps (Put value) place count before at n l fits small apart = absurd (cc n)
change_keeps Get place count before at n l fits small apart = refl

access_keeps : (reference : Reference) (e : Entry) (kind : RefKind) → reference.kind ≡ kind → is_of_memory kind ≡ true → IsAccess reference e → KeepsOthers e reference
access_keeps reference e kind same n is memory at small apart =
    ap (byte_at at) is.after
    ∙ change_keeps reference.kind (place_of reference) reference.count e.before at (ap is_of_memory same ∙ n) (mod_below reference.address 8 (lit< tt)) is.fits.bit small apart

no_access : (kind other : Kind) → kind ≡ other → is_memory other ≡ false → is_memory kind ≡ true → ⊥
no_access kind other same none memory = let e : false ≡ true = sym none ∙ ap is_memory (sym same) ∙ memory in cc e

kind_keeps : (kind : RefKind) (reference : Reference) (e : Entry) → reference.kind ≡ kind → IsOfKind kind reference e → KeepsOthers e reference
kind_keeps Read reference e same is = access_keeps reference e Read same refl is
kind_keeps (Write value) reference e same is = access_keeps reference e (Write value) same refl is
kind_keeps (Add value) reference e same is = access_keeps reference e (Add value) same refl is
kind_keeps (SetBit bit) reference e same is = access_keeps reference e (SetBit bit) same refl is
kind_keeps (ClearBit bit) reference e same is = access_keeps reference e (ClearBit bit) same refl is
kind_keeps (Put byte) reference e same is = λ memory. absurd (no_access e.kind kinds.Put is.0 refl memory)
kind_keeps Get reference e same is = λ memory. absurd (no_access e.kind kinds.Get is refl memory)

pub neighbours_stay : NeighboursStay
neighbours_stay reference e is = kind_keeps reference.kind reference e refl is
