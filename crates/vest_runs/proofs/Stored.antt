-- What Alpha code for processors with the byte-word extension stores as a whole.
use Rattle.std.proofs.Common.{◌≡◌, true, Option, Some, refl, subst}
use Rattle.alpha_meaning.specs.declared.access.AlphaKind.TheVariants as access
use Rattle.alpha_meaning.specs.Pieces.{Kinds}
use Rattle.image_meaning.specs.Permits.{by_store, permit_of}
use Rattle.image_meaning.specs.declared.target.Target.TheVariants.{ByteWord}
use Rattle.legal_history.specs.Kinds.{IsAlpha, IsMadeAt, IsMadeIn}
use Rattle.memory_core.specs.Kinds.{is_memory}
use Rattle.memory_core.specs.declared.entry.Kind.{Kind}
use Rattle.memory_core.specs.declared.entry.Kind.TheVariants as kinds
use Rattle.system_model.specs.Interpreted.{is_translated}
use Rattle.vax_driven.specs.Threads.{wanted}
use Rattle.vax_form.specs.Tree.{Retired}
use Rattle.vax_form.specs.declared.state.Reference.{Reference}
use Rattle.vest_runs.specs.Stored.{WholeIsStored}

-- where one store alone may be made
only_store : (reference : Reference) (each : Reference → Kinds) (kind : Kind) → each reference ≡ by_store reference.count → IsAlpha kind each (Some reference) → is_memory kind ≡ true → kind ≡ kinds.Store
only_store reference each kinds.Store by h memory = refl
only_store reference each kinds.Load by h memory = absurd (cc (subst (λ (k : Kinds). k access.Load h.0 ≡ true) by h.1))
only_store reference each kinds.LoadLocked by h memory = absurd (cc (subst (λ (k : Kinds). k access.LoadLocked h.0 ≡ true) by h.1))
only_store reference each kinds.StoreConditional by h memory = absurd (cc (subst (λ (k : Kinds). k access.StoreConditional h.0 ≡ true) by h.1))
only_store reference each kinds.Put by h memory = absurd (cc memory)
only_store reference each kinds.Get by h memory = absurd (cc memory)
only_store reference each kinds.TieRead by h memory = absurd h
only_store reference each kinds.TieWrite by h memory = absurd h
only_store reference each kinds.TieLocked by h memory = absurd h

pub whole_is_stored : WholeIsStored
whole_is_stored setting pages threads thread replies e here reference made at translated wants whole memory =
    let permit = permit_of ByteWord pages in
    let each = permit.kinds here.state.pc in
    let at_here : IsMadeAt setting permit thread (Some here) (wanted threads thread e.retired replies) e.kind =
    subst (λ (o : Option Retired). IsMadeAt setting permit thread o (wanted threads thread e.retired replies) e.kind) at made in
    let at_reference : IsMadeIn (is_translated setting thread here.state) each (Some reference) e.kind =
    subst (λ (o : Option Reference). IsMadeIn (is_translated setting thread here.state) each o e.kind) wants at_here in
    let of_code : IsAlpha e.kind each (Some reference) = subst (λ b. IsMadeIn b each (Some reference) e.kind) translated at_reference in
    let by : each reference ≡ by_store reference.count = rw whole refl in
    only_store reference each e.kind by of_code memory
