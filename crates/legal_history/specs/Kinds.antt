-- Which kinds of entries an instruction makes, as it was translated or interpreted.
use Rattle.std.specs.Prelude.{◌≡◌, ℕ, Bool, true, false, List, [], ◌∷◌, Option, Some, None}
use Rattle.alpha_meaning.specs.Pieces.{Kinds}
use Rattle.alpha_meaning.specs.declared.access.AlphaKind.{AlphaKind}
use Rattle.alpha_meaning.specs.declared.access.AlphaKind.TheVariants.{Load, LoadLocked, Store, StoreConditional}
use Rattle.memory_core.specs.declared.entry.Entry.{Entry}
use Rattle.memory_core.specs.declared.entry.Kind.{Kind}
use Rattle.memory_core.specs.declared.entry.Kind.TheVariants as kinds
use Rattle.vax_form.specs.Tree.{Retired}
use Rattle.vax_form.specs.declared.state.Reference.{Reference}
use Rattle.vax_form.specs.declared.state.VaxState.{VaxState}
use Rattle.vax_driven.specs.Threads.{Threads, reached, wanted}
use Rattle.block_law.specs.Translations.{Permit}
use Rattle.system_model.specs.Interpreted.{threads_of, is_translated}
use Rattle.system_model.specs.Settings.{Setting}
use Rattle.legal_history.specs.Explained.{replies_by}

-- an access of that kind may be made for the reference that is wanted
abbrev pub MayBeFor : Option Reference → (Reference → Kinds) → AlphaKind → Type 0
MayBeFor None each kind = ⊥
MayBeFor (Some reference) each kind = (bytes : ℕ) × (each reference kind bytes ≡ true)

-- a kind that Alpha code makes: one that may be made for the wanted reference, or a byte that is put out or got
abbrev pub IsAlpha : Kind → (Reference → Kinds) → (wanted : Option Reference) → Type 0
IsAlpha kinds.Load each wanted = MayBeFor wanted each Load
IsAlpha kinds.LoadLocked each wanted = MayBeFor wanted each LoadLocked
IsAlpha kinds.Store each wanted = MayBeFor wanted each Store
IsAlpha kinds.StoreConditional each wanted = MayBeFor wanted each StoreConditional
IsAlpha kinds.Put each wanted = Unit {0}
IsAlpha kinds.Get each wanted = Unit {0}
IsAlpha _ each wanted = ⊥

-- a kind that the interpreter makes
abbrev pub IsTie : Kind → Type 0
IsTie kinds.Load = ⊥
IsTie kinds.LoadLocked = ⊥
IsTie kinds.Store = ⊥
IsTie kinds.StoreConditional = ⊥
IsTie _ = Unit {0}

-- the kinds of an instruction that was translated, or interpreted
abbrev pub IsMadeIn : (translated : Bool) → (Reference → Kinds) → (wanted : Option Reference) → Kind → Type 0
IsMadeIn true each wanted kind = IsAlpha kind each wanted
IsMadeIn false each wanted kind = IsTie kind

-- the kinds of the instruction at which the thread stands
abbrev pub IsMadeAt : Setting → Permit → (thread : ℕ) → Option Retired → (wanted : Option Reference) → Kind → Type 0
IsMadeAt setting permit thread None wanted kind = IsTie kind
IsMadeAt setting permit thread (Some here) wanted kind = IsMadeIn (is_translated setting thread here.state) (permit.kinds here.state.pc) wanted kind

-- an entry has a kind of Alpha code where the thread's instruction then was translated, one that may be made for the
-- reference that the thread wanted then; and one of TIE where it was not
abbrev pub IsMade : Setting → Permit → Threads → (thread : ℕ) → (replies : List ℕ) → Entry → Type 0
IsMade setting permit threads thread replies e = IsMadeAt setting permit thread (reached threads thread e.retired replies) (wanted threads thread e.retired replies) e.kind

-- each entry has such a kind
abbrev pub AllMadeIn : Setting → Permit → (starts : ℕ → Option VaxState) → (thread : ℕ) → List Entry → Type 0
AllMadeIn setting permit starts thread [] = Unit {0}
AllMadeIn setting permit starts thread (e ∷ mine) =
    AllMadeIn setting permit starts thread mine × IsMade setting permit (threads_of setting starts) thread (replies_by (threads_of setting starts) thread mine) e
