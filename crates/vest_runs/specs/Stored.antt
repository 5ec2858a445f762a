-- What Alpha code for processors with the byte-word extension stores as a whole.
use Rattle.std.specs.Prelude.{◌≡◌, ℕ, true, List, Some}
use Rattle.image_meaning.specs.Permits.{bytes_written, is_whole, permit_of}
use Rattle.image_meaning.specs.declared.target.Target.TheVariants.{ByteWord}
use Rattle.legal_history.specs.Kinds.{IsMade}
use Rattle.memory_core.specs.Kinds.{is_memory}
use Rattle.memory_core.specs.declared.entry.Entry.{Entry}
use Rattle.memory_core.specs.declared.entry.Kind.TheVariants.{Store}
use Rattle.system_model.specs.Interpreted.{is_translated}
use Rattle.system_model.specs.Settings.{Setting}
use Rattle.vax_driven.specs.Threads.{Threads, reached, wanted}
use Rattle.vax_form.specs.Tree.{Retired}
use Rattle.vax_form.specs.declared.pages.Pages.{Pages}
use Rattle.vax_form.specs.declared.state.Reference.{Reference}

-- Where a thread's instruction was translated, and it wanted to write a whole operand of one byte, or a whole word at an even
-- address, its access to memory is one store: none is load-locked.
abbrev pub WholeIsStored : Type 0
WholeIsStored = (setting : Setting) (pages : Pages) (threads : Threads) (thread : ℕ) (replies : List ℕ) (e : Entry) (here : Retired) (reference : Reference)
    → IsMade setting (permit_of ByteWord pages) threads thread replies e
    → reached threads thread e.retired replies ≡ Some here → is_translated setting thread here.state ≡ true
    → wanted threads thread e.retired replies ≡ Some reference → is_whole (bytes_written pages here.state.pc) reference ≡ true
    → is_memory e.kind ≡ true → e.kind ≡ Store
