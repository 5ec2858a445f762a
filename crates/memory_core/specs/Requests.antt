-- Requests that a memory takes, and its replies.
use Rattle.std.specs.Prelude.{◌≡◌, ◌%◌, ℕ, Bool, true}
use Rattle.vax_form.specs.Pages.{is_allowed}
use Rattle.memory_core.specs.declared.entry.Request.{Request}
use Rattle.memory_core.specs.declared.entry.SetUp.{SetUp}
use Rattle.memory_core.specs.declared.entry.Reply.{Reply}
use Rattle.memory_core.specs.declared.entry.Reply.TheVariants.{Made, Full}
use Rattle.memory_core.specs.Kinds.{is_memory, writes}
use Rattle.memory_core.specs.Changes.{Allows}

-- an access to memory stands at a quadword in a page that allows the kind
pub record CanMake (set_up : SetUp) (request : Request) : Type 0 where
  pub aligned : is_memory request.kind ≡ true → request.quad % 8 ≡ 0
  pub page : is_memory request.kind ≡ true → is_allowed set_up.image.pages request.quad (writes request.kind true) ≡ true
  pub change : Allows request.kind request.change

abbrev pub MatchReply : Reply → (ℕ → Bool → Type 0) → Type 0 → Type 0
MatchReply (Made before success) made full = made before success
MatchReply Full made full = full
