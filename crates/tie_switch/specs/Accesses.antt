-- The accesses of Alpha code, and what the step of a word is by what the word does.
use Rattle.std.specs.Prelude.{◌≡◌, ℕ, ◌<◌, ◌*◌, ◌^◌, ◌%◌, true, IsSome, List, length, slice_index}
use Rattle.vt_words.specs.Quad.{IsCount}
use Rattle.alpha_machine.specs.declared.cpu.AlphaStep.{AlphaStep}
use Rattle.alpha_machine.specs.declared.cpu.AlphaStep.TheVariants.{Local, Want, Pal}
use Rattle.alpha_machine.specs.declared.cpu.Cpu.{Cpu}
use Rattle.alpha_machine.specs.Step.{state_of}
use Rattle.alpha_encode.specs.Words.{instr_at}
use Rattle.alpha_meaning.specs.Pieces.{loaded}
use Rattle.alpha_meaning.specs.declared.access.AlphaAccess.{AlphaAccess}
use Rattle.block_law.specs.Follows.{call_of}
use Rattle.block_law.specs.Translations.{fetch_of}
use Rattle.exception_records.specs.Points.{point_at}
use Rattle.memory_core.specs.Requests.{CanMake}
use Rattle.memory_core.specs.declared.entry.Request.{Request}
use Rattle.memory_core.specs.declared.entry.SetUp.{SetUp}
use Rattle.vax_form.specs.declared.pages.Pages.{Pages}
use Rattle.system_model.specs.Settings.{Setting}
use Rattle.system_model.specs.Steps as model
use Rattle.system_model.specs.Steps.{Moment, is_defined, request_for, called}
use Rattle.tie_switch.specs.declared.place.Next.{Next}
use Rattle.tie_switch.specs.declared.place.Next.TheVariants.{Moves, Wants}
use Rattle.tie_switch.specs.declared.place.Wanted.{Wanted}
use Rattle.tie_switch.specs.declared.place.Wanted.TheVariants as wanted
use Rattle.tie_switch.specs.Seen.{finished_by}

-- 1, 2, 4 or 8 bytes
pub record IsAccess (a : AlphaAccess) : Type 0 where
  pub bytes : IsCount a.bytes
  pub value : a.value < 2 ^ (8 * a.bytes)

-- the word decodes
pub record IsFetched (words : List ℕ) (pc : ℕ) : Type 0 where
  pub within : pc < length words
  pub decodes : IsSome (instr_at (slice_index words pc))

-- an access is naturally aligned
abbrev pub Fits : Wanted → Type 0
Fits (wanted.Access a) = IsAccess a × (a.address % a.bytes ≡ 0)
Fits wanted.Put = Unit {0}
Fits wanted.Get = Unit {0}

-- a memory with those pages can make the request
abbrev pub CanAsk : Pages → Request → Type 0
CanAsk pages request = (set_up : SetUp) → set_up.image.pages ≡ pages → CanMake set_up request

pub record IsAsked (pages : Pages) (thread : ℕ) (request : Request) (wanted : Wanted) : Type 0 where
  pub can : CanAsk pages request
  pub processor : request.processor ≡ thread
  pub fits : Fits wanted

-- what it wants, it can ask for
abbrev pub AllCanAsk : Pages → (thread : ℕ) → Next → Type 0
AllCanAsk pages thread (Moves place) = Unit {0}
AllCanAsk pages thread (Wants request wanted) = IsAsked pages thread request wanted

pub record IsWanted (setting : Setting) (moment : Moment) (a : AlphaAccess) (old new : Cpu) (next : model.Next) : Type 0 where
  pub same : new ≡ old
  pub defined : is_defined setting a ≡ true
  pub access : IsAccess a
  pub is : next ≡ model.Wants (request_for moment a) (λ before success. model.place_of setting moment (finished_by (fetch_of setting.code.words old.pc) (loaded a before) success (state_of old)))

-- that is the step of a word, where the instruction there did this
abbrev pub IsNextBy : AlphaStep → Setting → Moment → (old new : Cpu) → model.Next → Type 0
IsNextBy Local setting moment old new next = next ≡ model.Moves (model.place_of setting moment (state_of new))
IsNextBy (Want a) setting moment old new next = IsWanted setting moment a old new next
IsNextBy (Pal number) setting moment old new next =
    (new ≡ old) × (next ≡ called setting moment (call_of number) (point_at setting.code.points old.pc) (state_of old))
