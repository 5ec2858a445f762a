-- What the quadwords at their places tell of the history.
use Rattle.std.proofs.Common.{◌≡◌, ℕ, ◌<◌, ◌-◌, ◌%◌, Bool, true, false, if◌then◌else◌, List, length, Option, Some, None, is_some, IsSome, slice_index_or, reverse, refl, sym, ap, ◌∙◌}
use Rattle.vax_form.specs.declared.pages.PageRange.{PageRange}
use Rattle.vax_form.specs.Pages.{is_allowed}
use Rattle.memory_core.specs.declared.entry.Entry.{Entry}
use Rattle.memory_core.specs.declared.entry.Kind.{Kind}
use Rattle.memory_core.specs.declared.entry.Kind.TheVariants.{Put, Get}
use Rattle.memory_core.specs.declared.entry.Request.{Request}
use Rattle.memory_core.specs.declared.entry.SetUp.{SetUp}
use Rattle.memory_core.specs.Contents.{quad_left}
use Rattle.memory_core.specs.Fields.{AreCurrent}
use Rattle.memory_core.specs.Kinds.{is_memory, writes}
use Rattle.memory_core.specs.Order.{left_by}
use Rattle.memory_core.specs.Requests.{CanMake}
use Rattle.memory_core.specs.Places.{quad_place}
use Rattle.memory_core.proofs.Placing.{any_is_placed, any_written}

module _ (set_up : SetUp) (history : List Entry) (ranges : List PageRange) (quads : List ℕ) (same : ranges ≡ set_up.image.pages.ranges) (current : AreCurrent set_up (reverse history) quads) (address : ℕ) where
  placed : (o : Option ℕ) → quad_place ranges address ≡ o → is_allowed set_up.image.pages address false ≡ is_some o
  placed o h = any_is_placed set_up.image.pages.ranges address ∙ ap (λ (rs : List PageRange). is_some (quad_place rs address)) (sym same) ∙ ap is_some h

  pub none_left : quad_place ranges address ≡ None → None ≡ quad_left set_up history address
  none_left h = ap (λ (b : Bool). if b then Some (left_by set_up (reverse history) (address - address % 8)) else None) (sym (placed None h))

  module _ (place : ℕ) (h : quad_place ranges address ≡ Some place) where
    there : quad_place set_up.image.pages.ranges address ≡ Some place
    there = ap (λ (rs : List PageRange). quad_place rs address) (sym same) ∙ h

    pub within : place < length quads
    within = (current address place there).within

    pub some_left : Some (slice_index_or quads place 0) ≡ quad_left set_up history address
    some_left =
        ap (λ (v : ℕ). Some v) (current address place there).is
        ∙ ap (λ (b : Bool). if b then Some (left_by set_up (reverse history) (address - address % 8)) else None) (sym (placed (Some place) h))

-- ---- what a memory access asks for

pub memory_kind : (kind : Kind) → (kind ≡ Put → ⊥) → (kind ≡ Get → ⊥) → is_memory kind ≡ true
memory_kind Put p g = absurd (p refl)
memory_kind Get p g = absurd (g refl)
memory_kind _ p g = refl

left_when : (set_up : SetUp) (history : List Entry) (address : ℕ) → is_allowed set_up.image.pages address false ≡ true → IsSome (quad_left set_up history address)
left_when set_up history address h = rw h refl

pub readable : (set_up : SetUp) (request : Request) → CanMake set_up request → is_memory request.kind ≡ true → is_allowed set_up.image.pages request.quad false ≡ true
readable set_up request can memory = any_written set_up.image.pages.ranges request.quad (writes request.kind true) (can.page memory)

pub request_left : (set_up : SetUp) (history : List Entry) (request : Request) → CanMake set_up request → (request.kind ≡ Put → ⊥) → (request.kind ≡ Get → ⊥) → IsSome (quad_left set_up history request.quad)
request_left set_up history request can p g = left_when set_up history request.quad (readable set_up request can (memory_kind request.kind p g))
