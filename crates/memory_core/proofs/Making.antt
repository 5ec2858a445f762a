-- A memory without entries.
use Rattle.std.proofs.Common.{◌≡◌, ℕ, suc, ◌<◌, ◌≤◌, ◌+◌, ◌^◌, List, [], length, drop, min, slice_index_or, reverse, vec_capacity, refl, sym, ap, ◌∙◌, subst, arith}
use Rattle.std.proofs.Math.Nat.{zero-min}
use Rattle.memory_core.specs.declared.entry.Entry.{Entry}
use Rattle.memory_core.specs.declared.entry.Limit.{Limit}
use Rattle.memory_core.specs.declared.entry.Limit.TheVariants.{Entries, Puts}
use Rattle.memory_core.specs.declared.held.Held.TheInside.{Inside}
use Rattle.memory_core.specs.Contents.{output_of}
use Rattle.memory_core.specs.Fields.{IsKept, AreCurrent, kept_of, most_kept}
use Rattle.memory_core.specs.Limits.{greatest, IsWithin}
use Rattle.memory_core.specs.Order.{gets, Meets}
use Rattle.memory_core.specs.Places.{quads_of}
use Rattle.memory_core.specs.Reservations.{none}
use Rattle.memory_core.specs.Sound.{set_up_of, IsSound}
use Rattle.memory_core.proofs.Limits.{none_within}
use Rattle.memory_core.proofs.Placing.{all_opening}

pub record IsFresh (m : Inside) : Type 0 where
  pub index : m.index ≡ m.image.value.pages.ranges
  pub quads : m.quads.items ≡ quads_of m.image.value m.image.value.pages.ranges
  pub kept : (p : ℕ) → p < length m.reservations.items → slice_index_or m.reservations.items p none ≡ none
  pub word : greatest m.limit < 2 ^ 64
  pub behind : m.behind.bytes ≡ []
  pub taken : m.taken ≡ 0
  pub sent : m.sent ≡ 0
  pub output : m.output.items ≡ []
  pub output_room : greatest m.limit ≤ vec_capacity m.output
  pub entries : m.kept.items ≡ []
  pub entries_room : most_kept m.limit ≤ vec_capacity m.kept
  pub history : m.history.entries ≡ []

none_kept_of : (limit : Limit) → [] ≡ kept_of limit []
none_kept_of (Entries n) = refl
none_kept_of (Puts n) = refl

module _ (m : Inside) (f : IsFresh m) where
  past : reverse m.history.entries ≡ []
  past = ap reverse f.history

  current : AreCurrent (set_up_of m) [] (quads_of m.image.value m.image.value.pages.ranges)
  current address place h =
      let o = all_opening m.image.value address m.image.value.pages.ranges place h in
      record { within = o.within; is = o.is }

  none_kept : (p : ℕ) → IsKept m.miss [] p none
  none_kept p = record { block = λ b. refl; tries = refl }

  none_taken : length m.behind.bytes + m.taken ≡ 0
  none_taken = omega (arith, ap length f.behind, f.taken)

  pub fresh_sound : IsSound m
  fresh_sound = record {
    order = subst (Meets (set_up_of m)) (sym past) tt;
    within = subst (IsWithin m.limit) (sym f.history) (none_within m.limit);
    index = f.index;
    quads = subst (λ (h : List Entry). AreCurrent (set_up_of m) h m.quads.items) (sym past) (subst (AreCurrent (set_up_of m) []) (sym f.quads) current);
    kept = λ p l. subst (λ (h : List Entry). IsKept m.miss h p (slice_index_or m.reservations.items p none)) (sym past) (subst (IsKept m.miss [] p) (sym (f.kept p l)) (none_kept p));
    word = f.word;
    taken =
        none_taken
        ∙ sym (zero-min (suc (length (set_up_of m).input)))
        ∙ ap (λ (h : List Entry). min (gets h) (suc (length (set_up_of m).input))) (sym past);
    sent = omega (arith, f.sent);
    output = f.output ∙ ap output_of (sym f.history) ∙ ap (λ (n : ℕ). drop n (output_of m.history.entries)) (sym f.sent);
    output_room = omega (arith, f.sent, f.output_room);
    entries = f.entries ∙ none_kept_of m.limit ∙ ap (kept_of m.limit) (sym f.history);
    entries_room = f.entries_room;
  }
