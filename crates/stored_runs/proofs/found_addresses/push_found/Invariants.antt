use Rattle.std.proofs.Common.{◌≡◌, ℕ, ◌<◌, ◌*◌, Bool, true}
use Rattle.vax_form.specs.Targets.{has}
use Rattle.stored_runs.specs.Found.{AreFirst, is_found}
use Rattle.stored_runs.specs.Marks.{mark_of}
use Rattle.stored_runs.proofs.First.{reaches}
use Rattle.stored_runs.proofs.found_addresses.push_found.Given as goal

abbrev pub invariant-loop-address : goal.invariant-loop-address
invariant-loop-address l = record {
  below : (n : ℕ) → has l.addresses.items n ≡ true → n < l.address;
  first : (within : ℕ → Bool) → AreFirst (is_found l.pages l.map (mark_of l.marks)) within l.initial.addresses.items
      → AreFirst (is_found l.pages l.map (mark_of l.marks)) (reaches within (512 * l.range.first) l.address) l.addresses.items;
}
