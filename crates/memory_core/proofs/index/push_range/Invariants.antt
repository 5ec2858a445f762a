use Rattle.std.proofs.Common.{◌≡◌, ◌+◌, ◌-◌, ℕ, suc, cond, get_or, length}
use Rattle.vax_form.specs.PageTable.{has_page}
use Rattle.memory_core.proofs.index.push_range.Given as goal

abbrev pub invariant-loop-n : goal.invariant-loop-n
invariant-loop-n l = record {
  end : length l.words.items ≡ l.range.first + l.n;
  words : (page : ℕ) → get_or l.words.items page 0 ≡ cond (has_page page (record l.range { count = l.n })) (suc (l.before + (page - l.range.first))) (get_or l.initial.words.items page 0);
}
