use Rattle.std.proofs.Common.{◌≡◌, ℕ, length, sym, ap, ◌∙◌, subst, arith}
use Rattle.image_file.specs.Values.{ImageValue}
use Rattle.memory_core.specs.Contents.{Contents}
use Rattle.shared_memory.specs.Passes.{set_up_of}
use Rattle.run_threads.specs.Jobs.{HasSplit}
use Rattle.run_threads.proofs.running.Running.new.Goals as goal

pub invariant_of-result : goal.invariant_of-result
invariant_of-result c =
    let memory = c.in_ok-memory.memory in
    let split = c.split_all-jobs.ensures in
    let start = c.in_ok-memory.ensures.0 ∙ c.in_ok-state.ensures in
    let image : (set_up_of memory).image ≡ c.args.image.now = ap (λ (m : Contents). m.set_up.image) start in
    let input : (set_up_of memory).input ≡ c.args.input.items = ap (λ (m : Contents). m.set_up.input) start in
    let count : c.len-count.result ≡ length (set_up_of memory).image.threads =
    omega (arith, c.len-count.ensures, c.image.inside.threads.ok.0, ap (λ (i : ImageValue). length i.threads) (c.image.view_is ∙ sym image)) in
    record {
      run = c.images_are_runs.ensures (set_up_of memory) image (input ∙ sym c.deref.ensures.value);
      split = subst (λ (n : ℕ). HasSplit memory c.split_all-jobs.new.keeper c.args.budget c.split_all-jobs.result.items n) count split;
      some = omega (arith, split.many, c.requires.whole.room.some_thread, ap (λ (i : ImageValue). length i.threads) image, count);
      empty = c.in_ok-ended.ensures.items;
      room = omega (arith, split.many, c.in_ok-ended.ensures.capacity);
    }
