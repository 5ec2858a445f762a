use Rattle.std.proofs.Common.{Vec, ◌≡◌, ◌⊎◌, inl, inr, ℕ, ◌<◌, ◌≤◌, ◌+◌, ◌*◌, ◌^◌, true, false, length, sym, ap, ◌∙◌, subst, arith}
use Rattle.std.specs.declared.alloc.Global.{Global}
use Rattle.translated_file.specs.Limits.{MOST_HINTS}
use Rattle.vax_form.specs.Targets.{has}
use Rattle.stored_runs.specs.Found.{AreFirst, is_found}
use Rattle.stored_runs.specs.Marks.{mark_of}
use Rattle.stored_runs.proofs.First.{first_passed, first_pushed, pushed_below, reach_ends, reach_here, reach_split, reach_still, reaches}
use Rattle.stored_runs.proofs.found_addresses.push_found.Goals as goal
use Rattle.stored_runs.proofs.found_addresses.push_found.Goals.{then-len+then-is_found+in_ok-push, else-len, else-len-via-then-len+else-is_found, else-len-via-else-len}

pub loop-address-preserved : goal.loop-address-preserved
loop-address-preserved c =
    let l = c.loop-address in
    let keep = is_found c.args.pages.now c.args.map.now (mark_of c.args.marks.now) in
    let start = 512 * c.args.range.now.first in
    let from : start ≤ l.address = omega (arith, l.auto.address) in
    elim c.if-len.branch [
      | then-len+then-is_found+in_ok-push w ↦
          let kept : keep l.address ≡ true = sym w.is_found.ensures ∙ w.if-is_found.true in
          let few : length l.addresses.items < MOST_HINTS = omega (arith, l.addresses.ok.0, c.len.ensures, w.if-len.true) in
          let long : l.address < 2 ^ 32 = omega (arith, c.loop-address-test.true, c.requires.low) in
          let items = ap (λ (v : Vec ℕ Global). v.items) w.addresses-is ∙ w.in_ok-push.ensures.items in
          record {
            below = λ n is. pushed_below l.addresses.items l.address l.invariant.below n (subst (λ i. has i n ≡ true) items is);
            first = λ within first.
                subst (AreFirst keep (reaches within start (l.address + 1))) (sym items)
                (first_pushed keep (reaches within start l.address) (reaches within start (l.address + 1)) l.addresses.items l.address (l.invariant.first within first)
                (reach_split within start l.address) (reach_still within start l.address) l.invariant.below (reach_here within start l.address from) kept few long);
          }
      | else-len w ↦
          let items = ap (λ (v : Vec ℕ Global). v.items) w.addresses-is in
          let passed : (keep l.address ≡ false) ⊎ (MOST_HINTS ≤ length l.addresses.items) =
          elim w.else-len.branch [
            | else-len-via-then-len+else-is_found w' ↦ inl (sym w'.is_found.ensures ∙ w'.if-is_found.false)
            | else-len-via-else-len w' ↦ inr (omega (arith, l.addresses.ok.0, c.len.ensures, w'.if-len.false))
          ] in
          record {
            below = λ n is. let up = l.invariant.below n (subst (λ i. has i n ≡ true) items is) in omega (arith, up);
            first = λ within first.
                subst (AreFirst keep (reaches within start (l.address + 1))) (sym items)
                (first_passed keep (reaches within start l.address) (reaches within start (l.address + 1)) l.addresses.items l.address (l.invariant.first within first)
                (reach_split within start l.address) (reach_still within start l.address) l.invariant.below passed);
          }
    ]

pub returns : goal.returns
returns c = λ within first.
    let l = c.loop-address in
    let keep = is_found c.args.pages.now c.args.map.now (mark_of c.args.marks.now) in
    let end : l.address ≡ 512 * c.args.range.now.first + 512 * c.args.range.now.count = omega (arith, c.loop-address-test.false, l.auto.address-end) in
    reach_ends keep within l.addresses.items c.args.range.now l.address end (l.invariant.first within first)
