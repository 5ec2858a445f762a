-- The checks of a frame's pushes follow their tree.
use Rattle.std.proofs.Common.{◌≡◌, ℕ, zero, suc, ◌+◌, ◌%◌, ◌^◌, ◌<◌, ◌≤◌, refl, sym, ap, ◌∙◌, arith, List, ◌∷◌, ◌++◌, length, length-append, Some, None, true, false}
use Rattle.std.specs.Prelude.{◌==◌}
use Rattle.std.proofs.lemmas.Bool.Decides.{nat_tests}
use Rattle.vax_form.specs.Tree.{Tree}
use Rattle.alpha_encode.specs.declared.instr.AlphaInstr.TheVariants.{Memory, Pal}
use Rattle.alpha_encode.specs.declared.instr.MemoryOp.TheVariants.{Lda}
use Rattle.alpha_meaning.specs.State.{Regs, put, at_place}
use Rattle.alpha_meaning.proofs.Registers.{put_same, put_other}
use Rattle.micro_ops.specs.declared.known.Checked.TheVariants.{Nowhere}
use Rattle.micro_ops.specs.declared.known.Known.{Known}
use Rattle.micro_ops.specs.Known.{held, behind_access}
use Rattle.micro_ops.specs.Meaning.{Standing}
use Rattle.block_law.specs.Placements.{Placement}
use Rattle.block_law.specs.Tidy.{is_kept}
use Rattle.block_law.proofs.Rules.{Always, roomy, goes, probes}
use Rattle.program_codegen.specs.declared.lines.Line.{Line}
use Rattle.program_codegen.specs.declared.points.Site.{Site}
use Rattle.program_codegen.specs.Words.{marked, probing}
use Rattle.program_codegen.specs.Calls.{checks_from, displacement}
use Rattle.program_codegen.proofs.Walk.{Within, next, stands, is_inside}
use Rattle.program_codegen.proofs.Holding.{Holds}
use Rattle.program_codegen.proofs.Computing.{held_still, unchanged}
use Rattle.program_codegen.proofs.Frame.{place_of, at_number, in_place, MayPush, checked_from}

-- only the temporaries 0 to 3 are known, and no check is counted on
abbrev pub settled : Known → Known
settled known = behind_access (record known { checked = Nowhere })

kept_not_27 : (n : ℕ) → is_kept n ≡ true → (n == 27) ≡ false
kept_not_27 n e = grind (arith, nat_tests, e)

temp_not_27 : (temp : ℕ) → temp < 6 → ((21 + temp) == 27) ≡ false
temp_not_27 temp lt = grind (arith, nat_tests)

module _ (p : Placement) (site : Site) where
  -- R27 may change
  pub still_settled : (known : Known) (standing : Standing) (regs : Regs) (value : ℕ) → Holds p site (settled known) standing regs → Holds p site (settled known) standing (put regs 27 value)
  still_settled known standing regs value h =
      unchanged p site (settled known) (settled known) standing standing.temps regs (put regs 27 value)
      (record { changed = refl; committed = refl; codes = refl; psw = refl; ended = refl })
      (λ n kept. put_other regs 27 value n (kept_not_27 n kept)) (put_other regs 27 value 31 refl)
      (λ temp lt. held_still (held (settled known) temp) (standing.temps temp) (regs (21 + temp)) (put regs 27 value (21 + temp)) (λ some. put_other regs 27 value (21 + temp) (temp_not_27 temp lt)) (h.temps temp lt))
      tt h

  pub checks_frame : (count number need pc frame : ℕ) (rest : List Line) (known : Known) (standing : Standing) (regs : Regs) (t : Tree)
      → Within p site.behind pc (checks_from site number count ++ rest) → 1 ≤ length rest
      → 1 ≤ number → number + count ≤ 18 → frame < 2 ^ 32 → regs 24 ≡ frame → Holds p site (settled known) standing regs
      → ((g : Regs) (pc' : ℕ) → Within p site.behind pc' rest → MayPush p.pages frame number count → g 24 ≡ frame → Holds p site (settled known) standing g → Always p None need (at_place g pc') t)
      → Always p None (length (checks_from site number count) + need) (at_place regs pc) (checked_from frame number count t)
  checks_frame zero number need pc frame rest known standing regs t w some from few small top h behind =
      roomy p None need (0 + need) (at_place regs pc) t (omega arith) (behind regs pc w tt top h)
  checks_frame (suc count) number need pc frame rest known standing regs t w some from few small top h behind =
      let lda = Memory Lda 27 24 (displacement number) in
      let tail = checks_from site (number + 1) count ++ rest in
      let point = probing site 4 true in
      let value = at_number (regs 24) number in
      let w1 = next p site.behind pc lda None (marked (Pal 0x80) point ∷ tail) w in
      let w2 = next p site.behind (pc + 1) (Pal 0x80) (Some point) tail w1 in
      let end = w.high in
      let more = length-append (checks_from site (number + 1) count) rest in
      let address : place_of frame number ≡ put regs 27 (at_number (regs 24) number) 27 % 2 ^ 32 =
      sym (ap (λ n. n % 2 ^ 32) (put_same regs 27 (at_number (regs 24) number) refl) ∙ (ap (λ f. at_number f number % 2 ^ 32) top ∙ in_place frame number small from (omega arith))) in
      roomy p None (length (checks_from site (number + 1) count) + need + 1 + 1) (length (checks_from site number (suc count)) + need) (at_place regs pc) _ (omega arith)
      (goes p None (length (checks_from site (number + 1) count) + need + 1) (at_place regs pc) (at_place (put regs 27 (at_number (regs 24) number)) (pc + 1)) lda _
      (stands p site.behind pc lda None (marked (Pal 0x80) point ∷ tail) w) refl (omega arith) (is_inside p site.behind pc (pc + 1) _ w (omega arith) (omega arith))
      (probes p None None (length (checks_from site (number + 1) count) + need) (place_of frame number) 4 true (at_place (put regs 27 (at_number (regs 24) number)) (pc + 1)) (checked_from frame (number + 1) count t) point
      (stands p site.behind (pc + 1) (Pal 0x80) (Some point) tail w1) w1.has.0.1 (is_inside p site.behind pc (pc + 1 + 1) _ w (omega arith) (omega arith)) address refl refl (λ spare round fits. fits)
      (λ ok. checks_frame count (number + 1) need (pc + 1 + 1) frame rest known standing (put regs 27 (at_number (regs 24) number)) t w2 some (omega arith) (omega arith) small
      (put_other regs 27 (at_number (regs 24) number) 24 refl ∙ top) (still_settled known standing regs (at_number (regs 24) number) h)
      (λ g pc' w' may top' h'. behind g pc' w' (ok, may) top' h'))))
