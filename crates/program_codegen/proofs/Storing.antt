-- A longword is stored by one word.
use Rattle.std.proofs.Common.{◌≡◌, ℕ, zero, suc, ◌+◌, ◌-◌, ◌*◌, ◌/◌, ◌%◌, ◌^◌, ◌≤◌, refl, sym, ap, ◌∙◌, subst, arith, List, ◌∷◌, length, None, Bool, true, false}
use Rattle.std.specs.Prelude.{ℤ}
use Rattle.std.specs.Int.{cast_unsigned, w64}
use Rattle.vt_words.specs.Quad.{with_field_of}
use Rattle.vax_form.specs.Pages.{is_allowed}
use Rattle.vax_form.specs.Tree.{Tree, Ask}
use Rattle.vax_form.specs.declared.state.Reference.{Reference}
use Rattle.vax_form.specs.declared.state.RefKind.TheVariants.{Write}
use Rattle.alpha_encode.specs.declared.instr.AlphaInstr.TheVariants.{Memory}
use Rattle.alpha_encode.specs.declared.instr.MemoryOp.TheVariants.{Stl}
use Rattle.alpha_meaning.specs.declared.access.AlphaAccess.{AlphaAccess}
use Rattle.alpha_meaning.specs.declared.access.AlphaKind.TheVariants.{Store}
use Rattle.alpha_meaning.specs.Act.{Asks}
use Rattle.alpha_meaning.specs.Result.{plus, times}
use Rattle.alpha_meaning.specs.State.{Regs, at_place}
use Rattle.alpha_meaning.specs.Pieces.{Plain}
use Rattle.block_law.specs.Laws.{MoreKinds}
use Rattle.block_law.specs.Placements.{Placement}
use Rattle.block_law.proofs.Blocks.{no_steps}
use Rattle.block_law.proofs.Rules.{Always, stepping}
use Rattle.program_codegen.specs.declared.lines.Line.{Line}
use Rattle.program_codegen.specs.declared.points.Site.{Site}
use Rattle.program_codegen.specs.Accesses.{needed}
use Rattle.program_codegen.specs.Words.{plain}
use Rattle.program_codegen.proofs.Walk.{Within, stands, is_inside}
use Rattle.program_codegen.proofs.Operands.{in_quad}

-- the write of a longword
abbrev pub longword_written : (address value : ℕ) → Reference
longword_written address value = record { address = address; count = 4; kind = Write value }

-- an aligned one is stored as a whole
stored_whole : (byte_word : Bool) (address value : ℕ) → address % 4 ≡ 0 → needed byte_word 4 (longword_written address value) Store 4 ≡ true
stored_whole false address value aligned = refl
stored_whole true address value aligned = rw aligned refl

module _ (p : Placement) (site : Site) (kinds : MoreKinds (needed site.byte_word 4) p.kinds) where
  pub stores_longword : (need pc ra address value : ℕ) (disp : ℤ) (rest : List Line) (regs : Regs) (on : ℕ → Tree)
      → Within p site.behind pc (plain (Memory Stl ra 24 disp) ∷ rest) → 1 ≤ length rest
      → plus (regs 24) (times (cast_unsigned w64 disp) 1) ≡ address → address % 4 ≡ 0 → is_allowed p.pages address true ≡ true → regs ra % 2 ^ 32 ≡ value
      → Always p None need (at_place regs (pc + 1)) (on 0)
      → Always p None (need + 1) (at_place regs pc) (Ask (longword_written address value) on)
  stores_longword need pc ra address value disp rest regs on w some is aligned allowed holds behind zero spare round fits =
      no_steps p Plain spare round (at_place regs pc) (Ask (longword_written address value) on)
  stores_longword need pc ra address value disp rest regs on w some is aligned allowed holds behind (suc n) spare round fits =
      let end = w.high in
      let access : AlphaAccess = record { kind = Store; address = plus (regs 24) (times (cast_unsigned w64 disp) 1); bytes = 4; value = regs ra % 2 ^ 32 } in
      stepping p None n spare round (at_place regs pc) (Ask (longword_written address value) on) (Memory Stl ra 24 disp) (Asks access)
      (stands p site.behind pc (Memory Stl ra 24 disp) None rest w) refl (omega arith) (
        ap (λ a. a % 4) is ∙ aligned,
        subst (λ a. is_allowed p.pages (a / 8 * 8) true ≡ true) (sym is) (in_quad p.pages true address allowed),
        kinds (longword_written address value) Store 4 (stored_whole site.byte_word address value aligned),
        (
          sym (ap (λ a. a / 8 * 8) is),
          λ before lt fit. (
            ap (λ a. with_field_of before (a % 8) 4 (regs ra % 2 ^ 32)) is ∙ ap (with_field_of before (address % 8) 4) holds,
            (is_inside p site.behind pc (pc + 1) _ w (omega arith) (omega arith), behind n (spare - 1 + p.bonus) _ (omega arith)),
          ),
        ),
      )
