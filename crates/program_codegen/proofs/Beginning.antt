-- The rules at the first word of a block are those before its instruction.
use Rattle.std.proofs.Common.{◌≡◌, refl, sym, ap, ◌∙◌, List, [], ◌∷◌, ◌++◌, map, Bool, true, false}
use Rattle.std.proofs.lemmas.Option.{same_Some}
use Rattle.std.specs.Prelude.{◌==◌, unwrap_or, if◌then◌else◌}
use Rattle.alpha_encode.specs.declared.instr.AlphaInstr.{AlphaInstr}
use Rattle.alpha_encode.specs.declared.instr.BranchOp.{BranchOp}
use Rattle.alpha_encode.specs.declared.instr.BranchOp.TheVariants.{Beq}
use Rattle.exception_records.specs.declared.points.Point.{Point}
use Rattle.exception_records.specs.declared.rules.CodeRule.{CodeRule}
use Rattle.exception_records.specs.declared.rules.CodeRule.TheVariants as code_rules
use Rattle.micro_ops.specs.LeftOut.{is_left_out}
use Rattle.micro_ops.specs.declared.program.Exit.{Exit}
use Rattle.micro_ops.specs.declared.program.Exit.TheVariants.{Next, Fixed, Computed, Choice, Service, Breakpoint}
use Rattle.micro_ops.specs.declared.program.Micro.{Micro}
use Rattle.micro_ops.specs.declared.program.Micro.TheVariants.{Compute, Probe, Refuse, Read, Write, Locked, Commit, Codes, SetPsw, Leave}
use Rattle.byte_sequences.specs.Words.{locked_code}
use Rattle.compute_sequences.specs.Words.{compute_code}
use Rattle.program_codegen.specs.declared.lines.Line.{Line}
use Rattle.program_codegen.specs.declared.points.Site.{Site}
use Rattle.program_codegen.specs.Words.{block_of, code_copied, departing, serving, holder, lines_of, may_trap, overflow_made, plain, point_of, program_lines, tested_lines, trap_lines, with_first, read_by, write_by, departing_by, overflow_by, trap_by}
use Rattle.program_codegen.specs.Promises.{BeginsBy}

module _ (site : Site) where
  -- the first of the lines, if any, has the rules before the instruction where it has a point
  abbrev pub Starts : List Line → Type 0
  Starts [] = Unit {0}
  Starts (line ∷ lines) = (unwrap_or line.point (point_of site)).rules ≡ site.before

  pub before : (xs ys : List Line) → Starts xs → Starts ys → Starts (xs ++ ys)
  before [] ys x y = y
  before (line ∷ lines) ys x y = x

  pub row : (words : List AlphaInstr) → Starts (map plain words)
  row [] = tt
  row (word ∷ words) = refl

  pub trap : (op : BranchOp) (exit : Exit) → Starts (trap_by op site exit)
  trap op exit = by (may_trap site)
    where
      tested : (rule : CodeRule) → Starts (tested_lines rule (overflow_made rule) (overflow_by op site exit))
      tested code_rules.Ready = refl
      tested rule = refl

      by : (b : Bool) → Starts (if b then tested_lines site.behind.v (overflow_made site.behind.v) (overflow_by op site exit) else [])
      by true = tested site.behind.v
      by false = tt

  pub depart : (op : BranchOp) (exit : Exit) → Starts (departing_by op site exit)
  depart op Next = refl
  depart op (Fixed address) = refl
  depart op (Computed temp) = refl
  depart op (Choice when taken other) = refl
  depart op (Service temp) = by (temp == 0)
    where
      by : (b : Bool) → Starts (code_copied b temp ++ serving site)
      by true = refl
      by false = refl
  depart op Breakpoint = refl

  operation_starts : (codes : List AlphaInstr) (operation : Micro) (program : List Micro) → Starts (lines_of site codes operation program)
  operation_starts codes (Compute to op size a b) program = by (is_left_out site.sources (Compute to op size a b) program)
    where
      by : (out : Bool) → Starts (if out then [] else map plain (compute_code op size a b (holder to)))
      by true = tt
      by false = row (compute_code op size a b (holder to))
  operation_starts codes (Probe place count write) program = refl
  operation_starts codes (Refuse when) program = refl
  operation_starts codes (Read to place count) program = row (read_by site.byte_word (holder place) count (holder to))
  operation_starts codes (Write place count source) program = row (write_by site.byte_word (holder place) count (holder source))
  operation_starts codes (Locked to place kind source) program = row (locked_code kind (holder place) (holder source) (holder to))
  operation_starts codes (Commit register source) program = refl
  operation_starts codes (Codes n z v c) program = tt
  operation_starts codes (SetPsw source) program = refl
  operation_starts codes (Leave exit) program =
      before (map plain codes) (trap_lines site exit ++ departing site exit) (row codes) (before (trap_lines site exit) (departing site exit) (trap Beq exit) (depart Beq exit))

  pub program_starts : (codes : List AlphaInstr) (program : List Micro) → Starts (program_lines site codes program)
  program_starts codes [] = tt
  program_starts codes (operation ∷ program) =
      before (lines_of site codes operation program) (program_lines site codes program) (operation_starts codes operation program) (program_starts codes program)

  pub lines_begin : (lines : List Line) → Starts lines → BeginsBy site.before (block_of (with_first (point_of site) lines))
  lines_begin [] starts point e = absurd (cc e)
  lines_begin (line ∷ lines) starts point e = ap (λ (p : Point). p.rules) (sym (same_Some (unwrap_or line.point (point_of site)) point e)) ∙ starts
