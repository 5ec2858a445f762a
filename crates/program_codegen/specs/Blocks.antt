-- The block of a program.
use Rattle.std.specs.Prelude.{Bool, List, unwrap_or}
use Rattle.vax_form.specs.declared.instr.Instr.{Instr}
use Rattle.alpha_encode.specs.declared.instr.AlphaInstr.{AlphaInstr}
use Rattle.exception_records.specs.Blocks.{BlockValue}
use Rattle.exception_records.specs.declared.rules.Rules.{Rules}
use Rattle.micro_ops.specs.declared.codes.CodeSources.{CodeSources}
use Rattle.micro_ops.specs.declared.program.Micro.{Micro}
use Rattle.program_codegen.specs.declared.lines.Line.{Line}
use Rattle.program_codegen.specs.declared.points.Site.{Site}
use Rattle.program_codegen.specs.Words.{block_of, point_of, program_lines, site_of, with_first}
use Rattle.program_codegen.specs.Homes.{no_homes}
use Rattle.program_codegen.specs.Direct.{direct_lines}

-- operands are used where they stand, if they can be
abbrev pub chosen_lines : Site → (codes : List AlphaInstr) → List Micro → List Line
chosen_lines site codes program = unwrap_or (direct_lines site codes no_homes program) (program_lines site codes program)

abbrev pub block_lines : Site → (codes : List AlphaInstr) → List Micro → List Line
block_lines site codes program = with_first (point_of site) (chosen_lines site codes program)

-- the block of an instruction's program
abbrev pub program_block : Instr → CodeSources → List Micro → (codes : List AlphaInstr) → (before behind : Rules) → (byte_word : Bool) → BlockValue
program_block instr sources program codes before behind byte_word =
    block_of (block_lines (site_of instr sources before behind byte_word) codes program)
