-- The blocks of a list of instructions.
use Rattle.std.specs.Prelude.{◌≡◌, ℕ, ◌<◌, ◌≤◌, ◌↔◌, Bool, true, false, All, IsTrue, List, [], Some, length, map, slice_get, unwrap_or, if◌then◌else◌}
use Rattle.std.specs.List.{AllAdjacentBelow, range_with_len}
use Rattle.vax_form.specs.Grammar.{instruction}
use Rattle.vax_form.specs.GrammarFound.{found}
use Rattle.vax_form.specs.GrammarLaws.{AreBytes}
use Rattle.vax_form.specs.PageTable.{IsPageTable}
use Rattle.vax_form.specs.declared.instr.Instr.{Instr}
use Rattle.vax_form.specs.declared.operation.Operation.{Operation}
use Rattle.vax_form.specs.declared.pages.Pages.{Pages}
use Rattle.vax_form.specs.declared.state.Flags.{Flags}
use Rattle.exception_records.specs.Blocks.{BlockValue}
use Rattle.exception_records.specs.declared.rules.Rules.{Rules}
use Rattle.block_law.specs.Blocks.{IsBlockOf, RulesAt, RulesMeet}
use Rattle.block_law.specs.Tidy.{codes_written}
use Rattle.block_law.specs.Translations.{Code}
use Rattle.address_map.specs.Pairs.{word_at}
use Rattle.micro_ops.specs.Sources.{sources_of}
use Rattle.image_meaning.specs.Meant.{image_meaning}
use Rattle.image_meaning.specs.Permits.{permit_of}
use Rattle.image_meaning.specs.declared.target.Target.{Target}
use Rattle.image_meaning.specs.declared.target.Target.TheVariants.{Original, ByteWord}
use Rattle.branch_layout.specs.Layouts.{AddressesRise, AreBlocks, FollowsAnywhere, IsLayout, Placed, layout}
use Rattle.vax_form.specs.Targets.{has}
use Rattle.code_runs.specs.Promises.{CanHaveBlocks}
use Rattle.code_runs.specs.Ready.{AreReady}
use Rattle.code_runs.specs.Rules.{rules_behind}
use Rattle.flag_codegen.specs.Made.{codes_made}
use Rattle.flag_codegen.specs.Words.{code_words}
use Rattle.cc_liveness.specs.Uses.{use_of}
use Rattle.code_runs.specs.Codes.{AreCodes, code_sources, codes_at, instruction_codes}
use Rattle.code_runs.specs.Runs.{AreInOrder, instr_at}
use Rattle.code_runs.specs.declared.codes.InstrCodes.{InstrCodes}
use Rattle.exception_records.specs.Codes.{all_ready}
use Rattle.program_codegen.specs.Calls.{call_block}
use Rattle.program_codegen.specs.Strings.{string_block}
use Rattle.program_codegen.specs.Programs.{KeepsTogether, is_narrow}
use Rattle.micro_lower.specs.Lowering.{GoesTo}
use Rattle.program_codegen.specs.Promises.{BeginsBy, HasRules}
use Rattle.program_codegen.specs.Blocks.{program_block}
use Rattle.program_codegen.specs.Words.{points_alone}
use Rattle.flow_discovery.specs.Mapped.{Mapped, has_call_block, has_string_block}
use Rattle.micro_lower.specs.Rows.{program_for}

-- each stands in the pages at its address
abbrev pub AreFound : Pages → List Instr → Type 0
AreFound pages instrs = All (λ instr. found pages instr.at ≡ instruction instr) instrs

abbrev pub addresses : List Instr → List ℕ
addresses instrs = map (λ (instr : Instr). instr.at) instrs

-- pages of an image
pub record ArePages (pages : Pages) : Type 0 where
  pub table : IsPageTable pages
  pub bytes : AreBytes pages.code

-- whether they have the byte-word extension
abbrev pub has_byte_word : Target → Bool
has_byte_word Original = false
has_byte_word ByteWord = true

-- Wherever the block stands in the code of an image that has the instruction, it follows what that means, by accesses that
-- code for the processors may make: from registers in form that show the state by the rules before it, where its exits lead to
-- their addresses by those behind it.
abbrev pub Compiles : Target → Pages → Instr → (before behind : Rules) → BlockValue → Type 0
Compiles target pages instr before behind block =
    ArePages pages → found pages instr.at ≡ instruction instr → FollowsAnywhere (image_meaning pages) (permit_of target pages) instr.at block before behind

-- the block of an instruction's program, with these codes along its run
abbrev pub short_block : Target → Instr → InstrCodes → BlockValue
short_block target instr codes =
    program_block instr (code_sources instr) (unwrap_or (program_for instr) []) (code_words (code_sources instr) codes.live) codes.before codes.behind (has_byte_word target)

-- the block of an instruction that has these codes along its run, with its address
unfoldable pub block_of : Target → Pages → Instr → InstrCodes → Placed
block_of target pages instr codes = (
  instr.at,
  if has_call_block instr pages then call_block instr pages codes.before (has_byte_word target)
      else if has_string_block instr then string_block instr codes.before (has_byte_word target)
      else short_block target instr codes,
)

-- an instruction with its block, which has these codes along its run
pub record IsCompiled (target : Target) (pages : Pages) (instr : Instr) (codes : InstrCodes) (block : Placed) : Type 0 where
  pub value : block ≡ block_of target pages instr codes
  pub address : block.0 ≡ instr.at
  pub shape : IsBlockOf (has_string_block instr) instr.at block.1
  pub exits : All (λ exit. GoesTo instr exit.1) block.1.exits
  pub first : BeginsBy codes.before block.1
  pub rules : All (HasRules codes.before codes.behind) block.1.points
  -- it writes the register of a code just where the instruction writes the code, and that is live or has no rule
  pub written : codes_written block.1.words ≡ codes_made (code_sources instr) codes.live
  pub means : Compiles target pages instr codes.before codes.behind block.1

-- so many instructions are compiled, each with its codes
pub record AreCompiledTo (target : Target) (pages : Pages) (instrs : List Instr) (count : ℕ) (blocks : List Placed) : Type 0 where
  pub many : length blocks ≡ count
  pub each : (place : ℕ) (block : Placed) → slice_get blocks place ≡ Some block → IsCompiled target pages (instr_at instrs place) (codes_at instrs place) block

abbrev pub AreCompiled : Target → Pages → List Instr → List Placed → Type 0
AreCompiled target pages instrs blocks = AreCompiledTo target pages instrs (length instrs) blocks

-- along its run the instruction has codes of which a block can be made: those that it reads are ready before it, all are
-- where it ends, and V is not that of a sum or difference of quadwords
pub record AreReadyFor (instr : Instr) (codes : InstrCodes) : Type 0 where
  pub reads : AreReady (use_of instr).reads codes.before
  pub behind : codes.behind ≡ rules_behind (code_sources instr) codes.live codes.before
  pub ends : (use_of instr).ends ≡ true → codes.behind ≡ all_ready
  pub narrow : is_narrow codes.behind.v ≡ true

-- what a block asks for: of every operation's sources, of the rules behind it, and along every run
pub record AreAlwaysReady : Type 0 where
  pub together : (operation : Operation) → KeepsTogether (sources_of operation)
  pub narrow : (operation : Operation) (live : Flags) (before : Rules) → is_narrow before.v ≡ true → is_narrow (rules_behind (sources_of operation) live before).v ≡ true
  pub ready : (instrs : List Instr) → AreInOrder instrs → CanHaveBlocks instrs → (place : ℕ) → place < length instrs → AreReadyFor (instr_at instrs place) (codes_at instrs place)

-- ---- a translation
-- addresses rise
abbrev pub InOrder : List Instr → Type 0
InOrder instrs = AllAdjacentBelow (λ i j. i.at < j.at) instrs (length instrs)

-- blocks that can be laid out
pub record CanBeLaid (blocks : List Placed) : Type 0 where
  pub few : length blocks ≤ 32768
  pub rising : AddressesRise blocks
  pub are_blocks : AreBlocks blocks

-- the code is that of the blocks one behind the other
pub record IsLaidOut (blocks : List Placed) (code : Code) : Type 0 where
  pub laid : IsLayout blocks code
  pub value : code ≡ layout blocks

-- the block of each instruction
abbrev pub blocks_of : Target → Pages → List Instr → List Placed
blocks_of target pages instrs = map (λ place. block_of target pages (instr_at instrs place) (codes_at instrs place)) (range_with_len 0 (length instrs))

-- The rules at the first word of each instruction's block are those before it in its run. Those behind it are the rules at
-- each address to which its block leads.
pub record HasItsRules (target : Target) (pages : Pages) (instrs : List Instr) (code : Code) : Type 0 where
  pub first : (place : ℕ) → place < length instrs → RulesAt code (word_at code.map (instr_at instrs place).at) (codes_at instrs place).before
  pub onward : (place : ℕ) (block : Placed) → slice_get (blocks_of target pages instrs) place ≡ Some block → RulesMeet code block.1.exits (codes_at instrs place).behind

-- the code is that of the blocks of the instructions
pub record AreLaidOut (target : Target) (pages : Pages) (instrs : List Instr) (code : Code) : Type 0 where
  pub order : AreInOrder instrs
  -- along each run its codes
  pub codes : AreCodes instrs (instruction_codes instrs)
  pub compiled : AreCompiled target pages instrs (blocks_of target pages instrs)
  pub rules : HasItsRules target pages instrs code
  pub laid : code ≡ layout (blocks_of target pages instrs)

-- the mapped instructions of an image in their order, and their blocks one behind the other
pub record IsTranslation (target : Target) (pages : Pages) (starts : List ℕ) (code : Code) : Type 0 where
  pub instrs : List Instr
  pub found : AreFound pages instrs
  pub mapped : (address : ℕ) → IsTrue (has (addresses instrs) address) ↔ Mapped pages starts address
  pub made : AreLaidOut target pages instrs code

-- the translation of an image is a function of the target, its pages and the starts
abbrev pub IsFunction : Type 0
IsFunction = (target : Target) (pages : Pages) (starts : List ℕ) (a b : Code) → IsTranslation target pages starts a → IsTranslation target pages starts b → a ≡ b

-- which instructions are mapped, and so what codes they have along their runs, does not depend on the target
abbrev pub AreMappedAlike : Type 0
AreMappedAlike = (target other : Target) (pages : Pages) (starts : List ℕ) (a b : Code) (is : IsTranslation target pages starts a) (is' : IsTranslation other pages starts b) → is.instrs ≡ is'.instrs

-- nor do their points, but for the words at which these stand
abbrev pub HaveLikePoints : Type 0
HaveLikePoints = (target other : Target) (pages : Pages) (starts : List ℕ) (a b : Code) → IsTranslation target pages starts a → IsTranslation other pages starts b → points_alone a.points ≡ points_alone b.points
