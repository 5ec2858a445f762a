-- BISPSW and BICPSW do what their instructions do.
use Rattle.std.proofs.Common.{◌≡◌, ℕ, ◌+◌, ◌-◌, ◌*◌, ◌%◌, ◌^◌, ◌<◌, Bool, true, false, List, [], ◌∷◌, ◌++◌, refl, sym, ap, ◌∙◌, subst, arith}
use Rattle.std.specs.Prelude.{nat_lt, bit_and, bit_or, if◌then◌else◌}
use Rattle.std.specs.Int.Bits.{and_block}
use Rattle.std.proofs.Math.Nat.{mod-eq_of_lt}
use Rattle.std.proofs.lemmas.Bool.Decides.{nat_tests}
use Rattle.std.proofs.lemmas.Nat.{and_le_l, or_lt}
use Rattle.vax_form.specs.Script.{◌>>◌, change}
use Rattle.vax_form.specs.State.{with_psw}
use Rattle.vax_form.specs.Tree.{Tree, tree_of, ends_with}
use Rattle.vax_form.specs.Tree as trees
use Rattle.vax_form.specs.declared.instr.Instr.{Instr}
use Rattle.vax_form.specs.declared.instr.Size.TheVariants.{Byte, Word}
use Rattle.vax_form.specs.declared.operation.Operation.TheVariants as operations
use Rattle.vax_form.specs.declared.pages.Pages.{Pages}
use Rattle.vax_form.specs.declared.state.Exception.TheVariants.{ReservedOperand}
use Rattle.vax_form.specs.declared.state.VaxState.{VaxState}
use Rattle.vax_meaning.specs.Codes.{go_to}
use Rattle.vax_meaning.specs.Evaluation.{operand}
use Rattle.vax_meaning.specs.Instructions.{body}
use Rattle.vax_meaning.specs.Moves.{change_psw}
use Rattle.vt_words.specs.Values.{bit}
use Rattle.micro_ops.specs.Meaning.{Temps}
use Rattle.micro_ops.specs.Sources.{sources_of, from}
use Rattle.micro_ops.specs.Values.{value_from}
use Rattle.micro_ops.specs.declared.codes.CodeSource.TheVariants.{Psw}
use Rattle.micro_ops.specs.declared.codes.CodeSources.{CodeSources}
use Rattle.micro_ops.specs.declared.program.Arg.TheVariants.{Temp, Const}
use Rattle.micro_ops.specs.declared.program.Exit.TheVariants.{Next}
use Rattle.micro_ops.specs.declared.program.Micro.{Micro}
use Rattle.micro_ops.specs.declared.program.Micro.TheVariants.{Compute, Refuse, SetPsw, Leave}
use Rattle.micro_ops.specs.declared.program.MicroOp.{MicroOp}
use Rattle.micro_ops.specs.declared.program.MicroOp.TheVariants as ops
use Rattle.operand_programs.specs.Results.{with_registers_of}
use Rattle.operand_programs.specs.Specifiers.{stepped, commit_program}
use Rattle.micro_lower.specs.Plans.{steps_of}
use Rattle.micro_lower.specs.Rows.{status_program, change_psw_plan}
use Rattle.micro_lower.proofs.Coding.{plain_leaves}
use Rattle.micro_lower.proofs.Endings.{found_at, with, DoesSo, Closes, nowhere}
use Rattle.micro_lower.proofs.Planned.{AllDo, BodyDoes, only_read}
use Rattle.micro_lower.proofs.Ready.{effect}
use Rattle.micro_lower.proofs.StatusRows.{status_is}

-- a program that refuses an operand, where the instruction does
pub refuses : (codes : CodeSources) (start : VaxState) (pages : Pages) (thread after when : ℕ) (bad : Bool) (rest : List Micro) (temps : Temps) (tree : Tree) → temps when ≡ bit bad
    → (bad ≡ false → DoesSo codes start pages thread after rest (with start temps) tree)
    → DoesSo codes start pages thread after (Refuse when ∷ rest) (with start temps) (if bad then trees.Fault ReservedOperand else tree)
refuses codes start pages thread after when true rest temps tree is goes = rw is refl
refuses codes start pages thread after when false rest temps tree is goes = rw is (goes refl)

-- ---- a new PSW
-- the PSW is changed, and the instruction goes on behind itself
abbrev pub psw_end : Pages → (changed : ℕ → ℕ) → (after : ℕ) → VaxState → Tree
psw_end pages changed after state = tree_of pages (change (λ (s : VaxState). with_psw (changed s.psw) s) >> go_to after) state ends_with

closes_psw : (start : VaxState) (pages : Pages) (thread after : ℕ) (changed : ℕ → ℕ) → changed start.psw < 256
    → Closes (from Psw Psw) start pages thread after (SetPsw 2 ∷ Leave Next ∷ []) (psw_end pages changed after) (λ temps. temps 2 ≡ changed start.psw)
closes_psw start pages thread after changed lt state temps temps' is kept two =
    let standing = with_registers_of state temps' (with start temps) in
    let there : temps' 2 ≡ changed start.psw = kept 2 refl ∙ two in
    subst (λ (s : VaxState). DoesSo (from Psw Psw) start pages thread after (SetPsw 2 ∷ Leave Next ∷ []) standing (psw_end pages changed after s)) is
    (subst (λ (n : ℕ). DoesSo (from Psw Psw) start pages thread after (Leave Next ∷ []) (record standing { state = with_psw n standing.state }) (psw_end pages changed after standing.state)) (sym (ap (λ n. n % 256) there ∙ mod-eq_of_lt lt))
    (plain_leaves (from Psw Psw) start pages thread (found_at start after) (record standing { state = with_psw (changed start.psw) standing.state }) Next after refl refl (record { signs = there; carry = there })))

above : (m : ℕ) → nat_lt 255 (m % 65536) ≡ false → m % 65536 < 256
above m not = grind (arith, nat_tests)

same_mask : (m : ℕ) → m < 65536 → m % 65536 < 256 → m % 256 ≡ m % 65536
same_mask m lt small = omega (arith, lt, small)

set_in : (psw m : ℕ) → psw < 256 → m < 65536 → m % 65536 < 256 → bit_or (psw % 256) (m % 256) ≡ bit_or psw (m % 65536)
set_in psw m low lt small = rw (same_mask m lt small) (ap (λ n. bit_or n (m % 65536)) (mod-eq_of_lt low))

cleared : (psw m : ℕ) → psw < 256 → m < 256 → bit_and psw (255 - m) ≡ bit_and psw (65535 - m)
cleared psw m low small =
    let split : 255 * 2 ^ 8 + (255 - m) ≡ 65535 - m = omega (arith, small) in
    let whole : 0 * 2 ^ 8 + psw ≡ psw = omega arith in
    let none : 0 * 2 ^ 8 + bit_and psw (255 - m) ≡ bit_and psw (255 - m) = omega arith in
    sym (ap (λ n. bit_and n (65535 - m)) (sym whole) ∙ ap (λ n. bit_and (0 * 2 ^ 8 + psw) n) (sym split) ∙ and_block 8 0 255 psw (255 - m) low (omega arith) ∙ none)

cleared_in : (psw m : ℕ) → psw < 256 → m < 65536 → m % 65536 < 256 → bit_and (psw % 256) (256 - 1 - m % 256) ≡ bit_and psw (65535 - m % 65536)
cleared_in psw m low lt small =
    rw (same_mask m lt small) (ap (λ n. bit_and n (255 - m % 65536)) (mod-eq_of_lt low) ∙ cleared psw (m % 65536) low small)

-- what the operations behind the test leave
abbrev tested : Instr → VaxState → Temps → Temps
tested instr state temps = effect (Compute 1 ops.LessUnsigned Word (Const 255) (Temp 0) ∷ []) (found_at state instr.after) temps

abbrev changes : MicroOp → List Micro
changes op = status_program ++ Compute 2 op Byte (Temp 2) (Temp 0) ∷ []

pub set_psw_all : (instr : Instr) → AllDo operations.BitSetPsw instr (change_psw_plan ops.Or)
unfolding body change_psw sources_of value_from
set_psw_all instr state pages thread temps values ok same left =
    let plan = change_psw_plan ops.Or in
    let m = temps 0 % 2 ^ 16 in
    let found = found_at state instr.after in
    let after = tested instr state temps in
    let changed = λ (psw : ℕ). bit_or psw m in
    only_read values temps (BodyDoes operations.BitSetPsw instr plan state pages thread temps) Word (operand instr 0) 0 1 left (λ fits.
    refuses (from Psw Psw) state pages thread instr.after 1 (nat_lt 255 m) (changes ops.Or ++ (commit_program 0 (steps_of plan.slots instr) ++ SetPsw 2 ∷ Leave Next ∷ [])) after (psw_end pages changed instr.after (stepped (steps_of plan.slots instr) state)) refl (λ fine.
    let small = above (temps 0) fine in
    let made : effect (changes ops.Or) found after 2 ≡ bit_or state.psw m = ap (λ n. bit_or (n % 256) (temps 0 % 256)) (status_is found after ok.psw) ∙ set_in state.psw (temps 0) ok.psw fits small in
    nowhere (from Psw Psw) state pages thread instr.after ok (SetPsw 2 ∷ Leave Next ∷ []) (psw_end pages changed instr.after) (λ temps. temps 2 ≡ changed state.psw)
    (closes_psw state pages thread instr.after changed (or_lt 8 state.psw m ok.psw small)) (changes ops.Or) refl (steps_of plan.slots instr) after same made))

pub clear_psw_all : (instr : Instr) → AllDo operations.BitClearPsw instr (change_psw_plan ops.AndNot)
unfolding body change_psw sources_of value_from
clear_psw_all instr state pages thread temps values ok same left =
    let plan = change_psw_plan ops.AndNot in
    let m = temps 0 % 2 ^ 16 in
    let found = found_at state instr.after in
    let after = tested instr state temps in
    let changed = λ (psw : ℕ). bit_and psw (65535 - m) in
    only_read values temps (BodyDoes operations.BitClearPsw instr plan state pages thread temps) Word (operand instr 0) 0 1 left (λ fits.
    refuses (from Psw Psw) state pages thread instr.after 1 (nat_lt 255 m) (changes ops.AndNot ++ (commit_program 0 (steps_of plan.slots instr) ++ SetPsw 2 ∷ Leave Next ∷ [])) after (psw_end pages changed instr.after (stepped (steps_of plan.slots instr) state)) refl (λ fine.
    let small = above (temps 0) fine in
    let le = and_le_l state.psw (65535 - m) in
    let low = ok.psw in
    let made : effect (changes ops.AndNot) found after 2 ≡ bit_and state.psw (65535 - m) = ap (λ n. bit_and (n % 256) (256 - 1 - temps 0 % 256)) (status_is found after ok.psw) ∙ cleared_in state.psw (temps 0) ok.psw fits small in
    nowhere (from Psw Psw) state pages thread instr.after ok (SetPsw 2 ∷ Leave Next ∷ []) (psw_end pages changed instr.after) (λ temps. temps 2 ≡ changed state.psw)
    (closes_psw state pages thread instr.after changed (omega (arith, le, low))) (changes ops.AndNot) refl (steps_of plan.slots instr) after same made))
