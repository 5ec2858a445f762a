-- Tests, pushes, branches on a bit and jumps.
use Rattle.std.proofs.Common.{◌≡◌, ℕ, ◌%◌, ◌^◌, ◌<◌, ◌==◌, false, List, [], ◌∷◌, ◌++◌, length, refl, sym, ap, ◌∙◌, arith}
use Rattle.std.proofs.Math.Nat.{mod-eq_of_lt}
use Rattle.vax_form.specs.Size.{bytes_of}
use Rattle.vax_form.specs.Script.{◌>>◌, change}
use Rattle.vax_form.specs.State.{IsState}
use Rattle.vax_form.specs.Tree.{Tree, tree_of, ends_with}
use Rattle.vax_form.specs.declared.instr.Instr.{Instr}
use Rattle.vax_form.specs.declared.instr.Size.{Size}
use Rattle.vax_form.specs.declared.instr.Size.TheVariants.{Long}
use Rattle.vax_form.specs.declared.operation.Operation.TheVariants as operations
use Rattle.vax_form.specs.declared.pages.Pages.{Pages}
use Rattle.vax_form.specs.declared.state.VaxState.{VaxState}
use Rattle.vax_meaning.specs.Codes.{go_to}
use Rattle.vax_meaning.specs.Evaluation.{operand}
use Rattle.vax_meaning.specs.Instructions.{body}
use Rattle.vt_words.specs.Arithmetic.{coded_value}
use Rattle.micro_ops.specs.Sources.{sources_of, from}
use Rattle.micro_ops.specs.Values.{limit_of, value_from}
use Rattle.micro_ops.specs.declared.codes.CodeSource.TheVariants.{Result, Kept}
use Rattle.micro_ops.specs.declared.program.Exit.TheVariants.{Next}
use Rattle.micro_lower.proofs.Coding.{plain_end}
use Rattle.micro_lower.proofs.Endings.{found_at, with, DoesSo, closes_coded}
use Rattle.micro_lower.proofs.Planned.{AllDo, BodyDoes}
use Rattle.micro_ops.specs.Meaning.{Temps}
use Rattle.micro_ops.specs.declared.program.Micro.TheVariants.{Leave}
use Rattle.operand_programs.specs.Specifiers.{stepped}
use Rattle.micro_lower.specs.Plans.{codes_program, steps_of}
use Rattle.micro_lower.proofs.Ready.{effect}
use Rattle.std.specs.Prelude.{nat_le, ◌/◌}
use Rattle.vax_form.specs.Size.{size_of}
use Rattle.vax_form.specs.declared.instr.Width.{Width}
use Rattle.vax_meaning.specs.Codes.{with_codes}
use Rattle.micro_lower.proofs.Given.{value_coded, value_end, value_ends, result_ready}
use Rattle.std.specs.Prelude.{bit_and}
use Rattle.std.proofs.lemmas.Nat.{and_le_l}
use Rattle.vax_meaning.specs.Codes.{sign_of}
use Rattle.vax_meaning.specs.Moves.{push, push_value, compare, test_value, bit_test, with_comparison}
use Rattle.micro_ops.specs.Leaving.{comparison_of}
use Rattle.micro_ops.specs.declared.codes.CodeSource.TheVariants.{Compare, Zero}
use Rattle.micro_ops.proofs.Sizes.{low_below}
use Rattle.micro_lower.specs.Rows.{compare_plan, test_plan, bit_test_plan, push_long_plan, push_address_plan}
use Rattle.micro_lower.specs.Plans.{Plan}
use Rattle.micro_lower.proofs.Endings.{nowhere, pushed}
use Rattle.micro_lower.proofs.Planned.{only_read, only_address, read_twice}
use Rattle.operand_programs.specs.Results.{finish_program, push_program, steps_behind_push}
use Rattle.vax_form.specs.declared.instr.Operand.TheVariants as operands
use Rattle.micro_lower.proofs.Overflow.{as_quad}

-- ---- tests
-- a comparison sets the codes and goes on
abbrev pub comparison_end : Pages → Width → (first second pc : ℕ) → VaxState → Tree
comparison_end pages width first second pc state = tree_of pages (change (with_comparison width first second) >> go_to pc) state ends_with

pub compare_all : (width : Width) (instr : Instr) → AllDo (operations.Compare width) instr (compare_plan width)
unfolding body compare sources_of
compare_all width instr state pages thread temps values ok same left =
    let size = size_of width in
    let plan = compare_plan width in
    let a = temps 0 % limit_of size in
    let b = temps 1 % limit_of size in
    let coded = comparison_of size a b in
    read_twice values temps (BodyDoes (operations.Compare width) instr plan state pages thread temps) size (operand instr 0) 0 1 size (operand instr 1) 1 2 left (λ first second.
    nowhere (from (Compare size) (Compare size)) state pages thread instr.after ok _ (comparison_end pages width a b instr.after) _
    (closes_coded (Compare size) (Compare size) state pages thread instr.after coded Next instr.after (comparison_end pages width a b instr.after) (λ s e. plain_end pages coded.n coded.z coded.c instr.after s))
    [] refl (steps_of plan.slots instr) temps same
    (record { low = tt; goes = refl; ready = (refl, (first, second), rw (mod-eq_of_lt first, mod-eq_of_lt second) refl) }))

abbrev pub test_end : Pages → Size → (value pc : ℕ) → VaxState → Tree
test_end pages size value pc state = tree_of pages (change (with_codes (sign_of size value) (value == 0) false false) >> go_to pc) state ends_with

pub test_all : (width : Width) (instr : Instr) → AllDo (operations.Test width) instr (test_plan width)
unfolding body test_value sources_of value_from
test_all width instr state pages thread temps values ok same left =
    let size = size_of width in
    let plan = test_plan width in
    let v = temps 2 % limit_of size in
    let coded = coded_value (bytes_of size) v false false in
    only_read values temps (BodyDoes (operations.Test width) instr plan state pages thread temps) size (operand instr 0) 2 1 left (λ fits.
    let is : temps 2 ≡ v = sym (mod-eq_of_lt fits) in
    nowhere (from (Result size) Zero) state pages thread instr.after ok _ (test_end pages size v instr.after) _
    (closes_coded (Result size) Zero state pages thread instr.after coded Next instr.after (test_end pages size v instr.after) (λ s e. plain_end pages coded.n coded.z false instr.after s))
    plan.behind refl (steps_of plan.slots instr) temps same
    (record { low = tt; goes = refl; ready = (((fits, ap (λ n. nat_le (limit_of size / 2) n) (sym is), ap (λ n. n == 0) (sym is)), refl), refl) }))

pub bit_test_all : (width : Width) (instr : Instr) → AllDo (operations.BitTest width) instr (bit_test_plan width)
unfolding body bit_test sources_of value_from
bit_test_all width instr state pages thread temps values ok same left =
    let size = size_of width in
    let plan = bit_test_plan width in
    let found = found_at state instr.after in
    let a = temps 0 % limit_of size in
    let b = temps 1 % limit_of size in
    let v = bit_and a b in
    let fits : v < limit_of size = let le = and_le_l a b in omega (arith, le, low_below size (temps 0)) in
    read_twice values temps (BodyDoes (operations.BitTest width) instr plan state pages thread temps) size (operand instr 0) 0 1 size (operand instr 1) 1 2 left (λ first second.
    let made : effect plan.behind found temps 2 ≡ v = rw (as_quad size (temps 0) first, as_quad size (temps 1) second, mod-eq_of_lt first, mod-eq_of_lt second) refl in
    nowhere (from (Result size) Kept) state pages thread instr.after ok _ (value_end pages size v instr.after) _
    (closes_coded (Result size) Kept state pages thread instr.after (value_coded state size v) Next instr.after (value_end pages size v instr.after) (value_ends pages state size v instr.after))
    plan.behind refl (steps_of plan.slots instr) temps same
    (record { low = tt; goes = refl; ready = result_ready size state v (effect plan.behind found temps) fits made }))

-- ---- pushes
pub room : (state : VaxState) (steps : List ℕ) → IsState state → length steps ≡ length state.r → 14 < length steps
room state steps ok same = let r = ok.registers in omega (arith, same, r)

module _ (instr : Instr) (plan : Plan) (state : VaxState) (pages : Pages) (thread : ℕ) (ok : IsState state) (steps : List ℕ) (same : length steps ≡ length state.r)
    (value : ℕ) (temps : Temps) (fits : value < 2 ^ 32) (two : temps 2 ≡ value) where
  pushes_value : DoesSo (from (Result Long) Kept) state pages thread instr.after
      (push_program steps 3 2 ++ (finish_program (operands.Register 14) Long (steps_behind_push steps) 3 ++ (codes_program (from (Result Long) Kept) ++ Leave Next ∷ []))) (with state temps)
      (tree_of pages (push value) (stepped steps state) (λ done s. value_end pages Long value instr.after s))
  pushes_value =
      pushed (from (Result Long) Kept) state pages thread instr.after ok _ (value_end pages Long value instr.after) _
      (closes_coded (Result Long) Kept state pages thread instr.after (value_coded state Long value) Next instr.after (value_end pages Long value instr.after) (value_ends pages state Long value instr.after))
      steps value temps same (room state steps ok same) two
      (λ temps' kept. record { low = tt; goes = refl; ready = result_ready Long state value temps' fits (kept 2 refl refl refl ∙ two) })

pub push_long_all : (instr : Instr) → AllDo operations.PushLong instr push_long_plan
unfolding body push_value sources_of value_from
push_long_all instr state pages thread temps values ok same left =
    let v = temps 2 % 2 ^ 32 in
    only_read values temps (BodyDoes operations.PushLong instr push_long_plan state pages thread temps) Long (operand instr 0) 2 1 left (λ fits.
    pushes_value instr push_long_plan state pages thread ok (steps_of push_long_plan.slots instr) same v temps (low_below Long _) (sym (mod-eq_of_lt fits)))

pub push_address_all : (size : Size) (instr : Instr) → AllDo (operations.PushAddress size) instr (push_address_plan size)
unfolding body push_value sources_of value_from
push_address_all size instr state pages thread temps values ok same left =
    let v = temps 2 % 2 ^ 32 in
    let plan = push_address_plan size in
    only_address values temps (BodyDoes (operations.PushAddress size) instr plan state pages thread temps) size (operand instr 0) 2 1 left (λ fits.
    pushes_value instr plan state pages thread ok (steps_of plan.slots instr) same v temps (low_below Long _) (sym (mod-eq_of_lt fits)))
