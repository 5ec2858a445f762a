-- The programs of operands that are located, modified, stored and pushed.
use Rattle.std.proofs.Common.{◌≡◌, ℕ, ◌+◌, ◌*◌, ◌%◌, ◌^◌, ◌<◌, eqb, false, List, ◌∷◌, ◌++◌, length, get_or, refl, sym, ap, ◌∙◌, subst, lit<, Some}
use Rattle.std.proofs.Math.Nat.{mod-eq_of_lt}
use Rattle.std.proofs.lemmas.List.{length-set, get_or-set_same}
use Rattle.vax_form.specs.Size.{bytes_of}
use Rattle.vax_form.specs.State.{register, with_register}
use Rattle.vax_form.specs.Tree.{Tree, tree_of}
use Rattle.vax_form.specs.declared.instr.Operand.{Operand}
use Rattle.vax_form.specs.declared.instr.Operand.TheVariants.{Unused, Value, Register, Place, Target}
use Rattle.vax_form.specs.declared.instr.Size.{Size}
use Rattle.vax_form.specs.declared.instr.Size.TheVariants.{Long}
use Rattle.vax_form.specs.declared.pages.Pages.{Pages}
use Rattle.vax_form.specs.declared.state.VaxState.{VaxState}
use Rattle.vax_meaning.specs.Moves.{push}
use Rattle.vax_meaning.specs.Operands.{modify_at, put, store}
use Rattle.vax_meaning.specs.declared.operands.Location.{Location}
use Rattle.vax_meaning.specs.declared.operands.Location.TheVariants.{InMemory}
use Rattle.micro_ops.specs.Meaning.{Left, Found, Standing, with_temp, with_value, course_of}
use Rattle.micro_ops.specs.declared.program.Micro.{Micro}
use Rattle.micro_ops.specs.declared.program.Micro.TheVariants.{Write}
use Rattle.micro_ops.specs.Leaving.{CodesComeFrom}
use Rattle.operand_programs.specs.Specifiers.{modify_program, store_program, stepped, with_step}
use Rattle.operand_programs.specs.Pieces.{Agrees, leaving}
use Rattle.operand_programs.specs.Results.{given, result_program, replacement_program, StoresResult, ReplacesOperand, steps_behind_push, push_program, Pushes}
use Rattle.operand_programs.proofs.Places.{eqb_same, sum_course}
use Rattle.operand_programs.proofs.Stepped.{register_stepped, with_register_stepped, twice}
use Rattle.operand_programs.proofs.Accesses.{reads_agree, writes_agree}
use Rattle.operand_programs.proofs.Reading.{some_bytes}

-- in memory
pub modify_agrees : (P : Left → Type 0) (end : Left → Tree) (pages : Pages) (program : List Micro) (found : Found) (standing : Standing) (to place address : ℕ)
    (size : Size) (state : VaxState) (rest : ℕ → VaxState → Tree)
    → standing.temps place ≡ address
    → ((value : ℕ) → value < 2 ^ (8 * bytes_of size) → Agrees P end (course_of program found (with_value to value standing)) (rest value state))
    → Agrees P end (course_of (modify_program size to place ++ program) found standing) (tree_of pages (modify_at (InMemory address) size) state rest)
unfolding modify_at
modify_agrees P end pages program found standing to place address size state rest is goes =
    rw is (
      refl,
      refl,
      refl,
      reads_agree P end pages address (bytes_of size) state (λ value. course_of program found (with_value to value standing)) _ (some_bytes size)
          (λ value fits. rw (mod-eq_of_lt fits) (goes value fits)),
    )

pub store_agrees : (P : Left → Type 0) (end : Left → Tree) (pages : Pages) (program : List Micro) (found : Found) (standing : Standing) (place from address value : ℕ)
    (size : Size) (state : VaxState) (rest : Unit {0} → VaxState → Tree)
    → standing.temps place ≡ address → standing.temps from ≡ value
    → Agrees P end (course_of program found standing) (rest tt state)
    → Agrees P end (course_of (store_program size place from ++ program) found standing) (tree_of pages (store (InMemory address) size value) state rest)
unfolding store put
store_agrees P end pages program found standing place from address value size state rest is holds goes =
    rw (is, holds) (refl, refl, refl, writes_agree P end pages address (bytes_of size) value state (course_of program found standing) _ (some_bytes size) goes)

pub stores_result : (operand : Operand) (size : Size) (place from : ℕ) → StoresResult operand size place from (result_program operand size place from)
unfolding store put
stores_result (Place base index) size place from sources start pages thread program found standing location state rest at goes =
    subst (λ (l : Location). Agrees (CodesComeFrom sources start) (leaving pages thread) (course_of program found standing) (rest tt (given l size (standing.temps from) state))
    → Agrees (CodesComeFrom sources start) (leaving pages thread) (course_of (store_program size place from ++ program) found standing) (tree_of pages (store l size (standing.temps from)) state rest)) (sym at.0)
    (store_agrees (CodesComeFrom sources start) (leaving pages thread) pages program found standing place from (standing.temps place) (standing.temps from) size state rest refl refl) goes
stores_result (Register n) size place from sources start pages thread program found standing location state rest at goes =
    subst (λ (l : Location). Agrees (CodesComeFrom sources start) (leaving pages thread) (course_of program found standing) (rest tt (given l size (standing.temps from) state))
    → Agrees (CodesComeFrom sources start) (leaving pages thread) (course_of program found standing) (tree_of pages (store l size (standing.temps from)) state rest)) (sym at) (λ g. g) goes
stores_result Unused size place from sources start pages thread program found standing location state rest at goes = absurd at
stores_result (Value value) size place from sources start pages thread program found standing location state rest at goes = absurd at
stores_result (Target address) size place from sources start pages thread program found standing location state rest at goes = absurd at

pub replaces_operand : (operand : Operand) (size : Size) (place from : ℕ) → ReplacesOperand operand size place from (replacement_program operand size place from)
unfolding put
replaces_operand (Place base index) size place from sources start pages thread program found standing location state rest at goes =
    subst (λ (l : Location). Agrees (CodesComeFrom sources start) (leaving pages thread) (course_of program found standing) (rest tt (given l size (standing.temps from) state))
    → Agrees (CodesComeFrom sources start) (leaving pages thread) (course_of (Write place (bytes_of size) from ∷ program) found standing) (tree_of pages (put l size (standing.temps from)) state rest)) (sym at.0)
    (writes_agree (CodesComeFrom sources start) (leaving pages thread) pages (standing.temps place) (bytes_of size) (standing.temps from) state (course_of program found standing) rest (some_bytes size)) goes
replaces_operand (Register n) size place from sources start pages thread program found standing location state rest at goes =
    subst (λ (l : Location). Agrees (CodesComeFrom sources start) (leaving pages thread) (course_of program found standing) (rest tt (given l size (standing.temps from) state))
    → Agrees (CodesComeFrom sources start) (leaving pages thread) (course_of program found standing) (tree_of pages (put l size (standing.temps from)) state rest)) (sym at) (λ g. g) goes
replaces_operand Unused size place from sources start pages thread program found standing location state rest at goes = absurd at
replaces_operand (Value value) size place from sources start pages thread program found standing location state rest at goes = absurd at
replaces_operand (Target address) size place from sources start pages thread program found standing location state rest at goes = absurd at

-- the longword below the stack
below_stack : (state : VaxState) (steps : List ℕ) → length steps ≡ length state.r → 14 < length steps
    → (register 14 state + get_or (with_step 14 4294967292 steps) 14 0) % 2 ^ 32 ≡ (register 14 (stepped steps state) + 4294967292) % 2 ^ 32
below_stack state steps same some =
    ap (λ s. (register 14 state + s) % 2 ^ 32) (get_or-set_same steps 14 ((get_or steps 14 0 + 4294967292) % 2 ^ 32) 0 some)
    ∙ sym (twice (register 14 state) (get_or steps 14 0) 4294967292)
    ∙ ap (λ v. (v + 4294967292) % 2 ^ 32) (sym (register_stepped state steps 14 same))

pub pushes : (steps : List ℕ) (place from : ℕ) → eqb from place ≡ false → Pushes steps place from (push_program steps place from)
unfolding push
pushes steps place from apart sources start pages thread program found standing rest same some goes =
    let P = CodesComeFrom sources start in
    let end = leaving pages thread in
    let top = (register 14 (stepped steps found.state) + 4294967292) % 2 ^ 32 in
    let state = with_register_stepped found.state steps 14 4294967292 same in
    let step = sum_course place (Some 14) (get_or (steps_behind_push steps) 14 0) (store_program Long place from ++ program) found standing in
    let behind : Agrees P end (course_of program found (with_value place top standing)) (rest tt (with_register 14 top (stepped steps found.state))) =
    subst (λ (s : VaxState). Agrees P end (course_of program found (with_value place top standing)) (rest tt s)) (sym state)
    (goes (with_temp place top standing.temps) (λ temp a b c. rw a refl) (rw (eqb_same place) (sym (register_stepped found.state (steps_behind_push steps) 14 (length-set steps 14 _ ∙ same) ∙ below_stack found.state steps same some)))) in
    rw (step, below_stack found.state steps same some, eqb_same place, apart)
    (refl, refl, refl, writes_agree P end pages top 4 (standing.temps from) (stepped steps found.state) (course_of program found (with_value place top standing)) (λ _ after. rest tt (with_register 14 top after)) (lit< tt) behind)
