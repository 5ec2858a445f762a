-- A result is given to its operand, and the codes are set as the instruction sets them.
use Rattle.std.proofs.Common.{◌≡◌, ℕ, ◌%◌, ◌<◌, ◌==◌, true, false, List, [], ◌∷◌, ◌++◌, length, refl, ◌∙◌, arith, inl, inr}
use Rattle.std.proofs.lemmas.Bool.{cases_lt}
use Rattle.vax_form.specs.Size.{bytes_of}
use Rattle.vax_form.specs.Script.{◌>>◌, change}
use Rattle.vax_form.specs.State.{IsState}
use Rattle.vax_form.specs.Tree.{Tree, tree_of, ends_with}
use Rattle.vax_form.specs.declared.instr.Size.{Size}
use Rattle.vax_form.specs.declared.pages.Pages.{Pages}
use Rattle.vax_form.specs.declared.state.VaxState.{VaxState}
use Rattle.vax_meaning.specs.Codes.{carry_of, with_result, go_to}
use Rattle.vt_words.specs.Arithmetic.{coded_value}
use Rattle.vt_words.specs.Values.{bit}
use Rattle.vt_words.specs.declared.arithmetic.Coded.{Coded}
use Rattle.micro_ops.specs.Sources.{from}
use Rattle.micro_ops.specs.Values.{limit_of}
use Rattle.micro_ops.specs.declared.codes.CodeSource.{CodeSource}
use Rattle.micro_ops.specs.declared.codes.CodeSource.TheVariants.{Result, Kept}
use Rattle.micro_ops.specs.declared.program.Exit.{Exit}
use Rattle.micro_lower.proofs.Coding.{GoesTo, plain_end, coded_end}
use Rattle.micro_lower.proofs.Endings.{found_at, with, DoesSo, results, replaces, IsReady, closes_coded, is_computation}
use Rattle.vax_form.specs.declared.instr.Operand.{Operand}
use Rattle.vax_meaning.specs.declared.operands.Location.{Location}
use Rattle.vax_meaning.specs.Operands.{store, put}
use Rattle.micro_ops.specs.Meaning.{Temps}
use Rattle.micro_ops.specs.declared.program.Micro.{Micro}
use Rattle.micro_ops.specs.declared.program.Micro.TheVariants.{Leave}
use Rattle.operand_programs.specs.Operands.{IsAt}
use Rattle.operand_programs.specs.Results.{IsGivable, result_program, replacement_program, finish_program}
use Rattle.operand_programs.specs.Specifiers.{stepped}
use Rattle.std.specs.List.{list_all}
use Rattle.micro_lower.specs.Plans.{codes_program}
use Rattle.micro_lower.proofs.Ready.{effect, IsLowExit, ReadyFor}

-- ---- a value that is given, with N and Z by it
-- a number below 2 is its bit
pub carry_is : (psw : ℕ) → psw % 2 ≡ bit (psw % 2 == 1)
carry_is psw = elim (cases_lt (psw % 2) 1) [ inl below ↦ (let z : psw % 2 ≡ 0 = omega (arith, below) in rw z refl) | inr above ↦ (let o : psw % 2 ≡ 1 = omega (arith, above) in rw o refl) ]

-- the codes of a value, with C as it was found
abbrev pub value_coded : VaxState → Size → (value : ℕ) → Coded
value_coded start size value = coded_value (bytes_of size) value false (carry_of start)

-- a value is moved on, and the instruction goes on behind itself
abbrev pub value_end : Pages → Size → (value pc : ℕ) → VaxState → Tree
value_end pages size value pc state = tree_of pages (change (with_result size value) >> go_to pc) state ends_with

pub value_ends : (pages : Pages) (start : VaxState) (size : Size) (value pc : ℕ) (state : VaxState) → state.psw ≡ start.psw
    → (let coded = value_coded start size value in coded_end pages coded.n coded.z coded.v coded.c pc state) ≡ value_end pages size value pc state
value_ends pages start size value pc state same =
    let coded = value_coded start size value in
    plain_end pages coded.n coded.z (carry_of start) pc state ∙ rw same refl

-- ---- results with their codes
-- an instruction sets the codes of its result and goes on, or traps
abbrev pub coded_end_of : Pages → Coded → (pc : ℕ) → VaxState → Tree
coded_end_of pages coded pc state = coded_end pages coded.n coded.z coded.v coded.c pc state

module _ (nzv c : CodeSource) (start : VaxState) (pages : Pages) (thread after : ℕ) (ok : IsState start) (size : Size) (operand : Operand) (steps : List ℕ) (same : length steps ≡ length start.r)
    (location : Location) (coded : Coded) (temps : Temps) (behind : List Micro) (all : list_all is_computation behind ≡ true)
    (at : IsAt operand location (temps 3)) (givable : IsGivable operand size) (is : temps 2 ≡ coded.value) (fits : coded.value < limit_of size)
    (kept : effect behind (found_at start after) temps 2 ≡ temps 2) (ready : ReadyFor nzv c start.psw (effect behind (found_at start after) temps) coded)
    (exit : Exit) (low : IsLowExit exit) (pc : ℕ) (goes : GoesTo exit (found_at start after) (effect behind (found_at start after) temps) pc) where
  abbrev pub close : List Micro
  close = codes_program (from nzv c) ++ Leave exit ∷ []

  module _ (end : VaxState → Tree) (ends : (state : VaxState) → state.psw ≡ start.psw → coded_end_of pages coded pc state ≡ end state) where
    pub gives_as : DoesSo (from nzv c) start pages thread after (result_program operand size 3 2 ++ (behind ++ (finish_program operand size steps 2 ++ close))) (with start temps)
        (tree_of pages (store location size coded.value) (stepped steps start) (λ done state. end state))
    gives_as =
        results (from nzv c) start pages thread after ok close end (IsReady nzv c start after coded exit pc) (closes_coded nzv c start pages thread after coded exit pc end ends)
        behind all operand size steps location coded.value temps same at givable is fits kept (record { low = low; goes = goes; ready = ready })

    pub replaces_as : DoesSo (from nzv c) start pages thread after (replacement_program operand size 3 2 ++ (behind ++ (finish_program operand size steps 2 ++ close))) (with start temps)
        (tree_of pages (put location size coded.value) (stepped steps start) (λ done state. end state))
    replaces_as =
        replaces (from nzv c) start pages thread after ok close end (IsReady nzv c start after coded exit pc) (closes_coded nzv c start pages thread after coded exit pc end ends)
        behind all operand size steps location coded.value temps same at givable is fits kept (record { low = low; goes = goes; ready = ready })

-- N and Z by a value in 2, V 0, and C kept
pub result_ready : (size : Size) (start : VaxState) (value : ℕ) (temps : Temps) → value < limit_of size → temps 2 ≡ value
    → ReadyFor (Result size) Kept start.psw temps (value_coded start size value)
result_ready size start value temps fits two = (((rw two fits, rw two refl, rw two refl), refl), carry_is start.psw)
