-- The program that commits what the specifiers added leaves it in the registers.
use Rattle.std.proofs.Common.{◌≡◌, ℕ, suc, ◌+◌, ◌%◌, ◌^◌, ◌<◌, eqb, false, List, [], ◌∷◌, ◌++◌, length, get_or, set, refl, sym, ap, ◌∙◌, subst, append_assoc, arith, inl, inr, length-append}
use Rattle.std.proofs.Math.Nat.{mod-eq_of_lt}
use Rattle.std.proofs.lemmas.Bool.Decides.{eqb_tells}
use Rattle.std.proofs.Math.Seq.{set-append_seam}
use Rattle.vax_form.specs.State.{register, with_core}
use Rattle.vax_form.specs.Tree.{Tree}
use Rattle.micro_ops.specs.Meaning.{Left, Temps, Found, Standing, course_of}
use Rattle.micro_ops.specs.Values.{value_from}
use Rattle.micro_ops.specs.declared.program.Micro.{Micro}
use Rattle.operand_programs.specs.Specifiers.{stepped_registers, commit_program}
use Rattle.operand_programs.specs.Pieces.{Agrees}

sum_wrapped : (value step : ℕ) → (value % 4294967296 + step % 4294967296) % 4294967296 % 4294967296 ≡ (value + step) % 4294967296
sum_wrapped value step = omega arith

-- a standing with other temporaries and registers
abbrev pub with_r : Temps → (r : List ℕ) → Standing → Standing
with_r temps r standing = record standing { temps = temps; state = with_core standing.state r standing.state.pc standing.state.psw }

abbrev pub Apart5 : (before after : Temps) → Type 0
Apart5 before after = (temp : ℕ) → eqb temp 5 ≡ false → after temp ≡ before temp

next : (number i : ℕ) → number + 1 + i ≡ number + suc i
next number i = omega arith

later : (r : List ℕ) (number value : ℕ) (left : List ℕ) → ((i : ℕ) → get_or r (number + i) 0 ≡ get_or (value ∷ left) i 0) → (i : ℕ) → get_or r (number + 1 + i) 0 ≡ get_or left i 0
later r number value left at i = ap (λ n. get_or r n 0) (next number i) ∙ at (suc i)

pub commits_agree : (P : Left → Type 0) (end : Left → Tree) (program : List Micro) (tree : Tree) (found : Found) (done left steps : List ℕ) (number : ℕ) (standing : Standing)
    → number ≡ length done → length steps ≡ length left → standing.state.r ≡ done ++ left → ((i : ℕ) → get_or left i 0 < 2 ^ 32)
    → ((i : ℕ) → get_or found.state.r (number + i) 0 ≡ get_or left i 0)
    → ((temps : Temps) → Apart5 standing.temps temps → Agrees P end (course_of program found (with_r temps (done ++ stepped_registers left steps) standing)) tree)
    → Agrees P end (course_of (commit_program number steps ++ program) found standing) tree
unfolding value_from
commits_agree P end program tree found done [] [] number standing is same r small at goes =
    subst (λ r. Agrees P end (course_of program found (with_r standing.temps r standing)) tree) (sym r) (goes standing.temps (λ temp a. refl))
commits_agree P end program tree found done [] (step ∷ steps) number standing is same r small at goes = absurd (omega (arith, same))
commits_agree P end program tree found done (value ∷ left) [] number standing is same r small at goes = absurd (omega (arith, same))
commits_agree P end program tree found done (value ∷ left) (step ∷ steps) number standing is same r small at goes = elim (eqb_tells step 0) [
  | inl none ↦ (let kept : (value + step) % 2 ^ 32 ≡ value = rw none.1 (ap (λ v. v % 2 ^ 32) (omega arith) ∙ mod-eq_of_lt (small 0)) in
      rw none.0 (commits_agree P end program tree found (done ++ value ∷ []) left steps (number + 1) standing
      (omega (arith, is, length-append done (value ∷ []))) (omega (arith, same)) (r ∙ sym (append_assoc done (value ∷ []) left)) (λ i. small (suc i)) (later found.state.r number value left at)
      (λ temps apart. subst (λ r. Agrees P end (course_of program found (with_r temps r standing)) tree)
      (ap (λ v. done ++ v ∷ stepped_registers left steps) kept ∙ sym (append_assoc done (value ∷ []) (stepped_registers left steps))) (goes temps apart))))
  | inr some ↦ (let w = (value + step) % 2 ^ 32 in
      let x = (register number found.state % 2 ^ 32 + step % 2 ^ 32) % 2 ^ 32 in
      let first : register number found.state ≡ value = ap (λ n. get_or found.state.r n 0) (omega arith) ∙ at 0 in
      let w_is : x % 2 ^ 32 ≡ w = ap (λ v. (v % 2 ^ 32 + step % 2 ^ 32) % 2 ^ 32 % 2 ^ 32) first ∙ sum_wrapped value step in
      let placed : set standing.state.r number (x % 2 ^ 32) ≡ (done ++ w ∷ []) ++ left =
      ap (λ xs. set xs number (x % 2 ^ 32)) r ∙ ap (λ n. set (done ++ value ∷ left) n (x % 2 ^ 32)) is ∙ set-append_seam done value left (x % 2 ^ 32) ∙ ap (λ y. done ++ y ∷ left) w_is ∙ sym (append_assoc done (w ∷ []) left) in
      rw some.0 (commits_agree P end program tree found (done ++ w ∷ []) left steps (number + 1) _
      (omega (arith, is, length-append done (w ∷ []))) (omega (arith, same)) placed (λ i. small (suc i)) (later found.state.r number value left at)
      (λ temps apart. subst (λ r. Agrees P end (course_of program found (with_r temps r standing)) tree)
      (sym (append_assoc done (w ∷ []) (stepped_registers left steps))) (goes temps (λ temp a. apart temp a ∙ rw a refl)))))
]
