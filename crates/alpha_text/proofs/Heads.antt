-- A mnemonic tells its row.
use Rattle.std.proofs.Common.{◌≡◌, ℕ, List, [], ◌∷◌, Bool, true, false, eqb, Option, Some, refl, sym, ap, ◌∙◌}
use Rattle.std.specs.Prelude.{◌&&◌, codes}
use Rattle.std.specs.List.{find, list_all}
use Rattle.alpha_encode.specs.declared.instr.MemoryOp.{MemoryOp}
use Rattle.alpha_encode.specs.declared.instr.MemoryOp.TheVariants.{Lda, Ldah, Ldbu, LdqU, Ldwu, Stw, Stb, Ldl, Ldq, LdlL, LdqL, Stl, Stq, StlC, StqC}
use Rattle.alpha_encode.specs.declared.instr.BranchOp.{BranchOp}
use Rattle.alpha_encode.specs.declared.instr.BranchOp.TheVariants.{Br, Bsr, Blbc, Beq, Blt, Ble, Blbs, Bne, Bge, Bgt}
use Rattle.alpha_encode.specs.declared.instr.OperateOp.{OperateOp}
use Rattle.alpha_encode.specs.declared.instr.OperateOp.TheVariants.{Addl, Subl, Cmpult, Addq, S4addq, Subq, Cmpeq, S8addq, Cmpule, Cmplt, Cmple, And, Bic, Bis, Cmoveq, Cmovne, Ornot, Xor, Eqv, Mskbl, Extbl, Insbl, Mskwl, Extwl, Inswl, Mskll, Extll, Insll, Zap, Zapnot, Mskql, Srl, Extql, Sll, Insql, Sra, Mskwh, Inswh, Extwh, Msklh, Inslh, Extlh, Mskqh, Insqh, Extqh, Mull, Mulq, Umulh, Sextb, Sextw}
use Rattle.alpha_text.specs.Names.{branch_name, memory_name, operate_name}
use Rattle.alpha_text.proofs.Pieces.{inside}

-- what stands before the first blank
pub data Head : Type 0 where
  memory : MemoryOp → Head
  branch : BranchOp → Head
  operate : OperateOp → Head
  jump : Head
  call : Head
  long : Head

unfoldable pub head_name : Head → List ℕ
head_name (memory op) = memory_name op
head_name (branch op) = branch_name op
head_name (operate op) = operate_name op
head_name jump = codes "jmp"
head_name call = codes "call_pal"
head_name long = codes ".long"

heads : List Head
heads =
    memory Lda ∷ memory Ldah ∷ memory Ldbu ∷ memory LdqU ∷ memory Ldwu ∷ memory Stw ∷ memory Stb ∷ memory Ldl ∷ memory Ldq ∷ memory LdlL ∷ memory LdqL ∷ memory Stl ∷ memory Stq ∷ memory StlC ∷ memory StqC ∷ branch Br ∷ branch Bsr ∷ branch Blbc ∷ branch Beq ∷ branch Blt ∷ branch Ble ∷ branch Blbs ∷ branch Bne ∷ branch Bge ∷ branch Bgt ∷ operate Addl ∷ operate Subl ∷ operate Cmpult ∷ operate Addq ∷ operate S4addq ∷ operate Subq ∷ operate Cmpeq ∷ operate S8addq ∷ operate Cmpule ∷ operate Cmplt ∷ operate Cmple ∷ operate And ∷ operate Bic ∷ operate Bis ∷ operate Cmoveq ∷ operate Cmovne ∷ operate Ornot ∷ operate Xor ∷ operate Eqv ∷ operate Mskbl ∷ operate Extbl ∷ operate Insbl ∷ operate Mskwl ∷ operate Extwl ∷ operate Inswl ∷ operate Mskll ∷ operate Extll ∷ operate Insll ∷ operate Zap ∷ operate Zapnot ∷ operate Mskql ∷ operate Srl ∷ operate Extql ∷ operate Sll ∷ operate Insql ∷ operate Sra ∷ operate Mskwh ∷ operate Inswh ∷ operate Extwh ∷ operate Msklh ∷ operate Inslh ∷ operate Extlh ∷ operate Mskqh ∷ operate Insqh ∷ operate Extqh ∷ operate Mull ∷ operate Mulq ∷ operate Umulh ∷ operate Sextb ∷ operate Sextw ∷ jump ∷ call ∷ long ∷ []

same : List ℕ → List ℕ → Bool
same [] [] = true
same [] (b ∷ bs) = false
same (a ∷ as_) [] = false
same (a ∷ as_) (b ∷ bs) = eqb a b && same as_ bs

head_of : List ℕ → Option Head
head_of name = find (λ h. same (head_name h) name) heads

-- it is found by its name, which has no sign that ends a name
record IsTold (h : Head) : Type 0 where
  pub found : head_of (head_name h) ≡ Some h
  pub clean : list_all inside (head_name h) ≡ true

told_memory : (op : MemoryOp) → IsTold (memory op)
unfolding head_name heads same head_of memory_name branch_name operate_name
told_memory Lda = record { found = refl; clean = refl }
told_memory op = record { found = refl; clean = refl }

told_branch : (op : BranchOp) → IsTold (branch op)
unfolding head_name heads same head_of memory_name branch_name operate_name
told_branch Br = record { found = refl; clean = refl }
told_branch op = record { found = refl; clean = refl }

told_operate : (op : OperateOp) → IsTold (operate op)
unfolding head_name heads same head_of memory_name branch_name operate_name
told_operate Addl = record { found = refl; clean = refl }
told_operate op = record { found = refl; clean = refl }

told : (h : Head) → IsTold h
unfolding head_name heads same head_of memory_name branch_name operate_name
told (memory op) = told_memory op
told (branch op) = told_branch op
told (operate op) = told_operate op
told jump = record { found = refl; clean = refl }
told call = record { found = refl; clean = refl }
told long = record { found = refl; clean = refl }

pub clean_head : (h : Head) → list_all inside (head_name h) ≡ true
clean_head h = let t = told h in t.clean

some_head : (g h : Head) → ◌≡◌ {A = Option Head} (Some g) (Some h) → g ≡ h
some_head g h e = cc

pub same_head : (g h : Head) → head_name g ≡ head_name h → g ≡ h
same_head g h e = let a = told g in let b = told h in some_head g h (sym a.found ∙ ap head_of e ∙ b.found)
