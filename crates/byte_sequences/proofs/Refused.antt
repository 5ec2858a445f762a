-- Words that the promise on counted accesses refuses, whatever else they do.
use Rattle.std.proofs.Common.{◌≡◌, ℕ, ◌-◌, ◌==◌, if◌then◌else◌, refl, subst, List, [], ◌∷◌, true, lit<, lit≤}
use Rattle.std.specs.Prelude.{pos, negsuc, slice_get}
use Rattle.alpha_encode.specs.declared.instr.MemoryOp.TheVariants.{LdqL, LdqU, Stq, StqC}
use Rattle.alpha_encode.specs.declared.instr.BranchOp.TheVariants.{Beq, Bne}
use Rattle.alpha_encode.specs.declared.instr.OperateOp.TheVariants.{And, Bic, Bis, Cmpult, Extll, Extlh, Insbl, Mskbl}
use Rattle.alpha_encode.specs.declared.instr.Second.TheVariants.{Literal, Register}
use Rattle.alpha_encode.specs.declared.instr.AlphaInstr.{AlphaInstr}
use Rattle.alpha_encode.specs.declared.instr.AlphaInstr.TheVariants.{Memory, Branch, Operate}
use Rattle.alpha_encode.specs.declared.registers.TheConstants.{QUAD, BYTES, QUAD_ADDRESS}
use Rattle.alpha_meaning.specs.Act.{target_of}
use Rattle.alpha_meaning.specs.State.{Regs, at_place, put}
use Rattle.alpha_meaning.specs.Pieces.{Failed, Fetch, Piece, Plain, Plan, Runs, phase_after, piece, plain_terms}
use Rattle.vax_form.specs.Parts.{parts}
use Rattle.byte_sequences.specs.Plans.{write_plan}
use Rattle.byte_sequences.specs.Promises.{Keeps, ReadsPlan, WritesPlan, loaded_bytes, stored_bytes}

-- the words stand from place 0 on, all pages may be used, and all registers are 0
abbrev words_at : List AlphaInstr → Fetch
words_at words = λ pc. slice_get words pc

abbrev zeros : Regs
zeros = λ n. 0

-- ---- a byte is stored without a lock
abbrev unlocked : List AlphaInstr
unlocked =
    Operate Bic 21 (Literal 7) QUAD_ADDRESS
    ∷ Memory LdqU QUAD 21 (pos 0)
    ∷ Operate Mskbl QUAD (Register 21) QUAD
    ∷ Operate Insbl 22 (Register 21) BYTES
    ∷ Operate Bis QUAD (Register BYTES) QUAD
    ∷ Memory Stq QUAD QUAD_ADDRESS (pos 0)
    ∷ Branch Beq QUAD (negsuc 5)
    ∷ []

-- the load is no access that stores
byte_stored_without_a_lock : WritesPlan stored_bytes 21 1 22 unlocked → ⊥
unfolding Runs
byte_stored_without_a_lock promise =
    let runs = promise (words_at unlocked) (plain_terms (λ store quad. true)) 0 zeros (lit≤ tt)
    (record { within = lit≤ tt; pages = λ k part within. refl; readable = λ quad may. refl; stores = record { loads = refl; stores = refl } })
    (refl, (refl, (refl, (refl, (refl, (refl, (refl, tt))))))) 2 in
    let second = runs.3.2 in
    let same : 255 ≡ 0 = (second.3.3.1 255 (lit< tt) tt).0 in
    absurd (cc same)

-- ---- a longword in one quadword is read by two loads
abbrev loaded_twice : List AlphaInstr
loaded_twice =
    Operate And 21 (Literal 7) BYTES
    ∷ Operate Cmpult BYTES (Literal 5) BYTES
    ∷ Memory LdqU QUAD 21 (pos 0)
    ∷ Operate Extll QUAD (Register 21) QUAD
    ∷ Branch Bne BYTES (pos 0)
    ∷ Memory LdqU BYTES 21 (pos 3)
    ∷ Operate Extlh BYTES (Register 21) BYTES
    ∷ Operate Bis QUAD (Register BYTES) QUAD
    ∷ Operate Bis QUAD (Literal 0) 22
    ∷ []

-- nothing is wanted any more behind the first
longword_read_by_two_loads : ReadsPlan loaded_bytes 21 4 22 loaded_twice → ⊥
unfolding Runs
longword_read_by_two_loads promise =
    let runs = promise (words_at loaded_twice) (plain_terms (λ store quad. true)) 0 zeros (lit≤ tt)
    (record { within = lit≤ tt; pages = λ k part within. refl; loads = refl })
    (refl, (refl, (refl, (refl, (refl, (refl, (refl, (refl, (refl, tt))))))))) 6 in
    let third = runs.3.2.3.2 in
    let fourth = (third.3.3.1 0 (lit< tt) tt).1 in
    let sixth = fourth.3.2.3.2 in
    sixth.3.2

-- ---- a failed store is tried again behind the load-locked access
abbrev retried_behind : List AlphaInstr
retried_behind =
    Operate Bic 21 (Literal 7) QUAD_ADDRESS
    ∷ Memory LdqL QUAD QUAD_ADDRESS (pos 0)
    ∷ Operate Mskbl QUAD (Register 21) QUAD
    ∷ Operate Insbl 22 (Register 21) BYTES
    ∷ Operate Bis QUAD (Register BYTES) QUAD
    ∷ Memory StqC QUAD QUAD_ADDRESS (pos 0)
    ∷ Branch Beq QUAD (negsuc 4)
    ∷ []

abbrev its_piece : Piece
its_piece = piece (words_at retried_behind) (plain_terms (λ store quad. true)) 0 7

-- the second store conditional has no load-locked access before it, whatever the registers hold
no_lock_before : (regs : Regs) (spare : ℕ) (plan : Plan (Unit {0})) → Runs its_piece (Keeps zeros) 4 Plain spare (at_place regs 2) plan → ⊥
unfolding Runs
no_lock_before regs spare plan runs = runs.3.2.3.2.3.2.3.3

-- a failed store comes there
failed_store : (regs : Regs) (spare : ℕ) (plan : Plan (Unit {0})) → regs QUAD ≡ 0 → Runs its_piece (Keeps zeros) 5 (Failed 1) spare (at_place regs 6) plan → ⊥
unfolding Runs
failed_store regs spare plan none runs = no_lock_before regs (spare - 1) plan (subst Behind none runs.3.2)
  where
    -- where the branch leads for what the store has left
    leads : (left : ℕ) → ℕ
    leads left = if left == 0 then target_of 6 (negsuc 4) else 7

    Behind : (left : ℕ) → Type 0
    Behind left = Runs its_piece (Keeps zeros) 4 (phase_after (Failed 1) 6 (leads left)) (spare - 1) (record { regs = regs; pc = leads left }) plan

-- of a quadword of zeros
abbrev behind_the_store : Regs
behind_the_store = put (put (put (put (put (put zeros QUAD_ADDRESS 0) QUAD 0) QUAD 0) BYTES 0) QUAD 0) QUAD 0

retry_behind_its_load : WritesPlan stored_bytes 21 1 22 retried_behind → ⊥
unfolding Runs
retry_behind_its_load promise =
    let runs = promise (words_at retried_behind) (plain_terms (λ store quad. true)) 0 zeros (lit≤ tt)
    (record { within = lit≤ tt; pages = λ k part within. refl; readable = λ quad may. refl; stores = record { loads = refl; stores = refl } })
    (refl, (refl, (refl, (refl, (refl, (refl, (refl, tt))))))) 11 in
    let third = runs.3.2.3.3 0 (lit< tt) in
    let sixth = third.3.2.3.2.3.2 in
    failed_store behind_the_store 17 (write_plan (parts 0 1) 0) refl (sixth.3.3.2 0 (lit< tt))
