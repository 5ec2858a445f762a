-- The rows of the memory format.
use Rattle.std.proofs.Common.{◌≡◌, ℕ, ◌≤◌, ◌+◌, ◌%◌, Option, Some, None, lit≤, arith, subst}
use Rattle.vt_words.specs.Quad.{IsCount, one, two, four, eight}
use Rattle.alpha_encode.specs.declared.instr.AlphaInstr.{AlphaInstr}
use Rattle.alpha_encode.specs.declared.instr.AlphaInstr.TheVariants.{Memory, Branch, Operate, Jump, Pal}
use Rattle.alpha_encode.specs.declared.instr.MemoryOp.{MemoryOp}
use Rattle.alpha_encode.specs.declared.instr.MemoryOp.TheVariants.{Lda, Ldah, Ldbu, Ldwu, Stb, Stw, Ldl, LdqU, Ldq, LdlL, LdqL, Stl, Stq, StlC, StqC}
use Rattle.alpha_meaning.specs.declared.access.AlphaAccess.{AlphaAccess}
use Rattle.alpha_meaning.specs.declared.access.AlphaKind.{AlphaKind}
use Rattle.alpha_meaning.specs.Act.{Asks, act, memory_act_by}
use Rattle.alpha_meaning.specs.Memory.{bytes_of, kind_of, address_of, access_of}
use Rattle.alpha_meaning.specs.State.{Alpha}

-- an access has 1, 2, 4 or 8 bytes
pub bytes_count : (op : MemoryOp) → IsCount (bytes_of op)
bytes_count Ldbu = one
bytes_count Stb = one
bytes_count Ldwu = two
bytes_count Stw = two
bytes_count Ldl = four
bytes_count LdlL = four
bytes_count Stl = four
bytes_count StlC = four
bytes_count Lda = eight
bytes_count Ldah = eight
bytes_count LdqU = eight
bytes_count Ldq = eight
bytes_count LdqL = eight
bytes_count Stq = eight
bytes_count StqC = eight

pub count_some : {count : ℕ} → IsCount count → 1 ≤ count
count_some one = lit≤ tt
count_some two = lit≤ tt
count_some four = lit≤ tt
count_some eight = lit≤ tt

-- so many bytes at a multiple of their number stand in one quadword
pub count_within : {count : ℕ} → IsCount count → (address : ℕ) → address % count ≡ 0 → address % 8 + count ≤ 8
count_within one address aligned = omega (arith, aligned)
count_within two address aligned = omega (arith, aligned)
count_within four address aligned = omega (arith, aligned)
count_within eight address aligned = omega (arith, aligned)

-- an access has 1, 2, 4 or 8 bytes
pub asks_count : (i : AlphaInstr) (c : Alpha) (a : AlphaAccess) → act i c ≡ Asks a → IsCount a.bytes
asks_count (Memory op ra rb disp) c a h = by (kind_of op) h
  where
    by : (k : Option AlphaKind) → memory_act_by k op ra rb disp c ≡ Asks a → IsCount a.bytes
    by None h = absurd (cc h)
    by (Some kind) h =
        let same : access_of op kind (address_of op (c.regs rb) disp) (c.regs ra) ≡ a = cc h in
        subst (λ (x : AlphaAccess). IsCount x.bytes) same (bytes_count op)
asks_count (Branch op ra disp) c a h = absurd (cc h)
asks_count (Operate op ra rb rc) c a h = absurd (cc h)
asks_count (Jump ra rb) c a h = absurd (cc h)
asks_count (Pal n) c a h = absurd (cc h)

-- an aligned access stands in one quadword
pub asks_within : (i : AlphaInstr) (c : Alpha) (a : AlphaAccess) → act i c ≡ Asks a → a.address % a.bytes ≡ 0 → a.address % 8 + a.bytes ≤ 8
asks_within i c a h aligned = count_within (asks_count i c a h) a.address aligned
