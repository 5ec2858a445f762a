-- The words that make a value that a call pushes.
use Rattle.std.proofs.Common.{◌≡◌, ℕ, ◌+◌, ◌-◌, ◌*◌, ◌/◌, ◌%◌, ◌^◌, ◌<◌, ◌≤◌, refl, sym, ap, ◌∙◌, subst, arith, List, [], ◌∷◌, ◌++◌, length, map, None, Bool, true, false, lit≤, inl, inr}
use Rattle.std.specs.Prelude.{◌⊎◌, ◌==◌, ◌||◌, bit_and, bit_or, slice_index, if◌then◌else◌}
use Rattle.std.specs.Int.{cast_signed, cast_unsigned, w16, w64}
use Rattle.std.proofs.lemmas.Bool.{eqb-true}
use Rattle.std.proofs.lemmas.Int.{to_z_pos}
use Rattle.std.proofs.lemmas.Nat.{and_mask, or_comm, or_shifted}
use Rattle.std.proofs.lemmas.Nat.Bits.{and_high_mask}
use Rattle.vt_words.specs.Quad.{left}
use Rattle.vax_form.specs.Tree.{Tree}
use Rattle.alpha_encode.specs.Halves.{high_half, low_half, load_high, load_low}
use Rattle.alpha_encode.specs.declared.instr.AlphaInstr.{AlphaInstr}
use Rattle.alpha_encode.specs.declared.instr.AlphaInstr.TheVariants.{Memory, Operate}
use Rattle.alpha_encode.specs.declared.instr.MemoryOp.TheVariants.{Lda}
use Rattle.alpha_encode.specs.declared.instr.OperateOp.TheVariants.{And, Bis, Sll}
use Rattle.alpha_encode.specs.declared.instr.Second.TheVariants as second
use Rattle.alpha_meaning.specs.Loops.{effects}
use Rattle.alpha_meaning.specs.Pieces.{Only}
use Rattle.alpha_meaning.specs.Result.{plus, times}
use Rattle.alpha_meaning.specs.State.{Regs, put, at_place}
use Rattle.alpha_meaning.proofs.Registers.{put_other}
use Rattle.alpha_meaning.proofs.Rules.{effects_only}
use Rattle.compute_sequences.proofs.Halves.{long_low}
use Rattle.block_law.specs.Placements.{Placement}
use Rattle.block_law.proofs.Rules.{Always, roomy, goes, operates}
use Rattle.program_codegen.specs.declared.calls.Call.{Call}
use Rattle.program_codegen.specs.declared.frames.Pushed.{Pushed}
use Rattle.program_codegen.specs.declared.frames.Pushed.TheVariants as pushes
use Rattle.program_codegen.specs.declared.lines.Line.{Line}
use Rattle.program_codegen.specs.declared.points.Site.{Site}
use Rattle.program_codegen.specs.Words.{plain}
use Rattle.program_codegen.specs.Calls.{status_high, value_words, value_register}
use Rattle.program_codegen.proofs.Walk.{Within, next, stands, is_inside, row_words, row_rest, row_length}
use Rattle.program_codegen.proofs.Frame.{half_high}

-- ---- numbers
half_low : (l : ℕ) → l < 2 ^ 15 → cast_unsigned w64 (cast_signed w16 l) ≡ l
half_low l lt = ap (cast_unsigned w64) (to_z_pos w16 l lt)

-- a number that LDA adds, or takes away
abbrev pub IsSmallStep : (step : ℕ) → Type 0
IsSmallStep step = (step < 2 ^ 15) ⊎ ((2 ^ 32 - 2 ^ 15 ≤ step) × (step < 2 ^ 32))

step_added : (x step : ℕ) → IsSmallStep step → plus x (times (cast_unsigned w64 (low_half step)) 1) % 2 ^ 32 ≡ (x + step) % 2 ^ 32
step_added x step (inl low) =
    let half : step % 2 ^ 16 ≡ step = omega arith in
    by (cast_unsigned w64 (low_half step)) (ap (λ l. cast_unsigned w64 (cast_signed w16 l)) half ∙ half_low step low)
  where
    by : (y : ℕ) → y ≡ step → plus x (times y 1) % 2 ^ 32 ≡ (x + step) % 2 ^ 32
    by y e = omega arith
step_added x step (inr high) =
    let from = high.0 in
    let to = high.1 in
    by (cast_unsigned w64 (low_half step)) (half_high (step % 2 ^ 16) (omega arith) (omega arith))
  where
    by : (y : ℕ) → y ≡ 2 ^ 64 - 2 ^ 16 + step % 2 ^ 16 → plus x (times y 1) % 2 ^ 32 ≡ (x + step) % 2 ^ 32
    by y e = let from = high.0 in let to = high.1 in omega arith

-- LDAH of a number whose low half is 0
high_loaded : (base high : ℕ) → base ≡ 0 → high < 2 ^ 30 → high % 2 ^ 16 ≡ 0 → plus base (times (cast_unsigned w64 (high_half high)) 65536) ≡ high
high_loaded base high is lt low =
    let half : (high + 2 ^ 15) / 2 ^ 16 % 2 ^ 16 ≡ high / 2 ^ 16 = omega arith in
    by (cast_unsigned w64 (high_half high)) (ap (λ l. cast_unsigned w64 (cast_signed w16 l)) half ∙ half_low (high / 2 ^ 16) (omega arith))
  where
    by : (y : ℕ) → y ≡ high / 2 ^ 16 → plus base (times y 65536) ≡ high
    by y e = omega arith

status_high_is : (call : Call) → (status_high call < 2 ^ 30) × (status_high call % 2 ^ 16 ≡ 0)
status_high_is call = by call.stack
  where
    by : (b : Bool) → ((if b then 2 ^ 29 else 0) + call.mask % 4096 * 2 ^ 16 < 2 ^ 30) × (((if b then 2 ^ 29 else 0) + call.mask % 4096 * 2 ^ 16) % 2 ^ 16 ≡ 0)
    by true = (omega arith, omega arith)
    by false = (omega arith, omega arith)

-- the bits of a frame's status
pub status_joined : (psw list high : ℕ) → psw < 256 → high < 2 ^ 30 → high % 2 ^ 16 ≡ 0
    → bit_or (bit_or (bit_and psw 0xE0) high) (left (bit_and list 3) 30) % 2 ^ 32 ≡ list % 4 * 2 ^ 30 + (high + psw / 32 * 32)
status_joined psw list high small lt low =
    let traps : bit_and psw 0xE0 ≡ psw / 32 * 32 = and_high_mask 8 5 (lit≤ tt) psw small in
    let shifted : high / 2 ^ 16 * 2 ^ 16 ≡ high = omega arith in
    let inner : bit_or (psw / 32 * 32) high ≡ high + psw / 32 * 32 =
    or_comm (psw / 32 * 32) high ∙ (ap (λ h. bit_or h (psw / 32 * 32)) (sym shifted) ∙ (or_shifted (high / 2 ^ 16) 16 (psw / 32 * 32) (omega arith) ∙ ap (λ h. h + psw / 32 * 32) shifted)) in
    let bits : bit_and list 3 ≡ list % 4 = and_mask list 2 in
    let placed : left (list % 4) 30 ≡ list % 4 * 2 ^ 30 = omega arith in
    let outer : bit_or (high + psw / 32 * 32) (list % 4 * 2 ^ 30) ≡ list % 4 * 2 ^ 30 + (high + psw / 32 * 32) =
    or_comm (high + psw / 32 * 32) (list % 4 * 2 ^ 30) ∙ or_shifted (list % 4) 30 (high + psw / 32 * 32) (omega arith) in
    ap (λ x. bit_or (bit_or x high) (left (bit_and list 3) 30) % 2 ^ 32) traps
    ∙ (ap (λ x. bit_or x (left (bit_and list 3) 30) % 2 ^ 32) inner
    ∙ (ap (λ x. bit_or (high + psw / 32 * 32) (left x 30) % 2 ^ 32) bits
    ∙ (ap (λ x. bit_or (high + psw / 32 * 32) x % 2 ^ 32) placed ∙ (ap (λ x. x % 2 ^ 32) outer ∙ omega arith))))

-- ---- values
-- R22 and R26 may change
abbrev pub is_pushing : (register : ℕ) → Bool
is_pushing register = register == 22 || register == 26

-- what is pushed, by the registers
abbrev pub value_in : (after : ℕ) → Call → (steps : List ℕ) → Regs → Pushed → ℕ
value_in after call steps regs (pushes.Register number) = (regs number + slice_index steps number) % 2 ^ 32
value_in after call steps regs pushes.After = after
value_in after call steps regs pushes.Status = regs 23 % 4 * 2 ^ 30 + (status_high call + regs 20 / 32 * 32)
value_in after call steps regs pushes.NoHandler = 0

-- what is added to a register that is pushed, R0 to R14, is small
abbrev pub IsPushable : (steps : List ℕ) → Pushed → Type 0
IsPushable steps (pushes.Register number) = (number < 15) × IsSmallStep (slice_index steps number)
IsPushable steps pushed = Unit {0}

first_out : (a b : Bool) → (a || b) ≡ false → a ≡ false
first_out false b e = refl
first_out true b e = absurd (cc e)

second_out : (a b : Bool) → (a || b) ≡ false → b ≡ false
second_out false b e = e
second_out true b e = absurd (cc e)

pub not_first : (n : ℕ) → is_pushing n ≡ false → (n == 22) ≡ false
not_first n out = first_out (n == 22) (n == 26) out

not_second : (n : ℕ) → is_pushing n ≡ false → (n == 26) ≡ false
not_second n out = second_out (n == 22) (n == 26) out

module _ (p : Placement) (site : Site) (call : Call) (steps : List ℕ) where
  abbrev Makes : Pushed → Type 0
  Makes pushed = (need pc : ℕ) (rest : List Line) (regs : Regs) (t : Tree)
      → Within p site.behind pc (map plain (value_words site.after call steps pushed) ++ rest) → 1 ≤ length rest
      → regs 31 ≡ 0 → regs 20 < 256 → site.after < 2 ^ 32 → IsPushable steps pushed
      → ((g : Regs) → Only is_pushing regs g → g (value_register steps pushed) % 2 ^ 32 ≡ value_in site.after call steps regs pushed
      → Within p site.behind (pc + length (value_words site.after call steps pushed)) rest → Always p None need (at_place g (pc + length (value_words site.after call steps pushed))) t)
      → Always p None (length (value_words site.after call steps pushed) + need) (at_place regs pc) t

  register_made : (number : ℕ) → Makes (pushes.Register number)
  register_made number need pc rest regs t w some zero_reads status after small behind = by (slice_index steps number == 0) refl w behind
    where
      step : ℕ
      step = slice_index steps number

      by : (b : Bool) → (slice_index steps number == 0) ≡ b
          → Within p site.behind pc (map plain (if b then [] else Memory Lda 22 number (low_half (slice_index steps number)) ∷ []) ++ rest)
          → ((g : Regs) → Only is_pushing regs g → g (if b then number else 22) % 2 ^ 32 ≡ (regs number + slice_index steps number) % 2 ^ 32
          → Within p site.behind (pc + length (if b then [] else Memory Lda 22 number (low_half (slice_index steps number)) ∷ [])) rest
          → Always p None need (at_place g (pc + length (if b then [] else Memory Lda 22 number (low_half (slice_index steps number)) ∷ []))) t)
          → Always p None (length (if b then [] else Memory Lda 22 number (low_half (slice_index steps number)) ∷ []) + need) (at_place regs pc) t
      by true e w behind =
          let here : pc + 0 ≡ pc = omega arith in
          let none = eqb-true (slice_index steps number) 0 e in
          let value : regs number % 2 ^ 32 ≡ (regs number + slice_index steps number) % 2 ^ 32 = omega arith in
          roomy p None need (0 + need) (at_place regs pc) t (omega arith)
          (subst (λ q. Always p None need (at_place regs q) t) here (behind regs (λ n out. refl) value (subst (λ q. Within p site.behind q rest) (sym here) w)))
      by false e w behind =
          let lda = Memory Lda 22 number (low_half (slice_index steps number)) in
          let value = plus (regs number) (times (cast_unsigned w64 (low_half (slice_index steps number))) 1) in
          let end = w.high in
          roomy p None (need + 1) (1 + need) (at_place regs pc) t (omega arith)
          (goes p None need (at_place regs pc) (at_place (put regs 22 (plus (regs number) (times (cast_unsigned w64 (low_half (slice_index steps number))) 1))) (pc + 1)) lda t
          (stands p site.behind pc lda None rest w) refl (omega arith) (is_inside p site.behind pc (pc + 1) _ w (omega arith) (omega arith))
          (behind (put regs 22 (plus (regs number) (times (cast_unsigned w64 (low_half (slice_index steps number))) 1)))
          (λ n out. put_other regs 22 _ n (not_first n out)) (step_added (regs number) (slice_index steps number) small.1) (next p site.behind pc lda None rest w)))

  after_made : Makes pushes.After
  after_made need pc rest regs t w some zero_reads status after small behind =
      let high = load_high 22 site.after in
      let low = load_low 22 site.after in
      let first = plus (regs 31) (times (cast_unsigned w64 (high_half site.after)) 65536) in
      let w1 = next p site.behind pc high None (plain low ∷ rest) w in
      let w2 = next p site.behind (pc + 1) low None rest w1 in
      let end = w.high in
      let there : pc + 1 + 1 ≡ pc + 2 = omega arith in
      roomy p None (need + 1 + 1) (2 + need) (at_place regs pc) t (omega arith)
      (goes p None (need + 1) (at_place regs pc) (at_place (put regs 22 (plus (regs 31) (times (cast_unsigned w64 (high_half site.after)) 65536))) (pc + 1)) high t
      (stands p site.behind pc high None (plain low ∷ rest) w) refl (omega arith) (is_inside p site.behind pc (pc + 1) _ w (omega arith) (omega arith))
      (goes p None need (at_place (put regs 22 (plus (regs 31) (times (cast_unsigned w64 (high_half site.after)) 65536))) (pc + 1)) (at_place both (pc + 1 + 1)) low t
      (stands p site.behind (pc + 1) low None rest w1) refl (omega arith) (is_inside p site.behind pc (pc + 1 + 1) _ w (omega arith) (omega arith))
      (subst (λ q. Always p None need (at_place both q) t) (sym there)
      (behind both (λ n out. put_other (put regs 22 (plus (regs 31) (times (cast_unsigned w64 (high_half site.after)) 65536))) 22 _ n (not_first n out) ∙ put_other regs 22 _ n (not_first n out))
      (ap (λ x. plus (plus x (times (cast_unsigned w64 (high_half site.after)) 65536)) (times (cast_unsigned w64 (low_half site.after)) 1) % 2 ^ 32) zero_reads ∙ long_low site.after after)
      (subst (λ q. Within p site.behind q rest) there w2)))))
    where
      both : Regs
      both = put (put regs 22 (plus (regs 31) (times (cast_unsigned w64 (high_half site.after)) 65536))) 22 (plus (plus (regs 31) (times (cast_unsigned w64 (high_half site.after)) 65536)) (times (cast_unsigned w64 (low_half site.after)) 1))

  nothing_made : Makes pushes.NoHandler
  nothing_made need pc rest regs t w some zero_reads status after small behind =
      let here : pc + 0 ≡ pc = omega arith in
      roomy p None need (0 + need) (at_place regs pc) t (omega arith)
      (subst (λ q. Always p None need (at_place regs q) t) here (behind regs (λ n out. refl) (ap (λ n. n % 2 ^ 32) zero_reads) (subst (λ q. Within p site.behind q rest) (sym here) w)))

  status_made : Makes pushes.Status
  status_made need pc rest regs t w some zero_reads status after small behind =
      let high = load_high 26 (status_high call) in
      let w1 = next p site.behind pc first_word None (plain high ∷ (map plain last_words ++ rest)) w in
      let w2 = next p site.behind (pc + 1) high None (map plain last_words ++ rest) w1 in
      let w6 = row_rest p site.behind (pc + 1 + 1) last_words rest w2 in
      let end = w.high in
      let end2 = w2.high in
      let count = row_length p site.behind last_words rest in
      let there : pc + 1 + 1 + 4 ≡ pc + 6 = omega arith in
      let is_high = status_high_is call in
      let loaded = high_loaded (regs 31) (status_high call) zero_reads is_high.0 is_high.1 in
      roomy p None (4 + need + 1 + 1) (6 + need) (at_place regs pc) t (omega arith)
      (goes p None (4 + need + 1) (at_place regs pc) (at_place traps (pc + 1)) first_word t (stands p site.behind pc first_word None _ w) refl (omega arith) (is_inside p site.behind pc (pc + 1) _ w (omega arith) (omega arith))
      (goes p None (4 + need) (at_place traps (pc + 1)) (at_place raised (pc + 1 + 1)) high t (stands p site.behind (pc + 1) high None _ w1) refl (omega arith) (is_inside p site.behind pc (pc + 1 + 1) _ w (omega arith) (omega arith))
      (operates p None need last_words raised (pc + 1 + 1) t (row_words p site.behind (pc + 1 + 1) last_words rest w2) refl w2.low (omega arith) (λ q lt le. is_inside p site.behind (pc + 1 + 1) q _ w2 lt (omega arith))
      (subst (λ q. Always p None need (at_place (effects last_words raised) q) t) (sym there)
      (behind (effects last_words raised)
      (effects_only last_words is_pushing regs raised refl (λ n out. put_other traps 26 _ n (not_second n out) ∙ put_other regs 22 _ n (not_first n out)))
      (ap (λ h. bit_or (bit_or (bit_and (regs 20) 0xE0) h) (left (bit_and (regs 23) 3) 30) % 2 ^ 32) loaded ∙ status_joined (regs 20) (regs 23) (status_high call) status is_high.0 is_high.1)
      (subst (λ q. Within p site.behind q rest) there w6))))))
    where
      first_word : AlphaInstr
      first_word = Operate And 20 (second.Literal 0xE0) 22

      last_words : List AlphaInstr
      last_words =
          Operate Bis 22 (second.Register 26) 22
          ∷ Operate And 23 (second.Literal 3) 26
          ∷ Operate Sll 26 (second.Literal 30) 26
          ∷ Operate Bis 22 (second.Register 26) 22
          ∷ []

      traps : Regs
      traps = put regs 22 (bit_and (regs 20) 0xE0)

      raised : Regs
      raised = put traps 26 (plus (regs 31) (times (cast_unsigned w64 (high_half (status_high call))) 65536))

  pub makes_value : (pushed : Pushed) → Makes pushed
  makes_value (pushes.Register number) = register_made number
  makes_value pushes.After = after_made
  makes_value pushes.Status = status_made
  makes_value pushes.NoHandler = nothing_made
