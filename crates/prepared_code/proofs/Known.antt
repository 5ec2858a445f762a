-- What is known of each word holds of it.
use Rattle.std.proofs.Common.{◌≡◌, ◌≢◌, ℕ, zero, suc, ◌+◌, ◌%◌, ◌^◌, ◌<◌, ◌≤◌, ◌==◌, ◌&&◌, if◌then◌else◌, Bool, true, false, true≢false, min, nat_lt, ltb-true, ltb-false, lt-ltb, eqb-true, eq-eqb, List, length, get_or, Option, Some, None, refl, sym, ap, ap₂, ◌∙◌, subst, inl, inr, ⊎_elim, arith}
use Rattle.std.specs.Prelude.{ℤ, not, is_some, option_map, slice_get, slice_index, IfSome}
use Rattle.std.specs.Int.{cast_unsigned, w32}
use Rattle.std.specs.Option.{unwrap_or}
use Rattle.std.proofs.Math.ListN.{set}
use Rattle.std.proofs.lemmas.Bool.{and_parts}
use Rattle.std.proofs.lemmas.Option.{slice_get_cases, slice_get_within}
use Rattle.vt_words.specs.Quad.{cleared, kept}
use Rattle.address_map.specs.Pairs.{address_at}
use Rattle.alpha_encode.specs.Words.{IsEncodable, IsSecond, instr_at}
use Rattle.alpha_encode.specs.declared.instr.AlphaInstr.{AlphaInstr}
use Rattle.alpha_encode.specs.declared.instr.AlphaInstr.TheVariants.{Memory, Branch, Operate, Jump, Pal}
use Rattle.alpha_encode.specs.declared.instr.BranchOp.{BranchOp}
use Rattle.alpha_encode.specs.declared.instr.MemoryOp.{MemoryOp}
use Rattle.alpha_encode.specs.declared.instr.MemoryOp.TheVariants as load
use Rattle.alpha_encode.specs.declared.instr.OperateOp.{OperateOp}
use Rattle.alpha_encode.specs.declared.instr.OperateOp.TheVariants as row
use Rattle.alpha_encode.specs.declared.instr.Second.{Second}
use Rattle.alpha_encode.specs.declared.instr.Second.TheVariants.{Register, Literal}
use Rattle.alpha_encode.proofs.Reread.{first_below}
use Rattle.alpha_meaning.specs.Act.{links, target_of}
use Rattle.alpha_meaning.specs.Result.{result_of}
use Rattle.alpha_meaning.specs.State.{at_place, put, regs_of}
use Rattle.block_law.specs.Translations.{Code, fetch_of}
use Rattle.prepared_code.specs.Flats.{AreFlat, HasRegisters, IsInForm, IsItsWay, IsStraight, operand}
use Rattle.prepared_code.specs.Known.{AreKnown, branch_at, branch_to, branching, by_literal, ending, flat_at, flat_by, flat_of, forking, guess, in_form, is_begun, is_inside, landing, lands_at, leaving, memory_at, most_straight, nothing, operation, other, stays_behind, stays_inside, stop, straight_at, straight_words, sum, with_literal}
use Rattle.prepared_code.specs.Prepared.{AreReady}
use Rattle.prepared_code.specs.declared.flat.Flat.{Flat}
use Rattle.prepared_code.specs.declared.flat.Way.TheVariants as way
use Rattle.prepared_code.specs.declared.prepared.Word.{Word}
use Rattle.prepared_code.proofs.Flats.{IsAlone, IsFlatOf, StaysBehind, counted, counted_way, is_alone, is_branch, is_end, is_fork, is_landing, is_stop, others, put_in}
use Rattle.prepared_code.proofs.Words.{is_mark, ready_at}

-- ---- words of a code
not_not : (b : Bool) → b ≡ not (not b)
not_not true = refl
not_not false = refl

is_one : (code : Code) (ready : List Word) (word : ℕ) → AreReady code.words code.map ready (length code.words) → word < length ready → nat_lt word (length code.words) ≡ true
is_one code ready word are within = lt-ltb word (length code.words) (omega (arith, within, are.counted))

is_none : (code : Code) (ready : List Word) (word : ℕ) → AreReady code.words code.map ready (length code.words) → length ready ≤ word → nat_lt word (length code.words) ≡ false
is_none code ready word are past = by (nat_lt word (length code.words)) refl
  where
    by : (b : Bool) → nat_lt word (length code.words) ≡ b → b ≡ false
    by true e = absurd (omega (arith, ltb-true word (length code.words) e, past, are.counted))
    by false e = refl

-- what the number of a word that is looked up says
pub inside_there : (ready : List Word) (word : ℕ) (w : Word) → word < length ready → w ≡ get_or ready word w → (code : Code) → AreReady code.words code.map ready (length code.words)
    → (w.block == 0) ≡ is_inside code word
inside_there ready word w within found code are =
    not_not (w.block == 0)
    ∙ ap not (is_mark code.map word w.block (ready_at code.words code.map ready word w are within found).block)
    ∙ sym (ap (λ b. b && not (is_some (address_at code.map word))) (is_one code ready word are within))

pub inside_nowhere : (ready : List Word) (word : ℕ) → length ready ≤ word → (code : Code) → AreReady code.words code.map ready (length code.words) → false ≡ is_inside code word
inside_nowhere ready word past code are = sym (ap (λ b. b && not (is_some (address_at code.map word))) (is_none code ready word are past))

pub begun_there : (ready : List Word) (word : ℕ) (w : Word) → word < length ready → w ≡ get_or ready word w → (code : Code) → AreReady code.words code.map ready (length code.words)
    → not (w.block == 0) ≡ is_begun code word
begun_there ready word w within found code are =
    is_mark code.map word w.block (ready_at code.words code.map ready word w are within found).block
    ∙ sym (ap (λ b. b && is_some (address_at code.map word)) (is_one code ready word are within))

pub begun_nowhere : (ready : List Word) (word : ℕ) → length ready ≤ word → (code : Code) → AreReady code.words code.map ready (length code.words) → false ≡ is_begun code word
begun_nowhere ready word past code are = sym (ap (λ b. b && is_some (address_at code.map word)) (is_none code ready word are past))

inside_none : (code : Code) (word : ℕ) → is_inside code word ≡ true → address_at code.map word ≡ None
inside_none code word e = by (address_at code.map word) (and_parts (nat_lt word (length code.words)) (not (is_some (address_at code.map word))) e).1
  where
    by : (o : Option ℕ) → not (is_some o) ≡ true → o ≡ None
    by None e = refl
    by (Some address) e = cc e

-- ---- operations
-- an instruction computes what a flat word says, and does nothing else
record IsComputed (i : AlphaInstr) (f : Flat) : Type 0 where
  registers : HasRegisters f
  is : IsFlatOf i f
  number : f.number ≡ 1
  plain : f.way ≡ way.Other

-- R31 reads 0
reads : (r : List ℕ) (b : ℕ) → regs_of r b ≡ (if b == 31 then 0 else regs_of r b)
unfolding regs_of
reads r b = by (b == 31) refl
  where
    by : (t : Bool) → (b == 31) ≡ t → regs_of r b ≡ (if t then 0 else regs_of r b)
    by true e = ap (regs_of r) (eqb-true b 31 e)
    by false e = refl

literal_registers : (op : OperateOp) (a literal c : ℕ) → a < 32 → c < 32 → HasRegisters (by_literal op a literal c)
literal_registers op a literal c ha hc = record { a = ha; b = omega arith; c = hc; second = inl refl }

with_literal_is : (op : OperateOp) (a n c : ℕ) → a < 32 → n < 256 → c < 32 → IsComputed (Operate op a (Literal n) c) (with_literal op a n c)
with_literal_is row.Zapnot a n c ha hn hc =
    let same : n % 2 ^ 8 ≡ n = omega (arith, hn) in
    record {
      registers = literal_registers _ a _ c ha hc;
      is = λ r pc. ap (λ m. Some (at_place (put (regs_of r) c (kept m (regs_of r a))) (pc + 1))) same;
      number = refl;
      plain = refl;
    }
with_literal_is row.Zap a n c ha hn hc =
    let same : n % 2 ^ 8 ≡ n = omega (arith, hn) in
    record {
      registers = literal_registers _ a _ c ha hc;
      is = λ r pc. ap (λ m. Some (at_place (put (regs_of r) c (cleared m (regs_of r a))) (pc + 1))) same;
      number = refl;
      plain = refl;
    }
with_literal_is op a n c ha hn hc = record { registers = literal_registers op a n c ha hc; is = λ r pc. refl; number = refl; plain = refl }

operation_is : (op : OperateOp) (a : ℕ) (second : Second) (c : ℕ) → a < 32 → IsSecond second → c < 32 → IsComputed (Operate op a second c) (operation op a second c)
operation_is op a (Register b) c ha hb hc = record {
  registers = record { a = ha; b = hb; c = hc; second = inr refl };
  is = λ r pc. ap (λ v. Some (at_place (put (regs_of r) c (result_of op (regs_of r a) v (regs_of r c))) (pc + 1))) (reads r b);
  number = refl;
  plain = refl;
}
operation_is op a (Literal n) c ha hn hc = with_literal_is op a n c ha hn hc

-- ---- one word
nothing_told : (code : Code) (place : ℕ) → IsAlone code place other
nothing_told code place = record { few = omega arith; straight = λ e. absurd (omega (arith, e)); its_way = tt }

-- in the form in which it runs
record IsFormed (i : AlphaInstr) (f : Flat) : Type 0 where
  form : IsInForm f
  is : IsFlatOf i f
  number : f.number ≡ 1
  plain : f.way ≡ way.Other

formed : (i : AlphaInstr) (f : Flat) → IsComputed i f → IsFormed i (in_form f)
formed i f it = by (f.c == 31) refl
  where
    by : (b : Bool) → (f.c == 31) ≡ b → IsFormed i (if b then nothing else f)
    by true e = record {
      form = record {
        registers = record { a = omega arith; b = omega arith; c = omega arith; second = inl refl };
        zero = λ r31. record { op = refl; a = refl; b = refl; literal = refl };
      };
      is = λ r pc. it.is r pc ∙ ap (λ n. Some (at_place (put (regs_of r) n (result_of f.op (regs_of r f.a) (operand f (regs_of r)) (regs_of r f.c))) (pc + 1))) (eqb-true f.c 31 e);
      number = refl;
      plain = refl;
    }
    by false e = record { form = record { registers = it.registers; zero = λ r31. absurd (true≢false (sym (eq-eqb f.c 31 r31) ∙ e)) }; is = it.is; number = it.number; plain = it.plain }

-- a form that says so of the end of a block
ending_form : (f : Flat) → IsInForm f → IsInForm (ending f)
ending_form f form = record { registers = record { a = form.registers.a; b = form.registers.b; c = form.registers.c; second = form.registers.second }; zero = λ r31. let none = form.zero r31 in record { op = none.op; a = none.a; b = none.b; literal = none.literal } }

straight_alone : (code : Code) (place : ℕ) (i : AlphaInstr) (f : Flat) → fetch_of code.words place ≡ Some i → IsComputed i f → IsAlone code place (straight_at code place f)
straight_alone code place i f fetched it = by (is_inside code (place + 1)) refl
  where
    g : IsFormed i (in_form f)
    g = formed i f it

    ends : (b : Bool) → is_begun code (place + 1) ≡ b → IsAlone code place (if b then ending (in_form f) else other)
    ends true e =
        is_end code place i (ending (in_form f)) fetched (and_parts (nat_lt (place + 1) (length code.words)) (is_some (address_at code.map (place + 1))) e).1
        (ending_form (in_form f) g.form) g.is refl refl
    ends false e = nothing_told code place

    by : (b : Bool) → is_inside code (place + 1) ≡ b → IsAlone code place (if b then in_form f else if is_begun code (place + 1) then ending (in_form f) else other)
    by true e = is_alone code place i (in_form f) fetched (inside_none code (place + 1) e) g.form g.is g.number g.plain
    by false e = ends (is_begun code (place + 1)) refl

memory_alone : (code : Code) (place : ℕ) (op : MemoryOp) (a base : ℕ) (disp : ℤ) → fetch_of code.words place ≡ Some (Memory op a base disp) → a < 32 → base < 32
    → IsAlone code place (memory_at code place op a base disp)
memory_alone code place load.Lda a base disp fetched ha hb =
    straight_alone code place (Memory load.Lda a base disp) (sum load.Lda a base disp) fetched
    (record { registers = literal_registers _ base _ a hb ha; is = λ r pc. refl; number = refl; plain = refl })
memory_alone code place load.Ldah a base disp fetched ha hb =
    straight_alone code place (Memory load.Ldah a base disp) (sum load.Ldah a base disp) fetched
    (record { registers = literal_registers _ base _ a hb ha; is = λ r pc. refl; number = refl; plain = refl })
memory_alone code place op a base disp fetched ha hb = is_stop code place (Memory op a base disp) stop fetched (λ c. refl) refl refl

behind_is : (code : Code) (place : ℕ) (op : BranchOp) (a : ℕ) → stays_behind code place op a ≡ true → StaysBehind code place op a
behind_is code place op a e = by (links op) refl e
  where
    by : (b : Bool) → links op ≡ b → (if b then a == 31 else is_inside code (place + 1)) ≡ true → StaysBehind code place op a
    by true l e = inl (l, eqb-true a 31 e)
    by false l e = inr (l, inside_none code (place + 1) e)

target_fits : (place : ℕ) (disp : ℤ) → target_of place disp < 2 ^ 32
target_fits place disp = below (place + 1 + cast_unsigned w32 disp)
  where
    below : (n : ℕ) → n % 2 ^ 32 < 2 ^ 32
    below n = omega arith

branch_alone : (code : Code) (place : ℕ) (op : BranchOp) (a : ℕ) (disp : ℤ) → fetch_of code.words place ≡ Some (Branch op a disp) → a < 32 → IsAlone code place (branch_at code place op a disp)
branch_alone code place op a disp fetched ha = by (lands_at code op a (target_of place disp)) refl
  where
    fork : (b : Bool) → links op ≡ b → IsAlone code place (if b then other else forking op a (target_of place disp))
    fork true l = nothing_told code place
    fork false l = is_fork code place op (forking op a (target_of place disp)) disp fetched l refl refl ha (target_fits place disp) refl

    inner : (b : Bool) → stays_inside code place op a (target_of place disp) ≡ b → IsAlone code place (if b then branching op a (target_of place disp) else leaving op a (target_of place disp))
    inner true e =
        let parts = and_parts (stays_behind code place op a) (is_inside code (target_of place disp)) e in
        is_branch code place op (branching op a (target_of place disp)) disp fetched refl refl ha (target_fits place disp) refl (inside_none code (target_of place disp) parts.1) (behind_is code place op a parts.0)
    inner false e = fork (links op) refl

    by : (b : Bool) → lands_at code op a (target_of place disp) ≡ b
        → IsAlone code place (if b then landing (target_of place disp) else if stays_inside code place op a (target_of place disp) then branching op a (target_of place disp) else leaving op a (target_of place disp))
    by true e =
        let parts = and_parts (links op) (a == 31 && is_begun code (target_of place disp)) e in
        let more = and_parts (a == 31) (is_begun code (target_of place disp)) parts.1 in
        let begun = and_parts (nat_lt (target_of place disp) (length code.words)) (is_some (address_at code.map (target_of place disp))) more.1 in
        is_landing code place a op (landing (target_of place disp)) disp fetched parts.0 (eqb-true a 31 more.0) refl refl (target_fits place disp) refl begun.1
    by false e = inner (stays_inside code place op a (target_of place disp)) refl

alone_by : (code : Code) (place : ℕ) (i : AlphaInstr) → fetch_of code.words place ≡ Some i → IsEncodable i → IsAlone code place (flat_by code place i)
alone_by code place (Memory op ra rb disp) fetched fits = memory_alone code place op ra rb disp fetched fits.0 fits.1
alone_by code place (Branch op ra disp) fetched fits = branch_alone code place op ra disp fetched fits.0
alone_by code place (Operate op ra rb rc) fetched fits =
    straight_alone code place (Operate op ra rb rc) (operation op ra rb rc) fetched (operation_is op ra rb rc (first_below op ra fits.0) fits.1 fits.2)
alone_by code place (Jump ra rb) fetched fits = nothing_told code place
alone_by code place (Pal number) fetched fits = is_stop code place (Pal number) stop fetched (λ c. refl) refl refl

pub alone_at : (code : Code) (place : ℕ) → IfSome (fetch_of code.words place) IsEncodable → IsAlone code place (flat_at code place)
alone_at code place fits = by (fetch_of code.words place) refl fits
  where
    by : (o : Option AlphaInstr) → fetch_of code.words place ≡ o → IfSome o IsEncodable → IsAlone code place (unwrap_or (option_map (flat_by code place) o) other)
    by None fetched fits = nothing_told code place
    by (Some i) fetched fits = alone_by code place i fetched fits

-- which way a branch has
pub way_of : (code : Code) (place : ℕ) (op : BranchOp) (a target : ℕ) (lands stays : Bool) → lands ≡ lands_at code op a target → stays ≡ stays_inside code place op a target
    → (if lands then landing target else if stays then branching op a target else leaving op a target) ≡ branch_to code place op a target
way_of code place op a target lands stays e s = ap₂ (λ (b d : Bool). if b then landing target else if d then branching op a target else leaving op a target) e s

-- nothing is told behind the words
pub other_behind : (code : Code) (place : ℕ) → length code.words ≤ place → flat_at code place ≡ other
other_behind code place past = by (nat_lt place (length code.words)) refl
  where
    by : (b : Bool) → nat_lt place (length code.words) ≡ b → unwrap_or (option_map (flat_by code place) (if b then instr_at (slice_index code.words place) else None)) other ≡ other
    by true e = absurd (omega (arith, ltb-true place (length code.words) e, past))
    by false e = refl

-- ---- words in a row
-- behind the words none is straight
is_word : (code : Code) (place : ℕ) → ((flat_at code place).number == 0) ≡ false → place < length code.words
is_word code place e = by (nat_lt place (length code.words)) refl e
  where
    by : (b : Bool) → nat_lt place (length code.words) ≡ b
        → ((unwrap_or (option_map (flat_by code place) (if b then instr_at (slice_index code.words place) else None)) other).number == 0) ≡ false → place < length code.words
    by true l e = ltb-true place (length code.words) l
    by false l e = absurd (true≢false e)

words_within : (code : Code) (most place : ℕ) → place ≤ length code.words → place + straight_words code place most ≤ length code.words
words_within code zero place here = omega (arith, here)
words_within code (suc most) place here = by ((flat_at code place).number == 0) refl (words_within code most (place + 1))
  where
    by : (b : Bool) → ((flat_at code place).number == 0) ≡ b → (place + 1 ≤ length code.words → place + 1 + straight_words code (place + 1) most ≤ length code.words)
        → place + (if b then 0 else suc (straight_words code (place + 1) most)) ≤ length code.words
    by true e later = omega (arith, here)
    by false e later = let inside = is_word code place e in let rest = later (omega (arith, inside)) in omega (arith, rest)

-- each of them is straight for itself
straight_there : (code : Code) (most place k : ℕ) → k < straight_words code place most → ((flat_at code (place + k)).number == 0) ≡ false
straight_there code zero place k h = absurd (omega (arith, h))
straight_there code (suc most) place k h = by ((flat_at code place).number == 0) refl k h (straight_there code most (place + 1))
  where
    by : (b : Bool) → ((flat_at code place).number == 0) ≡ b → (k : ℕ) → k < (if b then 0 else suc (straight_words code (place + 1) most))
        → ((j : ℕ) → j < straight_words code (place + 1) most → ((flat_at code (place + 1 + j)).number == 0) ≡ false) → ((flat_at code (place + k)).number == 0) ≡ false
    by true e k h later = absurd (omega (arith, h))
    by false e zero h later = let here : place ≡ place + zero = omega arith in subst (λ n. ((flat_at code n).number == 0) ≡ false) here e
    by false e (suc j) h later =
        let there : place + 1 + j ≡ place + suc j = omega arith in
        subst (λ n. ((flat_at code n).number == 0) ≡ false) there (later j (omega (arith, h)))

-- one more is counted, where a byte counts it
one_fewer : (code : Code) (most place : ℕ) → straight_words code place most ≡ min (straight_words code place (suc most)) most
one_fewer code zero place = none (straight_words code place (suc zero))
  where
    none : (all : ℕ) → zero ≡ min all zero
    none all = omega arith
one_fewer code (suc most) place = by ((flat_at code place).number == 0) (one_fewer code most (place + 1))
  where
    more : (fewer all most : ℕ) → fewer ≡ min all most → suc fewer ≡ min (suc all) (suc most)
    more fewer all most e = omega (arith, e)

    by : (b : Bool) → straight_words code (place + 1) most ≡ min (straight_words code (place + 1) (suc most)) most
        → (if b then 0 else suc (straight_words code (place + 1) most)) ≡ min (if b then 0 else suc (straight_words code (place + 1) (suc most))) (suc most)
    by true later = omega arith
    by false later = more (straight_words code (place + 1) most) (straight_words code (place + 1) (suc most)) most later

pub one_more_number : (code : Code) (place alone behind number : ℕ) → alone ≡ (flat_at code place).number → behind ≡ straight_words code (place + 1) most_straight → (alone ≡ 0 → number ≡ 0)
    → (alone ≢ 0 → number ≡ min (behind + 1) most_straight) → number ≡ straight_words code place most_straight
one_more_number code place alone behind number here there none more = by ((flat_at code place).number == 0) refl
  where
    one_more : (number behind fewer all : ℕ) → number ≡ min (behind + 1) 255 → fewer ≡ min all 254 → behind ≡ all → number ≡ suc fewer
    one_more number behind fewer all counts less there = omega (arith, counts, less, there)

    by : (b : Bool) → ((flat_at code place).number == 0) ≡ b → number ≡ (if b then 0 else suc (straight_words code (place + 1) 254))
    by true e = none (here ∙ eqb-true (flat_at code place).number 0 e)
    by false e =
        let some : alone ≢ 0 = λ z. true≢false (sym (eq-eqb (flat_at code place).number 0 (sym here ∙ z)) ∙ e) in
        let fewer : straight_words code (place + 1) 254 ≡ min (straight_words code (place + 1) 255) 254 = one_fewer code 254 (place + 1) in
        one_more number behind (straight_words code (place + 1) 254) (straight_words code (place + 1) 255) (more some) fewer there

pub none_behind : (code : Code) (place : ℕ) → length code.words ≤ place → straight_words code place most_straight ≡ 0
none_behind code place past = by ((flat_at code place).number == 0) refl
  where
    by : (b : Bool) → ((flat_at code place).number == 0) ≡ b → (if b then 0 else suc (straight_words code (place + 1) 254)) ≡ 0
    by true e = refl
    by false e = absurd (omega (arith, is_word code place e, past))

-- ---- all words
-- those from one on
abbrev pub AreKnownFrom : Code → List Flat → (from : ℕ) → Type 0
AreKnownFrom code flats from = (k : ℕ) (f : Flat) → from ≤ k → slice_get flats k ≡ Some f → f ≡ flat_of code k

pub one_more_known : (code : Code) (old : List Flat) (place number within : ℕ) (f : Flat) → place < length old → f ≡ flat_at code place → number ≡ straight_words code place most_straight
    → within ≡ guess code place → AreKnownFrom code old (place + 1) → AreKnownFrom code (set old place (record f { number = number; within = within })) place
one_more_known code old place number within f here is counts guessed are k h l found = by (nat_lt place k) refl
  where
    new : Flat
    new = record f { number = number; within = within }

    it : new ≡ flat_of code place
    it =
        ap₂ (λ (g : Flat) (n : ℕ). record g { number = n; within = within }) is counts
        ∙ ap (λ n. record (flat_at code place) { number = straight_words code place most_straight; within = n }) guessed

    by : (b : Bool) → nat_lt place k ≡ b → h ≡ flat_of code k
    by true e =
        let behind = ltb-true place k e in
        are k h (omega (arith, behind)) (others old place k new h (λ q. omega (arith, behind, q)) found)
    by false e =
        let at : place ≡ k = omega (arith, l, ltb-false place k e) in
        subst (λ i. h ≡ flat_of code i) at
        (subst (λ (g : Flat). g ≡ flat_of code place) (put_in old place new h here (ap (slice_get (set old place new)) at ∙ found)) it)

encodable_at : (code : Code) (ready : List Word) → AreReady code.words code.map ready (length code.words) → (k : ℕ) → IfSome (fetch_of code.words k) IsEncodable
encodable_at code ready are k =
    ⊎_elim
    (λ (p : (w : Word) × (k < length ready) × (slice_get ready k ≡ Some w) × (get_or ready k w ≡ w)).
    let it = are.each k p.0 (omega (arith, p.1, are.counted)) p.2 in
    subst (λ (o : Option AlphaInstr). IfSome o IsEncodable) it.instr it.encodable)
    (λ (p : (length ready ≤ k) × (slice_get ready k ≡ None)).
    subst (λ (b : Bool). IfSome (if b then instr_at (slice_index code.words k) else None) IsEncodable) (sym (is_none code ready k are p.0)) tt)
    (slice_get_cases ready k).1

-- so a run may rest on them
pub are_flat : (code : Code) (ready : List Word) (flats : List Flat) → AreReady code.words code.map ready (length code.words) → AreKnown code flats → AreFlat code flats
are_flat code ready flats are known k f found =
    let alone = alone_at code k (encodable_at code ready are k) in
    let is = known.each k f found in
    let number : f.number ≡ straight_words code k most_straight = ap (λ (g : Flat). g.number) is in
    let within = slice_get_within flats k f found in
    let fits = words_within code most_straight k (omega (arith, within, known.counted)) in
    record {
      within = omega (arith, number, fits, known.counted);
      straight = λ j g h there. one j g (subst (λ n. j < n) number h) there;
      its_way =
          subst (λ (g : Flat). IsItsWay code k g g.way) (sym is)
          (counted_way code k (straight_words code k most_straight) (guess code k) (flat_at code k) (flat_at code k).way alone.its_way);
    }
  where
    one : (j : ℕ) (g : Flat) → j < straight_words code k most_straight → slice_get flats (k + j) ≡ Some g → IsStraight code (k + j) g
    one j g h there =
        let alone = alone_at code (k + j) (encodable_at code ready are (k + j)) in
        let some : (flat_at code (k + j)).number ≢ 0 = λ z. true≢false (sym (eq-eqb (flat_at code (k + j)).number 0 z) ∙ straight_there code most_straight k j h) in
        subst (IsStraight code (k + j)) (sym (known.each (k + j) g there))
        (counted code (k + j) (straight_words code (k + j) most_straight) (guess code (k + j)) (flat_at code (k + j)) (alone.straight (omega (arith, some, alone.few))))
