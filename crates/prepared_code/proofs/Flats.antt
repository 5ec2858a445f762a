-- Words ready to be run.
use Rattle.std.proofs.Common.{◌≡◌, ◌≢◌, ℕ, ◌+◌, ◌-◌, ◌%◌, ◌^◌, ◌<◌, ◌≤◌, if◌then◌else◌, Bool, true, false, List, length, get_or, Option, Some, None, refl, sym, ap, ◌∙◌, subst, inl, inr, ◌⊎◌, arith}
use Rattle.std.specs.Int.{w32}
use Rattle.std.specs.Prelude.{ℤ, ◌==◌, pos, negsuc, ◌≤ℤ◌, ◌<ℤ◌, FitsSigned, is_some, option_and_then, slice_get}
use Rattle.std.proofs.Math.ListN.{set}
use Rattle.std.proofs.lemmas.Bool.{eqb-true}
use Rattle.std.proofs.lemmas.Int.{ints}
use Rattle.std.proofs.lemmas.List.{get_or-set_same, get_or-set_other, length-set}
use Rattle.std.proofs.lemmas.Option.{slice_get-get_or, slice_get_read, slice_get_within}
use Rattle.address_map.specs.Pairs.{Pair, address_at}
use Rattle.alpha_encode.specs.declared.instr.AlphaInstr.{AlphaInstr}
use Rattle.alpha_encode.specs.declared.instr.AlphaInstr.TheVariants.{Branch}
use Rattle.alpha_encode.specs.declared.instr.BranchOp.{BranchOp}
use Rattle.alpha_encode.specs.declared.instr.BranchOp.TheVariants as row
use Rattle.alpha_encode.specs.declared.instr.OperateOp.TheVariants.{Bis}
use Rattle.alpha_meaning.specs.Act.{act, links, link_of, taken, target_of}
use Rattle.alpha_meaning.specs.Result.{result_of}
use Rattle.alpha_meaning.specs.State.{Alpha, Regs, at_place, put, regs_of}
use Rattle.block_law.specs.Translations.{Code, fetch_of}
use Rattle.prepared_code.specs.Effects.{local}
use Rattle.prepared_code.specs.Flats.{AreFlat, IsFlat, IsInForm, IsItsWay, IsLanding, IsNothing, IsStraight, effect, operand}
use Rattle.prepared_code.specs.Inside.{local_at, local_by, step_in, unless_begun}
use Rattle.prepared_code.specs.Prepared.{AreEncodable, AreReady}
use Rattle.prepared_code.specs.declared.flat.Flat.{Flat}
use Rattle.prepared_code.specs.declared.flat.Way.{Way}
use Rattle.prepared_code.specs.declared.flat.Way.TheVariants as way
use Rattle.prepared_code.specs.declared.prepared.Word.{Word}

-- ---- what is told of a word for itself
-- an instruction does what a flat word says
abbrev pub IsFlatOf : AlphaInstr → Flat → Type 0
IsFlatOf i f = (r : List ℕ) (pc : ℕ) → local (act i (at_place (regs_of r) pc)) ≡ Some (at_place (effect f (regs_of r)) (pc + 1))

-- a branch writes no register, and no block begins at the next word where it may go there
abbrev pub StaysBehind : Code → (place : ℕ) → BranchOp → (a : ℕ) → Type 0
StaysBehind code place op a = ((links op ≡ true) × (a ≡ 31)) ⊎ ((links op ≡ false) × (address_at code.map (place + 1) ≡ None))

-- a word for itself: those behind it aren't counted
pub record IsAlone (code : Code) (place : ℕ) (f : Flat) : Type 0 where
  pub few : f.number ≤ 1
  pub straight : f.number ≡ 1 → IsStraight code place f
  pub its_way : IsItsWay code place f f.way

-- ---- one word
-- the next local step, where the word's instruction is known
stays : (code : Code) (c d : Alpha) (i : AlphaInstr) → fetch_of code.words c.pc ≡ Some i → local_by (Some i) c ≡ Some d → address_at code.map d.pc ≡ None → step_in code c ≡ Some d
stays code c d i fetched does inside =
    ap (λ o. option_and_then (λ (e : Alpha). unless_begun (address_at code.map e.pc) e) (local_by o c)) fetched
    ∙ ap (option_and_then (λ (e : Alpha). unless_begun (address_at code.map e.pc) e)) does
    ∙ ap (λ o. unless_begun o d) inside

pub is_straight : (code : Code) (place : ℕ) (i : AlphaInstr) (f : Flat) → fetch_of code.words place ≡ Some i → address_at code.map (place + 1) ≡ None → IsInForm f → IsFlatOf i f → IsStraight code place f
is_straight code place i f fetched inside form is = record {
  form = form;
  step = λ r. stays code (at_place (regs_of r) place) (at_place (effect f (regs_of r)) (place + 1)) i fetched (is r place) inside;
}

-- where a branch writes R31 alone, it leaves the registers
unwritten : (op : BranchOp) (a value : ℕ) (regs : Regs) → (links op ≡ false) ⊎ (a ≡ 31) → (if links op then put regs a value else regs) ≡ regs
unwritten op a value regs (inl none) = ap (λ b. if b then put regs a value else regs) none
unwritten op a value regs (inr r31) = by (links op)
  where
    by : (b : Bool) → (if b then put regs a value else regs) ≡ regs
    by true = ap (λ n. put regs n value) r31
    by false = refl

always_taken : (op : BranchOp) (x : ℕ) → links op ≡ true → taken op x ≡ true
always_taken row.Br x e = refl
always_taken row.Bsr x e = refl
always_taken op x e = cc e

writes_nothing : (code : Code) (place : ℕ) (op : BranchOp) (a : ℕ) → StaysBehind code place op a → (links op ≡ false) ⊎ (a ≡ 31)
writes_nothing code place op a (inl (writes, r31)) = inr r31
writes_nothing code place op a (inr (none, next)) = inl none

stays_at : (code : Code) (place : ℕ) (op : BranchOp) (a x target : ℕ) → address_at code.map target ≡ None → StaysBehind code place op a → (b : Bool) → taken op x ≡ b
    → address_at code.map (if b then target else place + 1) ≡ None
stays_at code place op a x target inside behind true e = inside
stays_at code place op a x target inside (inl (writes, r31)) false e = let no = always_taken op x writes in cc
stays_at code place op a x target inside (inr (none, next)) false e = next

branches : (code : Code) (place : ℕ) (op : BranchOp) (a target : ℕ) (disp : ℤ) → fetch_of code.words place ≡ Some (Branch op a disp) → target ≡ target_of place disp
    → address_at code.map target ≡ None → StaysBehind code place op a
    → (r : List ℕ) → step_in code (at_place (regs_of r) place) ≡ Some (at_place (regs_of r) (if taken op (regs_of r a) then target else place + 1))
branches code place op a target disp fetched there inside behind r =
    let t = taken op (regs_of r a) in
    stays code (at_place (regs_of r) place) (at_place (regs_of r) (if t then target else place + 1)) (Branch op a disp) fetched
    (ap (λ regs. Some (at_place regs (if t then target_of place disp else place + 1))) (unwritten op a (link_of place) (regs_of r) (writes_nothing code place op a behind))
    ∙ ap (λ n. Some (at_place (regs_of r) (if t then n else place + 1))) (sym there))
    (stays_at code place op a (regs_of r a) target inside behind t refl)

its_way : (code : Code) (place : ℕ) (f : Flat) (w : Way) → f.number ≡ 0 → f.way ≡ w → IsItsWay code place f w → IsAlone code place f
its_way code place f w none it is = record {
  few = omega (arith, none);
  straight = λ e. absurd (omega (arith, none, e));
  its_way = subst (IsItsWay code place f) (sym it) is;
}

pub is_branch : (code : Code) (place : ℕ) (op : BranchOp) (f : Flat) (disp : ℤ) → fetch_of code.words place ≡ Some (Branch op f.a disp) → f.number ≡ 0 → f.way ≡ way.Branches op → f.a < 32 → f.literal < 2 ^ 32
    → f.literal ≡ target_of place disp → address_at code.map f.literal ≡ None → StaysBehind code place op f.a → IsAlone code place f
is_branch code place op f disp fetched none it a target there inside behind =
    its_way code place f (way.Branches op) none it (record {
      register = a;
      target = target;
      step = branches code place op f.a f.literal disp fetched there inside behind;
    })

-- where a branch is taken whatever the registers hold, and writes R31
goes_there : (op : BranchOp) (place a target : ℕ) (disp : ℤ) → links op ≡ true → a ≡ 31 → target ≡ target_of place disp → (regs : Regs)
    → local_by (Some (Branch op a disp)) (at_place regs place) ≡ Some (at_place regs target)
goes_there row.Br place a target disp always r31 there regs =
    ap (λ n. local_by (Some (Branch row.Br n disp)) (at_place regs place)) r31 ∙ ap (λ n. Some (at_place regs n)) (sym there)
goes_there row.Bsr place a target disp always r31 there regs =
    ap (λ n. local_by (Some (Branch row.Bsr n disp)) (at_place regs place)) r31 ∙ ap (λ n. Some (at_place regs n)) (sym there)
goes_there op place a target disp always r31 there regs = cc always

pub is_landing : (code : Code) (place a : ℕ) (op : BranchOp) (f : Flat) (disp : ℤ) → fetch_of code.words place ≡ Some (Branch op a disp) → links op ≡ true → a ≡ 31 → f.number ≡ 0 → f.way ≡ way.Lands → f.literal < 2 ^ 32
    → f.literal ≡ target_of place disp → is_some (address_at code.map f.literal) ≡ true → IsAlone code place f
is_landing code place a op f disp fetched always r31 none it target there begins =
    its_way code place f way.Lands none it (record {
      target = target;
      goes = λ regs. ap (λ o. local_by o (at_place regs place)) fetched ∙ goes_there op place a f.literal disp always r31 there regs;
      begins = begins;
    })

-- an operation behind which a block begins
pub is_end : (code : Code) (place : ℕ) (i : AlphaInstr) (f : Flat) → fetch_of code.words place ≡ Some i → is_some (address_at code.map (place + 1)) ≡ true → IsInForm f → IsFlatOf i f → f.number ≡ 0 → f.way ≡ way.Ends → IsAlone code place f
is_end code place i f fetched begins form is none it =
    its_way code place f way.Ends none it (record {
      form = form;
      goes = λ r. ap (λ o. local_by o (at_place (regs_of r) place)) fetched ∙ is r place;
      begins = begins;
    })

-- a conditional branch
pub is_fork : (code : Code) (place : ℕ) (op : BranchOp) (f : Flat) (disp : ℤ) → fetch_of code.words place ≡ Some (Branch op f.a disp) → links op ≡ false → f.number ≡ 0 → f.way ≡ way.Forks op → f.a < 32 → f.literal < 2 ^ 32 → f.literal ≡ target_of place disp → IsAlone code place f
is_fork code place op f disp fetched conditional none it a target there =
    its_way code place f (way.Forks op) none it (record {
      register = a;
      target = target;
      goes = λ r.
          ap (λ o. local_by o (at_place (regs_of r) place)) fetched
          ∙ ap (λ regs. Some (at_place regs (if taken op (regs_of r f.a) then target_of place disp else place + 1))) (unwritten op f.a (link_of place) (regs_of r) (inl conditional))
          ∙ ap (λ n. Some (at_place (regs_of r) (if taken op (regs_of r f.a) then n else place + 1))) (sym there);
    })

-- an access and a PALcode call are no local steps
pub is_stop : (code : Code) (place : ℕ) (i : AlphaInstr) (f : Flat) → fetch_of code.words place ≡ Some i → ((c : Alpha) → local_by (Some i) c ≡ None) → f.number ≡ 0 → f.way ≡ way.Stops → IsAlone code place f
is_stop code place i f fetched local none it =
    its_way code place f way.Stops none it (record {
      none = λ r. ap (λ o. local_by o (at_place (regs_of r) place)) fetched ∙ local (at_place (regs_of r) place);
      stops = λ r.
          ap (λ o. option_and_then (λ (e : Alpha). unless_begun (address_at code.map e.pc) e) (local_by o (at_place (regs_of r) place))) fetched
          ∙ ap (option_and_then (λ (e : Alpha). unless_begun (address_at code.map e.pc) e)) (local (at_place (regs_of r) place));
    })

-- where a block begins at the next word, no step stays inside
pub lands_outside : (code : Code) (place : ℕ) (f : Flat) → IsLanding code place f → (regs : Regs) → step_in code (at_place regs place) ≡ None
lands_outside code place f is regs = ap (option_and_then (λ (e : Alpha). unless_begun (address_at code.map e.pc) e)) (is.goes regs) ∙ by (address_at code.map f.literal) is.begins
  where
    by : (o : Option ℕ) → is_some o ≡ true → unless_begun o (at_place regs f.literal) ≡ None
    by None e = cc e
    by (Some address) e = refl

-- where a block begins at the next word, or at the one to which a local step goes, it does not stay inside
pub comes_outside : (code : Code) (c d : Alpha) → local_at code c ≡ Some d → is_some (address_at code.map d.pc) ≡ true → step_in code c ≡ None
comes_outside code c d goes begins = ap (option_and_then (λ (e : Alpha). unless_begun (address_at code.map e.pc) e)) goes ∙ by (address_at code.map d.pc) begins
  where
    by : (o : Option ℕ) → is_some o ≡ true → unless_begun o d ≡ None
    by None e = cc e
    by (Some address) e = refl

-- and where none begins there, it does
pub goes_inside : (code : Code) (c d : Alpha) → local_at code c ≡ Some d → is_some (address_at code.map d.pc) ≡ false → step_in code c ≡ Some d
goes_inside code c d goes none = ap (option_and_then (λ (e : Alpha). unless_begun (address_at code.map e.pc) e)) goes ∙ by (address_at code.map d.pc) none
  where
    by : (o : Option ℕ) → is_some o ≡ false → unless_begun o d ≡ Some d
    by None e = refl
    by (Some address) e = cc e

-- a word that computes, and behind which no block begins
pub is_alone : (code : Code) (place : ℕ) (i : AlphaInstr) (f : Flat) → fetch_of code.words place ≡ Some i → address_at code.map (place + 1) ≡ None → IsInForm f → IsFlatOf i f → f.number ≡ 1 → f.way ≡ way.Other
    → IsAlone code place f
is_alone code place i f fetched inside has is one none = record {
  few = omega (arith, one);
  straight = λ e. is_straight code place i f fetched inside has is;
  its_way = subst (IsItsWay code place f) (sym none) tt;
}

-- ---- one word put in, and looked up
same : {X : Type 0} (x y : X) → Some x ≡ Some y → x ≡ y
same x y e = cc e

-- the word that was put in, and the others as they were
pub put_in : (old : List Flat) (place : ℕ) (g f : Flat) → place < length old → slice_get (set old place g) place ≡ Some f → g ≡ f
put_in old place g f within found =
    same g f (sym (ap Some (get_or-set_same old place g g within)) ∙ sym (slice_get-get_or (set old place g) place g (omega (arith, within, length-set old place g))) ∙ found)

pub others : (old : List Flat) (place k : ℕ) (g f : Flat) → k ≢ place → slice_get (set old place g) k ≡ Some f → slice_get old k ≡ Some f
others old place k g f apart found =
    let within = slice_get_within (set old place g) k f found in
    slice_get-get_or old k f (omega (arith, within, length-set old place g))
    ∙ ap Some (sym (get_or-set_other old place k g f apart))
    ∙ sym (slice_get-get_or (set old place g) k f within)
    ∙ found

-- neither its number nor a guess says whether a word is straight
pub counted : (code : Code) (place number within : ℕ) (f : Flat) → IsStraight code place f → IsStraight code place (record f { number = number; within = within })
counted code place number within f is = let has = is.form.registers in record {
  form = record {
    registers = record { a = has.a; b = has.b; c = has.c; second = has.second };
    zero = λ r31. let none = is.form.zero r31 in record { op = none.op; a = none.a; b = none.b; literal = none.literal };
  };
  step = is.step;
}

-- nor what else it does
pub counted_way : (code : Code) (place number within : ℕ) (f : Flat) (w : Way) → IsItsWay code place f w → IsItsWay code place (record f { number = number; within = within }) w
counted_way code place number within f way.Other is = tt
counted_way code place number within f way.Stops is = is
counted_way code place number within f way.Lands is = record { target = is.target; goes = is.goes; begins = is.begins }
counted_way code place number within f way.Ends is =
    record {
      form = record { registers = record { a = is.form.registers.a; b = is.form.registers.b; c = is.form.registers.c; second = is.form.registers.second }; zero = λ r31. let none = is.form.zero r31 in record { op = none.op; a = none.a; b = none.b; literal = none.literal } };
      goes = is.goes;
      begins = is.begins;
    }
counted_way code place number within f (way.Branches op) is = record { register = is.register; target = is.target; step = is.step }
counted_way code place number within f (way.Forks op) is = record { register = is.register; target = is.target; goes = is.goes }

-- a word that is looked up
pub flat_there : (code : Code) (flats : List Flat) (place : ℕ) (f : Flat) → AreFlat code flats → place < length flats → f ≡ get_or flats place f → IsFlat code flats place f
flat_there code flats place f are within found = are place f (slice_get_read flats (length flats) place f refl within found)

-- with its way
pub way_there : (code : Code) (flats : List Flat) (place : ℕ) (f : Flat) (w : Way) → AreFlat code flats → place < length flats → f ≡ get_or flats place f → f.way ≡ w → IsItsWay code place f w
way_there code flats place f w are within found it = subst (IsItsWay code place f) it (flat_there code flats place f are within found).its_way

pub encodable : (words : List ℕ) (pairs : List Pair) (ready : List Word) → AreReady words pairs ready (length words) → AreEncodable ready
encodable words pairs ready are k w found = (are.each k w (omega (arith, slice_get_within ready k w found, are.counted)) found).encodable

-- a displacement of 21 bits is a number of 32
pub fits_wider : (d : ℤ) → negsuc (2 ^ 20 - 1) ≤ℤ d → d <ℤ pos (2 ^ 20) → FitsSigned w32 d
fits_wider (pos n) low high = record { sfits = grind (arith, ints) }
fits_wider (negsuc n) low high = record { sfits = grind (arith, ints) }

-- ---- the form in which a straight word runs
-- the sum of a register and the literal is the one that is the operand
pub second_is : (f : Flat) (r : List ℕ) (x : ℕ) → x ≡ regs_of r f.b → x < 2 ^ 64 → f.literal < 2 ^ 64 → (f.b ≡ 31) ⊎ (f.literal ≡ 0) → (x + f.literal) % 2 ^ 64 ≡ operand f (regs_of r)
unfolding regs_of
second_is f r x is fits few (inl r31) =
    let none : x ≡ 0 = is ∙ ap (regs_of r) r31 in
    let same : (x + f.literal) % 2 ^ 64 ≡ f.literal = omega (arith, none, few) in
    same ∙ ap (λ b. if b == 31 then f.literal else regs_of r b) (sym r31)
second_is f r x is fits few (inr none) = by (f.b == 31) refl
  where
    by : (b : Bool) → (f.b == 31) ≡ b → (x + f.literal) % 2 ^ 64 ≡ (if b then f.literal else regs_of r f.b)
    by true e = let read : x ≡ 0 = is ∙ ap (regs_of r) (eqb-true f.b 31 e) in omega (arith, read, none)
    by false e = let same : (x + f.literal) % 2 ^ 64 ≡ x = omega (arith, none, fits) in same ∙ is

-- what is computed of R31 alone is 0
pub nothing_is : (f : Flat) (r : List ℕ) (held : ℕ) → IsNothing f → result_of f.op (regs_of r f.a) (operand f (regs_of r)) held ≡ 0
unfolding regs_of
nothing_is f r held none =
    ap (λ o. result_of o (regs_of r f.a) (operand f (regs_of r)) held) none.op
    ∙ ap (λ a. result_of Bis (regs_of r a) (operand f (regs_of r)) held) none.a
    ∙ ap (λ b. result_of Bis 0 (if b == 31 then f.literal else regs_of r b) held) none.b
    ∙ ap (λ l. result_of Bis 0 l held) none.literal
