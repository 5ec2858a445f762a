-- The code of one block alone, in which its exits have three words: what a block does wherever it stands so, it does there.
use Rattle.std.proofs.Common.{◌≡◌, ℕ, zero, suc, ◌+◌, ◌-◌, ◌*◌, ◌^◌, ◌<◌, ◌≤◌, ◌++◌, refl, sym, ◌∙◌, ap, subst, arith, add-zero, eqb, ltb-true, ltb-false, List, [], ◌∷◌, length, length-append, map, take, All, Bool, true, false, Some, None, lit<}
use Rattle.std.specs.Prelude.{pos, ◌||◌, nat_lt, nat_le, slice_get, find}
use Rattle.std.proofs.lemmas.Int.{ints}
use Rattle.std.proofs.lemmas.Bool.{ne_eqb}
use Rattle.std.proofs.lemmas.Bool.Decides.{nat_tests}
use Rattle.std.proofs.lemmas.List.{length-map}
use Rattle.std.proofs.lemmas.Option.{slice_get_within}
use Rattle.vax_form.specs.Tree.{Tree, Ends, Finish}
use Rattle.vax_form.specs.declared.state.Flags.{Flags}
use Rattle.vax_form.specs.declared.state.VaxState.{VaxState}
use Rattle.alpha_encode.specs.Words.{IsEncodable, word_of}
use Rattle.alpha_encode.specs.declared.instr.AlphaInstr.{AlphaInstr}
use Rattle.alpha_encode.specs.declared.instr.AlphaInstr.TheVariants.{Branch}
use Rattle.alpha_encode.specs.declared.instr.BranchOp.TheVariants.{Br}
use Rattle.alpha_meaning.specs.Act.{Goes, act, target_of}
use Rattle.alpha_meaning.specs.Pieces.{Phase, Plain, Acts, Steps, phase_after}
use Rattle.alpha_meaning.specs.State.{Alpha, Regs, at_place}
use Rattle.address_map.specs.Pairs.{Pair, address_at}
use Rattle.exception_records.specs.Blocks.{BlockValue}
use Rattle.exception_records.specs.Points.{Entry, point_at}
use Rattle.exception_records.specs.declared.points.Point.{Point}
use Rattle.exception_records.specs.declared.rules.Rules.{Rules}
use Rattle.block_law.specs.References.{wants}
use Rattle.block_law.specs.Placements.{Placement, allowed_in, state_behind}
use Rattle.block_law.specs.Rounds.{Round, round_after, round_behind, new_round, MayGo}
use Rattle.block_law.specs.Laws.{Ever}
use Rattle.block_law.specs.Follows.{Landed, Lands, Onward, Called, call_of}
use Rattle.block_law.specs.Blocks.{Exit, has_word, is_exit_word, is_quiet, IsBlockOf, IsLike, Stands, ExitsLead}
use Rattle.block_law.specs.Translations.{Meaning, Permit, Code, end_of, fetch_of, next_first, placed}
use Rattle.block_law.proofs.Blocks.{open_follows}
use Rattle.block_law.proofs.Rules.{goes, lands}
use Rattle.branch_layout.specs.Exits.{displacement, is_near}
use Rattle.branch_layout.specs.Layouts.{shifted}
use Rattle.branch_layout.proofs.ExitWords.{near_low, near_high}
use Rattle.branch_layout.proofs.Filling.{All_at, All_by, has_by, some_same}
use Rattle.branch_layout.proofs.Pieces.{taken_front, taken_back, taken_length, none_past}
use Rattle.branch_layout.proofs.Shorter.{phase_kept}
use Rattle.branch_layout.proofs.Standing.{fetch_back, get_shifted, points_back, points_front, points_within, shifted_find, shifted_length}

-- ---- exits at the end of a block
-- They stand one behind the other, from a word on up to the end.
abbrev pub AreLast : (word last : ℕ) → List Exit → Type 0
AreLast word last [] = word ≡ last
AreLast word last (exit ∷ exits) = (exit.0 ≡ word) × AreLast (word + 3) last exits

-- for each exit two branches to the next word, and one to a target of its own
abbrev pub slow_words : (word target : ℕ) → List Exit → List AlphaInstr
slow_words word target [] = []
slow_words word target (exit ∷ exits) = Branch Br 31 (pos 0) ∷ Branch Br 31 (pos 0) ∷ Branch Br 31 (displacement (word + 2) target) ∷ slow_words (word + 3) (target + 1) exits

-- the targets as first words of blocks of those addresses, with these rules
abbrev pub stub_pairs : (target : ℕ) → List Exit → List Pair
stub_pairs target [] = []
stub_pairs target (exit ∷ exits) = (exit.1, target) ∷ stub_pairs (target + 1) exits

abbrev pub stub_point : Rules → Point
stub_point rules = record { vax_pc = 0; done = 0; count = 0; write = false; raises = 0; rules = rules }

abbrev pub stub_points : Rules → (word : ℕ) → List Exit → List Entry
stub_points rules word [] = []
stub_points rules word (exit ∷ exits) = (word, stub_point rules) ∷ stub_points rules (word + 1) exits

slow_length : (word last : ℕ) (exits : List Exit) (pc target : ℕ) → AreLast word last exits → word + length (slow_words pc target exits) ≡ last
slow_length word last [] pc target tail = add-zero word ∙ tail
slow_length word last (exit ∷ exits) pc target tail =
    let more = slow_length (word + 3) last exits (pc + 3) (target + 1) tail.1 in omega arith

exits_count : (word last : ℕ) (exits : List Exit) → AreLast word last exits → word + 3 * length exits ≡ last
exits_count word last [] tail = add-zero word ∙ tail
exits_count word last (exit ∷ exits) tail = let more = exits_count (word + 3) last exits tail.1 in omega arith

last_covers : (word last : ℕ) (exits : List Exit) (q : ℕ) → AreLast word last exits → word ≤ q → q < last → is_exit_word exits q ≡ true
last_covers word last [] q tail low high = absurd (omega arith)
last_covers word last (exit ∷ exits) q tail low high = by (nat_lt q (word + 3)) refl (λ late. last_covers (word + 3) last exits q tail.1 late high)
  where
    by : (b : Bool) → nat_lt q (word + 3) ≡ b → (word + 3 ≤ q → is_exit_word exits q ≡ true) → is_exit_word (exit ∷ exits) q ≡ true
    by true e rest = let le : nat_le word q ≡ true = grind (arith, nat_tests) in rw (tail.0, le, e) refl
    by false e rest = or_second (has_word q exit) (is_exit_word exits q) (rest (ltb-false q (word + 3) e))
      where
        or_second : (a b : Bool) → b ≡ true → (a || b) ≡ true
        or_second true b e = refl
        or_second false b e = e

slow_quiet : (pc target : ℕ) (exits : List Exit) (j : ℕ) (i : AlphaInstr) → slice_get (slow_words pc target exits) j ≡ Some i → is_quiet i ≡ true
slow_quiet pc target [] j i e = cc
slow_quiet pc target (exit ∷ exits) zero i e = let same : Branch Br 31 (pos 0) ≡ i = cc in subst (λ (i : AlphaInstr). is_quiet i ≡ true) same refl
slow_quiet pc target (exit ∷ exits) (suc zero) i e = let same : Branch Br 31 (pos 0) ≡ i = cc in subst (λ (i : AlphaInstr). is_quiet i ≡ true) same refl
slow_quiet pc target (exit ∷ exits) (suc (suc zero)) i e = let same : Branch Br 31 (displacement (pc + 2) target) ≡ i = some_same e in subst (λ (i : AlphaInstr). is_quiet i ≡ true) same refl
slow_quiet pc target (exit ∷ exits) (suc (suc (suc j))) i e = slow_quiet (pc + 3) (target + 1) exits j i e

near_ahead : (word target : ℕ) → word < target → target ≤ word + 2 ^ 19 → is_near word target ≡ true
near_ahead word target low high = grind (arith, nat_tests)

slow_encodable : (word last pc target : ℕ) (exits : List Exit) (j : ℕ) (i : AlphaInstr) → AreLast word last exits → pc + last ≤ word + target → target ≤ pc + 2 ^ 18 → slice_get (slow_words pc target exits) j ≡ Some i → IsEncodable i
slow_encodable word last pc target [] j i tail low high e = cc
slow_encodable word last pc target (exit ∷ exits) zero i tail low high e = let same : Branch Br 31 (pos 0) ≡ i = cc in subst IsEncodable same (lit< tt, omega (arith, ints), omega (arith, ints))
slow_encodable word last pc target (exit ∷ exits) (suc zero) i tail low high e = let same : Branch Br 31 (pos 0) ≡ i = cc in subst IsEncodable same (lit< tt, omega (arith, ints), omega (arith, ints))
slow_encodable word last pc target (exit ∷ exits) (suc (suc zero)) i tail low high e =
    let same : Branch Br 31 (displacement (pc + 2) target) ≡ i = cc in
    let count = slow_length (word + 3) last exits pc target tail.1 in
    let near = near_ahead (pc + 2) target (omega arith) (omega arith) in
    subst IsEncodable same (lit< tt, near_low (pc + 2) target near, near_high (pc + 2) target near)
slow_encodable word last pc target (exit ∷ exits) (suc (suc (suc j))) i tail low high e =
    slow_encodable (word + 3) last (pc + 3) (target + 1) exits j i tail.1 (omega arith) (omega arith) e

-- ---- the words of an exit, by its place
pub record IsSlow (words : List AlphaInstr) (offset pc target : ℕ) : Type 0 where
  pub one : slice_get words offset ≡ Some (Branch Br 31 (pos 0))
  pub two : slice_get words (offset + 1) ≡ Some (Branch Br 31 (pos 0))
  pub three : slice_get words (offset + 2) ≡ Some (Branch Br 31 (displacement (pc + 2) target))

slow_later : (a b c : AlphaInstr) (words : List AlphaInstr) (offset pc target : ℕ) → IsSlow words offset pc target → IsSlow (a ∷ b ∷ c ∷ words) (offset + 3) pc target
slow_later a b c words offset pc target s =
    let zero_is : offset + 3 ≡ suc (suc (suc offset)) = omega arith in
    let one_is : offset + 3 + 1 ≡ suc (suc (suc (offset + 1))) = omega arith in
    let two_is : offset + 3 + 2 ≡ suc (suc (suc (offset + 2))) = omega arith in
    record { one = ap (slice_get (a ∷ b ∷ c ∷ words)) zero_is ∙ s.one; two = ap (slice_get (a ∷ b ∷ c ∷ words)) one_is ∙ s.two; three = ap (slice_get (a ∷ b ∷ c ∷ words)) two_is ∙ s.three }

-- where an exit of them stands
pub record IsLastAt (word last pc target : ℕ) (exits : List Exit) (k : ℕ) (exit : Exit) : Type 0 where
  pub offset : ℕ
  pub at : exit.0 ≡ word + offset
  pub within : word + offset + 3 ≤ last
  pub slow : IsSlow (slow_words pc target exits) offset (pc + offset) (target + k)

pub last_at : (word last pc target : ℕ) (exits : List Exit) (k : ℕ) (exit : Exit) → AreLast word last exits → slice_get exits k ≡ Some exit → IsLastAt word last pc target exits k exit
last_at word last pc target [] k exit tail e = cc
last_at word last pc target (x ∷ exits) zero exit tail e =
    let same : x ≡ exit = cc in
    let count = slow_length (word + 3) last exits (pc + 3) (target + 1) tail.1 in
    let at : x.0 ≡ word + 0 = let is = tail.0 in omega arith in
    let there : pc + 0 ≡ pc = omega arith in
    let same_target : target + 0 ≡ target = omega arith in
    subst (IsLastAt word last pc target (x ∷ exits) 0) same
    (record { offset = 0; at = at; within = omega arith; slow = rw (there, same_target) (record { one = refl; two = refl; three = refl }) })
last_at word last pc target (x ∷ exits) (suc k) exit tail e =
    let rest = last_at (word + 3) last (pc + 3) (target + 1) exits k exit tail.1 e in
    let at = rest.at in
    let within = rest.within in
    let place : pc + 3 + rest.offset ≡ pc + (rest.offset + 3) = omega arith in
    let same_target : target + 1 + k ≡ target + suc k = omega arith in
    record {
      offset = rest.offset + 3;
      at = omega arith;
      within = omega arith;
      slow = subst (λ n. IsSlow (slow_words pc target (x ∷ exits)) (rest.offset + 3) (pc + (rest.offset + 3)) n) same_target
          (subst (λ n. IsSlow (slow_words pc target (x ∷ exits)) (rest.offset + 3) n (target + 1 + k)) place
          (slow_later _ _ _ (slow_words (pc + 3) (target + 1) exits) rest.offset (pc + 3 + rest.offset) (target + 1 + k) rest.slow));
    }

-- ---- the map and the points
stub_none : (target w : ℕ) (exits : List Exit) → w < target → address_at (stub_pairs target exits) w ≡ None
stub_none target w [] lt = refl
stub_none target w (exit ∷ exits) lt =
    let no : eqb target w ≡ false = ne_eqb target w (λ same. absurd (omega arith)) in
    rw no (stub_none (target + 1) w exits (omega arith))

stub_at : (target : ℕ) (exits : List Exit) (k : ℕ) (exit : Exit) → slice_get exits k ≡ Some exit → address_at (stub_pairs target exits) (target + k) ≡ Some exit.1
stub_at target [] k exit e = cc
stub_at target (x ∷ exits) zero exit e =
    let same : x ≡ exit = cc in
    let yes : eqb target (target + 0) ≡ true = grind (arith, nat_tests) in
    rw yes (ap (λ (x : Exit). Some x.1) same)
stub_at target (x ∷ exits) (suc k) exit e =
    let no : eqb target (target + suc k) ≡ false = ne_eqb target (target + suc k) (λ same. absurd (omega arith)) in
    let there : target + 1 + k ≡ target + suc k = omega arith in
    rw no (subst (λ w. address_at (stub_pairs (target + 1) exits) w ≡ Some exit.1) there (stub_at (target + 1) exits k exit e))

stub_has : (rules : Rules) (word : ℕ) (exits : List Exit) (k : ℕ) (exit : Exit) → slice_get exits k ≡ Some exit → point_at (stub_points rules word exits) (word + k) ≡ Some (stub_point rules)
stub_has rules word [] k exit e = cc
stub_has rules word (x ∷ exits) zero exit e = let yes : eqb word (word + 0) ≡ true = grind (arith, nat_tests) in rw yes refl
stub_has rules word (x ∷ exits) (suc k) exit e =
    let no : eqb word (word + suc k) ≡ false = ne_eqb word (word + suc k) (λ same. absurd (omega arith)) in
    let there : word + 1 + k ≡ word + suc k = omega arith in
    rw no (subst (λ w. point_at (stub_points rules (word + 1) exits) w ≡ Some (stub_point rules)) there (stub_has rules (word + 1) exits k exit e))

-- words that do nothing
abbrev nops : ℕ → List ℕ
nops zero = []
nops (suc n) = 0 ∷ nops n

nops_length : (n : ℕ) → length (nops n) ≡ n
nops_length zero = refl
nops_length (suc n) = ap suc (nops_length n)

-- the end of a block that stands alone, before its targets
end_alone : (address first target : ℕ) (exits : List Exit) (count : ℕ) → first < target → count ≡ target → next_first (find (λ (pair : Pair). nat_lt first pair.1) ((address, first) ∷ stub_pairs target exits)) count ≡ target
end_alone address first target [] count lt same = let no : nat_lt first first ≡ false = grind (arith, nat_tests) in rw no same
end_alone address first target (exit ∷ exits) count lt same =
    let no : nat_lt first first ≡ false = grind (arith, nat_tests) in
    let yes : nat_lt first target ≡ true = grind (arith, nat_tests) in
    rw (no, yes) refl

-- ---- one step that is taken out of what holds for every number of steps
module _ (p : Placement) (phase : Phase) (spare : ℕ) (round : Round) (pc to : ℕ) (regs : Regs) (t : Tree) (i : AlphaInstr) (at : p.fetch pc ≡ Some i) (acts : act i (at_place regs pc) ≡ Goes (at_place regs to)) (way : pc < to) (h : Ever p phase spare round (at_place regs pc) t) where
  abbrev c : Alpha
  c = at_place regs pc

  abbrev Moved : Alpha → Type 0
  Moved d = Lands (p.stops d.pc) (p.points d.pc) phase t p d.regs (MayGo p.bonus p.first phase round c.pc d.pc × Ever p (phase_after phase c.pc d.pc) (spare - 1) (round_after phase round c.pc d.pc) d t)

  abbrev Answered : ℕ → Type 0
  Answered number = Called (call_of number) (p.points c.pc) phase t p c (λ d u. Onward p (Ever p) Plain (spare - 1) new_round d u)

  abbrev Accessed : Phase → ℕ → Alpha → Tree → Type 0
  Accessed phase' spare' d u = Onward p (Ever p) phase' spare' (round_behind phase' t round) d u

  moved : (0 < spare) × Moved (at_place regs to)
  moved =
      let x = open_follows p phase spare round c t h in (
        x.2,
        subst (λ does. Acts does i (allowed_in p.pages) p.bonus phase (spare - 1) c (wants p.kinds t) t Moved Answered Accessed) acts
            (subst (λ o. Steps o (allowed_in p.pages) p.bonus phase (spare - 1) c (wants p.kinds t) t Moved Answered Accessed) at x.3),
      )

  -- it goes on inside the block
  pub opens : p.stops to ≡ None → (0 < spare) × Ever p phase (spare - 1) (round_after phase round pc to) (at_place regs to) t
  opens inside =
      let x = moved in
      let y : MayGo p.bonus p.first phase round pc to × Ever p (phase_after phase pc to) (spare - 1) (round_after phase round pc to) (at_place regs to) t =
      subst (λ o. Lands o (p.points to) phase t p regs (MayGo p.bonus p.first phase round pc to × Ever p (phase_after phase pc to) (spare - 1) (round_after phase round pc to) (at_place regs to) t)) inside x.1
      in
      (x.0, subst (λ ph. Ever p ph (spare - 1) (round_after phase round pc to) (at_place regs to) t) (phase_kept phase pc to way) y.1)

  -- it comes to another block
  pub opens_landing : (address : ℕ) (point : Point) → p.stops to ≡ Some address → p.points to ≡ Some point → (0 < spare) × Landed phase t p address (Some point) regs
  opens_landing address point stops has =
      let x = moved in (
        x.0,
        subst (λ o. Landed phase t p address o regs) has
            (subst (λ o. Lands o (p.points to) phase t p regs (MayGo p.bonus p.first phase round pc to × Ever p (phase_after phase pc to) (spare - 1) (round_after phase round pc to) (at_place regs to) t)) stops x.1),
      )

-- ---- the code
module _ (loops : Bool) (address first : ℕ) (block : BlockValue) (of : IsBlockOf loops address block) (rules : Rules) (start : ℕ) (tail : AreLast start (length block.words) block.exits) where
  -- where the targets begin
  abbrev pub behind : ℕ
  behind = first + length block.words

  pub slow_block : List AlphaInstr
  slow_block = take start block.words ++ slow_words (first + start) behind block.exits

  -- the block alone, from the same word on
  pub alone : Code
  alone = record {
    words = nops first ++ map word_of slow_block;
    map = (address, first) ∷ stub_pairs behind block.exits;
    points = shifted first block.points ++ shifted behind (stub_points rules 0 block.exits);
  }

  starts_within : start ≤ length block.words
  starts_within = let count = slow_length start (length block.words) block.exits (first + start) behind tail in omega arith

  slow_count : length slow_block ≡ length block.words
  unfolding slow_block
  slow_count = let count = slow_length start (length block.words) block.exits (first + start) behind tail in taken_length start block.words (slow_words (first + start) behind block.exits) starts_within ∙ count

  pub slow_front : (word : ℕ) → word < start → slice_get slow_block word ≡ slice_get block.words word
  unfolding slow_block
  slow_front word lt = taken_front start block.words (slow_words (first + start) behind block.exits) word lt starts_within

  slow_back : (j : ℕ) → slice_get slow_block (start + j) ≡ slice_get (slow_words (first + start) behind block.exits) j
  unfolding slow_block
  slow_back j = taken_back start block.words (slow_words (first + start) behind block.exits) j starts_within

  -- a word before the exits is the block's, the others are those
  each_word : (P : AlphaInstr → Type 0) → ((word : ℕ) (i : AlphaInstr) → word < start → slice_get block.words word ≡ Some i → P i) → ((j : ℕ) (i : AlphaInstr) → slice_get (slow_words (first + start) behind block.exits) j ≡ Some i → P i)
      → (word : ℕ) (i : AlphaInstr) → slice_get slow_block word ≡ Some i → P i
  each_word P front back word i at = by (nat_lt word start) refl
    where
      by : (b : Bool) → nat_lt word start ≡ b → P i
      by true e = let lt = ltb-true word start e in front word i lt (sym (slow_front word lt) ∙ at)
      by false e =
          let late = ltb-false word start e in
          let there : start + (word - start) ≡ word = omega arith in
          back (word - start) i (sym (slow_back (word - start)) ∙ ap (slice_get slow_block) there ∙ at)

  like : IsLike block slow_block
  like = record {
    count = slow_count;
    same = λ word out. by word out (nat_lt word start) refl;
    quiet = λ word i is at. by_quiet word i at (nat_lt word start) refl is;
  }
    where
      by : (word : ℕ) → is_exit_word block.exits word ≡ false → (b : Bool) → nat_lt word start ≡ b → slice_get slow_block word ≡ slice_get block.words word
      by word out true e = slow_front word (ltb-true word start e)
      by word out false e = past (nat_lt word (length block.words)) refl
        where
          late : start ≤ word
          late = ltb-false word start e

          past : (b : Bool) → nat_lt word (length block.words) ≡ b → slice_get slow_block word ≡ slice_get block.words word
          past true lt = absurd (cc (sym out ∙ last_covers start (length block.words) block.exits word tail late (ltb-true word (length block.words) lt)))
          past false ge =
              let beyond = ltb-false word (length block.words) ge in
              let count = slow_count in
              none_past slow_block word (omega arith) ∙ sym (none_past block.words word beyond)

      by_quiet : (word : ℕ) (i : AlphaInstr) → slice_get slow_block word ≡ Some i → (b : Bool) → nat_lt word start ≡ b → is_exit_word block.exits word ≡ true → is_quiet i ≡ true
      by_quiet word i at true e is = of.exits_quiet word i is (sym (slow_front word (ltb-true word start e)) ∙ at)
      by_quiet word i at false e is =
          let late = ltb-false word start e in
          let there : start + (word - start) ≡ word = omega arith in
          slow_quiet (first + start) behind block.exits (word - start) i (sym (slow_back (word - start)) ∙ ap (slice_get slow_block) there ∙ at)

  few : length block.words ≤ 256
  few = of.tidy.few

  all_encodable : All IsEncodable slow_block
  all_encodable = All_by IsEncodable slow_block
      (each_word IsEncodable (λ word i lt at. All_at IsEncodable block.words word i of.encodable at)
      (λ j i at. let small = few in slow_encodable start (length block.words) (first + start) behind block.exits j i tail (omega arith) (omega arith) at))

  pub fetched_alone : (word : ℕ) (i : AlphaInstr) → slice_get slow_block word ≡ Some i → fetch_of alone.words (first + word) ≡ Some i
  unfolding alone
  fetched_alone word i at =
      subst (λ n. fetch_of (nops first ++ map word_of slow_block) (n + word) ≡ Some i) (nops_length first)
      (fetch_back (nops first) slow_block word i at (All_at IsEncodable slow_block word i all_encodable at))

  none_alone : (word : ℕ) → 0 < word → word < length block.words → address_at ((address, first) ∷ stub_pairs behind block.exits) (first + word) ≡ None
  none_alone word some lt =
      let no : eqb first (first + word) ≡ false = ne_eqb first (first + word) (λ same. absurd (omega arith)) in
      rw no (stub_none behind (first + word) block.exits (omega arith))

  points_under : All (λ (entry : Entry). entry.0 < behind) (shifted first block.points)
  points_under k d lt =
      let count = shifted_length first block.points in
      let at = get_shifted first block.points k d d (omega arith) in
      let low = points_within loops address block of k d (omega arith) in
      omega arith

  -- the point of a word of the block
  pub alone_point : (word : ℕ) → word < length block.words → point_at alone.points (first + word) ≡ point_at block.points word
  unfolding alone
  alone_point word lt = points_front behind (first + word) (shifted first block.points) (stub_points rules 0 block.exits) (omega arith) ∙ shifted_find first word block.points

  some_words : 1 ≤ length block.words
  some_words = of.tidy.some

  pub words_count : length alone.words ≡ behind
  unfolding alone
  words_count = length-append (nops first) (map word_of slow_block) ∙ (let a = nops_length first in let b = length-map slow_block word_of in let c = slow_count in omega arith)

  end_is : end_of alone first ≡ behind
  unfolding alone
  end_is = let some = some_words in end_alone address first behind block.exits (length (nops first ++ map word_of slow_block)) (omega arith) words_count

  -- the block stands there with three words for each exit
  pub stands_alone : Stands alone block first
  unfolding alone
  stands_alone =
      let count = slow_count in
      let end = end_is in
      let all = words_count in
      record {
        words = slow_block;
        like = like;
        stand = has_by (fetch_of alone.words) first slow_block (λ j i at. fetched_alone j i at);
        ends = omega arith;
        within = omega arith;
        alone = λ word some lt. none_alone word some (omega arith);
        points = λ word lt. alone_point word (omega arith);
      }

  -- ---- its exits
  module _ (meaning : Meaning) (permit : Permit) (thread : ℕ) (state : VaxState) (held : Flags) (small : first + length block.words ≤ 2 ^ 23) where
    abbrev p : Placement
    p = placed meaning permit alone thread state held first

    -- an exit's words, and its target
    record IsSlowAt (exit : Exit) : Type 0 where
      target : ℕ
      far : behind ≤ target
      near : target < behind + length block.exits
      low : start ≤ exit.0
      high : exit.0 + 3 ≤ length block.words
      one : p.fetch (first + exit.0) ≡ Some (Branch Br 31 (pos 0))
      two : p.fetch (first + exit.0 + 1) ≡ Some (Branch Br 31 (pos 0))
      three : p.fetch (first + exit.0 + 2) ≡ Some (Branch Br 31 (displacement (first + exit.0 + 2) target))
      begins : p.stops target ≡ Some exit.1
      has : p.points target ≡ Some (stub_point rules)

    slow_at : (place : ℕ) (exit : Exit) → slice_get block.exits place ≡ Some exit → IsSlowAt exit
    unfolding alone
    slow_at place exit e =
        let x = last_at start (length block.words) (first + start) behind block.exits place exit tail e in
        let at = x.at in
        let within = x.within in
        let many = slice_get_within block.exits place exit e in
        let pc : first + start + x.offset ≡ first + exit.0 = omega arith in
        let word : (j : ℕ) (i : AlphaInstr) → slice_get (slow_words (first + start) behind block.exits) (x.offset + j) ≡ Some i → p.fetch (first + exit.0 + j) ≡ Some i =
        λ j i is. let there : first + (start + (x.offset + j)) ≡ first + exit.0 + j = omega arith in
        subst (λ w. p.fetch w ≡ Some i) there (fetched_alone (start + (x.offset + j)) i (slow_back (x.offset + j) ∙ is))
        in
        let here : x.offset + 0 ≡ x.offset = omega arith in
        let no : eqb first (behind + place) ≡ false = ne_eqb first (behind + place) (λ same. let some = some_words in absurd (omega arith)) in
        record {
          target = behind + place;
          far = omega arith;
          near = omega arith;
          low = omega arith;
          high = omega arith;
          one = subst (λ w. p.fetch w ≡ Some (Branch Br 31 (pos 0))) (add-zero (first + exit.0)) (word 0 (Branch Br 31 (pos 0)) (ap (slice_get (slow_words (first + start) behind block.exits)) here ∙ x.slow.one));
          two = word 1 (Branch Br 31 (pos 0)) x.slow.two;
          three = word 2 (Branch Br 31 (displacement (first + exit.0 + 2) (behind + place))) (x.slow.three ∙ ap (λ w. Some (Branch Br 31 (displacement (w + 2) (behind + place)))) pc);
          begins = rw no (stub_at behind block.exits place exit e);
          has = points_back behind place (shifted first block.points) (stub_points rules 0 block.exits) points_under ∙ (let zero_is : place ≡ 0 + place = omega arith in ap (point_at (stub_points rules 0 block.exits)) zero_is ∙ stub_has rules 0 block.exits place exit e);
        }

    next_word : (w : ℕ) → w < 2 ^ 31 → target_of w (pos 0) ≡ w + 1
    next_word w lt = omega (arith, ints)

    far_word : (w target : ℕ) → w < 2 ^ 31 → target < 2 ^ 31 → target_of w (displacement w target) ≡ target
    far_word w target low high = omega (arith, ints)

    pub inside_alone : (w : ℕ) → first < w → w < behind → p.stops w ≡ None
    unfolding alone
    inside_alone w low high = let there : first + (w - first) ≡ w = omega arith in subst (λ w. address_at ((address, first) ∷ stub_pairs behind block.exits) w ≡ None) there (none_alone (w - first) (omega arith) (omega arith))

    -- each exit leads to its address
    pub leads_alone : ExitsLead p block.exits first rules
    leads_alone place exit e n spare round regs room form =
        let x = slow_at place exit e in
        let w = first + exit.0 in
        let high = x.high in
        let end = end_is in
        let far = x.far in
        let near = x.near in
        let tree : Tree = Ends (Finish (state_behind p regs exit.1 rules)) in
        let exits_few = slow_length start (length block.words) block.exits (first + start) behind tail in
        let count = exits_count start (length block.words) block.exits tail in
        let few_words = few in
        let next1 : w + 1 + 1 ≡ w + 2 = omega arith in
        goes p None 2 (at_place regs w) (at_place regs (w + 1)) (Branch Br 31 (pos 0)) tree
        (record { is = x.one; low = omega arith; high = omega arith }) (rw (next_word w (omega arith)) refl) (omega arith) (inside_alone (w + 1) (omega arith) (omega arith))
        (goes p None 1 (at_place regs (w + 1)) (at_place regs (w + 2)) (Branch Br 31 (pos 0)) tree
        (record { is = x.two; low = omega arith; high = omega arith }) (rw (next_word (w + 1) (omega arith), next1) refl) (omega arith) (inside_alone (w + 2) (omega arith) (omega arith))
        (lands p None (at_place regs (w + 2)) (at_place regs x.target) (Branch Br 31 (displacement (w + 2) x.target)) (state_behind p regs exit.1 rules) exit.1 (stub_point rules)
        (record { is = x.three; low = omega arith; high = omega arith }) (rw (far_word (w + 2) x.target (omega arith) (omega arith)) refl) x.begins x.has form refl))
        n spare round room

    -- At an exit the state is shown at its address, and three steps are spare.
    pub exit_opens : (place : ℕ) (exit : Exit) → slice_get block.exits place ≡ Some exit → (phase : Phase) (spare : ℕ) (round : Round) (regs : Regs) (t : Tree) → Ever p phase spare round (at_place regs (first + exit.0)) t
        → (3 ≤ spare) × Landed phase t p exit.1 (Some (stub_point rules)) regs
    exit_opens place exit e phase spare round regs t h =
        let x = slow_at place exit e in
        let w = first + exit.0 in
        let high = x.high in
        let far = x.far in
        let near = x.near in
        let count = exits_count start (length block.words) block.exits tail in
        let few_words = few in
        let next1 : w + 1 + 1 ≡ w + 2 = omega arith in
        let one = opens p phase spare round w (w + 1) regs t (Branch Br 31 (pos 0)) x.one (rw (next_word w (omega arith)) refl) (omega arith) h (inside_alone (w + 1) (omega arith) (omega arith)) in
        let two = opens p phase (spare - 1) (round_after phase round w (w + 1)) (w + 1) (w + 2) regs t (Branch Br 31 (pos 0)) x.two (rw (next_word (w + 1) (omega arith), next1) refl) (omega arith) one.1 (inside_alone (w + 2) (omega arith) (omega arith)) in
        let three = opens_landing p phase (spare - 1 - 1) (round_after phase (round_after phase round w (w + 1)) (w + 1) (w + 2)) (w + 2) x.target regs t (Branch Br 31 (displacement (w + 2) x.target)) x.three (rw (far_word (w + 2) x.target (omega arith) (omega arith)) refl) (omega arith) two.1
        exit.1 (stub_point rules) x.begins x.has
        in
        let a = one.0 in
        let b = two.0 in
        let c = three.0 in
        (omega arith, three.1)
