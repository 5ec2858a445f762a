-- How many words blocks have in their places, and which addresses have one.
use Rattle.std.proofs.Common.{◌≡◌, ℕ, zero, suc, ◌+◌, ◌-◌, ◌^◌, ◌<◌, ◌≤◌, ◌++◌, refl, sym, ◌∙◌, ap, subst, arith, eqb, cond, ltb-true, List, [], ◌∷◌, length, length-append, map, take, drop, get_or, All, Bool, true, false, Option, Some, None, lit<}
use Rattle.std.specs.Prelude.{ℤ, ◌==◌, ◌&&◌, ◌||◌, nat_lt, nat_le, slice_get, find, unwrap_or}
use Rattle.std.specs.List.{AllAdjacentBelow, list_any}
use Rattle.std.specs.Option.{is_some, option_map}
use Rattle.std.proofs.lemmas.Bool.{and_parts}
use Rattle.std.proofs.lemmas.Bool.Decides.{nat_tests}
use Rattle.std.proofs.lemmas.List.Sums.{sum_by-cons}
use Rattle.std.proofs.lemmas.Option.{slice_get-get_or, slice_get_within}
use Rattle.alpha_encode.specs.Words.{IsEncodable}
use Rattle.alpha_encode.specs.declared.instr.AlphaInstr.{AlphaInstr}
use Rattle.alpha_encode.specs.declared.instr.AlphaInstr.TheVariants.{Branch}
use Rattle.alpha_encode.specs.declared.instr.BranchOp.{BranchOp}
use Rattle.alpha_encode.specs.declared.instr.BranchOp.TheVariants.{Br}
use Rattle.address_map.specs.Pairs.{Pair, word_at}
use Rattle.exception_records.specs.Blocks.{BlockValue}
use Rattle.exception_records.specs.Points.{Entry}
use Rattle.block_law.specs.Blocks.{IsBlockOf}
use Rattle.branch_layout.specs.Exits.{displacement, is_near}
use Rattle.branch_layout.specs.Ends.{end_of, ended_words, form_code, form_of, form_words, fork_code, fork_words, is_near_block, may_end_at, may_fall, none_behind, all_stay, placed_size, word_to}
use Rattle.branch_layout.specs.Layouts.{AddressesRise, AreBlocks, IsPlaced, Placed, Sized, next_address, placed_sizes, places, whole_sizes, words_of}
use Rattle.branch_layout.specs.declared.ends.End.{End}
use Rattle.branch_layout.specs.declared.ends.Form.{Form}
use Rattle.branch_layout.specs.declared.ends.Form.TheVariants.{Behind, Near, Whole}
use Rattle.branch_layout.proofs.Ending.{EndIs, exit_is, fork_is, end_is}
use Rattle.branch_layout.proofs.ExitWords.{exit_encodable, near_low, near_high}
use Rattle.branch_layout.proofs.Filling.{All_at, All_by, some_same}
use Rattle.branch_layout.proofs.InPlace.{FormIs, is_behind, is_near_form, form_is, form_length, form_most, fork_length}
use Rattle.branch_layout.proofs.Pieces.{taken_length}
use Rattle.branch_layout.proofs.Standing.{points_within}

-- ---- the end of one block
-- each point stands at the word or before it
all_before : (last : ℕ) (points : List Entry) → none_behind last points ≡ true → All (λ (p : Entry). p.0 ≤ last) points
all_before last points e = All_by (λ (p : Entry). p.0 ≤ last) points (each points e)
  where
    each : (points : List Entry) → none_behind last points ≡ true → (k : ℕ) (p : Entry) → slice_get points k ≡ Some p → p.0 ≤ last
    each [] e k p at = absurd (cc at)
    each (q ∷ points) e zero p at =
        let same : q ≡ p = some_same at in
        let le = (and_parts (nat_le q.0 last) (none_behind last points) e).0 in
        subst (λ (p : Entry). p.0 ≤ last) same (is_le q.0 last le)
      where
        is_le : (a b : ℕ) → nat_le a b ≡ true → a ≤ b
        is_le a b e = grind (arith, nat_tests, e)
    each (q ∷ points) e (suc k) p at = each points (and_parts (nat_le q.0 last) (none_behind last points) e).1 k p at

pub record EndFacts (block : BlockValue) (end : End) : Type 0 where
  pub room : end.start < length block.words
  pub count : placed_size (Some end) block ≤ length block.words
  pub some : 1 ≤ placed_size (Some end) block
  pub points : All (λ (p : Entry). p.0 < placed_size (Some end) block) block.points

pub end_facts : (small : Bool) (mapped : List Pair) (next : Option ℕ) (block : BlockValue) (end : End) → EndIs small mapped next block end → EndFacts block end
end_facts small mapped next block end (exit_is exit are last kept) = by (form_of (may_fall exit.0 block) small mapped next exit.1) (form_is (may_fall exit.0 block) small mapped next exit.1)
  where
    before : All (λ (p : Entry). p.0 ≤ exit.0) block.points
    before = all_before exit.0 block.points (and_parts (all_stay exit.0 0 (take exit.0 block.words)) (none_behind exit.0 block.points) kept).1

    with_form : (form : Form) → 1 ≤ form_words form → EndFacts block (record { start = exit.0; fork = None; address = exit.1; form = form })
    with_form form some =
        let most = form_most form in
        record { room = omega arith; count = omega arith; some = omega arith; points = λ k d lt. let le = before k d lt in omega arith }

    by : (form : Form) → FormIs (may_fall exit.0 block) small mapped next exit.1 form → EndFacts block (record { start = exit.0; fork = None; address = exit.1; form = form })
    by Near is = with_form Near (omega arith)
    by Whole is = with_form Whole (omega arith)
    by Behind (is_behind falls is) =
        let parts = and_parts (nat_lt 0 exit.0 && may_end_at (slice_get block.words (exit.0 - 1))) (none_behind (exit.0 - 1) block.points) falls in
        let some = ltb-true 0 exit.0 (and_parts (nat_lt 0 exit.0) (may_end_at (slice_get block.words (exit.0 - 1))) parts.0).0 in
        let early = all_before (exit.0 - 1) block.points parts.1 in
        record { room = omega arith; count = omega arith; some = omega arith; points = λ k d lt. let le = early k d lt in omega arith }
end_facts small mapped next block end (fork_is near_exit far_exit op op' ra disp to other are adjacent last some kept word conditional goes_over near way) =
    let form = form_of true small mapped next other in
    let most = form_most form in
    let before = all_before (near_exit.0 - 1) block.points (and_parts (all_stay (near_exit.0 - 1) 0 (take (near_exit.0 - 1) block.words)) (none_behind (near_exit.0 - 1) block.points) kept).1 in
    record { room = omega arith; count = omega arith; some = omega arith; points = λ k d lt. let le = before k d lt in omega arith }

pub ended_length : (pairs : List Pair) (first : ℕ) (block : BlockValue) (end : End) → end.start ≤ length block.words → length (ended_words pairs first block end) ≡ placed_size (Some end) block
ended_length pairs first block end le =
    taken_length end.start block.words (fork_code pairs (first + end.start) end.fork ++ form_code pairs (first + end.start + fork_words end.fork) end.form end.address) le
    ∙ ap (λ n. end.start + n) (length-append (fork_code pairs (first + end.start) end.fork) (form_code pairs (first + end.start + fork_words end.fork) end.form end.address)
    ∙ (let a = fork_length pairs (first + end.start) end.fork in let b = form_length pairs (first + end.start + fork_words end.fork) end.form end.address in omega arith))

-- ---- its words have encodings, where what is near is so
abbrev pub AreNear : (small : Bool) → (mapped pairs : List Pair) → (last : ℕ) → Type 0
AreNear small mapped pairs last = (to : ℕ) → is_near_block small mapped to ≡ true → (target : ℕ) × (word_at pairs to ≡ Some target) × (target < 2 ^ 20) × (last ≤ 2 ^ 20)

near_fits : (word target : ℕ) → word < 2 ^ 20 → target < 2 ^ 20 → is_near word target ≡ true
near_fits word target low high = grind (arith, nat_tests)

branch_fits : (op : BranchOp) (ra : ℕ) (small : Bool) (mapped pairs : List Pair) (last word to : ℕ) → ra < 32 → AreNear small mapped pairs last → is_near_block small mapped to ≡ true → word < last → IsEncodable (Branch op ra (displacement word (word_to pairs to)))
branch_fits op ra small mapped pairs last word to lt near is within =
    let x = near to is in
    let low = x.2 in
    let high = x.3 in
    let fits = near_fits word x.0 (omega arith) low in
    subst (λ n. IsEncodable (Branch op ra (displacement word n))) (sym (ap (λ o. unwrap_or o 0) x.1)) (lt, near_low word x.0 fits, near_high word x.0 fits)

register_fits : (op : BranchOp) (ra : ℕ) (disp : ℤ) → IsEncodable (Branch op ra disp) → ra < 32
register_fits op ra disp e = e.0

form_encodable : (small : Bool) (mapped pairs : List Pair) (last word address : ℕ) (falls : Bool) (next : Option ℕ) (form : Form) → AreNear small mapped pairs last → FormIs falls small mapped next address form → word + form_words form ≤ last → (j : ℕ) (i : AlphaInstr) → slice_get (form_code pairs word form address) j ≡ Some i → IsEncodable i
form_encodable small mapped pairs last word address falls next Behind near is le j i e = absurd (cc e)
form_encodable small mapped pairs last word address falls next Near near (is_near_form here) le zero i e =
    let same : Branch Br 31 (displacement word (word_to pairs address)) ≡ i = some_same e in
    subst IsEncodable same (branch_fits Br 31 small mapped pairs last word address (lit< tt) near here (omega arith))
form_encodable small mapped pairs last word address falls next Near near (is_near_form here) le (suc j) i e = absurd (cc e)
form_encodable small mapped pairs last word address falls next Whole near is le j i e = exit_encodable (word_at pairs address) word address j i e

either : {X : Type 0} (is js : List X) (P : X → Type 0) → ((j : ℕ) (i : X) → slice_get is j ≡ Some i → P i) → ((j : ℕ) (i : X) → slice_get js j ≡ Some i → P i) → (j : ℕ) (i : X) → slice_get (is ++ js) j ≡ Some i → P i
either [] js P f g j i at = g j i at
either (x ∷ is) js P f g zero i at = f 0 i at
either (x ∷ is) js P f g (suc j) i at = either is js P (λ k. f (suc k)) g j i at

taken_is : {X : Type 0} (n : ℕ) (xs : List X) (k : ℕ) (x : X) → slice_get (take n xs) k ≡ Some x → slice_get xs k ≡ Some x
taken_is zero xs k x e = absurd (cc e)
taken_is (suc n) [] k x e = absurd (cc e)
taken_is (suc n) (y ∷ xs) zero x e = e
taken_is (suc n) (y ∷ xs) (suc k) x e = taken_is n xs k x e

pub ended_encodable : (loops : Bool) (address : ℕ) (small : Bool) (mapped pairs : List Pair) (next : Option ℕ) (first : ℕ) (block : BlockValue) (end : End) → IsBlockOf loops address block → EndIs small mapped next block end → AreNear small mapped pairs (first + placed_size (Some end) block) → All IsEncodable (ended_words pairs first block end)
ended_encodable loops address small mapped pairs next first block end of (exit_is exit are last kept) near =
    All_by IsEncodable _ (either (take exit.0 block.words) (form_code pairs (first + exit.0 + 0) (form_of (may_fall exit.0 block) small mapped next exit.1) exit.1) IsEncodable
    (λ j i e. All_at IsEncodable block.words j i of.encodable (taken_is exit.0 block.words j i e))
    (form_encodable small mapped pairs (first + placed_size (Some (record { start = exit.0; fork = None; address = exit.1; form = form_of (may_fall exit.0 block) small mapped next exit.1 })) block) (first + exit.0 + 0) exit.1 (may_fall exit.0 block) next (form_of (may_fall exit.0 block) small mapped next exit.1) near (form_is (may_fall exit.0 block) small mapped next exit.1) (omega arith)))
ended_encodable loops address small mapped pairs next first block end of (fork_is near_exit far_exit op op' ra disp to other are adjacent last some kept word conditional goes_over near_to way) near =
    let start = near_exit.0 - 1 in
    let form = form_of true small mapped next other in
    let last_word = first + (start + (1 + form_words form)) in
    let ra_fits = register_fits op ra disp (All_at IsEncodable block.words start (Branch op ra disp) of.encodable word) in
    All_by IsEncodable _ (either (take start block.words) (Branch op' ra (displacement (first + start) (word_to pairs to)) ∷ form_code pairs (first + start + 1) form other) IsEncodable
    (λ j i e. All_at IsEncodable block.words j i of.encodable (taken_is start block.words j i e))
    (either (Branch op' ra (displacement (first + start) (word_to pairs to)) ∷ []) (form_code pairs (first + start + 1) form other) IsEncodable
    (one (Branch op' ra (displacement (first + start) (word_to pairs to))) (branch_fits op' ra small mapped pairs last_word (first + start) to ra_fits near near_to (omega arith)))
    (form_encodable small mapped pairs last_word (first + start + 1) other true next form near (form_is true small mapped next other) (omega arith))))
  where
    one : (x : AlphaInstr) → IsEncodable x → (j : ℕ) (i : AlphaInstr) → slice_get (x ∷ []) j ≡ Some i → IsEncodable i
    one x fits zero i e = subst IsEncodable (some_same e) fits
    one x fits (suc j) i e = absurd (cc e)

-- ---- any block
-- how a block ends that stands before others
abbrev pub end_before : (small : Bool) → (mapped : List Pair) → List Placed → BlockValue → Option End
end_before small mapped blocks block = end_of small mapped (next_address blocks) block

pub record SizeFacts (block : BlockValue) (end : Option End) : Type 0 where
  pub count : placed_size end block ≤ length block.words
  pub some : 1 ≤ placed_size end block
  pub points : All (λ (p : Entry). p.0 < placed_size end block) block.points

pub size_facts : (small : Bool) (mapped : List Pair) (next : Option ℕ) (loops : Bool) (address : ℕ) (block : BlockValue) → IsBlockOf loops address block → SizeFacts block (end_of small mapped next block)
size_facts small mapped next loops address block of = by (end_of small mapped next block) refl
  where
    by : (o : Option End) → end_of small mapped next block ≡ o → SizeFacts block o
    by None e = record { count = omega arith; some = of.tidy.some; points = points_within loops address block of }
    by (Some end) e = let f = end_facts small mapped next block end (end_is small mapped next block end e) in record { count = f.count; some = f.some; points = f.points }

-- ---- lists of blocks
module _ (small : Bool) (mapped : List Pair) where
  pub sized_at : (blocks : List Placed) (i : ℕ) (b : Placed) → slice_get blocks i ≡ Some b → slice_get (placed_sizes small mapped blocks) i ≡ Some (b.0, placed_size (end_before small mapped (drop (suc i) blocks) b.1) b.1)
  sized_at [] i b e = absurd (cc e)
  sized_at (x ∷ blocks) zero b e = let same : x ≡ b = some_same e in ap (λ (x : Placed). Some (x.0, placed_size (end_before small mapped blocks x.1) x.1)) same
  sized_at (x ∷ blocks) (suc i) b e = sized_at blocks i b e

  pub sizes_length : (blocks : List Placed) → length (placed_sizes small mapped blocks) ≡ length blocks
  sizes_length [] = refl
  sizes_length (x ∷ blocks) = ap suc (sizes_length blocks)

  size_key : (blocks : List Placed) (k : ℕ) (d : Sized) (e : Placed) → k < length blocks → (get_or (placed_sizes small mapped blocks) k d).0 ≡ (get_or blocks k e).0
  size_key [] k d e lt = absurd (omega arith)
  size_key (x ∷ blocks) zero d e lt = refl
  size_key (x ∷ blocks) (suc k) d e lt = size_key blocks k d e (omega arith)

  -- addresses rise
  pub sizes_rise : (blocks : List Placed) → AddressesRise blocks → AllAdjacentBelow (λ (b c : Sized). b.0 < c.0) (placed_sizes small mapped blocks) (length (placed_sizes small mapped blocks))
  sizes_rise blocks rise k d lt =
      let count = sizes_length blocks in
      let none : Placed = (0, record { words = []; exits = []; points = [] }) in
      rw (size_key blocks k d none (omega arith), size_key blocks (k + 1) d none (omega arith)) (rise k none (omega arith))

  pub all_some : (blocks : List Placed) → AreBlocks blocks → (i : ℕ) (s : Sized) → slice_get (placed_sizes small mapped blocks) i ≡ Some s → 1 ≤ s.1
  all_some blocks are i s e =
      let within = slice_get_within (placed_sizes small mapped blocks) i s e in
      let count = sizes_length blocks in
      let none : Placed = (0, record { words = []; exits = []; points = [] }) in
      let b = get_or blocks i none in
      let at : slice_get blocks i ≡ Some b = slice_get-get_or blocks i none (omega arith) in
      let own = All_at IsPlaced blocks i b are at in
      let same : (b.0, placed_size (end_before small mapped (drop (suc i) blocks) b.1) b.1) ≡ s = some_same (sym (sized_at blocks i b at) ∙ e) in
      subst (λ (s : Sized). 1 ≤ s.1) same (size_facts small mapped (next_address (drop (suc i) blocks)) own.0 b.0 b.1 own.1).some

  -- in their places they have at most all their words
  pub room_at : (blocks : List Placed) → AreBlocks blocks → (i : ℕ) (b : Placed) → slice_get blocks i ≡ Some b → words_of (take i (placed_sizes small mapped blocks)) + length b.1.words ≤ words_of (whole_sizes blocks)
  room_at blocks are i b at = room blocks (λ j c e. All_at IsPlaced blocks j c are e) i b at
    where
      room : (blocks : List Placed) → ((j : ℕ) (c : Placed) → slice_get blocks j ≡ Some c → IsPlaced c) → (i : ℕ) (b : Placed) → slice_get blocks i ≡ Some b → words_of (take i (placed_sizes small mapped blocks)) + length b.1.words ≤ words_of (whole_sizes blocks)
      room [] own i b at = absurd (cc at)
      room (x ∷ blocks) own zero b at =
          let same : length x.1.words ≡ length b.1.words = ap (λ (x : Placed). length x.1.words) (some_same at) in
          let sum = sum_by-cons (λ (s : Sized). s.1) (x.0, length x.1.words) (whole_sizes blocks) in
          omega arith
      room (x ∷ blocks) own (suc i) b at =
          let rest = room blocks (λ j c e. own (suc j) c e) i b at in
          let its = own 0 x refl in
          let facts = size_facts small mapped (next_address blocks) its.0 x.0 x.1 its.1 in
          let count = facts.count in
          let sum = sum_by-cons (λ (s : Sized). s.1) (x.0, length x.1.words) (whole_sizes blocks) in
          let placed_sum = sum_by-cons (λ (s : Sized). s.1) (x.0, placed_size (end_before small mapped blocks x.1) x.1) (take i (placed_sizes small mapped blocks)) in
          omega arith

  pub words_fewer : (blocks : List Placed) → AreBlocks blocks → words_of (placed_sizes small mapped blocks) ≤ words_of (whole_sizes blocks)
  words_fewer blocks are = fewer blocks (λ j c e. All_at IsPlaced blocks j c are e)
    where
      fewer : (blocks : List Placed) → ((j : ℕ) (c : Placed) → slice_get blocks j ≡ Some c → IsPlaced c) → words_of (placed_sizes small mapped blocks) ≤ words_of (whole_sizes blocks)
      fewer [] own = omega arith
      fewer (x ∷ blocks) own =
          let rest = fewer blocks (λ j c e. own (suc j) c e) in
          let its = own 0 x refl in
          let facts = size_facts small mapped (next_address blocks) its.0 x.0 x.1 its.1 in
          let count = facts.count in
          let sum = sum_by-cons (λ (s : Sized). s.1) (x.0, length x.1.words) (whole_sizes blocks) in
          let placed_sum = sum_by-cons (λ (s : Sized). s.1) (x.0, placed_size (end_before small mapped blocks x.1) x.1) (placed_sizes small mapped blocks) in
          omega arith

  -- ---- which addresses are mapped
  has_address : (address : ℕ) → List Placed → Bool
  has_address address blocks = list_any (λ (b : Placed). b.0 == address) blocks

  is_mapped : (f : ℕ) (sizes : List Sized) (address : ℕ) → is_some (word_at (places f sizes) address) ≡ list_any (λ (s : Sized). s.0 == address) sizes
  is_mapped f [] address = refl
  is_mapped f (s ∷ sizes) address = by (eqb s.0 address) (is_mapped (f + s.1) sizes address)
    where
      by : (b : Bool) → is_some (word_at (places (f + s.1) sizes) address) ≡ list_any (λ (s : Sized). s.0 == address) sizes
          → is_some (option_map (λ (p : Pair). p.1) (cond b (Some (s.0, f)) (find (λ (p : Pair). eqb p.0 address) (places (f + s.1) sizes)))) ≡ (b || list_any (λ (s : Sized). s.0 == address) sizes)
      by true rest = refl
      by false rest = rest

  placed_keys : (blocks : List Placed) (address : ℕ) → list_any (λ (s : Sized). s.0 == address) (placed_sizes small mapped blocks) ≡ list_any (λ (s : Sized). s.0 == address) (whole_sizes blocks)
  placed_keys [] address = refl
  placed_keys (x ∷ blocks) address = ap (λ b. (x.0 == address) || b) (placed_keys blocks address)

  pub mapped_alike : (blocks : List Placed) (address : ℕ) → is_some (word_at (places 0 (placed_sizes small mapped blocks)) address) ≡ is_some (word_at (places 0 (whole_sizes blocks)) address)
  mapped_alike blocks address = is_mapped 0 (placed_sizes small mapped blocks) address ∙ placed_keys blocks address ∙ sym (is_mapped 0 (whole_sizes blocks) address)

  pub same_addresses : (f : ℕ) (blocks : List Placed) → map (λ (p : Pair). p.0) (places f (placed_sizes small mapped blocks)) ≡ map (λ (b : Placed). b.0) blocks
  same_addresses f [] = refl
  same_addresses f (x ∷ blocks) = ap (λ (xs : List ℕ). x.0 ∷ xs) (same_addresses (f + placed_size (end_before small mapped blocks x.1) x.1) blocks)
