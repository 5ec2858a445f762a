-- A block does in its place what it does anywhere.
use Rattle.std.proofs.Common.{◌≡◌, ℕ, zero, suc, ◌+◌, ◌-◌, ◌^◌, ◌<◌, ◌≤◌, ◌++◌, refl, sym, ◌∙◌, ap, subst, arith, add-zero, eqb-true, ltb-true, ltb-false, List, [], ◌∷◌, length, length-append, take, get_or, Bool, true, false, Option, Some, None}
use Rattle.std.specs.Prelude.{ℤ, ◌==◌, ◌&&◌, ◌||◌, not, nat_lt, nat_le, slice_get, unwrap_or, if◌then◌else◌}
use Rattle.std.specs.List.{list_any}
use Rattle.std.proofs.lemmas.Int.{ints}
use Rattle.std.proofs.lemmas.Bool.{and_parts}
use Rattle.std.proofs.lemmas.Bool.Decides.{nat_tests}
use Rattle.std.proofs.lemmas.Option.{slice_get-get_or}
use Rattle.vax_form.specs.Tree.{Tree}
use Rattle.vax_form.specs.declared.state.Flags.{Flags}
use Rattle.vax_form.specs.declared.state.VaxState.{VaxState}
use Rattle.alpha_encode.specs.NoOperation.{nop}
use Rattle.alpha_encode.specs.declared.instr.AlphaInstr.{AlphaInstr}
use Rattle.alpha_encode.specs.declared.instr.AlphaInstr.TheVariants.{Memory, Branch, Operate, Jump, Pal}
use Rattle.alpha_encode.specs.declared.instr.BranchOp.{BranchOp}
use Rattle.alpha_encode.specs.declared.instr.BranchOp.TheVariants.{Br}
use Rattle.alpha_meaning.specs.Act.{links, target_of}
use Rattle.alpha_meaning.specs.Pieces.{HasAt, Phase, Plain}
use Rattle.alpha_meaning.specs.State.{Regs, at_place}
use Rattle.address_map.specs.Pairs.{Pair, address_at, word_at}
use Rattle.exception_records.specs.Blocks.{BlockValue}
use Rattle.exception_records.specs.Points.{Entry, point_at}
use Rattle.exception_records.specs.declared.points.Point.{Point}
use Rattle.exception_records.specs.declared.rules.Rules.{Rules}
use Rattle.block_law.specs.Placements.{Placement, state_behind}
use Rattle.block_law.specs.Rounds.{Round, block_steps, new_round}
use Rattle.block_law.specs.Laws.{Ever}
use Rattle.block_law.specs.Follows.{Follows, LeadsTo}
use Rattle.block_law.specs.Tidy.{is_kept, register_written, may_raise, may_fault, interprets, keeps_to, keeps_until, IsTidy}
use Rattle.block_law.specs.Blocks.{Exit, IsBlockOf, RulesAt, RulesMeet, is_quiet}
use Rattle.block_law.specs.Translations.{Meaning, Permit, Code, IsBlock, done_at, end_of, fetch_of, has_loop, placed}
use Rattle.block_law.proofs.Laid.{has_each}
use Rattle.block_law.proofs.Rules.{lands}
use Rattle.branch_layout.specs.Exits.{code_to, displacement, exit_code, is_near}
use Rattle.branch_layout.specs.Ends.{all_stay, ended_words, fork_code, fork_words, form_code, form_of, form_words, is_near_block, is_next, keeps, may_end, may_end_at, may_fall, none_behind, stays, word_to}
use Rattle.branch_layout.specs.Layouts.{FollowsAnywhere}
use Rattle.branch_layout.specs.declared.ends.End.{End}
use Rattle.branch_layout.specs.declared.ends.Fork.{Fork}
use Rattle.branch_layout.specs.declared.ends.Form.{Form}
use Rattle.branch_layout.specs.declared.ends.Form.TheVariants.{Behind, Near, Whole}
use Rattle.branch_layout.proofs.Comes.{Comes, lands_here, leads_here, Shown, shown, shown_of}
use Rattle.branch_layout.proofs.ExitWords.{exit_length, exit_quiet}
use Rattle.branch_layout.proofs.Filling.{some_same}
use Rattle.branch_layout.proofs.Leads.{near_leads, far_leads, none_leads}
use Rattle.branch_layout.proofs.Pieces.{taken_front, taken_back, taken_length}
use Rattle.branch_layout.proofs.Shorter.{AreSame, AtCut, carried}
use Rattle.branch_layout.proofs.Virtual.{AreLast, alone, alone_point, exit_opens, fetched_alone, inside_alone, leads_alone, slow_front, stands_alone, stub_point, words_count}

-- ---- what the code tells of a block
-- a block of the address begins at that word
pub record IsTarget (code : Code) (address target : ℕ) : Type 0 where
  pub below : target < 2 ^ 23
  pub begins : address_at code.map target ≡ Some address
  pub point : Point
  pub has_point : point_at code.points target ≡ Some point

-- The words of a block stand there, with its points, up to the next. Each address that is mapped has a block; so has one
-- that is near, and the next block's address.
pub record IsSet (code : Code) (small : Bool) (mapped : List Pair) (next : Option ℕ) (address first : ℕ) (block : BlockValue) (words : List AlphaInstr) : Type 0 where
  pub few : length code.words ≤ 2 ^ 23
  pub whole : first + length block.words ≤ 2 ^ 23
  pub here : word_at code.map address ≡ Some first
  pub stand : HasAt (fetch_of code.words) first words
  pub ends : end_of code first ≡ first + length words
  pub within : first + length words ≤ length code.words
  pub alone : (w : ℕ) → 0 < w → w < length words → address_at code.map (first + w) ≡ None
  pub points : (w : ℕ) → w < length words → point_at code.points (first + w) ≡ point_at block.points w
  pub targets : (to target : ℕ) → word_at code.map to ≡ Some target → IsTarget code to target
  pub near : (to : ℕ) → is_near_block small mapped to ≡ true → (target : ℕ) × (word_at code.map to ≡ Some target)
  pub next_is : (to : ℕ) → is_next next to ≡ true → word_at code.map to ≡ Some (first + length words)

-- ---- the form of an exit
pub data FormIs (falls small : Bool) (mapped : List Pair) (next : Option ℕ) (address : ℕ) : Form → Type 0 where
  is_behind : falls ≡ true → is_next next address ≡ true → FormIs falls small mapped next address Behind
  is_near_form : is_near_block small mapped address ≡ true → FormIs falls small mapped next address Near
  is_whole : FormIs falls small mapped next address Whole

pub form_is : (falls small : Bool) (mapped : List Pair) (next : Option ℕ) (address : ℕ) → FormIs falls small mapped next address (form_of falls small mapped next address)
form_is falls small mapped next address = by falls refl (is_next next address) refl (is_near_block small mapped address) refl
  where
    by : (a : Bool) → falls ≡ a → (b : Bool) → is_next next address ≡ b → (c : Bool) → is_near_block small mapped address ≡ c
        → FormIs falls small mapped next address (if a && b then Behind else if c then Near else Whole)
    by true is_a true is_b c is_c = is_behind is_a is_b
    by true is_a false is_b true is_c = is_near_form is_c
    by true is_a false is_b false is_c = is_whole
    by false is_a b is_b true is_c = is_near_form is_c
    by false is_a b is_b false is_c = is_whole

-- ---- words that are quiet
pub quiet_parts : (a b c d : Bool) → (not a && not b && not c && d) ≡ true → (a ≡ false) × (b ≡ false) × (c ≡ false) × (d ≡ true)
quiet_parts false false false true e = (refl, refl, refl, refl)
quiet_parts true b c d e = absurd (cc e)
quiet_parts false true c d e = absurd (cc e)
quiet_parts false false true d e = absurd (cc e)
quiet_parts false false false false e = absurd (cc e)

raises_nothing : (i : AlphaInstr) → may_fault i ≡ false → may_raise i ≡ false
raises_nothing (Memory op ra rb disp) e = refl
raises_nothing (Branch op ra disp) e = refl
raises_nothing (Operate op ra rb rc) e = refl
raises_nothing (Jump ra rb) e = refl
raises_nothing (Pal number) e = e

-- words that write no register that is kept, and are none of such words
abbrev Calm : (is_such : AlphaInstr → Bool) → List AlphaInstr → Type 0
Calm is_such is = (j : ℕ) (i : AlphaInstr) → slice_get is j ≡ Some i → (is_kept (register_written i) ≡ false) × (is_such i ≡ false)

calm_none : (is_such : AlphaInstr → Bool) (is : List AlphaInstr) → Calm is_such is → list_any is_such is ≡ false
calm_none is_such [] calm = refl
calm_none is_such (i ∷ is) calm = rw ((calm 0 i refl).1) (calm_none is_such is (λ j. calm (suc j)))

calm_keeps : (is_such : AlphaInstr → Bool) (is : List AlphaInstr) → Calm is_such is → keeps_until is_such is ≡ true
calm_keeps is_such [] calm = refl
calm_keeps is_such (i ∷ is) calm = rw ((calm 0 i refl).0) (calm_keeps is_such is (λ j. calm (suc j)))

-- the first words of a list, and calm ones behind them
none_in_front : (is_such : AlphaInstr → Bool) (n : ℕ) (is js : List AlphaInstr) → list_any is_such js ≡ false → list_any is_such is ≡ false → list_any is_such (take n is ++ js) ≡ false
none_in_front is_such zero is js none e = none
none_in_front is_such (suc n) [] js none e = none
none_in_front is_such (suc n) (i ∷ is) js none e = by (is_such i) refl e (none_in_front is_such n is js none)
  where
    by : (b : Bool) → is_such i ≡ b → (b || list_any is_such is) ≡ false → (list_any is_such is ≡ false → list_any is_such (take n is ++ js) ≡ false) → (is_such i || list_any is_such (take n is ++ js)) ≡ false
    by true is_b e rest = absurd (cc e)
    by false is_b e rest = rw is_b (rest e)

keeps_in_front : (is_such : AlphaInstr → Bool) (n : ℕ) (is js : List AlphaInstr) → list_any is_such js ≡ false → keeps_until is_such js ≡ true → keeps_until is_such is ≡ true → keeps_until is_such (take n is ++ js) ≡ true
keeps_in_front is_such zero is js none kept e = kept
keeps_in_front is_such (suc n) [] js none kept e = kept
keeps_in_front is_such (suc n) (i ∷ is) js none kept e =
    let parts = and_parts (not (is_kept (register_written i) && list_any is_such is)) (keeps_until is_such is) e in
    both (not (is_kept (register_written i) && list_any is_such (take n is ++ js))) (keeps_until is_such (take n is ++ js))
    (fewer (is_kept (register_written i)) (list_any is_such is) refl parts.0) (keeps_in_front is_such n is js none kept parts.1)
  where
    both : (a b : Bool) → a ≡ true → b ≡ true → (a && b) ≡ true
    both a b ea eb = rw (ea, eb) refl

    fewer : (a b : Bool) → list_any is_such is ≡ b → not (a && b) ≡ true → not (a && list_any is_such (take n is ++ js)) ≡ true
    fewer false b is_b e = refl
    fewer true true is_b e = absurd (cc e)
    fewer true false is_b e = rw (none_in_front is_such n is js none is_b) refl

-- ---- points
-- no point stands behind a word
none_there : (last w : ℕ) (points : List Entry) → none_behind last points ≡ true → last < w → point_at points w ≡ None
none_there last w [] e lt = refl
none_there last w (p ∷ points) e lt = by (nat_le p.0 last) refl e (none_there last w points)
  where
    by : (b : Bool) → nat_le p.0 last ≡ b → (b && none_behind last points) ≡ true → (none_behind last points ≡ true → last < w → point_at points w ≡ None) → point_at (p ∷ points) w ≡ None
    by true is_b e rest = let other : (p.0 == w) ≡ false = grind (arith, nat_tests, is_b) in rw other (rest e lt)
    by false is_b e rest = absurd (cc e)

stays_at : (last k : ℕ) (is : List AlphaInstr) (j : ℕ) (i : AlphaInstr) → all_stay last k is ≡ true → slice_get is j ≡ Some i → stays last (k + j) i ≡ true
stays_at last k [] j i ok e = absurd (cc e)
stays_at last k (x ∷ is) zero i ok e =
    let same : x ≡ i = some_same e in
    let here : k ≡ k + 0 = omega arith in
    subst (λ n. stays last n i ≡ true) here (subst (λ (i : AlphaInstr). stays last k i ≡ true) same (and_parts (stays last k x) (all_stay last (k + 1) is) ok).0)
stays_at last k (x ∷ is) (suc j) i ok e =
    let there : k + 1 + j ≡ k + suc j = omega arith in
    subst (λ n. stays last n i ≡ true) there (stays_at last (k + 1) is j i (and_parts (stays last k x) (all_stay last (k + 1) is) ok).1 e)

-- the first words of a list
taken_at : {X : Type 0} (n : ℕ) (xs : List X) (k : ℕ) → k < n → n ≤ length xs → slice_get (take n xs) k ≡ slice_get xs k
taken_at zero xs k lt le = absurd (omega arith)
taken_at (suc n) [] k lt le = absurd (omega arith)
taken_at (suc n) (x ∷ xs) zero lt le = refl
taken_at (suc n) (x ∷ xs) (suc k) lt le = taken_at n xs k (omega arith) (omega arith)

-- ---- an exit in its place
module _ (meaning : Meaning) (permit : Permit) (thread : ℕ) (state : VaxState) (held : Flags) (code : Code) (small : Bool) (mapped : List Pair) (next : Option ℕ) (own first : ℕ) (block : BlockValue) (words : List AlphaInstr) (set : IsSet code small mapped next own first block words) (behind : Rules) where
  abbrev pub real : Placement
  real = placed meaning permit code thread state held first

  pub branch_goes : (word target : ℕ) → word < 2 ^ 31 → target < 2 ^ 31 → target_of word (displacement word target) ≡ target
  branch_goes word target low high = omega (arith, ints)

  -- the first word of a block that is near
  pub word_to_is : (to target : ℕ) → word_at code.map to ≡ Some target → word_to code.map to ≡ target
  word_to_is to target e = ap (λ o. unwrap_or o 0) e

  -- the rules at an address, where it is told that they are so
  pub rules_of : (to target : ℕ) (e : word_at code.map to ≡ Some target) → RulesAt code (word_at code.map to) behind → (set.targets to target e).point.rules ≡ behind
  rules_of to target e rules = let t = set.targets to target e in (subst (λ o. RulesAt code o behind) e rules) t.point t.has_point

  -- words of an exit that is not behind lead to its address
  module _ (w to : ℕ) (falls : Bool) (low : first ≤ w) (to_fits : to < 2 ^ 32) (rules : RulesAt code (word_at code.map to) behind) where
    pub leads_by : (form : Form) → FormIs falls small mapped next to form → w + form_words form ≡ first + length words → (form_words form ≡ 0 → ⊥) → HasAt (fetch_of code.words) w (form_code code.map w form to) → LeadsTo real w to behind 3
    leads_by Behind is size some at = absurd (some refl)
    leads_by Near (is_near_form near) size some at = λ n spare round regs room form.
        let n1 = set.near to near in
        let t = set.targets to n1.0 n1.1 in
        let below = t.below in
        let few = set.few in
        let within = set.within in
        let end = set.ends in
        lands real None (at_place regs w) (at_place regs n1.0) (Branch Br 31 (displacement w (word_to code.map to))) (state_behind real regs to behind) to t.point
        (record { is = at.0; low = low; high = omega arith })
        (rw (word_to_is to n1.0 n1.1, branch_goes w n1.0 (omega arith) (omega arith)) refl) t.begins t.has_point form (ap (state_behind real regs to) (sym (rules_of to n1.0 n1.1 rules))) n spare round (omega arith)
    leads_by Whole is size some at = by (word_at code.map to) refl at rules
      where
        few : length code.words ≤ 2 ^ 23
        few = set.few

        within : first + length words ≤ length code.words
        within = set.within

        high : w + 3 ≤ end_of code first
        high = let end = set.ends in omega arith

        inside : (k : ℕ) → w < k → k < w + 3 → address_at code.map k ≡ None
        inside k above below = let there : first + (k - first) ≡ k = omega arith in subst (λ n. address_at code.map n ≡ None) there (set.alone (k - first) (omega arith) (omega arith))

        by : (o : Option ℕ) → word_at code.map to ≡ o → HasAt (fetch_of code.words) w (exit_code o w to) → RulesAt code o behind → LeadsTo real w to behind 3
        by None e at ready = none_leads real w to behind low high inside ready to_fits e at
        by (Some target) e at same = nearly (is_near w target) at
          where
            t : IsTarget code to target
            t = set.targets to target e

            nearly : (b : Bool) → HasAt (fetch_of code.words) w (code_to b w target) → LeadsTo real w to behind 3
            nearly true at = near_leads real w to behind low high inside target t.point (let a = few in let b = within in omega arith) t.below t.begins t.has_point (same t.point t.has_point) at
            nearly false at = far_leads real w to behind low high inside target t.point (let a = few in let b = within in omega arith) t.below t.begins t.has_point (same t.point t.has_point) at

    -- so the block comes there
    pub comes_by : (form : Form) → FormIs falls small mapped next to form → first < w → w + form_words form ≡ first + length words → HasAt (fetch_of code.words) w (form_code code.map w form to) → Comes real w to behind
    comes_by Behind (is_behind falls is) above size at =
        let here : first + length words ≡ w = omega arith in
        let e : word_at code.map to ≡ Some w = set.next_is to is ∙ ap (λ (n : ℕ). Some n) here in
        let t = set.targets to w e in
        lands_here t.point t.begins t.has_point (rules_of to w e rules)
    comes_by Near is above size at =
        let there : first + (w - first) ≡ w = omega arith in
        leads_here (subst (λ n. address_at code.map n ≡ None) there (set.alone (w - first) (omega arith) (omega arith))) (leads_by Near is size (λ z. absurd (omega arith)) at)
    comes_by Whole is above size at =
        let there : first + (w - first) ≡ w = omega arith in
        leads_here (subst (λ n. address_at code.map n ≡ None) there (set.alone (w - first) (omega arith) (omega arith))) (leads_by Whole is size (λ z. absurd (omega arith)) at)

-- ---- the words of a block by its end
pub form_length : (pairs : List Pair) (word : ℕ) (form : Form) (address : ℕ) → length (form_code pairs word form address) ≡ form_words form
form_length pairs word Behind address = refl
form_length pairs word Near address = refl
form_length pairs word Whole address = exit_length (word_at pairs address) word address

pub form_most : (form : Form) → form_words form ≤ 3
form_most Behind = omega arith
form_most Near = omega arith
form_most Whole = omega arith

pub fork_length : (pairs : List Pair) (word : ℕ) (fork : Option Fork) → length (fork_code pairs word fork) ≡ fork_words fork
fork_length pairs word None = refl
fork_length pairs word (Some fork) = refl

form_quiet : (pairs : List Pair) (word : ℕ) (form : Form) (address j : ℕ) (i : AlphaInstr) → slice_get (form_code pairs word form address) j ≡ Some i → is_quiet i ≡ true
form_quiet pairs word Behind address j i e = absurd (cc e)
form_quiet pairs word Near address zero i e = let same : Branch Br 31 (displacement word (word_to pairs address)) ≡ i = some_same e in subst (λ (i : AlphaInstr). is_quiet i ≡ true) same refl
form_quiet pairs word Near address (suc j) i e = absurd (cc e)
form_quiet pairs word Whole address j i e = exit_quiet (word_at pairs address) word address j i e

pub branch_quiet : (op : BranchOp) (ra : ℕ) (disp : ℤ) → links op ≡ false → is_quiet (Branch op ra disp) ≡ true
branch_quiet op ra disp e = rw e refl

pub has_front : (fetch : ℕ → Option AlphaInstr) (pc : ℕ) (is js : List AlphaInstr) → HasAt fetch pc (is ++ js) → HasAt fetch pc is × HasAt fetch (pc + length is) js
has_front fetch pc [] js h = (tt, subst (λ n. HasAt fetch n js) (sym (add-zero pc)) h)
has_front fetch pc (i ∷ is) js h =
    let rest = has_front fetch (pc + 1) is js h.1 in
    let there : pc + 1 + length is ≡ pc + suc (length is) = omega arith in
    ((h.0, rest.0), subst (λ n. HasAt fetch n js) there rest.1)

-- ---- a block that ends so
module _ (meaning : Meaning) (permit : Permit) (code : Code) (small : Bool) (mapped : List Pair) (next : Option ℕ) (address first : ℕ) (block : BlockValue) (shape : IsBlockOf (has_loop permit address) address block) (end : End) (set : IsSet code small mapped next address first block (ended_words code.map first block end))
    (behind : Rules) (meet : RulesMeet code block.exits behind) where
  abbrev words : List AlphaInstr
  words = ended_words code.map first block end

  -- the words behind those that stay
  abbrev fork_part : List AlphaInstr
  fork_part = fork_code code.map (first + end.start) end.fork

  abbrev form_part : List AlphaInstr
  form_part = form_code code.map (first + end.start + fork_words end.fork) end.form end.address

  -- what is known of any end: its exits are the last of the block, and the words before it stay
  pub record IsEnd : Type 0 where
    pub exits_at : ℕ
    pub tail : AreLast exits_at (length block.words) block.exits
    pub below : end.start ≤ exits_at
    pub at_most : exits_at ≤ end.start + 1
    pub room : end.start < length block.words
    pub kept : keeps end.start block ≡ true
    pub count : end.start + (fork_words end.fork + form_words end.form) ≤ length block.words
    pub some : 1 ≤ end.start + (fork_words end.fork + form_words end.form)
    pub fork_calm : (j : ℕ) (i : AlphaInstr) → slice_get fork_part j ≡ Some i → is_quiet i ≡ true
    -- the point of the word at which it begins
    pub quiet_there : (i : AlphaInstr) → slice_get block.words end.start ≡ Some i → done_at (Some i) ≡ 0
    -- the words before are the last before another block
    pub falls : fork_words end.fork + form_words end.form ≡ 0 → may_fall end.start block ≡ true

  module _ (e : IsEnd) where
    long_enough : end.start ≤ length block.words
    long_enough = let room = e.room in omega arith

    pub size : length words ≡ end.start + (fork_words end.fork + form_words end.form)
    size =
        taken_length end.start block.words (fork_part ++ form_part) long_enough
        ∙ ap (λ n. end.start + n) (length-append fork_part form_part ∙ (let a = fork_length code.map (first + end.start) end.fork in let b = form_length code.map (first + end.start + fork_words end.fork) end.form end.address in omega arith))

    front : (w : ℕ) → w < end.start → slice_get words w ≡ slice_get block.words w
    front w lt = taken_front end.start block.words (fork_part ++ form_part) w lt long_enough

    back : (j : ℕ) → slice_get words (end.start + j) ≡ slice_get (fork_part ++ form_part) j
    back j = taken_back end.start block.words (fork_part ++ form_part) j long_enough

    either : (is js : List AlphaInstr) (P : AlphaInstr → Type 0) → ((j : ℕ) (i : AlphaInstr) → slice_get is j ≡ Some i → P i) → ((j : ℕ) (i : AlphaInstr) → slice_get js j ≡ Some i → P i) → (j : ℕ) (i : AlphaInstr) → slice_get (is ++ js) j ≡ Some i → P i
    either [] js P f g j i at = g j i at
    either (x ∷ is) js P f g zero i at = f 0 i at
    either (x ∷ is) js P f g (suc j) i at = either is js P (λ k. f (suc k)) g j i at

    tail_quiet : (j : ℕ) (i : AlphaInstr) → slice_get (fork_part ++ form_part) j ≡ Some i → is_quiet i ≡ true
    tail_quiet = either fork_part form_part (λ i. is_quiet i ≡ true) e.fork_calm (form_quiet code.map (first + end.start + fork_words end.fork) end.form end.address)

    -- ---- it is as tidy as the block
    calm_loops : (loops : Bool) → Calm (keeps_to loops) (fork_part ++ form_part)
    calm_loops loops j i at =
        let q = quiet_parts (is_kept (register_written i)) (may_fault i) (interprets i) (done_at (Some i) == 0) (tail_quiet j i at) in
        (q.0, by loops q.1)
      where
        by : (loops : Bool) → may_fault i ≡ false → keeps_to loops i ≡ false
        by true f = raises_nothing i f
        by false f = f

    calm_interprets : Calm interprets (fork_part ++ form_part)
    calm_interprets j i at =
        let q = quiet_parts (is_kept (register_written i)) (may_fault i) (interprets i) (done_at (Some i) == 0) (tail_quiet j i at) in
        (q.0, q.2)

    tidy : (loops : Bool) → IsTidy loops block.words → IsTidy loops words
    tidy loops t =
        let is = size in
        let count = e.count in
        let some = e.some in
        let few = t.few in
        record {
          some = omega arith;
          few = omega arith;
          keeps = keeps_in_front (keeps_to loops) end.start block.words (fork_part ++ form_part) (calm_none (keeps_to loops) (fork_part ++ form_part) (calm_loops loops)) (calm_keeps (keeps_to loops) (fork_part ++ form_part) (calm_loops loops)) t.keeps;
          translated = none_in_front interprets end.start block.words (fork_part ++ form_part) (calm_none interprets (fork_part ++ form_part) calm_interprets) t.translated;
        }

    -- ---- its points
    none_after : (w : ℕ) → end.start < w → point_at block.points w ≡ None
    none_after w lt = none_there end.start w block.points (and_parts (all_stay end.start 0 (take end.start block.words)) (none_behind end.start block.points) e.kept).1 lt

    pub word_is : (w : ℕ) → w < length words → fetch_of code.words (first + w) ≡ slice_get words w
    word_is w lt =
        let it = get_or words w nop in
        let here : slice_get words w ≡ Some it = slice_get-get_or words w nop lt in
        has_each (fetch_of code.words) first words set.stand w it here ∙ sym here

    its_point : (w : ℕ) (q : Point) → w < length words → point_at code.points (first + w) ≡ Some q → (q.vax_pc ≡ address) × (q.done ≡ done_at (fetch_of code.words (first + w)))
    its_point w q lt has = by (nat_lt w end.start) refl (nat_lt end.start w) refl
      where
        in_block : point_at block.points w ≡ Some q
        in_block = sym (set.points w lt) ∙ has

        by : (a : Bool) → nat_lt w end.start ≡ a → (b : Bool) → nat_lt end.start w ≡ b → (q.vax_pc ≡ address) × (q.done ≡ done_at (fetch_of code.words (first + w)))
        by true is_a b is_b =
            let low = ltb-true w end.start is_a in
            let own = shape.points w q in_block in
            (own.its, own.done ∙ ap done_at (sym (front w low)) ∙ ap done_at (sym (word_is w lt)))
        by false is_a true is_b = absurd (cc (sym in_block ∙ none_after w (ltb-true end.start w is_b)))
        by false is_a false is_b =
            let low = ltb-false w end.start is_a in
            let high = ltb-false end.start w is_b in
            let same : w ≡ end.start = omega arith in
            let own = shape.points w q in_block in
            let before = get_or block.words w nop in
            let was : slice_get block.words w ≡ Some before = slice_get-get_or block.words w nop own.within in
            let it = get_or words w nop in
            let here : slice_get words w ≡ Some it = slice_get-get_or words w nop lt in
            let there : w ≡ end.start + 0 = omega arith in
            let q0 = tail_quiet 0 it (sym (back 0) ∙ ap (slice_get words) (sym there) ∙ here) in
            let zero_now : done_at (Some it) ≡ 0 = eqb-true (done_at (Some it)) 0 (quiet_parts (is_kept (register_written it)) (may_fault it) (interprets it) (done_at (Some it) == 0) q0).3 in
            let zero_before : done_at (Some before) ≡ 0 = e.quiet_there before (ap (slice_get block.words) (sym same) ∙ was) in
            (own.its, own.done ∙ ap done_at was ∙ zero_before ∙ sym zero_now ∙ ap done_at (sym here) ∙ ap done_at (sym (word_is w lt)))

    -- ---- it follows what it follows anywhere
    module _ (thread : ℕ) (state : VaxState) (held : Flags) where
      -- the code in which the block stands alone, with three words for each exit
      abbrev pub long : Code
      long = alone (has_loop permit address) address first block shape behind e.exits_at e.tail

      abbrev whole : Placement
      whole = placed meaning permit long thread state held first

      abbrev now : Placement
      now = placed meaning permit code thread state held first

      pub same : AreSame meaning permit thread state held first long code end.start
      same =
          let is = size in
          let ends = set.ends in
          let room = e.room in
          let most = set.whole in
          let at_most = e.at_most in
          let below = e.below in
          record {
            few = omega arith;
            within = omega arith;
            word = λ place lt. get_or block.words place nop;
            stay = λ place lt.
                let here : 0 + place ≡ place = omega arith in
                subst (λ n. stays end.start n (get_or block.words place nop) ≡ true) here
                (stays_at end.start 0 (take end.start block.words) place (get_or block.words place nop) (and_parts (all_stay end.start 0 (take end.start block.words)) (none_behind end.start block.points) e.kept).0
                (taken_at end.start block.words place lt (omega arith) ∙ slice_get-get_or block.words place nop (omega arith)));
            long_word = λ place lt.
                fetched_alone (has_loop permit address) address first block shape behind e.exits_at e.tail place (get_or block.words place nop)
                (slow_front (has_loop permit address) address first block shape behind e.exits_at e.tail place (omega arith) ∙ slice_get-get_or block.words place nop (omega arith));
            short_word = λ place lt. word_is place (omega arith) ∙ front place lt ∙ slice_get-get_or block.words place nop (omega arith);
            same_points = λ place lt. set.points place (omega arith) ∙ sym (alone_point (has_loop permit address) address first block shape behind e.exits_at e.tail place (omega arith));
            inside = λ w low high. inside_alone (has_loop permit address) address first block shape behind e.exits_at e.tail meaning permit thread state held set.whole w low (omega arith);
            alone = λ w low high. let there : first + (w - first) ≡ w = omega arith in subst (λ n. address_at code.map n ≡ None) there (set.alone (w - first) (omega arith) (omega arith));
          }

      -- at an exit of the block alone the state is shown
      pub exit_shown : (place : ℕ) (exit : Exit) → slice_get block.exits place ≡ Some exit → (phase : Phase) (spare : ℕ) (round : Round) (regs : Regs) (t : Tree) → Ever whole phase spare round (at_place regs (first + exit.0)) t
          → (3 ≤ spare) × Shown now exit.1 behind regs phase t
      exit_shown place exit at phase spare round regs t h =
          let x = exit_opens (has_loop permit address) address first block shape behind e.exits_at e.tail meaning permit thread state held set.whole place exit at phase spare round regs t h in
          (x.0, here (shown_of whole exit.1 (stub_point behind) regs phase t x.1))
        where
          here : {phase : Phase} {t : Tree} → Shown whole exit.1 behind regs phase t → Shown now exit.1 behind regs phase t
          here (shown s form is) = shown s form is

      -- what is known at the word behind those that stay, as far as the block goes on there
      abbrev pub FollowsThere : Type 0
      FollowsThere = (n : ℕ) (phase : Phase) (spare : ℕ) (round : Round) (regs : Regs) (t : Tree) → Ever whole phase spare round (at_place regs (first + end.start)) t → Follows now n phase spare round (at_place regs (first + end.start)) t

      pub last_word : (place : ℕ) (lt : place < end.start) → place + 1 ≡ end.start → may_fall end.start block ≡ true → may_end (same.word place lt) ≡ true
      unfolding same
      last_word place lt is falls =
          let parts = and_parts (nat_lt 0 end.start && may_end_at (slice_get block.words (end.start - 1))) (none_behind (end.start - 1) block.points) falls in
          let ends = (and_parts (nat_lt 0 end.start) (may_end_at (slice_get block.words (end.start - 1))) parts.0).1 in
          let here : end.start - 1 ≡ place = omega arith in
          let room = e.room in
          let word = slice_get-get_or block.words place nop (omega arith) in
          subst (λ o. may_end_at o ≡ true) (ap (slice_get block.words) here ∙ word) ends

      -- from there on it does so from its first word on
      from_first : (tree : Tree) (regs : Regs) → (0 < end.start → AtCut meaning permit thread state held first long code end.start same) → (end.start ≡ 0 → FollowsThere) → ((n : ℕ) → Follows whole n Plain block_steps new_round (at_place regs first) tree)
          → (n : ℕ) → Follows now n Plain block_steps new_round (at_place regs first) tree
      from_first tree regs cut there ever n = by (nat_lt 0 end.start) refl
        where
          here : first + 0 ≡ first
          here = add-zero first

          by : (b : Bool) → nat_lt 0 end.start ≡ b → Follows now n Plain block_steps new_round (at_place regs first) tree
          by true some =
              let lt = ltb-true 0 end.start some in
              subst (λ pc. Follows now n Plain block_steps new_round (at_place regs pc) tree) here
              (carried meaning permit thread state held first long code end.start same (cut lt) n 0 Plain block_steps new_round regs tree lt
              (subst (λ pc. Ever whole Plain block_steps new_round (at_place regs pc) tree) (sym here) ever))
          by false none =
              let late = ltb-false 0 end.start none in
              let zero_is : end.start ≡ 0 = omega arith in
              let same_word : first + end.start ≡ first = omega arith in
              subst (λ pc. Follows now n Plain block_steps new_round (at_place regs pc) tree) same_word
              (there zero_is n Plain block_steps new_round regs tree (subst (λ pc. Ever whole Plain block_steps new_round (at_place regs pc) tree) (sym same_word) ever))

    -- what the block has to do at the word behind those that stay
    abbrev pub Cut : (thread : ℕ) (state : VaxState) (held : Flags) → Type 0
    Cut thread state held = (0 < end.start → AtCut meaning permit thread state held first (long thread state held) code end.start (same thread state held)) × (end.start ≡ 0 → FollowsThere thread state held)

    -- so the block is the instruction's in the code
    pub is_block : ((thread : ℕ) (state : VaxState) (held : Flags) → Cut thread state held) → FollowsAnywhere meaning permit address block shape.first.rules behind → IsBlock meaning permit code address first
    is_block cut anywhere =
        let is = size in
        let ends = set.ends in
        let within = set.within in
        let some = e.some in
        let here : first + 0 ≡ first = add-zero first in
        record {
          point = shape.first;
          has_point = subst (λ w. point_at code.points w ≡ Some shape.first) here (set.points 0 (omega arith) ∙ shape.has_first);
          its_points = λ word q low high has.
              let there : first + (word - first) ≡ word = omega arith in
              subst (λ w. (q.vax_pc ≡ address) × (q.done ≡ done_at (fetch_of code.words w))) there
              (its_point (word - first) q (omega arith) (subst (λ w. point_at code.points w ≡ Some q) (sym there) has));
          words = words;
          ends = sym ends;
          within = omega arith;
          stand = set.stand;
          tidy = tidy (has_loop permit address) shape.tidy;
          follows = λ thread n state held regs lt is_state pc form shows.
              let x = cut thread state held in
              let most = set.whole in
              let count = words_count (has_loop permit address) address first block shape behind e.exits_at e.tail in
              from_first thread state held (meaning.tree thread state) regs x.0 x.1
              (λ m. anywhere (long thread state held) first thread m state held regs (omega arith) (stands_alone (has_loop permit address) address first block shape behind e.exits_at e.tail) lt is_state pc form shows
              (leads_alone (has_loop permit address) address first block shape behind e.exits_at e.tail meaning permit thread state held set.whole)) n;
        }
