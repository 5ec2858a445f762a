-- Words in which each copy of what one makes is made where it goes.
use Rattle.std.proofs.Common.{◌≡◌, ℕ, ◌+◌, ◌<◌, ◌≤◌, refl, sym, ap, ◌∙◌, subst, arith, List, [], ◌∷◌, ◌++◌, length, suc, Option, Some, None, Bool, true, false, eqb-true, lit<, length-append}
use Rattle.std.specs.Prelude.{◌==◌, ◌&&◌, ◌||◌, nat_lt, not, bit_or, All, option_map, option_and_then, unwrap_or, if◌then◌else◌}
use Rattle.std.specs.List.{list_all}
use Rattle.std.specs.Int.Bits.{or_zero_l}
use Rattle.std.proofs.lemmas.Bool.Decides.{nat_tests}
use Rattle.std.proofs.lemmas.Bool.{and_parts, and_from, or_from, ltb-true}
use Rattle.std.proofs.lemmas.List.Elements.{All-append, All-cons, All-head, All-nil, All-tail}
use Rattle.std.proofs.lemmas.List.Folds.{list_any-append}
use Rattle.std.proofs.lemmas.Option.{same_Some}
use Rattle.alpha_encode.specs.Words.{IsEncodable}
use Rattle.alpha_encode.specs.declared.instr.AlphaInstr.{AlphaInstr}
use Rattle.alpha_encode.specs.declared.instr.AlphaInstr.TheVariants.{Memory, Branch, Operate, Jump, Pal}
use Rattle.alpha_encode.specs.declared.instr.OperateOp.{OperateOp}
use Rattle.alpha_encode.specs.declared.instr.OperateOp.TheVariants as row
use Rattle.alpha_encode.specs.declared.instr.Second.{Second}
use Rattle.alpha_encode.specs.declared.instr.Second.TheVariants.{Register, Literal}
use Rattle.alpha_meaning.specs.Act.{second_value}
use Rattle.alpha_meaning.specs.Loops.{effect, effects, is_operate, written}
use Rattle.alpha_meaning.specs.Result.{long, plus, result_of}
use Rattle.alpha_meaning.specs.State.{Regs, put}
use Rattle.alpha_meaning.proofs.Registers.{put_other, put_same}
use Rattle.block_law.specs.Tidy.{register_written, writes_register}
use Rattle.micro_ops.specs.declared.program.Exit.{Exit}
use Rattle.program_codegen.specs.declared.homes.Homes.{Homes}
use Rattle.program_codegen.specs.Homes.{AreHomes, home_of, is_choice, second_reads, waiting_words}
use Rattle.program_codegen.specs.Ends.{commit_stays, is_left_alone, commit_words, end_words, into, spared_word, spared_words, word_reads, copies_from, goes_by, is_left, leaves_made, makes_home, with_spared, with_waiting}
use Rattle.program_codegen.proofs.HomeCodes.{held_unread}
use Rattle.program_codegen.proofs.Fronts.{free_spares}
use Rattle.program_codegen.proofs.HomeHolding.{home_is}
use Rattle.program_codegen.proofs.HomeNumbers.{IsExtended}
use Rattle.program_codegen.proofs.HomeShapes.{Kept}
use Rattle.program_codegen.proofs.Numbers.{all_three, committed_is}
use Rattle.program_codegen.proofs.Rows.{is_free, is_own, is_silent, list_all_of, own_free, silent_own}

-- ---- one word
pub record Spared (place : ℕ) (extended last : Bool) (made i j : AlphaInstr) : Type 0 where
  pub leaves : leaves_made place last made i ≡ true
  pub is : j ≡ (if copies_from place extended i then into (written i) made else i)
  pub reads : (copies_from place extended i || not (word_reads i place)) ≡ true

pub spared_is : (place : ℕ) (extended last : Bool) (made i j : AlphaInstr) → spared_word place extended last made i ≡ Some j → Spared place extended last made i j
spared_is place extended last made i j e = by (leaves_made place last made i) refl (copies_from place extended i) refl (word_reads i place) refl e
  where
    by : (a : Bool) → leaves_made place last made i ≡ a → (b : Bool) → copies_from place extended i ≡ b → (c : Bool) → word_reads i place ≡ c
        → (if not a then None else if b then Some (into (written i) made) else if c then None else Some i) ≡ Some j → Spared place extended last made i j
    by false f b g c h e = absurd (cc e)
    by true f true g c h e = record { leaves = f; is = sym (same_Some (into (written i) made) j e) ∙ ap (λ (b : Bool). if b then into (written i) made else i) (sym g); reads = ap (λ b. b || not (word_reads i place)) g }
    by true f false g true h e = absurd (cc e)
    by true f false g false h e = record { leaves = f; is = sym (same_Some i j e) ∙ ap (λ (b : Bool). if b then into (written i) made else i) (sym g); reads = ap (λ b. copies_from place extended i || not b) h ∙ or_true (copies_from place extended i) }
      where
        or_true : (b : Bool) → (b || true) ≡ true
        or_true true = refl
        or_true false = refl

-- ---- two files of registers
neither : (a b : Bool) → (a || b) ≡ false → (a ≡ false) × (b ≡ false)
neither false false e = (refl, refl)
neither true b e = absurd (cc e)
neither false true e = absurd (cc e)

pub not_false : (b : Bool) → not b ≡ true → b ≡ false
not_false false e = refl
not_false true e = absurd (cc e)

pub flipped : (m n : ℕ) → (m == n) ≡ false → (n == m) ≡ false
flipped m n e = grind (arith, nat_tests, e)

pub put_zero : (f : Regs) (c v : ℕ) → put f c v 31 ≡ f 31
put_zero f c v = by (c == 31) refl
  where
    by : (b : Bool) → (c == 31) ≡ b → put f c v 31 ≡ f 31
    by true e = rw e refl
    by false e = put_other f c v 31 (flipped c 31 e)

-- the same is written to both
put_alike : (f g : Regs) (c v v' n : ℕ) → v ≡ v' → f n ≡ g n → put f c v n ≡ put g c v' n
put_alike f g c v v' n e same = rw (e, same) refl

module _ (op : OperateOp) (x : ℕ) (s : Second) (place : ℕ) (extended : Bool) (unheld : is_choice op ≡ false) (y : ℕ) (extends : extended ≡ true → IsExtended y) where
  -- In the second what is made stands in its register; in the first what makes it stands as it did. All else is the same.
  pub record Apart (f g : Regs) : Type 0 where
    pub same : (n : ℕ) → (n == place) ≡ false → f n ≡ g n
    pub made : result_of op (f x) (second_value s f) 0 ≡ y
    pub there : g place ≡ y
    pub zero : g 31 ≡ 0

  makes_it : (f g : Regs) (held : ℕ) → Apart f g → result_of op (f x) (second_value s f) held ≡ y
  makes_it f g held a = held_unread op (f x) (second_value s f) held 0 unheld ∙ a.made

  put_apart : (f g : Regs) (c v v' : ℕ) → ((x == c) || second_reads s c) ≡ false → (c == place) ≡ false → v ≡ v' → Apart f g → Apart (put f c v) (put g c v')
  put_apart f g c v v' unread other e a =
      let u = neither (x == c) (second_reads s c) unread in
      record {
        same = λ n not_so. put_alike f g c v v' n e (a.same n not_so);
        made = ap (λ (n : ℕ). result_of op n (second_value s (put f c v)) 0) (put_other f c v x u.0) ∙ (ap (λ n. result_of op (f x) n 0) (second_stays s u.1) ∙ a.made);
        there = put_other g c v' place (flipped c place other) ∙ a.there;
        zero = put_zero g c v' ∙ a.zero;
      }
    where
      second_stays : (s : Second) → second_reads s c ≡ false → second_value s (put f c v) ≡ second_value s f
      second_stays (Register n) e = put_other f c v n e
      second_stays (Literal value) e = refl

  -- what a word leaves that copies what is made
  copied : (o : OperateOp) (a : ℕ) (b : Second) (c : ℕ) (g f : Regs) → Apart f g → copies_from place extended (Operate o a b c) ≡ true → result_of o (g a) (second_value b g) (g c) ≡ y
  copied row.Bis a (Register n) c g f h e =
      let w = and_parts (a == 31) (n == place) e in
      ap (λ m. bit_or (g m) (g n)) (eqb-true a 31 w.0) ∙ (ap (λ m. bit_or m (g n)) h.zero ∙ (or_zero_l (g n) ∙ (ap g (eqb-true n place w.1) ∙ h.there)))
  copied row.Addl a (Literal value) c g f h e =
      let w = all_three extended (a == place) (value == 0) e in
      ap (λ m. long (plus (g m) value)) (eqb-true a place w.1)
      ∙ (ap (λ v. long (plus (g place) v)) (eqb-true value 0 w.2)
      ∙ (ap (λ m. long (plus m 0)) h.there ∙ (committed_is y ∙ extends w.0)))
  copied o a b c g f h e = absurd (cc e)

  -- both write the same
  abbrev Value : Bool → OperateOp → (a : ℕ) → Second → (c : ℕ) → Regs → ℕ
  Value copies o a b c f = if copies then result_of op (f x) (second_value s f) (f c) else result_of o (f a) (second_value b f) (f c)

  writes_alike : (copies : Bool) (o : OperateOp) (a : ℕ) (b : Second) (c : ℕ) (f g : Regs) → copies_from place extended (Operate o a b c) ≡ copies → (copies || not ((a == place) || second_reads b place)) ≡ true → (c == place) ≡ false
      → Apart f g → Value copies o a b c f ≡ result_of o (g a) (second_value b g) (g c)
  writes_alike true o a b c f g copies reads other h = makes_it f g (f c) h ∙ sym (copied o a b c g f h copies)
  writes_alike false o a b c f g copies reads other h =
      let r = neither (a == place) (second_reads b place) (not_false ((a == place) || second_reads b place) reads) in
      ap (λ n. result_of o n (second_value b f) (f c)) (h.same a r.0) ∙ (ap (λ n. result_of o (g a) n (f c)) (second_same b r.1) ∙ ap (result_of o (g a) (second_value b g)) (h.same c other))
    where
      second_same : (b : Second) → second_reads b place ≡ false → second_value b f ≡ second_value b g
      second_same (Register n) e = h.same n e
      second_same (Literal value) e = refl

  left_alone : (last b c : Bool) → ((last || not b) && not c) ≡ true → (last ≡ false → b ≡ false) × (c ≡ false)
  left_alone last b c e = let l = and_parts (last || not b) (not c) e in (λ off. not_false b (subst (λ l. (l || not b) ≡ true) off l.0), not_false c l.1)

  spared_effect : (i j : AlphaInstr) (f g : Regs) → spared_word place extended false (Operate op x s place) i ≡ Some j → Apart f g → Apart (effect j f) (effect i g)
  spared_effect (Operate o a b c) j f g e h =
      let k = spared_is place extended false (Operate op x s place) (Operate o a b c) j e in
      let l = left_alone false ((x == c) || second_reads s c) (c == place) k.leaves in
      subst (λ j. Apart (effect j f) (effect (Operate o a b c) g)) (sym k.is)
      (by (copies_from place extended (Operate o a b c)) refl k.reads (l.0 refl) l.1)
    where
      by : (copies : Bool) → copies_from place extended (Operate o a b c) ≡ copies → (copies || not ((a == place) || second_reads b place)) ≡ true → ((x == c) || second_reads s c) ≡ false → (c == place) ≡ false
          → Apart (effect (if copies then Operate op x s c else Operate o a b c) f) (effect (Operate o a b c) g)
      by true copies reads unread other = put_apart f g c (result_of op (f x) (second_value s f) (f c)) (result_of o (g a) (second_value b g) (g c)) unread other (writes_alike true o a b c f g copies reads other h) h
      by false copies reads unread other = put_apart f g c (result_of o (f a) (second_value b f) (f c)) (result_of o (g a) (second_value b g) (g c)) unread other (writes_alike false o a b c f g copies reads other h) h
  spared_effect (Memory o a b d) j f g e h = let k = spared_is place extended false (Operate op x s place) (Memory o a b d) j e in absurd (cc k.reads)
  spared_effect (Branch o a d) j f g e h = let k = spared_is place extended false (Operate op x s place) (Branch o a d) j e in absurd (cc k.reads)
  spared_effect (Jump a b) j f g e h = let k = spared_is place extended false (Operate op x s place) (Jump a b) j e in absurd (cc k.reads)
  spared_effect (Pal n) j f g e h = let k = spared_is place extended false (Operate op x s place) (Pal n) j e in absurd (cc k.reads)

  -- the last word
  last_effect : (last : Bool) (i j : AlphaInstr) (f g : Regs) → spared_word place extended last (Operate op x s place) i ≡ Some j → Apart f g → (n : ℕ) → (n == place) ≡ false → effect j f n ≡ effect i g n
  last_effect last (Operate o a b c) j f g e h n not_so =
      let k = spared_is place extended last (Operate op x s place) (Operate o a b c) j e in
      let l = left_alone last ((x == c) || second_reads s c) (c == place) k.leaves in
      subst (λ j. effect j f n ≡ effect (Operate o a b c) g n) (sym k.is)
      (by (copies_from place extended (Operate o a b c)) refl k.reads l.1)
    where
      by : (copies : Bool) → copies_from place extended (Operate o a b c) ≡ copies → (copies || not ((a == place) || second_reads b place)) ≡ true → (c == place) ≡ false
          → effect (if copies then Operate op x s c else Operate o a b c) f n ≡ effect (Operate o a b c) g n
      by true copies reads other = put_alike f g c (result_of op (f x) (second_value s f) (f c)) (result_of o (g a) (second_value b g) (g c)) n (writes_alike true o a b c f g copies reads other h) (h.same n not_so)
      by false copies reads other = put_alike f g c (result_of o (f a) (second_value b f) (f c)) (result_of o (g a) (second_value b g) (g c)) n (writes_alike false o a b c f g copies reads other h) (h.same n not_so)
  last_effect last (Memory o a b d) j f g e h n not_so = let k = spared_is place extended last (Operate op x s place) (Memory o a b d) j e in absurd (cc k.reads)
  last_effect last (Branch o a d) j f g e h n not_so = let k = spared_is place extended last (Operate op x s place) (Branch o a d) j e in absurd (cc k.reads)
  last_effect last (Jump a b) j f g e h n not_so = let k = spared_is place extended last (Operate op x s place) (Jump a b) j e in absurd (cc k.reads)
  last_effect last (Pal m) j f g e h n not_so = let k = spared_is place extended last (Operate op x s place) (Pal m) j e in absurd (cc k.reads)

-- ---- rows of words
pub all_append : (is js : List AlphaInstr) → list_all is_operate is ≡ true → list_all is_operate js ≡ true → list_all is_operate (is ++ js) ≡ true
all_append [] js e f = f
all_append (i ∷ is) js e f = let x = and_parts (is_operate i) (list_all is_operate is) e in and_from (is_operate i) (list_all is_operate (is ++ js)) x.0 (all_append is js x.1 f)

record Parted (place : ℕ) (extended : Bool) (made i : AlphaInstr) (is js : List AlphaInstr) : Type 0 where
  pub word : AlphaInstr
  pub rest : List AlphaInstr
  pub first : spared_word place extended (length is == 0) made i ≡ Some word
  pub behind : spared_words place extended made is ≡ Some rest
  pub whole : js ≡ word ∷ rest

parted : (place : ℕ) (extended : Bool) (made i : AlphaInstr) (is js : List AlphaInstr) → spared_words place extended made (i ∷ is) ≡ Some js → Parted place extended made i is js
parted place extended made i is js e = by (spared_word place extended (length is == 0) made i) refl (spared_words place extended made is) refl e
  where
    by : (o : Option AlphaInstr) → spared_word place extended (length is == 0) made i ≡ o → (q : Option (List AlphaInstr)) → spared_words place extended made is ≡ q
        → option_and_then (λ (spared : AlphaInstr). option_map (λ (rest : List AlphaInstr). spared ∷ rest) q) o ≡ Some js → Parted place extended made i is js
    by None f q g e = absurd (cc e)
    by (Some word) f None g e = absurd (cc e)
    by (Some word) f (Some rest) g e = record { word = word; rest = rest; first = f; behind = g; whole = sym (same_Some (word ∷ rest) js e) }

module _ (op : OperateOp) (x : ℕ) (s : Second) (place : ℕ) (extended : Bool) where
  spared_effects : (unheld : is_choice op ≡ false) (y : ℕ) (extends : extended ≡ true → IsExtended y) (is js : List AlphaInstr) (f g : Regs) → spared_words place extended (Operate op x s place) is ≡ Some js
      → Apart op x s place extended unheld y extends f g → (n : ℕ) → (n == place) ≡ false → effects js f n ≡ effects is g n
  spared_effects unheld y extends [] js f g e h n other = subst (λ js. effects js f n ≡ g n) (same_Some [] js e) (h.same n other)
  spared_effects unheld y extends (i ∷ []) js f g e h n other =
      let k = parted place extended (Operate op x s place) i [] js e in
      let none : k.rest ≡ [] = sym (same_Some [] k.rest k.behind) in
      subst (λ js. effects js f n ≡ effect i g n) (sym (k.whole ∙ ap (λ rest. k.word ∷ rest) none))
      (last_effect op x s place extended unheld y extends true i k.word f g k.first h n other)
  spared_effects unheld y extends (i ∷ i' ∷ is) js f g e h n other =
      let k = parted place extended (Operate op x s place) i (i' ∷ is) js e in
      let some : (length (i' ∷ is) == 0) ≡ false = grind (arith, nat_tests) in
      subst (λ js. effects js f n ≡ effects (i' ∷ is) (effect i g) n) (sym k.whole)
      (spared_effects unheld y extends (i' ∷ is) k.rest (effect k.word f) (effect i g) k.behind
      (spared_effect op x s place extended unheld y extends i k.word f g (subst (λ last. spared_word place extended last (Operate op x s place) i ≡ Some k.word) some k.first) h) n other)

  -- ---- by themselves
  operates_still : (last : Bool) (i j : AlphaInstr) → spared_word place extended last (Operate op x s place) i ≡ Some j → is_operate i ≡ true → is_operate j ≡ true
  operates_still last i j e operates =
      let k = spared_is place extended last (Operate op x s place) i j e in
      subst (λ j. is_operate j ≡ true) (sym k.is) (by (copies_from place extended i))
    where
      by : (copies : Bool) → is_operate (if copies then Operate op x s (written i) else i) ≡ true
      by true = refl
      by false = operates

  row_operates : (is js : List AlphaInstr) → spared_words place extended (Operate op x s place) is ≡ Some js → list_all is_operate is ≡ true → list_all is_operate js ≡ true
  row_operates [] js e operates = subst (λ js. list_all is_operate js ≡ true) (same_Some [] js e) refl
  row_operates (i ∷ is) js e operates =
      let k = parted place extended (Operate op x s place) i is js e in
      let o = and_parts (is_operate i) (list_all is_operate is) operates in
      subst (λ js. list_all is_operate js ≡ true) (sym k.whole)
      (and_from (is_operate k.word) (list_all is_operate k.rest) (operates_still (length is == 0) i k.word k.first o.0) (row_operates is k.rest k.behind o.1))

  word_kept : (last : Bool) (i j : AlphaInstr) → IsEncodable (Operate op x s place) → spared_word place extended last (Operate op x s place) i ≡ Some j → is_operate i ≡ true → Kept i j
  word_kept last (Operate o a b c) j fits e operates =
      let k = spared_is place extended last (Operate op x s place) (Operate o a b c) j e in
      subst (Kept (Operate o a b c)) (sym k.is) (by (copies_from place extended (Operate o a b c)))
    where
      by : (copies : Bool) → Kept (Operate o a b c) (if copies then Operate op x s c else Operate o a b c)
      by true = record { operates = refl; same = refl; writes = refl; encodes = λ h. (fits.0, fits.1, h.2) }
      by false = record { operates = refl; same = refl; writes = refl; encodes = λ h. h }
  word_kept last (Memory o a b d) j fits e operates = absurd (cc operates)
  word_kept last (Branch o a d) j fits e operates = absurd (cc operates)
  word_kept last (Jump a b) j fits e operates = absurd (cc operates)
  word_kept last (Pal n) j fits e operates = absurd (cc operates)

  record KeptRow (is js : List AlphaInstr) : Type 0 where
    pub encodable : All IsEncodable is → All IsEncodable js
    pub writes : (r : ℕ) → writes_register r js ≡ writes_register r is
    pub many : length js ≡ length is

  row_kept : (is js : List AlphaInstr) → IsEncodable (Operate op x s place) → spared_words place extended (Operate op x s place) is ≡ Some js → list_all is_operate is ≡ true → KeptRow is js
  row_kept [] js fits e operates = subst (KeptRow []) (same_Some [] js e) (record { encodable = λ h. h; writes = λ r. refl; many = refl })
  row_kept (i ∷ is) js fits e operates =
      let k = parted place extended (Operate op x s place) i is js e in
      let o = and_parts (is_operate i) (list_all is_operate is) operates in
      let w = word_kept (length is == 0) i k.word fits k.first o.0 in
      let rest = row_kept is k.rest fits k.behind o.1 in
      subst (KeptRow (i ∷ is)) (sym k.whole)
      (record {
        encodable = λ all. All-cons IsEncodable k.word k.rest (w.encodes (All-head IsEncodable i is all)) (rest.encodable (All-tail IsEncodable i is all));
        writes = λ r. ap (λ n. (n == r) || writes_register r k.rest) w.writes ∙ ap (λ b. (register_written i == r) || b) (rest.writes r);
        many = ap suc rest.many;
      })

-- ---- where a word is spared, or stands before the others
-- what waits has an encoding, and makes no access
pub record Quiet (o : Option AlphaInstr) : Type 0 where
  pub encodable : All IsEncodable (waiting_words o)
  pub silent : list_all is_silent (waiting_words o) ≡ true
  pub operate : list_all is_operate (waiting_words o) ≡ true

pub record Waiting (homes : Homes) : Type 0 where
  pub before : Quiet homes.before
  pub last : Quiet homes.waiting

pub nothing_waits : Quiet None
nothing_waits = record { encodable = All-nil IsEncodable; silent = refl; operate = refl }

-- registers that are left are others than those that are not
apart_from : (exit : Exit) (n place : ℕ) → is_left exit n ≡ false → is_left exit place ≡ true → (n == place) ≡ false
apart_from exit n place e f = by (n == place) refl
  where
    by : (c : Bool) → (n == place) ≡ c → c ≡ false
    by false same = refl
    by true same = absurd (cc (sym e ∙ (ap (is_left exit) (eqb-true n place same) ∙ f)))

-- a number that is to be extended is
abbrev pub Extends : Homes → (next word : Option AlphaInstr) → Regs → Type 0
Extends homes next None f = Unit {0}
Extends homes next (Some word) f = makes_home homes word next ≡ true → IsExtended (effect word f (written word))

module _ (exit : Exit) (homes : Homes) (next : Option AlphaInstr) where
  -- what it does to the registers that something may read
  spared_same : (word : AlphaInstr) (row : List AlphaInstr) (f : Regs) → (makes_home homes word next ≡ true → IsExtended (effect word f (written word))) → effect word f 31 ≡ 0
      → (n : ℕ) → is_left exit n ≡ false → effects (with_spared exit homes word next row) f n ≡ effects row (effect word f) n
  spared_same (Operate op x s to) row f extends zero n kept = by (is_left exit to && not (is_choice op)) refl
    where
      word : AlphaInstr
      word = Operate op x s to

      of : (left : is_left exit to ≡ true) → is_choice op ≡ false → (o : Option (List AlphaInstr)) → spared_words to (makes_home homes (Operate op x s to) next) (Operate op x s to) row ≡ o
          → effects (unwrap_or o (Operate op x s to ∷ row)) f n ≡ effects row (effect (Operate op x s to) f) n
      of left unheld None e = refl
      of left unheld (Some js) e =
          spared_effects op x s to (makes_home homes (Operate op x s to) next) unheld (effect (Operate op x s to) f to) extends row js f (effect (Operate op x s to) f) e
          (record {
            same = λ n other. sym (put_other f to (result_of op (f x) (second_value s f) (f to)) n other);
            made = held_unread op (f x) (second_value s f) 0 (f to) unheld ∙ sym (put_same f to (result_of op (f x) (second_value s f) (f to)) last);
            there = refl;
            zero = zero;
          }) n (apart_from exit n to kept left)
        where
          last : (to == 31) ≡ false
          last =
              let low = all_three (nat_lt 20 to) (nat_lt to 27) (not (goes_by exit to)) left in
              let lt = ltb-true to 27 low.1 in
              grind (arith, nat_tests)

      by : (c : Bool) → (is_left exit to && not (is_choice op)) ≡ c
          → effects (if c then unwrap_or (spared_words to (makes_home homes (Operate op x s to) next) (Operate op x s to) row) (Operate op x s to ∷ row) else Operate op x s to ∷ row) f n ≡ effects row (effect (Operate op x s to) f) n
      by true e =
          let w = and_parts (is_left exit to) (not (is_choice op)) e in
          of w.0 (not_false (is_choice op) w.1) (spared_words to (makes_home homes (Operate op x s to) next) (Operate op x s to) row) refl
      by false e = refl
  spared_same (Memory o a b d) row f extends zero n kept = refl
  spared_same (Branch o a d) row f extends zero n kept = refl
  spared_same (Jump a b) row f extends zero n kept = refl
  spared_same (Pal m) row f extends zero n kept = refl

  pub waiting_same : (o : Option AlphaInstr) (row : List AlphaInstr) (f : Regs) → Extends homes next o f → effects (waiting_words o) f 31 ≡ 0
      → (n : ℕ) → is_left exit n ≡ false → effects (with_waiting exit homes o next row) f n ≡ effects row (effects (waiting_words o) f) n
  waiting_same None row f extends zero n kept = refl
  waiting_same (Some word) row f extends zero n kept = spared_same word row f extends zero n kept

-- ---- the row
-- it writes the codes that the words for the codes write
pub record RowShape (words row : List AlphaInstr) (most : ℕ) : Type 0 where
  pub encodable : All IsEncodable row
  pub operate : list_all is_operate row ≡ true
  pub writes : (r : ℕ) → 16 ≤ r → r < 20 → writes_register r row ≡ writes_register r words
  pub few : length row ≤ most

module _ (exit : Exit) (homes : Homes) (next : Option AlphaInstr) where
  spared_operates : (word : AlphaInstr) (row : List AlphaInstr) → is_operate word ≡ true → list_all is_operate row ≡ true → list_all is_operate (with_spared exit homes word next row) ≡ true
  spared_operates (Operate op x s to) row e operate = by (is_left exit to && not (is_choice op))
    where
      of : (o : Option (List AlphaInstr)) → spared_words to (makes_home homes (Operate op x s to) next) (Operate op x s to) row ≡ o → list_all is_operate (unwrap_or o (Operate op x s to ∷ row)) ≡ true
      of None f = operate
      of (Some js) f = row_operates op x s to (makes_home homes (Operate op x s to) next) row js f operate

      by : (c : Bool) → list_all is_operate (if c then unwrap_or (spared_words to (makes_home homes (Operate op x s to) next) (Operate op x s to) row) (Operate op x s to ∷ row) else Operate op x s to ∷ row) ≡ true
      by true = of (spared_words to (makes_home homes (Operate op x s to) next) (Operate op x s to) row) refl
      by false = operate
  spared_operates (Memory o a b d) row e operate = and_from (is_operate (Memory o a b d)) (list_all is_operate row) e operate
  spared_operates (Branch o a d) row e operate = and_from (is_operate (Branch o a d)) (list_all is_operate row) e operate
  spared_operates (Jump a b) row e operate = and_from (is_operate (Jump a b)) (list_all is_operate row) e operate
  spared_operates (Pal m) row e operate = and_from (is_operate (Pal m)) (list_all is_operate row) e operate

  pub waiting_operates : (o : Option AlphaInstr) (row : List AlphaInstr) → list_all is_operate (waiting_words o) ≡ true → list_all is_operate row ≡ true → list_all is_operate (with_waiting exit homes o next row) ≡ true
  waiting_operates None row e operate = operate
  waiting_operates (Some word) row e operate = spared_operates word row (and_parts (is_operate word) true e).0 operate

  in_front : (word : AlphaInstr) (words row : List AlphaInstr) (most : ℕ) → Quiet (Some word) → RowShape words row most → RowShape words (word ∷ row) (most + 1)
  in_front word words row most q r =
      let few = r.few in
      record {
        encodable = All-cons IsEncodable word row (All-head IsEncodable word [] q.encodable) r.encodable;
        operate = and_from (is_operate word) (list_all is_operate row) (and_parts (is_operate word) true q.operate).0 r.operate;
        writes = λ n low high.
            list_any-append (λ i. register_written i == n) (word ∷ []) row
            ∙ (ap (λ b. b || writes_register n row) (free_spares (word ∷ []) (list_all_of is_own is_free own_free (word ∷ []) (list_all_of is_silent is_own silent_own (word ∷ []) q.silent)) n low high) ∙ r.writes n low high);
        few = omega arith;
      }

  spared_shape : (word : AlphaInstr) (words row : List AlphaInstr) (most : ℕ) → Quiet (Some word) → RowShape words row most → RowShape words (with_spared exit homes word next row) (most + 1)
  spared_shape (Operate op x s to) words row most q r = by (is_left exit to && not (is_choice op))
    where
      of : (o : Option (List AlphaInstr)) → spared_words to (makes_home homes (Operate op x s to) next) (Operate op x s to) row ≡ o → RowShape words (unwrap_or o (Operate op x s to ∷ row)) (most + 1)
      of None f = in_front (Operate op x s to) words row most q r
      of (Some js) f =
          let k = row_kept op x s to (makes_home homes (Operate op x s to) next) row js (All-head IsEncodable (Operate op x s to) [] q.encodable) f r.operate in
          let many = k.many in
          let few = r.few in
          record {
            encodable = k.encodable r.encodable;
            operate = row_operates op x s to (makes_home homes (Operate op x s to) next) row js f r.operate;
            writes = λ n low high. k.writes n ∙ r.writes n low high;
            few = omega arith;
          }

      by : (c : Bool) → RowShape words (if c then unwrap_or (spared_words to (makes_home homes (Operate op x s to) next) (Operate op x s to) row) (Operate op x s to ∷ row) else Operate op x s to ∷ row) (most + 1)
      by true = of (spared_words to (makes_home homes (Operate op x s to) next) (Operate op x s to) row) refl
      by false = in_front (Operate op x s to) words row most q r
  spared_shape (Memory o a b d) words row most q r = in_front (Memory o a b d) words row most q r
  spared_shape (Branch o a d) words row most q r = in_front (Branch o a d) words row most q r
  spared_shape (Jump a b) words row most q r = in_front (Jump a b) words row most q r
  spared_shape (Pal m) words row most q r = in_front (Pal m) words row most q r

  waiting_shape : (o : Option AlphaInstr) (words row : List AlphaInstr) (most : ℕ) → Quiet o → RowShape words row most → RowShape words (with_waiting exit homes o next row) (most + length (waiting_words o))
  waiting_shape None words row most q r = let few = r.few in record { encodable = r.encodable; operate = r.operate; writes = r.writes; few = omega arith }
  waiting_shape (Some word) words row most q r = spared_shape word words row most q r

-- ---- the words up to the end
commit_operates : (homes : Homes) (commit : Option (ℕ × ℕ)) → list_all is_operate (commit_words homes commit) ≡ true
commit_operates homes None = refl
commit_operates homes (Some commit) = refl

pub end_operates : (homes : Homes) (commit : Option (ℕ × ℕ)) (exit : Exit) (words : List AlphaInstr) → list_all is_operate (waiting_words homes.before) ≡ true → list_all is_operate (waiting_words homes.waiting) ≡ true → list_all is_operate words ≡ true
    → list_all is_operate (end_words homes commit exit words) ≡ true
end_operates homes commit exit words before waits operate =
    waiting_operates exit homes homes.waiting homes.before (with_waiting exit homes homes.waiting None (words ++ commit_words homes commit)) before
    (waiting_operates exit homes None homes.waiting (words ++ commit_words homes commit) waits (all_append words (commit_words homes commit) operate (commit_operates homes commit)))

abbrev pub commit_count : Option (ℕ × ℕ) → ℕ
commit_count None = 0
commit_count (Some commit) = 1

abbrev pub waiting_count : Homes → ℕ
waiting_count homes = length (waiting_words homes.before) + length (waiting_words homes.waiting)

abbrev pub IsNumbered : Option (ℕ × ℕ) → Type 0
IsNumbered None = Unit {0}
IsNumbered (Some commit) = commit.0 < 15

pub end_row : (homes : Homes) → AreHomes homes → Waiting homes → (commit : Option (ℕ × ℕ)) (exit : Exit) (words : List AlphaInstr) → commit_stays commit ≡ true → IsNumbered commit → All IsEncodable words → list_all is_operate words ≡ true
    → RowShape words (end_words homes commit exit words) (length words + commit_count commit + waiting_count homes)
end_row homes are waits commit exit words stays numbered encodable operate =
    let s = waiting_shape exit homes homes.waiting homes.before words (with_waiting exit homes homes.waiting None (words ++ commit_words homes commit)) (length words + commit_count commit + length (waiting_words homes.waiting)) waits.before
    (waiting_shape exit homes None homes.waiting words (words ++ commit_words homes commit) (length words + commit_count commit) waits.last begun) in
    let few = s.few in
    record { encodable = s.encodable; operate = s.operate; writes = s.writes; few = omega arith }
  where
    commit_encodable : (commit : Option (ℕ × ℕ)) → commit_stays commit ≡ true → IsNumbered commit → All IsEncodable (commit_words homes commit)
    commit_encodable None stays is = All-nil IsEncodable
    commit_encodable (Some commit) stays is = All-cons IsEncodable (Operate row.Addl (unwrap_or (home_of homes commit.1) (21 + commit.1)) (Literal 0) commit.0) [] (place (home_of homes commit.1) refl, lit< tt, omega arith) (All-nil IsEncodable)
      where
        place : (o : Option ℕ) → home_of homes commit.1 ≡ o → unwrap_or o (21 + commit.1) < 32
        place None e = low commit.1 stays
          where
            low : (temp : ℕ) → is_left_alone temp ≡ true → 21 + temp < 32
            low temp e = grind (arith, nat_tests, e)
        place (Some r) e = let lt = (home_is homes are commit.1 r e).0 in omega arith

    apart : (n r : ℕ) → n < 15 → 16 ≤ r → (n == r) ≡ false
    apart n r lt le = grind (arith, nat_tests)

    commit_spares : (commit : Option (ℕ × ℕ)) → IsNumbered commit → (r : ℕ) → 16 ≤ r → writes_register r (commit_words homes commit) ≡ false
    commit_spares None is r le = refl
    commit_spares (Some commit) is r le = or_from (commit.0 == r) false (apart commit.0 r is le) refl

    commit_length : (commit : Option (ℕ × ℕ)) → length (commit_words homes commit) ≡ commit_count commit
    commit_length None = refl
    commit_length (Some commit) = refl

    or_nothing : (b c : Bool) → c ≡ false → (b || c) ≡ b
    or_nothing true c e = refl
    or_nothing false c e = e

    begun : RowShape words (words ++ commit_words homes commit) (length words + commit_count commit)
    begun =
        let all = length-append words (commit_words homes commit) in
        let last = commit_length commit in
        record {
          encodable = All-append IsEncodable words (commit_words homes commit) encodable (commit_encodable commit stays numbered);
          operate = all_append words (commit_words homes commit) operate (commit_operates homes commit);
          writes = λ r low high.
              list_any-append (λ i. register_written i == r) words (commit_words homes commit) ∙ or_nothing (writes_register r words) (writes_register r (commit_words homes commit)) (commit_spares commit numbered r low);
          few = omega arith;
        }
