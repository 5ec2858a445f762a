-- Checks and references of a program whose operands are used where they stand.
use Rattle.std.proofs.Common.{◌≡◌, ℕ, ◌+◌, ◌-◌, ◌*◌, ◌/◌, ◌%◌, ◌^◌, ◌<◌, ◌≤◌, refl, sym, ap, ◌∙◌, subst, arith, eqb-true, List, [], ◌∷◌, ◌++◌, length, map, Option, Some, None, Bool, true, false}
use Rattle.std.specs.Prelude.{◌==◌, ◌&&◌, ◌||◌, not, nat_lt, nat_le, bit_or, is_none, unwrap_or, if◌then◌else◌}
use Rattle.std.proofs.Math.Nat.{mod-eq_of_lt}
use Rattle.std.proofs.lemmas.Bool.Decides.{nat_tests}
use Rattle.std.proofs.lemmas.Bool.{and_parts, ltb-true}
use Rattle.std.proofs.lemmas.Option.{same_Some}
use Rattle.vt_words.specs.Quad.{IsCount}
use Rattle.vax_form.specs.PageTable.{IsPageTable}
use Rattle.vax_form.specs.Pages.{first_bad}
use Rattle.vax_form.specs.Parts.{parts}
use Rattle.vax_form.specs.Tree.{Tree}
use Rattle.vax_form.specs.declared.state.RefKind.TheVariants.{Write}
use Rattle.alpha_encode.specs.declared.instr.AlphaInstr.{AlphaInstr}
use Rattle.alpha_encode.specs.declared.instr.AlphaInstr.TheVariants.{Pal}
use Rattle.alpha_meaning.specs.State.{Regs, put, at_place}
use Rattle.alpha_meaning.specs.Pieces.{Only, Plain, Runs, piece}
use Rattle.alpha_meaning.proofs.Registers.{put_same, put_other}
use Rattle.micro_ops.specs.declared.known.Checked.{Checked}
use Rattle.micro_ops.specs.declared.known.Checked.TheVariants.{At}
use Rattle.micro_ops.specs.declared.known.Holding.{Holding}
use Rattle.micro_ops.specs.declared.known.Known.{Known}
use Rattle.micro_ops.specs.Course.{Ask, Course, Check, read_parts, write_parts}
use Rattle.micro_ops.specs.Fits.{are_apart, check_fits, holding_of, is_count, place_fits, read_fits, reference_fits, write_fits}
use Rattle.micro_ops.specs.Known.{behind_access, behind_write, held, holds, holds_longword, is_checked, is_longword, is_something}
use Rattle.micro_ops.specs.Meaning.{Left, Standing, with_value}
use Rattle.byte_sequences.specs.Instructions as bytes
use Rattle.byte_sequences.specs.Instructions.{is_scratch, is_scratch_or}
use Rattle.byte_sequences.specs.Plans.{read_plan, write_plan}
use Rattle.byte_sequences.specs.Promises as sequences
use Rattle.byte_sequences.specs.Promises.{loaded_bytes}
use Rattle.byte_sequences.specs.Words.{extended_read}
use Rattle.byte_sequences.proofs.ExtendedLaws.{extends_read}
use Rattle.block_law.specs.Laws.{MoreKinds}
use Rattle.block_law.specs.Placements.{Placement}
use Rattle.block_law.specs.Tidy.{is_kept}
use Rattle.block_law.proofs.Blocks.{Begins, piece_terms}
use Rattle.block_law.proofs.Rules.{Always, goes, probes, roomy, runs}
use Rattle.program_codegen.specs.declared.homes.Homes.{Homes}
use Rattle.program_codegen.specs.declared.lines.Line.{Line}
use Rattle.program_codegen.specs.declared.points.Site.{Site}
use Rattle.program_codegen.specs.Accesses.{needed}
use Rattle.program_codegen.specs.Homes.{AreHomes, IsHome, home_of, is_shared, with_home}
use Rattle.program_codegen.specs.Direct.{is_extended, may_write, read_home, reading, settled, stands}
use Rattle.program_codegen.specs.Words.{copy, holder, marked, plain, probing, read_by, write_by}
use Rattle.program_codegen.proofs.Accessing.{is_probed, kept_not_27, kept_not_scratch, kept_not_scratch_or, longword_value, read_holds, values_outlast, zero_not_scratch_or}
use Rattle.program_codegen.proofs.Computing.{held_still, held_value, unchanged}
use Rattle.program_codegen.proofs.HomeComputing.{few_low, not_shared}
use Rattle.program_codegen.proofs.HomeHolding.{Direct, held_own, hidden, home_is, home_self, written_held}
use Rattle.program_codegen.proofs.HomeNumbers.{IsExtended, extended_same, extended_small}
use Rattle.program_codegen.proofs.Holding.{HoldsAs, IsChecked, tree}
use Rattle.program_codegen.proofs.Numbers.{all_four, all_three, copied}
use Rattle.program_codegen.proofs.Operands.{IsUsable, begins_read, begins_write, count_some, is_low_address, may_read, may_write as operands_may_write, usable}
use Rattle.program_codegen.proofs.Stores.{loaded_of, loads_of, reads_by, stored_of, stores_of, write_kinds, writes_by}
use Rattle.program_codegen.proofs.Walk.{Within, is_inside, next, row_length, row_words, stands as stands_at}

-- ---- registers
-- an own register, or that of a home, has a number below 25
pub stands_low : (homes : Homes) → AreHomes homes → (temp : ℕ) → bytes.IsArgument (holder temp) → bytes.IsArgument (stands homes temp)
stands_low homes are temp is = by (home_of homes temp) refl
  where
    by : (o : Option ℕ) → home_of homes temp ≡ o → bytes.IsArgument (unwrap_or o (holder temp))
    by None e = is
    by (Some r) e = let lt = (home_is homes are temp r e).0 in record { high = omega arith }

-- homes outlast what leaves kept registers and those of temporaries 0 to 3
home_kept : (r : ℕ) (old new : Regs) → IsHome (Some r) → ((n : ℕ) → is_kept n ≡ true → new n ≡ old n) → ((temp : ℕ) → temp < 4 → new (21 + temp) ≡ old (21 + temp)) → new r ≡ old r
home_kept r old new is same own = by (nat_lt r 15) refl
  where
    low : (r : ℕ) → nat_lt r 15 ≡ true → is_kept r ≡ true
    low r e = grind (arith, nat_tests, e)

    by : (b : Bool) → nat_lt r 15 ≡ b → new r ≡ old r
    by true e = same r (low r e)
    by false e =
        let le = is.1 e in
        let lt = is.0 in
        let there : 21 + (r - 21) ≡ r = omega arith in
        subst (λ n. new n ≡ old n) there (own (r - 21) (omega arith))

-- a write among temporaries 0 to 3 and an access change places
access_write : (to : ℕ) (holding : Holding) (known : Known) → to < 4 → behind_write to holding (behind_access known) ≡ behind_access (behind_write to holding known)
access_write to holding known lt = by (to == 0) refl (to == 1) refl (to == 2) refl (to == 3) refl
  where
    Same : Type 0
    Same = behind_write to holding (behind_access known) ≡ behind_access (behind_write to holding known)

    never : (to == 0) ≡ false → (to == 1) ≡ false → (to == 2) ≡ false → (to == 3) ≡ false → ⊥
    never e f g h = let is_so : (to == 3) ≡ true = grind (arith, nat_tests, e, f, g, lt) in absurd (cc (sym is_so ∙ h))

    by : (a : Bool) → (to == 0) ≡ a → (b : Bool) → (to == 1) ≡ b → (c : Bool) → (to == 2) ≡ c → (d : Bool) → (to == 3) ≡ d → Same
    by true e b f c g d h = rw e refl
    by false e true f c g d h = rw (e, f) refl
    by false e false f true g d h = rw (e, f, g) refl
    by false e false f false g true h = rw (e, f, g, h) refl
    by false e false f false g false h = absurd (never e f g h)

-- ---- numbers
-- the low longword alone is written
low_written : {A : Type 0} (address v : ℕ) (on : Course A) → write_parts (parts address 4) v on ≡ write_parts (parts address 4) (v % 2 ^ 32) on
low_written address v on = by (nat_le 4 (8 - address % 8)) refl
  where
    all : (v : ℕ) → v % 2 ^ 32 ≡ v % 2 ^ 32 % 2 ^ 32
    all v = omega arith

    Two : (k : ℕ) → Type 0
    Two k = (v % 2 ^ (8 * k) ≡ v % 2 ^ 32 % 2 ^ (8 * k)) × (v / 2 ^ (8 * k) % 2 ^ (8 * (4 - k)) ≡ v % 2 ^ 32 / 2 ^ (8 * k) % 2 ^ (8 * (4 - k)))

    some : (k : ℕ) → 0 < k → k < 4 → Two k
    some k above below = at (k == 1) refl (k == 2) refl
      where
        at : (a : Bool) → (k == 1) ≡ a → (b : Bool) → (k == 2) ≡ b → Two k
        at true e b f = subst Two (sym (eqb-true k 1 e)) (omega arith, omega arith)
        at false e true f = subst Two (sym (eqb-true k 2 f)) (omega arith, omega arith)
        at false e false f = let is : k ≡ 3 = grind (arith, nat_tests, e, f, above, below) in subst Two (sym is) (omega arith, omega arith)

    by : (b : Bool) → nat_le 4 (8 - address % 8) ≡ b
        → write_parts (if b then (address, 4) ∷ [] else (address, 8 - address % 8) ∷ ((address + (8 - address % 8)) % 2 ^ 32, 4 - (8 - address % 8)) ∷ []) v on
        ≡ write_parts (if b then (address, 4) ∷ [] else (address, 8 - address % 8) ∷ ((address + (8 - address % 8)) % 2 ^ 32, 4 - (8 - address % 8)) ∷ []) (v % 2 ^ 32) on
    by true e =
        ap (λ n. Ask (record { address = address; count = 4; kind = Write n }) (λ reply. on)) (all v)
    by false e =
        let k = some (8 - address % 8) (omega arith) (crosses (8 - address % 8) e) in
        ap (λ n. Ask (record { address = address; count = 8 - address % 8; kind = Write n }) (λ reply. write_parts (((address + (8 - address % 8)) % 2 ^ 32, 4 - (8 - address % 8)) ∷ []) (v / 2 ^ (8 * (8 - address % 8))) on)) k.0
        ∙ ap (λ n. Ask (record { address = address; count = 8 - address % 8; kind = Write (v % 2 ^ 32 % 2 ^ (8 * (8 - address % 8))) }) (λ reply. Ask (record { address = (address + (8 - address % 8)) % 2 ^ 32; count = 4 - (8 - address % 8); kind = Write n }) (λ reply. on))) k.1
      where
        crosses : (k : ℕ) → nat_le 4 k ≡ false → k < 4
        crosses k e = grind (arith, nat_tests, e)

-- ---- where places and operands stand
module _ (p : Placement) (site : Site) (known : Known) (homes : Homes) (standing : Standing) (regs : Regs) (d : Direct p site known homes standing regs) where
  -- the low longword of the register is the address
  place_low : (place : ℕ) → place < 6 → place_fits known place ≡ true → (regs (stands homes place) % 2 ^ 32 ≡ standing.temps place) × (standing.temps place < 2 ^ 32)
  place_low place lt fits = by (home_of homes place) refl
    where
      by : (o : Option ℕ) → home_of homes place ≡ o → (regs (unwrap_or o (21 + place)) % 2 ^ 32 ≡ standing.temps place) × (standing.temps place < 2 ^ 32)
      by None e =
          let y = and_parts (not known.changed) (holds_longword known place) fits in
          let v = longword_value (held (hidden homes known) place) (standing.temps place) (regs (21 + place)) (ap is_longword (held_own homes known place e) ∙ y.1) (d.holds.temps place lt) in
          (ap (λ n. n % 2 ^ 32) v.0 ∙ mod-eq_of_lt v.1, v.1)
      by (Some r) e =
          let v = d.values place r e in
          (sym v.0, subst (λ n. n < 2 ^ 32) (sym v.0) (low (regs r)))
        where
          low : (n : ℕ) → n % 2 ^ 32 < 2 ^ 32
          low n = omega arith

  -- behind its check it is the address
  place_is : (table : IsPageTable p.pages) (write : Bool) (place count : ℕ) → 0 < count → place < 6 → place_fits known place ≡ true → IsUsable p.pages write (standing.temps place) count → regs (stands homes place) ≡ standing.temps place
  place_is table write place count some lt fits usage = by (home_of homes place) refl
    where
      by : (o : Option ℕ) → home_of homes place ≡ o → regs (unwrap_or o (21 + place)) ≡ standing.temps place
      by None e =
          let y = and_parts (not known.changed) (holds_longword known place) fits in
          (longword_value (held (hidden homes known) place) (standing.temps place) (regs (21 + place)) (ap is_longword (held_own homes known place e) ∙ y.1) (d.holds.temps place lt)).0
      by (Some r) e =
          let v = d.values place r e in
          let low = is_low_address p.pages table write (standing.temps place) count some usage in
          extended_same (regs r) (standing.temps place) v.1 (extended_small (standing.temps place) low) (sym v.0 ∙ sym (mod-eq_of_lt (wider (standing.temps place) low)))
        where
          wider : (n : ℕ) → n < 2 ^ 31 → n < 2 ^ 32
          wider n lt = omega arith

  place_usable : (place count : ℕ) (write : Bool) → place < 6 → reference_fits known place count write ≡ true → IsUsable p.pages write (standing.temps place) count
  place_usable place count write lt fits =
      let x = and_parts (place_fits known place) (is_checked known.checked place count write) fits in
      usable p.pages known.checked standing.temps place count write (place_low place lt x.0).1 x.1 d.holds.checked

  -- what is written
  source_written : {A : Type 0} (address count source : ℕ) (on : Course A) → source < 6 → holds known source ≡ true → may_write homes count source ≡ true
      → write_parts (parts address count) (regs (stands homes source)) on ≡ write_parts (parts address count) (standing.temps source) on
  source_written address count source on lt held_is may = by (home_of homes source) refl may
    where
      by : (o : Option ℕ) → home_of homes source ≡ o → (is_none o || count == 4) ≡ true
          → write_parts (parts address count) (regs (unwrap_or o (21 + source))) on ≡ write_parts (parts address count) (standing.temps source) on
      by None e may =
          ap (λ v. write_parts (parts address count) v on) (held_value (held (hidden homes known) source) (standing.temps source) (regs (21 + source)) (ap is_something (held_own homes known source e) ∙ held_is) (d.holds.temps source lt)).0
      by (Some r) e may =
          subst (λ n. write_parts (parts address n) (regs r) on ≡ write_parts (parts address n) (standing.temps source) on) (sym (eqb-true count 4 may))
          (low_written address (regs r) on ∙ ap (λ v. write_parts (parts address 4) v on) (sym (d.values source r e).0))

-- ---- what outlasts a reference
module _ (p : Placement) (site : Site) where
  outlasts : (known : Known) (checked : Checked) (homes : Homes) (standing : Standing) (old new : Regs)
      → ((n : ℕ) → is_kept n ≡ true → new n ≡ old n) → new 31 ≡ old 31 → ((temp : ℕ) → temp < 4 → new (21 + temp) ≡ old (21 + temp))
      → IsChecked p.pages checked standing.temps
      → Direct p site known homes standing old → Direct p site (behind_access (record known { checked = checked })) (settled homes) standing new
  outlasts known checked homes standing old new same zero_same own checks d = record {
    holds = unchanged p site (hidden homes known) (hidden homes (behind_access (record known { checked = checked }))) standing standing.temps old new
        (record { changed = refl; committed = refl; codes = refl; psw = refl; ended = refl }) same zero_same
        (values_outlast (record (hidden homes known) { checked = checked }) standing.temps new
        (λ temp lt. held_still (held (hidden homes known) temp) (standing.temps temp) (old (21 + temp)) (new (21 + temp)) (λ some. own temp lt) (d.holds.temps temp (omega arith))))
        checks d.holds;
    are = d.are;
    values = λ temp r e.
        let v = d.values temp r e in
        let kept = home_kept r old new (home_is homes d.are temp r e) same own in
        (v.0 ∙ ap (λ n. n % 2 ^ 32) (sym kept), subst IsExtended (sym kept) v.1);
  }

low_not_27 : (temp : ℕ) → temp < 4 → ((21 + temp) == 27) ≡ false
low_not_27 temp lt = grind (arith, nat_tests)

own_not_scratch : (temp : ℕ) → temp < 4 → is_scratch (21 + temp) ≡ false
own_not_scratch temp lt = grind (arith, nat_tests)

-- ---- a check
module _ (p : Placement) (site : Site) (onward : Left → Tree) where
  pub direct_checks : (need pc place count : ℕ) (write : Bool) (rest : List Line) (known : Known) (homes : Homes) (standing : Standing) (regs : Regs) (course : Course Left)
      → Within p site.behind pc (plain (copy (stands homes place) 27) ∷ marked (Pal 0x80) (probing site count write) ∷ rest) → 1 ≤ length rest
      → check_fits known place count ≡ true → place < 6 → IsCount count → Direct p site known homes standing regs
      → ((g : Regs) → first_bad p.pages write (standing.temps place) count ≡ None → Direct p site (behind_access (record known { checked = At place count write })) (settled homes) standing g → Always p None need (at_place g (pc + 2)) (tree onward course))
      → Always p None (2 + need) (at_place regs pc) (tree onward (Check (standing.temps place) count write course))
  direct_checks need pc place count write rest known homes standing regs course w some fits lt is d behind =
      let x = and_parts (is_count count) (place_fits known place) fits in
      let v = place_low p site known homes standing regs d place lt x.1 in
      let value = bit_or (regs (stands homes place)) 0 in
      let w1 = next p site.behind pc (copy (stands homes place) 27) None (marked (Pal 0x80) (probing site count write) ∷ rest) w in
      let end = w.high in
      let two : pc + 2 ≡ pc + 1 + 1 = omega arith in
      let in_27 : put regs 27 (bit_or (regs (stands homes place)) 0) 27 ≡ regs (stands homes place) = put_same regs 27 _ refl ∙ copied (regs (stands homes place)) in
      let address_is : standing.temps place ≡ put regs 27 (bit_or (regs (stands homes place)) 0) 27 % 2 ^ 32 = sym (ap (λ n. n % 2 ^ 32) in_27 ∙ v.0) in
      roomy p None (need + 1 + 1) (2 + need) (at_place regs pc) _ (omega arith)
      (goes p None (need + 1) (at_place regs pc) (at_place (put regs 27 (bit_or (regs (stands homes place)) 0)) (pc + 1)) (copy (stands homes place) 27) _ (stands_at p site.behind pc (copy (stands homes place) 27) None _ w) refl (omega arith)
      (is_inside p site.behind pc (pc + 1) _ w (omega arith) (omega arith))
      (probes p None None need (standing.temps place) count write (at_place (put regs 27 (bit_or (regs (stands homes place)) 0)) (pc + 1)) (tree onward course) (probing site count write) (stands_at p site.behind (pc + 1) (Pal 0x80) (Some (probing site count write)) rest w1) w1.has.0.1
      (is_inside p site.behind pc (pc + 1 + 1) _ w (omega arith) (omega arith)) address_is (is_probed count is write site (put regs 27 (bit_or (regs (stands homes place)) 0))) refl (λ spare round fits. fits)
      (λ ok. subst (λ q. Always p None need (at_place (put regs 27 (bit_or (regs (stands homes place)) 0)) q) (tree onward course)) two
      (behind (put regs 27 (bit_or (regs (stands homes place)) 0)) ok
      (outlasts p site known (At place count write) homes standing regs (put regs 27 (bit_or (regs (stands homes place)) 0))
      (λ n kept. put_other regs 27 (bit_or (regs (stands homes place)) 0) n (kept_not_27 n kept)) (put_other regs 27 (bit_or (regs (stands homes place)) 0) 31 refl) (λ temp lt. put_other regs 27 (bit_or (regs (stands homes place)) 0) (21 + temp) (low_not_27 temp lt)) ok d)))))

-- ---- a reference
module _ (p : Placement) (site : Site) (table : IsPageTable p.pages) (bytes_written : ℕ) (kinds : MoreKinds (needed site.byte_word bytes_written) p.kinds) (onward : Left → Tree) where
  -- behind a read
  behind_read : (known : Known) (homes : Homes) (standing : Standing) (old new : Regs) (to count value : ℕ) → to < 4 → Only (is_scratch_or (21 + to)) old new → is_shared homes to ≡ false
      → (is_extended to count ≡ false → HoldsAs (holding_of (nat_le count 4)) value (new (21 + to))) → (is_extended to count ≡ true → (value ≡ new (21 + to) % 2 ^ 32) × IsExtended (new (21 + to)))
      → Direct p site known homes standing old
      → Direct p site (behind_access (behind_write to (holding_of (nat_le count 4)) known)) (with_home to (read_home to count) (settled homes)) (with_value to value standing) new
  behind_read known homes standing old new to count value lt only alone own home d =
      subst (λ k. Direct p site k (with_home to (read_home to count) (settled homes)) (with_value to value standing) new) (access_write to (holding_of (nat_le count 4)) known lt)
      (written_held p site (behind_access known) (settled homes) (read_home to count) (holding_of (nat_le count 4)) to value standing old new
      (λ n kept. only n (kept_not_scratch_or (21 + to) n (omega arith) (omega arith) kept)) (only 31 (zero_not_scratch_or (21 + to) (omega arith) (omega arith)))
      (λ temp temp_lt other some. only (21 + temp) (own_apart temp other (by_known temp temp_lt some)))
      (by (is_extended to count) refl).0 (by (is_extended to count) refl).1 (by (is_extended to count) refl).2
      (λ temp r other e. only r (home_apart r (home_is homes d.are temp r e) (not_shared homes to alone temp r other e)))
      (outlasts p site known known.checked homes standing old old (λ n kept. refl) refl (λ temp lt. refl) d.holds.checked d))
    where
      own_apart : (temp : ℕ) → (temp == to) ≡ false → temp < 4 → is_scratch_or (21 + to) (21 + temp) ≡ false
      own_apart temp other low = grind (arith, nat_tests, other)

      home_apart : (r : ℕ) → IsHome (Some r) → (r == (21 + to)) ≡ false → is_scratch_or (21 + to) r ≡ false
      home_apart r is other = let small = is.0 in grind (arith, nat_tests, other)

      -- only the temporaries 0 to 3 are known
      by_known : (temp : ℕ) → temp < 6 → is_something (held (hidden (settled homes) (behind_access known)) temp) ≡ true → temp < 4
      by_known temp temp_lt some = at (temp == 4) refl (temp == 5) refl
        where
          at : (a : Bool) → (temp == 4) ≡ a → (b : Bool) → (temp == 5) ≡ b → temp < 4
          at true e b f = absurd (cc (sym some ∙ ap (λ n. is_something (held (hidden (settled homes) (behind_access known)) n)) (eqb-true temp 4 e)))
          at false e true f = absurd (cc (sym some ∙ ap (λ n. is_something (held (hidden (settled homes) (behind_access known)) n)) (eqb-true temp 5 f)))
          at false e false f = grind (arith, nat_tests, e, f, temp_lt)

      by : (b : Bool) → is_extended to count ≡ b
          → (home_of (with_home to (if b then Some (21 + to) else None) (settled homes)) to ≡ None → to < 6 → HoldsAs (holding_of (nat_le count 4)) value (new (21 + to)))
          × IsHome (if b then Some (21 + to) else None)
          × ((r : ℕ) → (if b then Some (21 + to) else None) ≡ Some r → (value ≡ new r % 2 ^ 32) × IsExtended (new r))
      by true e =
          let few = (and_parts (count == 4) (nat_lt to 3) e).1 in
          let below = ltb-true to 3 few in (
            λ none below. let some = home_self to (Some (21 + to)) (settled homes) (few_low to few) in absurd (cc (sym none ∙ some)),
            (omega arith, λ not_so. omega arith),
            λ r same. subst (λ n. (value ≡ new n % 2 ^ 32) × IsExtended (new n)) (same_Some (21 + to) r same) (home e),
          )
      by false e = (λ none below. own e, tt, λ r same. absurd (cc same))

  pub direct_reads : (need pc to place count : ℕ) (rest : List Line) (known : Known) (homes : Homes) (standing : Standing) (regs : Regs) (on : ℕ → Course Left)
      → Within p site.behind pc (map plain (reading site.byte_word homes to place count) ++ rest) → 1 ≤ length rest
      → read_fits known to place count ≡ true → bytes.IsArgument (holder place) → bytes.IsArgument (holder to) → IsCount count → is_shared homes to ≡ false → Direct p site known homes standing regs
      → ((value : ℕ) (g : Regs) → value < 2 ^ (8 * count)
      → Direct p site (behind_access (behind_write to (holding_of (nat_le count 4)) known)) (with_home to (read_home to count) (settled homes)) (with_value to value standing) g
      → Always p None need (at_place g (pc + length (reading site.byte_word homes to place count))) (tree onward (on value)))
      → Always p None (length (reading site.byte_word homes to place count) + need) (at_place regs pc) (tree onward (read_parts (parts (standing.temps place) count) on))
  direct_reads need pc to place count rest known homes standing regs on w some fits a_place a_to is alone d behind = by (is_extended to count) refl w behind
    where
      to_high : 21 + to < 25
      to_high = a_to.high

      place_high : 21 + place < 25
      place_high = a_place.high

      apart : (is_count count && are_apart to place && reference_fits known place count false) ≡ true
      apart = fits

      fits_place : reference_fits known place count false ≡ true
      fits_place = (all_three (is_count count) (are_apart to place) (reference_fits known place count false) fits).2

      usage : IsUsable p.pages false (standing.temps place) count
      usage = place_usable p site known homes standing regs d place count false (omega (arith, place_high)) fits_place

      some_bytes : (0 < count) × (count ≤ 8)
      some_bytes = count_some is

      at : regs (stands homes place) ≡ standing.temps place
      at = place_is p site known homes standing regs d table false place count some_bytes.0 (omega (arith, place_high)) (and_parts (place_fits known place) (is_checked known.checked place count false) fits_place).0 usage

      words_of : Bool → List AlphaInstr
      words_of b = if b then extended_read (stands homes place) (21 + to) else read_by site.byte_word (stands homes place) count (21 + to)

      begins : Begins (loads_of site.byte_word) p.kinds (λ value. tree onward (on value)) None (read_plan (parts (regs (stands homes place)) count)) (tree onward (read_parts (parts (standing.temps place) count) on)) None
      begins =
          subst (λ a. Begins (loads_of site.byte_word) p.kinds (λ value. tree onward (on value)) None (read_plan (parts a count)) (tree onward (read_parts (parts (standing.temps place) count) on)) None) (sym at)
          (begins_read p site.byte_word bytes_written kinds onward (standing.temps place) count on some_bytes.0)

      may : sequences.MayRead (loaded_of site.byte_word) (piece_terms p (loads_of site.byte_word)) (regs (stands homes place)) count
      may = subst (λ a. sequences.MayRead (loaded_of site.byte_word) (piece_terms p (loads_of site.byte_word)) a count) (sym at) (may_read p table site.byte_word (standing.temps place) count is usage)

      low_place : bytes.IsArgument (stands homes place)
      low_place = stands_low homes d.are place a_place

      by : (b : Bool) → is_extended to count ≡ b → Within p site.behind pc (map plain (if b then extended_read (stands homes place) (21 + to) else read_by site.byte_word (stands homes place) count (21 + to)) ++ rest)
          → ((value : ℕ) (g : Regs) → value < 2 ^ (8 * count)
          → Direct p site (behind_access (behind_write to (holding_of (nat_le count 4)) known)) (with_home to (read_home to count) (settled homes)) (with_value to value standing) g
          → Always p None need (at_place g (pc + length (if b then extended_read (stands homes place) (21 + to) else read_by site.byte_word (stands homes place) count (21 + to)))) (tree onward (on value)))
          → Always p None (length (if b then extended_read (stands homes place) (21 + to) else read_by site.byte_word (stands homes place) count (21 + to)) + need) (at_place regs pc) (tree onward (read_parts (parts (standing.temps place) count) on))
      by false e w behind =
          let words = read_by site.byte_word (stands homes place) count (21 + to) in
          let count_is = row_length p site.behind (read_by site.byte_word (stands homes place) count (21 + to)) rest in
          let end = w.high in
          let near = w.near in
          runs p None need pc (length (read_by site.byte_word (stands homes place) count (21 + to))) (sequences.Holds regs (21 + to) count) (loads_of site.byte_word) (λ value. tree onward (on value)) None regs (read_plan (parts (regs (stands homes place)) count)) _
          w.low (omega arith) (λ q gt le. is_inside p site.behind pc q (map plain (read_by site.byte_word (stands homes place) count (21 + to)) ++ rest) w gt (omega arith))
          begins
          (λ n. reads_by site.byte_word (stands homes place) count (21 + to) is low_place a_to p.fetch (piece_terms p (loads_of site.byte_word)) pc regs (omega arith) may (row_words p site.behind pc (read_by site.byte_word (stands homes place) count (21 + to)) rest w) n)
          (λ value g l. behind value g l.fits
          (behind_read known homes standing regs g to count value (omega (arith, to_high)) l.only alone (λ none. read_holds count value (g (21 + to)) is l.holds l.fits) (λ some. absurd (cc (sym e ∙ some))) d))
      by true e w behind =
          let four : count ≡ 4 = eqb-true count 4 (and_parts (count == 4) (nat_lt to 3) e).0 in
          let count_is = row_length p site.behind (extended_read (stands homes place) (21 + to)) rest in
          let end = w.high in
          let near = w.near in
          runs p None need pc (length (extended_read (stands homes place) (21 + to))) (sequences.HoldsExtended regs (21 + to)) (loads_of site.byte_word) (λ value. tree onward (on value)) None regs (read_plan (parts (regs (stands homes place)) count)) _
          w.low (omega arith) (λ q gt le. is_inside p site.behind pc q (map plain (extended_read (stands homes place) (21 + to)) ++ rest) w gt (omega arith))
          begins
          (λ n. subst (λ c. Within_runs c n) (sym four) (extends_read (stands homes place) (21 + to) low_place a_to p.fetch (piece_terms p (loads_of site.byte_word)) pc regs (omega arith) (long_may site.byte_word (subst (λ c. sequences.MayRead (loaded_of site.byte_word) (piece_terms p (loads_of site.byte_word)) (regs (stands homes place)) c) four may)) (row_words p site.behind pc (extended_read (stands homes place) (21 + to)) rest w) n))
          (λ value g l. behind value g (subst (λ v. v < 2 ^ (8 * count)) l.holds (subst (λ c. g (21 + to) % 2 ^ 32 < 2 ^ (8 * c)) (sym four) (low (g (21 + to)))))
          (behind_read known homes standing regs g to count value (omega (arith, to_high)) l.only alone (λ none. absurd (cc (sym none ∙ e))) (λ some. (sym l.holds, l.extended)) d))
        where
          low : (n : ℕ) → n % 2 ^ 32 < 2 ^ 32
          low n = omega arith

          Within_runs : (c n : ℕ) → Type 0
          Within_runs c n = Runs (piece p.fetch (piece_terms p (loads_of site.byte_word)) pc (pc + 12)) (sequences.HoldsExtended regs (21 + to)) n Plain 12 (at_place regs pc) (read_plan (parts (regs (stands homes place)) c))

          long_may : (byte_word : Bool) → sequences.MayRead (loaded_of byte_word) (piece_terms p (loads_of site.byte_word)) (regs (stands homes place)) 4 → sequences.MayRead loaded_bytes (piece_terms p (loads_of site.byte_word)) (regs (stands homes place)) 4
          long_may false may = may
          long_may true may = record { within = may.within; pages = may.pages; loads = may.loads }

  pub direct_writes : (need pc place count source : ℕ) (rest : List Line) (known : Known) (homes : Homes) (standing : Standing) (regs : Regs) (on : Course Left)
      → Within p site.behind pc (map plain (write_by site.byte_word (stands homes place) count (stands homes source)) ++ rest) → 1 ≤ length rest
      → write_fits known place count source ≡ true → bytes.IsArgument (holder place) → bytes.IsArgument (holder source) → IsCount count → count ≡ bytes_written → may_write homes count source ≡ true → Direct p site known homes standing regs
      → ((g : Regs) → Direct p site (behind_access known) (settled homes) standing g → Always p None need (at_place g (pc + length (write_by site.byte_word (stands homes place) count (stands homes source)))) (tree onward on))
      → Always p None (length (write_by site.byte_word (stands homes place) count (stands homes source)) + need) (at_place regs pc) (tree onward (write_parts (parts (standing.temps place) count) (standing.temps source) on))
  direct_writes need pc place count source rest known homes standing regs on w some fits a_place a_source is all_bytes may_be d behind =
      let x = all_four (is_count count) (are_apart place source) (holds known source) (reference_fits known place count true) fits in
      let place_high = a_place.high in
      let source_high = a_source.high in
      let usage = place_usable p site known homes standing regs d place count true (omega arith) x.3 in
      let size = count_some is in
      let at = place_is p site known homes standing regs d table true place count size.0 (omega arith) (and_parts (place_fits known place) (is_checked known.checked place count true) x.3).0 usage in
      let written = source_written p site known homes standing regs d (standing.temps place) count source on (omega arith) x.2 may_be in
      let count_is = row_length p site.behind (write_by site.byte_word (stands homes place) count (stands homes source)) rest in
      let end = w.high in
      let near = w.near in
      let stores = stores_of site.byte_word (standing.temps place) count in
      let may : sequences.MayWrite (stored_of site.byte_word) (piece_terms p (stores_of site.byte_word (standing.temps place) count)) (regs (stands homes place)) count =
      subst (λ a. sequences.MayWrite (stored_of site.byte_word) (piece_terms p (stores_of site.byte_word (standing.temps place) count)) a count) (sym at) (operands_may_write p table site.byte_word (standing.temps place) count is usage) in
      let each = write_kinds count p.kinds site.byte_word (subst (λ n. MoreKinds (needed site.byte_word n) p.kinds) (sym all_bytes) kinds) (standing.temps place) is in
      runs p None need pc (length (write_by site.byte_word (stands homes place) count (stands homes source))) (sequences.Keeps regs) stores (λ done. tree onward on) None regs (write_plan (parts (regs (stands homes place)) count) (regs (stands homes source))) _
      w.low (omega arith) (λ q gt le. is_inside p site.behind pc q (map plain (write_by site.byte_word (stands homes place) count (stands homes source)) ++ rest) w gt (omega arith))
      (subst (λ a. Begins stores p.kinds (λ (done : Unit {0}). tree onward on) None (write_plan (parts a count) (regs (stands homes source))) (tree onward (write_parts (parts (standing.temps place) count) (standing.temps source) on)) None) (sym at)
      (subst (λ (course : Course Left). Begins stores p.kinds (λ (done : Unit {0}). tree onward on) None (write_plan (parts (standing.temps place) count) (regs (stands homes source))) (tree onward course) None) written
      (begins_write p site.byte_word bytes_written kinds onward stores (parts (standing.temps place) count) (regs (stands homes source)) on each)))
      (λ n. writes_by site.byte_word (stands homes place) count (stands homes source) is (stands_low homes d.are place a_place) (stands_low homes d.are source a_source) p.fetch (piece_terms p stores) pc regs (omega arith) may (row_words p site.behind pc (write_by site.byte_word (stands homes place) count (stands homes source)) rest w) n)
      (λ done g l. behind g
      (outlasts p site known known.checked homes standing regs g
      (λ n kept. l.only n (kept_not_scratch n kept)) (l.only 31 refl) (λ temp lt. l.only (21 + temp) (own_not_scratch temp lt)) d.holds.checked d))
