-- What the temporaries hold before the codes are set, for each place where codes come from: then they are the
-- instruction's.
use Rattle.std.proofs.Common.{◌≡◌, ℕ, ◌+◌, ◌-◌, ◌/◌, ◌%◌, ◌^◌, ◌<◌, Bool, true, false, List, [], ◌∷◌, ◌++◌, Some, None, refl, sym, ap, ◌∙◌, arith}
use Rattle.std.specs.Prelude.{◌==◌, not, nat_le, nat_lt, int_lt}
use Rattle.std.specs.List.{list_all}
use Rattle.std.proofs.Common.{inl, inr, leb-true, add-zero, subst}
use Rattle.std.proofs.lemmas.Bool.Decides.{eqb_tells}
use Rattle.std.proofs.Math.Nat.{mod-eq_of_lt}
use Rattle.std.proofs.lemmas.Bool.{and_parts}
use Rattle.vax_form.specs.declared.instr.Size.{Size}
use Rattle.vax_form.specs.declared.pages.Pages.{Pages}
use Rattle.vax_form.specs.declared.state.VaxState.{VaxState}
use Rattle.vt_words.specs.Arithmetic.{sum_of, difference_of}
use Rattle.vt_words.specs.Quad.{sign_extended}
use Rattle.vt_words.specs.Values.{bit}
use Rattle.vt_words.specs.declared.arithmetic.Coded.{Coded}
use Rattle.micro_ops.specs.Leaving.{CodesComeFrom, SignsComeFrom, HoldsBoth, comparison_of, sum, difference}
use Rattle.micro_ops.specs.Meaning.{Temps, Found, Standing, flag_of, course_of, value_of_arg, with_temp}
use Rattle.micro_ops.specs.Values.{limit_of, bits_of, signed, value_from, computed}
use Rattle.micro_ops.specs.declared.codes.CodeSource.{CodeSource}
use Rattle.micro_ops.specs.declared.codes.CodeSource.TheVariants.{Kept, Zero, Result, Add, Sub, Compare, Computed}
use Rattle.micro_ops.specs.Sources.{from}
use Rattle.micro_ops.specs.declared.program.Exit.{Exit}
use Rattle.micro_ops.specs.declared.program.Exit.TheVariants as exits
use Rattle.micro_ops.specs.declared.program.MicroOp.TheVariants as ops
use Rattle.micro_ops.specs.declared.program.Micro.{Micro}
use Rattle.micro_ops.specs.declared.program.Micro.TheVariants.{Compute, Leave}
use Rattle.micro_ops.proofs.Sizes.{low_below}
use Rattle.operand_programs.specs.Pieces.{Agrees, with_temps, leaving}
use Rattle.micro_lower.specs.Plans.{codes_program, signs_by, none_into, overflow_of, signs_of_two, carry_program}
use Rattle.micro_lower.proofs.Coding.{HasFlags, GoesTo, coded_end, codes_leave}
use Rattle.micro_lower.proofs.Overflow.{IsNarrow, sum_carries, negative_is, none_is, differ, sum_differs, difference_differs}

-- N and Z are by that value
abbrev pub HasSign : Size → (value : ℕ) → Coded → Type 0
HasSign size value coded = (value < limit_of size) × (coded.n ≡ nat_le (limit_of size / 2) value) × (coded.z ≡ (value == 0))

-- V is 0
abbrev pub IsResult : Size → Temps → Coded → Type 0
IsResult size temps coded = HasSign size (temps 2) coded × (coded.v ≡ false)

abbrev pub IsSum : Size → Temps → Coded → Type 0
IsSum size temps coded = IsNarrow size × HoldsBoth size temps × (temps 2 ≡ coded.value) × (sum size temps ≡ coded)

abbrev pub IsDifference : Size → Temps → Coded → Type 0
IsDifference size temps coded = IsNarrow size × HoldsBoth size temps × (temps 2 ≡ coded.value) × (difference size temps ≡ coded)

-- V was computed into 3
abbrev pub IsComputed : Size → Temps → Coded → Type 0
IsComputed size temps coded = HasSign size (temps 2) coded × (temps 3 ≡ bit coded.v)

-- what computations leave in the temporaries
abbrev pub effect : List Micro → Found → Temps → Temps
effect [] found temps = temps
effect (Compute to op size a b ∷ program) found temps =
    effect program found (with_temp to (computed op size (value_of_arg found temps a) (value_of_arg found temps b) (temps to)) temps)
effect (_ ∷ program) found temps = effect program found temps

-- into temporaries above 5 alone
abbrev pub writes_high : Micro → Bool
writes_high (Compute to op size a b) = nat_le 6 to
writes_high operation = true

another : (temp to : ℕ) → temp < 6 → nat_le 6 to ≡ true → (temp == to) ≡ false
another temp to low high = elim (eqb_tells temp to) [ inl is ↦ absurd (omega (arith, leb-true 6 to high, is.1, low)) | inr not ↦ not.0 ]

pub low_kept : (program : List Micro) (found : Found) (temps : Temps) (temp : ℕ) → temp < 6 → list_all writes_high program ≡ true → effect program found temps temp ≡ temps temp
low_kept [] found temps temp low high = refl
low_kept (Compute to op size a b ∷ program) found temps temp low high =
    let h = and_parts _ _ high in
    low_kept program found _ temp low h.1 ∙ rw (another temp to low h.0) refl
low_kept (_ ∷ program) found temps temp low high = low_kept program found temps temp low high

-- an exit by a temporary that outlasts the commits
abbrev pub IsLowExit : Exit → Type 0
IsLowExit exits.Next = Unit {0}
IsLowExit (exits.Fixed address) = Unit {0}
IsLowExit (exits.Computed temp) = temp < 5
IsLowExit (exits.Choice when taken other) = when < 5
IsLowExit (exits.Service temp) = ⊥
IsLowExit exits.Breakpoint = ⊥

pub still_goes : (exit : Exit) (found : Found) (before after : Temps) (pc : ℕ) → IsLowExit exit → ((temp : ℕ) → temp < 5 → after temp ≡ before temp) → GoesTo exit found before pc → GoesTo exit found after pc
still_goes exits.Next found before after pc low kept goes = goes
still_goes (exits.Fixed address) found before after pc low kept goes = goes
still_goes (exits.Computed temp) found before after pc low kept goes = rw (kept temp low) goes
still_goes (exits.Choice when taken other) found before after pc low kept goes = rw (kept when low) goes
still_goes (exits.Service temp) found before after pc low kept goes = absurd low
still_goes exits.Breakpoint found before after pc low kept goes = absurd low

-- what the temporaries hold for each place where codes come from
abbrev pub ReadyFor : (nzv c : CodeSource) → (psw : ℕ) → Temps → Coded → Type 0
ReadyFor (Result size) Kept psw temps coded = IsResult size temps coded × (psw % 2 ≡ bit coded.c)
ReadyFor (Result size) Zero psw temps coded = IsResult size temps coded × (coded.c ≡ false)
ReadyFor (Add size) (Add other) psw temps coded = (size ≡ other) × IsSum size temps coded
ReadyFor (Sub size) (Sub other) psw temps coded = (size ≡ other) × IsDifference size temps coded
ReadyFor (Compare size) (Compare other) psw temps coded = (size ≡ other) × HoldsBoth size temps × (comparison_of size (temps 0) (temps 1) ≡ coded)
ReadyFor (Computed size) Zero psw temps coded = IsComputed size temps coded × (coded.c ≡ false)
ReadyFor (Computed size) (Computed other) psw temps coded = (size ≡ other) × IsComputed size temps coded × (temps 4 ≡ bit coded.c)
ReadyFor (Computed size) Kept psw temps coded = IsComputed size temps coded × (psw % 2 ≡ bit coded.c)
ReadyFor nzv c psw temps coded = ⊥

module _ (start : VaxState) (pages : Pages) (thread : ℕ) (found : Found) (standing : Standing) (coded : Coded) (exit : Exit) (pc : ℕ) where
  -- with codes from there, the program's end is the instruction's
  abbrev pub EndsCoded : (nzv c : CodeSource) → Type 0
  EndsCoded nzv c =
      IsLowExit exit → GoesTo exit found standing.temps pc → standing.state.psw ≡ start.psw
      → Agrees (CodesComeFrom (from nzv c) start) (leaving pages thread) (course_of (codes_program (from nzv c) ++ Leave exit ∷ []) found standing)
      (coded_end pages coded.n coded.z coded.v coded.c pc standing.state)

  negative : (size : Size) (x : ℕ) → HasSign size x coded → bit (int_lt (signed size (x % limit_of size)) (signed size (0 % limit_of size))) ≡ bit coded.n
  negative size x sign = ap bit (negative_is size x sign.0 ∙ sym sign.1)

  nothing : (size : Size) (x : ℕ) → HasSign size x coded → bit (x % limit_of size == 0 % limit_of size) ≡ bit coded.z
  nothing size x sign = ap bit (none_is size x sign.0 ∙ sym sign.2)

  goes_behind : (program : List Micro) → list_all writes_high program ≡ true → IsLowExit exit → GoesTo exit found standing.temps pc → GoesTo exit found (effect program found standing.temps) pc
  goes_behind program high low goes = still_goes exit found standing.temps (effect program found standing.temps) pc low (λ temp below. low_kept program found standing.temps temp (omega (arith, below)) high) goes

  was_carry : standing.state.psw ≡ start.psw → standing.state.psw % 2 ≡ flag_of 3 start.psw
  was_carry same = rw same (omega arith)

  pub result_kept : (size : Size) → IsResult size standing.temps coded → standing.state.psw % 2 ≡ bit coded.c → EndsCoded (Result size) Kept
  unfolding value_from
  result_kept size ready c low goes same =
      let made = signs_by 2 size ++ none_into 8 in
      codes_leave (from (Result size) Kept) start pages thread coded.n coded.z coded.v coded.c 6 7 8 None found (with_temps (effect made found standing.temps) standing) exit pc
      (negative size _ ready.0) (nothing size _ ready.0) (rw ready.1 refl) c (goes_behind made refl low goes)
      (λ psw flags. record {
        signs = (ready.0.0, (flags.negative ∙ ap bit ready.0.1, flags.zero ∙ ap bit ready.0.2, flags.overflow ∙ ap bit ready.1));
        carry = flags.carry ∙ sym c ∙ was_carry same;
      })

  pub result_zero : (size : Size) → IsResult size standing.temps coded → coded.c ≡ false → EndsCoded (Result size) Zero
  unfolding value_from
  result_zero size ready c low goes same =
      let made = signs_by 2 size ++ none_into 8 ++ none_into 9 in
      codes_leave (from (Result size) Zero) start pages thread coded.n coded.z coded.v coded.c 6 7 8 (Some 9) found (with_temps (effect made found standing.temps) standing) exit pc
      (negative size _ ready.0) (nothing size _ ready.0) (rw ready.1 refl) (rw c refl) (goes_behind made refl low goes)
      (λ psw flags. record {
        signs = (ready.0.0, (flags.negative ∙ ap bit ready.0.1, flags.zero ∙ ap bit ready.0.2, flags.overflow ∙ ap bit ready.1));
        carry = flags.carry ∙ ap bit c;
      })

  computed_signs : (size : Size) (carry : CodeSource) (psw : ℕ) → IsComputed size standing.temps coded → HasFlags psw coded.n coded.z coded.v coded.c → SignsComeFrom (Computed size) start.psw psw standing.temps
  computed_signs size carry psw ready flags = (ready.0.0, flags.negative ∙ ap bit ready.0.1, flags.zero ∙ ap bit ready.0.2, ready.1 ∙ sym flags.overflow)

  pub computed_zero : (size : Size) → IsComputed size standing.temps coded → coded.c ≡ false → EndsCoded (Computed size) Zero
  unfolding value_from
  computed_zero size ready c low goes same =
      let made = signs_by 2 size ++ none_into 9 in
      codes_leave (from (Computed size) Zero) start pages thread coded.n coded.z coded.v coded.c 6 7 3 (Some 9) found (with_temps (effect made found standing.temps) standing) exit pc
      (negative size _ ready.0) (nothing size _ ready.0) ready.1 (rw c refl) (goes_behind made refl low goes)
      (λ psw flags. record { signs = computed_signs size Zero psw ready flags; carry = flags.carry ∙ ap bit c })

  pub computed_computed : (size : Size) → IsComputed size standing.temps coded → standing.temps 4 ≡ bit coded.c → EndsCoded (Computed size) (Computed size)
  unfolding value_from
  computed_computed size ready c low goes same =
      let made = signs_by 2 size in
      codes_leave (from (Computed size) (Computed size)) start pages thread coded.n coded.z coded.v coded.c 6 7 3 (Some 4) found (with_temps (effect made found standing.temps) standing) exit pc
      (negative size _ ready.0) (nothing size _ ready.0) ready.1 c (goes_behind made refl low goes)
      (λ psw flags. record { signs = computed_signs size Zero psw ready flags; carry = c ∙ sym flags.carry })

  pub computed_kept : (size : Size) → IsComputed size standing.temps coded → standing.state.psw % 2 ≡ bit coded.c → EndsCoded (Computed size) Kept
  unfolding value_from
  computed_kept size ready c low goes same =
      let made = signs_by 2 size in
      codes_leave (from (Computed size) Kept) start pages thread coded.n coded.z coded.v coded.c 6 7 3 None found (with_temps (effect made found standing.temps) standing) exit pc
      (negative size _ ready.0) (nothing size _ ready.0) ready.1 c (goes_behind made refl low goes)
      (λ psw flags. record { signs = computed_signs size Zero psw ready flags; carry = flags.carry ∙ sym c ∙ was_carry same })

  pub compared : (size : Size) → HoldsBoth size standing.temps → comparison_of size (standing.temps 0) (standing.temps 1) ≡ coded → EndsCoded (Compare size) (Compare size)
  unfolding value_from
  compared size ready is low goes same =
      let made = signs_of_two size ++ carry_program (Compare size) in
      let a = mod-eq_of_lt ready.0 in
      let b = mod-eq_of_lt ready.1 in
      codes_leave (from (Compare size) (Compare size)) start pages thread coded.n coded.z coded.v coded.c 6 7 8 (Some 9) found (with_temps (effect made found standing.temps) standing) exit pc
      (rw (a, b) (ap (λ (x : Coded). bit x.n) is)) (rw (a, b) (ap (λ (x : Coded). bit x.z) is)) (ap (λ (x : Coded). bit x.v) is) (rw (a, b) (ap (λ (x : Coded). bit x.c) is)) (goes_behind made refl low goes)
      (λ psw flags. record {
        signs = (ready, (flags.negative ∙ sym (ap (λ (x : Coded). bit x.n) is), flags.zero ∙ sym (ap (λ (x : Coded). bit x.z) is), flags.overflow ∙ sym (ap (λ (x : Coded). bit x.v) is)));
        carry = (ready, flags.carry ∙ sym (ap (λ (x : Coded). bit x.c) is));
      })

  pub added : (size : Size) → IsSum size standing.temps coded → EndsCoded (Add size) (Add size)
  unfolding value_from sum_of
  added size ready low goes same =
      let made = signs_by 2 size ++ overflow_of ops.Add size ++ carry_program (Add size) in
      let is = ready.3 in
      let a = standing.temps 0 in
      let b = standing.temps 1 in
      let value : standing.temps 2 ≡ (a + b + 0) % limit_of size = ready.2 ∙ sym (ap (λ (x : Coded). x.value) is) in
      let sign : HasSign size (standing.temps 2) coded = (rw value (low_below size _), sym (ap (λ (x : Coded). x.n) is) ∙ rw value refl, sym (ap (λ (x : Coded). x.z) is) ∙ rw value refl) in
      let v : differ size (sign_extended (a % limit_of size) (bits_of size) % 2 ^ 64 + sign_extended (b % limit_of size) (bits_of size) % 2 ^ 64) (standing.temps 2) ≡ bit coded.v =
      sum_differs size a b (standing.temps 2) ready.0 ready.1.0 ready.1.1 value ∙ ap (λ (x : Coded). bit x.v) is in
      let c : bit (nat_lt (standing.temps 2 % limit_of size) (a % limit_of size)) ≡ bit coded.c =
      rw (mod-eq_of_lt sign.0, mod-eq_of_lt ready.1.0) (ap bit (rw value (sum_carries size a b ready.1.0 ready.1.1)) ∙ ap (λ (x : Coded). bit x.c) is) in
      codes_leave (from (Add size) (Add size)) start pages thread coded.n coded.z coded.v coded.c 6 7 8 (Some 9) found (with_temps (effect made found standing.temps) standing) exit pc
      (negative size _ sign) (nothing size _ sign) v c (goes_behind made refl low goes)
      (λ psw flags. record {
        signs = (ready.1, ready.2 ∙ sym (ap (λ (x : Coded). x.value) is), (flags.negative ∙ sym (ap (λ (x : Coded). bit x.n) is), flags.zero ∙ sym (ap (λ (x : Coded). bit x.z) is), flags.overflow ∙ sym (ap (λ (x : Coded). bit x.v) is)));
        carry = (ready.1, flags.carry ∙ sym (ap (λ (x : Coded). bit x.c) is));
      })

  pub subtracted : (size : Size) → IsDifference size standing.temps coded → EndsCoded (Sub size) (Sub size)
  unfolding value_from difference_of
  subtracted size ready low goes same =
      let made = signs_by 2 size ++ overflow_of ops.Sub size ++ carry_program (Sub size) in
      let is = ready.3 in
      let a = standing.temps 0 in
      let b = standing.temps 1 in
      let value : standing.temps 2 ≡ (a + limit_of size - (b + 0)) % limit_of size = ready.2 ∙ sym (ap (λ (x : Coded). x.value) is) in
      let sign : HasSign size (standing.temps 2) coded = (rw value (low_below size _), sym (ap (λ (x : Coded). x.n) is) ∙ rw value refl, sym (ap (λ (x : Coded). x.z) is) ∙ rw value refl) in
      let v : differ size (sign_extended (a % limit_of size) (bits_of size) % 2 ^ 64 + (2 ^ 64 - sign_extended (b % limit_of size) (bits_of size) % 2 ^ 64)) (standing.temps 2) ≡ bit coded.v =
      difference_differs size a b (standing.temps 2) ready.0 ready.1.0 ready.1.1 value ∙ ap (λ (x : Coded). bit x.v) is in
      let c : bit (nat_lt (a % limit_of size) (b % limit_of size)) ≡ bit coded.c =
      rw (mod-eq_of_lt ready.1.0, mod-eq_of_lt ready.1.1) (ap (λ x. bit (nat_lt a x)) (sym (add-zero b)) ∙ ap (λ (x : Coded). bit x.c) is) in
      codes_leave (from (Sub size) (Sub size)) start pages thread coded.n coded.z coded.v coded.c 6 7 8 (Some 9) found (with_temps (effect made found standing.temps) standing) exit pc
      (negative size _ sign) (nothing size _ sign) v c (goes_behind made refl low goes)
      (λ psw flags. record {
        signs = (ready.1, ready.2 ∙ sym (ap (λ (x : Coded). x.value) is), (flags.negative ∙ sym (ap (λ (x : Coded). bit x.n) is), flags.zero ∙ sym (ap (λ (x : Coded). bit x.z) is), flags.overflow ∙ sym (ap (λ (x : Coded). bit x.v) is)));
        carry = (ready.1, flags.carry ∙ sym (ap (λ (x : Coded). bit x.c) is));
      })

  pub ends_coded : (nzv c : CodeSource) → ReadyFor nzv c standing.state.psw standing.temps coded → EndsCoded nzv c
  ends_coded (Result size) Kept ready = result_kept size ready.0 ready.1
  ends_coded (Result size) Zero ready = result_zero size ready.0 ready.1
  ends_coded (Add size) (Add other) ready = subst (λ (s : Size). EndsCoded (Add size) (Add s)) ready.0 (added size ready.1)
  ends_coded (Sub size) (Sub other) ready = subst (λ (s : Size). EndsCoded (Sub size) (Sub s)) ready.0 (subtracted size ready.1)
  ends_coded (Compare size) (Compare other) ready = subst (λ (s : Size). EndsCoded (Compare size) (Compare s)) ready.0 (compared size ready.1 ready.2)
  ends_coded (Computed size) Zero ready = computed_zero size ready.0 ready.1
  ends_coded (Computed size) (Computed other) ready = subst (λ (s : Size). EndsCoded (Computed size) (Computed s)) ready.0 (computed_computed size ready.1 ready.2)
  ends_coded (Computed size) Kept ready = computed_kept size ready.0 ready.1
  ends_coded nzv c ready = absurd ready
