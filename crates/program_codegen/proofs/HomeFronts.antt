-- The lines of references by themselves, where operands are used where they stand.
use Rattle.std.proofs.Common.{◌≡◌, ℕ, ◌+◌, ◌<◌, ◌≤◌, refl, sym, subst, arith, eqb-true, List, [], ◌∷◌, map, Some, Bool, true, false, lit<, lit≤}
use Rattle.std.specs.Prelude.{◌==◌, nat_le, nat_lt, if◌then◌else◌}
use Rattle.std.specs.List.{list_all}
use Rattle.std.proofs.lemmas.Bool.Decides.{nat_tests}
use Rattle.std.proofs.lemmas.Bool.{and_parts}
use Rattle.vt_words.specs.Quad.{IsCount}
use Rattle.alpha_encode.specs.declared.instr.AlphaInstr.TheVariants.{Pal}
use Rattle.micro_ops.specs.declared.program.Micro.{Micro}
use Rattle.micro_ops.specs.declared.program.Micro.TheVariants.{Compute, Probe, Refuse, Read, Write, Locked, Commit, Codes, SetPsw, Leave}
use Rattle.micro_ops.specs.WordCounts.{words_of as count_of}
use Rattle.byte_sequences.specs.Instructions as bytes
use Rattle.byte_sequences.specs.Words.{extended_read}
use Rattle.byte_sequences.proofs.ExtendedLaws.{extended_encodable}
use Rattle.program_codegen.specs.declared.homes.Homes.{Homes}
use Rattle.program_codegen.specs.declared.lines.Line.{Line}
use Rattle.program_codegen.specs.declared.points.Site.{Site}
use Rattle.program_codegen.specs.Homes.{AreHomes, is_shared, with_home}
use Rattle.program_codegen.specs.Direct.{is_extended, may_write, read_home, reached, reading, settled, stands}
use Rattle.program_codegen.specs.Words.{copy, holder, marked, plain, probing, read_by, write_by}
use Rattle.program_codegen.proofs.Beginning.{Starts, row}
use Rattle.program_codegen.proofs.Endings.{above_codes}
use Rattle.program_codegen.proofs.Fronts.{front_append, line_front}
use Rattle.program_codegen.proofs.HomeFollowing.{where_false, where_true}
use Rattle.program_codegen.proofs.HomeReaching.{stands_low}
use Rattle.program_codegen.proofs.Rows.{is_own, read_encodable, read_own, read_short, write_encodable, write_own, write_short}
use Rattle.program_codegen.proofs.Shapes.{call_fits, plain_fits}
use Rattle.program_codegen.proofs.Shaping.{Faulting, faulting_row}
use Rattle.std.proofs.lemmas.Option.{same_Some}

extended_own : (place to : ℕ) → 21 ≤ to → to ≤ 24 → list_all is_own (extended_read place to) ≡ true
extended_own place to low high =
    let not_below : nat_lt to 21 ≡ false = grind (arith, nat_tests) in
    let not_above : nat_le 28 to ≡ false = grind (arith, nat_tests) in
    rw (not_below, not_above) refl

module _ (site : Site) where
  pub probe_front : (register count : ℕ) (write : Bool) → register < 32 → Faulting site 2 (plain (copy register 27) ∷ marked (Pal 0x80) (probing site count write) ∷ [])
  probe_front register count write lt = (
    front_append site (plain (copy register 27) ∷ []) (marked (Pal 0x80) (probing site count write) ∷ [])
        (line_front site (plain (copy register 27)) refl (plain_fits site (copy register 27) (lt, lit< tt, lit< tt) refl) (λ r low high. above_codes 27 r (lit≤ tt) high))
        (line_front site (marked (Pal 0x80) (probing site count write)) refl (call_fits site 0x80 (probing site count write) (lit≤ tt) (lit≤ tt) refl refl refl refl) (λ r low high. above_codes 31 r (lit≤ tt) high)),
    refl,
    lit≤ tt,
  )

  pub read_front : (homes : Homes) → AreHomes homes → (to place count : ℕ) → bytes.IsArgument (holder place) → bytes.IsArgument (holder to) → IsCount count
      → Faulting site (count_of (Read to place count)) (map plain (reading site.byte_word homes to place count))
  read_front homes are to place count a_place a_to is = by (is_extended to count) refl
    where
      by : (b : Bool) → is_extended to count ≡ b → Faulting site (count_of (Read to place count)) (map plain (if b then extended_read (stands homes place) (21 + to) else read_by site.byte_word (stands homes place) count (21 + to)))
      by true e =
          let four = eqb-true count 4 (and_parts (count == 4) (nat_lt to 3) e).0 in
          let high = a_to.high in
          faulting_row site (count_of (Read to place count)) (extended_read (stands homes place) (21 + to)) (extended_encodable (stands homes place) (21 + to) (stands_low homes are place a_place) a_to) (extended_own (stands homes place) (21 + to) (omega arith) (omega arith))
          (subst (λ n. 12 ≤ count_of (Read to place n)) (sym four) (lit≤ tt))
      by false e =
          let low = stands_low homes are place a_place in
          let low_high = low.high in
          let high = a_to.high in
          faulting_row site (count_of (Read to place count)) (read_by site.byte_word (stands homes place) count (21 + to)) (read_encodable site.byte_word (stands homes place) count (21 + to) is (omega arith) (omega arith)) (read_own (21 + to) (omega arith) (omega arith) site.byte_word (stands homes place) count is) (read_short site.byte_word (stands homes place) count (21 + to) is)

  pub write_front : (homes : Homes) → AreHomes homes → (place count source : ℕ) → bytes.IsArgument (holder place) → bytes.IsArgument (holder source) → IsCount count
      → Faulting site (count_of (Write place count source)) (map plain (write_by site.byte_word (stands homes place) count (stands homes source)))
  write_front homes are place count source a_place a_source is =
      faulting_row site (count_of (Write place count source)) (write_by site.byte_word (stands homes place) count (stands homes source))
      (write_encodable site.byte_word (stands homes place) count (stands homes source) is (stands_low homes are place a_place) (stands_low homes are source a_source)) (write_own site.byte_word (stands homes place) count (stands homes source) is) (write_short site.byte_word (stands homes place) count (stands homes source) is)

  -- the first word
  pub reached_starts : (homes : Homes) (operation : Micro) (step : Homes × List Line) → reached site homes operation ≡ Some step → Starts site step.1
  reached_starts homes (Probe place count write) step e =
      let made : Homes × List Line = (settled homes, plain (copy (stands homes place) 27) ∷ marked (Pal 0x80) (probing site count write) ∷ []) in
      subst (λ (s : Homes × List Line). Starts site s.1) (same_Some made step e) refl
  reached_starts homes (Read to place count) step e =
      let made : Homes × List Line = (with_home to (read_home to count) (settled homes), map plain (reading site.byte_word homes to place count)) in
      subst (λ (s : Homes × List Line). Starts site s.1) (where_false (is_shared homes to) made step e).1 (row site (reading site.byte_word homes to place count))
  reached_starts homes (Write place count source) step e =
      let made : Homes × List Line = (settled homes, map plain (write_by site.byte_word (stands homes place) count (stands homes source))) in
      subst (λ (s : Homes × List Line). Starts site s.1) (where_true (may_write homes count source) made step e).1 (row site (write_by site.byte_word (stands homes place) count (stands homes source)))
  reached_starts homes (Compute to op size a b) step e = absurd (cc e)
  reached_starts homes (Refuse when) step e = absurd (cc e)
  reached_starts homes (Locked to place kind source) step e = absurd (cc e)
  reached_starts homes (Commit number source) step e = absurd (cc e)
  reached_starts homes (Codes n z v c) step e = absurd (cc e)
  reached_starts homes (SetPsw source) step e = absurd (cc e)
  reached_starts homes (Leave exit) step e = absurd (cc e)
