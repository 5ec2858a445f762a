-- What was read against what the bytes specify.
use Rattle.std.proofs.Common.{◌≡◌, ◌↔◌, ℕ, ◌+◌, ◌-◌, ◌≤◌, List, ◌++◌, length, take, drop, slice_range, Option, Some, None, Result, Ok, Err, IfOk, refl, sym, ap, ◌∙◌, subst, arith, length-drop, length-take}
use Rattle.std.proofs.lemmas.List.{take-append-drop}
use Rattle.vax_form.specs.Grammar.{ShowsReservedMode, Specifies}
use Rattle.vax_form.specs.GrammarLaws.{AreBytes}
use Rattle.vax_form.specs.GrammarReading.{Shown, complete, read_specifier, reserved}
use Rattle.vax_form.proofs.GrammarFinds.{specifier_found}
use Rattle.vax_form.proofs.GrammarReads.{read_specifier-shows, read_specifier-specifies}
use Rattle.vax_form.specs.declared.instr.Size.{Size}
use Rattle.vax_form.specs.declared.instr.Access.{Access}
use Rattle.vax_form.specs.declared.instr.Operand.{Operand}
use Rattle.operand_specifiers.specs.declared.spec.SpecFault.{SpecFault}
use Rattle.operand_specifiers.specs.declared.spec.SpecFault.TheVariants.{Past, ReservedMode}
use Rattle.operand_specifiers.specs.Answer.{BeginsReserved, IsSpecified, IsUndecided, answer_of}

module _ (a : Access) (size : Size) (origin : ℕ) (bytes : List ℕ) (at : ℕ) (within : at ≤ length bytes) (are : AreBytes (drop at bytes)) where
  found_by : (o : Option (Shown Operand × ℕ)) → read_specifier a size (origin + at) (drop at bytes) ≡ o
      → IfOk (answer_of at o) (λ found. IsSpecified a size origin bytes at found)
  found_by None e = tt
  found_by (Some (reserved, n)) e = tt
  found_by (Some (complete operand, n)) e =
      let f = specifier_found a size (origin + at) (drop at bytes) (complete operand) n are e in
      let count : n ≡ at + n - at = omega arith in
      record {
        in_order = omega arith;
        within = omega (arith, f.0, length-drop at bytes);
        specifies = subst (λ k. Specifies a size (origin + at) (take k (drop at bytes)) operand) count f.1;
      }

  read_again : (n : ℕ) → read_specifier a size (origin + at) (take n (drop at bytes) ++ drop n (drop at bytes))
      ≡ read_specifier a size (origin + at) (drop at bytes)
  read_again n = ap (read_specifier a size (origin + at)) (take-append-drop n (drop at bytes))

  pub only_by : (found : Operand × ℕ) → IsSpecified a size origin bytes at found
      → answer_of at (read_specifier a size (origin + at) (drop at bytes)) ≡ Ok found
  only_by found h =
      let k = found.1 - at in
      let reads = read_specifier-specifies a size (origin + at) (take k (drop at bytes)) found.0 (drop k (drop at bytes)) h.specifies in
      let len : at + length (take k (drop at bytes)) ≡ found.1 =
      omega (arith, h.in_order, h.within, length-take k (drop at bytes), length-drop at bytes) in
      ap (answer_of at) (sym (read_again k) ∙ reads) ∙ ap (λ n. Ok (found.0, n)) len

  begins_by : (o : Option (Shown Operand × ℕ)) → read_specifier a size (origin + at) (drop at bytes) ≡ o
      → answer_of at o ≡ Err ReservedMode → BeginsReserved a size (drop at bytes)
  begins_by None e is = absurd cc
  begins_by (Some (complete operand, n)) e is = absurd cc
  begins_by (Some (reserved, n)) e is = (n, (specifier_found a size (origin + at) (drop at bytes) reserved n are e).1)

  reserved_from : BeginsReserved a size (drop at bytes)
      → answer_of at (read_specifier a size (origin + at) (drop at bytes)) ≡ Err ReservedMode
  reserved_from (n, h) =
      ap (answer_of at) (sym (read_again n) ∙ read_specifier-shows a size (origin + at) (take n (drop at bytes)) (drop n (drop at bytes)) h)

  undecided_from : (o : Option (Shown Operand × ℕ)) → read_specifier a size (origin + at) (drop at bytes) ≡ o
      → answer_of at o ≡ Err Past → IsUndecided a size (origin + at) (drop at bytes)
  undecided_from (Some (complete operand, n)) e is = absurd cc
  undecided_from (Some (reserved, n)) e is = absurd cc
  undecided_from None e is = record {
    unspecified = λ n operand h.
        let reads = read_specifier-specifies a size (origin + at) (take n (drop at bytes)) operand (drop n (drop at bytes)) h in
        let same = read_again n in
        cc;
    unreserved = λ n h.
        let reads = read_specifier-shows a size (origin + at) (take n (drop at bytes)) (drop n (drop at bytes)) h in
        let same = read_again n in
        cc;
  }

  past_from : (o : Option (Shown Operand × ℕ)) → read_specifier a size (origin + at) (drop at bytes) ≡ o
      → IsUndecided a size (origin + at) (drop at bytes) → answer_of at o ≡ Err Past
  past_from None e h = refl
  past_from (Some (complete operand, n)) e h =
      absurd (h.unspecified n operand (specifier_found a size (origin + at) (drop at bytes) (complete operand) n are e).1)
  past_from (Some (reserved, n)) e h =
      absurd (h.unreserved n (specifier_found a size (origin + at) (drop at bytes) reserved n are e).1)

  -- the same of the answer
  module _ (r : Result (Operand × ℕ) SpecFault) (is : r ≡ answer_of at (read_specifier a size (origin + at) (drop at bytes))) where
    pub answer_found : IfOk r (λ found. IsSpecified a size origin bytes at found)
    answer_found = subst (λ k. IfOk k (λ found. IsSpecified a size origin bytes at found)) (sym is) (found_by _ refl)

    pub answer_only : (found : Operand × ℕ) → IsSpecified a size origin bytes at found → r ≡ Ok found
    answer_only found h = is ∙ only_by found h

    pub answer_reserved : (r ≡ Err ReservedMode) ↔ BeginsReserved a size (drop at bytes)
    answer_reserved = (λ e. begins_by _ refl (sym is ∙ e), λ h. is ∙ reserved_from h)

    pub answer_past : (r ≡ Err Past) ↔ IsUndecided a size (origin + at) (drop at bytes)
    answer_past = (λ e. undecided_from _ refl (sym is ∙ e), λ h. is ∙ past_from _ refl h)
