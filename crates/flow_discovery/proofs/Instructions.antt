-- The instructions at the members.
use Rattle.std.proofs.Common.{◌≡◌, ◌≢◌, ◌<◌, ◌^◌, ◌∙◌, ℕ, suc, get_or, true, refl, sym, ap, ap₂, List, [], ◌∷◌, length, map, nat_eq, Option, Some, None, true≢false}
use Rattle.std.specs.List.{All, cons_option, filter_map}
use Rattle.std.specs.Option.{is_some}
use Rattle.std.proofs.lemmas.Bool.{eq-eqb, or_right}
use Rattle.std.proofs.lemmas.List.Elements.{All-cons, All-nil}
use Rattle.std.proofs.lemmas.List.{length-map}
use Rattle.vax_form.specs.Row.{class_at}
use Rattle.vax_form.specs.declared.row.Class.TheVariants.{Reserved}
use Rattle.vax_form.specs.declared.instr.Instr.{Instr}
use Rattle.vax_form.specs.declared.pages.Pages.{Pages}
use Rattle.vax_form.specs.Targets.{has}
use Rattle.flow_discovery.specs.Reach.{AreReached, IsReach, decodes, instruction_at}
use Rattle.flow_discovery.proofs.Decoded.{address_of, class_of}
use Rattle.flow_discovery.proofs.Work.{decoded}

module _ (pages : Pages) where
  abbrev read : List ℕ → List Instr
  read addresses = filter_map (instruction_at pages) addresses

  -- each has the address at which it stands
  addresses_of : (addresses : List ℕ) → ((a : ℕ) → has addresses a ≡ true → decodes pages a ≡ true) → map (λ (i : Instr). i.at) (read addresses) ≡ addresses
  addresses_of [] all = refl
  addresses_of (x ∷ xs) all =
      let first : has (x ∷ xs) x ≡ true = rw (eq-eqb x x refl) refl in
      go (instruction_at pages x) refl (all x first) (addresses_of xs (λ a h. all a (or_right (nat_eq a x) (has xs a) h)))
    where
      go : (o : Option Instr) → instruction_at pages x ≡ o → is_some o ≡ true → map (λ (i : Instr). i.at) (read xs) ≡ xs → map (λ (i : Instr). i.at) (cons_option o (read xs)) ≡ x ∷ xs
      go (Some i) e d rest = ap₂ (λ k ks. k ∷ ks) (address_of pages x i e) rest
      go None e d rest = absurd (true≢false (sym d))

  all_there : (addresses : List ℕ) → All (λ (i : Instr). instruction_at pages i.at ≡ Some i) (read addresses)
  all_there [] = All-nil (λ (i : Instr). instruction_at pages i.at ≡ Some i)
  all_there (x ∷ xs) = go (instruction_at pages x) refl (all_there xs)
    where
      go : (o : Option Instr) → instruction_at pages x ≡ o → All (λ (i : Instr). instruction_at pages i.at ≡ Some i) (read xs) → All (λ (i : Instr). instruction_at pages i.at ≡ Some i) (cons_option o (read xs))
      go (Some i) e rest = All-cons (λ (j : Instr). instruction_at pages j.at ≡ Some j) i (read xs) (ap (instruction_at pages) (address_of pages x i e) ∙ e) rest
      go None e rest = rest

  same_addresses : (starts addresses : List ℕ) (instrs : List Instr) → AreReached pages starts addresses → instrs ≡ read addresses → map (λ (i : Instr). i.at) instrs ≡ addresses
  same_addresses starts addresses instrs reached is =
      ap (map (λ (i : Instr). i.at)) is ∙ addresses_of addresses (λ a h. decoded pages starts a ((reached.members a).0 h))

  -- the instructions at the members are the answer
  pub are_reach : (starts addresses : List ℕ) (instrs : List Instr) → AreReached pages starts addresses → instrs ≡ read addresses → IsReach pages starts instrs
  are_reach starts addresses instrs reached is =
      let same = same_addresses starts addresses instrs reached is in
      record {
        reached = rw same reached;
        decoded = rw is (all_there addresses);
      }

  pub as_many : (starts addresses : List ℕ) (instrs : List Instr) → AreReached pages starts addresses → instrs ≡ read addresses → length instrs ≡ length addresses
  as_many starts addresses instrs reached is =
      sym (length-map instrs (λ (i : Instr). i.at)) ∙ ap length (same_addresses starts addresses instrs reached is)

  -- a longword is the address of what stands there
  pub all_low : (addresses : List ℕ) → ((k : ℕ) → get_or addresses k 0 < 2 ^ 32) → All (λ (i : Instr). i.at < 2 ^ 32) (read addresses)
  all_low [] fit = All-nil (λ (i : Instr). i.at < 2 ^ 32)
  all_low (x ∷ xs) fit = go (instruction_at pages x) refl (all_low xs (λ k. fit (suc k)))
    where
      go : (o : Option Instr) → instruction_at pages x ≡ o → All (λ (i : Instr). i.at < 2 ^ 32) (read xs) → All (λ (i : Instr). i.at < 2 ^ 32) (cons_option o (read xs))
      go (Some i) e rest = All-cons (λ (j : Instr). j.at < 2 ^ 32) i (read xs) (rw (address_of pages x i e) (fit 0)) rest
      go None e rest = rest

  all_listed : (addresses : List ℕ) → All (λ (i : Instr). class_at i.opcode ≢ Reserved) (read addresses)
  all_listed [] = All-nil (λ (i : Instr). class_at i.opcode ≢ Reserved)
  all_listed (x ∷ xs) = go (instruction_at pages x) refl (all_listed xs)
    where
      go : (o : Option Instr) → instruction_at pages x ≡ o → All (λ (i : Instr). class_at i.opcode ≢ Reserved) (read xs) → All (λ (i : Instr). class_at i.opcode ≢ Reserved) (cons_option o (read xs))
      go (Some i) e rest = All-cons (λ (j : Instr). class_at j.opcode ≢ Reserved) i (read xs) (class_of pages x i e) rest
      go None e rest = rest

  pub are_listed : (addresses : List ℕ) (instrs : List Instr) → instrs ≡ read addresses → All (λ (i : Instr). class_at i.opcode ≢ Reserved) instrs
  are_listed addresses instrs is = rw is (all_listed addresses)
