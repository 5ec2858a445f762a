-- A text is read from as many bytes as the grammar reads.
use Rattle.std.proofs.Common.{◌≡◌, ℕ, ◌+◌, ◌%◌, List, [], ◌∷◌, ◌++◌, length, drop, Option, Some, None, refl, sym, ap, ◌∙◌, arith, append-nil, inl, inr}
use Rattle.std.proofs.lemmas.Option.{some_pair_parts}
use Rattle.vax_form.specs.Grammar.{Spells, instruction, wrapped}
use Rattle.vax_form.specs.GrammarRows.{operand_types}
use Rattle.vax_form.specs.GrammarModes.{extension_size, is_reserved_base, is_reserved_mode, mode_of}
use Rattle.vax_form.specs.GrammarReading.{Shown, complete, followed, in_front, instruction_of, read_base, read_by_mode, read_displacement, read_extension, read_general, read_instruction, read_number, read_operands, read_plain, read_specifier, read_specifiers, reserved}
use Rattle.vax_form.proofs.GrammarFinds.{chosen, option_map-some}
use Rattle.vax_form.proofs.GrammarLaws.{read_instruction-decides}
use Rattle.vax_form.specs.declared.mode.Mode.{Mode}
use Rattle.vax_form.specs.declared.mode.Mode.TheVariants as mode
use Rattle.vax_form.specs.declared.instr.Size.{Size}
use Rattle.vax_form.specs.declared.instr.Access.{Access}
use Rattle.vax_form.specs.declared.instr.Access.TheVariants as access
use Rattle.vax_form.specs.declared.instr.Operand.{Operand}
use Rattle.vax_form.specs.declared.instr.Instr.{Instr}
use Rattle.vax_text.specs.Operands.{base, by_mode, extension_bytes, general, plain, specifier, target}
use Rattle.vax_text.specs.Text.{WalksWhole, operands_text, types_of, walk}

extension_counts : (o : Option Size) (rest : List ℕ) (e : ℕ × ℕ) → read_extension o rest ≡ Some e → extension_bytes o ≡ e.1
unfolding read_extension
extension_counts None rest e h = let same : (0, 0) ≡ e = cc in ap (λ p. p.1) same
extension_counts (Some size) rest e h =
    let x = option_map-some _ (read_number size rest) e h in ap (λ p. p.1) x.2

plain_counts : (a : Access) (size : Size) (at here first : ℕ) (m : Mode) (rest : List ℕ) (o : Operand) (n : ℕ)
    → read_plain a size at first m rest ≡ Some (complete o, n) → (plain size here first m rest).1 ≡ n
unfolding read_plain plain
plain_counts a size at here first m rest o n e = elim (chosen (is_reserved_mode a size (first % 16) m) _ _ _ e) [
  | inl h ↦ absurd (let no = (some_pair_parts _ _ _ _ h.1).0 in cc)
  | inr h ↦ (
      let x = option_map-some _ (read_extension (extension_size size m) rest) _ h.1 in
      ap (λ k. 1 + k) (extension_counts (extension_size size m) rest x.0 x.1) ∙ ap (λ p. p.1) x.2)
]

base_counts : (size : Size) (at here x : ℕ) (bytes : List ℕ) (o : Operand) (n : ℕ)
    → read_base size at x bytes ≡ Some (complete o, n) → 1 + (base size here bytes).1 ≡ n
unfolding read_base base plain
base_counts size at here x [] o n e = absurd cc
base_counts size at here x (first ∷ rest) o n e = elim (chosen (is_reserved_base x (first % 16) (mode_of first)) _ _ _ e) [
  | inl h ↦ absurd (let no = (some_pair_parts _ _ _ _ h.1).0 in cc)
  | inr h ↦ (
      let r = option_map-some _ (read_extension (extension_size size (mode_of first)) rest) _ h.1 in
      let count : 2 + r.0.1 ≡ n = ap (λ p. p.1) r.2 in
      omega (arith, extension_counts (extension_size size (mode_of first)) rest r.0 r.1))
]

by_mode_counts : (a : Access) (size : Size) (at here first : ℕ) (m : Mode) (rest : List ℕ) (o : Operand) (n : ℕ)
    → read_by_mode a size at first m rest ≡ Some (complete o, n) → (by_mode size here first m rest).1 ≡ n
unfolding read_by_mode by_mode
by_mode_counts a size at here first mode.Index rest o n e = base_counts size (at + 1) (wrapped (here + 1)) (first % 16) rest o n e
by_mode_counts a size at here first m rest o n e = plain_counts a size at here first m rest o n e

general_counts : (a : Access) (size : Size) (at here : ℕ) (bytes : List ℕ) (o : Operand) (n : ℕ)
    → read_general a size at bytes ≡ Some (complete o, n) → (general size here bytes).1 ≡ n
unfolding read_general general
general_counts a size at here [] o n e = absurd cc
general_counts a size at here (first ∷ rest) o n e = by_mode_counts a size at here first (mode_of first) rest o n e

target_counts : (size : Size) (at here : ℕ) (bytes : List ℕ) (o : Operand) (n : ℕ)
    → read_displacement size at bytes ≡ Some (complete o, n) → (target size here bytes).1 ≡ n
unfolding read_displacement target
target_counts size at here bytes o n e = let x = option_map-some _ (read_number size bytes) _ e in ap (λ p. p.1) x.2

specifier_counts : (a : Access) (size : Size) (at here : ℕ) (bytes : List ℕ) (o : Operand) (n : ℕ)
    → read_specifier a size at bytes ≡ Some (complete o, n) → (specifier a size here bytes).1 ≡ n
unfolding read_specifier specifier
specifier_counts access.Branch size at here bytes o n e = target_counts size at here bytes o n e
specifier_counts a size at here bytes o n e = general_counts a size at here bytes o n e

abbrev Several : Type 0
Several = Option (Shown (List Operand) × ℕ)

in_front_parts : (operand : Operand) (k : ℕ) (o : Several) (os : List Operand) (n : ℕ) → in_front operand k o ≡ Some (complete os, n)
    → (others : List Operand) × (m : ℕ) × (o ≡ Some (complete others, m)) × (k + m ≡ n)
in_front_parts operand k None os n e = absurd cc
in_front_parts operand k (Some (complete others, m)) os n e = (others, m, refl, (some_pair_parts _ _ _ _ e).1)
in_front_parts operand k (Some (reserved, m)) os n e = absurd (let no = (some_pair_parts _ _ _ _ e).0 in cc)

followed_parts : (one : Option (Shown Operand × ℕ)) (others : ℕ → Several) (os : List Operand) (n : ℕ)
    → followed one others ≡ Some (complete os, n)
    → (operand : Operand) × (k m : ℕ) × (more : List Operand) × (one ≡ Some (complete operand, k)) × (others k ≡ Some (complete more, m)) × (k + m ≡ n)
followed_parts None others os n e = absurd cc
followed_parts (Some (reserved, k)) others os n e = absurd (let no = (some_pair_parts _ _ _ _ e).0 in cc)
followed_parts (Some (complete operand, k)) others os n e =
    let p = in_front_parts operand k (others k) os n e in (operand, k, p.1, p.0, refl, p.2, p.3)

operands_count : (separator : ℕ) (types : List (Access × Size)) (at here : ℕ) (bytes : List ℕ) (os : List Operand) (n : ℕ)
    → read_specifiers types at bytes ≡ Some (complete os, n) → (operands_text separator types here bytes).1 ≡ n
unfolding read_specifiers operands_text
operands_count separator [] at here bytes os n e = (some_pair_parts _ _ _ _ e).1
operands_count separator (t ∷ types) at here bytes os n e =
    let p = followed_parts (read_specifier t.0 t.1 at bytes) _ os n e in
    let first = specifier_counts t.0 t.1 at here bytes p.0 p.1 p.4 in
    let rest = operands_count 44 types (at + p.1) (wrapped (here + p.1)) (drop p.1 bytes) p.3 p.2 p.5 in
    ap (λ k. k + (operands_text 44 types (wrapped (here + k)) (drop k bytes)).1) first ∙ ap (λ k. p.1 + k) rest ∙ p.6

shown_counts : (at here opcode : ℕ) (types : List (Access × Size)) (rest : List ℕ) (instr : Instr) (n : ℕ) (s : Shown (List Operand) × ℕ)
    → read_specifiers types (at + 1) rest ≡ Some s → instruction_of at opcode (length types) s ≡ (instruction instr, n)
    → 1 + (operands_text 32 types here rest).1 ≡ n
unfolding instruction_of
shown_counts at here opcode types rest instr n (reserved, k) r h = absurd (let no = ap (λ p. p.0) h in cc)
shown_counts at here opcode types rest instr n (complete os, k) r h =
    ap (λ m. 1 + m) (operands_count 32 types (at + 1) here rest os k r) ∙ ap (λ p. p.1) h

read_counts : (at here opcode : ℕ) (types : Option (List (Access × Size))) (rest : List ℕ) (instr : Instr) (n : ℕ)
    → read_operands at opcode types rest ≡ Some (instruction instr, n) → 1 + (operands_text 32 (types_of types) here rest).1 ≡ n
unfolding read_operands
read_counts at here opcode None rest instr n e = absurd (let no = (some_pair_parts _ _ _ _ e).0 in cc)
read_counts at here opcode (Some types) rest instr n e =
    let x = option_map-some _ (read_specifiers types (at + 1) rest) _ e in
    shown_counts at here opcode types rest instr n x.0 x.1 x.2

walk_counts : (at : ℕ) (bytes : List ℕ) (instr : Instr) (n : ℕ) → read_instruction at bytes ≡ Some (instruction instr, n) → (walk at bytes).1 ≡ n
unfolding read_instruction walk
walk_counts at [] instr n e = absurd cc
walk_counts at (opcode ∷ rest) instr n e = read_counts at (wrapped (at + 1)) opcode (operand_types opcode) rest instr n e

pub walks_whole : WalksWhole
walks_whole at bytes rest instr s = walk_counts at (bytes ++ rest) instr (length bytes) (read_instruction-decides at bytes rest (instruction instr) s)

pub walks_alone : (at : ℕ) (bytes : List ℕ) (instr : Instr) → Spells at bytes instr → (walk at bytes).1 ≡ length bytes
walks_alone at bytes instr s = ap (λ l. (walk at l).1) (sym (append-nil bytes)) ∙ walks_whole at bytes [] instr s
