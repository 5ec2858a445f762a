-- What is left of a move behind a reply.
use Rattle.std.proofs.Common.{◌≡◌, ℕ, suc, ◌-◌, ◌%◌, [], ◌∷◌, Bool, false, Option, Some, None, refl, ap, ◌∙◌, arith}
use Rattle.vax_form.specs.Tree.{feed, tree_of, ends_with, instruction_tree}
use Rattle.vax_form.specs.Script.{Script, ◌>>◌, change}
use Rattle.vax_form.specs.declared.instr.Width.TheVariants.{Word}
use Rattle.vax_form.specs.declared.pages.Pages.{Pages}
use Rattle.vax_form.specs.declared.script.End.{End}
use Rattle.vax_form.specs.declared.state.VaxState.{VaxState}
use Rattle.vax_meaning.specs.Codes.{go_to}
use Rattle.vax_meaning.specs.Memory.{write_part}
use Rattle.vax_meaning.specs.Moves.{with_comparison}
use Rattle.vax_long.specs.Strings.{beside, move_bytes, fill_bytes, with_moved}
use Rattle.tie_operands.specs.Steps.{Shows}
use Rattle.tie_operands.specs.declared.step.TieStep.TheVariants.{Want}
use Rattle.tie_strings.specs.Bytes.{read_of, write_of}
use Rattle.tie_strings.specs.Moves.{move_on, moving_script}
use Rattle.tie_strings.specs.declared.moving.Fill.{Fill}
use Rattle.tie_strings.specs.declared.moving.Moved.{Moved}

-- what is left behind the moved bytes
abbrev behind : Fill → Moved → Script End
behind fill moved = do
  fill_bytes fill.left fill.to fill.byte
  change (with_moved moved.left moved.source moved.destination)
  change (with_comparison Word moved.length moved.room)
  go_to moved.after

pub written : (pages : Pages) (state : VaxState) (byte : Option ℕ) (b : ℕ) (down : Bool) (left from to : ℕ) (fill : Fill) (moved : Moved) (reply : ℕ) → byte ≡ Some b
    → feed pages (instruction_tree pages (moving_script byte down left from to fill moved) state) (reply ∷ [])
    ≡ feed pages (instruction_tree pages (moving_script None down (left - 1) (beside down from) (beside down to) fill moved) state) []
unfolding moving_script move_on
written pages state byte b down left from to fill moved reply is = rw is refl

reads : (rest less : ℕ) (pages : Pages) (state : VaxState) (down : Bool) (from to : ℕ) (fill : Fill) (moved : Moved) (reply : ℕ) → less ≡ rest
    → feed pages (instruction_tree pages (moving_script None down (suc rest) from to fill moved) state) (reply ∷ [])
    ≡ feed pages (tree_of pages (write_part to 1 (reply % 256)) state (λ _ s. tree_of pages (move_bytes down less (beside down from) (beside down to)) s (λ _ t. tree_of pages (behind fill moved) t ends_with))) []
unfolding moving_script move_on move_bytes
reads rest less pages state down from to fill moved reply is = rw is refl

pub read : (rest : ℕ) (pages : Pages) (state : VaxState) (byte : Option ℕ) (down : Bool) (left from to : ℕ) (fill : Fill) (moved : Moved) (reply : ℕ) → byte ≡ None → left ≡ suc rest
    → feed pages (instruction_tree pages (moving_script byte down left from to fill moved) state) (reply ∷ [])
    ≡ feed pages (instruction_tree pages (moving_script (Some (reply % 256)) down left from to fill moved) state) []
unfolding moving_script move_on
read rest pages state byte down left from to fill moved reply none is =
    ap (λ b. feed pages (instruction_tree pages (moving_script b down left from to fill moved) state) (reply ∷ [])) none
    ∙ ap (λ n. feed pages (instruction_tree pages (moving_script None down n from to fill moved) state) (reply ∷ [])) is
    ∙ reads rest (left - 1) pages state down from to fill moved reply (omega (arith, is))

pub filled : (rest : ℕ) (pages : Pages) (state : VaxState) (byte : Option ℕ) (down : Bool) (left from to fill_left fill_to fill_byte : ℕ) (moved : Moved) (reply : ℕ)
    → byte ≡ None → left ≡ 0 → fill_left ≡ suc rest
    → feed pages (instruction_tree pages (moving_script byte down left from to (record { left = fill_left; to = fill_to; byte = fill_byte }) moved) state) (reply ∷ [])
    ≡ feed pages (instruction_tree pages (moving_script byte down left from to (record { left = rest; to = beside false fill_to; byte = fill_byte }) moved) state) []
unfolding moving_script move_on move_bytes fill_bytes
filled rest pages state byte down left from to fill_left fill_to fill_byte moved reply none zero is = rw (none, zero, is) refl

pub over : (pages : Pages) (state : VaxState) (byte : Option ℕ) (down : Bool) (left from to fill_left fill_to fill_byte : ℕ) (moved : Moved) (reply : ℕ)
    → byte ≡ None → left ≡ 0 → fill_left ≡ 0
    → feed pages (instruction_tree pages (moving_script byte down left from to (record { left = fill_left; to = fill_to; byte = fill_byte }) moved) state) (reply ∷ [])
    ≡ feed pages (instruction_tree pages (moving_script byte down left from to (record { left = fill_left; to = fill_to; byte = fill_byte }) moved) state) []
unfolding moving_script move_on move_bytes fill_bytes
over pages state byte down left from to fill_left fill_to fill_byte moved reply none zero empty = rw (none, zero, empty) refl

-- ---- the reference that is wanted
pub write_shown : (pages : Pages) (before state : VaxState) (byte : Option ℕ) (b : ℕ) (down : Bool) (left from to : ℕ) (fill : Fill) (moved : Moved) → byte ≡ Some b
    → Shows before (feed pages (instruction_tree pages (moving_script byte down left from to fill moved) state) []) (Want (write_of to b))
unfolding moving_script move_on
write_shown pages before state byte b down left from to fill moved is = rw is (record { head = refl; faults = tt })

pub read_shown : (rest : ℕ) (pages : Pages) (before state : VaxState) (byte : Option ℕ) (down : Bool) (left from to : ℕ) (fill : Fill) (moved : Moved) → byte ≡ None → left ≡ suc rest
    → Shows before (feed pages (instruction_tree pages (moving_script byte down left from to fill moved) state) []) (Want (read_of from))
unfolding moving_script move_on move_bytes
read_shown rest pages before state byte down left from to fill moved none is = rw (none, is) (record { head = refl; faults = tt })

pub fill_shown : (rest : ℕ) (pages : Pages) (before state : VaxState) (byte : Option ℕ) (down : Bool) (left from to fill_left fill_to fill_byte : ℕ) (moved : Moved)
    → byte ≡ None → left ≡ 0 → fill_left ≡ suc rest
    → Shows before (feed pages (instruction_tree pages (moving_script byte down left from to (record { left = fill_left; to = fill_to; byte = fill_byte }) moved) state) []) (Want (write_of fill_to fill_byte))
unfolding moving_script move_on move_bytes fill_bytes
fill_shown rest pages before state byte down left from to fill_left fill_to fill_byte moved none zero is = rw (none, zero, is) (record { head = refl; faults = tt })
