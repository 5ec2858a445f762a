-- One more step of scripts that go through strings.
use Rattle.std.proofs.Common.{◌≡◌, ℕ, suc, ◌==◌, Bool, true, false, refl, sym, ◌∙◌, arith}
use Rattle.std.proofs.lemmas.Grind.{common_steps}
use Rattle.vax_form.specs.Script.{Moment, Script, ◌>>◌, pure, change, run, then_do, when◌then◌else◌}
use Rattle.vax_form.specs.declared.instr.Width.TheVariants.{Byte}
use Rattle.vax_meaning.specs.Memory.{read_part, write_part}
use Rattle.vax_meaning.specs.Moves.{with_comparison}
use Rattle.vax_long.specs.Strings.{beside, move_bytes, fill_bytes, fetch_byte, compare_bytes, stops_at, scan_bytes}

moved : (down : Bool) (rest from to : ℕ) (moment : Moment) → run (move_bytes down (suc rest) from to) moment
    ≡ then_do (run (read_part from 1) moment) (λ byte t. then_do (run (write_part to 1 byte) t) (λ _. run (move_bytes down rest (beside down from) (beside down to))))
unfolding move_bytes
moved down rest from to moment = refl

pub move_step : (down : Bool) (count rest from to : ℕ) (moment : Moment) → count ≡ suc rest → run (move_bytes down count from to) moment
    ≡ then_do (run (read_part from 1) moment) (λ byte t. then_do (run (write_part to 1 byte) t) (λ _. run (move_bytes down rest (beside down from) (beside down to))))
move_step down count rest from to moment is = rw is (moved down rest from to moment)

filled : (rest to byte : ℕ) (moment : Moment) → run (fill_bytes (suc rest) to byte) moment
    ≡ then_do (run (write_part to 1 byte) moment) (λ _. run (fill_bytes rest (beside false to) byte))
unfolding fill_bytes
filled rest to byte moment = refl

pub fill_step : (count rest to byte : ℕ) (moment : Moment) → count ≡ suc rest → run (fill_bytes count to byte) moment
    ≡ then_do (run (write_part to 1 byte) moment) (λ _. run (fill_bytes rest (beside false to) byte))
fill_step count rest to byte moment is = rw is (filled rest to byte moment)

-- what is done with the two bytes that were compared
abbrev pub compared : (one other rest first second : ℕ) → Script ℕ
compared one other rest first second =
    when one == other
    then compare_bytes rest (beside false first) (beside false second)
    else (change (with_comparison Byte one other) >> pure (suc rest))

both : (rest first second : ℕ) (moment : Moment) → run (compare_bytes (suc rest) first second) moment
    ≡ then_do (run (fetch_byte first) moment) (λ one t. then_do (run (fetch_byte second) t) (λ other. run (compared one other rest first second)))
unfolding compare_bytes
both rest first second moment = refl

pub compare_step : (count rest first second : ℕ) (moment : Moment) → count ≡ suc rest → run (compare_bytes count first second) moment
    ≡ then_do (run (fetch_byte first) moment) (λ one t. then_do (run (fetch_byte second) t) (λ other. run (compared one other rest first second)))
compare_step count rest first second moment is = rw is (both rest first second moment)

-- what is done with a byte that was read
abbrev pub looked_at : (locates : Bool) → (character byte rest address : ℕ) → Script ℕ
looked_at locates character byte rest address =
    when stops_at locates character byte
    then pure (suc rest)
    else scan_bytes locates character rest (beside false address)

one : (locates : Bool) (character rest address : ℕ) (moment : Moment) → run (scan_bytes locates character (suc rest) address) moment
    ≡ then_do (run (fetch_byte address) moment) (λ byte. run (looked_at locates character byte rest address))
unfolding scan_bytes
one locates character rest address moment = refl

pub scan_step : (locates : Bool) (character count rest address : ℕ) (moment : Moment) → count ≡ suc rest → run (scan_bytes locates character count address) moment
    ≡ then_do (run (fetch_byte address) moment) (λ byte. run (looked_at locates character byte rest address))
scan_step locates character count rest address moment is = rw is (one locates character rest address moment)

-- equal bytes are passed
same_number : (n : ℕ) → (n == n) ≡ true
same_number n = grind (arith, common_steps)

equal : (one rest first second : ℕ) (moment : Moment) (b : Bool) → b ≡ true
    → run (when b then compare_bytes rest (beside false first) (beside false second) else (change (with_comparison Byte one one) >> pure (suc rest))) moment
    ≡ run (compare_bytes rest (beside false first) (beside false second)) moment
equal one rest first second moment b is = rw is refl

pub compared_equal : (one other rest first second : ℕ) (moment : Moment) → one ≡ other
    → run (compared one other rest first second) moment ≡ run (compare_bytes rest (beside false first) (beside false second)) moment
compared_equal one other rest first second moment same = rw same (equal other rest first second moment (other == other) (same_number other))

-- a byte that does not stop it is passed
pub looked_on : (locates stops : Bool) (character byte rest address : ℕ) (moment : Moment) → stops ≡ stops_at locates character byte → stops ≡ false
    → run (looked_at locates character byte rest address) moment ≡ run (scan_bytes locates character rest (beside false address)) moment
looked_on locates stops character byte rest address moment tells goes = rw (sym tells ∙ goes) refl
