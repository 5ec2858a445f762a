-- What is left of a search behind a reply.
use Rattle.std.proofs.Common.{◌≡◌, ℕ, zero, suc, ◌<◌, ◌-◌, ◌%◌, ◌==◌, [], ◌∷◌, Bool, true, false, refl, ap, sym, ◌∙◌, subst, arith}
use Rattle.vax_form.specs.Tree.{Tree, feed, instruction_tree}
use Rattle.vax_form.specs.Script.{pure, when◌then◌else◌}
use Rattle.vax_form.specs.declared.pages.Pages.{Pages}
use Rattle.vax_form.specs.declared.state.VaxState.{VaxState}
use Rattle.vax_meaning.specs.Memory.{low_bytes}
use Rattle.vax_long.specs.Strings.{beside, fetch_byte, scan_bytes, stops_at}
use Rattle.tie_operands.specs.Steps.{IsAsking, Shows}
use Rattle.tie_operands.specs.declared.step.TieStep.TheVariants.{Want}
use Rattle.tie_strings.specs.Bytes.{may_be_read, next_byte, read_of}
use Rattle.tie_strings.specs.Scans.{scan_on, scanning_script}
use Rattle.tie_strings.specs.declared.scanning.Scanned.{Scanned}
use Rattle.tie_strings.proofs.Replying.{reading, read_reply, check_made, read_shown}
use Rattle.tie_strings.proofs.Unchecked.{some_left, scanned_by, scanned_from}

abbrev tree : Pages → VaxState → Scanned → (stopped checked : Bool) → (left address : ℕ) → Tree
tree pages state scanned stopped checked left address = instruction_tree pages (scanning_script stopped checked left address scanned) state

-- what is done with the byte that was read
abbrev looked_at : Pages → VaxState → Scanned → (stops : Bool) → (left address : ℕ) → Tree
looked_at pages state scanned stops left address =
    scanned_by pages state scanned (when stops then pure left else scan_bytes scanned.locates scanned.character (left - 1) (beside false address))

scan_of : (checked : Bool) (pages : Pages) (state : VaxState) (scanned : Scanned) (left address : ℕ) → (left == 0) ≡ false
    → tree pages state scanned false checked left address
    ≡ reading checked address (read_of address) (λ r. looked_at pages state scanned (stops_at scanned.locates scanned.character (low_bytes 1 r)) left address)
unfolding scanning_script scan_on next_byte fetch_byte
scan_of true pages state scanned left address some = rw some refl
scan_of false pages state scanned left address some = rw some refl

taken : (pages : Pages) (state : VaxState) (scanned : Scanned) (stopped checked : Bool) (left address reply : ℕ) → stopped ≡ false → 0 < left
    → IsAsking (feed pages (tree pages state scanned stopped checked left address) [])
    → feed pages (tree pages state scanned stopped checked left address) (reply ∷ [])
    ≡ feed pages (looked_at pages state scanned (stops_at scanned.locates scanned.character (low_bytes 1 reply)) left address) []
taken pages state scanned stopped checked left address reply at some asks =
    let whole = ap (λ b. tree pages state scanned b checked left address) at ∙ scan_of checked pages state scanned left address (some_left left some) in
    ap (λ t. feed pages t (reply ∷ [])) whole
    ∙ read_reply checked pages address (read_of address) (λ r. looked_at pages state scanned (stops_at scanned.locates scanned.character (low_bytes 1 r)) left address) reply
    (subst (λ t. IsAsking (feed pages t [])) whole asks)

pub stops : (pages : Pages) (state : VaxState) (scanned : Scanned) (stopped checked : Bool) (left address reply : ℕ) (b : Bool) → stopped ≡ false → 0 < left
    → b ≡ stops_at scanned.locates scanned.character (reply % 256) → b ≡ true
    → IsAsking (feed pages (tree pages state scanned stopped checked left address) [])
    → feed pages (tree pages state scanned stopped checked left address) (reply ∷ []) ≡ feed pages (tree pages state scanned true false left address) []
unfolding scanning_script scan_on
stops pages state scanned stopped checked left address reply b at some tells holds asks =
    taken pages state scanned stopped checked left address reply at some asks
    ∙ ap (λ s. feed pages (looked_at pages state scanned s left address) []) (sym tells ∙ holds)

pub goes_on : (pages : Pages) (state : VaxState) (scanned : Scanned) (stopped checked : Bool) (left address reply : ℕ) (b : Bool) → stopped ≡ false → 0 < left
    → b ≡ stops_at scanned.locates scanned.character (reply % 256) → b ≡ false
    → IsAsking (feed pages (tree pages state scanned stopped checked left address) [])
    → feed pages (tree pages state scanned stopped checked left address) (reply ∷ []) ≡ feed pages (tree pages state scanned stopped false (left - 1) (beside false address)) []
unfolding scanning_script
goes_on pages state scanned stopped checked left address reply b at some tells fails asks =
    taken pages state scanned stopped checked left address reply at some asks
    ∙ ap (λ s. feed pages (looked_at pages state scanned s left address) []) (sym tells ∙ fails)
    ∙ ap (λ t. feed pages t []) (sym (scanned_from pages state scanned (left - 1) (beside false address)))
    ∙ ap (λ s. feed pages (tree pages state scanned s false (left - 1) (beside false address)) []) (sym at)

pub stopped_over : (pages : Pages) (state : VaxState) (scanned : Scanned) (stopped checked : Bool) (left address reply : ℕ) → stopped ≡ true
    → feed pages (tree pages state scanned stopped checked left address) (reply ∷ []) ≡ feed pages (tree pages state scanned stopped checked left address) []
unfolding scanning_script scan_on
stopped_over pages state scanned stopped checked left address reply at = rw at refl

pub none_over : (pages : Pages) (state : VaxState) (scanned : Scanned) (stopped checked : Bool) (left address reply : ℕ) → stopped ≡ false → left ≡ 0
    → feed pages (tree pages state scanned stopped checked left address) (reply ∷ []) ≡ feed pages (tree pages state scanned stopped checked left address) []
unfolding scanning_script scan_on
none_over pages state scanned stopped checked left address reply at is = rw (at, is) refl

noted_on : (pages : Pages) (state : VaxState) (scanned : Scanned) (checked : Bool) (left address : ℕ) → 0 < left
    → IsAsking (feed pages (tree pages state scanned false checked left address) [])
    → feed pages (tree pages state scanned false true left address) [] ≡ feed pages (tree pages state scanned false checked left address) []
noted_on pages state scanned checked left address some asks =
    let on : ℕ → Tree = λ r. looked_at pages state scanned (stops_at scanned.locates scanned.character (low_bytes 1 r)) left address in
    let now = scan_of checked pages state scanned left address (some_left left some) in
    ap (λ t. feed pages t []) (scan_of true pages state scanned left address (some_left left some))
    ∙ check_made checked pages address (read_of address) on (subst (λ t. IsAsking (feed pages t [])) now asks)
    ∙ ap (λ t. feed pages t []) (sym now)

-- once the next byte is wanted, its check was made
pub noted : (pages : Pages) (state : VaxState) (scanned : Scanned) (stopped checked : Bool) (left address : ℕ)
    → IsAsking (feed pages (tree pages state scanned stopped checked left address) [])
    → feed pages (tree pages state scanned stopped true left address) [] ≡ feed pages (tree pages state scanned stopped checked left address) []
unfolding scanning_script scan_on
noted pages state scanned true checked left address asks = refl
noted pages state scanned false checked zero address asks = refl
noted pages state scanned false checked (suc rest) address asks = noted_on pages state scanned checked (suc rest) address (omega arith) asks

pub byte_shown : (pages : Pages) (before state : VaxState) (scanned : Scanned) (stopped checked : Bool) (left address : ℕ) → stopped ≡ false → 0 < left → may_be_read checked pages address ≡ true
    → Shows before (feed pages (tree pages state scanned stopped checked left address) []) (Want (read_of address))
byte_shown pages before state scanned stopped checked left address at some may =
    let whole = ap (λ b. tree pages state scanned b checked left address) at ∙ scan_of checked pages state scanned left address (some_left left some) in
    let on : ℕ → Tree = λ r. looked_at pages state scanned (stops_at scanned.locates scanned.character (low_bytes 1 r)) left address in
    subst (λ t. Shows before (feed pages t []) (Want (read_of address))) (sym whole) (read_shown before checked pages address (read_of address) on may)
