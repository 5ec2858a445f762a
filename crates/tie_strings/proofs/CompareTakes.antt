-- What is left of a comparison behind a reply.
use Rattle.std.proofs.Common.{◌≡◌, ℕ, zero, suc, ◌<◌, ◌-◌, ◌%◌, ◌==◌, [], ◌∷◌, Bool, true, false, refl, ap, sym, ◌∙◌, arith, subst}
use Rattle.vax_form.specs.Tree.{Tree, feed, tree_of, ends_with, instruction_tree}
use Rattle.vax_form.specs.Script.{◌>>◌, change, pure, when◌then◌else◌}
use Rattle.vax_form.specs.declared.instr.Width.TheVariants.{Byte}
use Rattle.vax_form.specs.declared.pages.Pages.{Pages}
use Rattle.vax_form.specs.declared.state.VaxState.{VaxState}
use Rattle.vax_meaning.specs.Memory.{low_bytes}
use Rattle.vax_meaning.specs.Moves.{with_comparison}
use Rattle.vax_long.specs.Strings.{beside, fetch_byte, compare_bytes}
use Rattle.tie_operands.specs.Steps.{IsAsking, Shows}
use Rattle.tie_operands.specs.declared.step.TieStep.TheVariants.{Want}
use Rattle.tie_strings.specs.Bytes.{may_be_read, next_byte, read_of}
use Rattle.tie_strings.specs.Compares.{compare_second, compare_on, comparing_end, comparing_script}
use Rattle.tie_strings.specs.declared.comparing.Pair.{Pair}
use Rattle.tie_strings.specs.declared.comparing.Pair.TheVariants.{First, Second, Differs}
use Rattle.tie_strings.specs.declared.comparing.Compared.{Compared}
use Rattle.tie_strings.proofs.Replying.{reading, read_reply, check_made, read_shown}
use Rattle.tie_strings.proofs.Unchecked.{some_left, compared_by, compared_from}

abbrev tree : Pages → VaxState → Compared → (checked : Bool) → Pair → (left first second : ℕ) → Tree
tree pages state compared checked pair left first second = instruction_tree pages (comparing_script checked pair left first second compared) state

-- what comes behind the comparison
abbrev ending : Pages → Compared → (left : ℕ) → VaxState → Tree
ending pages compared left after = tree_of pages (comparing_end compared left) after ends_with

-- the first byte is read, and then the second one
abbrev second_read : Pages → VaxState → Compared → (left first second one : ℕ) → Tree
second_read pages state compared left first second one = tree_of pages (compare_second false one (left - 1) left first second) state (ending pages compared)

first_of : (checked : Bool) (pages : Pages) (state : VaxState) (compared : Compared) (left first second : ℕ) → (left == 0) ≡ false
    → tree pages state compared checked First left first second
    ≡ reading checked first (read_of first) (λ r. second_read pages state compared left first second (low_bytes 1 r))
unfolding comparing_script compare_on next_byte fetch_byte
first_of true pages state compared left first second some = rw some refl
first_of false pages state compared left first second some = rw some refl

pub first_taken : (pages : Pages) (state : VaxState) (compared : Compared) (checked : Bool) (pair : Pair) (left first second reply : ℕ) → pair ≡ First → 0 < left
    → IsAsking (feed pages (tree pages state compared checked pair left first second) [])
    → feed pages (tree pages state compared checked pair left first second) (reply ∷ []) ≡ feed pages (tree pages state compared false (Second (reply % 256)) left first second) []
unfolding comparing_script compare_on
first_taken pages state compared checked pair left first second reply at some asks =
    let whole = ap (λ p. tree pages state compared checked p left first second) at ∙ first_of checked pages state compared left first second (some_left left some) in
    ap (λ t. feed pages t (reply ∷ [])) whole
    ∙ read_reply checked pages first (read_of first) (λ r. second_read pages state compared left first second (low_bytes 1 r)) reply
    (subst (λ t. IsAsking (feed pages t [])) whole asks)

pub first_over : (pages : Pages) (state : VaxState) (compared : Compared) (checked : Bool) (pair : Pair) (left first second reply : ℕ) → pair ≡ First → left ≡ 0
    → feed pages (tree pages state compared checked pair left first second) (reply ∷ []) ≡ feed pages (tree pages state compared checked pair left first second) []
unfolding comparing_script compare_on
first_over pages state compared checked pair left first second reply at is = rw (at, is) refl

pub differs_over : (one other : ℕ) (pages : Pages) (state : VaxState) (compared : Compared) (checked : Bool) (pair : Pair) (left first second reply : ℕ) → pair ≡ Differs one other
    → feed pages (tree pages state compared checked pair left first second) (reply ∷ []) ≡ feed pages (tree pages state compared checked pair left first second) []
unfolding comparing_script compare_on
differs_over one other pages state compared checked pair left first second reply at = rw at refl

-- what is done with the two bytes
abbrev looked_at : Pages → VaxState → Compared → (same : Bool) → (one other left first second : ℕ) → Tree
looked_at pages state compared same one other left first second = compared_by pages state compared
    (when same
    then compare_bytes (left - 1) (beside false first) (beside false second)
    else (do
      change (with_comparison Byte one other)
      pure left))

second_of : (checked : Bool) (pages : Pages) (state : VaxState) (compared : Compared) (one left first second : ℕ)
    → tree pages state compared checked (Second one) left first second
    ≡ reading checked second (read_of second) (λ r. looked_at pages state compared (one == low_bytes 1 r) one (low_bytes 1 r) left first second)
unfolding comparing_script compare_on next_byte fetch_byte
second_of true pages state compared one left first second = refl
second_of false pages state compared one left first second = refl

second_taken : (pages : Pages) (state : VaxState) (compared : Compared) (checked : Bool) (pair : Pair) (one left first second reply : ℕ) → pair ≡ Second one
    → IsAsking (feed pages (tree pages state compared checked pair left first second) [])
    → feed pages (tree pages state compared checked pair left first second) (reply ∷ [])
    ≡ feed pages (looked_at pages state compared (one == low_bytes 1 reply) one (low_bytes 1 reply) left first second) []
second_taken pages state compared checked pair one left first second reply at asks =
    let whole = ap (λ p. tree pages state compared checked p left first second) at ∙ second_of checked pages state compared one left first second in
    ap (λ t. feed pages t (reply ∷ [])) whole
    ∙ read_reply checked pages second (read_of second) (λ r. looked_at pages state compared (one == low_bytes 1 r) one (low_bytes 1 r) left first second) reply
    (subst (λ t. IsAsking (feed pages t [])) whole asks)

pub second_same : (pages : Pages) (state : VaxState) (compared : Compared) (checked : Bool) (pair : Pair) (one left first second reply : ℕ) (same : Bool) → pair ≡ Second one
    → same ≡ (one == reply % 256) → same ≡ true
    → IsAsking (feed pages (tree pages state compared checked pair left first second) [])
    → feed pages (tree pages state compared checked pair left first second) (reply ∷ [])
    ≡ feed pages (tree pages state compared false First (left - 1) (beside false first) (beside false second)) []
unfolding comparing_script
second_same pages state compared checked pair one left first second reply same at tells is asks =
    second_taken pages state compared checked pair one left first second reply at asks
    ∙ ap (λ b. feed pages (looked_at pages state compared b one (low_bytes 1 reply) left first second) []) (sym tells ∙ is)
    ∙ ap (λ t. feed pages t []) (sym (compared_from pages state compared (left - 1) (beside false first) (beside false second)))

pub second_differs : (pages : Pages) (state : VaxState) (compared : Compared) (checked : Bool) (pair : Pair) (one left first second reply : ℕ) (same : Bool) → pair ≡ Second one
    → same ≡ (one == reply % 256) → same ≡ false
    → IsAsking (feed pages (tree pages state compared checked pair left first second) [])
    → feed pages (tree pages state compared checked pair left first second) (reply ∷ [])
    ≡ feed pages (tree pages state compared false (Differs one (reply % 256)) left first second) []
unfolding comparing_script compare_on
second_differs pages state compared checked pair one left first second reply same at tells is asks =
    second_taken pages state compared checked pair one left first second reply at asks
    ∙ ap (λ b. feed pages (looked_at pages state compared b one (low_bytes 1 reply) left first second) []) (sym tells ∙ is)

first_noted : (pages : Pages) (state : VaxState) (compared : Compared) (checked : Bool) (left first second : ℕ) → 0 < left
    → IsAsking (feed pages (tree pages state compared checked First left first second) [])
    → feed pages (tree pages state compared true First left first second) [] ≡ feed pages (tree pages state compared checked First left first second) []
first_noted pages state compared checked left first second some asks =
    let on : ℕ → Tree = λ r. second_read pages state compared left first second (low_bytes 1 r) in
    let now = first_of checked pages state compared left first second (some_left left some) in
    ap (λ t. feed pages t []) (first_of true pages state compared left first second (some_left left some))
    ∙ check_made checked pages first (read_of first) on (subst (λ t. IsAsking (feed pages t [])) now asks)
    ∙ ap (λ t. feed pages t []) (sym now)

second_noted : (pages : Pages) (state : VaxState) (compared : Compared) (checked : Bool) (one left first second : ℕ)
    → IsAsking (feed pages (tree pages state compared checked (Second one) left first second) [])
    → feed pages (tree pages state compared true (Second one) left first second) [] ≡ feed pages (tree pages state compared checked (Second one) left first second) []
second_noted pages state compared checked one left first second asks =
    let on : ℕ → Tree = λ r. looked_at pages state compared (one == low_bytes 1 r) one (low_bytes 1 r) left first second in
    ap (λ t. feed pages t []) (second_of true pages state compared one left first second)
    ∙ check_made checked pages second (read_of second) on (subst (λ t. IsAsking (feed pages t [])) (second_of checked pages state compared one left first second) asks)
    ∙ ap (λ t. feed pages t []) (sym (second_of checked pages state compared one left first second))

-- once the next byte is wanted, its check was made
pub noted : (pages : Pages) (state : VaxState) (compared : Compared) (checked : Bool) (pair : Pair) (left first second : ℕ)
    → IsAsking (feed pages (tree pages state compared checked pair left first second) [])
    → feed pages (tree pages state compared true pair left first second) [] ≡ feed pages (tree pages state compared checked pair left first second) []
unfolding comparing_script compare_on
noted pages state compared checked First zero first second asks = refl
noted pages state compared checked First (suc rest) first second asks = first_noted pages state compared checked (suc rest) first second (omega arith) asks
noted pages state compared checked (Second one) left first second asks = second_noted pages state compared checked one left first second asks
noted pages state compared checked (Differs one other) left first second asks = refl

-- ---- the reference that is wanted
pub first_shown : (pages : Pages) (before state : VaxState) (compared : Compared) (checked : Bool) (pair : Pair) (left first second : ℕ) → pair ≡ First → 0 < left
    → may_be_read checked pages first ≡ true → Shows before (feed pages (tree pages state compared checked pair left first second) []) (Want (read_of first))
first_shown pages before state compared checked pair left first second at some may =
    let whole = ap (λ p. tree pages state compared checked p left first second) at ∙ first_of checked pages state compared left first second (some_left left some) in
    let on : ℕ → Tree = λ r. second_read pages state compared left first second (low_bytes 1 r) in
    subst (λ t. Shows before (feed pages t []) (Want (read_of first))) (sym whole) (read_shown before checked pages first (read_of first) on may)

pub second_shown : (pages : Pages) (before state : VaxState) (compared : Compared) (checked : Bool) (pair : Pair) (one left first second : ℕ) → pair ≡ Second one
    → may_be_read checked pages second ≡ true → Shows before (feed pages (tree pages state compared checked pair left first second) []) (Want (read_of second))
second_shown pages before state compared checked pair one left first second at may =
    let whole = ap (λ p. tree pages state compared checked p left first second) at ∙ second_of checked pages state compared one left first second in
    let on : ℕ → Tree = λ r. looked_at pages state compared (one == low_bytes 1 r) one (low_bytes 1 r) left first second in
    subst (λ t. Shows before (feed pages t []) (Want (read_of second))) (sym whole) (read_shown before checked pages second (read_of second) on may)
