-- A line end ends the line that has begun, and any other byte goes on with it.
use Rattle.std.proofs.Common.{◌≡◌, ◌≤◌, ◌==◌, ℕ, ◌+◌, false, List, ◌∷◌, ◌++◌, [], ◌∙◌, Result, if◌then◌else◌, ap, ap₂, arith, drop, get_or, length, rules, subst, sym}
use Rattle.std.specs.Prelude.{slice_range}
use Rattle.std.proofs.lemmas.List.{at_drop_all, at_drop_more}
use Rattle.std.proofs.lemmas.List.Edits.{between_more}
use Rattle.std.proofs.lemmas.Slice.{between_to_end}
use Rattle.std.proofs.lemmas.Result.{err_from_is_err_and}
use Rattle.vximage_cli.specs.Entries.{IsFault, LINE_FEED, last_line, lines_behind, listed_from}
use Rattle.vximage_cli.proofs.Lines.{begins}
use Rattle.vximage_cli.proofs.entries.entries_listed.Goals as goal
use Rattle.vximage_cli.proofs.entries.entries_listed.Goals.{then-byte-eq-LINE_FEED+in_ok-push_address, else-byte-eq-LINE_FEED}

pub loop-place-preserved : goal.loop-place-preserved
loop-place-preserved c =
    let bytes = c.args.bytes.now in
    let place = c.loop-place.place in
    let begun = c.loop-place.begun in
    let after = c.loop-place.invariant.begun in
    let byte = get_or bytes place 0 in
    let entries = c.loop-place.entries.items in
    let line = slice_range bytes begun place in
    let behind = drop (place + 1) bytes in
    let left : List ℕ → List ℕ → Result (List ℕ) ℕ = λ done started. listed_from done (lines_behind started behind) in
    let before = c.loop-place.invariant.listed ∙ at_drop_more (λ (rest : List ℕ). listed_from entries (lines_behind line rest)) bytes place 0 c.loop-place-test.true in
    elim c.if-byte-eq-LINE_FEED.branch [
      | then-byte-eq-LINE_FEED+in_ok-push_address w ↦ record {
        begun = omega (arith, w.begun-is);
        listed = before ∙ ap (λ b. listed_from entries (lines_behind line (b ∷ behind))) w.if-byte-eq-LINE_FEED.true
            ∙ w.in_ok-push_address.ensures.ok (lines_behind [] behind)
            ∙ ap₂ left (sym (ap (λ v. v.items) w.entries-is)) (sym (begins bytes _ (place + 1) w.begun-is));
      }
      | else-byte-eq-LINE_FEED w ↦ (
          let other : (byte == LINE_FEED) ≡ false = search rules in
          record {
            begun = omega (arith, w.begun-is, after);
            listed = before ∙ ap (λ b. listed_from entries (if b then line ∷ lines_behind [] behind else lines_behind (line ++ byte ∷ []) behind)) other
                ∙ ap₂ left (sym (ap (λ v. v.items) w.entries-is)) (sym (between_more bytes begun place 0 after c.loop-place-test.true) ∙ ap (λ n. slice_range bytes n (place + 1)) (sym w.begun-is));
          })
    ]

pub returns : goal.returns
returns c =
    let bytes = c.args.bytes.now in
    let place = c.loop-place.place in
    let end = c.loop-place-test.false in
    let all : length bytes ≤ length bytes = omega arith in
    c.loop-place.invariant.listed
    ∙ at_drop_all (λ (rest : List ℕ). listed_from c.loop-place.entries.items (lines_behind (slice_range bytes c.loop-place.begun place) rest)) bytes place end
    ∙ ap (λ (started : List ℕ). listed_from c.loop-place.entries.items (last_line started)) (between_to_end bytes c.loop-place.begun place end ∙ sym (between_to_end bytes c.loop-place.begun (length bytes) all))
    ∙ c.in_ok-push_last.ensures.ok

pub returns-in_err-push_address : goal.returns-in_err-push_address
returns-in_err-push_address c =
    let bytes = c.args.bytes.now in
    let place = c.loop-place.place in
    let before = c.loop-place.entries.items in
    let line = slice_range bytes c.loop-place.begun place in
    let behind = drop (place + 1) bytes in
    let so_far = c.loop-place.invariant.listed ∙ at_drop_more (λ (rest : List ℕ). listed_from before (lines_behind line rest)) bytes place 0 c.loop-place-test.true
    ∙ ap (λ b. listed_from before (lines_behind line (b ∷ behind))) c.if-byte-eq-LINE_FEED.true in
    let p = err_from_is_err_and c.from_residual.result c.from_residual.ensures.1 in
    rw (p.1, p.2) (subst (IsFault c.in_err-push_address.field-0.0) (sym so_far) (c.in_err-push_address.ensures.err (lines_behind [] behind)))

pub returns-in_err-push_last : goal.returns-in_err-push_last
returns-in_err-push_last c =
    let bytes = c.args.bytes.now in
    let place = c.loop-place.place in
    let before = c.loop-place.entries.items in
    let end = c.loop-place-test.false in
    let all : length bytes ≤ length bytes = omega arith in
    let so_far = c.loop-place.invariant.listed
    ∙ at_drop_all (λ (rest : List ℕ). listed_from before (lines_behind (slice_range bytes c.loop-place.begun place) rest)) bytes place end
    ∙ ap (λ (started : List ℕ). listed_from before (last_line started)) (between_to_end bytes c.loop-place.begun place end ∙ sym (between_to_end bytes c.loop-place.begun (length bytes) all)) in
    let p = err_from_is_err_and c.from_residual-in_err-push_last.result c.from_residual-in_err-push_last.ensures.1 in
    rw (p.1, p.2) (subst (IsFault c.in_err-push_last.field-0.0) (sym so_far) c.in_err-push_last.ensures.err)
