-- A line end ends the line that has begun, and any other byte goes on with it.
use Rattle.std.proofs.Common.{◌≡◌, ◌≤◌, ◌==◌, ℕ, ◌+◌, false, List, ◌∷◌, ◌++◌, [], ◌∙◌, Result, if◌then◌else◌, ap, ap₂, arith, drop, get_or, length, map, rules, subst, sym}
use Rattle.std.specs.Prelude.{slice_range}
use Rattle.std.proofs.lemmas.List.{at_drop_all, at_drop_more}
use Rattle.std.proofs.lemmas.List.Edits.{between_more}
use Rattle.std.proofs.lemmas.Slice.{between_to_end}
use Rattle.std.proofs.lemmas.Result.{err_from_is_err_and}
use Rattle.dis_text.specs.Labels.{NameValue}
use Rattle.dis_text.specs.Made.{name_value}
use Rattle.vximage_cli.specs.Entries.{LINE_FEED, last_line, lines_behind}
use Rattle.vximage_cli.specs.Names.{IsBadLine, named_from}
use Rattle.vximage_cli.proofs.Lines.{begins}
use Rattle.vximage_cli.proofs.names.names_listed.Goals as goal
use Rattle.vximage_cli.proofs.names.names_listed.Goals.{then-byte-eq-LINE_FEED+in_ok-push_name, else-byte-eq-LINE_FEED}

pub loop-place-preserved : goal.loop-place-preserved
loop-place-preserved c =
    let bytes = c.args.bytes.now in
    let place = c.loop-place.place in
    let begun = c.loop-place.begun in
    let after = c.loop-place.invariant.begun in
    let byte = get_or bytes place 0 in
    let names = map name_value c.loop-place.names.items in
    let line = slice_range bytes begun place in
    let behind = drop (place + 1) bytes in
    let left : List NameValue → List ℕ → Result (List NameValue) ℕ = λ done started. named_from done (lines_behind started behind) in
    let before = c.loop-place.invariant.named ∙ at_drop_more (λ (rest : List ℕ). named_from names (lines_behind line rest)) bytes place 0 c.loop-place-test.true in
    elim c.if-byte-eq-LINE_FEED.branch [
      | then-byte-eq-LINE_FEED+in_ok-push_name w ↦ record {
        begun = omega (arith, w.begun-is);
        named = before ∙ ap (λ b. named_from names (lines_behind line (b ∷ behind))) w.if-byte-eq-LINE_FEED.true
            ∙ w.in_ok-push_name.ensures.ok (lines_behind [] behind)
            ∙ ap₂ left (sym (ap (λ v. map name_value v.items) w.names-is)) (sym (begins bytes _ (place + 1) w.begun-is));
      }
      | else-byte-eq-LINE_FEED w ↦ (
          let other : (byte == LINE_FEED) ≡ false = search rules in
          record {
            begun = omega (arith, w.begun-is, after);
            named = before ∙ ap (λ b. named_from names (if b then line ∷ lines_behind [] behind else lines_behind (line ++ byte ∷ []) behind)) other
                ∙ ap₂ left (sym (ap (λ v. map name_value v.items) w.names-is)) (sym (between_more bytes begun place 0 after c.loop-place-test.true) ∙ ap (λ n. slice_range bytes n (place + 1)) (sym w.begun-is));
          })
    ]

pub returns-clause-ok : goal.returns-clause-ok
returns-clause-ok c =
    let bytes = c.args.bytes.now in
    let place = c.loop-place.place in
    let end = c.loop-place-test.false in
    let all : length bytes ≤ length bytes = omega arith in
    c.loop-place.invariant.named
    ∙ at_drop_all (λ (rest : List ℕ). named_from (map name_value c.loop-place.names.items) (lines_behind (slice_range bytes c.loop-place.begun place) rest)) bytes place end
    ∙ ap (λ (started : List ℕ). named_from (map name_value c.loop-place.names.items) (last_line started)) (between_to_end bytes c.loop-place.begun place end ∙ sym (between_to_end bytes c.loop-place.begun (length bytes) all))
    ∙ c.in_ok-push_last.ensures.ok

pub returns-in_err-push_name-clause-err : goal.returns-in_err-push_name-clause-err
returns-in_err-push_name-clause-err c =
    let bytes = c.args.bytes.now in
    let place = c.loop-place.place in
    let before = map name_value c.loop-place.names.items in
    let line = slice_range bytes c.loop-place.begun place in
    let behind = drop (place + 1) bytes in
    let so_far = c.loop-place.invariant.named ∙ at_drop_more (λ (rest : List ℕ). named_from before (lines_behind line rest)) bytes place 0 c.loop-place-test.true
    ∙ ap (λ b. named_from before (lines_behind line (b ∷ behind))) c.if-byte-eq-LINE_FEED.true in
    let p = err_from_is_err_and c.from_residual.result c.from_residual.ensures.1 in
    rw (p.1, p.2) (subst (IsBadLine c.in_err-push_name.field-0.0) (sym so_far) (c.in_err-push_name.ensures.err (lines_behind [] behind)))

pub returns-in_err-push_last-clause-err : goal.returns-in_err-push_last-clause-err
returns-in_err-push_last-clause-err c =
    let bytes = c.args.bytes.now in
    let place = c.loop-place.place in
    let before = map name_value c.loop-place.names.items in
    let end = c.loop-place-test.false in
    let all : length bytes ≤ length bytes = omega arith in
    let so_far = c.loop-place.invariant.named
    ∙ at_drop_all (λ (rest : List ℕ). named_from before (lines_behind (slice_range bytes c.loop-place.begun place) rest)) bytes place end
    ∙ ap (λ (started : List ℕ). named_from before (last_line started)) (between_to_end bytes c.loop-place.begun place end ∙ sym (between_to_end bytes c.loop-place.begun (length bytes) all)) in
    let p = err_from_is_err_and c.from_residual-in_err-push_last.result c.from_residual-in_err-push_last.ensures.1 in
    rw (p.1, p.2) (subst (IsBadLine c.in_err-push_last.field-0.0) (sym so_far) c.in_err-push_last.ensures.err)
