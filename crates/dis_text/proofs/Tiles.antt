-- Lists of pieces that go on from one address to another.
use Rattle.std.proofs.Common.{◌≡◌, ◌≤◌, ◌<◌, ◌+◌, ◌-◌, ◌*◌, ◌/◌, ℕ, zero, suc, Bool, true, false, cond, eqb, List, [], ◌∷◌, ◌++◌, Some, None, refl, sym, ap, ◌∙◌, subst, arith, ⊎_elim}
use Rattle.std.specs.Prelude.{max, min, map}
use Rattle.std.specs.List.{range_with_len}
use Rattle.std.proofs.lemmas.Bool.{cases_lt, le-ltb, lt-ltb}
use Rattle.vax_form.specs.declared.instr.Instr.{Instr}
use Rattle.vax_form.specs.declared.pages.Pages.{Pages}
use Rattle.dis_text.specs.Bytes.{count_of}
use Rattle.dis_text.specs.Pieces.{Covered, Piece, byte_lines, bytes, covered_by, end_of_instr, gap, inside, instruction, lines_from, pieces, table_word, table_words, unread, words_behind, zero_line, zeros}
use Rattle.dis_text.specs.Whole.{AllBegin, Begins, IsWhole, end_of, last_end}

record Tiles (from : ℕ) (ps : List Piece) (to : ℕ) : Type 0 where
  begin : AllBegin from ps
  last : last_end from ps ≡ to

none_tile : (from to : ℕ) → from ≡ to → Tiles from [] to
unfolding AllBegin last_end
none_tile from to e = record { begin = tt; last = e }

in_front : (from to : ℕ) (p : Piece) (ps : List Piece) → Begins from p → Tiles (max from (end_of p)) ps to → Tiles from (p ∷ ps) to
unfolding AllBegin last_end
in_front from to p ps b t = record { begin = (b, t.begin); last = t.last }

one_tile : (from to : ℕ) (p : Piece) → Begins from p → max from (end_of p) ≡ to → Tiles from (p ∷ []) to
one_tile from to p b e = in_front from to p [] b (none_tile (max from (end_of p)) to e)

both_tile : (from middle to : ℕ) (ps qs : List Piece) → Tiles from ps middle → Tiles middle qs to → Tiles from (ps ++ qs) to
unfolding AllBegin last_end
both_tile from middle to [] qs s t = subst (λ n. Tiles n qs to) (sym s.last) t
both_tile from middle to (p ∷ ps) qs s t =
    in_front from to p (ps ++ qs) s.begin.0
    (both_tile (max from (end_of p)) middle to ps qs (record { begin = s.begin.1; last = s.last }) t)

-- ---- bytes that are no code

lines_tile : (n at end : ℕ) → n ≡ (end - at + 7) / 8 → Tiles at (lines_from n at end) (max at end)
unfolding lines_from
lines_tile zero at end e = none_tile at (max at end) (omega arith)
lines_tile (suc n) at end e = in_front at (max at end) (bytes at (min 8 (end - at))) (lines_from n (at + 8) end) refl
    (⊎_elim
    (λ short.
    let none : 0 ≡ n = omega arith in
    subst (λ k. Tiles (max at (at + min 8 (end - at))) (lines_from k (at + 8) end) (max at end)) none (none_tile _ _ (omega arith)))
    (λ long.
    let next : at + 8 ≡ max at (at + min 8 (end - at)) = omega arith in
    let last : max (at + 8) end ≡ max at end = omega arith in
    subst (λ k. Tiles k (lines_from n (at + 8) end) (max at end)) next
    (subst (Tiles (at + 8) (lines_from n (at + 8) end)) last (lines_tile n (at + 8) end (omega arith))))
    (cases_lt (end - at) 8))

some_zeros : (from at end : ℕ) → from ≡ at → at < end → Tiles from (zero_line at end) end
some_zeros from at end e h = subst (λ b. Tiles from (cond b (zeros at (end - at) ∷ []) []) end) (sym (lt-ltb at end h))
    (one_tile from end (zeros at (end - at)) (sym e) (omega arith))

no_zeros : (from at end : ℕ) → end ≤ at → Tiles from (zero_line at end) from
no_zeros from at end h = subst (λ b. Tiles from (cond b (zeros at (end - at) ∷ []) []) from) (sym (le-ltb at end h)) (none_tile from from refl)

unread_tile : (stored at end : ℕ) → Tiles at (unread stored at end) (max at end)
unfolding unread
unread_tile stored at end =
    let middle = max at (min end stored) in
    both_tile at middle (max at end) (byte_lines at (min end stored)) (zero_line (max at stored) end)
    (lines_tile ((min end stored - at + 7) / 8) at (min end stored) refl)
    (⊎_elim
    (λ more.
    let to : end ≡ max at end = omega arith in
    subst (Tiles middle (zero_line (max at stored) end)) to (some_zeros middle (max at stored) end (omega arith) more))
    (λ none.
    let to : middle ≡ max at end = omega arith in
    subst (Tiles middle (zero_line (max at stored) end)) to (no_zeros middle (max at stored) end none))
    (cases_lt (max at stored) end))

words_tile : (pages : Pages) (at k n : ℕ) → Tiles (at + 2 * k) (map (table_word pages at) (range_with_len k n)) (at + 2 * k + 2 * n)
words_tile pages at k zero = none_tile (at + 2 * k) (at + 2 * k + 2 * 0) (omega arith)
words_tile pages at k (suc n) =
    in_front (at + 2 * k) (at + 2 * k + 2 * suc n) (table_word pages at k) (map (table_word pages at) (range_with_len (k + 1) n)) refl
    (let next : at + 2 * (k + 1) ≡ max (at + 2 * k) (at + 2 * k + 2) = omega arith in
    let last : at + 2 * (k + 1) + 2 * n ≡ at + 2 * k + 2 * suc n = omega arith in
    subst (λ f. Tiles f (map (table_word pages at) (range_with_len (k + 1) n)) (at + 2 * k + 2 * suc n)) next
    (subst (Tiles (at + 2 * (k + 1)) (map (table_word pages at) (range_with_len (k + 1) n))) last (words_tile pages at (k + 1) n)))

-- the table, and what is no code behind it
gap_tile : (pages : Pages) (stored : ℕ) (c : Covered) (to : ℕ) → Tiles c.end (gap pages stored c to) (max c.end to)
unfolding gap
gap_tile pages stored c to =
    let n = table_words c to in
    let begin : c.end + 2 * 0 ≡ c.end = omega arith in
    let middle : c.end + 2 * 0 + 2 * n ≡ c.end + 2 * n = omega arith in
    let last : max (c.end + 2 * n) to ≡ max c.end to = omega arith in
    both_tile c.end (c.end + 2 * n) (max c.end to) (map (table_word pages c.end) (range_with_len 0 n)) (unread stored (c.end + 2 * n) to)
    (subst (λ f. Tiles f (map (table_word pages c.end) (range_with_len 0 n)) (c.end + 2 * n)) begin
    (subst (Tiles (c.end + 2 * 0) (map (table_word pages c.end) (range_with_len 0 n))) middle (words_tile pages c.end 0 n)))
    (subst (Tiles (c.end + 2 * n) (unread stored (c.end + 2 * n) to)) last (unread_tile stored (c.end + 2 * n) to))

-- ---- an instruction

inside_tile : (c : Covered) (instr : Instr) → Tiles (max c.end instr.at) (instruction instr (inside c instr) ∷ []) (max c.end (instr.at + count_of instr))
inside_tile c instr = ⊎_elim
    (λ h. subst (λ b. Tiles from (instruction instr (cond b (Some c.by) None) ∷ []) to) (sym (lt-ltb instr.at c.end h))
    (one_tile from to (instruction instr (Some c.by)) (omega arith) (omega arith)))
    (λ h. subst (λ b. Tiles from (instruction instr (cond b (Some c.by) None) ∷ []) to) (sym (le-ltb instr.at c.end h))
    (one_tile from to (instruction instr None) (omega arith) (omega arith)))
    (cases_lt instr.at c.end)
  where
    from : ℕ
    from = max c.end instr.at

    to : ℕ
    to = max c.end (instr.at + count_of instr)

covered_end : (instr : Instr) (c : Covered) → (covered_by instr c).end ≡ max c.end (instr.at + count_of instr)
covered_end instr c = ⊎_elim
    (λ h. ap (λ b. (cond b longer other).end) (lt-ltb c.end (end_of_instr instr) h) ∙ omega arith)
    (λ h. ap (λ b. (cond b longer other).end) (le-ltb c.end (end_of_instr instr) h) ∙ same (eqb (end_of_instr instr) c.end) ∙ omega arith)
    (cases_lt c.end (end_of_instr instr))
  where
    longer : Covered
    longer = record { end = end_of_instr instr; by = instr.at; words = words_behind instr }

    both : Bool → Covered
    both b = cond b (record c { words = max c.words (words_behind instr) }) c

    other : Covered
    other = both (eqb (end_of_instr instr) c.end)

    same : (b : Bool) → (both b).end ≡ c.end
    same true = refl
    same false = refl

-- ---- a section

record Reaches (from : ℕ) (ps : List Piece) (end : ℕ) : Type 0 where
  to : ℕ
  tiles : Tiles from ps to
  far : end ≤ to

pieces_reach : (pages : Pages) (stored end : ℕ) (c : Covered) (instrs : List Instr) → Reaches c.end (pieces pages stored end c instrs) end
unfolding pieces
pieces_reach pages stored end c [] = record { to = max c.end end; tiles = gap_tile pages stored c end; far = omega arith }
pieces_reach pages stored end c (instr ∷ instrs) =
    let covered = covered_by instr c in
    let more = pieces_reach pages stored end covered instrs in
    let first = max c.end instr.at in
    let one = instruction instr (inside c instr) in
    let rest = pieces pages stored end covered instrs in
    let here : Tiles first (one ∷ []) covered.end = subst (Tiles first (one ∷ [])) (sym (covered_end instr c)) (inside_tile c instr) in
    record {
      to = more.to;
      tiles = both_tile c.end first more.to (gap pages stored c instr.at) (one ∷ rest) (gap_tile pages stored c instr.at)
          (both_tile first covered.end more.to (one ∷ []) rest here more.tiles);
      far = more.far;
    }

pub whole : IsWhole
whole pages stored end c instrs =
    let r = pieces_reach pages stored end c instrs in
    (r.tiles.begin, subst (λ n. end ≤ n) (sym r.tiles.last) r.far)
