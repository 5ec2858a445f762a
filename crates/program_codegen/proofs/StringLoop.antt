-- The loop that moves the bytes of a string follows its tree, in either direction.
use Rattle.std.proofs.Common.{◌≡◌, ℕ, zero, suc, ◌+◌, ◌-◌, ◌*◌, ◌%◌, ◌^◌, ◌<◌, ◌≤◌, refl, sym, ap, ◌∙◌, subst, arith, List, [], ◌∷◌, ◌++◌, length, map, Option, Some, None, Bool, true, false, lit<, lit≤}
use Rattle.std.specs.Prelude.{◌==◌, ◌&&◌, not, nat_lt, nat_le, negsuc}
use Rattle.std.proofs.lemmas.Bool.Decides.{nat_tests}
use Rattle.vt_words.specs.Quad.{with_field_of, one as c1}
use Rattle.vax_form.specs.PageTable.{IsPageTable}
use Rattle.vax_form.specs.Pages.{is_allowed}
use Rattle.vax_form.specs.Parts.{parts}
use Rattle.vax_form.specs.Tree.{Tree, Ask}
use Rattle.vax_form.specs.declared.state.RefKind.TheVariants.{Read, Write}
use Rattle.vax_long.specs.Strings.{beside}
use Rattle.alpha_encode.specs.declared.instr.AlphaInstr.{AlphaInstr}
use Rattle.alpha_encode.specs.declared.instr.AlphaInstr.TheVariants.{Branch, Operate}
use Rattle.alpha_encode.specs.declared.instr.BranchOp.TheVariants.{Bne}
use Rattle.alpha_encode.specs.declared.instr.OperateOp.TheVariants.{Addq, Subq}
use Rattle.alpha_encode.specs.declared.instr.Second.TheVariants.{Register, Literal}
use Rattle.alpha_meaning.specs.State.{Regs, put, at_place}
use Rattle.alpha_meaning.specs.Act.{Goes, act, target_of}
use Rattle.alpha_meaning.specs.Loops.{effects}
use Rattle.alpha_meaning.specs.Pieces.{Only}
use Rattle.byte_sequences.specs.Instructions.{is_scratch, is_scratch_or}
use Rattle.byte_sequences.specs.Plans.{read_plan, write_plan}
use Rattle.byte_sequences.specs.Promises as sequences
use Rattle.block_law.specs.Laws.{MoreKinds}
use Rattle.block_law.specs.Placements.{Placement}
use Rattle.block_law.specs.Rounds.{block_steps, Round, new_round}
use Rattle.block_law.proofs.Blocks.{Begins, piece_terms}
use Rattle.block_law.proofs.Rules.{Always, comes_back, operates, passes, roomy, runs}
use Rattle.program_codegen.specs.declared.lines.Line.{Line}
use Rattle.program_codegen.specs.declared.points.Site.{Site}
use Rattle.program_codegen.specs.Accesses.{needed}
use Rattle.program_codegen.specs.Words.{plain, read_by, write_by}
use Rattle.program_codegen.specs.Strings.{turn_words}
use Rattle.program_codegen.proofs.Operands.{in_space, may_read, may_write}
use Rattle.program_codegen.proofs.Stores.{Each, loads_of, loaded_of, read_kinds, reads_by, stores_of, stored_of, write_kinds, writes_by}
use Rattle.program_codegen.proofs.StringPages.{Walk, first_fits, next_address, stride, usable_byte}
use Rattle.program_codegen.proofs.Walk.{Within, is_inside, row_length, row_rest, row_words, stands}

-- ---- the tree
-- so many bytes from these addresses on, each read and then written
abbrev pub moving : (down : Bool) → (count from to : ℕ) → Tree → Tree
moving down zero from to end = end
moving down (suc count) from to end =
    Ask (record { address = from; count = 1; kind = Read })
    (λ reply. Ask (record { address = to; count = 1; kind = Write (reply % 2 ^ 8 % 2 ^ 8) }) (λ done. moving down count (beside down from) (beside down to) end))

-- ---- registers
-- R21 to R28 are the loop's
abbrev pub is_moving : (register : ℕ) → Bool
is_moving register = nat_le 21 register && nat_lt register 29

scratch_moves : (n : ℕ) → is_moving n ≡ false → is_scratch n ≡ false
scratch_moves n e = grind (arith, nat_tests, e)

scratch_or_moves : (n : ℕ) → is_moving n ≡ false → is_scratch_or 24 n ≡ false
scratch_or_moves n e = grind (arith, nat_tests, e)

pub moving_put : (f : Regs) (r v : ℕ) → is_moving r ≡ true → Only is_moving f (put f r v)
moving_put f r v moves n out = let other : (n == r) ≡ false = grind (arith, nat_tests, moves, out) in let real : (r == 31) ≡ false = grind (arith, nat_tests, moves) in rw (real, other) refl

-- ---- words
-- behind a byte both addresses go on, and a byte less is left
abbrev pub going_on : List AlphaInstr
going_on = Operate Addq 22 (Register 28) 22 ∷ Operate Addq 23 (Register 28) 23 ∷ Operate Subq 21 (Literal 1) 21 ∷ []

abbrev pub back_line : (byte_word : Bool) → Line
back_line byte_word = plain (Branch Bne 21 (negsuc (length (turn_words byte_word))))

abbrev pub loop_lines : (byte_word : Bool) → List Line → List Line
loop_lines byte_word rest =
    map plain (read_by byte_word 22 1 24) ++ (map plain (write_by byte_word 23 1 24) ++ (map plain going_on ++ (back_line byte_word ∷ rest)))

pub turn_count : (byte_word : Bool) → length (turn_words byte_word) ≡ length (read_by byte_word 22 1 24) + (length (write_by byte_word 23 1 24) + 3)
turn_count false = refl
turn_count true = refl

pub few_words : (byte_word : Bool) → length (turn_words byte_word) ≤ 12
few_words false = lit≤ tt
few_words true = lit≤ tt

pub not_none : (n : ℕ) → (suc n == 0) ≡ false
not_none n = grind (arith, nat_tests)

-- a byte is one part
one_part : (a : ℕ) → parts a 1 ≡ (a, 1) ∷ []
one_part a = let e : nat_le 1 (8 - a % 8) ≡ true = grind (arith, nat_tests) in rw e refl

twice_low : (byte : ℕ) → byte < 2 ^ 8 → byte ≡ byte % 2 ^ 8 % 2 ^ 8
twice_low byte lt = omega arith

-- the references that were made in the round
abbrev pub In : Option Round
In = Some new_round

abbrev pub Read_one : Round
Read_one = record { reads = 1; writes = 0; others = 0; failed = 0; steps = 0 }

abbrev pub Both_made : Round
Both_made = record { reads = 1; writes = 1; others = 0; failed = 0; steps = 0 }

module _ (p : Placement) (site : Site) (table : IsPageTable p.pages) (kinds : MoreKinds (needed site.byte_word 1) p.kinds) where
  abbrev read : List AlphaInstr
  read = read_by site.byte_word 22 1 24

  abbrev write : List AlphaInstr
  write = write_by site.byte_word 23 1 24

  -- ---- the pieces
  reads_byte : (need pc from : ℕ) (rest : List Line) (f : Regs) (k : ℕ → Tree) → Within p site.behind pc (map plain read ++ rest) → 1 ≤ length rest → f 22 ≡ from → from < 2 ^ 32 → is_allowed p.pages from false ≡ true
      → ((byte : ℕ) (g : Regs) → byte < 2 ^ 8 → g 24 ≡ byte → Only (is_scratch_or 24) f g → Always p (Some Read_one) need (at_place g (pc + length read)) (k byte))
      → Always p In (length read + need) (at_place f pc) (Ask (record { address = from; count = 1; kind = Read }) k)
  reads_byte need pc from rest f k w some in_22 small may behind =
      let count_is = row_length p site.behind read rest in
      let end = w.high in
      let near = w.near in
      runs p In need pc (length read) (sequences.Holds f 24 1) (loads_of site.byte_word) k (Some Read_one) f (read_plan (parts (f 22) 1)) _
      w.low (omega arith) (λ q gt le. is_inside p site.behind pc q (map plain read ++ rest) w gt (omega arith))
      (subst (λ (xs : List (ℕ × ℕ)). Begins (loads_of site.byte_word) p.kinds k (Some Read_one) (read_plan xs) (Ask (record { address = from; count = 1; kind = Read }) k) In) (sym (ap (λ a. parts a 1) in_22 ∙ one_part from))
      (refl, read_kinds site.byte_word 1 p.kinds kinds from 1, λ before lt. (refl, (refl, refl))))
      (λ n. reads_by site.byte_word 22 1 24 c1 (record { high = lit≤ tt }) (record { high = lit≤ tt }) p.fetch (piece_terms p (loads_of site.byte_word)) pc f (omega arith)
      (subst (λ a. sequences.MayRead (loaded_of site.byte_word) (piece_terms p (loads_of site.byte_word)) a 1) (sym in_22) (may_read p table site.byte_word from 1 c1 (usable_byte p.pages false from small may)))
      (row_words p site.behind pc read rest w) n)
      (λ byte g h. behind byte g h.fits h.holds h.only)

  writes_byte : (need pc to byte : ℕ) (rest : List Line) (f : Regs) (t : Tree) → Within p site.behind pc (map plain write ++ rest) → 1 ≤ length rest → f 23 ≡ to → f 24 ≡ byte → byte < 2 ^ 8 → to < 2 ^ 32 → is_allowed p.pages to true ≡ true
      → ((g : Regs) → Only is_scratch f g → Always p (Some Both_made) need (at_place g (pc + length write)) t)
      → Always p (Some Read_one) (length write + need) (at_place f pc) (Ask (record { address = to; count = 1; kind = Write (byte % 2 ^ 8 % 2 ^ 8) }) (λ done. t))
  writes_byte need pc to byte rest f t w some in_23 in_24 fits small may behind =
      let count_is = row_length p site.behind write rest in
      let end = w.high in
      let near = w.near in
      let stores = stores_of site.byte_word to 1 in
      let each : Each (stores_of site.byte_word to 1) p.kinds ((to, 1) ∷ []) = subst (λ (xs : List (ℕ × ℕ)). Each (stores_of site.byte_word to 1) p.kinds xs) (one_part to) (write_kinds 1 p.kinds site.byte_word kinds to c1) in
      runs p (Some Read_one) need pc (length write) (sequences.Keeps f) stores (λ (done : Unit {0}). t) (Some Both_made) f (write_plan (parts (f 23) 1) (f 24)) _
      w.low (omega arith) (λ q gt le. is_inside p site.behind pc q (map plain write ++ rest) w gt (omega arith))
      (subst (λ (xs : List (ℕ × ℕ)). Begins stores p.kinds (λ (done : Unit {0}). t) (Some Both_made) (write_plan xs (f 24)) (Ask (record { address = to; count = 1; kind = Write (byte % 2 ^ 8 % 2 ^ 8) }) (λ done. t)) (Some Read_one)) (sym (ap (λ a. parts a 1) in_23 ∙ one_part to))
      (refl, each.0 (byte % 2 ^ 8 % 2 ^ 8), λ before lt. (ap (with_field_of before (to % 8) 1) (in_24 ∙ twice_low byte fits), (refl, refl))))
      (λ n. writes_by site.byte_word 23 1 24 c1 (record { high = lit≤ tt }) (record { high = lit≤ tt }) p.fetch (piece_terms p stores) pc f (omega arith)
      (subst (λ a. sequences.MayWrite (stored_of site.byte_word) (piece_terms p (stores_of site.byte_word to 1)) a 1) (sym in_23) (may_write p table site.byte_word to 1 c1 (usable_byte p.pages true to small may)))
      (row_words p site.behind pc write rest w) n)
      (λ done g h. behind g h.only)

  -- ---- a turn
  module _ (pc : ℕ) (rest : List Line) (w : Within p site.behind pc (loop_lines site.byte_word rest)) (down : Bool) (start : Regs) (end : Tree) where
    abbrev behind_read : List Line
    behind_read = map plain write ++ (map plain going_on ++ (back_line site.byte_word ∷ rest))

    abbrev behind_write : List Line
    behind_write = map plain going_on ++ (back_line site.byte_word ∷ rest)

    abbrev back : ℕ
    back = pc + length read + length write + 3

    -- so many bytes are left, and these are the next addresses
    pub record Turn (left from to : ℕ) (f : Regs) : Type 0 where
      pub left_in : f 21 ≡ left
      pub source_in : f 22 ≡ from
      pub destination_in : f 23 ≡ to
      pub stride_in : f 28 ≡ stride down
      pub only : Only is_moving start f

    -- behind it
    record Turned (left from to : ℕ) (f : Regs) : Type 0 where
      left_in : f 21 ≡ left
      source_in : f 22 ≡ (from + stride down) % 2 ^ 64
      destination_in : f 23 ≡ (to + stride down) % 2 ^ 64
      stride_in : f 28 ≡ stride down
      only : Only is_moving start f

    within_read : Within p site.behind (pc + length read) behind_read
    within_read = row_rest p site.behind pc read behind_read w

    within_write : Within p site.behind (pc + length read + length write) behind_write
    within_write = row_rest p site.behind (pc + length read) write behind_write within_read

    within_back : Within p site.behind back (back_line site.byte_word ∷ rest)
    within_back = row_rest p site.behind (pc + length read + length write) going_on (back_line site.byte_word ∷ rest) within_write

    some_behind : 1 ≤ length behind_read
    some_behind = let a = row_length p site.behind write behind_write in omega arith

    some_back : 1 ≤ length behind_write
    some_back = omega arith

    ends_turn : (need left from to : ℕ) (f : Regs) (t : Tree) → suc left < 2 ^ 16 → Turn (suc left) from to f
        → ((g : Regs) → Turned left from to g → Always p (Some Both_made) need (at_place g back) t)
        → Always p (Some Both_made) (3 + need) (at_place f (pc + length read + length write)) t
    ends_turn need left from to f t few turn behind =
        let high = within_write.high in
        let low = within_write.low in
        operates p (Some Both_made) need going_on f (pc + length read + length write) t (row_words p site.behind (pc + length read + length write) going_on (back_line site.byte_word ∷ rest) within_write) refl low (omega arith)
        (λ q gt le. is_inside p site.behind (pc + length read + length write) q behind_write within_write gt (omega arith))
        (behind (effects going_on f) (record {
          left_in = ap (λ n. (n + (2 ^ 64 - 1)) % 2 ^ 64) turn.left_in ∙ less left few;
          source_in = ap (λ n. (n + f 28) % 2 ^ 64) turn.source_in ∙ ap (λ n. (from + n) % 2 ^ 64) turn.stride_in;
          destination_in = ap (λ n. (n + f 28) % 2 ^ 64) turn.destination_in ∙ ap (λ n. (to + n) % 2 ^ 64) turn.stride_in;
          stride_in = turn.stride_in;
          only = λ n out. moving_put (put (put f 22 ((f 22 + f 28) % 2 ^ 64)) 23 ((f 23 + f 28) % 2 ^ 64)) 21 ((f 21 + (2 ^ 64 - 1)) % 2 ^ 64) refl n out
              ∙ (moving_put (put f 22 ((f 22 + f 28) % 2 ^ 64)) 23 ((f 23 + f 28) % 2 ^ 64) refl n out ∙ (moving_put f 22 ((f 22 + f 28) % 2 ^ 64) refl n out ∙ turn.only n out));
        }))
      where
        less : (left : ℕ) → suc left < 2 ^ 16 → (suc left + (2 ^ 64 - 1)) % 2 ^ 64 ≡ left
        less left few = omega arith

    turns : (need left from to : ℕ) (f : Regs) → suc left < 2 ^ 16 → from < 2 ^ 32 → to < 2 ^ 32 → is_allowed p.pages from false ≡ true → is_allowed p.pages to true ≡ true → Turn (suc left) from to f
        → ((g : Regs) → Turned left from to g → Always p (Some Both_made) need (at_place g back) (moving down left (beside down from) (beside down to) end))
        → Always p In (length read + (length write + (3 + need))) (at_place f pc) (moving down (suc left) from to end)
    turns need left from to f few small small' may may' turn behind =
        reads_byte (length write + (3 + need)) pc from behind_read f (λ reply. Ask (record { address = to; count = 1; kind = Write (reply % 2 ^ 8 % 2 ^ 8) }) (λ done. moving down left (beside down from) (beside down to) end)) w some_behind turn.source_in small may
        (λ byte g fits in_24 only.
        writes_byte (3 + need) (pc + length read) to byte behind_write g (moving down left (beside down from) (beside down to) end) within_read some_back (only 23 refl ∙ turn.destination_in) in_24 fits small' may'
        (λ h only'.
        ends_turn need left from to h (moving down left (beside down from) (beside down to) end) few (record {
          left_in = only' 21 refl ∙ (only 21 refl ∙ turn.left_in);
          source_in = only' 22 refl ∙ (only 22 refl ∙ turn.source_in);
          destination_in = only' 23 refl ∙ (only 23 refl ∙ turn.destination_in);
          stride_in = only' 28 refl ∙ (only 28 refl ∙ turn.stride_in);
          only = λ n out. only' n (scratch_moves n out) ∙ (only n (scratch_or_moves n out) ∙ turn.only n out);
        }) behind))

    -- ---- the loop
    module _ (bonus : p.bonus ≡ block_steps) (above : p.first < pc) (some : 1 ≤ length rest) (leave : (g : Regs) → Only is_moving start g → Always p (Some Both_made) 3 (at_place g (back + 1)) end) where
      abbrev need : ℕ
      need = length read + (length write + (3 + 4))

      few_steps : need ≤ block_steps
      few_steps = let few = few_words site.byte_word in let count = turn_count site.byte_word in omega arith

      -- behind the last byte
      leaves_loop : (from to : ℕ) (g : Regs) → Turned 0 from to g → Always p (Some Both_made) 4 (at_place g back) end
      leaves_loop from to g turned =
          passes p (Some Both_made) 3 (at_place g back) Bne 21 (negsuc (length (turn_words site.byte_word))) end (stands p site.behind back (Branch Bne 21 (negsuc (length (turn_words site.byte_word)))) None rest within_back)
          (ap (λ n. not (n == 0)) turned.left_in) (is_inside p site.behind back (back + 1) (back_line site.byte_word ∷ rest) within_back (omega arith) (omega arith)) (leave g turned.only)

      -- from the first word again
      turns_back : (left from to : ℕ) (g : Regs) (t : Tree) → Turned (suc left) from to g → Always p In need (at_place g pc) t → Always p (Some Both_made) 4 (at_place g back) t
      turns_back left from to g t turned again =
          let count = turn_count site.byte_word in
          let near = within_back.near in
          let high = within_back.high in
          let jump : target_of back (negsuc (length (turn_words site.byte_word))) ≡ pc = omega arith in
          roomy p (Some Both_made) 1 4 (at_place g back) t (lit≤ tt)
          (comes_back p Both_made need (at_place g back) (at_place g pc) (Branch Bne 21 (negsuc (length (turn_words site.byte_word)))) t (stands p site.behind back (Branch Bne 21 (negsuc (length (turn_words site.byte_word)))) None rest within_back)
          (branches jump) above (omega arith) (is_first (omega arith)) (subst (λ n. 0 < n) (sym bonus) (lit< tt)) (subst (λ n. 256 ≤ n * 2) (sym bonus) (lit≤ tt)) refl refl refl few_steps again)
        where
          branches : target_of back (negsuc (length (turn_words site.byte_word))) ≡ pc → act (Branch Bne 21 (negsuc (length (turn_words site.byte_word)))) (at_place g back) ≡ Goes (at_place g pc)
          branches jump = rw (turned.left_in, not_none left, jump) refl

          is_first : pc < p.end → p.stops pc ≡ None
          is_first lt = w.inside pc above lt

      pub loops : (left from to : ℕ) (f : Regs) → suc left < 2 ^ 16 → from < 2 ^ 32 → to < 2 ^ 32 → Walk p.pages false down (suc left) from → Walk p.pages true down (suc left) to → Turn (suc left) from to f
          → Always p In need (at_place f pc) (moving down (suc left) from to end)
      loops zero from to f few small small' walk walk' turn = turns 4 zero from to f few small small' walk.0 walk'.0 turn (λ g turned. leaves_loop from to g turned)
      loops (suc left) from to f few small small' walk walk' turn =
          let next = first_fits p.pages false down left (beside down from) table walk.1 in
          let next' = first_fits p.pages true down left (beside down to) table walk'.1 in
          turns 4 (suc left) from to f few small small' walk.0 walk'.0 turn
          (λ g turned. turns_back left from to g (moving down (suc left) (beside down from) (beside down to) end) turned
          (loops left (beside down from) (beside down to) g (omega arith) (omega arith) (omega arith) walk.1 walk'.1 (record {
            left_in = turned.left_in;
            source_in = turned.source_in ∙ next_address down from (in_space p.pages from false table walk.0) next;
            destination_in = turned.destination_in ∙ next_address down to (in_space p.pages to true table walk'.0) next';
            stride_in = turned.stride_in;
            only = turned.only;
          })))
