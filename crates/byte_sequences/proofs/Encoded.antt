-- The words of the writes, and those with the byte-word extension, have encodings.
use Rattle.std.proofs.Common.{ℕ, ◌<◌, ◌++◌, List, [], ◌∷◌, rules, arith, lit<}
use Rattle.std.specs.Prelude.{All, pos}
use Rattle.std.proofs.lemmas.List.Elements.{All-cons, All-nil}
use Rattle.vt_words.specs.Quad.{IsCount, one as c1, two as c2, four as c4, eight as c8}
use Rattle.alpha_encode.specs.declared.instr.AlphaInstr.{AlphaInstr}
use Rattle.alpha_encode.specs.declared.instr.AlphaInstr.TheVariants.{Memory, Branch}
use Rattle.alpha_encode.specs.declared.instr.BranchOp.TheVariants.{Br}
use Rattle.alpha_encode.specs.declared.instr.MemoryOp.TheVariants.{Stl}
use Rattle.alpha_encode.specs.declared.instr.OperateOp.{OperateOp}
use Rattle.alpha_encode.specs.Words.{IsEncodable, IsFirst}
use Rattle.alpha_meaning.specs.Loops.{retry}
use Rattle.byte_sequences.specs.Instructions.{IsArgument}
use Rattle.byte_sequences.specs.Words.{insert_low, insert_high, mask_low, mask_high, replacing, first_write, second_write, tested_second_write, unaligned_write, longword_write, quadword_write, write_code, bw_word_write, bw_write_code, read_code, bw_word_read, bw_read_code}

abbrev pub EachEncodable : List AlphaInstr → Type 0
EachEncodable [] = Unit {0}
EachEncodable (i ∷ is) = IsEncodable i × EachEncodable is

pub all_encodable : (is : List AlphaInstr) → EachEncodable is → All IsEncodable is
all_encodable [] h = All-nil IsEncodable
all_encodable (i ∷ is) h = All-cons IsEncodable i is h.0 (all_encodable is h.1)

each_append : (is js : List AlphaInstr) → EachEncodable is → EachEncodable js → EachEncodable (is ++ js)
each_append [] js h k = k
each_append (i ∷ is) js h k = (h.0, each_append is js h.1 k)

-- byte manipulation has two operands
low_masks : {c : ℕ} → IsCount c → (n : ℕ) → n < 32 → IsFirst (mask_low c) n
low_masks c1 n lt = lt
low_masks c2 n lt = lt
low_masks c4 n lt = lt
low_masks c8 n lt = lt

high_masks : {c : ℕ} → IsCount c → (n : ℕ) → n < 32 → IsFirst (mask_high c) n
high_masks c1 n lt = lt
high_masks c2 n lt = lt
high_masks c4 n lt = lt
high_masks c8 n lt = lt

low_inserts : {c : ℕ} → IsCount c → (n : ℕ) → n < 32 → IsFirst (insert_low c) n
low_inserts c1 n lt = lt
low_inserts c2 n lt = lt
low_inserts c4 n lt = lt
low_inserts c8 n lt = lt

high_inserts : {c : ℕ} → IsCount c → (n : ℕ) → n < 32 → IsFirst (insert_high c) n
high_inserts c1 n lt = lt
high_inserts c2 n lt = lt
high_inserts c4 n lt = lt
high_inserts c8 n lt = lt

module _ (place from : ℕ) (p : place < 32) (q : from < 32) where
  loop : (mask insert : OperateOp) → IsFirst mask 25 → IsFirst insert from → EachEncodable (retry (replacing mask insert place from))
  loop mask insert m n = (search rules, ((m, p, lit< tt), ((n, p, lit< tt), search rules)))

  first : {c : ℕ} → IsCount c → EachEncodable (first_write place c from)
  first {c} is = (search rules, loop (mask_low c) (insert_low c) (low_masks is 25 (lit< tt)) (low_inserts is from q))

  second : {c : ℕ} → IsCount c → EachEncodable (second_write place c from)
  second {c} is = (search rules, loop (mask_high c) (insert_high c) (high_masks is 25 (lit< tt)) (high_inserts is from q))

  tested_second : {c : ℕ} → IsCount c → EachEncodable (tested_second_write place c from)
  tested_second is = (search rules, ((lit< tt, omega arith, lit< tt), (search rules, second is)))

  unaligned : {c : ℕ} → IsCount c → EachEncodable (unaligned_write place c from)
  unaligned {c} is = each_append (first_write place c from) (tested_second_write place c from) (first is) (tested_second is)

  longword : EachEncodable (longword_write place from)
  longword = (search rules, (search rules, each_append (unaligned_write place 4 from) (Branch Br 31 (pos 1) ∷ Memory Stl from place (pos 0) ∷ []) (unaligned c4) (search rules, (search rules, tt))))

  quadword : EachEncodable (quadword_write place from)
  quadword =
      let rest : EachEncodable (first_write place 8 from ++ second_write place 8 from) = each_append (first_write place 8 from) (second_write place 8 from) (first c8) (second c8) in
      (search rules, (search rules, (search rules, (search rules, (search rules, (search rules, (search rules, (search rules, (search rules, (search rules, rest))))))))))

  word_write : EachEncodable (bw_word_write place from)
  word_write = (search rules, (search rules, (search rules, unaligned c2)))

module _ (place to : ℕ) (p : place < 32) (q : to < 32) where
  some_read : {c : ℕ} → IsCount c → EachEncodable (read_code place c to)
  some_read c1 = search rules
  some_read c2 = search rules
  some_read c4 = search rules
  some_read c8 = search rules

  word_read : EachEncodable (bw_word_read place to)
  word_read = (search rules, (search rules, (search rules, some_read c2)))

register_fits : (n : ℕ) → IsArgument n → n < 32
register_fits n a = let high = a.high in omega arith

each_encoded : (place count from : ℕ) → place < 32 → from < 32 → IsCount count → EachEncodable (write_code place count from)
each_encoded place count from p q c1 = first place from p q c1
each_encoded place count from p q c2 = unaligned place from p q c2
each_encoded place count from p q c4 = longword place from p q
each_encoded place count from p q c8 = quadword place from p q

pub encoded : (place count from : ℕ) → IsCount count → IsArgument place → IsArgument from → All IsEncodable (write_code place count from)
encoded place count from is a b = all_encodable (write_code place count from) (each_encoded place count from (register_fits place a) (register_fits from b) is)

each_bw_written : (place count from : ℕ) → place < 32 → from < 32 → IsCount count → EachEncodable (bw_write_code place count from)
each_bw_written place count from p q c1 = search rules
each_bw_written place count from p q c2 = word_write place from p q
each_bw_written place count from p q c4 = longword place from p q
each_bw_written place count from p q c8 = quadword place from p q

pub bw_written : (place count from : ℕ) → IsCount count → IsArgument place → IsArgument from → All IsEncodable (bw_write_code place count from)
bw_written place count from is a b = all_encodable (bw_write_code place count from) (each_bw_written place count from (register_fits place a) (register_fits from b) is)

each_bw_read : (place count to : ℕ) → place < 32 → to < 32 → IsCount count → EachEncodable (bw_read_code place count to)
each_bw_read place count to p q c1 = search rules
each_bw_read place count to p q c2 = word_read place to p q
each_bw_read place count to p q c4 = some_read place to p q c4
each_bw_read place count to p q c8 = some_read place to p q c8

pub bw_read : (place count to : ℕ) → IsCount count → IsArgument place → IsArgument to → All IsEncodable (bw_read_code place count to)
bw_read place count to is a b = all_encodable (bw_read_code place count to) (each_bw_read place count to (register_fits place a) (register_fits to b) is)
