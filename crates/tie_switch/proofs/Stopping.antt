-- A block's opcode where a step lands, and where no local step goes on in Alpha code.
use Rattle.std.proofs.Common.{◌≡◌, ℕ, false, Option, Some, None, refl, sym, ap, ◌∙◌}
use Rattle.std.specs.Prelude.{option_and_then, option_map, is_some}
use Rattle.address_map.specs.Pairs.{address_at}
use Rattle.alpha_meaning.specs.State.{Alpha}
use Rattle.vax_form.specs.Pages.{code_byte_at}
use Rattle.prepared_code.specs.Inside.{local_at, unless_begun, step_in, landing, landed}
use Rattle.prepared_code.specs.Sources.{Source, block_by}
use Rattle.prepared_code.specs.declared.blocks.Block.{Block}
use Rattle.system_model.specs.Ranges.{word_for}
use Rattle.system_model.specs.Settings.{Setting}
use Rattle.tie_switch.specs.Inside.{goes_on_at, goes_on_behind, goes_on_locally, source_in}
use Rattle.vax_form.specs.declared.pages.Pages.{Pages}

-- the step that a local instruction makes, where a block begins at the next word
abbrev landing_by : Source → Alpha → Option ℕ → Option (Alpha × Block)
landing_by source d o = option_map (landed d) (option_map (λ address. block_by source.code.points source.pages address d.pc) o)

abbrev landing_from : Source → Option Alpha → Option (Alpha × Block)
landing_from source o = option_and_then (λ d. landing_by source d (address_at source.code.map d.pc)) o

same_block : (x y : Alpha × Block) → Some x ≡ Some y → x.1 ≡ y.1
same_block x y e = let same : x ≡ y = cc e in ap (λ (q : Alpha × Block). q.1) same

-- ---- its opcode
opcode_by : (source : Source) (e d : Alpha) (block : Block) (o : Option ℕ) → landing_by source e o ≡ Some (landed d block)
    → block.opcode ≡ code_byte_at source.pages block.address
opcode_by source e d block None h = absurd (cc h)
opcode_by source e d block (Some address) h =
    let same = same_block (landed e (block_by source.code.points source.pages address e.pc)) (landed d block) h in
    ap (λ (b : Block). b.opcode) (sym same) ∙ ap (λ (b : Block). code_byte_at source.pages b.address) same

opcode_from : (source : Source) (d : Alpha) (block : Block) (o : Option Alpha) → landing_from source o ≡ Some (landed d block)
    → block.opcode ≡ code_byte_at source.pages block.address
opcode_from source d block None h = absurd (cc h)
opcode_from source d block (Some e) h = opcode_by source e d block (address_at source.code.map e.pc) h

pub opcode_there : (source : Source) (c d : Alpha) (block : Block) → landing source c ≡ Some (landed d block) → block.opcode ≡ code_byte_at source.pages block.address
opcode_there source c d block h = opcode_from source d block (local_at source.code c) h

-- ---- no step stays inside, and none arrives
stuck_by : (s : Setting) (thread : ℕ) (pages : Pages) (d : Alpha) (o : Option ℕ) → unless_begun o d ≡ None → landing_by (source_in s pages) d o ≡ None → goes_on_at s thread o ≡ false
stuck_by s thread pages d None inside there = absurd (cc inside)
stuck_by s thread pages d (Some address) inside there = absurd (cc there)

stuck_from : (s : Setting) (thread : ℕ) (pages : Pages) (o : Option Alpha) → option_and_then (λ d. unless_begun (address_at s.code.map d.pc) d) o ≡ None
    → landing_from (source_in s pages) o ≡ None → goes_on_behind s thread o ≡ false
stuck_from s thread pages None inside there = refl
stuck_from s thread pages (Some d) inside there = stuck_by s thread pages d (address_at s.code.map d.pc) inside there

pub stuck : (s : Setting) (thread : ℕ) (pages : Pages) (c : Alpha) → step_in s.code c ≡ None → landing (source_in s pages) c ≡ None → goes_on_locally s thread c ≡ false
stuck s thread pages c inside there = stuck_from s thread pages (local_at s.code c) inside there

-- ---- the thread does not go on where it arrives
left_by : (s : Setting) (thread : ℕ) (pages : Pages) (e d : Alpha) (block : Block) (o : Option ℕ) → landing_by (source_in s pages) e o ≡ Some (landed d block)
    → word_for s.code.map s.ranges thread block.address ≡ None → goes_on_at s thread o ≡ false
left_by s thread pages e d block None there none = absurd (cc there)
left_by s thread pages e d block (Some address) there none =
    let same = same_block (landed e (block_by s.code.points pages address e.pc)) (landed d block) there in
    ap (λ (b : Block). is_some (word_for s.code.map s.ranges thread b.address)) same ∙ ap is_some none

left_from : (s : Setting) (thread : ℕ) (pages : Pages) (d : Alpha) (block : Block) (o : Option Alpha) → landing_from (source_in s pages) o ≡ Some (landed d block)
    → word_for s.code.map s.ranges thread block.address ≡ None → goes_on_behind s thread o ≡ false
left_from s thread pages d block None there none = absurd (cc there)
left_from s thread pages d block (Some e) there none = left_by s thread pages e d block (address_at s.code.map e.pc) there none

pub left_alpha : (s : Setting) (thread : ℕ) (pages : Pages) (c d : Alpha) (block : Block) → landing (source_in s pages) c ≡ Some (landed d block)
    → word_for s.code.map s.ranges thread block.address ≡ None → goes_on_locally s thread c ≡ false
left_alpha s thread pages c d block there none = left_from s thread pages d block (local_at s.code c) there none
