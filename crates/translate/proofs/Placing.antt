-- Instructions beside their blocks.
use Rattle.std.proofs.Common.{◌≡◌, ℕ, ◌+◌, ◌<◌, ◌≤◌, ◌++◌, refl, sym, ap, ◌∙◌, subst, arith, Bool, true, false, List, [], ◌∷◌, length, map, get_or, nat_lt, ltb-true, ltb-false, Some}
use Rattle.std.specs.Prelude.{slice_get}
use Rattle.std.proofs.lemmas.List.{ext_get_or, get_or-map, get_or_append_left, get_or_push, length-map, length_push, same_lists}
use Rattle.std.proofs.lemmas.List.FromFn.{get_or-map-range_with_len, length-map-range_with_len}
use Rattle.std.proofs.lemmas.Option.{slice_get-get_or, slice_get_within, get_or_from_slice_get}
use Rattle.vax_form.specs.declared.instr.Instr.{Instr}
use Rattle.vax_form.specs.declared.pages.Pages.{Pages}
use Rattle.block_law.specs.Blocks.{IsBlockOf}
use Rattle.flow_discovery.specs.Mapped.{has_string_block}
use Rattle.branch_layout.specs.Layouts.{Placed, AddressesRise, IsPlaced, AreBlocks}
use Rattle.branch_layout.proofs.Filling.{All_by}
use Rattle.code_runs.specs.Codes.{codes_at}
use Rattle.code_runs.specs.Runs.{AreInOrder, instr_at, no_instr}
use Rattle.image_meaning.specs.declared.target.Target.{Target}
use Rattle.translate.specs.Compiled.{IsCompiled, AreCompiled, AreCompiledTo, addresses, block_of, blocks_of}

-- one more instruction is compiled
pub compiled_more : (target : Target) (pages : Pages) (instrs : List Instr) (count : ℕ) (blocks blocks' : List Placed) (block : Placed) → blocks' ≡ blocks ++ block ∷ [] → AreCompiledTo target pages instrs count blocks → IsCompiled target pages (instr_at instrs count) (codes_at instrs count) block
    → AreCompiledTo target pages instrs (count + 1) blocks'
compiled_more target pages instrs count blocks blocks' block is h one = record {
  many = ap length is ∙ length_push blocks block ∙ ap (λ k. k + 1) h.many;
  each = λ place b e. by place b (subst (λ (bs : List Placed). slice_get bs place ≡ Some b) is e) (nat_lt place count) refl;
}
  where
    by : (place : ℕ) (b : Placed) → slice_get (blocks ++ block ∷ []) place ≡ Some b → (c : Bool) → nat_lt place count ≡ c → IsCompiled target pages (instr_at instrs place) (codes_at instrs place) b
    by place b e true t =
        let low : place < length blocks = let lt = ltb-true place count t in let many = h.many in omega arith in
        let its : get_or blocks place b ≡ b = sym (get_or_append_left blocks (block ∷ []) b place low) ∙ get_or_from_slice_get (blocks ++ block ∷ []) place b b e in
        h.each place b (slice_get-get_or blocks place b low ∙ ap (λ (x : Placed). Some x) its)
    by place b e false t =
        let within = slice_get_within (blocks ++ block ∷ []) place b e in
        let late : count ≤ place = ltb-false place count t in
        let longer = length_push blocks block in
        let many = h.many in
        let same : count ≡ place = omega arith in
        let its : block ≡ b = sym (get_or_push blocks block b place (many ∙ same)) ∙ get_or_from_slice_get (blocks ++ block ∷ []) place b b e in
        subst (λ (x : Placed). IsCompiled target pages (instr_at instrs place) (codes_at instrs place) x) its (subst (λ k. IsCompiled target pages (instr_at instrs k) (codes_at instrs k) block) same one)

module _ (target : Target) (pages : Pages) (instrs : List Instr) (blocks : List Placed) (are : AreCompiled target pages instrs blocks) where
  -- they are those of the instructions
  pub are_of : blocks ≡ blocks_of target pages instrs
  are_of =
      let none : Placed = (0, record { words = []; exits = []; points = [] }) in
      let many = are.many in
      ext_get_or none blocks (blocks_of target pages instrs) (many ∙ sym (length-map-range_with_len (λ place. block_of target pages (instr_at instrs place) (codes_at instrs place)) 0 (length instrs)))
      (λ place lt.
      let same : 0 + place ≡ place = omega arith in
      (are.each place (get_or blocks place none) (slice_get-get_or blocks place none lt)).value
      ∙ sym (get_or-map-range_with_len (λ place. block_of target pages (instr_at instrs place) (codes_at instrs place)) 0 (length instrs) place place none (omega arith) same))

  -- what a layout asks of blocks
  pub are_blocks : AreBlocks blocks
  are_blocks =
      All_by IsPlaced blocks
      (λ k block e. let r = are.each k block e in (has_string_block (instr_at instrs k), subst (λ n. IsBlockOf (has_string_block (instr_at instrs k)) n block.1) (sym r.address) r.shape))

  its_address : (k : ℕ) (d : Placed) → k < length blocks → (get_or blocks k d).0 ≡ (instr_at instrs k).at
  its_address k d lt = (are.each k (get_or blocks k d) (slice_get-get_or blocks k d lt)).address

  pub blocks_rise : AreInOrder instrs → AddressesRise blocks
  blocks_rise order k d lt =
      let many = are.many in
      rw (its_address k d (omega arith), its_address (k + 1) d lt) (order.rising k no_instr (omega arith))

  -- the addresses of the blocks
  pub map_addresses : map (λ (b : Placed). b.0) blocks ≡ addresses instrs
  map_addresses =
      same_lists (map (λ (b : Placed). b.0) blocks) (addresses instrs)
      (length-map blocks (λ (b : Placed). b.0) ∙ are.many ∙ sym (length-map instrs (λ (i : Instr). i.at)))
      (λ k d lt.
      let count = length-map blocks (λ (b : Placed). b.0) in
      let many = are.many in
      let none : Placed = (0, record { words = []; exits = []; points = [] }) in
      get_or-map (λ (b : Placed). b.0) blocks k none d (omega arith)
      ∙ its_address k none (omega arith)
      ∙ sym (get_or-map (λ (i : Instr). i.at) instrs k no_instr d (omega arith)))
