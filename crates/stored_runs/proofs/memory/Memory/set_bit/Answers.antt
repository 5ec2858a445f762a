use Rattle.std.proofs.Common.{◌≡◌, ◌*◌, ◌%◌, ◌^◌, bit_or, sym, ap, ◌∙◌, arith}
use Rattle.std.proofs.lemmas.Nat.{one_shl}
use Rattle.vax_form.specs.References.{with_byte}
use Rattle.stored_runs.specs.Memory.{byte_of}
use Rattle.stored_runs.proofs.memory.Memory.set_bit.Goals as goal

pub returns-clause-bytes : goal.returns-clause-bytes
returns-clause-bytes c =
    let before = byte_of c.args.self.now in
    let low : c.args.address % 2 ^ 32 ≡ c.args.address = omega arith in
    let shift : 1 * 2 ^ (c.args.bit % 8) % 2 ^ 8 ≡ 2 ^ (c.args.bit % 8) = one_shl (c.args.bit % 8) 8 (omega arith) in
    c.in_ok-store_byte.ensures.bytes
    ∙ ap (λ b. with_byte before c.args.address (bit_or b (1 * 2 ^ (c.args.bit % 8) % 2 ^ 8))) c.byte-byte.ensures
    ∙ ap (λ m. with_byte before c.args.address (bit_or (before c.args.address) m)) shift
    ∙ ap (λ a. with_byte before a (bit_or (before a) (2 ^ (c.args.bit % 8)))) (sym low)
