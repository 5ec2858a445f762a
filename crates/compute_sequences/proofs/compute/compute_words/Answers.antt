use Rattle.std.proofs.Common.{◌≡◌, ◌≤◌, length, true, sym, subst}
use Rattle.std.specs.Prelude.{All}
use Rattle.std.specs.List.{list_all}
use Rattle.alpha_encode.specs.Words.{IsEncodable}
use Rattle.micro_ops.specs.declared.program.Micro.TheVariants.{Compute}
use Rattle.micro_ops.specs.WordCounts.{words_of}
use Rattle.compute_sequences.specs.Registers.{may_change}
use Rattle.compute_sequences.specs.Promises.{LeavesComputed, changes_only}
use Rattle.compute_sequences.proofs.WholeLaws.{leaves_computed, computed_length, computed_encodable, computed_writes}
use Rattle.compute_sequences.proofs.compute.compute_words.Goals as goal

pub returns-clause-leaves : goal.returns-clause-leaves
returns-clause-leaves c =
    let a = c.args in
    subst (LeavesComputed a.op a.size a.a a.b a.to) (sym c.in_ok-compute_code.ensures) (leaves_computed a.a a.b a.to c.requires.a c.requires.to a.op a.size c.requires.b)

pub returns-clause-short : goal.returns-clause-short
returns-clause-short c =
    let a = c.args in
    subst (λ xs. length xs ≤ words_of (Compute a.to a.op a.size a.a a.b)) (sym c.in_ok-compute_code.ensures) (computed_length a.op a.size a.a a.b a.to)

pub returns-clause-encodable : goal.returns-clause-encodable
returns-clause-encodable c =
    let a = c.args in
    subst (All IsEncodable) (sym c.in_ok-compute_code.ensures) (computed_encodable a.a a.b a.to c.requires.a c.requires.to a.op a.size c.requires.b)

pub returns-clause-writes : goal.returns-clause-writes
returns-clause-writes c =
    let a = c.args in
    subst (λ xs. list_all (changes_only (may_change a.to)) xs ≡ true) (sym c.in_ok-compute_code.ensures) (computed_writes a.a a.b a.to c.requires.a c.requires.to a.op a.size c.requires.b)
