-- The row of an opcode has the operands of its operation, and at most six.
use Rattle.std.proofs.Common.{◌≡◌, ℕ, zero, suc, ◌≤◌, List, [], ◌∷◌, length, take, map, Some, None, refl, sym, ap, ◌∙◌, arith}
use Rattle.std.specs.List.{zip}
use Rattle.std.specs.Option.{option_map}
use Rattle.vax_form.specs.GrammarRows.{operand_types}
use Rattle.vax_form.specs.Operation.{operation_at}
use Rattle.vax_form.specs.Row.{filled, operands_of, row_at, row_of_operation}
use Rattle.vax_form.proofs.GrammarCounts.{operation_most}
use Rattle.vax_form.proofs.GrammarFinds.{option_map-some}
use Rattle.vax_form.proofs.GrammarLengths.{option_map-none}
use Rattle.vax_form.specs.declared.instr.Size.{Size}
use Rattle.vax_form.specs.declared.instr.Size.TheVariants.{Byte}
use Rattle.vax_form.specs.declared.instr.Access.{Access}
use Rattle.vax_form.specs.declared.instr.Access.TheVariants.{Read}
use Rattle.vax_form.specs.declared.row.Row.{Row}
use Rattle.vax_text.specs.Text.{types_of}

zipped : (n : ℕ) (ts : List (Access × Size)) → length ts ≤ n
    → zip (take (length ts) (filled Read n (map (λ t. t.0) ts))) (take (length ts) (filled Byte n (map (λ t. t.1) ts))) ≡ ts
zipped n [] h = refl
zipped zero (t ∷ ts) h = absurd (omega arith)
zipped (suc n) (t ∷ ts) h = ap (λ l. t ∷ l) (zipped n ts (omega arith))

pub record IsRowOf (opcode : ℕ) (row : Row) : Type 0 where
  pub few : row.count ≤ 6
  pub are_types : zip (take row.count row.access) (take row.count row.size) ≡ types_of (operand_types opcode)

pub row_of : (opcode : ℕ) (row : Row) → Some row ≡ row_at opcode → IsRowOf opcode row
row_of opcode row e =
    let x = option_map-some row_of_operation (operation_at opcode) row (sym e) in
    let types = operands_of x.0 in
    let count : row.count ≡ length types = ap (λ (r : Row). r.count) (sym x.2) in
    record {
      few = omega (arith, count, operation_most x.0);
      are_types = ap (λ (r : Row). zip (take r.count r.access) (take r.count r.size)) (sym x.2) ∙ zipped 6 types (operation_most x.0)
          ∙ ap (λ o. types_of (option_map operands_of o)) (sym x.1);
    }

pub no_types : (opcode : ℕ) → None ≡ row_at opcode → types_of (operand_types opcode) ≡ []
no_types opcode e = ap (λ o. types_of (option_map operands_of o)) (option_map-none row_of_operation (operation_at opcode) (sym e))

pub zip_short : (accesses : List Access) (sizes : List Size) → length sizes ≡ 0 → zip accesses sizes ≡ []
zip_short [] sizes e = refl
zip_short (a ∷ accesses) [] e = refl
zip_short (a ∷ accesses) (s ∷ sizes) e = absurd (omega arith)
