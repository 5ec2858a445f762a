use Rattle.std.proofs.Common.{◌≡◌, ◌++◌, ◌∷◌, [], ◌+◌, ◌*◌, ap, drop, length, sym, ◌∙◌, true, false, length-drop, arith}
use Rattle.std.proofs.lemmas.Bool.{ltb-false}
use Rattle.std.proofs.lemmas.List.{drop-drop}
use Rattle.image_file.specs.Reading.{table_in}
use Rattle.image_file.proofs.TableItems.{table_more}
use Rattle.elf_file.specs.declared.symbols.Symbol.{Symbol}
use Rattle.elf_file.specs.Symbols.{symbol_in, is_function, functions_in}
use Rattle.elf_file.proofs.Kept.{kept_more, kept_same}
use Rattle.elf_file.proofs.symbols.functions_in.Goals as goal
use Rattle.elf_file.proofs.symbols.functions_in.Goals.{then-is_function+in_ok-push, else-is_function}

pub symbol_at-symbol-requires : goal.symbol_at-symbol-requires
symbol_at-symbol-requires c =
    let table = c.args.table.now in
    let behind = drop table.offset c.args.bytes.now in
    let whole = ltb-false (length behind) table.size c.requires in
    omega (arith, whole, c.loop-place-test.true, length-drop table.offset c.args.bytes.now)

pub loop-place-preserved : goal.loop-place-preserved
loop-place-preserved c =
    let sections = c.args.sections.now in
    let place = c.loop-place.place in
    let behind = drop c.args.table.now.offset c.args.bytes.now in
    let symbol = c.symbol_at-symbol.result in
    let before = table_in 16 symbol_in place behind in
    let read : symbol ≡ symbol_in (drop (16 * place) behind) = c.symbol_at-symbol.ensures ∙ ap symbol_in (sym (drop-drop (16 * place) c.args.table.now.offset c.args.bytes.now)) in
    let more : before ++ symbol ∷ [] ≡ table_in 16 symbol_in (place + 1) behind = ap (λ s. before ++ s ∷ []) read ∙ sym (table_more 16 symbol_in place behind) in
    elim c.if-is_function.branch [
      | then-is_function+in_ok-push w ↦
          let passes : is_function sections symbol ≡ true = sym c.is_function.ensures ∙ w.if-is_function.true in
          ap (λ v. v.items) w.values-is ∙ w.in_ok-push.ensures.items ∙ ap (λ values. values ++ symbol.value ∷ []) c.loop-place.invariant
          ∙ sym (kept_more (is_function sections) (λ (s : Symbol). s.value) before symbol passes)
          ∙ ap (functions_in sections) more
      | else-is_function w ↦
          let fails : is_function sections symbol ≡ false = sym c.is_function.ensures ∙ w.if-is_function.false in
          ap (λ v. v.items) w.values-is ∙ c.loop-place.invariant
          ∙ sym (kept_same (is_function sections) (λ (s : Symbol). s.value) before symbol fails)
          ∙ ap (functions_in sections) more
    ]
