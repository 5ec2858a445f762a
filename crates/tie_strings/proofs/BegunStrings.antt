-- A comparison and a search are their loops.
use Rattle.std.proofs.Common.{◌≡◌, true, false, List}
use Rattle.vax_form.specs.declared.instr.Instr.{Instr}
use Rattle.vax_form.specs.declared.operation.LongOperation.TheVariants.{CompareCharacters, LocateCharacter, SkipCharacter}
use Rattle.vax_form.specs.declared.pages.Pages.{Pages}
use Rattle.vax_form.specs.declared.state.VaxState.{VaxState}
use Rattle.vax_meaning.specs.declared.evaluation.Evaluated.{Evaluated}
use Rattle.vax_long.specs.Instructions.{long_body}
use Rattle.vax_long.specs.Strings.{compare_characters, scan_characters}
use Rattle.tie_strings.specs.Begins.{compare_of, scan_of}
use Rattle.tie_strings.specs.Bodies.{long_tree}
use Rattle.tie_strings.specs.Compares.{comparing_script}
use Rattle.tie_strings.specs.Scans.{scanning_script}
use Rattle.tie_strings.specs.Strings.{strings_tree}
use Rattle.tie_strings.specs.declared.string.Strings.TheVariants.{Compares, Scans}
use Rattle.tie_strings.proofs.Unchecked.{compared_from, scanned_from}

pub compared_tree : (pages : Pages) (instr : Instr) (values : List Evaluated) (state : VaxState)
    → strings_tree pages (Compares (compare_of instr values)) state ≡ long_tree pages CompareCharacters instr values state
unfolding long_tree long_body compare_characters comparing_script
compared_tree pages instr values state =
    let begun = compare_of instr values in
    compared_from pages state begun.compared begun.left begun.first begun.second

pub located_tree : (pages : Pages) (instr : Instr) (values : List Evaluated) (state : VaxState)
    → strings_tree pages (Scans (scan_of instr true values)) state ≡ long_tree pages LocateCharacter instr values state
unfolding long_tree long_body scan_characters scanning_script
located_tree pages instr values state =
    let begun = scan_of instr true values in
    scanned_from pages state begun.scanned begun.left begun.address

pub skipped_tree : (pages : Pages) (instr : Instr) (values : List Evaluated) (state : VaxState)
    → strings_tree pages (Scans (scan_of instr false values)) state ≡ long_tree pages SkipCharacter instr values state
unfolding long_tree long_body scan_characters scanning_script
skipped_tree pages instr values state =
    let begun = scan_of instr false values in
    scanned_from pages state begun.scanned begun.left begun.address
