-- The program's command line: what clap's clauses say of it.
use Rattle.std.proofs.Common.{◌≡◌, ◌∙◌, true, false, codes, refl, sym, ap, List, [], ◌∷◌, Option, Some, None}
use Rattle.std.specs.List.{list_all}
use Rattle.std.specs.Prelude.{MatchOption}
use Rattle.clap.specs.Walk.{Row}
use Rattle.clap.specs.Simple.{entered, is_simple}
use Rattle.clap.specs.Words.{fault_of, is_simple_and_free, IsAmong, Kinds, subcommand_of, subcommand_rows_of}
use Rattle.clap.specs.Faults.{built_fault}
use Rattle.clap.specs.Walk.{nothing_held}
use Rattle.clap.specs.declared.error.kind.ErrorKind.{ErrorKind}
use Rattle.clap.specs.declared.parser.matches.ArgMatches.{ArgMatches}
use Rattle.command_words.specs.Parts.{Text}
use Rattle.command_words.specs.Forms.{line_of}
use Rattle.command_words.specs.Commands.{forms}
use Rattle.command_words.specs.App.{FitsLine, MatchesLine, vest_app}
use Rattle.command_words.proofs.Walks.{clean, when}
use Rattle.command_words.proofs.Lines.{line, line_app, line_rows, spelled_rows, stop_at}
use Rattle.command_words.proofs.Spelled.{is_good, none_spelled, some_spelled}

pub is_covered : is_simple_and_free vest_app ≡ true
is_covered = refl

pub is_simple_line : is_simple vest_app ≡ true
is_simple_line = refl

all_good : list_all is_good forms ≡ true
all_good = refl

line_is : (words : List Text) → line_rows (codes "vest") forms words ≡ spelled_rows forms words
line_is words = line (codes "vest") forms refl words

fault_is : (words : List Text) → fault_of vest_app words ≡ built_fault (line_app (codes "vest") forms) nothing_held words
fault_is words = refl

-- clap finds no fault: the matches are those of the line that the words spell
pub ok_line : (words : List Text) (m : ArgMatches) → fault_of vest_app words ≡ [] → subcommand_rows_of m ≡ subcommand_of vest_app words → MatchesLine words m
ok_line words m none rows = go (subcommand_rows_of m) (sym (line_is words) ∙ ap (λ (k : Kinds). when (clean k) (subcommand_of vest_app words)) none ∙ sym rows)
  where
    go : (o : Option (Text × List Row)) → spelled_rows forms words ≡ o → MatchOption o (line_of forms words ≡ None) (FitsLine words)
    go None e = none_spelled forms all_good words e
    go (Some (title, found)) e = some_spelled forms all_good words title found e

-- clap finds a fault: they spell none
pub no_line : (words : List Text) (k : ErrorKind) → IsAmong k (fault_of vest_app words) → line_of forms words ≡ None
no_line words k among = none_spelled forms all_good words (sym (line_is words) ∙ ap (λ b. when b (entered (line_app (codes "vest") forms) (stop_at (codes "vest") forms words))) (faulty (fault_of vest_app words) among))
  where
    faulty : (ks : Kinds) → IsAmong k ks → clean ks ≡ false
    faulty [] h = absurd h
    faulty (x ∷ xs) h = refl
