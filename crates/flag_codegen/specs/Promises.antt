-- What is promised of the words of condition codes, and of the rules behind them.
use Rattle.std.specs.Prelude.{◌≡◌, ℕ, if◌then◌else◌}
use Rattle.vax_form.specs.declared.state.Flags.{Flags}
use Rattle.micro_ops.specs.Sources.{codes_written_by}
use Rattle.micro_ops.specs.declared.codes.CodeSources.{CodeSources}
use Rattle.exception_records.specs.Codes.{all_ready}
use Rattle.exception_records.specs.declared.rules.Rules.{Rules}
use Rattle.code_runs.specs.Rules.{rules_behind}

-- the most words that leave the condition codes of an instruction
abbrev pub most_words : ℕ
most_words = 10

-- these rules for the codes that are written, and those before for the others
abbrev pub where_written : (written : Flags) → (rules before : Rules) → Rules
where_written written rules before = record {
  n = if written.n then rules.n else before.n;
  z = if written.z then rules.z else before.z;
  v = if written.v then rules.v else before.v;
  c = if written.c then rules.c else before.c;
}

-- Behind an instruction each code that it writes has the rule that it has where all codes are ready before, whatever the rules
-- before; the others keep theirs.
abbrev pub RulesAreAnswered : Type 0
RulesAreAnswered = (sources : CodeSources) (live : Flags) (before : Rules)
    → rules_behind sources live before ≡ where_written (codes_written_by sources) (rules_behind sources live all_ready) before
