-- Which condition codes an instruction makes in their registers.
-- Source: own.
use Rattle.std.specs.Prelude.{◌||◌, ◌&&◌, Bool}
use Rattle.vax_form.specs.declared.state.Flags.{Flags}
use Rattle.micro_ops.specs.Sources.{is_written}
use Rattle.micro_ops.specs.declared.codes.CodeSource.{CodeSource}
use Rattle.micro_ops.specs.declared.codes.CodeSources.{CodeSources}
use Rattle.exception_records.specs.Codes.{is_ready}
use Rattle.code_runs.specs.Rules.{rule_of}

-- a code is made in its register where it is written, and is live or has no rule
abbrev pub is_made : CodeSource → (live : Bool) → Bool
is_made source live = is_written source && (live || is_ready (rule_of source))

abbrev pub codes_made : CodeSources → (live : Flags) → Flags
codes_made sources live = record {
  n = is_made sources.nzv live.n;
  z = is_made sources.nzv live.z;
  v = is_made sources.nzv live.v;
  c = is_made sources.c live.c;
}
