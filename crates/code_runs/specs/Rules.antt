-- By which rule each condition code is told behind an instruction.
-- Source: own; the codes are those of the VAX Architecture Reference Manual, "Processor Status Longword".
use Rattle.std.specs.Prelude.{if◌then◌else◌, Bool}
use Rattle.vax_form.specs.declared.state.Flags.{Flags}
use Rattle.micro_ops.specs.declared.codes.CodeSource.{CodeSource}
use Rattle.micro_ops.specs.declared.codes.CodeSource.TheVariants as source
use Rattle.micro_ops.specs.declared.codes.CodeSources.{CodeSources}
use Rattle.exception_records.specs.declared.rules.CodeRule.{CodeRule}
use Rattle.exception_records.specs.declared.rules.CodeRule.TheVariants as rule
use Rattle.exception_records.specs.declared.rules.Rules.{Rules}

-- The rule that tells the codes from the operands. Codes that are computed, and those of a new processor status word, have
-- none: they are made.
abbrev pub rule_of : CodeSource → CodeRule
rule_of source.Kept = rule.Ready
rule_of source.Zero = rule.Zero
rule_of (source.Result size) = rule.Result size
rule_of (source.Add size) = rule.Add size
rule_of (source.Sub size) = rule.Sub size
rule_of (source.Compare size) = rule.Compare size
rule_of (source.Computed size) = rule.Ready
rule_of source.Psw = rule.Ready

-- a code that isn't written keeps its rule; one that is written is ready where it is live, else it has the rule of its source
abbrev pub rule_behind : CodeSource → (live : Bool) → (before : CodeRule) → CodeRule
rule_behind source.Kept live before = before
rule_behind source live before = if live then rule.Ready else rule_of source

abbrev pub rules_behind : CodeSources → (live : Flags) → (before : Rules) → Rules
rules_behind sources live before = record {
  n = rule_behind sources.nzv live.n before.n;
  z = rule_behind sources.nzv live.z before.z;
  v = rule_behind sources.nzv live.v before.v;
  c = rule_behind sources.c live.c before.c;
}
