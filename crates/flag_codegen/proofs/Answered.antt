-- The rules that are answered are those behind any rules, for each code that is written.
use Rattle.std.proofs.Common.{◌≡◌, refl, Bool}
use Rattle.std.specs.Prelude.{if◌then◌else◌}
use Rattle.micro_ops.specs.Sources.{is_written}
use Rattle.micro_ops.specs.declared.codes.CodeSource.{CodeSource}
use Rattle.micro_ops.specs.declared.codes.CodeSource.TheVariants.{Kept}
use Rattle.exception_records.specs.declared.rules.CodeRule.{CodeRule}
use Rattle.exception_records.specs.declared.rules.CodeRule.TheVariants.{Ready}
use Rattle.code_runs.specs.Rules.{rule_behind}
use Rattle.flag_codegen.specs.Promises.{RulesAreAnswered}

rule_answered : (source : CodeSource) (live : Bool) (before : CodeRule) → rule_behind source live before ≡ (if is_written source then rule_behind source live Ready else before)
rule_answered Kept live before = refl
rule_answered source live before = refl

pub rules_are_answered : RulesAreAnswered
rules_are_answered sources live before =
    rw (rule_answered sources.nzv live.n before.n, rule_answered sources.nzv live.z before.z, rule_answered sources.nzv live.v before.v, rule_answered sources.c live.c before.c) refl
