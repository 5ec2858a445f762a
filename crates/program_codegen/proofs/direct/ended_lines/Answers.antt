use Rattle.std.proofs.Common.{sym, ◌∙◌}
use Rattle.program_codegen.proofs.HomePushing.{end_fits}
use Rattle.program_codegen.proofs.direct.ended_lines.Goals as goal

pub direct_end-requires-clause-exit : goal.direct_end-requires-clause-exit
direct_end-requires-clause-exit c =
    end_fits c.args.site.sources c.args.operation c.args.behind.now c.in-Some.commit c.in-Some.exit c.requires.words (sym c.end_at.ensures.end ∙ c.in-Some.is)
