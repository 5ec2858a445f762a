-- Probes that go on inside a block.
use Rattle.std.specs.Prelude.{◌≡◌, ◌+◌, ◌&&◌, Bool, false, Option, Some, None, is_none, nat_eq, nat_le}
use Rattle.address_map.specs.Pairs.{address_at}
use Rattle.alpha_encode.specs.declared.instr.AlphaInstr.{AlphaInstr}
use Rattle.alpha_encode.specs.declared.instr.AlphaInstr.TheVariants.{Pal}
use Rattle.alpha_encode.specs.Calls.{PROBE}
use Rattle.alpha_meaning.specs.State.{Alpha, Regs}
use Rattle.block_law.specs.Follows.{probe_count, probe_address}
use Rattle.block_law.specs.Translations.{fetch_of}
use Rattle.exception_records.specs.Points.{point_at}
use Rattle.exception_records.specs.declared.points.Point.{Point}
use Rattle.vax_form.specs.Pages.{first_bad}
use Rattle.vax_form.specs.declared.pages.Pages.{Pages}
use Rattle.prepared_code.specs.Sources.{Source}
use Rattle.prepared_code.specs.declared.probe.TheConstants.{MOST_BYTES}

-- the word there is a probe whose bytes may all be used, and no block begins at the next
pub record Passes (source : Source) (c : Alpha) : Type 0 where
  pub point : Point
  pub calls : fetch_of source.code.words c.pc ≡ Some (Pal PROBE)
  pub known : point_at source.code.points c.pc ≡ Some point
  pub allowed : first_bad source.pages point.write (probe_address c.regs) (probe_count point c.regs) ≡ None
  pub inside : address_at source.code.map (c.pc + 1) ≡ None

-- ---- which of them are told
-- two tests of pages decide on that many bytes; more are left to be asked one by one
abbrev pub is_allowed : Pages → Point → Regs → Bool
is_allowed pages point regs = nat_le (probe_count point regs) MOST_BYTES && is_none (first_bad pages point.write (probe_address regs) (probe_count point regs))

abbrev pub is_allowed_at : Pages → Option Point → Regs → Bool
is_allowed_at pages (Some point) regs = is_allowed pages point regs
is_allowed_at pages None regs = false

abbrev pub is_probe : Option AlphaInstr → Bool
is_probe (Some (Pal number)) = nat_eq number PROBE
is_probe other = false

-- the word there is a probe of at most eight bytes that may all be used, and no block begins at the next
abbrev pub passes : Source → Alpha → Bool
passes source c = is_probe (fetch_of source.code.words c.pc) && is_allowed_at source.pages (point_at source.code.points c.pc) c.regs && is_none (address_at source.code.map (c.pc + 1))
