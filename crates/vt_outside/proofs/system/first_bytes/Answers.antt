-- No list of bytes is longer than what may be taken.
use Rattle.std.proofs.Common.{◌≡◌, ◌<◌, ◌-◌, ◌+◌, ◌^◌, ◌++◌, min, length, take, rules, IfSome}
use Rattle.std.specs.Option.{option_map}
use Rattle.vt_outside.proofs.Known.{first_known}
use Rattle.vt_outside.proofs.system.first_bytes.Goals as goal

pub returns : goal.returns
returns g c =
    let at : c.saturating_add.result ≡ min (c.args.limit + 1) (2 ^ 64 - 1) = search rules in
    let few : length c.read_to_end.new.buf.items < 2 ^ 63 = search rules in
    let read : IfSome (option_map (take c.saturating_add.result) (g.F.Read.remaining c.args.file)) (λ xs. c.read_to_end.new.buf.items ≡ c.new-bytes.result.items ++ xs) = search rules in
    first_known (g.F.Read.remaining c.args.file) c.new-bytes.result.items c.read_to_end.new.buf.items c.saturating_add.result c.args.limit
    c.new-bytes.ensures.items read at few
