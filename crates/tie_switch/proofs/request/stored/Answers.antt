-- The mask and the value within their widths.
use Rattle.tie_switch.proofs.Masks.{powers_rise}
use Rattle.tie_switch.proofs.request.stored.Goals as goal

pub overflow_sub-mask : goal.overflow_sub-mask
overflow_sub-mask c = powers_rise c.args.place c.args.count c.requires.within
