-- the blocks so far; nothing but the registers has changed
use Rattle.std.proofs.Common.{◌≡◌, ◌≤◌, ◌-◌, []}
use Rattle.tie_switch.specs.Glides.{Glided}
use Rattle.tie_switch.specs.Inside.{source_in}
use Rattle.tie_switch.specs.Settings.{image_setting}
use Rattle.tie_switch.proofs.Courses.{Glides}
use Rattle.tie_switch.proofs.course.Course.glide.Given as goal

abbrev pub invariant-loop-made : goal.invariant-loop-made
invariant-loop-made l =
    let s = image_setting l.prepared.pages l.prepared.code [] in
    record {
      most : l.made ≤ l.most;
      few : l.crossed ≤ l.made;
      same : l.self ≡ record l.initial.self { cpu = l.self.cpu };
      glided : Glided l.prepared.code l.most l.initial.self.cpu l.self.cpu l.made;
      glides : Glides s (source_in s l.prepared.pages) l.initial.self l.self.cpu l.made l.crossed;
    }

abbrev pub decreases-loop-made : goal.decreases-loop-made
decreases-loop-made l = l.most - l.made
