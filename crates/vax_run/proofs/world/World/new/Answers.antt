use Rattle.vax_run.proofs.world.World.new.Goals as goal

pub returns : goal.returns
returns c = record {
  threads = c.in_ok-threads.ensures;
  bytes = c.new.ensures.bytes c.args.image.now;
  gets = c.new.ensures.gets;
  output = c.new.ensures.output;
  references = c.new-2.ensures.items;
}
