use Rattle.std.proofs.Common.{arith}
use Rattle.alpha_encode.proofs.Spelled.{found_of, none_of}
use Rattle.alpha_encode.proofs.decoder.decode.Goals as goal

pub returns-clause-found : goal.returns-clause-found
returns-clause-found c = found_of c.args.word (omega arith) c.read.result c.read.ensures

pub returns-clause-none : goal.returns-clause-none
returns-clause-none c = none_of c.args.word c.read.result c.read.ensures
