use Rattle.vt_words.specs.Quad.{two, four, eight}
use Rattle.vt_words.proofs.Joined.{joined}
use Rattle.alpha_meaning.proofs.byte_laws.join_bytes.Goals as goal

pub returns-clause-word : goal.returns-clause-word
returns-clause-word c = λ first second address held fits crosses. joined first second address fits two crosses

pub returns-clause-longword : goal.returns-clause-longword
returns-clause-longword c = λ first second address held fits crosses. joined first second address fits four crosses

pub returns-clause-quadword : goal.returns-clause-quadword
returns-clause-quadword c = λ first second address held fits crosses. joined first second address fits eight crosses
