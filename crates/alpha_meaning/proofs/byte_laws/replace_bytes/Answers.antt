use Rattle.vt_words.specs.Quad.{one, two, four, eight}
use Rattle.vt_words.proofs.Fields.{replaced}
use Rattle.alpha_meaning.proofs.byte_laws.replace_bytes.Goals as goal

pub returns-clause-byte : goal.returns-clause-byte
returns-clause-byte c = λ quad value address held fits within. replaced quad value address fits one within

pub returns-clause-word : goal.returns-clause-word
returns-clause-word c = λ quad value address held fits within. replaced quad value address fits two within

pub returns-clause-longword : goal.returns-clause-longword
returns-clause-longword c = λ quad value address held fits within. replaced quad value address fits four within

pub returns-clause-quadword : goal.returns-clause-quadword
returns-clause-quadword c = λ quad value address held fits within. replaced quad value address fits eight within
