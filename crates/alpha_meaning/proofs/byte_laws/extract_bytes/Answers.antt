use Rattle.vt_words.specs.Quad.{one, two, four, eight}
use Rattle.vt_words.proofs.Fields.{extracted}
use Rattle.alpha_meaning.proofs.byte_laws.extract_bytes.Goals as goal

pub returns-clause-byte : goal.returns-clause-byte
returns-clause-byte c = λ quad address held fits. extracted quad 0 address fits one

pub returns-clause-word : goal.returns-clause-word
returns-clause-word c = λ quad address held fits. extracted quad 0 address fits two

pub returns-clause-longword : goal.returns-clause-longword
returns-clause-longword c = λ quad address held fits. extracted quad 0 address fits four

pub returns-clause-quadword : goal.returns-clause-quadword
returns-clause-quadword c = λ quad address held fits. extracted quad 0 address fits eight
