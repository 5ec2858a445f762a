use Rattle.vt_words.specs.Quad.{two, four, eight}
use Rattle.vt_words.proofs.Fields.{replaced_first, replaced_second}
use Rattle.alpha_meaning.proofs.byte_laws.replace_crossing_bytes.Goals as goal

pub returns-clause-word_first : goal.returns-clause-word_first
returns-clause-word_first c = λ quad value address held fits crosses. replaced_first quad value address fits two crosses

pub returns-clause-word_second : goal.returns-clause-word_second
returns-clause-word_second c = λ quad value address held fits crosses. replaced_second quad value address fits two crosses

pub returns-clause-longword_first : goal.returns-clause-longword_first
returns-clause-longword_first c = λ quad value address held fits crosses. replaced_first quad value address fits four crosses

pub returns-clause-longword_second : goal.returns-clause-longword_second
returns-clause-longword_second c = λ quad value address held fits crosses. replaced_second quad value address fits four crosses

pub returns-clause-quadword_first : goal.returns-clause-quadword_first
returns-clause-quadword_first c = λ quad value address held fits crosses. replaced_first quad value address fits eight crosses

pub returns-clause-quadword_second : goal.returns-clause-quadword_second
returns-clause-quadword_second c = λ quad value address held fits crosses. replaced_second quad value address fits eight crosses
