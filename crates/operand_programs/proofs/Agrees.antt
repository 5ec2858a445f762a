-- A course does what a tree does, with a fact at each place where it leaves.
pub use Rattle.operand_programs.specs.Pieces.{Agrees}
use Rattle.vax_form.specs.Tree.{Tree, Same}
use Rattle.vax_form.specs.Tree as trees
use Rattle.micro_ops.specs.Course.{Course, Check, Ask, Fault, Leaves, continued, AtLeaves}

-- the tree of the course is the tree
pub agreed : {A : Type 0} (P : A → Type 0) (rest : A → Tree) (course : Course A) (tree : Tree) → Agrees P rest course tree → Same (continued course rest) tree
agreed P rest (Check address count write course) (trees.Check address' count' write' tree) agrees = (agrees.0, agrees.1, agrees.2, agreed P rest course tree agrees.3)
agreed P rest (Ask reference on) (trees.Ask reference' on') agrees = (agrees.0, λ reply answers. agreed P rest (on reply) (on' reply) (agrees.1 reply answers))
agreed P rest (Fault exception) (trees.Fault exception') agrees = agrees
agreed P rest (Leaves x) tree agrees = agrees.1
agreed P rest _ _ agrees = absurd agrees

-- the fact holds where the course leaves
pub held : {A : Type 0} (P : A → Type 0) (rest : A → Tree) (course : Course A) (tree : Tree) → Agrees P rest course tree → AtLeaves P course
held P rest (Check address count write course) (trees.Check address' count' write' tree) agrees = held P rest course tree agrees.3
held P rest (Ask reference on) (trees.Ask reference' on') agrees = λ reply answers. held P rest (on reply) (on' reply) (agrees.1 reply answers)
held P rest (Fault exception) (trees.Fault exception') agrees = tt
held P rest (Leaves x) tree agrees = agrees.0
held P rest _ _ agrees = absurd agrees
