-- Laws of scripts and trees.
use Rattle.std.specs.Prelude.{◌≡◌, ℕ, List, ◌++◌, Result, Ok, Err}
use Rattle.vax_form.specs.Script.{Script, Moment, Halt, run, more}
use Rattle.vax_form.specs.Tree.{Tree, Answer, Wants, Fails, Comes, tree_of, answer, feed, outcome, head_outcome, stop_outcome, behind, Same, AnswersTree}
use Rattle.vax_form.specs.declared.pages.Pages.{Pages}
use Rattle.vax_form.specs.declared.state.VaxState.{VaxState}

-- answering the tree of a script is running the script
abbrev pub AnsweringIsRunning : Type 1
AnsweringIsRunning = (A : Type 0) (script : Script A) (moment : Moment) (rest : A → VaxState → Tree)
    → answer moment.pages (tree_of moment.pages script moment.state rest) moment.replies ≡ behind (run script moment) rest

-- what a script's tree comes to when it is fed, where the script came to that result
abbrev pub Feeds : {A : Type 0} → Pages → Tree → (A → VaxState → Tree) → Result (A × Moment) Halt → Type 0
Feeds pages fed rest (Ok (x, moment)) = (moment.pages ≡ pages) × (fed ≡ feed pages (rest x moment.state) moment.replies)
Feeds pages fed rest (Err halt) = (before : VaxState) → head_outcome before fed ≡ stop_outcome before halt.0

-- feeding the tree of a script is running the script
abbrev pub FeedingIsRunning : Type 1
FeedingIsRunning = (A : Type 0) (script : Script A) (moment : Moment) (rest : A → VaxState → Tree)
    → Feeds moment.pages (feed moment.pages (tree_of moment.pages script moment.state rest) moment.replies) rest (run script moment)

-- replies in two lots
abbrev pub FeedingTwice : Type 0
FeedingTwice = (pages : Pages) (tree : Tree) (first second : List ℕ) → feed pages (feed pages tree first) second ≡ feed pages tree (first ++ second)

-- what is seen of a tree with replies in two lots is what is seen of its rest behind the first
abbrev pub SeenOfTheRest : Type 0
SeenOfTheRest = (pages : Pages) (tree : Tree) (first second : List ℕ) (before : VaxState)
    → outcome before (answer pages (feed pages tree first) second) ≡ outcome before (answer pages tree (first ++ second))

abbrev pub AnswersAreKept : List ℕ → Pages → Tree → List ℕ → Answer → Type 0
AnswersAreKept more pages tree replies (Wants reference) = answer pages tree (replies ++ more) ≡ answer pages (feed pages tree replies) more
AnswersAreKept more pages tree replies (Fails exception) = answer pages tree (replies ++ more) ≡ Fails exception
AnswersAreKept more pages tree replies (Comes e left) = answer pages tree (replies ++ more) ≡ Comes e (left ++ more)

-- further replies change nothing of an answer but the replies that are left
abbrev pub MoreReplies : Type 0
MoreReplies = (pages : Pages) (tree : Tree) (replies more : List ℕ) → AnswersAreKept more pages tree replies (answer pages tree replies)

-- the head of what is left of a tree shows what its answer shows
abbrev pub ShowsTheOutcome : Type 0
ShowsTheOutcome = (pages : Pages) (tree : Tree) (replies : List ℕ) (before : VaxState)
    → head_outcome before (feed pages tree replies) ≡ outcome before (answer pages tree replies)

-- trees with the same checks, references and ends have the same answers
abbrev pub SameAnswers : Type 0
SameAnswers = (pages : Pages) (tree other : Tree) (replies : List ℕ) → Same tree other → AnswersTree tree replies
    → answer pages tree replies ≡ answer pages other replies
