-- The laws of trees.
use Rattle.std.proofs.Common.{◌≡◌, ℕ, List, [], ◌∷◌, Bool, Option, Some, None, refl, ap}
use Rattle.vax_form.specs.Pages.{first_bad}
use Rattle.vax_form.specs.declared.pages.Pages.{Pages}
use Rattle.vax_form.specs.declared.state.VaxState.{VaxState}
use Rattle.vax_form.specs.Tree.{Tree, Check, Ask, Fault, Ends, Answer, Wants, Fails, Comes, unless_bad, answer, feed, outcome, head_outcome}
use Rattle.vax_form.specs.TreeLaws.{FeedingTwice, SeenOfTheRest, AnswersAreKept, MoreReplies, ShowsTheOutcome, SameAnswers}

twice_checked : (bad : Option ℕ) (write : Bool) (pages : Pages) (second : List ℕ) (t u : Tree) → feed pages t second ≡ u
    → feed pages (unless_bad bad Fault write t) second ≡ unless_bad bad Fault write u
twice_checked None write pages second t u same = same
twice_checked (Some address) write pages second t u same = refl

pub feeding_twice : FeedingTwice
feeding_twice pages (Check address count write tree) first second = twice_checked (first_bad pages write address count) write pages second _ _ (feeding_twice pages tree first second)
feeding_twice pages (Ask reference on) [] second = refl
feeding_twice pages (Ask reference on) (reply ∷ first) second = feeding_twice pages (on reply) first second
feeding_twice pages (Fault exception) first second = refl
feeding_twice pages (Ends e) first second = refl

rest_checked : (bad : Option ℕ) (write : Bool) (pages : Pages) (second : List ℕ) (before : VaxState) (t : Tree) (u : Answer)
    → outcome before (answer pages t second) ≡ outcome before u
    → outcome before (answer pages (unless_bad bad Fault write t) second) ≡ outcome before (unless_bad bad Fails write u)
rest_checked None write pages second before t u same = same
rest_checked (Some address) write pages second before t u same = refl

pub seen_of_the_rest : SeenOfTheRest
seen_of_the_rest pages (Check address count write tree) first second before = rest_checked (first_bad pages write address count) write pages second before _ _ (seen_of_the_rest pages tree first second before)
seen_of_the_rest pages (Ask reference on) [] second before = refl
seen_of_the_rest pages (Ask reference on) (reply ∷ first) second before = seen_of_the_rest pages (on reply) first second before
seen_of_the_rest pages (Fault exception) first second before = refl
seen_of_the_rest pages (Ends e) first second before = refl

more_checked : (more : List ℕ) (pages : Pages) (bad : Option ℕ) (write : Bool) (t : Tree) (a : Answer) (address count : ℕ) (replies : List ℕ)
    → first_bad pages write address count ≡ bad
    → AnswersAreKept more pages t replies a
    → AnswersAreKept more pages (Check address count write t) replies (unless_bad bad Fails write a)
more_checked more pages None write t (Wants reference) address count replies is kept = rw is kept
more_checked more pages None write t (Fails exception) address count replies is kept = rw is kept
more_checked more pages None write t (Comes e left) address count replies is kept = rw is kept
more_checked more pages (Some bad) write t a address count replies is kept = rw is refl

pub more_replies : MoreReplies
more_replies pages (Check address count write tree) replies more = more_checked more pages (first_bad pages write address count) write tree _ address count replies refl (more_replies pages tree replies more)
more_replies pages (Ask reference on) [] more = refl
more_replies pages (Ask reference on) (reply ∷ replies) more = more_replies pages (on reply) replies more
more_replies pages (Fault exception) replies more = refl
more_replies pages (Ends e) replies more = refl

shown_checked : (bad : Option ℕ) (write : Bool) (before : VaxState) (t : Tree) (a : Answer)
    → head_outcome before t ≡ outcome before a → head_outcome before (unless_bad bad Fault write t) ≡ outcome before (unless_bad bad Fails write a)
shown_checked None write before t a same = same
shown_checked (Some address) write before t a same = refl

pub shows_the_outcome : ShowsTheOutcome
shows_the_outcome pages (Check address count write tree) replies before = shown_checked (first_bad pages write address count) write before _ _ (shows_the_outcome pages tree replies before)
shows_the_outcome pages (Ask reference on) [] before = refl
shows_the_outcome pages (Ask reference on) (reply ∷ replies) before = shows_the_outcome pages (on reply) replies before
shows_the_outcome pages (Fault exception) replies before = refl
shows_the_outcome pages (Ends e) replies before = refl

same_checked : (pages : Pages) (address address' count count' : ℕ) (write write' : Bool) (a a' : Answer) → address ≡ address' → count ≡ count' → write ≡ write' → a ≡ a'
    → unless_bad (first_bad pages write address count) Fails write a ≡ unless_bad (first_bad pages write' address' count') Fails write' a'
same_checked pages address address' count count' write write' a a' at of for is = rw (at, of, for, is) refl

pub same_answers : SameAnswers
same_answers pages (Check address count write tree) (Check address' count' write' tree') replies same answers =
    same_checked pages address address' count count' write write' _ _ same.0 same.1 same.2 (same_answers pages tree tree' replies same.3 answers)
same_answers pages (Ask reference on) (Ask reference' on') [] same answers = ap Wants same.0
same_answers pages (Ask reference on) (Ask reference' on') (reply ∷ replies) same answers = same_answers pages (on reply) (on' reply) replies (same.1 reply answers.0) answers.1
same_answers pages (Fault exception) (Fault exception') replies same answers = ap Fails same
same_answers pages (Ends e) (Ends e') replies same answers = ap (λ end. Comes end replies) same
same_answers pages _ _ replies same answers = absurd same
