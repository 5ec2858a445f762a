-- What the file and the input decide on a run.
use Rattle.std.proofs.Common.{◌≡◌, ◌<◌, ◌≤◌, ◌+◌, ℕ, List, ◌++◌, length, length-append, arith, false, nat_lt, Option, None, Some, ap, ◌∙◌, subst, append-nil, inl, inr, Result, Ok, Err, IfErr, IfOk}
use Rattle.std.specs.Io.KnownBytes.{Consumes, IsAtEnd}
use Rattle.std.proofs.lemmas.Bool.{lt-ltb, le-ltb}
use Rattle.vt_outside.specs.Desk.{DeskMeaning, Files}
use Rattle.vt_outside.specs.Source.{SourceMeaning}
use Rattle.image_meaning.specs.declared.target.Target.{Target}
use Rattle.image_file.specs.Values.{ImageValue}
use Rattle.block_law.specs.Translations.{Code}
use Rattle.vest_stops.specs.Decided.{Decision, goes_on, IsDecided, StopsAsDecided}
use Rattle.vest_files.specs.Loading.{Loads}
use Rattle.vest_files.proofs.Deciding.{load_goes, load_stops}
use Rattle.vest_stops.specs.declared.stop.Stop.{Stop}
use Rattle.vest_stops.specs.declared.stop.Stop.TheVariants.{Absent, Refused, ReadFault, TooLong, WantOfMemory}
use Rattle.vest_runs.specs.Input.{DecidesInput, ReadsAll, StopsAtInput}
use Rattle.vest_cli.specs.Run.{DecidesBehind, DecidesRun, StopsRun}
use Rattle.vest_runs.specs.Limits.{INPUT_LIMIT}

stops_at_load : (stop : Stop) (at d : Decision) (input : Option (List ℕ)) → StopsAsDecided stop at → DecidesBehind at input d → StopsAsDecided stop d
stops_at_load Absent at d input h e = subst (λ (x : Decision). DecidesBehind x input d) h e
stops_at_load (Refused refusal) at d input h e = subst (λ (x : Decision). DecidesBehind x input d) h e
stops_at_load ReadFault at d input h e = tt
stops_at_load TooLong at d input h e = subst (λ (x : Decision). DecidesBehind x input d) h e
stops_at_load WantOfMemory at d input h e = tt

decides_input : (at d : Decision) (input : Option (List ℕ)) → at ≡ goes_on → DecidesBehind at input d → DecidesInput input d
decides_input at d input h e = subst (λ (x : Decision). DecidesBehind x input d) h e

-- a source that gave so many bytes had them
given_of : (input : List ℕ) (left : Option (List ℕ)) (bytes : List ℕ) → Consumes (Some input) left bytes → length bytes ≤ length input
given_of input None bytes h = absurd h
given_of input (Some rest) bytes h = let count : length input ≡ length bytes + length rest = ap length h ∙ length-append bytes rest in omega (arith, count)

stops_for : (stop : Stop) (left : Option (List ℕ)) (n : ℕ) (new : SourceMeaning) (d : Decision)
    → StopsAtInput stop (record { left = left; faults = n }) new → DecidesInput left d → StopsAsDecided stop d
stops_for stop None n new d h e = absurd e
stops_for Absent (Some input) n new d h e = absurd h
stops_for (Refused refusal) (Some input) n new d h e = absurd h
stops_for ReadFault (Some input) n new d h e = tt
stops_for TooLong (Some input) n new d h e =
    let long : INPUT_LIMIT < length input = omega (arith, given_of input new.left h.bytes h.read, h.enough) in
    rw (lt-ltb INPUT_LIMIT (length input) long) at e
stops_for WantOfMemory (Some input) n new d h e = tt

stops_at_input : (stop : Stop) (old new : SourceMeaning) (at d : Decision) → at ≡ goes_on → StopsAtInput stop old new → DecidesBehind at old.left d
    → StopsAsDecided stop d
stops_at_input stop old new at d goes h e = stops_for stop old.left old.faults new d h (decides_input at d old.left goes e)

all_read : (input bytes : List ℕ) (left : Option (List ℕ)) → Consumes (Some input) left bytes → IsAtEnd left → input ≡ bytes
all_read input bytes None h e = absurd h
all_read input bytes (Some rest) h e = h ∙ ap (λ t. bytes ++ t) e ∙ append-nil bytes

goes_by : (left : Option (List ℕ)) (n : ℕ) (new : SourceMeaning) (bytes : List ℕ) (d : Decision)
    → ReadsAll (record { left = left; faults = n }) new bytes → DecidesInput left d → d ≡ goes_on
goes_by None n new bytes d read e = absurd e
goes_by (Some input) n new bytes d read e =
    let same : input ≡ bytes = all_read input bytes new.left read.read read.end in
    let short : nat_lt INPUT_LIMIT (length input) ≡ false =
    ap (λ b. nat_lt INPUT_LIMIT (length b)) same ∙ le-ltb INPUT_LIMIT (length bytes) read.short in
    rw short at e

run_goes : (old new : SourceMeaning) (bytes : List ℕ) (at d : Decision) → at ≡ goes_on → ReadsAll old new bytes → DecidesBehind at old.left d → d ≡ goes_on
run_goes old new bytes at d goes read e = goes_by old.left old.faults new bytes d read (decides_input at d old.left goes e)

run_stops : (stop : Stop) (asked : Target) (name : List ℕ) (desk desk' : DeskMeaning) (input input' : SourceMeaning) (d : Decision) → StopsRun stop asked name desk desk' input input'
    → DecidesRun desk.files name input.left d → StopsAsDecided stop d
run_stops stop asked name desk desk' input input' d (inl h) e =
    stops_at_load stop e.at_load d input.left (load_stops stop name desk desk' e.at_load h.0 e.load) e.behind
run_stops stop asked name desk desk' input input' d (inr (image, target, code, loaded, h)) e =
    stops_at_input stop input input' e.at_load d (load_goes asked desk.files name image target code e.at_load loaded e.load) h e.behind

pub run_decided : {X : Type 0} (r : Result X Stop) (d : Decision) (asked : Target) (name : List ℕ) (desk desk' : DeskMeaning) (input input' : SourceMeaning)
    → IfErr r (λ stop. StopsRun stop asked name desk desk' input input') → IfOk r (λ _. d ≡ goes_on) → DecidesRun desk.files name input.left d → IsDecided r d
run_decided (Ok x) d asked name desk desk' input input' err ok e = ok
run_decided (Err stop) d asked name desk desk' input input' err ok e = run_stops stop asked name desk desk' input input' d err e

pub runs_on : (asked : Target) (files : Option Files) (name : List ℕ) (image : ImageValue) (target : Target) (code : Code) (input input' : SourceMeaning) (bytes : List ℕ) (d : Decision)
    → Loads asked files name image target code → ReadsAll input input' bytes → DecidesRun files name input.left d → d ≡ goes_on
runs_on asked files name image target code input input' bytes d loaded read e =
    run_goes input input' bytes e.at_load d (load_goes asked files name image target code e.at_load loaded e.load) read e.behind
