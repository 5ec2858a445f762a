-- Bytes that came in so far.
use Rattle.std.proofs.Common.{◌≡◌, ◌<◌, ◌≤◌, ◌+◌, ◌++◌, ◌∙◌, ℕ, List, Result, Ok, Err, IfErr, length, ap, arith, length-append, zero-le, subst, sym}
use Rattle.std.specs.Io.KnownBytes.{Consumes, Keeps}
use Rattle.std.proofs.KnownBytes.{Consumes-kept, Consumes-trans}
use Rattle.vt_outside.specs.Causes.{Rose}
use Rattle.vt_outside.specs.Source.{SourceMeaning}
use Rattle.vest_stops.specs.declared.stop.Stop.{Stop}
use Rattle.vest_stops.specs.declared.stop.Stop.TheVariants.{WantOfMemory}
use Rattle.vest_runs.specs.Input.{HasGiven, StopsAtInput}

-- these bytes came, one in each turn at least, and the source's count has not fallen
pub record HasRead (old new : SourceMeaning) (bytes : List ℕ) (turn : ℕ) : Type 0 where
  pub some : turn ≤ length bytes
  pub short : length bytes ≤ 65536
  pub read : Consumes old.left new.left bytes
  pub later : old.faults ≤ new.faults

-- one turn more
pub has_read_more : (old mid new : SourceMeaning) (bytes more all : List ℕ) (turn : ℕ) → HasRead old mid bytes turn → Consumes mid.left new.left more
    → mid.faults ≤ new.faults → 1 ≤ length more → all ≡ bytes ++ more → length all ≤ 65536 → HasRead old new all (turn + 1)
has_read_more old mid new bytes more all turn before came later some is short =
    let count : length all ≡ length bytes + length more = ap length is ∙ length-append bytes more in
    record {
      some = omega (arith, before.some, some, count);
      short = short;
      read = subst (Consumes old.left new.left) (sym is) (Consumes-trans old.left mid.left new.left bytes more before.read came);
      later = omega (arith, before.later, later);
    }

-- what a turn brought came behind the bytes so far
has_given_more : (least : ℕ) (old mid new : SourceMeaning) (bytes more : List ℕ) (turn : ℕ) → HasRead old mid bytes turn → Consumes mid.left new.left more
    → least ≤ length bytes + length more → length bytes + length more ≤ 65537 → HasGiven least 65537 old new
has_given_more least old mid new bytes more turn before came enough few =
    let count : length (bytes ++ more) ≡ length bytes + length more = length-append bytes more in
    record {
      bytes = bytes ++ more;
      enough = omega (arith, count, enough);
      few = omega (arith, count, few);
      read = Consumes-trans old.left mid.left new.left bytes more before.read came;
    }

-- a turn brought one byte more than there may be
pub has_given_too_many : (old mid new : SourceMeaning) (bytes more all : List ℕ) (turn : ℕ) → HasRead old mid bytes turn → Consumes mid.left new.left more
    → length bytes + length more ≤ 65537 → all ≡ bytes ++ more → 65536 < length all → HasGiven 65537 65537 old new
has_given_too_many old mid new bytes more all turn before came few is long =
    let count : length all ≡ length bytes + length more = ap length is ∙ length-append bytes more in
    has_given_more 65537 old mid new bytes more turn before came (omega (arith, count, long)) few

-- or there was no memory for what it brought
pub has_given_some : (old mid new : SourceMeaning) (bytes more : List ℕ) (turn : ℕ) → HasRead old mid bytes turn → Consumes mid.left new.left more
    → length bytes + length more ≤ 65537 → HasGiven 0 65537 old new
has_given_some old mid new bytes more turn before came few = has_given_more 0 old mid new bytes more turn before came zero-le few

pub stops_for_want : {X : Type 0} (r : Result X Stop) (old new : SourceMeaning) → IfErr r (λ stop. stop ≡ WantOfMemory) → HasGiven 0 65537 old new
    → IfErr r (λ stop. StopsAtInput stop old new)
stops_for_want (Ok x) old new want given = tt
stops_for_want (Err stop) old new want given = subst (λ (s : Stop). StopsAtInput s old new) (sym want) given
