-- The steps that lead to a history are those of its entries: no others lead to it.
use Rattle.std.proofs.Common.{◌≡◌, ℕ, ◌⊎◌, inl, inr, Bool, List, [], ◌∷◌, ◌++◌, length, refl, sym, ap, ◌∙◌, arith, append_assoc, length-append}
use Rattle.memory_core.specs.declared.entry.Entry.{Entry}
use Rattle.memory_core.specs.declared.entry.Request.{Request}
use Rattle.system_model.specs.Processors.{Processor, Went, Asks, Reaches, Begins, Steps, Takes, entry_by, turn}
use Rattle.system_model.specs.Settings.{Setting}
use Rattle.vest_core.specs.Progress.{Told, progress, told_behind}

-- one of the lists begins with entries that are not in the other
abbrev IsLonger : (xs ys : List Entry) → Type 0
IsLonger xs ys = ((more : List Entry) × (xs ≡ more ++ ys)) ⊎ ((more : List Entry) × (ys ≡ more ++ xs))

turned : (xs ys : List Entry) → IsLonger xs ys → IsLonger ys xs
turned xs ys (inl l) = inr l
turned xs ys (inr l) = inl l

first_of : (x y : Entry) (xs ys : List Entry) → x ∷ xs ≡ y ∷ ys → x ≡ y
first_of x y xs ys e = cc e

rest_of : (x y : Entry) (xs ys : List Entry) → x ∷ xs ≡ y ∷ ys → xs ≡ ys
rest_of x y xs ys e = cc e

-- without the newest entry of one
without_one : (xs : List Entry) (y : Entry) (ys : List Entry) → IsLonger xs (y ∷ ys) → IsLonger xs ys
without_one xs y ys (inl l) = inl (l.0 ++ y ∷ [], l.1 ∙ sym (append_assoc l.0 (y ∷ []) ys))
without_one xs y ys (inr ([], is)) = inl (y ∷ [], sym is)
without_one xs y ys (inr (m ∷ more, is)) = inr (more, rest_of y m ys (more ++ xs) is)

-- without the newest entry of both
without_both : (x y : Entry) (xs ys : List Entry) → IsLonger (x ∷ xs) (y ∷ ys) → IsLonger xs ys
without_both x y xs ys (inl ([], is)) = inl ([], rest_of x y xs ys is)
without_both x y xs ys (inl (m ∷ more, is)) = inl (more ++ y ∷ [], rest_of x m xs (more ++ y ∷ ys) is ∙ sym (append_assoc more (y ∷ []) ys))
without_both x y xs ys (inr ([], is)) = inr ([], rest_of y x ys xs is)
without_both x y xs ys (inr (m ∷ more, is)) = inr (more ++ x ∷ [], rest_of y m ys (more ++ x ∷ xs) is ∙ sym (append_assoc more (x ∷ []) xs))

-- the newest of both is the same, where the rest is
same_first : (x y : Entry) (xs ys : List Entry) → xs ≡ ys → IsLonger (x ∷ xs) (y ∷ ys) → x ≡ y
same_first x y xs ys same (inl ([], is)) = first_of x y xs ys is
same_first x y xs ys same (inl (m ∷ more, is)) =
    absurd (omega (arith, ap length (rest_of x m xs (more ++ y ∷ ys) is), length-append more (y ∷ ys), ap length same))
same_first x y xs ys same (inr ([], is)) = sym (first_of y x ys xs is)
same_first x y xs ys same (inr (m ∷ more, is)) =
    absurd (omega (arith, ap length (rest_of y m ys (more ++ x ∷ xs) is), length-append more (x ∷ xs), ap length same))

-- the same entries, processor and lines
record IsSame (mine mine' : List Entry) (p p' : Processor) (told told' : Told) : Type 0 where
  entries : mine ≡ mine'
  processor : p ≡ p'
  lines : told ≡ told'

module _ (setting : Setting) (first : Processor) (every : ℕ) where
  went_same : (p p' q q' : Processor) → p ≡ p' → turn setting p ≡ Went q → turn setting p' ≡ Went q' → q ≡ q'
  went_same p p' q q' same e e' =
      let both : Went q ≡ Went q' = sym e ∙ ap (turn setting) same ∙ e' in
      cc both

  apart : (p p' q : Processor) (request : Request) (on : ℕ → Bool → Processor) → p ≡ p' → turn setting p ≡ Went q → turn setting p' ≡ Asks request on → ⊥
  apart p p' q request on same e e' =
      let both : Went q ≡ Asks request on = sym e ∙ ap (turn setting) same ∙ e' in
      absurd (cc both)

  told_same : (p p' q q' : Processor) (told told' : Told) → p ≡ p' → q ≡ q' → told ≡ told' → told_behind every p q told ≡ told_behind every p' q' told'
  told_same p p' q q' told told' e f h = ap (λ (x : Processor). told_behind every x q told) e ∙ ap (λ (y : Processor). told_behind every p' y told) f ∙ ap (told_behind every p' q') h

  asked_same : (p p' : Processor) (request request' : Request) (on on' : ℕ → Bool → Processor) (before before' : ℕ) (success success' : Bool) → p ≡ p'
      → turn setting p ≡ Asks request on → turn setting p' ≡ Asks request' on' → entry_by request before success ≡ entry_by request' before' success' → on before success ≡ on' before' success'
  asked_same p p' request request' on on' before before' success success' same e e' entry =
      let both : Asks request on ≡ Asks request' on' = sym e ∙ ap (turn setting) same ∙ e' in
      let goes : on ≡ on' = cc both in
      let found : before ≡ before' = ap (λ (x : Entry). x.before) entry in
      let succeeded : success ≡ success' = ap (λ (x : Entry). x.success) entry in
      cc (goes, found, succeeded)

  lead_same : (n n' : ℕ) (mine mine' : List Entry) (p p' : Processor) → n ≡ n' → IsLonger mine mine' → (r : Reaches setting first n mine p) (r' : Reaches setting first n' mine' p')
      → IsSame mine mine' p p' (progress every r) (progress every r')
  lead_same n n' mine mine' p p' count longer Begins Begins = record { entries = refl; processor = refl; lines = refl }
  lead_same n n' mine mine' p p' count longer Begins (Steps r' e') = absurd (cc count)
  lead_same n n' mine mine' p p' count longer Begins (Takes r' e' before' success') = absurd (cc count)
  lead_same n n' mine mine' p p' count longer (Steps r e) Begins = absurd (cc count)
  lead_same n n' mine mine' p p' count longer (Takes r e before success) Begins = absurd (cc count)
  lead_same n n' mine mine' p p' count longer (Steps {n = m} {p = x} r e) (Steps {n = m'} {p = x'} r' e') =
      let h = lead_same m m' mine mine' x x' (omega (arith, count)) longer r r' in
      let here = went_same x x' p p' h.processor e e' in
      record { entries = h.entries; processor = here; lines = told_same x x' p p' (progress every r) (progress every r') h.processor here h.lines }
  lead_same n n' mine mine' p p' count longer (Steps {n = m} {p = x} r e) (Takes {n = m'} {mine = past'} {p = x'} {request = request'} {on = on'} r' e' before' success') =
      let h = lead_same m m' mine past' x x' (omega (arith, count)) (without_one mine (entry_by request' before' success') past' longer) r r' in
      absurd (apart x x' p request' on' h.processor e e')
  lead_same n n' mine mine' p p' count longer (Takes {n = m} {mine = past} {p = x} {request = request} {on = on} r e before success) (Steps {n = m'} {p = x'} r' e') =
      let h = lead_same m m' past mine' x x' (omega (arith, count)) (turned mine' past (without_one mine' (entry_by request before success) past (turned (entry_by request before success ∷ past) mine' longer))) r r' in
      absurd (apart x' x p' request on (sym h.processor) e' e)
  lead_same n n' mine mine' p p' count longer (Takes {n = m} {mine = past} {p = x} {request = request} {on = on} r e before success)
      (Takes {n = m'} {mine = past'} {p = x'} {request = request'} {on = on'} r' e' before' success') =
      let entry = entry_by request before success in
      let entry' = entry_by request' before' success' in
      let h = lead_same m m' past past' x x' (omega (arith, count)) (without_both entry entry' past past' longer) r r' in
      let newest : entry ≡ entry' = same_first entry entry' past past' h.entries longer in
      let here = asked_same x x' request request' on on' before before' success success' h.processor e e' newest in
      record {
        entries = ap (λ (y : Entry). y ∷ past) newest ∙ ap (λ (l : List Entry). entry' ∷ l) h.entries;
        processor = here;
        lines = told_same x x' (on before success) (on' before' success') (progress every r) (progress every r') h.processor here h.lines;
      }

  pub same_told : (n n' : ℕ) (mine mine' : List Entry) (p p' : Processor) → n ≡ n' → mine ≡ mine' → (r : Reaches setting first n mine p) (r' : Reaches setting first n' mine' p')
      → progress every r ≡ progress every r'
  same_told n n' mine mine' p p' count same r r' = (lead_same n n' mine mine' p p' count (inl ([], same)) r r').lines
