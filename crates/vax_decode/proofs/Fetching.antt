-- Fetching run by run.
use Rattle.std.proofs.Common.{◌≡◌, ℕ, zero, suc, ◌+◌, ◌-◌, ◌<◌, ◌≤◌, List, [], ◌∷◌, ◌++◌, length, take, Option, Some, None, refl, sym, ap, ◌∙◌, arith, append-nil, append_assoc, length-append, length-drop, drop, drop-cons, add-one, subst}
use Rattle.std.specs.Prelude.{slice_index, find, option_map, ◌^◌}
use Rattle.std.proofs.lemmas.List.{length-take-le}
use Rattle.std.proofs.Math.Seq.{take-append_seam}
use Rattle.vax_form.specs.Pages.{code_byte_at, code_from, has_code, AreCode}
use Rattle.vax_form.specs.declared.pages.Pages.{Pages}
use Rattle.vax_form.specs.Grammar.{wrapped}
use Rattle.vax_form.specs.GrammarFound.{fetched, in_front_of}

fetched-none : (pages : Pages) (at n : ℕ) → 0 < n → code_byte_at pages (wrapped at) ≡ None → fetched pages at n ≡ []
unfolding fetched
fetched-none pages at zero h e = absurd (omega arith)
fetched-none pages at (suc n) h e = ap (λ o. in_front_of o (fetched pages (at + 1) n)) e

fetched-some : (pages : Pages) (at n b : ℕ) → 0 < n → code_byte_at pages (wrapped at) ≡ Some b
    → fetched pages at n ≡ b ∷ fetched pages (at + 1) (n - 1)
unfolding fetched
fetched-some pages at zero b h e = absurd (omega arith)
fetched-some pages at (suc n) b h e =
    let less : n ≡ suc n - 1 = omega arith in
    ap (λ o. in_front_of o (fetched pages (at + 1) n)) e ∙ ap (λ k. b ∷ fetched pages (at + 1) k) less

-- bytes that stand in the code one after the other are fetched one after the other
fetched-run : (n : ℕ) (pages : Pages) (at most k : ℕ) (run : List ℕ) → AreCode pages (wrapped at) run → k + n ≤ length run → n ≤ most
    → fetched pages (at + k) most ≡ take n (drop k run) ++ fetched pages (at + k + n) (most - n)
fetched-run zero pages at most k run code enough room =
    let here : at + k ≡ at + k + 0 = omega arith in
    let left : most ≡ most - 0 = omega arith in
    ap (λ a. fetched pages a most) here ∙ ap (λ m. fetched pages (at + k + 0) m) left
fetched-run (suc n) pages at most k run code enough room =
    let low : wrapped at + length run ≤ 2 ^ 31 = code.low in
    let within : k < length run = omega arith in
    let plain : wrapped (at + k) ≡ wrapped at + k = omega arith in
    let stands : code_byte_at pages (wrapped (at + k)) ≡ Some (slice_index run k) = ap (λ a. code_byte_at pages a) plain ∙ code.stand k within in
    let first = fetched-some pages (at + k) most (slice_index run k) (omega arith) stands in
    let next : at + k + 1 ≡ at + (k + 1) = omega arith in
    let others = fetched-run n pages at (most - 1) (k + 1) run code (omega arith) (omega arith) in
    let behind : at + (k + 1) + n ≡ at + k + suc n = omega arith in
    let left : most - 1 - n ≡ most - suc n = omega arith in
    let split : take (suc n) (drop k run) ≡ slice_index run k ∷ take n (drop (k + 1) run) = rw (drop-cons run k 0 within, add-one) refl in
    first ∙ ap (λ a. slice_index run k ∷ fetched pages a (most - 1)) next ∙ ap (λ l. slice_index run k ∷ l) others
    ∙ ap (λ a. slice_index run k ∷ (take n (drop (k + 1) run) ++ fetched pages a (most - 1 - n))) behind
    ∙ ap (λ m. slice_index run k ∷ (take n (drop (k + 1) run) ++ fetched pages (at + k + suc n) m)) left
    ∙ ap (λ l. l ++ fetched pages (at + k + suc n) (most - suc n)) (sym split)

-- i bytes were fetched, and those that are left to fetch stand behind them
pub record Fetching (pages : Pages) (pc i : ℕ) (bytes : List ℕ) : Type 0 where
  pub room : length bytes ≡ 64
  pub whole : take i bytes ++ fetched pages (pc + i) (64 - i) ≡ fetched pages pc 64

pub fetching_begun : (pages : Pages) (pc : ℕ) (bytes : List ℕ) → length bytes ≡ 64 → Fetching pages pc 0 bytes
fetching_begun pages pc bytes room =
    let same : pc + 0 ≡ pc = omega arith in
    record { room = room; whole = ap (λ a. fetched pages a 64) same }

pub fetching_run : (pages : Pages) (pc i n : ℕ) (bytes run : List ℕ) → AreCode pages (wrapped (pc + i)) run → n ≤ length run → i + n ≤ 64
    → Fetching pages pc i bytes → Fetching pages pc (i + n) (take i bytes ++ (take n run ++ drop n (drop i bytes)))
fetching_run pages pc i n bytes run code enough below f =
    let room : length bytes ≡ 64 = f.room in
    let front : length (take i bytes) ≡ i = length-take-le i bytes (omega arith) in
    let new : length (take n run) ≡ n = length-take-le n run enough in
    let both : length (take i bytes ++ take n run) ≡ i + n = length-append (take i bytes) (take n run) ∙ ap (λ k. k + length (take n run)) front ∙ ap (λ k. i + k) new in
    let back : length (drop n (drop i bytes)) ≡ 64 - i - n = length-drop n (drop i bytes) ∙ ap (λ k. k - n) (length-drop i bytes ∙ ap (λ k. k - i) room) in
    let regrouped : (take i bytes ++ take n run) ++ drop n (drop i bytes) ≡ take i bytes ++ (take n run ++ drop n (drop i bytes)) =
    append_assoc (take i bytes) (take n run) (drop n (drop i bytes)) in
    let size : length ((take i bytes ++ take n run) ++ drop n (drop i bytes)) ≡ 64 =
    length-append (take i bytes ++ take n run) (drop n (drop i bytes)) ∙ omega (arith, both, back) in
    let taken : take (i + n) ((take i bytes ++ take n run) ++ drop n (drop i bytes)) ≡ take i bytes ++ take n run =
    subst (λ k. take k ((take i bytes ++ take n run) ++ drop n (drop i bytes)) ≡ take i bytes ++ take n run) both
    (take-append_seam (take i bytes ++ take n run) (drop n (drop i bytes))) in
    let rest = fetched pages (pc + (i + n)) (64 - (i + n)) in
    let next : pc + (i + n) ≡ pc + i + 0 + n = omega arith in
    let here : pc + i + 0 ≡ pc + i = omega arith in
    let left : 64 - (i + n) ≡ 64 - i - n = omega arith in
    let run_fetched : fetched pages (pc + i) (64 - i) ≡ take n run ++ rest =
    ap (λ a. fetched pages a (64 - i)) (sym here) ∙ fetched-run n pages (pc + i) (64 - i) 0 run code (omega arith) (omega arith)
    ∙ ap (λ a. take n run ++ fetched pages a (64 - i - n)) (sym next) ∙ ap (λ k. take n run ++ fetched pages (pc + (i + n)) k) (sym left) in
    record {
      room = ap length (sym regrouped) ∙ size;
      whole = ap (λ l. take (i + n) l ++ rest) (sym regrouped) ∙ ap (λ l. l ++ rest) taken ∙ append_assoc (take i bytes) (take n run) rest
          ∙ ap (λ l. take i bytes ++ l) (sym run_fetched) ∙ f.whole;
    }

neither : {X Y Z : Type 0} (f : X → Y) (g : X → Z) (o : Option X) → None ≡ option_map f o → option_map g o ≡ None
neither f g None e = refl
neither f g (Some x) e = absurd cc

pub fetching_none : (pages : Pages) (pc i : ℕ) (bytes : List ℕ) → i < 64 → None ≡ code_from pages (wrapped (pc + i))
    → Fetching pages pc i bytes → take i bytes ≡ fetched pages pc 64
fetching_none pages pc i bytes below e f =
    let no_byte : code_byte_at pages (wrapped (pc + i)) ≡ None = neither _ _ (find (has_code (wrapped (pc + i))) pages.ranges) e in
    sym (append-nil (take i bytes))
    ∙ ap (λ l. take i bytes ++ l) (sym (fetched-none pages (pc + i) (64 - i) (omega arith) no_byte)) ∙ f.whole

pub fetching_all : (pages : Pages) (pc : ℕ) (bytes : List ℕ) → Fetching pages pc 64 bytes → take 64 bytes ≡ fetched pages pc 64
unfolding fetched
fetching_all pages pc bytes f = sym (append-nil (take 64 bytes)) ∙ f.whole
