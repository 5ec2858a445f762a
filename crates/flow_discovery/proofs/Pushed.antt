-- Lists that grow by what an option holds.
use Rattle.std.proofs.Common.{◌≡◌, ◌∙◌, ◌<◌, ◌+◌, ℕ, zero, suc, refl, sym, ap, arith, List, [], ◌∷◌, ◌++◌, length, take, get_or, append_assoc, Option, Some, None}
use Rattle.std.specs.List.{filter_map, range_with_len}
use Rattle.std.specs.Option.{option_to_list}
use Rattle.std.proofs.Math.Numerals.{add-one}
use Rattle.std.proofs.lemmas.List.Elements.{filter_map-append}
use Rattle.std.proofs.lemmas.List.{take_more}

filter_map-one : {X Y : Type 0} (h : X → Option Y) (x : X) → filter_map h (x ∷ []) ≡ option_to_list (h x)
filter_map-one h x = elim (h x) as (λ o. filter_map (λ (y : Option _). y) (o ∷ []) ≡ option_to_list o) [ Some y ↦ refl | None ↦ refl ]

-- one more element
filter_map-push : {X Y : Type 0} (h : X → Option Y) (xs : List X) (x : X) → filter_map h (xs ++ x ∷ []) ≡ filter_map h xs ++ option_to_list (h x)
filter_map-push h xs x = filter_map-append h xs (x ∷ []) ∙ ap (λ ys. filter_map h xs ++ ys) (filter_map-one h x)

range-push : (a n : ℕ) → range_with_len a (suc n) ≡ range_with_len a n ++ (a + n) ∷ []
range-push a zero = ap (λ k. k ∷ []) (omega arith)
range-push a (suc n) = ap (λ ks. a ∷ ks) (range-push (a + 1) n ∙ ap (λ k. range_with_len (a + 1) n ++ k ∷ []) (omega arith))

module _ {Y : Type 0} where
  pub joined : (start before more : List Y) (old new : List Y) → old ≡ start ++ before → new ≡ old ++ more → new ≡ start ++ (before ++ more)
  joined start before more old new e f = f ∙ ap (λ ys. ys ++ more) e ∙ append_assoc start before more

  -- the step of a loop over the elements of a list
  pub pushed_item : {X : Type 0} (h : X → Option Y) (xs : List X) (i : ℕ) (d : X) (start old new : List Y) → i < length xs
      → old ≡ start ++ filter_map h (take i xs) → new ≡ old ++ option_to_list (h (get_or xs i d)) → new ≡ start ++ filter_map h (take (i + 1) xs)
  pushed_item h xs i d start old new within e f =
      joined start (filter_map h (take i xs)) (option_to_list (h (get_or xs i d))) old new e f
      ∙ ap (λ ys. start ++ ys) (sym (filter_map-push h (take i xs) (get_or xs i d)) ∙ ap (filter_map h) (sym (take_more xs i d within)))

  -- the step of a loop over the first numbers
  pub pushed_number : (h : ℕ → Option Y) (n : ℕ) (start old new : List Y) → old ≡ start ++ filter_map h (range_with_len 0 n) → new ≡ old ++ option_to_list (h n)
      → new ≡ start ++ filter_map h (range_with_len 0 (n + 1))
  pushed_number h n start old new e f =
      joined start (filter_map h (range_with_len 0 n)) (option_to_list (h n)) old new e f ∙ ap (λ ys. start ++ ys) (sym (filter_map-push h (range_with_len 0 n) n) ∙ ap (filter_map h) (rw add-one (sym (range-push 0 n ∙ ap (λ k. range_with_len 0 n ++ k ∷ []) (omega arith)))))
