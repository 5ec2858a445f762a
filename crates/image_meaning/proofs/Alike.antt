-- Scripts whose trees are alike from states that differ in condition codes: one rule for each constructor.
use Rattle.std.proofs.Common.{◌≡◌, ℕ, Bool, true, false, Option, Some, None, refl, subst}
use Rattle.vax_form.specs.Pages.{code_byte_at}
use Rattle.vax_form.specs.Script.{Script, pure, bind, choose, ask, check_bytes, read_code, fail, get, change}
use Rattle.vax_form.specs.Tree.{Tree, tree_of, code_or_fault, ends_with, instruction_tree}
use Rattle.vax_form.specs.declared.pages.Pages.{Pages}
use Rattle.vax_form.specs.declared.state.Flags.{Flags}
use Rattle.vax_form.specs.declared.state.VaxState.{VaxState}
use Rattle.vax_form.specs.declared.state.Reference.{Reference}
use Rattle.vax_form.specs.declared.state.Exception.{Exception}
use Rattle.vax_form.specs.declared.script.End.{End}
use Rattle.vax_form.specs.declared.script.End.TheVariants.{Done, Exits, Traps}
use Rattle.cc_liveness.specs.declared.uses.CodeUse.{CodeUse}
use Rattle.image_meaning.specs.CodeUses.{SameButCodes, AgreeOn, KeepsOthers, LeftAlike, EndAlike, Alike}

-- two states that an instruction starts from, what it does with codes, and the address behind it
pub record Case : Type 0 where
  pub one : VaxState
  pub other : VaxState
  pub used : CodeUse
  pub after : ℕ

abbrev pub AlikeIn : Case → Tree → Tree → Type 0
AlikeIn c = Alike (EndAlike c.used c.after c.one c.other)

-- Where both stand: they differ in codes alone and have those of a set in common; codes that the instruction does not write
-- are as they were; and once it is gone on, it is where it goes on.
pub record Stand (c : Case) (known : Flags) (gone : Bool) (s t : VaxState) : Type 0 where
  pub same : SameButCodes s t
  pub common : AgreeOn known s t
  pub first : KeepsOthers c.used.writes c.one s
  pub second : KeepsOthers c.used.writes c.other t
  pub on : gone ≡ true → c.used.ends ≡ false → s.pc ≡ c.after

-- Two scripts give such values and leave such states: their trees are alike where what comes behind them is.
pub record Follow {A : Type 0} (pages : Pages) (c : Case) (k : Flags) (g : Bool) (k' : Flags) (g' : Bool) (R : A → A → Type 0) (m n : Script A) : Type 0 where
  pub follow : (s t : VaxState) (rest rest' : A → VaxState → Tree) → Stand c k g s t
      → ((x y : A) (s' t' : VaxState) → R x y → Stand c k' g' s' t' → AlikeIn c (rest x s') (rest' y t'))
      → AlikeIn c (tree_of pages m s rest) (tree_of pages n t rest')

abbrev pub Equal : {A : Type 0} → A → A → Type 0
Equal x y = x ≡ y

-- one script, whose values are the same
abbrev pub Uses : {A : Type 0} → Pages → Case → (k : Flags) → (g : Bool) → (k' : Flags) → (g' : Bool) → Script A → Type 0
Uses pages c k g k' g' m = Follow pages c k g k' g' Equal m m

pub follow_bind : {A B : Type 0} {pages : Pages} {c : Case} {k : Flags} {g : Bool} {l : Flags} {h : Bool} {k' : Flags} {g' : Bool} {P : A → A → Type 0} {Q : B → B → Type 0} {m n : Script A} {f f' : A → Script B}
    → Follow pages c k g l h P m n → ((x y : A) → P x y → Follow pages c l h k' g' Q (f x) (f' y)) → Follow pages c k g k' g' Q (bind m f) (bind n f')
follow_bind {pages = pages} {f = f} {f' = f'} first each = record {
  follow = λ s t rest rest' stand on.
      first.follow s t (λ x after. tree_of pages (f x) after rest) (λ y after. tree_of pages (f' y) after rest') stand
      (λ x y s' t' related still. (each x y related).follow s' t' rest rest' still on);
}

pub use_bind : {A B : Type 0} {pages : Pages} {c : Case} {k : Flags} {g : Bool} {l : Flags} {h : Bool} {k' : Flags} {g' : Bool} {m : Script A} {f : A → Script B}
    → Uses pages c k g l h m → ((x : A) → Uses pages c l h k' g' (f x)) → Uses pages c k g k' g' (bind m f)
use_bind {pages = pages} {c = c} {l = l} {h = h} {k' = k'} {g' = g'} {f = f} first each =
    follow_bind first (λ x y e. subst (λ z. Follow pages c l h k' g' Equal (f x) (f z)) e (each x))

pub use_then : {A B : Type 0} {pages : Pages} {c : Case} {k : Flags} {g : Bool} {l : Flags} {h : Bool} {k' : Flags} {g' : Bool} {m : Script A} {n : Script B}
    → Uses pages c k g l h m → Uses pages c l h k' g' n → Uses pages c k g k' g' (bind m (λ _. n))
use_then first second = use_bind first (λ _. second)

pub use_pure : {A : Type 0} {pages : Pages} {c : Case} {k : Flags} {g : Bool} {x : A} → Uses pages c k g k g (pure x)
use_pure {x = x} = record { follow = λ s t rest rest' stand on. on x x s t refl stand }

pub use_either : {A : Type 0} {pages : Pages} {c : Case} {k : Flags} {g : Bool} {k' : Flags} {g' : Bool} {b : Bool} {m n : Script A}
    → Uses pages c k g k' g' m → Uses pages c k g k' g' n → Uses pages c k g k' g' (choose b m n)
use_either {b = true} first second = record { follow = λ s t rest rest' stand on. first.follow s t rest rest' stand on }
use_either {b = false} first second = record { follow = λ s t rest rest' stand on. second.follow s t rest rest' stand on }

pub use_ask : {pages : Pages} {c : Case} {k : Flags} {g : Bool} {reference : Reference} → Uses pages c k g k g (ask reference)
use_ask = record { follow = λ s t rest rest' stand on. (refl, λ reply. on reply reply s t refl stand) }

pub use_check : {pages : Pages} {c : Case} {k : Flags} {g : Bool} {address count : ℕ} {write : Bool} → Uses pages c k g k g (check_bytes address count write)
use_check = record { follow = λ s t rest rest' stand on. (refl, refl, refl, on tt tt s t refl stand) }

code_alike : (c : Case) (byte : Option ℕ) (address : ℕ) (rest rest' : ℕ → Tree) → ((b : ℕ) → AlikeIn c (rest b) (rest' b)) → AlikeIn c (code_or_fault byte address rest) (code_or_fault byte address rest')
code_alike c None address rest rest' on = refl
code_alike c (Some byte) address rest rest' on = on byte

pub use_code : {pages : Pages} {c : Case} {k : Flags} {g : Bool} {address : ℕ} → Uses pages c k g k g (read_code address)
use_code {pages = pages} {c = c} {address = address} = record {
  follow = λ s t rest rest' stand on. code_alike c (code_byte_at pages address) address (λ byte. rest byte s) (λ byte. rest' byte t) (λ byte. on byte byte s t refl stand);
}

pub use_fail : {A : Type 0} {pages : Pages} {c : Case} {k : Flags} {g : Bool} {k' : Flags} {g' : Bool} {exception : Exception} → Uses {A = A} pages c k g k' g' (fail exception)
use_fail = record { follow = λ s t rest rest' stand on. refl }

pub use_get : {A : Type 0} {pages : Pages} {c : Case} {k : Flags} {g : Bool} {f : VaxState → A} → ((s t : VaxState) → Stand c k g s t → f s ≡ f t) → Uses pages c k g k g (get f)
use_get {f = f} same = record { follow = λ s t rest rest' stand on. on (f s) (f t) s t (same s t stand) stand }

pub follow_get : {A : Type 0} {pages : Pages} {c : Case} {k : Flags} {g : Bool} {R : A → A → Type 0} {f : VaxState → A} → ((s t : VaxState) → Stand c k g s t → R (f s) (f t)) → Follow pages c k g k g R (get f) (get f)
follow_get {f = f} related = record { follow = λ s t rest rest' stand on. on (f s) (f t) s t (related s t stand) stand }

pub follow_change : {pages : Pages} {c : Case} {k : Flags} {g : Bool} {k' : Flags} {g' : Bool} {f f' : VaxState → VaxState} → ((s t : VaxState) → Stand c k g s t → Stand c k' g' (f s) (f' t))
    → Follow pages c k g k' g' Equal (change f) (change f')
follow_change {f = f} {f' = f'} still = record { follow = λ s t rest rest' stand on. on tt tt (f s) (f' t) refl (still s t stand) }

ends_alike : (c : Case) (x y : End) (s t : VaxState) → x ≡ y → Stand c c.used.writes true s t → AlikeIn c (ends_with x s) (ends_with y t)
ends_alike c x y s t e stand = subst (λ z. AlikeIn c (ends_with x s) (ends_with z t)) e (by x)
  where
    left : LeftAlike c.used c.after c.one c.other s t
    left = record { same = stand.same; written = stand.common; first = stand.first; second = stand.second; on = stand.on refl }

    by : (x : End) → AlikeIn c (ends_with x s) (ends_with x t)
    by Done = left
    by Exits = left
    by (Traps kind) = (refl, left)

-- the trees of an instruction's script
pub trees_alike : (pages : Pages) (c : Case) (script : Script End) → Uses pages c c.used.reads false c.used.writes true script
    → SameButCodes c.one c.other → AgreeOn c.used.reads c.one c.other
    → AlikeIn c (instruction_tree pages script c.one) (instruction_tree pages script c.other)
trees_alike pages c script uses same agree =
    uses.follow c.one c.other ends_with ends_with (record { same = same; common = agree; first = λ code _. refl; second = λ code _. refl; on = λ gone. absurd cc })
    (λ x y s t e stand. ends_alike c x y s t e stand)
