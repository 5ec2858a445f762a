-- Each address of a layout's map is a block's.
use Rattle.std.proofs.Common.{◌≡◌, ℕ, suc, refl, eqb, eqb-true, cond, List, [], ◌∷◌, map, Bool, true, false, Some}
use Rattle.std.specs.Prelude.{slice_get, find}
use Rattle.std.specs.Option.{option_map}
use Rattle.address_map.specs.Pairs.{Pair, word_at}
use Rattle.block_law.specs.Translations.{Code}
use Rattle.branch_layout.specs.Layouts.{Placed}

-- a block of that address
pub record HasBlock (blocks : List Placed) (address : ℕ) : Type 0 where
  pub place : ℕ
  pub block : Placed
  pub is : slice_get blocks place ≡ Some block
  pub its : block.0 ≡ address

has_block : (pairs : List Pair) (blocks : List Placed) (address first : ℕ) → map (λ (p : Pair). p.0) pairs ≡ map (λ (b : Placed). b.0) blocks → word_at pairs address ≡ Some first → HasBlock blocks address
has_block [] blocks address first same e = absurd (cc e)
has_block (p ∷ pairs) [] address first same e = absurd (cc same)
has_block (p ∷ pairs) (b ∷ blocks) address first same e = by (eqb p.0 address) refl (has_block pairs blocks address first rest) e
  where
    key : p.0 ≡ b.0
    key = cc

    rest : map (λ (p : Pair). p.0) pairs ≡ map (λ (b : Placed). b.0) blocks
    rest = cc

    by : (t : Bool) → eqb p.0 address ≡ t → (word_at pairs address ≡ Some first → HasBlock blocks address) → option_map (λ (p : Pair). p.1) (cond t (Some p) (find (λ (p : Pair). eqb p.0 address) pairs)) ≡ Some first → HasBlock (b ∷ blocks) address
    by true is later e = let here = eqb-true p.0 address is in record { place = 0; block = b; is = refl; its = cc }
    by false other later e = let h = later e in record { place = suc h.place; block = h.block; is = h.is; its = h.its }

pub block_of_mapped : (blocks : List Placed) (code : Code) (address first : ℕ) → map (λ (p : Pair). p.0) code.map ≡ map (λ (b : Placed). b.0) blocks → word_at code.map address ≡ Some first → HasBlock blocks address
block_of_mapped blocks code address first same e = has_block code.map blocks address first same e
