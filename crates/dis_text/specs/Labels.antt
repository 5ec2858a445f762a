-- What is said before the line of an address.
use Rattle.std.specs.Prelude.{ℕ, ◌==◌, if◌then◌else◌, List, [], ◌++◌, codes, decimal}
use Rattle.std.specs.List.{enumerate_from, flat_map}

-- a name, and the address that has it
pub record NameValue : Type 0 where
  pub address : ℕ
  pub text : List ℕ

-- a text behind a semicolon, where the address is that one
abbrev pub label_at : (address at : ℕ) → (text : List ℕ) → List ℕ
label_at address at text = if at == address then codes "; " ++ text ++ codes "\n" else []

-- one of the addresses with its number
abbrev pub numbered_label : (kind : List ℕ) → (address : ℕ) → ℕ × ℕ → List ℕ
numbered_label kind address a = label_at address a.1 (kind ++ codes " " ++ decimal a.0)

abbrev pub numbered_labels : (kind : List ℕ) → List ℕ → (address : ℕ) → List ℕ
numbered_labels kind addresses address = flat_map (numbered_label kind address) (enumerate_from 0 addresses)

abbrev pub name_label : (address : ℕ) → NameValue → List ℕ
name_label address name = label_at address name.address name.text

-- threads, entries, hints and names, in this order
abbrev pub labels : (threads entries hints : List ℕ) → List NameValue → (address : ℕ) → List ℕ
labels threads entries hints names address =
    numbered_labels (codes "thread") threads address ++ numbered_labels (codes "entry") entries address
    ++ numbered_labels (codes "hint") hints address ++ flat_map (name_label address) names
