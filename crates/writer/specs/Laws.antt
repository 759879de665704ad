-- The law of the writer: what is written is read.
use Rattle.std.specs.Prelude.{◌≡◌, ℕ, ◌<◌, ◌≤◌, List, ◌∷◌, map, length, None}
use Rattle.std.specs.List.{flat_map}
use Rattle.layout.specs.Elements.{Part, elements, element_octets}
use Rattle.layout.specs.Layout.{apart_fault, counted}

-- an element to be written: its identifier and its value
pub record Item : Type 0 where
  pub id : ℕ
  pub value : List ℕ

abbrev pub item_octets : Item → List ℕ
item_octets i = element_octets i.id i.value

-- an element without its place
abbrev pub bare : Part → Item
bare p = record { id = p.id; value = p.value }

-- a message: the length indicator, the discriminator, the type, and the elements one behind another
abbrev pub message : ℕ → ℕ → List Item → List ℕ
message d t is = counted (d ∷ t ∷ flat_map item_octets is)

pub record ReadBack (d t : ℕ) (is : List Item) : Type 0 where
  pub apart : apart_fault (message d t is) ≡ None
  pub same : map bare (elements (message d t is)) ≡ is

abbrev pub WrittenIsRead : Type 0
WrittenIsRead = (d t : ℕ) (is : List Item) → d < 2 → length (message d t is) ≤ 512 → ReadBack d t is
