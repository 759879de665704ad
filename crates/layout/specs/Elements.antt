-- The elements of a message: an identifier octet, a length, a value, one element after another.
use Rattle.std.specs.Prelude.{◌≡◌, ℕ, zero, suc, ◌+◌, ◌-◌, ◌*◌, ◌/◌, ◌%◌, cond, List, [], ◌∷◌, ◌++◌, length, take, drop, Some, None, Ok, Err, Option, Result, ◌==◌, nat_lt, slice_index}
use Rattle.std.specs.List.{find}
use Rattle.layout.specs.declared.fault.Fault.{Fault}
use Rattle.layout.specs.declared.fault.Fault.TheVariants.{CutShort, Overlong}
use Rattle.layout.specs.declared.cursor.Cursor.{Cursor}
use Rattle.layout.specs.declared.element.Element.{Element}
use Rattle.layout.specs.declared.elements.Elements.{Elements}

-- an element: its identifier, the place of that octet, and its value with the place where it starts
pub record Part : Type 0 where
  pub id : ℕ
  pub place : ℕ
  pub start : ℕ
  pub value : List ℕ

-- what the code holds of an element
abbrev pub seen : Element → Part
seen e = record { id = e.id; place = e.place; start = e.start; value = e.value.now }

-- the length of a value: one octet below 128, else two, the top bit of the first set
abbrev pub size_octets : ℕ → List ℕ
size_octets n = cond (nat_lt n 128) (n ∷ []) ((128 + n / 256) ∷ (n % 256) ∷ [])

-- the octets of an element
abbrev pub element_octets : ℕ → List ℕ → List ℕ
element_octets id value = id ∷ (size_octets (length value) ++ value)

abbrev pub part_octets : Part → List ℕ
part_octets p = element_octets p.id p.value

-- the element at `at` whose value of `len` octets starts at `start`, unless the message ends before it does
abbrev pub valued : List ℕ → ℕ → ℕ → ℕ → Result Part Fault
valued m at start len =
    cond (nat_lt (length m - start) len) (Err (CutShort at (slice_index m at)))
    (Ok (record { id = slice_index m at; place = at; start = start; value = take len (drop start m) }))

-- the length that two octets from `at` on give
abbrev pub wide : List ℕ → ℕ → ℕ
wide m at = (slice_index m at - 128) * 256 + slice_index m (at + 1)

-- the element whose identifier stands at `at`
abbrev pub element_at : List ℕ → ℕ → Result Part Fault
element_at m at =
    cond (nat_lt (length m - at) 2) (Err (CutShort at (slice_index m at)))
    (cond (nat_lt (slice_index m (at + 1)) 128) (valued m at (at + 2) (slice_index m (at + 1)))
    (cond (nat_lt (length m - at) 3) (Err (CutShort at (slice_index m at)))
    (cond (nat_lt (wide m (at + 1)) 128) (Err (Overlong at (slice_index m at)))
    (valued m at (at + 3) (wide m (at + 1))))))

-- where the element after this one stands
abbrev pub past : Part → ℕ
past p = p.start + length p.value

-- a walk over a message: it comes to the end, or to a fault, or to an element and goes on
pub data Walk : Type 0 where
  end : Walk
  bad : Fault → Walk
  more : Part → Walk → Walk

abbrev pub onward : Result Part Fault → (Part → Walk) → Walk
onward (Ok p) f = more p (f p)
onward (Err x) f = bad x

-- at most `k` elements from `at` on
abbrev pub walk_by : ℕ → List ℕ → ℕ → Walk
walk_by zero m at = end
walk_by (suc k) m at = cond (nat_lt at (length m)) (onward (element_at m at) (λ p. walk_by k m (past p))) end

-- the walk from `at` on: an element has an octet at least, so there are no more elements than octets
unfoldable pub walk : List ℕ → ℕ → Walk
walk m at = walk_by (length m - at) m at

-- what a cursor comes to, from its place on
abbrev pub ahead : Cursor → Walk
ahead c = walk c.message.now c.at

-- what the code holds of a step
abbrev pub found : Result Element Fault → Result Part Fault
found (Ok e) = Ok (seen e)
found (Err x) = Err x

-- one step of a walk, as code finds it, and the walk from there on
abbrev pub Steps : Walk → Option (Result Element Fault) → Walk → Type 0
Steps w None v = (w ≡ end) × (v ≡ end)
Steps w (Some (Ok e)) v = w ≡ more (seen e) v
Steps w (Some (Err x)) v = (w ≡ bad x) × (v ≡ end)

-- how many steps a walk has left
abbrev pub steps_left : Walk → ℕ
steps_left end = 0
steps_left (bad x) = 1
steps_left (more p w) = steps_left w + 1

-- the elements that a walk comes to, and the fault that it comes to
abbrev pub parts : Walk → List Part
parts end = []
parts (bad x) = []
parts (more p w) = p ∷ parts w

abbrev pub fault_in : Walk → Option Fault
fault_in end = None
fault_in (bad x) = Some x
fault_in (more p w) = fault_in w

-- the elements of a message
abbrev pub elements : List ℕ → List Part
elements m = parts (walk m 4)

-- the element that an identifier means: where several have it, the one that stands first
abbrev pub first_of : ℕ → List Part → Option Part
first_of id ps = find (λ p. p.id == id) ps

-- the elements that are yet to come
abbrev pub rest : Elements → List Part
rest s = parts (ahead s.cursor)
