-- Writing a message.
use Rattle.std.specs.Prelude.{◌≡◌, ℕ, ◌+◌, ◌<◌, ◌≤◌, true, false, ◌⊎◌, List, [], ◌∷◌, ◌++◌, length, take, drop}
use Rattle.writer.specs.declared.writing.OpenMessage.{OpenMessage}
use Rattle.writer.specs.declared.writing.ClosedMessage.{ClosedMessage}
use Rattle.layout.specs.Elements.{Part, elements, element_octets, size_octets}
use Rattle.values.specs.Forms.{formed}
use Rattle.writer.specs.Octets.{over}

-- the memory of a message, and how many octets of it are the message's
abbrev pub open_memory : OpenMessage → List ℕ
open_memory o = o.page.memory.now

abbrev pub open_len : OpenMessage → ℕ
open_len o = o.page.len

abbrev pub closed_memory : ClosedMessage → List ℕ
closed_memory c = c.page.memory.now

abbrev pub closed_len : ClosedMessage → ℕ
closed_len c = c.page.len

-- the octets that are written so far, and those of a closed message
abbrev pub drafted : OpenMessage → List ℕ
drafted o = take (open_len o) (open_memory o)

abbrev pub message_of : ClosedMessage → List ℕ
message_of c = take (closed_len c) (closed_memory c)

-- the octets of an open message that stand behind its length indicator
abbrev pub behind : OpenMessage → List ℕ
behind o = drop 2 (drafted o)

-- the element with this value whose identifier stands at `at`
abbrev pub placed : ℕ → ℕ → List ℕ → Part
placed at id v = record { id = id; place = at; start = at + (1 + length (size_octets (length v))); value = v }

-- an element is added: it is listed and has its form, its octets stand behind those before and end within 512,
-- the rest of the memory stays, and it is the last element
pub record Added (o : OpenMessage) (id : ℕ) (v : List ℕ) (p : OpenMessage) : Type 0 where
  pub formed : formed id v ≡ true
  pub fits : open_len o + length (element_octets id v) ≤ 512
  pub len : open_len p ≡ open_len o + length (element_octets id v)
  pub memory : open_memory p ≡ over (open_memory o) (open_len o) (element_octets id v)
  pub octets : behind p ≡ behind o ++ element_octets id v
  pub elements : elements (drafted p) ≡ elements (drafted o) ++ placed (open_len o) id v ∷ []

-- an element is refused: it is unlisted or missized, or would end past 512
abbrev pub Unfit : OpenMessage → ℕ → List ℕ → Type 0
Unfit o id v = (formed id v ≡ false) ⊎ (512 < open_len o + length (element_octets id v))

pub record Unchanged (o p : OpenMessage) : Type 0 where
  pub len : open_len p ≡ open_len o
  pub memory : open_memory p ≡ open_memory o
