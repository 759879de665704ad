-- The types of messages: which are heard, and what each needs and may use.
use Rattle.std.specs.Prelude.{ℕ, cond, List, [], ◌∷◌, Some, None, Option, ◌==◌, nat_lt}
use Rattle.message.specs.declared.types.HeardType.{HeardType}
use Rattle.message.specs.declared.types.HeardType.TheVariants.{RegisterAccept, RegisterRedirect, RegisterReject, Deregister, Release, DownlinkDirectTransfer, RequestAccept, RequestReject}

-- a type's discriminator: 1 for GA-CSR, from 64 on except KEEP ALIVE, and 0 for GA-RC
abbrev pub discriminator_of : ℕ → ℕ
discriminator_of t = cond (nat_lt t 64) 0 (cond (t == 116) 0 1)

-- a type's octet
abbrev pub octet_of : HeardType → ℕ
octet_of RegisterAccept = 17
octet_of RegisterRedirect = 18
octet_of RegisterReject = 19
octet_of Deregister = 20
octet_of Release = 64
octet_of DownlinkDirectTransfer = 114
octet_of RequestAccept = 129
octet_of RequestReject = 130

abbrev pub heard : List HeardType
heard =
    RegisterAccept ∷ RegisterRedirect ∷ RegisterReject ∷ Deregister
    ∷ Release ∷ DownlinkDirectTransfer ∷ RequestAccept ∷ RequestReject ∷ []

abbrev pub type_in : ℕ → List HeardType → Option HeardType
type_in t [] = None
type_in t (h ∷ hs) = cond (t == octet_of h) (Some h) (type_in t hs)

-- the type heard with an octet, under a discriminator
abbrev pub heard_as : ℕ → ℕ → Option HeardType
heard_as d t = cond (d == discriminator_of t) (type_in t heard) None

-- what a message makes of an element: it needs it; may use it; needs an address, in the IP element or, where that is absent,
-- in the name's; or needs the second where the first is 0
pub data Use : Type 0 where
  needs : ℕ → Use
  may_use : ℕ → Use
  needs_address : ℕ → ℕ → Use
  needs_at_zero : ℕ → ℕ → Use

abbrev pub uses : HeardType → List Use
uses RegisterAccept = needs 22 ∷ may_use 67 ∷ []
uses RegisterRedirect = needs_address 9 10 ∷ needs_address 97 98 ∷ may_use 103 ∷ []
uses RegisterReject = needs 21 ∷ needs_at_zero 21 16 ∷ []
uses Deregister = needs 21 ∷ needs_at_zero 21 16 ∷ []
uses Release = needs 29 ∷ []
uses DownlinkDirectTransfer = needs 26 ∷ []
uses RequestAccept = []
uses RequestReject = needs 29 ∷ []
