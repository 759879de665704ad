-- Reading a message that is heard: the checks in their order, and what the message says.
use Rattle.std.specs.Prelude.{◌≡◌, ℕ, ◌+◌, ◌*◌, cond, List, [], ◌∷◌, length, Some, None, Option, Result, ◌==◌, ◌≢◌, slice_index}
use Rattle.std.specs.Option.{option_map}
use Rattle.layout.specs.declared.fault.Fault.{Fault}
use Rattle.layout.specs.declared.fault.Fault.TheVariants.{Unheard, Missing, Malformed}
use Rattle.message.specs.declared.types.HeardType.{HeardType}
use Rattle.message.specs.declared.types.HeardType.TheVariants.{RegisterAccept as accept, RegisterRedirect as redirect, RegisterReject as reject, Deregister as deregister, Release as release, DownlinkDirectTransfer as downlink, RequestAccept as request_accept, RequestReject as request_reject}
use Rattle.message.specs.declared.heard.Heard.{Heard}
use Rattle.message.specs.declared.heard.Heard.TheVariants.{RegisterAccept, RegisterRedirect, RegisterReject, Deregister, Release, DownlinkDirectTransfer, RequestAccept, RequestReject}
use Rattle.message.specs.declared.heard.Rejection.{Rejection}
use Rattle.message.specs.declared.heard.Rejection.TheVariants.{Congestion, Cause}
use Rattle.layout.specs.Elements.{Part, walk, elements, first_of, fault_in}
use Rattle.values.specs.declared.form.Form.{Form}
use Rattle.values.specs.Forms.{fits_form, form_of}
use Rattle.layout.specs.Faults.{Answers}
use Rattle.layout.specs.Layout.{then_check, header_fault}
use Rattle.message.specs.Types.{Use, needs, may_use, needs_address, needs_at_zero, uses, octet_of, heard_as}
use Rattle.values.specs.Values.{coded}

-- the element of a message that counts
abbrev pub first : List ℕ → ℕ → Option Part
first m id = first_of id (elements m)

-- a number of one or two octets, the high octet first
abbrev pub number : List ℕ → ℕ
number [] = 0
number (a ∷ []) = a
number (a ∷ b ∷ []) = a * 256 + b
number (a ∷ b ∷ c ∷ v) = 0

abbrev pub value_of : Option Part → List ℕ
value_of None = []
value_of (Some p) = p.value

abbrev pub start_of : Option Part → ℕ
start_of None = 0
start_of (Some p) = p.start

abbrev pub number_in : List ℕ → ℕ → ℕ
number_in m id = number (value_of (first m id))

-- the number in an element that may be absent
abbrev pub number_if : List ℕ → ℕ → Option ℕ
number_if m id = option_map (λ p. number p.value) (first m id)

-- the address in the IP element or else in the name's, by its form and octets
abbrev pub address_of : Option Part → Option Part → List ℕ
address_of (Some p) q = p.value
address_of None q = 0 ∷ value_of q

abbrev pub address_in : List ℕ → ℕ → ℕ → List ℕ
address_in m i n = address_of (first m i) (first m n)

-- a used element has its form
abbrev pub form_fault : Option Form → ℕ → Part → Option Fault
form_fault f id p = cond (fits_form f p.value) None (Some (Malformed p.place id))

-- an element that may be absent
abbrev pub used_fault : Option Form → ℕ → Option Part → Option Fault
used_fault f id None = None
used_fault f id (Some p) = form_fault f id p

-- a needed element is there; where it is not, the place is the message's length
abbrev pub needed_fault : Option Form → List ℕ → ℕ → Option Part → Option Fault
needed_fault f m id None = Some (Missing (length m) id)
needed_fault f m id (Some p) = form_fault f id p

-- an address: the name is looked at only where the IP element is absent
abbrev pub address_fault : Option Form → Option Form → List ℕ → ℕ → ℕ → Option Part → Option Part → Option Fault
address_fault f g m i n (Some p) q = form_fault f i p
address_fault f g m i n None None = Some (Missing (length m) i)
address_fault f g m i n None (Some p) = form_fault g n p

abbrev pub use_fault : List ℕ → Use → Option Fault
use_fault m (needs id) = needed_fault (form_of id) m id (first m id)
use_fault m (may_use id) = used_fault (form_of id) id (first m id)
use_fault m (needs_address i n) = address_fault (form_of i) (form_of n) m i n (first m i) (first m n)
use_fault m (needs_at_zero a b) = cond (number_in m a == 0) (needed_fault (form_of b) m b (first m b)) None

-- the uses of a message, one after another as listed
abbrev pub uses_fault : List ℕ → List Use → Option Fault
uses_fault m [] = None
uses_fault m (u ∷ us) = then_check (use_fault m u) (uses_fault m us)

-- the type is one that is heard, and, after the elements were found whole, what it uses is right
abbrev pub type_fault : Option HeardType → Option Fault
type_fault None = Some Unheard
type_fault (Some t) = None

abbrev pub type_uses : Option HeardType → List Use
type_uses None = []
type_uses (Some t) = uses t

abbrev pub type_heard : List ℕ → Option HeardType
type_heard m = heard_as (slice_index m 2) (slice_index m 3)

-- the first fault of a message that is heard
abbrev pub read_fault : List ℕ → Option Fault
read_fault m =
    then_check (header_fault m) (then_check (type_fault (type_heard m))
    (then_check (fault_in (walk m 4)) (uses_fault m (type_uses (type_heard m)))))

-- the type of what was heard
abbrev pub type_of : Heard → HeardType
type_of (RegisterAccept v i) = accept
type_of (RegisterRedirect g c p) = redirect
type_of (RegisterReject x) = reject
type_of (Deregister x) = deregister
type_of (Release c) = release
type_of (DownlinkDirectTransfer l) = downlink
type_of RequestAccept = request_accept
type_of (RequestReject c) = request_reject

-- a rejection: cause 0 brings the wait
abbrev pub Rejects : List ℕ → Rejection → Type 0
Rejects m (Congestion w) = (number_in m 21 ≡ 0) × (number_in m 16 ≡ w)
Rejects m (Cause c) = (number_in m 21 ≡ c) × (c ≢ 0)

-- the values that a message brings
abbrev pub Brings : List ℕ → Heard → Type 0
Brings m (RegisterAccept v i) = (number_in m 22 ≡ v) × (number_if m 67 ≡ i)
Brings m (RegisterRedirect g c p) = (address_in m 9 10 ≡ coded g) × (address_in m 97 98 ≡ coded c) × (number_if m 103 ≡ p)
Brings m (RegisterReject x) = Rejects m x
Brings m (Deregister x) = Rejects m x
Brings m (Release c) = number_in m 29 ≡ c
Brings m (DownlinkDirectTransfer l) = (start_of (first m 26) ≡ l.start) × (length (value_of (first m 26)) ≡ l.len)
Brings m RequestAccept = Unit {0}
Brings m (RequestReject c) = number_in m 29 ≡ c

-- what a message says that has no fault
pub record Says (m : List ℕ) (h : Heard) : Type 0 where
  pub type : octet_of (type_of h) ≡ slice_index m 3
  pub values : Brings m h

-- the values of a message of a type, or the first fault in them
abbrev pub Reads : List ℕ → HeardType → Result Heard Fault → Type 0
Reads m t r = Answers (uses_fault m (uses t)) (λ h. (type_of h ≡ t) × Brings m h) r
