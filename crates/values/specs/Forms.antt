-- The listed elements, and what the value of each is.
use Rattle.std.specs.Prelude.{ℕ, Bool, false, cond, ◌&&◌, ◌||◌, List, [], ◌∷◌, length, Some, None, Option, ◌==◌, nat_le, slice_index}
use Rattle.values.specs.declared.form.Form.{Form}
use Rattle.values.specs.declared.form.Form.TheVariants.{Octets, Ip}
use Rattle.values.specs.declared.listed.Listed.{Listed}
use Rattle.values.specs.declared.listed.Listed.TheVariants.{MobileIdentity, ApRadioIdentity, GatewayIp, GatewayName, RedirectionCounter, Tu3907, RegisterRejectCause, Tu3906, L3Message, RrCause, SapiId, EstablishmentCause, ServingTable, RegistrationIndicators, ControllerIp, ControllerName, Port}

-- an IP value: 21 (hexadecimal) and four octets, or 57 and sixteen
abbrev pub is_ip : List ℕ → Bool
is_ip v = (slice_index v 0 == 33 && length v == 5) || (slice_index v 0 == 87 && length v == 17)

-- whether a value has a form
abbrev pub has_form : Form → List ℕ → Bool
has_form (Octets least most) v = nat_le least (length v) && nat_le (length v) most
has_form Ip v = is_ip v

pub record Listing : Type 0 where
  pub id : ℕ
  pub form : Form

abbrev row : ℕ → Form → Listing
row n f = record { id = n; form = f }

abbrev pub listed : List Listing
listed =
    row 1 (Octets 1 9)  -- Mobile Identity
    ∷ row 3 (Octets 7 7)  -- AP Radio Identity: a zero, then the access point
    ∷ row 9 Ip  -- gateway's IP address
    ∷ row 10 (Octets 3 64)  -- gateway's name
    ∷ row 11 (Octets 1 1)  -- Redirection Counter
    ∷ row 16 (Octets 2 2)  -- TU3907 timer
    ∷ row 21 (Octets 1 1)  -- Register Reject Cause
    ∷ row 22 (Octets 2 2)  -- TU3906 timer
    ∷ row 26 (Octets 1 251)  -- L3 Message
    ∷ row 29 (Octets 1 1)  -- RR Cause
    ∷ row 49 (Octets 1 1)  -- SAPI ID
    ∷ row 50 (Octets 1 1)  -- Establishment Cause
    ∷ row 67 (Octets 1 1)  -- Serving GANC Table Indicator
    ∷ row 68 (Octets 1 1)  -- Registration Indicators
    ∷ row 97 Ip  -- controller's IP address
    ∷ row 98 (Octets 3 64)  -- controller's name
    ∷ row 103 (Octets 2 2)  -- GANC TCP Port
    ∷ []

abbrev pub form_in : ℕ → List Listing → Option Form
form_in n [] = None
form_in n (l ∷ ls) = cond (n == l.id) (Some l.form) (form_in n ls)

-- the form of an element's value, if the element is listed
abbrev pub form_of : ℕ → Option Form
form_of n = form_in n listed

-- whether a value has the form, if there is one
abbrev pub fits_form : Option Form → List ℕ → Bool
fits_form None v = false
fits_form (Some f) v = has_form f v

-- whether an element is listed and the value has its form
abbrev pub formed : ℕ → List ℕ → Bool
formed n v = fits_form (form_of n) v

-- the identifiers of the listed elements
abbrev pub identifier : Listed → ℕ
identifier MobileIdentity = 1
identifier ApRadioIdentity = 3
identifier GatewayIp = 9
identifier GatewayName = 10
identifier RedirectionCounter = 11
identifier Tu3907 = 16
identifier RegisterRejectCause = 21
identifier Tu3906 = 22
identifier L3Message = 26
identifier RrCause = 29
identifier SapiId = 49
identifier EstablishmentCause = 50
identifier ServingTable = 67
identifier RegistrationIndicators = 68
identifier ControllerIp = 97
identifier ControllerName = 98
identifier Port = 103
