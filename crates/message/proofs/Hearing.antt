-- The checks of a message that is heard, put in their order.
use Rattle.std.proofs.Common.{◌≡◌, ℕ, List, get_or, Some, None, Ok, Err, Result, ap, ◌∙◌, arith}
use Rattle.std.proofs.lemmas.Bool.Decides.{nat_tests}
use Rattle.layout.specs.declared.fault.Fault.{Fault}
use Rattle.message.specs.declared.heard.Heard.{Heard}
use Rattle.message.specs.declared.types.HeardType.{HeardType}
use Rattle.layout.specs.Elements.{walk, fault_in}
use Rattle.layout.specs.Faults.{Answers}
use Rattle.layout.specs.Layout.{header_fault}
use Rattle.message.specs.Reading.{Reads, Says, read_fault, type_heard, uses_fault}
use Rattle.message.specs.Types.{heard_as, octet_of, uses}

-- a type that is heard has the octet that it is heard with
heard_octet : (d o : ℕ) (t : HeardType) → heard_as d o ≡ Some t → octet_of t ≡ o
heard_octet d o t h = grind (arith, nat_tests)

-- the first three checks are passed, so the uses decide
uses_decide : (m : List ℕ) (t : HeardType) → header_fault m ≡ None → type_heard m ≡ Some t → fault_in (walk m 4) ≡ None → read_fault m ≡ uses_fault m (uses t)
uses_decide m t h k w = rw (h, k, w)

pub read_whole : (m : List ℕ) (t : HeardType) (r : Result Heard Fault) → header_fault m ≡ None → type_heard m ≡ Some t → fault_in (walk m 4) ≡ None → Reads m t r → Answers (read_fault m) (Says m) r
read_whole m t (Ok x) h k w r =
    (uses_decide m t h k w ∙ r.0, record { type = ap octet_of r.1.0 ∙ heard_octet (get_or m 2 0) (get_or m 3 0) t k; values = r.1.1 })
read_whole m t (Err f) h k w r = uses_decide m t h k w ∙ r
