-- A message of any elements is taken apart into them.
use Rattle.std.proofs.Common.{◌≡◌, ℕ, ◌/◌, ◌%◌, ◌≤◌, List, [], ◌∷◌, ◌++◌, map, length, None, ap, ◌∙◌, div-add-mod', arith}
use Rattle.std.specs.List.{flat_map}
use Rattle.std.proofs.lemmas.List.{append_assoc, append-nil, map-append, length-append}
use Rattle.layout.specs.Elements.{walk, parts, fault_in, elements}
use Rattle.layout.proofs.Steps.{walk_end}
use Rattle.writer.specs.Laws.{Item, item_octets, bare, message, WrittenIsRead}
use Rattle.writer.proofs.Closing.{clear}
use Rattle.writer.proofs.Grown.{grown}

record Behind (h : List ℕ) (is : List Item) : Type 0 where
  whole : fault_in (walk (h ++ flat_map item_octets is) 4) ≡ None
  same : map bare (elements (h ++ flat_map item_octets is)) ≡ map bare (elements h) ++ is

-- elements behind octets that are whole
behind : (h : List ℕ) (is : List Item) → 4 ≤ length h → fault_in (walk h 4) ≡ None → Behind h is
behind h [] l w = record { whole = grind (arith, append-nil); same = grind (arith, append-nil) }
behind h (i ∷ is) l w =
    let a = append_assoc h (item_octets i) (flat_map item_octets is) in
    let g = grown h i.value i.id l w in
    let b = behind (h ++ item_octets i) is (omega (arith, length-append h (item_octets i))) g.whole in
    record { whole = grind arith; same = grind (arith, map-append, append_assoc) }

pub written_is_read_lem : WrittenIsRead
written_is_read_lem d t is k l =
    let n = length (d ∷ t ∷ flat_map item_octets is) in
    let h = (n / 256) ∷ (n % 256) ∷ d ∷ t ∷ [] in
    let e = walk_end h 4 (omega arith) in
    let b = behind h is (omega arith) (ap fault_in e) in
    let v = div-add-mod' n 256 in
    record {
      apart = clear (message d t is) (omega arith) l (omega arith) k ∙ b.whole;
      same = b.same ∙ ap (λ w. map bare (parts w) ++ is) e;
    }
