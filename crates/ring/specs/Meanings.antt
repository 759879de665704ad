-- What a carrier over places of memory means.
use Rattle.std.specs.Prelude.{Bool, List, ℕ, ◌/◌}
use Rattle.std.specs.Borrow.{MutBor}
use Rattle.tables.specs.Addresses.{is_listed}
use Rattle.carrier.specs.Carried.{Carried}
use Rattle.carrier.specs.Links.{carrying}
use Rattle.ring.specs.Answers.{is_unlisted}
use Rattle.ring.specs.Waiting.{queued}
use Rattle.ring.specs.declared.answering.AllBut.{AllBut}
use Rattle.ring.specs.declared.answering.Only.{Only}
use Rattle.ring.specs.declared.answering.Answering.{Ghosts as AnsweringGhosts}
use Rattle.ring.specs.declared.memory.Memory.{Ghosts}
use Rattle.ring.specs.declared.line.Line.{Line}

-- a place to each 514 octets of its memory; who answers is read from what it holds
abbrev pub of_line : {M A : Type 0} {g : Ghosts M} {h : AnsweringGhosts A} → (A → List ℕ → Bool) → Line M A g h → Carried
of_line {M} {A} {g} answers l = carrying l.path (queued l.places) (g.size l.places.memory / 514) (answers l.answering)

-- over lent memory: the addresses on its list answer, no other does
abbrev pub of_ring : {g : Ghosts (MutBor (List ℕ))} {h : AnsweringGhosts Only} → Line (MutBor (List ℕ)) Only g h → Carried
of_ring r = of_line (λ o. is_listed o.0) r

-- over slots of its own: the addresses on its list do not answer, any other does
abbrev pub of_slots : {g : Ghosts (List ℕ)} {h : AnsweringGhosts AllBut} → Line (List ℕ) AllBut g h → Carried
of_slots s = of_line (λ a. is_unlisted a.0) s
