-- A value for each timer.
use Rattle.timers.specs.declared.timer.Timer.{Timer}
use Rattle.timers.specs.declared.timer.Timer.TheVariants.{Tu3904, Tu3906, Tu3907, Tu3908}
use Rattle.timers.specs.declared.by_timer.ByTimer.{ByTimer}

-- the same value for every timer
abbrev pub all_of : {A : Type 0} → A → ByTimer A
all_of v = record { tu3904 = v; tu3906 = v; tu3907 = v; tu3908 = v }

-- the value of one timer
abbrev pub value_of : {A : Type 0} → ByTimer A → Timer → A
value_of b Tu3904 = b.tu3904
value_of b Tu3906 = b.tu3906
value_of b Tu3907 = b.tu3907
value_of b Tu3908 = b.tu3908

-- another value for one timer, the others as they were
abbrev pub with_value : {A : Type 0} → ByTimer A → Timer → A → ByTimer A
with_value b Tu3904 v = record { tu3904 = v; tu3906 = b.tu3906; tu3907 = b.tu3907; tu3908 = b.tu3908 }
with_value b Tu3906 v = record { tu3904 = b.tu3904; tu3906 = v; tu3907 = b.tu3907; tu3908 = b.tu3908 }
with_value b Tu3907 v = record { tu3904 = b.tu3904; tu3906 = b.tu3906; tu3907 = v; tu3908 = b.tu3908 }
with_value b Tu3908 v = record { tu3904 = b.tu3904; tu3906 = b.tu3906; tu3907 = b.tu3907; tu3908 = v }

-- what f gives of each timer's value
abbrev pub mapped : {A B : Type 0} → (A → B) → ByTimer A → ByTimer B
mapped f b = record { tu3904 = f b.tu3904; tu3906 = f b.tu3906; tu3907 = f b.tu3907; tu3908 = f b.tu3908 }

-- P holds of each timer's value
abbrev pub Each : {A : Type 0} → (A → Type 0) → ByTimer A → Type 0
Each P b = P b.tu3904 × P b.tu3906 × P b.tu3907 × P b.tu3908

-- R holds of each timer's value before a call, the call's answer and the value after it
abbrev pub EachGives : {A B : Type 0} → (A → B → A → Type 0) → ByTimer A → ByTimer B → ByTimer A → Type 0
EachGives R old answers new =
    R old.tu3904 answers.tu3904 new.tu3904
    × R old.tu3906 answers.tu3906 new.tu3906
    × R old.tu3907 answers.tu3907 new.tu3907
    × R old.tu3908 answers.tu3908 new.tu3908
