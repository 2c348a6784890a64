-- The types of the answers, as the code declares them, and the answers that hold given numbers.
use Rattle.std.specs.Prelude.{ℕ, Result, Ok}
use Rattle.taskset.specs.declared.Counts.{Counts}
use Rattle.taskset.specs.declared.Measured.{Measured}
use Rattle.taskset.specs.declared.Planned.{Planned}
use Rattle.taskset.specs.declared.Refusal.{Refusal}
use Rattle.taskset.specs.declared.WalkEnd.{WalkEnd}

-- What checks of words answer, checks with check 4 among them, a call that plans, the walk, and the reader and the writer.
abbrev pub Shape : Type 0
Shape = Result Counts Refusal

abbrev pub Checked : Type 0
Checked = Result Measured Refusal

abbrev pub PlannerAnswer : Type 0
PlannerAnswer = Result Planned Refusal

abbrev pub WalkAnswer : Type 0
WalkAnswer = Result WalkEnd Refusal

abbrev pub CopyAnswer : Type 0
CopyAnswer = Result ℕ Refusal

abbrev pub ok_counts : ℕ → ℕ → Shape
ok_counts m n = Ok (record { rates = m; tasks = n })

abbrev pub ok_measured : ℕ → ℕ → ℕ → Checked
ok_measured m n l = Ok (record { rates = m; tasks = n; hyper = l })

abbrev pub ok_planned : ℕ → ℕ → ℕ → ℕ → PlannerAnswer
ok_planned u l h e = Ok (record { unit = u; load = l; hyper = h; energy = e })
