-- What the functions below the call give. Not part of what a reader must believe.
use Rattle.std.specs.Prelude.{◌≡◌, ℕ, length, Result, Ok, Err}
use Rattle.taskset.specs.Refusals.{number, second, Accepts, Refuses}
use Rattle.taskset.specs.declared.Refusal.{Refusal}
use Rattle.draws.specs.Generated.{generated}
use Rattle.draws.specs.Calls.{generator_checks}

-- What the checks answer: the words needed, or a refusal; it does not look at the seed.
abbrev pub RoomAfter : (n lent : ℕ) → Result ℕ Refusal → Type 0
RoomAfter n lent (Ok k) = (seed : ℕ) → Accepts (generator_checks seed n lent) × (k ≡ length (generated seed n))
RoomAfter n lent (Err r) = (seed : ℕ) → Refuses (generator_checks seed n lent) (number r) (second r)
