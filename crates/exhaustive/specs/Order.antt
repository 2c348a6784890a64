-- The order of document 02's note 7: "all plans, in order of rate numbers with task 1 changing fastest". What comes of
-- it is promised without it, in document 01's words: proofs/Order.antt shows that of two plans the one that comes first
-- has the lower rate number at the last task where they differ.
use Rattle.std.specs.Prelude.{ℕ, ◌-◌, ◌*◌, ◌^◌, List}
use Rattle.numbers.specs.Numbers.{total}

-- The place of plan P among all plans of n tasks and m rates, counted from 0: task 1 moves it by 1 a rate number, and
-- each later task by m times what the task before it does.
abbrev pub rank : ℕ → ℕ → List ℕ → ℕ
rank m n P = total (λ t r. (r - 1) * m ^ t) n P
