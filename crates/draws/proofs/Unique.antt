-- The contract leaves nothing open: two answers that meet it are equal.
-- Assumes nothing.
use Prim.Native.Nat.{ℕ}
use mathlib.Core.Path.{sym, ◌∙◌}
use mathlib.Core.List.{List, [], ◌∷◌}
use lib.ListN.{length}
use Rattle.taskset.specs.Refusals.{room_check}
use Rattle.taskset.proofs.Checks.{AllSingle}
use Rattle.taskset.proofs.Unique.{short_single, single_next, copy_unique}
use Rattle.taskset.proofs.Copied.{SameCopied}
use Rattle.draws.specs.Generated.{generated}
use Rattle.draws.specs.Calls.{count_check, generator_checks, GeneratorGives}
use Rattle.taskset.specs.Answers.{CopyAnswer}

pub generator_single : (seed n lent : ℕ) → AllSingle (generator_checks seed n lent)
generator_single seed n lent =
    let size : ℕ = length (generated seed n) in
    single_next (count_check n ∷ []) (room_check size lent) ((λ j k x y. x.1 ∙ sym y.1), tt) (short_single size lent)

pub generator_unique : (seed n : ℕ) (d d₁ d₂ : List ℕ) (a b : CopyAnswer)
    → GeneratorGives seed n d d₁ a → GeneratorGives seed n d d₂ b → SameCopied a b d₁ d₂
generator_unique seed n d = copy_unique (generator_checks seed n (length d)) (generator_single seed n (length d)) (generated seed n) d
