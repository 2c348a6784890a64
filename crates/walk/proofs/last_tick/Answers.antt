use Prim.Native.Nat.{ℕ, ◌<◌}
use Rattle.ticks.specs.Arrays.{timing_at}
use mathlib.Core.Path.{◌≡◌, refl, sym, ◌∙◌}
use mathlib.Core.Bool.{Bool, true, false, true≢false}
use mathlib.Core.Logic.{◌↔◌, ⊎_elim}
use Rattle.std.specs.Prelude.{IsTrue}
use Rattle.numbers.proofs.Tests.{bool_cases}
use Rattle.taskset.specs.Quantities.{all_zero}
use Rattle.taskset.proofs.Released.{all-zero, zero-each}
use Rattle.walk.proofs.last_tick.Goals as goal

-- What the code asks of the tasks is the definition's test.
asked : (f : ℕ → ℕ) (n : ℕ) (b : Bool) → (IsTrue b ↔ ((t : ℕ) → t < n → f t ≡ 0)) → b ≡ all_zero f n
asked f n b h =
    ⊎_elim
    (λ (e : b ≡ true). e ∙ sym (all-zero f n (h.0 e)))
    (λ (e : b ≡ false).
    ⊎_elim
    (λ (z : all_zero f n ≡ true). absurd (true≢false (sym (h.1 (zero-each f n z)) ∙ e)))
    (λ (z : all_zero f n ≡ false). e ∙ sym z)
    (bool_cases (all_zero f n)))
    (bool_cases b)

pub returns-then-not-are_all_zero : goal.returns-then-not-are_all_zero
returns-then-not-are_all_zero c =
    rw (← asked (λ t. (timing_at c.args.tasks.now t).first) _ _ c.are_all_zero.ensures, c.if-not-are_all_zero.true) refl

pub returns : goal.returns
returns c =
    rw (← asked (λ t. (timing_at c.args.tasks.now t).first) _ _ c.are_all_zero.ensures, c.if-not-are_all_zero.false) refl
