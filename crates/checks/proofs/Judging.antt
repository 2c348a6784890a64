-- From what the searches of the code find to what checks 2, 3, 10 and 4 answer.
-- Assumes nothing.
use Rattle.std.specs.Prelude.{Ok, Err}
use Prim.Native.Nat.{ℕ, ◌+◌, ◌*◌, ◌≤◌, ◌<◌}
use mathlib.Core.Path.{◌≡◌, sym, subst}
use mathlib.Core.List.{List, ◌++◌}
use mathlib.Core.Logic.{⊎_elim}
use native.Mathlib.Nat.{eq-or-lt_of_le}
use native.Mathlib.Omega.{arith}
use Rattle.numbers.proofs.Tests.{lt_or_le}
use Rattle.layout.specs.Words.{most_rates, most_tasks, idle, rate_count}
use Rattle.layout.specs.Words.{energy_place, energy}
use Rattle.taskset.specs.Refusals.{number, second, IsBelowIdle, Check, Passes, Accepts}
use Rattle.taskset.specs.Refusals.{word_checks, idle_check}
use Rattle.taskset.specs.Calls.{CountsAfter, SetAfter}
use Rattle.numbers.specs.Search.{Found}
use Rattle.taskset.specs.Quantities.{job_time}
use Rattle.checks.specs.Steps.{OfCounts}
use Rattle.taskset.proofs.Checks.{no_word_fault, accepts_join, refuses_back}
use Rattle.taskset.specs.Sets.{Below}
use Rattle.taskset.proofs.Idle.{covered_passes, first_below}
use Rattle.layout.proofs.Whole.{whole_of}
use Rattle.layout.specs.declared.Layout.{Layout}
use Rattle.taskset.specs.Answers.{Checked, ok_counts}

-- ---- check 10
-- No task before t has an energy, at one of m rates, that is too low.
abbrev pub NoneBelow : Layout → List ℕ → ℕ → ℕ → Type 0
NoneBelow layout s m t = (u : ℕ) → u < t → (r : ℕ) → 1 ≤ r → r ≤ m → Below layout s u r → ⊥

pub none_below_more : (layout : Layout) (s : List ℕ) {m t : ℕ} → NoneBelow layout s m t
    → Found (Below layout s t) 1 (m + 1) (m + 1) → NoneBelow layout s m (t + 1)
none_below_more layout s {m} {t} tasks rates u e r a b x =
    ⊎_elim
    (λ (z : u ≡ t). rates.none r a (omega arith) (subst (λ (v : ℕ). Below layout s v r) z x))
    (λ (z : u < t). tasks u z r a b x)
    (eq-or-lt_of_le (omega arith))

module _ {layout : Layout} {s : List ℕ} {m n : ℕ} (o : OfCounts layout m n s) where
  -- The first such rate number, r, of the first task that has one, t.
  module _ {t r : ℕ} (tasks : NoneBelow layout s m t) (rates : Found (Below layout s t) 1 (m + 1) r) (l : r < m + 1) (h : t < n) where
    pub below_places : (m ≤ most_rates) × (t ≤ most_tasks) × (r ≤ most_rates)
    below_places = (
      omega (arith, o.counted, o.whole.rates_range.1),
      omega (arith, o.numbered, o.whole.tasks_range.1),
      omega (arith, o.counted, o.whole.rates_range.1),
    )

    pub below_idle : IsBelowIdle layout s (energy_place layout m t r)
    below_idle =
        let first : IsBelowIdle layout s (energy_place layout (rate_count layout s) t r) =
        first_below layout s t r (omega (arith, o.numbered)) rates.from (omega (arith, o.counted)) (rates.hit l)
        (λ u e q a b x. tasks u e q a (omega (arith, o.counted)) x)
        (λ q a e x. rates.none q a e x) in
        subst (λ (x : ℕ). IsBelowIdle layout s (energy_place layout x t r)) (sym o.counted) first

  pub none_below : {t : ℕ} → NoneBelow layout s m t → n ≤ t → Passes (idle_check layout s)
  none_below {t} tasks h =
      covered_passes layout s (λ u r l a b.
      ⊎_elim
      (λ (x : Below layout s u r). absurd (tasks u (omega (arith, o.numbered)) r a (omega (arith, o.counted)) x))
      (λ (x : idle s * job_time layout s u r ≤ energy layout s u r). x)
      (lt_or_le (energy layout s u r) (idle s * job_time layout s u r)))

-- ---- in their order
module _ (layout : Layout) (s : List ℕ) where
  -- What the checks of the tasks ask, from those before.
  pub of_counts : {m n : ℕ} → CountsAfter (word_checks layout s) layout s (ok_counts m n) → OfCounts layout m n s
  of_counts h = record { whole = whole_of layout s (no_word_fault layout s h.0.0); counted = h.1; numbered = h.2 }

  -- The checks ds after others.
  pub after : (cs ds : List Check) → Accepts cs → (a : Checked) → SetAfter ds layout s a → SetAfter (cs ++ ds) layout s a
  after cs ds pass (Ok p) h = (accepts_join cs ds pass h.0, h.1, h.2, h.3)
  after cs ds pass (Err r) h = refuses_back cs ds (number r) (second r) pass h
