-- Check 2, word by word: what is known once the words before a place have been found good, and what the word there then
-- says.
-- Assumes nothing.
use Prim.Native.Nat.{ℕ, ◌+◌, ◌≤◌, ◌<◌}
use mathlib.Core.Path.{◌≡◌, refl, sym, ap, subst, ◌∙◌}
use mathlib.Core.Bool.{true, false, true≢false}
use mathlib.Core.List.{List, [], ◌∷◌}
use mathlib.Core.Logic.{◌⊎◌, inl, inr, ⊎_elim}
use native.Mathlib.Nat.{eq-or-lt_of_le, suc-mul, zero-mul}
use native.Mathlib.Numerals.{add-one}
use native.Mathlib.Omega.{arith}
use lib.ListN.{length}
use Rattle.std.specs.Prelude.{Ok, Err}
use Rattle.numbers.proofs.Tests.{lt_or_le, between_true}
use Rattle.layout.specs.Words.{most_rates, most_tasks, word, rate_count, period_place, task_size, word_count}
use Rattle.layout.specs.Words.{kind_at, task_kind, allows, OutOfRange}
use Rattle.layout.specs.declared.Kind.{Kind}
use Rattle.layout.specs.declared.Kind.TheVariants.{RateCount, TaskCount, LeftOver}
use Rattle.layout.specs.declared.Layout.{Layout}
use Rattle.layout.proofs.Places.{before-end, kind_past, kind_task}
use Rattle.taskset.specs.Refusals.{number, second, Refuses, Passes, word_check}
use Rattle.taskset.specs.declared.Refusal.{Refusal}
use Rattle.taskset.specs.declared.Refusal.TheVariants.{BadWord}
use Rattle.checks.specs.Steps.{WordAfter, GoodBefore, FrontPassed}

-- The ranges of the two counts.
pub rates_by : (s : List ℕ) (q : ℕ) → allows s q RateCount ≡ true → (2 ≤ word s q) × (word s q ≤ most_rates)
unfolding allows
rates_by s q h = between_true _ _ _ h

pub tasks_by : (s : List ℕ) (q : ℕ) → allows s q TaskCount ≡ true → (1 ≤ word s q) × (word s q ≤ most_tasks)
unfolding allows
tasks_by s q h = between_true _ _ _ h

pub good_none : (layout : Layout) (s : List ℕ) → GoodBefore layout s 0
good_none layout s = record { inside = omega arith; good = λ j l. absurd (omega arith) }

module _ (layout : Layout) (s : List ℕ) {q : ℕ} (g : GoodBefore layout s q) where
  -- The word at q is at fault: no word before it is.
  bad_here : ((q < length s) × OutOfRange layout s q) ⊎ ((q ≡ length s) × (length s < word_count layout s))
      → Refuses (word_check layout s ∷ []) (number (BadWord q)) (second (BadWord q))
  bad_here h = inl (
    refl,
    record {
      here = h;
      before = λ j l f. ⊎_elim (λ x. g.good j l x.1) (λ x. absurd (omega (arith, x.0, g.inside))) f;
    },
  )

  module _ {k : Kind} (is : kind_at layout s q ≡ k) where
    -- It is there and in its range.
    pub good_more : {w : ℕ} → WordAfter s q k (Ok w) → {r : ℕ} → r ≡ q + 1 → GoodBefore layout s r
    good_more h next = record {
      inside = omega (arith, h.0);
      good = λ j l bad.
          ⊎_elim
          (λ (e : j ≡ q). true≢false (sym h.1 ∙ ap (allows s q) (sym is) ∙ subst (OutOfRange layout s) e bad))
          (λ (m : j < q). g.good j m bad)
          (eq-or-lt_of_le (omega arith));
    }

    -- It is missing, or out of its range.
    pub bad_word : q < word_count layout s → (r : Refusal) → WordAfter s q k (Err r)
        → Refuses (word_check layout s ∷ []) (number r) (second r)
    bad_word wanted r h =
        rw h.0
        (bad_here
        (⊎_elim
        (λ (a : q < length s). inl (a, ap (allows s q) is ∙ h.1 a))
        (λ (a : length s ≤ q). inr (omega (arith, g.inside), omega (arith, wanted)))
        (lt_or_le q (length s))))

-- ---- behind the task count
module _ {layout : Layout} {m n : ℕ} {s : List ℕ} (f : FrontPassed layout m n s) where
  end_is : period_place layout m n ≡ word_count layout s
  end_is = ap (λ (x : ℕ). period_place layout x n) f.counted ∙ ap (period_place layout (rate_count layout s)) f.numbered

  -- Word k of the task at t.
  module _ {t k : ℕ} (i : t < n) (e : k < task_size layout m) where
    pub kind_here : kind_at layout s (period_place layout m t + k) ≡ task_kind layout k
    kind_here =
        let at = kind_task layout s t k (omega (arith, f.numbered)) (rw (← f.counted) e) in
        ap (λ (x : ℕ). kind_at layout s (period_place layout x t + k)) f.counted ∙ at

    pub wanted_here : period_place layout m t + k < word_count layout s
    wanted_here = omega (arith, end_is, before-end n (task_size layout m) t k i e)

  pub first_place_is : GoodBefore layout s (period_place layout m 0)
  first_place_is = subst (GoodBefore layout s) (omega (arith, zero-mul (task_size layout m))) f.words

  pub next_place_is : (t : ℕ) → GoodBefore layout s (period_place layout m t + task_size layout m)
      → GoodBefore layout s (period_place layout m (t + 1))
  next_place_is t g = subst (GoodBefore layout s) (rw (add-one t) (omega (arith, suc-mul t (task_size layout m)))) g

  module _ (g : GoodBefore layout s (period_place layout m n)) where
    not_left : (q : ℕ) → allows s q LeftOver ≡ false
    unfolding allows
    not_left q = refl

    -- Words are left over behind the last task.
    pub left_over : period_place layout m n < length s
        → Refuses (word_check layout s ∷ []) (number (BadWord (period_place layout m n))) (second (BadWord (period_place layout m n)))
    left_over h =
        let past = kind_past layout s (period_place layout m n) (omega (arith, f.counted)) (omega (arith, end_is)) in
        bad_here layout s g (inl (h, ap (allows s (period_place layout m n)) past ∙ not_left (period_place layout m n)))

    pub words_pass : length s ≤ period_place layout m n → Passes (word_check layout s)
    words_pass h q b =
        ⊎_elim (λ x. g.good q (omega (arith, x.0)) x.1) (λ x. absurd (omega (arith, x.1, g.inside, end_is))) b.here
