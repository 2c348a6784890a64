-- Checks 2 and 3, 10 after them, and 4 after either, as functions that compute, and that their verdicts are those that the
-- definitions give.
-- Assumes nothing.
use Rattle.std.specs.Prelude.{Ok, Err}
use Prim.Native.Nat.{ℕ, suc, ◌-◌, ◌*◌, ◌≤◌, ◌<◌}
use mathlib.Core.Path.{◌≡◌, refl, sym, ◌∙◌, subst}
use mathlib.Core.Bool.{Bool, cond, not, true≢false}
use mathlib.Core.List.{List}
use mathlib.Core.Logic.{inl, inr, ⊎_elim}
use native.Mathlib.Omega.{arith}
use borrow.Author.Tests.{lt-ltb, le-ltb, leb-true, le-leb, ltb-true, ltb-false, not-true, not-false}
use lib.Dec.{ltb, leb}
use lib.ListN.{length}
use Rattle.numbers.specs.Numbers.{running}
use Rattle.numbers.proofs.Tests.{lt_or_le, cond_true, cond_false}
use Rattle.numbers.proofs.Search.{first, first_from, first_holds, first-before}
use Rattle.layout.specs.Words.{word, idle, rate_count, task_count, rate_place, task_count_place, period_place, energy_place}
use Rattle.layout.specs.Words.{word_count, period, energy, kind_at, allows, WordFault}
use Rattle.layout.specs.declared.Layout.{Layout}
use Rattle.taskset.specs.Quantities.{hyper_limit, job_time, hyper_period}
use Rattle.taskset.specs.Refusals.{IsBadWord, RateFault, IsNotAbove, IsBelowIdle, PassesLimit, IsTooLong, number}
use Rattle.taskset.specs.Refusals.{second, Check, ◌▹◌, idle_check, hyper_check, word_checks, idle_checks}
use Rattle.taskset.specs.Calls.{CountsAfter, SetAfter}
use Rattle.taskset.specs.declared.Refusal.TheVariants.{BadWord, NotAbove, TooLong, BelowIdle}
use Rattle.taskset.proofs.Checks.{accepts_next, refuses_next, refuses_before}
use Rattle.taskset.specs.Sets.{Covered, Below}
use Rattle.taskset.proofs.Idle.{covered_passes, first_below}
use Rattle.taskset.specs.Answers.{Checked, Shape, ok_counts, ok_measured}

module _ (layout : Layout) (s : List ℕ) where
  unfoldable pub is_bad : ℕ → Bool
  is_bad q = not (allows s q (kind_at layout s q))

  unfoldable pub is_fall : ℕ → Bool
  is_fall q = leb (word s q) (word s (q - 1))

  unfoldable pub is_over : ℕ → Bool
  is_over t = ltb hyper_limit (running (period layout s) (suc t))

  unfoldable pub is_below : ℕ → ℕ → Bool
  is_below t r = ltb (energy layout s t r) (idle s * job_time layout s t r)

  -- The first bad or left-over word, the first rate that is not above the one before it, the first task whose period
  -- takes the running multiple past the limit; the end of the stretch where there is none.
  abbrev pub first_bad : ℕ
  first_bad = first is_bad 0 (length s)

  abbrev pub first_fall : ℕ
  first_fall = first is_fall (rate_place layout 2) (task_count_place layout (rate_count layout s))

  abbrev pub first_over : ℕ
  first_over = first is_over 0 (task_count layout s)

  unfoldable pub shape_of : Shape
  shape_of =
      cond (ltb first_bad (length s)) (Err (BadWord first_bad))
      (cond (ltb (length s) (word_count layout s)) (Err (BadWord (length s)))
      (cond (ltb first_fall (task_count_place layout (rate_count layout s))) (Err (NotAbove first_fall))
      (ok_counts (rate_count layout s) (task_count layout s))))

  -- The first rate number of the task at t whose energy is below H × job time, or the number behind the last; and the
  -- first task that has one.
  abbrev pub first_rate : ℕ → ℕ
  first_rate t = first (is_below t) 1 (suc (rate_count layout s))

  unfoldable pub has_below : ℕ → Bool
  has_below t = ltb (first_rate t) (suc (rate_count layout s))

  abbrev pub first_task : ℕ
  first_task = first has_below 0 (task_count layout s)

  unfoldable pub cover_of : Shape → Shape
  cover_of (Ok p) =
      cond (ltb first_task (task_count layout s)) (Err (BelowIdle (energy_place layout (rate_count layout s) first_task (first_rate first_task))))
      (Ok p)
  cover_of (Err r) = Err r

  unfoldable pub after_shape : Shape → Checked
  after_shape (Ok p) =
      cond (ltb first_over (task_count layout s)) (Err (TooLong (period_place layout (rate_count layout s) first_over)))
      (ok_measured p.rates p.tasks (hyper_period layout s))
  after_shape (Err r) = Err r

  unfoldable pub checked_of : Checked
  checked_of = after_shape shape_of

  unfoldable pub covered_of : Checked
  covered_of = after_shape (cover_of shape_of)

  -- ---- check 2
  -- No word before a place that the search has passed is bad.
  passed : (q : ℕ) → q < first_bad → q < length s → WordFault layout s q → ⊥
  unfolding is_bad
  passed q l h f =
      ⊎_elim
      (λ w. true≢false (sym (not-false _ (first-before is_bad 0 (length s) q (omega arith) l)) ∙ w.1))
      (λ w. absurd (omega arith))
      f

  bad_word : first_bad < length s → IsBadWord layout s first_bad
  unfolding is_bad
  bad_word h = record {
    here = inl (h, not-true _ (first_holds is_bad 0 (length s) h));
    before = λ j l f. passed j l (omega arith) f;
  }

  missing_word : length s ≤ first_bad → length s < word_count layout s → IsBadWord layout s (length s)
  missing_word a h = record { here = inr (refl, h); before = λ j l f. passed j (omega arith) l f }

  words_pass : length s ≤ first_bad → word_count layout s ≤ length s → (q : ℕ) → WordFault layout s q → ⊥
  words_pass a h q f = ⊎_elim (λ w. passed q (omega (arith, w.0)) w.0 f) (λ w. absurd (omega arith)) f

  -- ---- check 3
  rates-before : (q : ℕ) → q < first_fall → RateFault layout s q → ⊥
  unfolding is_fall
  rates-before q l f = true≢false (sym (le-leb _ _ f.2) ∙ first-before is_fall (rate_place layout 2) (task_count_place layout (rate_count layout s)) q f.0 l)

  not_above : first_fall < task_count_place layout (rate_count layout s) → IsNotAbove layout s first_fall
  unfolding is_fall
  not_above h = record {
    here = (
      first_from is_fall (rate_place layout 2) (task_count_place layout (rate_count layout s)),
      omega arith,
      leb-true _ _ (first_holds is_fall (rate_place layout 2) (task_count_place layout (rate_count layout s)) h),
    );
    before = rates-before;
  }

  rates_pass : task_count_place layout (rate_count layout s) ≤ first_fall → (q : ℕ) → RateFault layout s q → ⊥
  rates_pass h q f = rates-before q (omega (arith, f.1)) f

  -- ---- check 10
  rates_above : (t r : ℕ) → 1 ≤ r → r < first_rate t → Below layout s t r → ⊥
  unfolding is_below
  rates_above t r a l h = true≢false (sym (lt-ltb _ _ h) ∙ first-before (is_below t) 1 (suc (rate_count layout s)) r a l)

  tasks_above : (t : ℕ) → t < first_task → (r : ℕ) → 1 ≤ r → r ≤ rate_count layout s → Below layout s t r → ⊥
  unfolding has_below
  tasks_above t l r a b h =
      let passed : suc (rate_count layout s) ≤ first_rate t =
      ltb-false (first_rate t) (suc (rate_count layout s)) (first-before has_below 0 (task_count layout s) t (omega arith) l) in
      rates_above t r a (omega arith) h

  below_idle : first_task < task_count layout s
      → IsBelowIdle layout s (energy_place layout (rate_count layout s) first_task (first_rate first_task))
  unfolding is_below has_below
  below_idle h =
      let some = ltb-true _ _ (first_holds has_below 0 (task_count layout s) h) in
      first_below layout s first_task (first_rate first_task) h (first_from (is_below first_task) 1 (suc (rate_count layout s))) (omega arith)
      (ltb-true _ _ (first_holds (is_below first_task) 1 (suc (rate_count layout s)) some)) tasks_above (rates_above first_task)

  none_below : task_count layout s ≤ first_task → Covered layout s
  none_below h t r l a b =
      ⊎_elim
      (λ (x : energy layout s t r < idle s * job_time layout s t r). absurd (tasks_above t (omega arith) r a b x))
      (λ (x : idle s * job_time layout s t r ≤ energy layout s t r). x)
      (lt_or_le (energy layout s t r) (idle s * job_time layout s t r))

  -- ---- check 4
  limit_before : (t : ℕ) → t < first_over → PassesLimit layout s t → ⊥
  unfolding is_over
  limit_before t l f = true≢false (sym (lt-ltb _ _ f.1) ∙ first-before is_over 0 (task_count layout s) t (omega arith) l)

  too_long : first_over < task_count layout s → IsTooLong layout s (period_place layout (rate_count layout s) first_over)
  unfolding is_over
  too_long h = (first_over, record { here = (h, ltb-true _ _ (first_holds is_over 0 (task_count layout s) h)); before = limit_before }, refl)

  limit_pass : task_count layout s ≤ first_over → (t : ℕ) → PassesLimit layout s t → ⊥
  limit_pass h t f = limit_before t (omega (arith, f.0)) f

  -- ---- the verdicts
  pub shape_answers : CountsAfter (word_checks layout s) layout s shape_of
  unfolding shape_of
  shape_answers =
      ⊎_elim
      (λ (a : first_bad < length s). answer (cond_true _ _ _ (lt-ltb _ _ a)) (inl (refl, bad_word a)))
      (λ (a : length s ≤ first_bad).
      ⊎_elim
      (λ (b : length s < word_count layout s).
      answer (cond_false _ _ _ (le-ltb _ _ a) ∙ cond_true _ _ _ (lt-ltb _ _ b)) (inl (refl, missing_word a b)))
      (λ (b : word_count layout s ≤ length s).
      let so_far = cond_false _ _ _ (le-ltb _ _ a) ∙ cond_false _ _ _ (le-ltb _ _ b) in
      let pass : (q : ℕ) → IsBadWord layout s q → ⊥ = λ q h. words_pass a b q h.here in
      ⊎_elim
      (λ (c : first_fall < task_count_place layout (rate_count layout s)).
      answer (so_far ∙ cond_true _ _ _ (lt-ltb _ _ c)) (inr (pass, inl (refl, not_above c))))
      (λ (c : task_count_place layout (rate_count layout s) ≤ first_fall).
      answer (so_far ∙ cond_false _ _ _ (le-ltb _ _ c)) ((pass, ((λ q h. rates_pass c q h.here), tt)), refl, refl))
      (lt_or_le first_fall (task_count_place layout (rate_count layout s))))
      (lt_or_le (length s) (word_count layout s)))
      (lt_or_le first_bad (length s))
    where
      answer : {x : Shape} → shape_of ≡ x → CountsAfter (word_checks layout s) layout s x → CountsAfter (word_checks layout s) layout s shape_of
      answer {x} e h = subst (CountsAfter (word_checks layout s) layout s) (sym e) h

  -- 10 after 2 and 3.
  cover_shape : (x : Shape) → CountsAfter (word_checks layout s) layout s x
      → CountsAfter (idle_checks layout s) layout s (cover_of x)
  unfolding cover_of
  cover_shape (Ok p) h =
      ⊎_elim
      (λ (d : first_task < task_count layout s).
      answer (cond_true _ _ _ (lt-ltb _ _ d)) (refuses_next (word_checks layout s) (idle_check layout s) _ h.0 (below_idle d)))
      (λ (d : task_count layout s ≤ first_task).
      answer (cond_false _ _ _ (le-ltb _ _ d))
      (accepts_next (word_checks layout s) (idle_check layout s) h.0 (covered_passes layout s (none_below d)), h.1, h.2))
      (lt_or_le first_task (task_count layout s))
    where
      answer : {x : Shape} → cover_of (Ok p) ≡ x → CountsAfter (idle_checks layout s) layout s x
          → CountsAfter (idle_checks layout s) layout s (cover_of (Ok p))
      answer {x} e w = subst (CountsAfter (idle_checks layout s) layout s) (sym e) w
  cover_shape (Err r) h = refuses_before (word_checks layout s) (idle_check layout s) (number r) (second r) h

  -- 4 after any checks.
  after_shape_lem : (cs : List Check) (x : Shape) → CountsAfter cs layout s x
      → SetAfter (cs ▹ hyper_check layout s) layout s (after_shape x)
  unfolding after_shape
  after_shape_lem cs (Ok p) h =
      ⊎_elim
      (λ (d : first_over < task_count layout s).
      answer (cond_true _ _ _ (lt-ltb _ _ d)) (refuses_next cs (hyper_check layout s) _ h.0 (too_long d)))
      (λ (d : task_count layout s ≤ first_over).
      answer (cond_false _ _ _ (le-ltb _ _ d)) (accepts_next cs (hyper_check layout s) h.0 (λ q w. limit_pass d w.0 w.1.here), h.1, h.2, refl))
      (lt_or_le first_over (task_count layout s))
    where
      answer : {x : Checked} → after_shape (Ok p) ≡ x → SetAfter (cs ▹ hyper_check layout s) layout s x
          → SetAfter (cs ▹ hyper_check layout s) layout s (after_shape (Ok p))
      answer {x} e w = subst (SetAfter (cs ▹ hyper_check layout s) layout s) (sym e) w
  after_shape_lem cs (Err r) h = refuses_before cs (hyper_check layout s) (number r) (second r) h

  -- As the walk makes them, and as the planner does.
  pub checked_answers : SetAfter (word_checks layout s ▹ hyper_check layout s) layout s checked_of
  unfolding checked_of
  checked_answers = after_shape_lem (word_checks layout s) shape_of shape_answers

  pub covered_answers : SetAfter (idle_checks layout s ▹ hyper_check layout s) layout s covered_of
  unfolding covered_of
  covered_answers = after_shape_lem (idle_checks layout s) (cover_of shape_of) (cover_shape shape_of shape_answers)
