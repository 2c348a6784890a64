use Prim.Native.Nat.{◌≤◌}
use mathlib.Core.Path.{◌≡◌, refl, sym, ap, ◌∙◌}
use native.Mathlib.Omega.{arith}
use Rattle.std.proofs.lemmas.Result.{err_from_is_err_and}
use Rattle.layout.specs.Words.{most_rates, word, rate_count, task_count_place, kind_at}
use Rattle.layout.specs.declared.Kind.TheVariants.{Rate}
use Rattle.layout.proofs.Places.{kind_head, kind_rates, kind_rate, kind_tasks}
use Rattle.checks.specs.Steps.{GoodBefore}
use Rattle.checks.proofs.Fronts.{rates_by, tasks_by, good_more, bad_word}
use Rattle.checks.proofs.check_front.Goals as goal
use Rattle.checks.proofs.check_front.Goals.{After-head_kind, After-loop-q, In_ok-rates, After-loop-q-2, In-loop-q-2}

-- ---- the head
head_is : (c : After-head_kind) → kind_at c.args.layout c.args.s.now c.loop-q.q ≡ c.head_kind.result
head_is c = kind_head _ _ _ (omega (arith, c.head_size-head.ensures, c.loop-q-test.true)) ∙ sym c.head_kind.ensures

pub returns-in_err-word_at : goal.returns-in_err-word_at
returns-in_err-word_at c =
    let p = err_from_is_err_and c.from_residual.result c.from_residual.ensures.1 in
    rw (p.1, p.2)
    (bad_word c.args.layout c.args.s.now c.loop-q.invariant (head_is (goal.at.returns-in_err-word_at c).After-head_kind)
    (omega (arith, c.head_size-head.ensures, c.loop-q-test.true)) c.in_err-word_at.field-0.0 c.in_err-word_at.ensures)

pub loop-q-preserved : goal.loop-q-preserved
loop-q-preserved c =
    good_more c.args.layout c.args.s.now c.loop-q.invariant (head_is (goal.at.loop-q-preserved c).After-head_kind)
    c.in_ok-word_at.ensures refl

-- ---- the rate count
head_good : (c : After-loop-q) → GoodBefore c.args.layout c.args.s.now c.head_size-head.result
head_good c = let last : c.loop-q.q ≡ c.head_size-head.result = omega arith in rw last at c.loop-q.invariant

pub returns-in_err-rates : goal.returns-in_err-rates
returns-in_err-rates c =
    let p = err_from_is_err_and c.from_residual-in_err-rates.result c.from_residual-in_err-rates.ensures.1 in
    rw (p.1, p.2)
    (bad_word c.args.layout c.args.s.now (head_good (goal.at.returns-in_err-rates c).After-loop-q)
    (kind_rates _ _ _ c.head_size-head.ensures) (omega (arith, c.head_size-head.ensures)) c.in_err-rates.field-0.0
    c.in_err-rates.ensures)

counted : (c : In_ok-rates) → c.in_ok-rates.rates ≡ rate_count c.args.layout c.args.s.now
counted c = c.in_ok-rates.ensures.2 ∙ ap (word c.args.s.now) c.head_size-head.ensures

rates_in : (c : In_ok-rates) → (2 ≤ c.in_ok-rates.rates) × (c.in_ok-rates.rates ≤ most_rates)
rates_in c =
    let r = rates_by _ _ c.in_ok-rates.ensures.1 in
    (omega (arith, r.0, c.in_ok-rates.ensures.2), omega (arith, r.1, c.in_ok-rates.ensures.2))

pub task_count_place-c-requires : goal.task_count_place-c-requires
task_count_place-c-requires c = let r = rates_in (goal.at.task_count_place-c-requires c).In_ok-rates in omega (arith, r)

pub loop-q-2-init : goal.loop-q-2-init
loop-q-2-init c =
    good_more c.args.layout c.args.s.now (head_good (goal.at.loop-q-2-init c).After-loop-q)
    (kind_rates _ _ _ c.head_size-head.ensures) c.in_ok-rates.ensures refl

-- ---- the rates
rate_is : (c : In-loop-q-2) → kind_at c.args.layout c.args.s.now c.loop-q-2.q ≡ Rate
rate_is c =
    kind_rate _ _ _ (omega (arith, c.head_size-head.ensures))
    (omega (arith, c.head_size-head.ensures, c.task_count_place-c.ensures, counted (goal.at.In-loop-q-2 c).In_ok-rates))

pub returns-in_err-word_at-2 : goal.returns-in_err-word_at-2
returns-in_err-word_at-2 c = let h = goal.at.returns-in_err-word_at-2 c in
    let p = err_from_is_err_and c.from_residual-in_err-word_at-2.result c.from_residual-in_err-word_at-2.ensures.1 in
    rw (p.1, p.2)
    (bad_word c.args.layout c.args.s.now c.loop-q-2.invariant (rate_is h.In-loop-q-2)
    (omega (arith, c.head_size-head.ensures, c.task_count_place-c.ensures, counted h.In_ok-rates)) c.in_err-word_at-2.field-0.0
    c.in_err-word_at-2.ensures)

pub loop-q-2-preserved : goal.loop-q-2-preserved
loop-q-2-preserved c =
    good_more c.args.layout c.args.s.now c.loop-q-2.invariant (rate_is (goal.at.loop-q-2-preserved c).In-loop-q-2)
    c.in_ok-word_at-2.ensures refl

-- ---- the task count
place_is : (c : In_ok-rates) → task_count_place c.args.layout c.in_ok-rates.rates ≡ task_count_place c.args.layout (rate_count c.args.layout c.args.s.now)
place_is c = ap (task_count_place c.args.layout) (counted c)

tasks_good : (c : After-loop-q-2) → GoodBefore c.args.layout c.args.s.now c.task_count_place-c.result
tasks_good c = let r = rates_in (goal.at.After-loop-q-2 c).In_ok-rates in
    let last : c.loop-q-2.q ≡ c.task_count_place-c.result = omega (arith, r, c.task_count_place-c.ensures, c.head_size-head.ensures) in
    rw last at c.loop-q-2.invariant

pub returns-in_err-tasks : goal.returns-in_err-tasks
returns-in_err-tasks c = let h = goal.at.returns-in_err-tasks c in
    let p = err_from_is_err_and c.from_residual-in_err-tasks.result c.from_residual-in_err-tasks.ensures.1 in
    rw (p.1, p.2)
    (bad_word c.args.layout c.args.s.now (tasks_good h.After-loop-q-2)
    (kind_tasks _ _ _ (c.task_count_place-c.ensures ∙ place_is h.In_ok-rates))
    (omega (arith, c.task_count_place-c.ensures, place_is h.In_ok-rates)) c.in_err-tasks.field-0.0 c.in_err-tasks.ensures)

pub returns : goal.returns
returns c = let h = goal.at.returns c in
    let place = c.task_count_place-c.ensures ∙ place_is h.In_ok-rates in
    let r = tasks_by _ _ c.in_ok-tasks.ensures.1 in
    record {
      counted = counted h.In_ok-rates;
      numbered = c.in_ok-tasks.ensures.2 ∙ ap (word c.args.s.now) place;
      rates_range = rates_in h.In_ok-rates;
      tasks_range = (omega (arith, r.0, c.in_ok-tasks.ensures.2), omega (arith, r.1, c.in_ok-tasks.ensures.2));
      words =
          good_more c.args.layout c.args.s.now (tasks_good h.After-loop-q-2) (kind_tasks _ _ _ place) c.in_ok-tasks.ensures
          (omega (arith, c.task_count_place-c.ensures));
    }
