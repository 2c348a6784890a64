-- Check 7, then the choice over the arrays.
-- Assumes nothing.
use mathlib.Core.Path.{subst}
use Rattle.std.proofs.lemmas.Result.{err_from_is_err_and}
use Rattle.taskset.specs.Planning.{planning, layout_of}
use Rattle.options.specs.Posed.{Poses}
use Rattle.options.proofs.Filling.{both-none}
use Rattle.planner.specs.Answers.{PlannerCall}
use Rattle.planner.proofs.Calls.{Prepared, given, words_given, counted, none_fits, engine_asked, sum_fits, chosen_given}
use Rattle.planner.proofs.plan_checked.Goals as goal
use Rattle.planner.proofs.plan_checked.Goals.{Start, In_ok-q}

-- The checks before 7 have passed.
prepared : (c : Start) → Prepared c.args.engine c.args.set.now c.args.plan.now c.args.work.now c.args.measured
prepared c = record { after = c.requires }

-- What is asked, and for which arrays.
poses : (c : In_ok-q)
    → Poses (planning (layout_of c.args.engine) c.args.set.now) c.pose.new.loads c.pose.new.energies c.in_ok-q.q
poses c = rw c.layout_of-layout.ensures at c.in_ok-q.ensures.posed

pub pose-requires : goal.pose-requires
pose-requires c = let a = c.args in
    let start = prepared (goal.at.pose-requires c).Start in
    record {
      set_given = rw c.layout_of-layout.ensures (given start);
      counted = rw c.layout_of-layout.ensures (counted start);
      laid_both = both-none c.layout_of-layout.result a.set.now a.measured.rates;
    }

pub returns-in_err-q : goal.returns-in_err-q
returns-in_err-q c = let r = err_from_is_err_and c.from_residual.result c.from_residual.ensures.1 in
    let none = rw c.layout_of-layout.ensures at c.in_err-q.ensures.posed in
    rw (r.1, r.2, none.0) (none_fits (prepared (goal.at.returns-in_err-q c).Start) none.1)

pub choose-c-requires : goal.choose-c-requires
choose-c-requires c = let p = goal.at.choose-c-requires c in
    engine_asked (prepared p.Start) (poses p.In_ok-q)

pub planned-requires : goal.planned-requires
planned-requires c = let p = goal.at.planned-requires c in
    (words_given (prepared p.Start), sum_fits (prepared p.Start) (poses p.In_ok-q) c.choose-c.ensures)

pub returns : goal.returns
returns c = let p = goal.at.returns c in
    subst (PlannerCall _ _ _ _ _ _) c.planned.ensures
    (chosen_given (prepared p.Start) (poses p.In_ok-q) c.choose-c.ensures)
