-- The ticks of one call, and how the loop over a stretch goes on from one call to the next.
-- Assumes nothing.
use Prim.Native.Nat.{ℕ, suc, pred, ◌+◌, ◌-◌, ◌≤◌, ◌<◌, min}
use mathlib.Core.Path.{◌≡◌, refl, sym, ap, subst, ◌∙◌}
use mathlib.Core.Bool.{Bool, true, false, cond}
use native.Mathlib.Omega.{arith}
use lib.Dec.{ltb}
use lib.ListN.{set, length-set}
use borrow.Author.Tests.{lt-ltb, le-ltb}
use Rattle.std.specs.Prelude.{Option, None, Some, unwrap_or, IfSome}
use Rattle.std.specs.Bool.{then_some}
use Rattle.std.specs.Int.{from_bool}
use Rattle.schedule.specs.Walk.{Task}
use Rattle.schedule.specs.Counted.{count}
use Rattle.schedule.specs.Stretch.{cuts, ticked, ticks}
use Rattle.schedule.proofs.Stretch.{same_going, ticks_join, more_left, ran_for, ticks_busy, idled_for, ticks-idle, Fits, ticks_fit}
use Rattle.ticks.specs.Arrays.{blank, picked, IsJob, cuts_short, going, Inside, Early, TickReady, Ticked}
use Rattle.ticks.specs.declared.Picked.{Picked}
use Rattle.ticks.specs.declared.State.{State}
use Rattle.ticks.proofs.Jobs.{picked_is, length_jobs, left_jobs, jobs_work}

-- ---- one call
-- With a bound of 1 it is one tick.
pub ticked_once : {n made : ℕ} {s r : State} → Ticked n 1 s made r → (k : ℕ → Task) → going k n r ≡ ticked (going k n s)
ticked_once {n} {made} {s} {r} w k =
    let e : made ≡ 1 = omega (arith, w.some, w.within) in
    w.goes k ∙ ap (λ (x : ℕ). ticks x (going k n s)) e

-- A job at b cuts the last one short, by the schedule's laws.
cut_is : (n b : ℕ) (last : Option ℕ) → b < n → IfSome last (λ at. at < n) → count (cuts_short b last) ≡ cuts n b (unwrap_or last n)
unfolding cuts
cut_is n b None h inside = rw (lt-ltb b n h, le-ltb n n (omega arith)) refl
cut_is n b (Some at) h inside = rw (lt-ltb b n h, lt-ltb at n inside) refl

-- What the code counts for it.
pub one_or_none : (b : Bool) → from_bool b ≡ count b
one_or_none true = refl
one_or_none false = refl

-- The job that ran is the last one, where it is unfinished.
last_is : (n b : ℕ) (more : Bool) → unwrap_or (then_some more b) n ≡ cond more b n
last_is n b true = refl
last_is n b false = refl

last-inside : (n b : ℕ) (more : Bool) → b < n → IfSome (then_some more b) (λ at. at < n)
last-inside n b true h = h
last-inside n b false h = tt

module _ {n room : ℕ} {s : State} (v : TickReady n room s) where
  -- All jobs are finished: the ticks up to the bound are idle.
  pub ticked-idle : n ≤ picked s.left s.due n → Ticked n room s room (record {
    left = s.left;
    due = s.due;
    busy = s.busy;
    idle = s.idle + room;
    preempted = s.preempted;
    last = None;
  })
  ticked-idle none = record {
    is = rw (le-ltb (picked s.left s.due n) n none) refl;
    some = v.some;
    within = omega arith;
    goes = λ k.
        let g = going k n s in
        let m = length_jobs k s.left s.due 0 n in
        let e : suc (pred room) ≡ room = omega (arith, v.some) in
        ap (λ (x : ℕ). record { jobs = g.jobs; busy = g.busy; idle = g.idle + room; preempted = g.preempted; last = x }) (sym m) ∙
        ap (λ (x : ℕ). idled_for x g) (sym e) ∙
        sym (ticks-idle g (pred room) (omega (arith, m, picked_is k s.left s.due n, none))) ∙
        ap (λ (x : ℕ). ticks x g) e;
    size = refl;
    due = refl;
    inside = tt;
  }

  -- The job runs, to its finish or to the bound.
  pub ticked_busy : (job : Picked) (ran cut : ℕ) → IsJob s.left s.due n job → ran ≡ min job.left room →
      cut ≡ count (cuts_short job.place s.last) → Ticked n room s ran (record {
        left = set s.left job.place (job.left - ran);
        due = s.due;
        busy = s.busy + ran;
        idle = s.idle;
        preempted = s.preempted + cut;
        last = then_some (ltb 0 (job.left - ran)) job.place;
      })
  ticked_busy job ran cut here most cut-is =
      let b = job.place in record {
        is = rw (← here.place, lt-ltb b n here.inside, ← here.left) most;
        some = omega (arith, v.some, here.some);
        within = omega arith;
        goes = λ k.
            let g = going k n s in
            let m = length_jobs k s.left s.due 0 n in
            let l = left_jobs k s.left s.due n b here.inside in
            let z : suc (pred ran) ≡ ran = omega (arith, v.some, here.some) in
            let cuts_is : cuts n b g.last ≡ cut = sym (cut_is n b s.last here.inside v.inside) ∙ sym cut-is in
            sym
            (ap (λ (x : ℕ). ticks x g) (sym z) ∙
            ticks_busy g b (pred ran) (picked_is k s.left s.due n ∙ sym here.place) (omega (arith, here.left, l, v.some, here.some)) ∙
            ap (λ (x : ℕ). ran_for x b g) z ∙
            same_going
            (rw here.left (sym (jobs_work k s.left s.due ran b n here.inside (omega (arith, v.early.lefts, v.early.few, here.inside)))))
            refl refl
            (rw (m, cuts_is) refl)
            (rw (m, l, ← here.left) (ap (λ (x : Bool). cond x b n) (sym (more_left ran job.left)) ∙ sym (last_is n b (ltb 0 (job.left - ran))))));
        size = length-set s.left b (job.left - ran);
        due = refl;
        inside = last-inside n b (ltb 0 (job.left - ran)) here.inside;
      }

-- ---- a stretch, call by call
-- At tick t of a stretch that began at `from`: what is left of the stretch is the whole stretch.
pub record InStretch (n from next t : ℕ) (s₀ s : State) : Type 0 where
  pub within : t ≤ next
  pub goes : (k : ℕ → Task) → ticks (next - t) (going k n s) ≡ ticks (next - from) (going k n s₀)
  pub early : Early n s.left s.due
  pub due : s.due ≡ s₀.due
  pub inside : Inside n s
  pub fits : Fits t (going blank n s)

pub stretch_start : {n t next : ℕ} {s : State} → t ≤ next → Early n s.left s.due → Inside n s → Fits t (going blank n s)
    → InStretch n t next t s s
stretch_start h early inside fits =
    record { within = h; goes = λ k. refl; early = early; due = refl; inside = inside; fits = fits }

module _ {n from next t : ℕ} {s₀ s : State} (v : InStretch n from next t s₀ s) where
  pub stretch_ready : t < next → next < 4294967295 → TickReady n (next - t) s
  stretch_ready h small = record {
    early = v.early;
    inside = v.inside;
    some = omega arith;
    busy_room = omega (arith, v.fits.busy);
    idle_room = omega (arith, v.fits.idle);
    preempted_room = omega (arith, v.fits.preempted);
  }

  pub stretch_on : {made : ℕ} {r : State} → t < next → Ticked n (next - t) s made r → InStretch n from next (t + made) s₀ r
  stretch_on {made} {r} h w = record {
    within = omega (arith, w.within);
    goes = λ k.
        let z : made + (next - (t + made)) ≡ next - t = omega (arith, w.within) in
        ap (ticks (next - (t + made))) (w.goes k) ∙ sym (ticks_join made (next - (t + made)) (going k n s)) ∙
        ap (λ (x : ℕ). ticks x (going k n s)) z ∙ v.goes k;
    early = record {
      few = v.early.few;
      lefts = w.size ∙ v.early.lefts;
      dues = rw w.due v.early.dues;
      low = rw w.due v.early.low;
    };
    due = w.due ∙ v.due;
    inside = w.inside;
    fits = subst (Fits (t + made)) (sym (w.goes blank)) (ticks_fit made t (going blank n s) v.fits);
  }

  -- The stretch is over.
  pub stretch_over : next ≤ t → (k : ℕ → Task) → going k n s ≡ ticks (next - from) (going k n s₀)
  stretch_over h k = let z : next - t ≡ 0 = omega arith in ap (λ (x : ℕ). ticks x (going k n s)) (sym z) ∙ v.goes k
