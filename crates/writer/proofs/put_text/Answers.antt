-- The whole text, each form in the rest behind those before it.
-- Assumes nothing.
use mathlib.Core.Path.{◌≡◌, refl, ap, ◌∙◌}
use mathlib.Core.List.{List, ◌++◌}
use Prim.Native.Nat.{ℕ, ◌+◌, ◌-◌, ◌≤◌}
use native.Mathlib.Omega.{arith}
use lib.ListN.{length}
use borrow.Rule.Slice.PartMut.{put_mid}
use Rattle.numbers.specs.Numbers.{joined}
use Rattle.layout.specs.Words.{slack, idle}
use Rattle.text.specs.Text.{task_text, list_rates, shown, line_of, script_of, script_text}
use Rattle.printer.proofs.Puts.{front}
use Rattle.writer.specs.Lines.{slack_text, idle_line, rates_text}
use Rattle.writer.proofs.Rows.{InRow, row_none, row_room, row_more, row_all}
use Rattle.writer.proofs.Rests.{RestFits, RestTakes, rest_laws, first_took, rest_took, rest_room, rest_inside}
use Rattle.writer.proofs.Lists.{cut, tasks-count, line_is, counts_of}
use Rattle.writer.proofs.put_text.Goals as goal
use Rattle.writer.proofs.put_text.Goals.{After-from, After-put_slack-a, After-put_idle, After-put_rates, After-put_task-n}

-- All forms have room from the front on.
start : (w buf : List ℕ) {g h : ℕ} {fs : List ℕ} → g ≡ slack w → h ≡ idle w → fs ≡ list_rates w → length (script_text (script_of w)) ≤ length buf
    → RestFits (buf, 0) (slack_text g ++ (idle_line (shown h) ++ (rates_text fs ++ joined task_text (script_of w).tasks)))
start w buf x y z room = record { room = omega (arith, room, ap length (cut w x y z)) }

-- The slack's line has room; it is written, and those behind it have room.
slack_fits : (c : After-from) → RestFits (c.args.buf.now, 0) (slack_text c.from.result)
slack_fits c = rest_laws.front _ _ (start c.args.listed.now.set.words.now c.args.buf.now (c.from.ensures ∙ c.slack.ensures) refl refl c.requires)

module _ (c : After-put_slack-a) where
  slack_took : RestTakes (c.args.buf.now, 0) (slack_text c.from.result) (c.put_slack-a.new.rest, c.put_slack-a.result)
  slack_took = first_took (slack_fits (goal.at.After-put_slack-a c).After-from) c.put_slack-a.ensures

  slack_left : {h : ℕ} {fs : List ℕ} → h ≡ idle c.args.listed.now.set.words.now → fs ≡ list_rates c.args.listed.now.set.words.now
      → RestFits (c.put_slack-a.new.rest, c.put_slack-a.result)
      (idle_line (shown h) ++ (rates_text fs ++ joined task_text (script_of c.args.listed.now.set.words.now).tasks))
  slack_left y z =
      rest_laws.behind (start c.args.listed.now.set.words.now c.args.buf.now (c.from.ensures ∙ c.slack.ensures) y z c.requires) slack_took

pub put_slack-a-requires : goal.put_slack-a-requires
put_slack-a-requires c = omega (arith, (slack_fits (goal.at.put_slack-a-requires c).After-from).room)

pub slice_bounds-put_idle-count : goal.slice_bounds-put_idle-count
slice_bounds-put_idle-count c = rest_inside (slack_left (goal.at.slice_bounds-put_idle-count c).After-put_slack-a refl refl)

pub slice_bounds-put_idle-start : goal.slice_bounds-put_idle-start
slice_bounds-put_idle-start c = omega (arith, rest_inside (slack_left (goal.at.slice_bounds-put_idle-start c).After-put_slack-a refl refl))

pub put_idle-requires : goal.put_idle-requires
put_idle-requires c =
    rest_room (rest_laws.front _ _ (slack_left (goal.at.put_idle-requires c).After-put_slack-a (c.from-2.ensures ∙ c.idle.ensures) refl))

-- So is the idle line.
module _ (c : After-put_idle) where
  abbrev idle_after : List ℕ
  idle_after = put_mid c.put_slack-a.result (length c.put_slack-a.new.rest - c.put_slack-a.result) c.put_slack-a.new.rest c.put_idle.new.rest

  idle_took : RestTakes (c.put_slack-a.new.rest, c.put_slack-a.result) (idle_line (shown c.from-2.result))
      (idle_after, c.put_slack-a.result + c.put_idle.result)
  idle_took =
      rest_took (rest_laws.front _ _ (slack_left (goal.at.After-put_idle c).After-put_slack-a (c.from-2.ensures ∙ c.idle.ensures) refl))
      c.put_idle.ensures

  idle_left : {fs : List ℕ} → fs ≡ list_rates c.args.listed.now.set.words.now
      → RestFits (idle_after, c.put_slack-a.result + c.put_idle.result)
      (rates_text fs ++ joined task_text (script_of c.args.listed.now.set.words.now).tasks)
  idle_left z = rest_laws.behind (slack_left (goal.at.After-put_idle c).After-put_slack-a (c.from-2.ensures ∙ c.idle.ensures) z) idle_took

pub overflow_add-b : goal.overflow_add-b
overflow_add-b c = omega (arith, rest_inside (idle_left (goal.at.overflow_add-b c).After-put_idle refl))

pub slice_bounds-put_rates-count : goal.slice_bounds-put_rates-count
slice_bounds-put_rates-count c = rest_inside (idle_left (goal.at.slice_bounds-put_rates-count c).After-put_idle refl)

pub slice_bounds-put_rates-start : goal.slice_bounds-put_rates-start
slice_bounds-put_rates-start c = omega (arith, rest_inside (idle_left (goal.at.slice_bounds-put_rates-start c).After-put_idle refl))

pub put_rates-requires : goal.put_rates-requires
put_rates-requires c = rest_room (rest_laws.front _ _ (idle_left (goal.at.put_rates-requires c).After-put_idle c.rates.ensures))

-- And the rates' line; what is left are the tasks'.
module _ (c : After-put_rates) where
  abbrev rates_after : List ℕ
  rates_after =
      let before = idle_after (goal.at.After-put_rates c).After-put_idle in
      let at = c.put_slack-a.result + c.put_idle.result in
      put_mid at (length before - at) before c.put_rates.new.rest

  rates_took : RestTakes (idle_after (goal.at.After-put_rates c).After-put_idle, c.put_slack-a.result + c.put_idle.result)
      (rates_text c.rates.result.now) (rates_after, c.put_slack-a.result + c.put_idle.result + c.put_rates.result)
  rates_took = rest_took (rest_laws.front _ _ (idle_left (goal.at.After-put_rates c).After-put_idle c.rates.ensures)) c.put_rates.ensures

  tasks_left : RestFits (rates_after, c.put_slack-a.result + c.put_idle.result + c.put_rates.result)
      (joined task_text (script_of c.args.listed.now.set.words.now).tasks)
  tasks_left = rest_laws.behind (idle_left (goal.at.After-put_rates c).After-put_idle c.rates.ensures) rates_took

pub overflow_add-n : goal.overflow_add-n
overflow_add-n c = omega (arith, rest_inside (tasks_left (goal.at.overflow_add-n c).After-put_rates))

pub loop-t-init : goal.loop-t-init
loop-t-init c = row_none rest_laws task_text _ _ (tasks_left (goal.at.loop-t-init c).After-put_rates)

pub slice_bounds-put_task-count : goal.slice_bounds-put_task-count
slice_bounds-put_task-count c = rest_inside c.loop-t.invariant.left

pub slice_bounds-put_task-start : goal.slice_bounds-put_task-start
slice_bounds-put_task-start c = omega (arith, rest_inside c.loop-t.invariant.left)

pub put_task-n-requires-clause-fits : goal.put_task-n-requires-clause-fits
put_task-n-requires-clause-fits c =
    rest_room (rw (line_is (counts_of c.args.listed.now) c.loop-t.t (omega arith)) at
    (row_room rest_laws task_text (line_of c.args.listed.now.set.words.now c.loop-t.t) c.loop-t.invariant
    (omega (arith, tasks-count (counts_of c.args.listed.now)))))

-- A task's line more.
one_more : (c : After-put_task-n)
    → InRow RestFits RestTakes task_text
    (rates_after (goal.at.After-put_task-n c).After-put_rates, c.put_slack-a.result + c.put_idle.result + c.put_rates.result)
    (script_of c.args.listed.now.set.words.now).tasks (c.loop-t.t + 1)
    (put_mid c.loop-t.n (length c.loop-t.buf - c.loop-t.n) c.loop-t.buf c.put_task-n.new.rest, c.loop-t.n + c.put_task-n.result)
one_more c =
    let counts = counts_of c.args.listed.now in
    let line = line_of c.args.listed.now.set.words.now c.loop-t.t in
    let is = line_is counts c.loop-t.t (omega arith) in
    let room = rw is at (row_room rest_laws task_text line c.loop-t.invariant (omega (arith, tasks-count counts))) in
    row_more rest_laws task_text line c.loop-t.invariant (omega (arith, tasks-count counts)) (rw is (rest_took room c.put_task-n.ensures))

pub overflow_add-n-in-loop-t : goal.overflow_add-n-in-loop-t
overflow_add-n-in-loop-t c = omega (arith, rest_inside (one_more (goal.at.overflow_add-n-in-loop-t c).After-put_task-n).left)

pub loop-t-preserved : goal.loop-t-preserved
loop-t-preserved c = one_more (goal.at.loop-t-preserved c).After-put_task-n

pub returns : goal.returns
returns c =
    let tasks = row_all rest_laws task_text c.loop-t.invariant (omega (arith, tasks-count (counts_of c.args.listed.now))) in
    let at = goal.at.returns c in
    let forms = cut c.args.listed.now.set.words.now (c.from.ensures ∙ c.slack.ensures) (c.from-2.ensures ∙ c.idle.ensures) c.rates.ensures in
    rw forms (front refl (rest_laws.then (slack_took at.After-put_slack-a)
    (rest_laws.then (idle_took at.After-put_idle) (rest_laws.then (rates_took at.After-put_rates) tasks))).added)
