-- The call: the script that was read, all of the text, no energy over the largest, and room for its words; or the
-- refusal.
-- Assumes nothing.
use mathlib.Core.Path.{◌≡◌, sym, ap, ◌∙◌, subst}
use Prim.Native.Nat.{ℕ}
use mathlib.Core.List.{List}
use native.Mathlib.Omega.{arith}
use lib.ListN.{length, replicate, take}
use Rattle.std.specs.Prelude.{Some, None}
use Rattle.layout.specs.Words.{most_words}
use Rattle.lists.specs.Writing.{placed}
use Rattle.forms.specs.Forms.{said_of}
use Rattle.forms.specs.declared.Said.{Said}
use Rattle.forms.proofs.Gives.{Told, told}
use Rattle.text.specs.Reading.{got, read_script, read_at}
use Rattle.text.proofs.Copies.{NoneOver}
use Rattle.text.specs.Text.{ScriptOk, words}
use Rattle.scanner.proofs.Places.{lost}
use Rattle.reader.specs.Over.{Holds, OverTask}
use Rattle.reader.proofs.Answers as laws
use Rattle.reader.proofs.Overs as overs
use Rattle.reader.proofs.read.Goals as goal
use Rattle.reader.proofs.read.Goals.{After-at-i, After-over_task-over, In_default}

module _ (c : After-at-i) where
  script : Told said_of words read_script c.new-cursor.result c.read_set.new.text 0 (replicate most_words 0) c.read_set.new.out
      c.in-Ok.said
  script = told said_of words read_script c.in-Ok.ensures.gives

  is : read_at read_script c.args.text.now 0 ≡ got script.item c.at-i.result
  is = laws.reads_at_start read_script _ _ c.new-cursor.ensures c.at-i.ensures script.reads

  ok : ScriptOk script.item
  ok = laws.is_ok _ script.item _ is

  size : length (words script.item) ≡ c.in-Ok.said.words
  size = ap (λ (v : Said). v.words) script.shows

  front : take c.in-Ok.said.words c.read_set.new.out ≡ words script.item
  front = overs.front (words script.item) _ _ _ size script.wrote

  none : OverTask c.read_set.new.out c.in-Ok.said None → NoneOver script.item
  none f = overs.none_over script.item ok _ _ script.wrote
      (subst (λ (v : Said). OverTask c.read_set.new.out v None) (sym script.shows) f)

pub over_task-over-requires : goal.over_task-over-requires
over_task-over-requires c = let at = (goal.at.over_task-over-requires c).After-at-i in
    let s = script at in
    subst (λ (v : Said). Holds c.read_set.new.out v.rates v.tasks) s.shows (overs.holds s.item (ok at) _ _ s.wrote)

pub returns-then-is_left_over : goal.returns-then-is_left_over
returns-then-is_left_over c = let at = (goal.at.returns-then-is_left_over c).After-at-i in
    let s = script at in
    laws.trailing _ _ s.item c.at-i.result (is at) (omega (arith, laws.inside _ s.item _ (is at)))

pub returns-in-Some : goal.returns-in-Some
returns-in-Some c = let at = (goal.at.returns-in-Some c).After-at-i in
    let s = script at in
    let over : OverTask c.read_set.new.out (said_of s.item) (Some c.in-Some.k) =
    subst (λ (v : Said). OverTask c.read_set.new.out v (Some c.in-Some.k)) (sym s.shows) c.in-Some.ensures in
    laws.over _ _ s.item c.at-i.result (is at) c.in-Some.k c.if-is_left_over.false
    (overs.first-over s.item (ok at) _ _ s.wrote c.in-Some.k over)

pub returns-then-is_short : goal.returns-then-is_short
returns-then-is_short c = let at = (goal.at.returns-then-is_short c).After-at-i in
    laws.too_short _ _ (script at).item c.at-i.result (is at) _ c.if-is_left_over.false (none at c.in_default.ensures) (size at)
    c.if-is_short.true

pub slice_bounds-set-end : goal.slice_bounds-set-end
slice_bounds-set-end c = let at = (goal.at.slice_bounds-set-end c).After-at-i in
    overs.front_fits (words (script at).item) _ _ _ (size at) (script at).wrote

pub slice_bounds-put_words-end : goal.slice_bounds-put_words-end
slice_bounds-put_words-end c = let at = (goal.at.slice_bounds-put_words-end c).After-at-i in
    sym (ap length (front at) ∙ size at)

pub returns-else-is_short : goal.returns-else-is_short
returns-else-is_short c = let at = (goal.at.returns-else-is_short c).After-at-i in
    let a = c.args in
    laws.all-written a.text.now a.words.now (script at).item c.at-i.result (is at) c.put_words.result c.put_words.new.out
    c.if-is_left_over.false (none at c.in_default.ensures) (c.put_words.ensures.0 ∙ ap length (front at))
    (omega (arith, size at, c.if-is_short.false))
    (c.put_words.ensures.1 ∙ ap (λ (z : List ℕ). placed z a.words.now) (front at))

pub returns-in-Err : goal.returns-in-Err
returns-in-Err c = laws.not-read _ _ c.in-Err.departure.at
    (laws.departs_at_start read_script _ _ c.new-cursor.ensures (lost said_of read_script c.in-Err.ensures.gives.reads))
