use mathlib.Core.Path.{◌≡◌, refl}
use mathlib.Core.Bool.{true}
use native.Mathlib.Omega.{arith}
use native.Mathlib.Nat.{mul-one}
use Prim.Native.Nat.{◌≤◌}
use lib.ListN.{drop, length-set}
use Rattle.text.specs.Reading.{starts}
use Rattle.scanner.proofs.Classes.{there, not_there, not_space}
use Rattle.forms.specs.Forms.{spaced_number}
use Rattle.forms.proofs.Gives.{refuses, handed}
use Rattle.forms.proofs.Lists.{alone, none_yet, one_more, refused, stopped, full, plainly}
use Rattle.lists.proofs.Stores.{stored-alone}
use Rattle.forms.proofs.numbers.Goals as goal
use Rattle.forms.proofs.numbers.Goals.{After-field, then-low-n+in-Space, else-low-n}

-- Behind those that must be there a space begins the next number.
starting : (c : After-field) → let x = c.loop-n.text in c.args.low ≤ c.loop-n.n → starts 32 (drop x.at x.text.now) ≡ true
starting c l =
    elim c.if-low-n.branch [
      | then-low-n+in-Space w ↦ there _ _ 32 32 w.in-Space.ensures.inside (omega (arith, w.in-Space.ensures))
      | else-low-n w ↦ absurd (omega (arith, w.if-low-n.false))
    ]

pub loop-n-init : goal.loop-n-init
loop-n-init c = none_yet spaced_number 32 _ _ alone 1 _ _ _

pub returns-in_default : goal.returns-in_default
returns-in_default c =
    let none = not_there _ _ 32 (not_space _ _ c.step.result c.step.ensures c.in_default.not-Space) in
    plainly (stopped c.loop-n.invariant c.if-low-n.true none)

pub returns-in_err-out : goal.returns-in_err-out
returns-in_err-out c = handed _ _ _ _ c.from_residual.ensures.1
    (refuses _ _ _ (refused c.loop-n.invariant (omega arith) (starting (goal.at.returns-in_err-out c).After-field) c.in_err-out.ensures.reads))

pub loop-n-preserved : goal.loop-n-preserved
loop-n-preserved c =
    one_more c.loop-n.invariant (omega arith) (starting (goal.at.loop-n-preserved c).After-field) _ _ c.in_ok-out.ensures.reads refl
    (omega arith) (length-set _ _ _) (rw mul-one (stored-alone (alone _) _ _ (omega arith)))

pub returns : goal.returns
returns c = plainly (full c.loop-n.invariant (omega arith))
