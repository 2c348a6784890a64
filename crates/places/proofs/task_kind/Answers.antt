use Prim.Native.Nat.{ℕ, ◌≤◌}
use mathlib.Core.Path.{◌≡◌, refl, sym, ap, ◌∙◌}
use native.Mathlib.Omega.{arith}
use borrow.Author.Tests.{ne_eqb, le-ltb}
use Rattle.layout.specs.Words.{extra_kinds, task_kind}
use Rattle.layout.specs.declared.Kind.TheVariants.{Energy}
use Rattle.layout.specs.declared.Layout.{Layout}
use Rattle.layout.specs.declared.Layout.TheVariants.{Ordinary}
use Rattle.layout.proofs.Layouts.{first_in_extra, first_kind}
use Rattle.layout.proofs.Places.{kind_extra}
use Rattle.places.proofs.task_kind.Goals as goal

later : (layout : Layout) (k : ℕ) → 3 ≤ k → Energy ≡ task_kind layout k
unfolding task_kind extra_kinds
later Ordinary k h = simp (ne_eqb k 0 (λ e. omega arith), ne_eqb k 1 (λ e. omega arith), le-ltb k 3 (omega arith))

pub returns-in-0 : goal.returns-in-0
unfolding task_kind
returns-in-0 c = rw c.in-0.is refl

pub returns-in-1 : goal.returns-in-1
unfolding task_kind
returns-in-1 c = rw c.in-1.is refl

pub returns-in-2 : goal.returns-in-2
returns-in-2 c = let layout = c.args.layout in
    sym (ap (task_kind layout) c.in-2.is ∙ kind_extra layout 0 (first_in_extra layout) ∙ first_kind layout)

pub returns-in_default : goal.returns-in_default
returns-in_default c = later c.args.layout c.args.k (omega arith)
