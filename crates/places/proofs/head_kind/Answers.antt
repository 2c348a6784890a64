use Prim.Native.Nat.{ℕ, zero, suc, ◌<◌}
use mathlib.Core.Path.{◌≡◌, refl, sym, ap, ◌∙◌}
use native.Mathlib.Omega.{arith}
use Rattle.layout.specs.Words.{head_kinds, head_size, kind_in, head_kind}
use Rattle.layout.specs.declared.Kind.TheVariants.{Idle}
use Rattle.layout.specs.declared.Layout.{Layout}
use Rattle.layout.specs.declared.Layout.TheVariants.{Ordinary}
use Rattle.layout.proofs.Layouts.{slack_kind}
use Rattle.places.proofs.head_kind.Goals as goal

behind : (layout : Layout) (q : ℕ) → q < head_size layout → 0 < q → Idle ≡ head_kind layout q
unfolding head_kinds kind_in head_kind
behind Ordinary zero h some = absurd (omega arith)
behind Ordinary (suc zero) h some = refl
behind Ordinary (suc (suc q)) h some = absurd (omega arith)

pub returns-in-0 : goal.returns-in-0
returns-in-0 c = sym (slack_kind c.args.layout) ∙ ap (head_kind c.args.layout) (sym c.in-0.is)

pub returns-in_default : goal.returns-in_default
returns-in_default c = behind c.args.layout c.args.q c.requires (omega arith)
