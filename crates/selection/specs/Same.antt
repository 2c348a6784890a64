-- Two problems that agree in every number that a plan can meet. Not part of what a reader must believe.
use Rattle.std.specs.Prelude.{ℕ, ◌≤◌, ◌<◌, ◌≡◌}
use Rattle.selection.specs.Plan.{Problem}

pub record Same (p q : Problem) : Type 0 where
  pub count : p.count ≡ q.count
  pub rates : p.rates ≡ q.rates
  pub limit : p.limit ≡ q.limit
  pub loads : (t r : ℕ) → t < p.count → 1 ≤ r → r ≤ p.rates → p.load t r ≡ q.load t r
  pub energies : (t r : ℕ) → t < p.count → 1 ≤ r → r ≤ p.rates → p.energy t r ≡ q.energy t r
