-- States and draws: what comes of a seed after some steps is what comes of the state that it has then.
-- Assumes nothing.
use Prim.Native.Nat.{ℕ, zero, suc, ◌+◌, ◌*◌, ◌/◌}
use mathlib.Core.Path.{◌≡◌, refl, sym, ap, ◌∙◌}
use native.Mathlib.Nat.{add-zero, add-suc}
use Rattle.draws.specs.Generated.{next, state_after, draw, task_words}

-- The state before the first step is the seed.
pub state_none : (seed : ℕ) → state_after seed 0 ≡ seed
unfolding state_after
state_none seed = refl

-- A state after j steps and k more.
pub state_add : (seed j k : ℕ) → state_after seed (j + k) ≡ state_after (state_after seed j) k
unfolding state_after
state_add seed j zero = ap (state_after seed) (add-zero j)
state_add seed j (suc k) = ap (state_after seed) (add-suc j k) ∙ ap next (state_add seed j k)

draw-add : (seed j k : ℕ) → draw seed (j + k) ≡ draw (state_after seed j) k
unfolding draw
draw-add seed j k = ap (λ (n : ℕ). state_after seed n / 65536) (sym (add-suc j k)) ∙ ap (λ (x : ℕ). x / 65536) (state_add seed j (suc k))

-- The words of the task at t are those of the first one, from the state before its draws on.
pub task_from : (seed t : ℕ) → task_words seed t ≡ task_words (state_after seed (3 * t)) 0
task_from seed t =
    let first : draw seed (3 * t) ≡ draw (state_after seed (3 * t)) 0 = ap (draw seed) (sym (add-zero (3 * t))) ∙ draw-add seed (3 * t) 0 in
    rw (first, draw-add seed (3 * t) 1, draw-add seed (3 * t) 2)
